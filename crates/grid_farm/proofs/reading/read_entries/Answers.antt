use Rattle.grid_farm.proofs.ReadLemmas.{read_none}
use Rattle.grid_farm.proofs.reading.read_entries.Goals as goal

pub returns-in-Ok : goal.returns-in-Ok
returns-in-Ok g c = λ old b. c.in-Ok.ensures old (read_none old _ _ b c.new.ensures)

pub returns-in-Err : goal.returns-in-Err
returns-in-Err g c = λ old b. c.in-Err.ensures old (read_none old _ _ b c.new.ensures)
