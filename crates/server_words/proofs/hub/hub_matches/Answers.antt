use Rattle.std.specs.Prelude.{map}
use Rattle.server_words.proofs.FoundLemmas.{numbers_by, refused_by, rows_by, taken_by}
use Rattle.server_words.proofs.hub.hub_matches.Goals as goal

pub returns-in-Ok-clause-taken : goal.returns-in-Ok-clause-taken
returns-in-Ok-clause-taken c =
    taken_by c.found.result (map (λ s. s.now) c.args.words.now) c.in-Ok.ensures.app c.found.ensures.taken

pub returns-in-Ok-clause-rows : goal.returns-in-Ok-clause-rows
returns-in-Ok-clause-rows c =
    rows_by c.found.result (map (λ s. s.now) c.args.words.now) c.in-Ok.ensures.app c.found.ensures.rows

pub returns-in-Ok-clause-numbers : goal.returns-in-Ok-clause-numbers
returns-in-Ok-clause-numbers c = numbers_by c.found.result c.in-Ok.ensures.app c.found.ensures.numbers

pub returns-in-Ok-clause-refused : goal.returns-in-Ok-clause-refused
returns-in-Ok-clause-refused c =
    refused_by c.found.result (map (λ s. s.now) c.args.words.now) c.in-Ok.ensures.app c.found.ensures.refused
