use Rattle.conn_script.proofs.WantLemmas.{undo_asks}
use Rattle.conn_script.proofs.undoing.Undoing.wanted.Goals as goal

pub returns-in_default : goal.returns-in_default
returns-in_default c = undo_asks c.args.self.now c.requires c.in_default.not-Waiting c.in_default.not-Quit
