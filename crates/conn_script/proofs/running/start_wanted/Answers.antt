use Rattle.conn_script.proofs.WantLemmas.{goes_fresh, start_asks}
use Rattle.conn_script.proofs.running.start_wanted.Goals as goal

pub next-requires : goal.next-requires
next-requires c = goes_fresh c.args.carry.now c.requires

pub returns-in_default : goal.returns-in_default
returns-in_default c = start_asks c.args.carry.now c.next.result (goes_fresh c.args.carry.now c.requires) c.next.ensures c.in_default.not-Done c.in_default.not-Node
