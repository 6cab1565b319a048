use Rattle.std.proofs.Common.{arith}
use Rattle.conn_script.proofs.RelayLemmas.{find_else}
use Rattle.conn_script.proofs.WorkLemmas.{none_below}
use Rattle.conn_script.proofs.relaying.node_found.Goals as goal

pub returns-in_default-clause-turns : goal.returns-in_default-clause-turns
returns-in_default-clause-turns c = find_else c.args.session c.args.target c.args.answer c.unanswered.result c.args.close c.requires c.in_default.not-Lookup c.unanswered.ensures.turn

pub returns-in-Lookup-clause-turns : goal.returns-in-Lookup-clause-turns
returns-in-Lookup-clause-turns c = rw c.in-Lookup.is c.found_told.ensures.turns

pub returns-in_default-clause-less : goal.returns-in_default-clause-less
returns-in_default-clause-less c = none_below c.unanswered.result 3 c.unanswered.ensures.over (omega arith)
