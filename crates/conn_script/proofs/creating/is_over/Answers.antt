use Rattle.node_client.specs.Places.{wanted_at}
use Rattle.conn_script.proofs.OverLemmas.{open_want}
use Rattle.conn_script.proofs.StartLemmas.{start_over, nothing_left, start_open}
use Rattle.conn_script.proofs.creating.is_over.Goals as goal

pub returns-in-Done-clause-over : goal.returns-in-Done-clause-over
returns-in-Done-clause-over c = start_over c.args.carry.now c.next.result c.in-Done.field-0 c.next.ensures c.in-Done.is

pub returns-in-Done-clause-left : goal.returns-in-Done-clause-left
returns-in-Done-clause-left c = nothing_left c.args.carry.now c.next.result c.in-Done.field-0 c.next.ensures c.in-Done.is

pub returns-in_default-clause-over : goal.returns-in_default-clause-over
returns-in_default-clause-over c = λ r place so_far st.
    open_want c.next.result (wanted_at r place) (c.next.ensures.tells r place so_far st).shows c.in_default.not-Done

pub returns-in_default-clause-left : goal.returns-in_default-clause-left
returns-in_default-clause-left c = start_open c.args.carry.now c.next.result c.next.ensures.readies c.in_default.not-Done
