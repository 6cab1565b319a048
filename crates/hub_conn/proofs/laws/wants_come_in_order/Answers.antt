use Rattle.hub_conn.proofs.WantLemmas as want
use Rattle.hub_conn.proofs.laws.wants_come_in_order.Goals as goal

pub returns : goal.returns
returns c = record {
  pauses = want.pauses c.scripts_pause_behind_early_calls.ensures;
  enqueues = want.enqueues;
  reads = want.reads;
}
