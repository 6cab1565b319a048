use Rattle.conn_script.proofs.SpentLemmas as spent
use Rattle.conn_script.proofs.laws.scripts_find_spent_last.Goals as goal

pub returns : goal.returns
returns c = record {
  begun = spent.begun;
  begun_lacks = spent.begun_lacks;
  script = spent.in_script c.starts_spend_all.ensures;
  leaves = spent.in_left c.starts_spend_all.ensures;
  lacks = spent.in_lacks c.starts_spend_all.ensures;
  undone = spent.behind_script;
  behind = spent.behind;
}
