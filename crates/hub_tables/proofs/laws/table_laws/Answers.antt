use Rattle.hub_tables.proofs.laws.table_laws.Goals as goal

pub returns : goal.returns
returns c = record {
  nodes_keep = c.other_changes_keep.ensures;
  slots_keep = c.other_changes_keep-2.ensures;
  requests_keep = c.other_changes_keep-3.ensures;
  sessions_keep = c.other_changes_keep-4.ensures;
  below_stays = c.nothing_stays.ensures.below;
}
