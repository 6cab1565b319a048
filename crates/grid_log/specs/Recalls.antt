-- What a log remembers.
use Rattle.grid_log.specs.declared.recall.Recall.{Recall}
use Rattle.grid_log.specs.Past.{Past}

abbrev pub recalled : Recall → Past
recalled recall = record {
  nodes = recall.nodes.items;
  suspects = recall.suspects.items;
  unsettled = recall.unsettled.items;
  sessions = recall.sessions.items;
  cleared = recall.cleared;
}
