use Rattle.node_registry.proofs.QuietLemmas.{quiet-noted}
use Rattle.node_registry.proofs.node_table.NodeTable.note_quiet.Goals as goal

pub returns-clause-kept : goal.returns-clause-kept
returns-clause-kept c =
    let proved = c.history_laws.ensures in
    record {
      still = λ H s. record {
        kept = s.kept;
        unregistered = s.unregistered;
        listed = s.listed;
        rows = s.rows;
        order = s.order;
        turns = s.turns;
        never = s.never;
        newest = s.newest;
        nodes_differ = s.nodes_differ;
        quiet = quiet-noted proved c.args.self.now _ _ _ c.args.at.0 c.args.lapse_ms c.args.down_ms s.quiet c.next_quiet_since-quiet_since.ensures c.next_heard_since-heard_since.ensures c.still_drains-some_drain.ensures;
      };
    }

pub returns-clause-noted : goal.returns-clause-noted
returns-clause-noted c = record { signs = c.next_quiet_since-quiet_since.ensures; heard = c.next_heard_since-heard_since.ensures; drains = c.still_drains-some_drain.ensures }
