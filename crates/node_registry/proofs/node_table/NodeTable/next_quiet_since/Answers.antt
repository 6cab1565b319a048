use Rattle.std.proofs.Common.{◌∙◌, min, sym}
use Rattle.std.specs.List.{reduce}
use Rattle.node_registry.specs.Table.{is_quiet, signs_of}
use Rattle.node_registry.proofs.QuietLemmas.{since-kept, since-found, since-none}
use Rattle.node_registry.proofs.node_table.NodeTable.next_quiet_since.Goals as goal

pub returns-then-is_quiet : goal.returns-then-is_quiet
returns-then-is_quiet c = since-kept (is_quiet c.args.self.now c.args.at.0 c.args.silent_ms) c.args.self.now.quiet_since.0 (reduce min (signs_of c.args.self.now)) c.args.at.0 (sym c.is_quiet.ensures.exact ∙ c.if-is_quiet.true)

pub returns-in-Some : goal.returns-in-Some
returns-in-Some c = since-found (is_quiet c.args.self.now c.args.at.0 c.args.silent_ms) c.args.self.now.quiet_since.0 (reduce min (signs_of c.args.self.now)) c.args.at.0 c.in-Some.earliest (sym c.is_quiet.ensures.exact ∙ c.if-is_quiet.false) c.in-Some.ensures

pub returns-in-None : goal.returns-in-None
returns-in-None c = since-none (is_quiet c.args.self.now c.args.at.0 c.args.silent_ms) c.args.self.now.quiet_since.0 (reduce min (signs_of c.args.self.now)) c.args.at.0 (sym c.is_quiet.ensures.exact ∙ c.if-is_quiet.false) c.in-None.ensures
