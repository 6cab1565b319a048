use Rattle.std.proofs.Common.{◌∙◌, min, sym}
use Rattle.std.specs.List.{reduce}
use Rattle.node_registry.specs.Table.{is_heard, heard_of}
use Rattle.node_registry.proofs.QuietLemmas.{since-kept, since-found, since-none}
use Rattle.node_registry.proofs.node_table.NodeTable.next_heard_since.Goals as goal

pub returns-then-is_heard : goal.returns-then-is_heard
returns-then-is_heard c = since-kept (is_heard c.args.self.now c.args.at.0 c.args.silent_ms) c.args.self.now.heard_since.0 (reduce min (heard_of c.args.self.now)) c.args.at.0 (sym c.is_heard.ensures.exact ∙ c.if-is_heard.true)

pub returns-in-Some : goal.returns-in-Some
returns-in-Some c = since-found (is_heard c.args.self.now c.args.at.0 c.args.silent_ms) c.args.self.now.heard_since.0 (reduce min (heard_of c.args.self.now)) c.args.at.0 c.in-Some.earliest (sym c.is_heard.ensures.exact ∙ c.if-is_heard.false) c.in-Some.ensures

pub returns-in-None : goal.returns-in-None
returns-in-None c = since-none (is_heard c.args.self.now c.args.at.0 c.args.silent_ms) c.args.self.now.heard_since.0 (reduce min (heard_of c.args.self.now)) c.args.at.0 (sym c.is_heard.ensures.exact ∙ c.if-is_heard.false) c.in-None.ensures
