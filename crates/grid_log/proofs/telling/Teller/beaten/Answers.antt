use Rattle.std.proofs.Common.{sym, ◌∙◌}
use Rattle.std.specs.Prelude.{codes, option_copied}
use Rattle.std.proofs.lemmas.Result.{IfOk-weaker}
use Rattle.grid_types.specs.Lists.{has}
use Rattle.grid_log.specs.declared.telling.TheConstants.{BACK}
use Rattle.grid_log.specs.Events.{back_event, beaten_events}
use Rattle.grid_log.specs.Past.{name_in}
use Rattle.grid_log.specs.Recalls.{recalled}
use Rattle.grid_log.proofs.LineLemmas.{node_told, told_where}
use Rattle.grid_log.proofs.telling.Teller.beaten.Goals as goal

pub returns-then-is_suspect : goal.returns-then-is_suspect
returns-then-is_suspect c =
    let past = c.args.past.now in
    let back = back_event c.args.node (name_in past.nodes.items c.args.node) c.args.at.0 in
    IfOk-weaker c.of_node.result _ _ (λ bytes h.
    node_told c.args.self.now.form (codes "node back") BACK.now c.args.node c.args.at.0 (option_copied c.name_of.result) (name_in past.nodes.items c.args.node)
    (beaten_events (recalled past) c.args.node c.args.at.0) bytes.items h c.name_of.ensures
    (told_where (has c.args.node past.suspects.items) back (sym c.is_suspect.ensures ∙ c.if-is_suspect.true)))
    c.of_node.ensures
