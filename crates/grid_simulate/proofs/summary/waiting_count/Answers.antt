use Rattle.std.proofs.Common.{length, ap, ◌∙◌}
use Rattle.hub_core.specs.HubView.{past}
use Rattle.grid_simulate.proofs.ViewLemmas.{view_waiting}
use Rattle.grid_simulate.proofs.summary.waiting_count.Goals as goal

pub returns : goal.returns
returns c =
    let h = c.args.hub.now in
    c.length_of.ensures ∙ ap (λ l. length l) c.items-waiting.ensures ∙ view_waiting h.config (past h) (past h) 0 c.in_ok-view.view (c.in_ok-view.ensures 0).serves.answers
