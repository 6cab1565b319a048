use Rattle.std.proofs.Common.{List, ℕ, ap, ◌∙◌}
use Rattle.loop_node.specs.Sessions.{new_node}
use Rattle.grid_simulate.proofs.CrewLemmas.{enrolled}
use Rattle.grid_simulate.proofs.DrawLemmas.{on_ok_more}
use Rattle.grid_simulate.proofs.crew.enroll.Goals as goal

pub returns-clause-joins : goal.returns-clause-joins
returns-clause-joins c =
    let node = c.new-node.ensures ∙ ap (λ (b : List ℕ). new_node c.args.i b c.in_ok-version.version c.args.slots c.args.refuses) c.in_ok-text.ensures
    ∙ ap (λ (v : List ℕ). new_node c.args.i c.args.browser.now v c.args.slots c.args.refuses) c.in_ok-version.ensures in
    on_ok_more c.add.result
    (λ e number. enrolled number c.args.i c.args.slots c.args.refuses c.args.browser.now c.args.hub.now c.register.new.hub c.args.nodes.now c.add.new.nodes c.in_ok-registration.registration c.new-node.result
    c.in_ok-registration.ensures.is node c.in_ok-register.ensures.goes_on e)
    c.add.ensures
