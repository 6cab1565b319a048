use Rattle.std.proofs.Common.{◌≡◌, [], ◌∷◌, ◌++◌, List, ap, sym, subst, ◌∙◌}
use Rattle.turn_cell.specs.declared.views.Ended.{Ended}
use Rattle.turn_cell.specs.Steps.{ended_of}
use Rattle.hub_cell.specs.Passes.{knows}
use Rattle.hub_clients.specs.Beats.{EachHas}
use Rattle.hub_clients.proofs.BeatLemmas.{each_has_more}
use Rattle.hub_clients.proofs.many.rejoin.Goals as goal

pub returns-clause-own : goal.returns-clause-own
returns-clause-own c =
    let was : List Ended = (knows c.args.pass.now).ended in
    let is : (knows c.join.new.pass).ended ≡ was ++ ended_of (knows c.args.other) ∷ [] = ap (λ v. v.ended) c.join.ensures.view ∙ ap (λ (z : List Ended). was ++ ended_of (knows c.args.other) ∷ z) c.requires.other.2 in
    (c.join.ensures.own, subst (EachHas c.args.count) (sym is) (each_has_more c.args.count was (ended_of (knows c.args.other)) c.requires.own.1 c.requires.other.1))
