use Rattle.std.proofs.Common.{◌≡◌, [], ◌∷◌, ◌++◌, List, ap, sym, subst, ◌∙◌}
use Rattle.turn_cell.specs.declared.views.Ended.{Ended}
use Rattle.turn_cell.specs.Cells.{view_of}
use Rattle.turn_cell.specs.Steps.{ended_of}
use Rattle.trial_threads.specs.Crew.{EachHas}
use Rattle.trial_threads.proofs.CountLemmas.{each_has_more}
use Rattle.trial_threads.proofs.crew.rejoin.Goals as goal

pub returns-clause-own : goal.returns-clause-own
returns-clause-own c =
    let was : List Ended = (view_of c.args.pass.now).ended in
    let is : (view_of c.join.new.pass).ended ≡ was ++ ended_of (view_of c.args.other) ∷ [] = ap (λ v. v.ended) c.join.ensures.view ∙ ap (λ (z : List Ended). was ++ ended_of (view_of c.args.other) ∷ z) c.requires.other.3 in
    (c.join.ensures.own.0, c.join.ensures.own.1, subst (EachHas c.args.count) (sym is) (each_has_more c.args.count was (ended_of (view_of c.args.other)) c.requires.own.2 c.requires.other.2), c.join.ensures.longer.2)
