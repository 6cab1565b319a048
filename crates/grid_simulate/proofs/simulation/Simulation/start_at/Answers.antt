use Rattle.std.proofs.Common.{List, ◌++◌, sym, ap, subst, ◌∙◌}
use Rattle.std.specs.Prelude.{option_to_list}
use Rattle.std.specs.List.{slice_get}
use Rattle.grid_simulate.specs.declared.simulation.Kept.{Kept}
use Rattle.grid_simulate.specs.World.{world_of}
use Rattle.grid_simulate.specs.Actions.{StartsAt}
use Rattle.grid_simulate.proofs.simulation.Simulation.start_at.Goals as goal

pub returns-clause-acts : goal.returns-clause-acts
returns-clause-acts c =
    let s = c.args.self.now in
    let o = slice_get s.reservations.items c.args.place in
    let kept = c.keep.ensures ∙ ap (λ v. v.items ++ option_to_list c.carry-bound.result.0) c.carry-bound.ensures.sessions in
    subst (λ (l : List Kept). StartsAt (world_of s) c.args.place o (record (world_of c.carry-bound.new.self) { sessions = l })) (sym kept)
    (subst (λ (l : List Kept). StartsAt (record (world_of s) { sessions = l }) c.args.place o (record (world_of c.carry-bound.new.self) { sessions = c.reserve.new.self.items ++ option_to_list c.carry-bound.result.0 })) c.reserve.ensures.items
    (c.carry-bound.ensures.starts c.if-short.false))
