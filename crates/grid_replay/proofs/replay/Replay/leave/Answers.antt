use Rattle.std.proofs.Common.{ℕ, List, sym, subst}
use Rattle.std.specs.Prelude.{Option}
use Rattle.grid_replay.specs.Lasts.{LeavesOver}
use Rattle.grid_replay.proofs.ReplayLemmas.{on-ok, stays-behind}
use Rattle.grid_replay.proofs.replay.Replay.leave.Goals as goal

pub returns-in-Some-clause-leaves : goal.returns-in-Some-clause-leaves
returns-in-Some-clause-leaves c = on-ok c.stay.result
    (λ added. subst (λ (orphan : Option (List ℕ)). LeavesOver c.args.self.now.stays.items c.stay.new.self.stays.items c.args.slot orphan) (sym c.in-Some.is) (stays-behind _ _ c.args.slot _ added)) c.stay.ensures.stays
