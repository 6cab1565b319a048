use Rattle.std.proofs.Common.{List, subst}
use Rattle.grid_replay.specs.declared.replay.Stay.{Stay}
use Rattle.grid_replay.specs.Lasts.{Leaves}
use Rattle.grid_replay.proofs.ReplayLemmas.{on-ok, stays-behind}
use Rattle.grid_replay.proofs.replay.Replay.bind.Goals as goal

pub returns-clause-leaves : goal.returns-clause-leaves
returns-clause-leaves c = on-ok c.stay.result
    (λ added. subst (λ (before : List Stay). Leaves before c.stay.new.self.stays.items c.args.slot c.args.session) c.show.ensures.stays (stays-behind _ _ c.args.slot c.args.session added)) c.stay.ensures.stays
