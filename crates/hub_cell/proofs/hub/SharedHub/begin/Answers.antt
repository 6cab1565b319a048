use Rattle.std.proofs.Common.{sym, subst}
use Rattle.grid_types.specs.History.{history_of}
use Rattle.journal_keeper.specs.Keeps.{Holds}
use Rattle.journal_keeper.specs.Keepings.{kept_by}
use Rattle.hub_core.specs.CoreStands.{Stands}
use Rattle.hub_core.specs.declared.hub.HubCore.{HubCore}
use Rattle.hub_cell.proofs.hub.SharedHub.begin.Goals as goal

pub resume-requires : goal.resume-requires
resume-requires g c =
    let b = c.requires.start in
    let e = sym c.in-Ok.ensures.ok in (
      b.start,
      (
        record { core_stands = subst (λ (z : HubCore). Stands z (history_of b.start)) e b.core_stands; map_stands = b.map_stands },
        record { holds = subst (λ (z : HubCore). Holds z.config b.start (kept_by c.args.keeping)) e b.holds; none_waits = c.in-Ok-ready_piece.ensures },
      ),
      b.goes,
    )
