-- A call that finds no memory before it is made.
use Rattle.std.proofs.Common.{◌≡◌, ℕ, true, refl, inr}
use Rattle.std.specs.Prelude.{None}
use Rattle.grid_types.specs.Calls.{Call, Reply}
use Rattle.grid_types.specs.HistoryLaws.{Known, laws}
use Rattle.grid_types.specs.HubAnswers.{hub}
use Rattle.hub_core.specs.declared.hub.HubCore.{HubCore}
use Rattle.hub_core.specs.Answers.{may_lack}
use Rattle.hub_core.specs.CoreStands.{CoreServes}
use Rattle.hub_cell.specs.Lacking.{LacksAlone}
use Rattle.hub_cell.proofs.KeptLemmas.{tells-none}

lack-serves : Known → (core : HubCore) (k : ℕ) (call : Call) (at : ℕ) → ((reply : Reply) → may_lack call reply ≡ true) → CoreServes core core k call at None
lack-serves proved core k call at may = record {
  same_config = refl;
  serves = λ H s allowed. record {
    answers = inr (record { silent = refl; stays = refl; may = may (hub core.config H k call at).reply });
    is_legal = s.is_legal;
    is_safe = (laws proved).legal-safe core.config H s.is_legal;
    gives = tt;
    keeps_tickets = λ q r g u. (g, refl);
    keeps_reservations = λ q r s g u. (g, refl);
    keeps_closings = λ q s g u. g;
  };
  stands = λ H s allowed. s;
}

pub lacks-alone : Known → LacksAlone
lacks-alone proved core k call at told may = (lack-serves proved core k call at may, tells-none core k call at None told tt (λ H. refl))
