-- A hub that was opened is set up as its words say.
use Rattle.std.proofs.Common.{inl, inr, ℕ, List, refl, sym, subst}
use Rattle.std.specs.Prelude.{Option}
use Rattle.grid_types.specs.declared.config.HubConfig.{HubConfig}
use Rattle.journal_keeper.specs.declared.keeping.Keeping.{Keeping}
use Rattle.hub_core.specs.declared.hub.HubCore.{HubCore}
use Rattle.hub_server.specs.Statuses.{IsSetUpAs}
use Rattle.hub_store.specs.Opens.{Opens}
use Rattle.hub_store.specs.Stores.{HasOptions}

by_options : (told config : HubConfig) → HasOptions told config → IsSetUpAs told config
by_options told config has = record { timeout = has.timeout; idle = has.idle; lapse = has.lapse; down = has.down; queue = has.queue; rejects = has.rejects }

as_told : (told : HubConfig) → IsSetUpAs told told
as_told told = record { timeout = refl; idle = refl; lapse = refl; down = refl; queue = refl; rejects = refl }

pub set_up : (told : HubConfig) (given aside : Option (List ℕ)) (config : HubConfig) (core : HubCore) (keeping : Keeping) (first : ℕ) → Opens told given aside config core keeping first → IsSetUpAs told config
set_up told given aside config core keeping first (inl goes) = by_options told config goes.options
set_up told given aside config core keeping first (inr (inl behind)) = by_options told config behind.options
set_up told given aside config core keeping first (inr (inr anew)) = subst (λ (d : HubConfig). IsSetUpAs told d) (sym anew.same) (as_told told)
