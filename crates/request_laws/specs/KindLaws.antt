-- The laws of kinds, by which the tables that keep one request of each are proved.
use Rattle.std.specs.Prelude.{◌≡◌, ℕ, true, List}
use Rattle.std.specs.Bool.{Decides}
use Rattle.grid_types.specs.declared.entry.Entry.{Entry}
use Rattle.grid_types.specs.declared.capabilities.Cap.{Cap}
use Rattle.grid_types.specs.declared.config.HubConfig.{HubConfig}
use Rattle.grid_types.specs.Requests.{is_barred, choices_of}
use Rattle.request_laws.specs.Kinds.{AlikeFitAlike, ChoicesAdd, KindsDivide, choices_eq, is_alike, same_bars}
use Rattle.request_laws.specs.Leads.{LeadsAreFew}

-- being of one kind, what fits and costs the same with it, and that leads are few
pub record KindLaws : Type 0 where
  pub kinds-divide : KindsDivide
  pub alike-fit-alike : AlikeFitAlike
  pub choices-add : (config : HubConfig) → ChoicesAdd config
  pub leads-are-few : LeadsAreFew
  -- equal choices, and equal barred nodes
  pub choices-decide : (choices others : List (List Cap)) → Decides (choices_eq choices others) (choices ≡ others)
  pub alike-choices : (history : List Entry) (request other : ℕ) → is_alike history request other ≡ true →
      choices_of history request ≡ choices_of history other
  pub bars-at : (history : List Entry) (request other : ℕ) → same_bars history request other ≡ true →
      (node : ℕ) → is_barred history request node ≡ is_barred history other node
  pub bars-of : (history : List Entry) (request other : ℕ) →
      ((node : ℕ) → is_barred history request node ≡ is_barred history other node) → same_bars history request other ≡ true
