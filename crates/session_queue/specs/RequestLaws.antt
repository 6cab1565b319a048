-- The laws of requests' numbers and of leads, for whoever searches the table.
use Rattle.std.specs.Prelude.{◌≡◌, ℕ, Bool, true, false, nat_eq, nat_lt, List, filter, find}
use Rattle.std.specs.Ordering.{nat_cmp}
use Rattle.std.specs.List.Sorted.{IsStrictlySortedBy}
use Rattle.grid_types.specs.declared.config.HubConfig.{HubConfig}
use Rattle.grid_types.specs.declared.entry.Entry.{Entry}
use Rattle.grid_types.specs.Lists.{has, least}
use Rattle.grid_types.specs.History.{requests}
use Rattle.grid_types.specs.Legal.{legal}
use Rattle.request_laws.specs.Leads.{are_apart}

-- what is asked of being alike
pub record Divides (E : ℕ → ℕ → Bool) : Type 0 where
  pub symm : (q r : ℕ) → E q r ≡ E r q
  pub congr : (p q r : ℕ) → E p q ≡ true → E p r ≡ E q r

pub record RequestLaws : Type 0 where
  -- of numbers that ascend the first that passes is the least
  pub find-least : (passes : ℕ → Bool) (numbers : List ℕ) → IsStrictlySortedBy nat_cmp numbers →
      find passes numbers ≡ least nat_lt (filter passes numbers)
  -- the numbers of the requests ascend
  pub requests-ascend : (config : HubConfig) (history : List Entry) → legal config history ≡ true →
      IsStrictlySortedBy nat_cmp (requests history)
  -- two leads are not alike
  pub apart-two : (alike : ℕ → ℕ → Bool) → Divides alike → (lead other : ℕ) (leads : List ℕ) → are_apart alike leads ≡ true →
      has lead leads ≡ true → has other leads ≡ true → nat_eq lead other ≡ false → alike lead other ≡ false
