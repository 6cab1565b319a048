-- One request of each kind that stands for its kind: the leads.
use Rattle.std.specs.Prelude.{◌≡◌, ℕ, ◌≤◌, Bool, true, not, ◌&&◌, nat_eq, List, [], ◌∷◌}
use Rattle.std.specs.List.{list_all, list_any}
use Rattle.grid_types.specs.declared.entry.Entry.{Entry}
use Rattle.grid_types.specs.Requests.{place, is_waiting}
use Rattle.request_laws.specs.Kinds.{is_alike, kinds, choices_in}

-- a lead of the request: one that is alike and no greater
pub record HasLead (alike : ℕ → ℕ → Bool) (leads : List ℕ) (r : ℕ) : Type 0 where
  pub lead : ℕ
  pub there : list_any (nat_eq lead) leads ≡ true
  pub same : alike lead r ≡ true
  pub low : lead ≤ r

-- no two in the list are alike
abbrev pub are_apart : (ℕ → ℕ → Bool) → List ℕ → Bool
are_apart alike [] = true
are_apart alike (l ∷ ls) = list_all (λ q. not (alike l q)) ls && are_apart alike ls

-- of those that count each has a lead, and the leads are some of them, one of each kind
pub record Leads (alike : ℕ → ℕ → Bool) (counts : ℕ → Bool) (leads : List ℕ) : Type 0 where
  pub covered : (r : ℕ) → counts r ≡ true → HasLead alike leads r
  pub counted : (l : ℕ) → list_any (nat_eq l) leads ≡ true → counts l ≡ true
  pub apart : are_apart alike leads ≡ true

-- the list has the first waiting request of each kind, in any order
abbrev pub LeadKinds : List Entry → List ℕ → Type 0
LeadKinds H leads = Leads (is_alike H) (λ r. is_waiting (place H r)) leads

-- the leads have no more choices than all kinds
abbrev pub LeadsAreFew : Type 0
LeadsAreFew = (H : List Entry) (leads : List ℕ) → LeadKinds H leads → choices_in H leads ≤ choices_in H (kinds H)
