-- Passes at the places of teams.
use Rattle.std.proofs.Common.{◌≡◌, ℕ, zero, suc, List, [], ◌∷◌, length, Some, refl, ap, subst, slice_get, slice_set}
use Rattle.std.specs.List.{AllZip}
use Rattle.hub_cell.specs.declared.hub.Pass.{Pass}
use Rattle.hub_cell.specs.Passes.{IsOf}
use Rattle.grid_teams_shared.specs.declared.teams.SharedTeam.{SharedTeam}
use Rattle.grid_teams_shared.specs.Teams.{IsPassOf, PassesAre}

-- ---- lists that go together place by place

module _ {A B : Type 0} (R : A → B → Type 0) where
  zip_count : (xs : List A) (ys : List B) → AllZip R xs ys → length ys ≡ length xs
  zip_count [] [] all = refl
  zip_count [] (y ∷ ys) all = absurd all
  zip_count (x ∷ xs) [] all = absurd all
  zip_count (x ∷ xs) (y ∷ ys) all = ap suc (zip_count xs ys all.1)

  zip_at : (xs : List A) (ys : List B) (place : ℕ) (a : A) (b : B) → AllZip R xs ys → slice_get xs place ≡ Some a → slice_get ys place ≡ Some b → R a b
  zip_at [] ys place a b all e f = absurd (none_some e)
    where
      none_some : slice_get [] place ≡ Some a → ⊥
      none_some is = cc
  zip_at (x ∷ xs) [] place a b all e f = absurd all
  zip_at (x ∷ xs) (y ∷ ys) zero a b all e f =
      let first : x ≡ a = cc in
      let second : y ≡ b = cc in
      subst (λ (z : A). R z b) first (subst (λ (z : B). R x z) second all.0)
  zip_at (x ∷ xs) (y ∷ ys) (suc place) a b all e f = zip_at xs ys place a b all.1 e f

  -- another stands at a place
  zip_set : (xs : List A) (ys : List B) (place : ℕ) (a : A) (b : B) → AllZip R xs ys → slice_get xs place ≡ Some a → R a b → AllZip R xs (slice_set ys place b)
  zip_set [] [] place a b all e is = all
  zip_set [] (y ∷ ys) place a b all e is = absurd all
  zip_set (x ∷ xs) [] place a b all e is = absurd all
  zip_set (x ∷ xs) (y ∷ ys) zero a b all e is =
      let first : a ≡ x = cc in (subst (λ (z : A). R z b) first is, all.1)
  zip_set (x ∷ xs) (y ∷ ys) (suc place) a b all e is = (all.0, zip_set xs ys place a b all.1 e is)

-- ---- passes of teams

-- there are as many passes as teams
pub same_count : (teams : List SharedTeam) (passes : List Pass) → PassesAre teams passes → length passes ≡ length teams
same_count teams passes all = zip_count IsPassOf teams passes all

-- the pass at a place is of the hub there
pub pass_at : (teams : List SharedTeam) (passes : List Pass) (place : ℕ) (team : SharedTeam) (pass : Pass) → PassesAre teams passes →
    slice_get teams place ≡ Some team → slice_get passes place ≡ Some pass → IsOf team.hub pass
pass_at teams passes place team pass all e f = zip_at IsPassOf teams passes place team pass all e f

-- each pass is of its hub where a pass of the hub there is put at a place
pub passes_set : (teams : List SharedTeam) (passes : List Pass) (place : ℕ) (team : SharedTeam) (pass : Pass) → PassesAre teams passes →
    slice_get teams place ≡ Some team → IsOf team.hub pass → PassesAre teams (slice_set passes place pass)
passes_set teams passes place team pass all e is = zip_set IsPassOf teams passes place team pass all e is
