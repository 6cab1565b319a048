-- What is found where a placeholder is passed over.
use Rattle.std.proofs.Common.{◌≡◌, ℕ, Bool, true, false, cond, List, refl, ap, sym, ◌∙◌, subst}
use Rattle.std.specs.Prelude.{Option, None, Some}
use Rattle.std.proofs.lemmas.Map.Entries.{option_filter}
use Rattle.std.specs.Prelude.{is_some}
use Rattle.std.specs.Cmp.Lexicographic.{same_text}
use Rattle.session_map.proofs.SessionNames.{session_eq-is}
use Rattle.std.specs.BTreeMap as tree
use Rattle.session_map.specs.Names.{session_cmp, session_eq}
use Rattle.session_map.specs.declared.live_map.LiveMap.{LiveMap}
use Rattle.session_map.specs.declared.live_map.Place.{Place}
use Rattle.session_map.specs.Table.{is_placeholder, place_in}

put : (a e : Bool) (p g : Option Place) → cond (cond e false a) None (cond e p g) ≡ cond e p (cond a None g)
put a true p g = refl
put true false p g = refl
put false false p g = refl

taken : (a e : Bool) (g : Option Place) → cond a None (cond e None g) ≡ cond e None (cond a None g)
taken true true g = refl
taken true false g = refl
taken false true g = refl
taken false false g = refl

sifted : (a : Bool) (p : Place → Bool) (g : Option Place) → cond a None (option_filter p g) ≡ option_filter p (cond a None g)
sifted true p g = refl
sifted false p g = refl

-- a place was written for a session, which has no placeholder then
pub place-put : (old new : LiveMap) (y : List ℕ) (p : Place) → ((s : List ℕ) → is_placeholder new.placeholder s ≡ cond (session_eq y s) false (is_placeholder old.placeholder s)) →
    ((s : List ℕ) → tree.get session_cmp new.places s ≡ cond (session_eq y s) (Some p) (tree.get session_cmp old.places s)) → (s : List ℕ) → place_in new s ≡ cond (session_eq y s) (Some p) (place_in old s)
place-put old new y p filled places s =
    ap (λ (b : Bool). cond b None (tree.get session_cmp new.places s)) (filled s)
    ∙ (ap (λ (o : Option Place). cond (cond (session_eq y s) false (is_placeholder old.placeholder s)) None o) (places s)
    ∙ put (is_placeholder old.placeholder s) (session_eq y s) (Some p) (tree.get session_cmp old.places s))

-- a place was taken out
pub place-taken : (old new : LiveMap) (y : List ℕ) → new.placeholder ≡ old.placeholder → ((s : List ℕ) → tree.get session_cmp new.places s ≡ cond (session_eq y s) None (tree.get session_cmp old.places s)) →
    (s : List ℕ) → place_in new s ≡ cond (session_eq y s) None (place_in old s)
place-taken old new y same places s =
    ap (λ (q : Option (List ℕ)). cond (is_placeholder q s) None (tree.get session_cmp new.places s)) same
    ∙ (ap (λ (o : Option Place). cond (is_placeholder old.placeholder s) None o) (places s) ∙ taken (is_placeholder old.placeholder s) (session_eq y s) (tree.get session_cmp old.places s))

-- some places were taken out
pub place-sifted : (old new : LiveMap) (p : Place → Bool) → new.placeholder ≡ old.placeholder → ((s : List ℕ) → tree.get session_cmp new.places s ≡ option_filter p (tree.get session_cmp old.places s)) →
    (s : List ℕ) → place_in new s ≡ option_filter p (place_in old s)
place-sifted old new p same places s =
    ap (λ (q : Option (List ℕ)). cond (is_placeholder q s) None (tree.get session_cmp new.places s)) same
    ∙ (ap (λ (o : Option Place). cond (is_placeholder old.placeholder s) None o) (places s) ∙ sifted (is_placeholder old.placeholder s) p (tree.get session_cmp old.places s))

same-session : (x y : List ℕ) → session_eq x y ≡ true → x ≡ y
same-session x y h = same_text x y (sym (sym (session_eq-is x y) ∙ h))

either : (b : Bool) → false ≡ cond b false b
either true = refl
either false = refl

none-false : (b : Bool) → false ≡ cond b false false
none-false true = refl
none-false false = refl

-- the placeholder of the session goes
pub filled-then : (q : Option (List ℕ)) (y s : List ℕ) → is_placeholder q y ≡ true → false ≡ cond (session_eq y s) false (is_placeholder q s)
filled-then None y s h = absurd cc
filled-then (Some x) y s h = subst (λ (z : List ℕ). false ≡ cond (session_eq y s) false (session_eq z s)) (sym (same-session x y h)) (either (session_eq y s))

-- one of another session stays
pub filled-else : (q : Option (List ℕ)) (y s : List ℕ) → is_placeholder q y ≡ false → is_placeholder q s ≡ cond (session_eq y s) false (is_placeholder q s)
filled-else q y s h = by_test (session_eq y s) refl
  where
    by_test : (b : Bool) → session_eq y s ≡ b → is_placeholder q s ≡ cond b false (is_placeholder q s)
    by_test true e = subst (λ (z : List ℕ). is_placeholder q z ≡ false) (same-session y s e) h
    by_test false e = refl

-- where there is no placeholder, all that the table has is found
pub place-plain : (t : LiveMap) → t.placeholder ≡ None → (s : List ℕ) → place_in t s ≡ tree.get session_cmp t.places s
place-plain t none s = ap (λ (q : Option (List ℕ)). cond (is_placeholder q s) None (tree.get session_cmp t.places s)) none

no-place : (o : Option Place) → is_some o ≡ false → o ≡ None
no-place None h = refl
no-place (Some p) h = absurd cc

waits : (e : Bool) (p : Place) (g : Option Place) → (e ≡ true → g ≡ None) → cond e None (cond e (Some p) g) ≡ g
waits true p g h = sym (h refl)
waits false p g h = refl

-- a placeholder was put where nothing was
pub place-waits : (old new : LiveMap) (y : List ℕ) (p : Place) → old.placeholder ≡ None → new.placeholder ≡ Some y → is_some (tree.get session_cmp old.places y) ≡ false →
    ((s : List ℕ) → tree.get session_cmp new.places s ≡ cond (session_eq y s) (Some p) (tree.get session_cmp old.places s)) → (s : List ℕ) → place_in new s ≡ place_in old s
place-waits old new y p none some absent places s =
    ap (λ (q : Option (List ℕ)). cond (is_placeholder q s) None (tree.get session_cmp new.places s)) some
    ∙ (ap (λ (o : Option Place). cond (session_eq y s) None o) (places s)
    ∙ (waits (session_eq y s) p (tree.get session_cmp old.places s) (λ e. subst (λ (z : List ℕ). tree.get session_cmp old.places z ≡ None) (same-session y s e) (no-place (tree.get session_cmp old.places y) absent))
    ∙ sym (place-plain old none s)))
