-- One look more.
use Rattle.std.proofs.Common.{◌≡◌, ◌<◌, ◌&&◌, ℕ, ◌+◌, Bool, true, false, List, [], ◌∷◌, ◌++◌, length, refl, subst, arith, inl, inr, length-append}
use Rattle.std.specs.Prelude.{Option, None}
use Rattle.grid_outside.specs.Told.{ClockView, Tick}
use Rattle.grid_outside.specs.declared.exchange.Ask.{Ask}
use Rattle.grid_outside.specs.Exchanges.{Came}
use Rattle.server_words.specs.declared.attach.AttachWords.{AttachWords}
use Rattle.grid_attach.specs.Looks.{Attached, IsLook, Look, Looks, Waits, is_lost, wait_after}

module _ {N C : Type 0} (gives : N → List ℕ → Ask → Came → N → Type 0) (tells : C → Tick → ℕ → C → Type 0) (shows : C → ClockView)
    (said : AttachWords) where
  looks-more : (known : Option ℕ) (old : N) (m : C) (ls : List (Look N C)) (k1 : Option ℕ) (s1 : N) (m1 : C) (l : Look N C) →
      Looks gives tells shows said known old m ls k1 s1 m1 → IsLook gives said k1 s1 l.known l.nodes →
      Waits tells shows (wait_after l.known) m1 l.clock → (said.once && is_lost k1 l.known) ≡ false →
      Looks gives tells shows said known old m (ls ++ l ∷ []) l.known l.nodes l.clock
  looks-more known old m [] k1 s1 m1 l h is waits kept = (
    subst (λ (k : Option ℕ). IsLook gives said k old l.known l.nodes) h.0 (subst (λ (s : N). IsLook gives said k1 s l.known l.nodes) h.1 is),
    subst (λ (t : C). Waits tells shows (wait_after l.known) t l.clock) h.2 waits,
    subst (λ (k : Option ℕ). (said.once && is_lost k l.known) ≡ false) h.0 kept,
    (refl, refl, refl),
  )
  looks-more known old m (x ∷ xs) k1 s1 m1 l h is waits kept =
      (h.0, h.1, h.2, looks-more x.known x.nodes x.clock xs k1 s1 m1 l h.3 is waits kept)

  -- the looks so far, as they stand in a loop
  pub record SoFar (count : ℕ) (old : N) (before : C) (now : Option ℕ) (new : N) (after : C) : Type 0 where
    pub done : List (Look N C)
    pub counted : length done ≡ count
    pub looks : Looks gives tells shows said None old before done now new after

  pub more : (count : ℕ) (old : N) (m : C) (k1 : Option ℕ) (s1 : N) (m1 : C) (k2 : Option ℕ) (s2 : N) (m2 : C) →
      SoFar count old m k1 s1 m1 → IsLook gives said k1 s1 k2 s2 →
      Waits tells shows (wait_after k2) m1 m2 → (said.once && is_lost k1 k2) ≡ false → SoFar (count + 1) old m k2 s2 m2
  more count old m k1 s1 m1 k2 s2 m2 h is waits kept =
      let l : Look N C = record { known = k2; nodes = s2; clock = m2 } in
      record {
        done = h.done ++ l ∷ [];
        counted = let one = length-append h.done (l ∷ []) in let before = h.counted in omega arith;
        looks = looks-more None old m h.done k1 s1 m1 l h.looks is waits kept;
      }

  pub none : (old : N) (m : C) → SoFar 0 old m None old m
  none old m = record { done = []; counted = refl; looks = (refl, refl, refl) }

  pub all : (count : ℕ) (old : N) (m : C) (k1 : Option ℕ) (s1 : N) (m1 : C) →
      SoFar count old m k1 s1 m1 → Attached gives tells shows said count old m k1 s1 m1
  all count old m k1 s1 m1 h = record {
    done = h.done;
    known = k1;
    nodes = s1;
    clock = m1;
    looks = h.looks;
    ends = inl (h.counted, refl, refl, refl);
  }

  both_true : (b c : Bool) → (b && c) ≡ true → (b ≡ true) × (c ≡ true)
  both_true true true h = (refl, refl)
  both_true true false h = cc
  both_true false c h = cc

  pub ended : (so_far count : ℕ) (old : N) (m : C) (k1 : Option ℕ) (s1 : N) (m1 : C) (k2 : Option ℕ) (s2 : N) →
      SoFar so_far old m k1 s1 m1 → so_far < count → IsLook gives said k1 s1 k2 s2 →
      (said.once && is_lost k1 k2) ≡ true → Attached gives tells shows said count old m k2 s2 m1
  ended so_far count old m k1 s1 m1 k2 s2 h under is lost = record {
    done = h.done;
    known = k1;
    nodes = s1;
    clock = m1;
    looks = h.looks;
    ends = inr (
      let counted = h.counted in omega arith,
      record {
        only_once = (both_true said.once (is_lost k1 k2) lost).0;
        lost = (both_true said.once (is_lost k1 k2) lost).1;
        look = is;
        unasked = refl;
      },
    );
  }
