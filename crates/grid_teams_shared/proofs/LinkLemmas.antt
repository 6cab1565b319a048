-- What a link gives and takes piece by piece.
use Rattle.std.proofs.Common.{◌≡◌, ℕ, zero, suc, ◌+◌, ◌-◌, ◌<◌, ◌≤◌, inl, inr, List, [], ◌∷◌, ◌++◌, length, take, drop, refl, sym, ap, ◌∙◌, subst, arith, append_assoc, append-nil, length-append, length-drop}
use Rattle.std.proofs.Math.Seq.{take-add}
use Rattle.std.proofs.lemmas.Grind.{common_steps}
use Rattle.std.specs.Prelude.{Option, Some, None}
use Rattle.grid_outside.specs.Counts.{Rose}
use Rattle.grid_outside.specs.Told.{Gains, LinkView}
use Rattle.grid_teams_shared.specs.Links.{Gave, Took}

pub gains_more : (a b c : Option (List ℕ)) (xs ys : List ℕ) → Gains a b xs → Gains b c ys → Gains a c (xs ++ ys)
gains_more None b c xs ys p q = tt
gains_more (Some zs) b c xs ys p q = (subst (λ t. Gains t c ys) p q) ∙ ap Some (append_assoc zs xs ys)

pub gains_none : (a b : Option (List ℕ)) → b ≡ a → Gains a b []
gains_none None b e = tt
gains_none (Some xs) b e = e ∙ ap Some (sym (append-nil xs))

pub gains_same : (a b c : Option (List ℕ)) (xs : List ℕ) → Gains a b xs → c ≡ b → Gains a c xs
gains_same a b c xs p e = subst (λ t. Gains a t xs) (sym e) p

pub rose_from : (a b c : ℕ) → a ≤ b → Rose b c → Rose a c
rose_from a b c le (inl lt) = inl (omega (arith, le, lt))
rose_from a b c le (inr most) = inr most

-- nothing was done yet
pub gave_none : (v : LinkView) → Gave v [] v
gave_none v = record { given = gains_none v.given v.given refl; taken = refl; read_faults = omega arith; write_faults = refl; ends = omega arith }

module _ (old mid new : LinkView) (bytes : List ℕ) where
  pub gave_on : (more : List ℕ) → Gave old bytes mid → Gains mid.given new.given more → new.taken ≡ mid.taken → mid.read_faults ≤ new.read_faults →
      new.write_faults ≡ mid.write_faults → mid.ends ≤ new.ends → Gave old (bytes ++ more) new
  gave_on more g given taken reads writes ends = record {
    given = gains_more old.given mid.given new.given bytes more g.given given;
    taken = taken ∙ g.taken;
    read_faults = let x = g.read_faults in omega (arith, x, reads);
    write_faults = writes ∙ g.write_faults;
    ends = let x = g.ends in omega (arith, x, ends);
  }

  pub gave_same : Gave old bytes mid → new.given ≡ mid.given → new.taken ≡ mid.taken → mid.read_faults ≤ new.read_faults →
      new.write_faults ≡ mid.write_faults → mid.ends ≤ new.ends → Gave old bytes new
  gave_same g given taken reads writes ends = record {
    given = gains_same old.given mid.given new.given bytes g.given given;
    taken = taken ∙ g.taken;
    read_faults = let x = g.read_faults in omega (arith, x, reads);
    write_faults = writes ∙ g.write_faults;
    ends = let x = g.ends in omega (arith, x, ends);
  }

  -- the end of the input was read
  pub gave_end : (n : ℕ) (into : List ℕ) → n ≡ 0 → Gave old bytes mid → Gains mid.given new.given (take n into) → new.taken ≡ mid.taken → mid.read_faults ≤ new.read_faults →
      new.write_faults ≡ mid.write_faults → mid.ends ≤ new.ends → Gave old bytes new
  gave_end n into none g given taken reads writes ends =
      subst (λ (b : List ℕ). Gave old b new) (append-nil bytes)
      (gave_on [] g (subst (λ (k : ℕ). Gains mid.given new.given (take k into)) none given) taken reads writes ends)

pub some_more : (bytes into : List ℕ) (n : ℕ) → 0 < n → n ≤ length into → 0 < length (bytes ++ take n into)
some_more bytes into n some within =
    let e = length-append bytes (take n into) in
    let k = length_taken into n within in
    omega (arith, e, k, some)
  where
    length_taken : (xs : List ℕ) (m : ℕ) → m ≤ length xs → length (take m xs) ≡ m
    length_taken xs zero le = refl
    length_taken [] (suc m) le = absurd (omega (arith, le))
    length_taken (x ∷ xs) (suc m) le = ap suc (length_taken xs m (omega (arith, le)))

take_next : (done n : ℕ) (bytes : List ℕ) → take (done + n) bytes ≡ take done bytes ++ take n (take (length bytes - done) (drop done bytes))
take_next done n bytes = grind (arith, common_steps, take-add done n bytes)

-- the next n bytes are gained behind those that are done
pub gains_next : (a b c : Option (List ℕ)) (done n : ℕ) (bytes : List ℕ) → Gains a b (take done bytes) →
    Gains b c (take n (take (length bytes - done) (drop done bytes))) → Gains a c (take (done + n) bytes)
gains_next a b c done n bytes p q = subst (Gains a c) (sym (take_next done n bytes)) (gains_more a b c _ _ p q)

pub took_none : (v : LinkView) → Took v [] v
took_none v = record { given = refl; taken = gains_none v.taken v.taken refl; read_faults = refl; write_faults = omega arith; ends = refl }

pub left_over : (done : ℕ) (bytes : List ℕ) → done < length bytes → 0 < length (drop done bytes)
left_over done bytes below = let e = length-drop done bytes in omega (arith, e, below)
