-- What a link gave, without the bytes that are to be handed out again.
use Rattle.std.specs.Prelude.{◌≡◌, ℕ, ◌-◌, Bool, true, false, List, [], ◌∷◌, ◌++◌, length, take, Option, None, Some, bytes_eq}
use Rattle.std.proofs.Common.{refl, sym, ap, ◌∙◌, subst, append_assoc, append-nil}
use Rattle.grid_outside.specs.Told.{Gains, LinkView}

-- all but the last bytes, as many as these are
abbrev pub all_but : List ℕ → List ℕ → List ℕ
all_but left all = take (length all - length left) all

-- whether the bytes end with these
abbrev pub ends_with : List ℕ → List ℕ → Bool
ends_with left all = bytes_eq (all_but left all ++ left) all

abbrev pub told_if : Bool → List ℕ → Option (List ℕ)
told_if true bytes = Some bytes
told_if false bytes = None

-- all but these, where the bytes are told and end with these
abbrev pub without : List ℕ → Option (List ℕ) → Option (List ℕ)
without left None = None
without left (Some all) = told_if (ends_with left all) (all_but left all)

-- what a link tells, but that these bytes were not given yet
abbrev pub view_without : List ℕ → LinkView → LinkView
view_without left v = record {
  given = without left v.given;
  taken = v.taken;
  read_faults = v.read_faults;
  write_faults = v.write_faults;
  ends = v.ends;
}

-- ---- what no call changes

-- of these bytes a front was handed out, and those are left
abbrev pub HandsOn : List ℕ → List ℕ → Type 0
HandsOn again left = (handed : List ℕ) × (again ≡ handed ++ left)

-- a link gave on, where it tells its bytes
abbrev pub GivesOn : Option (List ℕ) → Option (List ℕ) → Type 0
GivesOn old new = (more : List ℕ) × Gains old new more

-- a link was not read
pub record Rests (old new : LinkView) : Type 0 where
  pub given : new.given ≡ old.given
  pub read_faults : new.read_faults ≡ old.read_faults
  pub ends : new.ends ≡ old.ends

-- as long as some bytes are left, the link behind them is not read
abbrev pub Awaits : List ℕ → LinkView → LinkView → Type 0
Awaits [] old new = Unit {0}
Awaits (byte ∷ left) old new = Rests old new

pub hands_none : (again : List ℕ) → HandsOn again again
hands_none again = ([], refl)

pub hands_more : (again between left : List ℕ) → HandsOn again between → HandsOn between left → HandsOn again left
hands_more again between left (front, e) (more, f) =
    (front ++ more, e ∙ ap (λ (b : List ℕ). front ++ b) f ∙ sym (append_assoc front more left))

pub gives_none : (given : Option (List ℕ)) → GivesOn given given
gives_none None = ([], tt)
gives_none (Some all) = ([], ap Some (sym (append-nil all)))

pub gives_more : (a b c : Option (List ℕ)) → GivesOn a b → GivesOn b c → GivesOn a c
gives_more None b c p q = ([], tt)
gives_more (Some all) b c (xs, p) (ys, q) = (xs ++ ys, subst (λ (t : Option (List ℕ)). Gains t c ys) p q ∙ ap Some (append_assoc all xs ys))

pub awaits_none : (left : List ℕ) (v : LinkView) → Awaits left v v
awaits_none [] v = tt
awaits_none (byte ∷ left) v = record { given = refl; read_faults = refl; ends = refl }

rests_more : (a b c : LinkView) → Rests a b → Rests b c → Rests a c
rests_more a b c p q = record {
  given = q.given ∙ p.given;
  read_faults = q.read_faults ∙ p.read_faults;
  ends = q.ends ∙ p.ends;
}

pub awaits_more : (a b c : LinkView) (between left : List ℕ) → HandsOn between left → Awaits between a b → Awaits left b c → Awaits left a c
awaits_more a b c between [] h p q = tt
awaits_more a b c between (byte ∷ left) ([], e) p q = rests_more a b c (subst (λ (l : List ℕ). Awaits l a b) e p) q
awaits_more a b c between (byte ∷ left) (x ∷ front, e) p q = rests_more a b c (subst (λ (l : List ℕ). Awaits l a b) e p) q
