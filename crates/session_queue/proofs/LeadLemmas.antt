-- A list of leads with one number more or less.
use Rattle.std.proofs.Common.{◌≡◌, ℕ, ◌<◌, ◌≤◌, Bool, true, false, cond, not, ◌||◌, List, [], ◌∷◌, ◌++◌, filter, refl, sym, ap, ◌∙◌, subst, arith}
use Rattle.std.specs.Prelude.{nat_eq}
use Rattle.std.specs.List.{list_all}
use Rattle.session_queue.specs.RequestLaws.{Divides}
use Rattle.grid_types.specs.Lists.{has}
use Rattle.session_queue.specs.Laws.{Known, laws}
use Rattle.request_laws.specs.Leads.{HasLead, are_apart, Leads}

pub same-is : (m n : ℕ) → nat_eq m n ≡ true → m ≡ n
same-is m n h = grind arith

pub other-is : (m n : ℕ) → m < n → nat_eq m n ≡ false
other-is m n h = grind arith

pub above-is : (m n : ℕ) → nat_eq m n ≡ false → m ≤ n → m < n
above-is m n h l = grind arith

has-here : (x : ℕ) (xs : List ℕ) → has x (x ∷ xs) ≡ true
has-here x xs = grind arith

has-later : (q x : ℕ) (xs : List ℕ) → has q xs ≡ true → has q (x ∷ xs) ≡ true
has-later q x xs h = grind arith

not-true : (v : Bool) → not v ≡ true → v ≡ false
not-true true h = absurd (cc)
not-true false h = refl

apart-same : Known → (E F : ℕ → ℕ → Bool) (C : ℕ → Bool) (ls : List ℕ) → ((l : ℕ) → has l ls ≡ true → C l ≡ true) → ((q r : ℕ) → C q ≡ true → C r ≡ true → E q r ≡ F q r) → are_apart E ls ≡ true → are_apart F ls ≡ true
apart-same proved E F C [] inside alike a = refl
apart-same proved E F C (l ∷ ls) inside alike a =
    let first : list_all (λ q. not (F l q)) ls ≡ true = (laws proved).history.all-of (λ q. not (F l q)) ls (λ n t.
    ap not (sym (alike l n (inside l (has-here l ls)) (inside n (has-later n l ls t)))) ∙ (laws proved).history.all-at (λ q. not (E l q)) n ls ((laws proved).history.and_left (list_all (λ q. not (E l q)) ls) (are_apart E ls) a) t) in
    let rest : are_apart F ls ≡ true = apart-same proved E F C ls (λ n t. inside n (has-later n l ls t)) alike ((laws proved).history.and_right (list_all (λ q. not (E l q)) ls) (are_apart E ls) a) in
    rw (first, rest) refl

-- the same leads for what counts and is alike in the same way
pub leads-same : Known → (E F : ℕ → ℕ → Bool) (C D : ℕ → Bool) (ls : List ℕ) → ((n : ℕ) → C n ≡ D n) → ((q r : ℕ) → C q ≡ true → C r ≡ true → E q r ≡ F q r) → Leads E C ls → Leads F D ls
leads-same proved E F C D ls counts alike w = record {
  covered = λ r h.
      let before : C r ≡ true = counts r ∙ h in
      let its : HasLead E ls r = w.covered r before in
      record { lead = its.lead; there = its.there; same = sym (alike its.lead r (w.counted its.lead its.there) before) ∙ its.same; low = its.low };
  counted = λ l h. sym (counts l) ∙ w.counted l h;
  apart = apart-same proved E F C ls w.counted alike w.apart;
}

apart-filter : Known → (E : ℕ → ℕ → Bool) (p : ℕ → Bool) (ls : List ℕ) → are_apart E ls ≡ true → are_apart E (filter p ls) ≡ true
apart-filter proved E p [] a = refl
apart-filter proved E p (l ∷ ls) a = by_test (p l) (apart-filter proved E p ls ((laws proved).history.and_right (list_all (λ q. not (E l q)) ls) (are_apart E ls) a))
  where
    by_test : (v : Bool) → are_apart E (filter p ls) ≡ true → are_apart E (cond v (l ∷ filter p ls) (filter p ls)) ≡ true
    by_test true rest = (let first : list_all (λ q. not (E l q)) (filter p ls) ≡ true = (laws proved).history.all-filter (λ q. not (E l q)) p ls ((laws proved).history.and_left (list_all (λ q. not (E l q)) ls) (are_apart E ls) a) in rw (first, rest) refl)
    by_test false rest = rest

apart-last : Known → (E : ℕ → ℕ → Bool) (q : ℕ) (ls : List ℕ) → are_apart E ls ≡ true → ((l : ℕ) → has l ls ≡ true → E l q ≡ false) → are_apart E (ls ++ q ∷ []) ≡ true
apart-last proved E q [] a h = refl
apart-last proved E q (l ∷ ls) a h =
    let first : list_all (λ x. not (E l x)) (ls ++ q ∷ []) ≡ true = (laws proved).history.all-of (λ x. not (E l x)) (ls ++ q ∷ []) (λ n t. by_number n (nat_eq n q) refl (sym ((laws proved).history.has-last n q ls) ∙ t)) in
    let rest : are_apart E (ls ++ q ∷ []) ≡ true = apart-last proved E q ls ((laws proved).history.and_right (list_all (λ x. not (E l x)) ls) (are_apart E ls) a) (λ n t. h n (has-later n l ls t)) in
    rw (first, rest) refl
  where
    by_number : (n : ℕ) (v : Bool) → nat_eq n q ≡ v → (has n ls || v) ≡ true → not (E l n) ≡ true
    by_number n true e t = (let same : q ≡ n = grind arith in let none : E l q ≡ false = h l (has-here l ls) in subst (λ (z : ℕ). not (E l z) ≡ true) same (ap not none))
    by_number n false e t = (laws proved).history.all-at (λ x. not (E l x)) n ls ((laws proved).history.and_left (list_all (λ x. not (E l x)) ls) (are_apart E ls) a) (first-of (has n ls) t)
      where
        first-of : (w : Bool) → (w || false) ≡ true → w ≡ true
        first-of true t = refl
        first-of false t = t

-- two in the list are not alike
pub apart-two : Known → (E : ℕ → ℕ → Bool) → Divides E → (x r : ℕ) (ls : List ℕ) → are_apart E ls ≡ true → has x ls ≡ true → has r ls ≡ true → nat_eq x r ≡ false → E x r ≡ false
apart-two proved E d x r [] a h g f = absurd (cc)
apart-two proved E d x r (l ∷ ls) a h g f = by_both (nat_eq x l) refl (nat_eq r l) refl h g (apart-two proved E d x r ls ((laws proved).history.and_right (list_all (λ q. not (E l q)) ls) (are_apart E ls) a))
  where
    unlike : (n : ℕ) → has n ls ≡ true → E l n ≡ false
    unlike n t = not-true (E l n) ((laws proved).history.all-at (λ q. not (E l q)) n ls ((laws proved).history.and_left (list_all (λ q. not (E l q)) ls) (are_apart E ls) a) t)

    by_both : (v : Bool) → nat_eq x l ≡ v → (w : Bool) → nat_eq r l ≡ w → (v || has x ls) ≡ true → (w || has r ls) ≡ true → (has x ls ≡ true → has r ls ≡ true → nat_eq x r ≡ false → E x r ≡ false) → E x r ≡ false
    by_both true e true k h g rest = absurd (grind arith)
    by_both true e false k h g rest = (let same : l ≡ x = grind arith in subst (λ (z : ℕ). E z r ≡ false) same (unlike r g))
    by_both false e true k h g rest = (let same : l ≡ r = grind arith in subst (λ (z : ℕ). E x z ≡ false) same (d.symm x l ∙ unlike x h))
    by_both false e false k h g rest = rest h g f

-- what is left without one number
abbrev pub without : ℕ → List ℕ → List ℕ
without l ls = filter (λ x. not (nat_eq l x)) ls

left-has : Known → (l n : ℕ) (ls : List ℕ) → has n ls ≡ true → nat_eq l n ≡ false → has n (without l ls) ≡ true
left-has proved l n ls h f = (laws proved).history.has-filter (λ x. not (nat_eq l x)) n ls ∙ rw (f, h) refl

left-other : Known → (l n : ℕ) (ls : List ℕ) → has n (without l ls) ≡ true → nat_eq l n ≡ false
left-other proved l n ls h = not-true (nat_eq l n) ((laws proved).history.and_left (not (nat_eq l n)) (has n ls) (sym ((laws proved).history.has-filter (λ x. not (nat_eq l x)) n ls) ∙ h))

left-there : Known → (l n : ℕ) (ls : List ℕ) → has n (without l ls) ≡ true → has n ls ≡ true
left-there proved l n ls h = (laws proved).history.and_right (not (nat_eq l n)) (has n ls) (sym ((laws proved).history.has-filter (λ x. not (nat_eq l x)) n ls) ∙ h)

last-has : Known → (n q : ℕ) (ls : List ℕ) → has n ls ≡ true → has n (ls ++ q ∷ []) ≡ true
last-has proved n q ls h = (laws proved).history.has-last n q ls ∙ rw h refl

last-own : Known → (q : ℕ) (ls : List ℕ) → has q (ls ++ q ∷ []) ≡ true
last-own proved q ls = (laws proved).history.has-last q q ls ∙ by_own (has q ls) (nat_eq q q) (grind arith)
  where
    by_own : (v w : Bool) → w ≡ true → (v || w) ≡ true
    by_own true w e = refl
    by_own false w e = e

-- one of the list, or the last
last-or : Known → {X : Type 0} (n q : ℕ) (ls : List ℕ) → has n (ls ++ q ∷ []) ≡ true → (n ≡ q → X) → (has n ls ≡ true → X) → X
last-or proved {X} n q ls h f g = by_number (nat_eq n q) refl (sym ((laws proved).history.has-last n q ls) ∙ h)
  where
    by_number : (v : Bool) → nat_eq n q ≡ v → (has n ls || v) ≡ true → X
    by_number true e t = f (same-is n q e)
    by_number false e t = g (first-of (has n ls) t)
      where
        first-of : (w : Bool) → (w || false) ≡ true → w ≡ true
        first-of true t = refl
        first-of false t = t

-- a lead is replaced by one of its kind
pub replaced : Known → (E : ℕ → ℕ → Bool) (C D : ℕ → Bool) (l q : ℕ) (ls : List ℕ) → Divides E → Leads E C ls → has l ls ≡ true → E l q ≡ true → E q q ≡ true → D q ≡ true →
    ((n : ℕ) → D n ≡ true → nat_eq q n ≡ false → C n ≡ true) → ((n : ℕ) → D n ≡ true → E l n ≡ true → l ≤ n → q ≤ n) → ((n : ℕ) → C n ≡ true → nat_eq l n ≡ false → D n ≡ true) →
    Leads E D (without l ls ++ q ∷ [])
replaced proved E C D l q ls d w inside alike own counts back low forth = record {
  covered = λ r h. by_number r h (nat_eq q r) refl;
  counted = λ n h. last-or proved n q (without l ls) h (λ e. subst (λ (z : ℕ). D z ≡ true) (sym e) counts) (λ t. forth n (w.counted n (left-there proved l n ls t)) (left-other proved l n ls t));
  apart = apart-last proved E q (without l ls) (apart-filter proved E (λ x. not (nat_eq l x)) ls w.apart) (λ x t.
      let other : nat_eq l x ≡ false = left-other proved l x ls t in
      let apart : E l x ≡ false = apart-two proved E d l x ls w.apart inside (left-there proved l x ls t) other in
      d.symm x q ∙ sym (d.congr l q x alike) ∙ apart);
}
  where
    by_lead : (r : ℕ) → D r ≡ true → (its : HasLead E ls r) → (v : Bool) → nat_eq l its.lead ≡ v → HasLead E (without l ls ++ q ∷ []) r
    by_lead r h its true e = (
        let same : its.lead ≡ l = sym (same-is l its.lead e) in
        let of_kind : E l r ≡ true = subst (λ (z : ℕ). E z r ≡ true) same its.same in
        record {
          lead = q;
          there = last-own proved q (without l ls);
          same = sym (d.congr l q r alike) ∙ of_kind;
          low = low r h of_kind (subst (λ (z : ℕ). z ≤ r) same its.low);
        })
    by_lead r h its false e = record { lead = its.lead; there = last-has proved its.lead q (without l ls) (left-has proved l its.lead ls its.there e); same = its.same; low = its.low }

    by_number : (r : ℕ) → D r ≡ true → (v : Bool) → nat_eq q r ≡ v → HasLead E (without l ls ++ q ∷ []) r
    by_number r h true e = (let same : q ≡ r = same-is q r e in
        record { lead = q; there = last-own proved q (without l ls); same = subst (λ (z : ℕ). E q z ≡ true) same own; low = omega arith })
    by_number r h false e = (let its : HasLead E ls r = w.covered r (back r h e) in by_lead r h its (nat_eq l its.lead) refl)

-- a lead goes, with its kind
pub dropped : Known → (E : ℕ → ℕ → Bool) (C D : ℕ → Bool) (l : ℕ) (ls : List ℕ) → Leads E C ls →
    ((n : ℕ) → D n ≡ true → C n ≡ true) → ((n : ℕ) → D n ≡ true → E l n ≡ true → l ≤ n → ⊥) → ((n : ℕ) → C n ≡ true → nat_eq l n ≡ false → D n ≡ true) → Leads E D (without l ls)
dropped proved E C D l ls w back none forth = record {
  covered = λ r h. (let its : HasLead E ls r = w.covered r (back r h) in by_lead r h its (nat_eq l its.lead) refl);
  counted = λ n t. forth n (w.counted n (left-there proved l n ls t)) (left-other proved l n ls t);
  apart = apart-filter proved E (λ x. not (nat_eq l x)) ls w.apart;
}
  where
    by_lead : (r : ℕ) → D r ≡ true → (its : HasLead E ls r) → (v : Bool) → nat_eq l its.lead ≡ v → HasLead E (without l ls) r
    by_lead r h its true e = (let same : its.lead ≡ l = sym (same-is l its.lead e) in
        absurd (none r h (subst (λ (z : ℕ). E z r ≡ true) same its.same) (subst (λ (z : ℕ). z ≤ r) same its.low)))
    by_lead r h its false e = record { lead = its.lead; there = left-has proved l its.lead ls its.there e; same = its.same; low = its.low }

-- a kind comes, with its lead
pub added : Known → (E : ℕ → ℕ → Bool) (C D : ℕ → Bool) (q : ℕ) (ls : List ℕ) → Leads E C ls → ((l : ℕ) → has l ls ≡ true → E l q ≡ false) → E q q ≡ true → D q ≡ true →
    ((n : ℕ) → D n ≡ true → nat_eq q n ≡ false → C n ≡ true) → ((n : ℕ) → C n ≡ true → D n ≡ true) → Leads E D (ls ++ q ∷ [])
added proved E C D q ls w none own counts back forth = record {
  covered = λ r h. by_number r h (nat_eq q r) refl;
  counted = λ n h. last-or proved n q ls h (λ e. subst (λ (z : ℕ). D z ≡ true) (sym e) counts) (λ t. forth n (w.counted n t));
  apart = apart-last proved E q ls w.apart none;
}
  where
    by_number : (r : ℕ) → D r ≡ true → (v : Bool) → nat_eq q r ≡ v → HasLead E (ls ++ q ∷ []) r
    by_number r h true e = (let same : q ≡ r = same-is q r e in record { lead = q; there = last-own proved q ls; same = subst (λ (z : ℕ). E q z ≡ true) same own; low = omega arith })
    by_number r h false e = (let its : HasLead E ls r = w.covered r (back r h e) in
        record { lead = its.lead; there = last-has proved its.lead q ls its.there; same = its.same; low = its.low })

-- a number counts that has a lead already
pub covered-too : (E : ℕ → ℕ → Bool) (C D : ℕ → Bool) (q l : ℕ) (ls : List ℕ) → Leads E C ls → has l ls ≡ true → E l q ≡ true → l ≤ q →
    ((n : ℕ) → D n ≡ true → nat_eq q n ≡ false → C n ≡ true) → ((n : ℕ) → C n ≡ true → D n ≡ true) → Leads E D ls
covered-too E C D q l ls w there alike low back forth = record {
  covered = λ r h. by_number r h (nat_eq q r) refl;
  counted = λ n t. forth n (w.counted n t);
  apart = w.apart;
}
  where
    by_number : (r : ℕ) → D r ≡ true → (v : Bool) → nat_eq q r ≡ v → HasLead E ls r
    by_number r h true e = (let same : q ≡ r = same-is q r e in record { lead = l; there = there; same = subst (λ (z : ℕ). E l z ≡ true) same alike; low = omega arith })
    by_number r h false e = w.covered r (back r h e)

-- a number that is no lead does not count any more
pub uncovered : (E : ℕ → ℕ → Bool) (C D : ℕ → Bool) (q : ℕ) (ls : List ℕ) → Leads E C ls → has q ls ≡ false → ((n : ℕ) → D n ≡ true → C n ≡ true) →
    ((n : ℕ) → C n ≡ true → nat_eq q n ≡ false → D n ≡ true) → Leads E D ls
uncovered E C D q ls w out back forth = record {
  covered = λ r h. w.covered r (back r h);
  counted = λ n t. forth n (w.counted n t) (other n t (nat_eq q n) refl);
  apart = w.apart;
}
  where
    other : (n : ℕ) → has n ls ≡ true → (v : Bool) → nat_eq q n ≡ v → nat_eq q n ≡ false
    other n t true e = (let same : q ≡ n = same-is q n e in let odd : has q ls ≡ true = subst (λ (z : ℕ). has z ls ≡ true) (sym same) t in absurd (cc))
    other n t false e = e
