-- The first of each kind stands for its kind.
use Rattle.std.proofs.Common.{◌≡◌, ℕ, ◌+◌, ◌≤◌, ◌<◌, Bool, true, false, cond, not, ◌&&◌, ◌||◌, List, [], ◌∷◌, ◌++◌, length, filter, refl, sym, ap, ◌∙◌, subst, arith}
use Rattle.std.specs.Prelude.{nat_eq, nat_lt, is_some}
use Rattle.std.specs.List.{list_any, list_all}
use Rattle.std.specs.Bool.{Decides}
use Rattle.std.specs.Cmp.Lexicographic.{pointwise}
use Rattle.std.specs.Cmp.{IsEquivalence}
use Rattle.std.proofs.lemmas.Slice.Eq.{slice_eq-Decides}
use Rattle.grid_types.specs.declared.entry.Entry.{Entry}
use Rattle.grid_types.specs.declared.entry.Change.{Change}
use Rattle.grid_types.specs.declared.entry.Change.TheVariants as change
use Rattle.grid_types.specs.declared.names.SlotId.{SlotId}
use Rattle.grid_types.specs.declared.capabilities.Cap.{Cap}
use Rattle.grid_types.specs.declared.capabilities.CapValue.{CapValue}
use Rattle.grid_types.specs.declared.capabilities.CapValue.TheVariants as value
use Rattle.grid_types.specs.declared.config.HubConfig.{HubConfig}
use Rattle.grid_types.specs.Lists.{total, when, with_last, has}
use Rattle.grid_types.specs.Matching.{same_value}
use Rattle.grid_types.specs.Tables.{entry}
use Rattle.grid_types.specs.History.{requests, next_request}
use Rattle.grid_types.specs.Slots.{holder, is_free}
use Rattle.grid_types.specs.Requests.{Place, waiting, place, is_waiting, is_taken, outcome_of, is_reserved, asked_of, deadline_of, is_barred, choices_of, waiting_requests}
use Rattle.grid_types.specs.Legal.{legal}
use Rattle.grid_types.specs.Permitted.{permitted}
use Rattle.grid_types.specs.Fit.{fits, matches_slot}
use Rattle.grid_types.specs.HistoryLaws.{Known, laws}
use Rattle.request_laws.specs.Kinds.{cap_eq, choices_eq, barred_nodes, same_bars, is_alike, firsts, kinds, kinds_at, choices_in, looking_below, choices_below, is_covered, ChoicesAdd}
use Rattle.request_laws.proofs.NarrowLemmas.{fits-is}
use Rattle.request_laws.proofs.MemoryLemmas.{off}

-- equal choices
value-is : Known → (a b : CapValue) → same_value a b ≡ true → a ≡ b
value-is proved (value.Text a) (value.Text b) h = ap value.Text ((laws proved).bytes_eq-is a b h)
value-is proved (value.Text a) (value.Flag b) h = absurd (cc)
value-is proved (value.Text a) (value.Raw b) h = absurd (cc)
value-is proved (value.Flag true) (value.Flag true) h = refl
value-is proved (value.Flag true) (value.Flag false) h = absurd (cc)
value-is proved (value.Flag false) (value.Flag true) h = absurd (cc)
value-is proved (value.Flag false) (value.Flag false) h = refl
value-is proved (value.Flag true) (value.Text b) h = absurd (cc)
value-is proved (value.Flag false) (value.Text b) h = absurd (cc)
value-is proved (value.Flag true) (value.Raw b) h = absurd (cc)
value-is proved (value.Flag false) (value.Raw b) h = absurd (cc)
value-is proved (value.Raw a) (value.Raw b) h = ap value.Raw ((laws proved).bytes_eq-is a b h)
value-is proved (value.Raw a) (value.Text b) h = absurd (cc)
value-is proved (value.Raw a) (value.Flag b) h = absurd (cc)

value-same : Known → (a : CapValue) → same_value a a ≡ true
value-same proved (value.Text a) = (laws proved).bytes_eq-same a
value-same proved (value.Flag true) = refl
value-same proved (value.Flag false) = refl
value-same proved (value.Raw a) = (laws proved).bytes_eq-same a

cap-is : Known → (a b : Cap) → cap_eq a b ≡ true → a ≡ b
cap-is proved a b h =
    let name : a.name ≡ b.name = (laws proved).bytes_eq-is a.name b.name ((laws proved).and_left _ _ h) in
    let what : a.value ≡ b.value = value-is proved a.value b.value ((laws proved).and_right _ _ h) in
    let half : a ≡ record a { value = b.value } = subst (λ (v : CapValue). a ≡ record a { value = v }) what refl in
    subst (λ (n : List ℕ). a ≡ record b { name = n }) name half

cap-same : Known → (a b : Cap) → a ≡ b → cap_eq a b ≡ true
cap-same proved a b e = subst (λ (z : Cap). cap_eq a z ≡ true) e (rw ((laws proved).bytes_eq-same a.name, value-same proved a.value) refl)

caps-decide : Known → (xs ys : List Cap) → Decides (pointwise cap_eq xs ys) (xs ≡ ys)
caps-decide proved xs ys = slice_eq-Decides (λ a b. (cap-is proved a b, cap-same proved a b)) xs ys (pointwise cap_eq xs ys) refl

pub choices-decide : Known → (xs ys : List (List Cap)) → Decides (choices_eq xs ys) (xs ≡ ys)
choices-decide proved xs ys = slice_eq-Decides (caps-decide proved) xs ys (choices_eq xs ys) refl

-- equal bars
pub bool-iff : (a b : Bool) → (a ≡ true → b ≡ true) → (b ≡ true → a ≡ true) → a ≡ b
bool-iff true true f g = refl
bool-iff true false f g = sym (f refl)
bool-iff false true f g = g refl
bool-iff false false f g = refl

barred-listed : Known → (H : List Entry) (r n : ℕ) → has n (barred_nodes H r) ≡ is_barred H r n
barred-listed proved [] r n = refl
barred-listed proved (e ∷ H) r n = by_change e.caller e.change (barred-listed proved H r n)
  where
    by_number : (v w : Bool) (m : ℕ) (xs : List ℕ) → nat_eq n m ≡ nat_eq m n → has n xs ≡ w → has n (with_last xs (when v m)) ≡ ((v && nat_eq m n) || w)
    by_number true w m xs s h = (laws proved).has-last n m xs ∙ rw (h, s) (or-turned w (nat_eq m n))
      where
        or-turned : (a b : Bool) → (a || b) ≡ (b || a)
        or-turned true true = refl
        or-turned true false = refl
        or-turned false true = refl
        or-turned false false = refl
    by_number false w m xs s h = h

    by_change : (k : ℕ) (ch : Change) → has n (barred_nodes H r) ≡ is_barred H r n → has n (barred_nodes (entry k ch ∷ H) r) ≡ is_barred (entry k ch ∷ H) r n
    by_change k (change.Failed q t w o last at) before = by_number (nat_eq q r) (is_barred H r n) t.node (barred_nodes H r) (grind arith) before
    by_change k ch before = before

-- the bars of two requests are the same where they are so at each node
pub bars-at : Known → (H : List Entry) (q r : ℕ) → same_bars H q r ≡ true → (n : ℕ) → is_barred H q n ≡ is_barred H r n
bars-at proved H q r h n = bool-iff (is_barred H q n) (is_barred H r n)
    (λ b. (laws proved).all-at (is_barred H r) n (barred_nodes H q) ((laws proved).and_left _ _ h) (barred-listed proved H q n ∙ b))
    (λ b. (laws proved).all-at (is_barred H q) n (barred_nodes H r) ((laws proved).and_right _ _ h) (barred-listed proved H r n ∙ b))

pub bars-of : Known → (H : List Entry) (q r : ℕ) → ((n : ℕ) → is_barred H q n ≡ is_barred H r n) → same_bars H q r ≡ true
bars-of proved H q r same =
    let here : list_all (is_barred H r) (barred_nodes H q) ≡ true = (laws proved).all-of (is_barred H r) (barred_nodes H q) (λ n t. sym (same n) ∙ sym (barred-listed proved H q n) ∙ t) in
    let there : list_all (is_barred H q) (barred_nodes H r) ≡ true = (laws proved).all-of (is_barred H q) (barred_nodes H r) (λ n t. same n ∙ sym (barred-listed proved H r n) ∙ t) in
    rw (here, there) refl

bars-symm : Known → (H : List Entry) (q r : ℕ) → same_bars H q r ≡ same_bars H r q
bars-symm proved H q r = bool-iff (same_bars H q r) (same_bars H r q) (λ h. bars-of proved H r q (λ n. sym (bars-at proved H q r h n))) (λ h. bars-of proved H q r (λ n. sym (bars-at proved H r q h n)))

bars-congr : Known → (H : List Entry) (p q r : ℕ) → same_bars H p q ≡ true → same_bars H p r ≡ same_bars H q r
bars-congr proved H p q r e = bool-iff (same_bars H p r) (same_bars H q r)
    (λ h. bars-of proved H q r (λ n. sym (bars-at proved H p q e n) ∙ bars-at proved H p r h n))
    (λ h. bars-of proved H p r (λ n. bars-at proved H p q e n ∙ bars-at proved H q r h n))

choices-refl : Known → (xs : List (List Cap)) → choices_eq xs xs ≡ true
choices-refl proved xs = (choices-decide proved xs xs).1 refl

choices-symm : Known → (xs ys : List (List Cap)) → choices_eq xs ys ≡ choices_eq ys xs
choices-symm proved xs ys = by_both (choices_eq xs ys) refl (choices_eq ys xs) refl
  where
    by_both : (v : Bool) → choices_eq xs ys ≡ v → (w : Bool) → choices_eq ys xs ≡ w → v ≡ w
    by_both true e true f = refl
    by_both false e false f = refl
    by_both true e false f = sym ((choices-decide proved ys xs).1 (sym ((choices-decide proved xs ys).0 e))) ∙ f
    by_both false e true f = sym e ∙ (choices-decide proved xs ys).1 (sym ((choices-decide proved ys xs).0 f))

pub kinds-divide : Known → (H : List Entry) → IsEquivalence (is_alike H)
kinds-divide proved H = record {
  refl = λ r. rw (choices-refl proved (choices_of H r), bars-of proved H r r (λ n. refl)) refl;
  symm = λ q r. rw (choices-symm proved (choices_of H q) (choices_of H r), bars-symm proved H q r) refl;
  congr = λ p q r h.
      let choices : choices_of H p ≡ choices_of H q = (choices-decide proved (choices_of H p) (choices_of H q)).0 ((laws proved).and_left _ _ h) in
      let bars : same_bars H p r ≡ same_bars H q r = bars-congr proved H p q r ((laws proved).and_right _ _ h) in
      rw (choices, bars) refl;
}

pub alike-choices : Known → (H : List Entry) (q r : ℕ) → is_alike H q r ≡ true → choices_of H q ≡ choices_of H r
alike-choices proved H q r h = (choices-decide proved (choices_of H q) (choices_of H r)).0 ((laws proved).and_left _ _ h)

pub alike-fit-alike : Known → (H : List Entry) (q r k : ℕ) (s : SlotId) (m : ℕ) → is_alike H q r ≡ true → is_waiting (place H r) ≡ true → nat_lt m (deadline_of H r) ≡ true → fits H q k s m ≡ true → fits H r k s m ≡ true
alike-fit-alike proved H q r k s m alike waits in_time f =
    let told = (laws proved).fits-tells H q k s m f in
    let choices : choices_of H q ≡ choices_of H r = alike-choices proved H q r alike in
    let bars : is_barred H q s.node ≡ is_barred H r s.node = bars-at proved H q r ((laws proved).and_right _ _ alike) s.node in
    let unused : is_free (holder H s) ≡ true = rw told.is_free refl in
    let match : matches_slot H q k s ≡ matches_slot H r k s = rw choices refl in
    fits-is H r k s m waits in_time unused told.is_up (sym bars ∙ told.not_barred) told.below_max told.sessions_left (sym match ∙ told.matches)

-- lists that ascend
abbrev pub ascends : List ℕ → Bool
ascends [] = true
ascends (x ∷ xs) = list_all (nat_lt x) xs && ascends xs

all-last : (x m : ℕ) (xs : List ℕ) → list_all (nat_lt x) xs ≡ true → nat_lt x m ≡ true → list_all (nat_lt x) (xs ++ m ∷ []) ≡ true
all-last x m [] h l = rw l refl
all-last x m (y ∷ ys) h l = grind (arith, all-last x m ys)

ascends-last : Known → (m : ℕ) (xs : List ℕ) → ascends xs ≡ true → list_all (λ n. nat_lt n m) xs ≡ true → ascends (xs ++ m ∷ []) ≡ true
ascends-last proved m [] s h = refl
ascends-last proved m (x ∷ xs) s h =
    let here : list_all (nat_lt x) (xs ++ m ∷ []) ≡ true = all-last x m xs ((laws proved).and_left (list_all (nat_lt x) xs) (ascends xs) s) ((laws proved).and_left (nat_lt x m) (list_all (λ n. nat_lt n m) xs) h) in
    let rest : ascends (xs ++ m ∷ []) ≡ true = ascends-last proved m xs ((laws proved).and_right (list_all (nat_lt x) xs) (ascends xs) s) ((laws proved).and_right (nat_lt x m) (list_all (λ n. nat_lt n m) xs) h) in
    rw (here, rest) refl

ascends-filter : Known → (p : ℕ → Bool) (xs : List ℕ) → ascends xs ≡ true → ascends (filter p xs) ≡ true
ascends-filter proved p [] s = refl
ascends-filter proved p (x ∷ xs) s = by_test (p x) (ascends-filter proved p xs ((laws proved).and_right _ _ s))
  where
    by_test : (v : Bool) → ascends (filter p xs) ≡ true → ascends (cond v (x ∷ filter p xs) (filter p xs)) ≡ true
    by_test true rest = rw ((laws proved).all-filter (nat_lt x) p xs ((laws proved).and_left _ _ s), rest) refl
    by_test false rest = rest

requests-ascend : Known → (c : HubConfig) (H : List Entry) → legal c H ≡ true → ascends (requests H) ≡ true
requests-ascend proved c [] l = refl
requests-ascend proved c (e ∷ H) l = by_change e.caller e.change ((laws proved).legal-permitted c e H l) (requests-ascend proved c H ((laws proved).legal-before c e H l))
  where
    by_change : (k : ℕ) (ch : Change) → permitted c H k ch ≡ true → ascends (requests H) ≡ true → ascends (requests (entry k ch ∷ H)) ≡ true
    by_change k (change.Queued m choices d at) p before =
        let next : m ≡ next_request c H = (laws proved).permitted-Queued c H k m choices d at p in
        ascends-last proved m (requests H) before (rw next ((laws proved).requests-distinct c H ((laws proved).legal-before c e H l)).1)
    by_change k ch p before = before

all-has : Known → (x r : ℕ) (xs : List ℕ) → list_all (nat_lt x) xs ≡ true → has r xs ≡ true → x < r
all-has proved x r [] h t = absurd (cc)
all-has proved x r (y ∷ ys) h t = by_number (nat_eq r y) refl t (all-has proved x r ys ((laws proved).and_right _ _ h))
  where
    by_number : (v : Bool) → nat_eq r y ≡ v → (v || has r ys) ≡ true → (has r ys ≡ true → x < r) → x < r
    by_number true e t rest = let low : nat_lt x y ≡ true = (laws proved).and_left _ _ h in grind arith
    by_number false e t rest = rest t

-- the first of a request's kind
record FirstOf (alike : ℕ → ℕ → Bool) (xs : List ℕ) (r : ℕ) : Type 0 where
  pub number : ℕ
  pub there : has number (firsts alike xs) ≡ true
  pub is_alike : alike number r ≡ true
  pub low : number ≤ r

has-first : (x : ℕ) (xs : List ℕ) → has x (x ∷ xs) ≡ true
has-first x xs = grind arith

has-more : (q x : ℕ) (xs : List ℕ) → has q xs ≡ true → has q (x ∷ xs) ≡ true
has-more q x xs h = grind arith

module _ (proved : Known) (E : ℕ → ℕ → Bool) (eq : IsEquivalence E) where
  first-of : (xs : List ℕ) (r : ℕ) → ascends xs ≡ true → has r xs ≡ true → FirstOf E xs r
  first-of [] r a h = absurd (cc)
  first-of (x ∷ xs) r a h = by_number (nat_eq r x) refl h (first-of xs r ((laws proved).and_right _ _ a))
    where
      others : List ℕ
      others = filter (λ q. not (E x q)) (firsts E xs)

      by_kind : (rest : FirstOf E xs r) → has r xs ≡ true → (v : Bool) → E x rest.number ≡ v → FirstOf E (x ∷ xs) r
      by_kind rest t true e = record {
        number = x;
        there = has-first x others;
        is_alike = eq.congr x rest.number r e ∙ rest.is_alike;
        low = (let l : x < r = all-has proved x r xs ((laws proved).and_left _ _ a) t in omega arith);
      }
      by_kind rest t false e = record {
        number = rest.number;
        there = has-more rest.number x others ((laws proved).has-filter (λ q. not (E x q)) rest.number (firsts E xs) ∙ rw (e, rest.there) refl);
        is_alike = rest.is_alike;
        low = rest.low;
      }

      by_number : (v : Bool) → nat_eq r x ≡ v → (v || has r xs) ≡ true → (has r xs ≡ true → FirstOf E xs r) → FirstOf E (x ∷ xs) r
      by_number true e t later = (let same : x ≡ r = grind arith in
          record { number = x; there = has-first x others; is_alike = subst (λ (z : ℕ). E x z ≡ true) same (eq.refl x); low = omega arith })
      by_number false e t later = (let rest : FirstOf E xs r = later t in by_kind rest t (E x rest.number) refl)

  firsts-has : (xs : List ℕ) (q : ℕ) → has q (firsts E xs) ≡ true → has q xs ≡ true
  firsts-has [] q h = h
  firsts-has (x ∷ xs) q h = by_number (nat_eq q x) refl h (firsts-has xs q)
    where
      by_number : (v : Bool) → nat_eq q x ≡ v → (v || has q (filter (λ y. not (E x y)) (firsts E xs))) ≡ true → (has q (firsts E xs) ≡ true → has q xs ≡ true) → (v || has q xs) ≡ true
      by_number true e t rest = refl
      by_number false e t rest = rest ((laws proved).and_right _ _ (sym ((laws proved).has-filter (λ y. not (E x y)) q (firsts E xs)) ∙ t))

  -- weights that are the same through a kind
  abbrev Fair : (ℕ → ℕ) → Type 0
  Fair g = (y z : ℕ) → E y z ≡ true → g y ≡ g z

  abbrev without : ℕ → (ℕ → ℕ) → ℕ → ℕ
  without x g y = cond (E x y) 0 (g y)

  without-fair : (x : ℕ) (g : ℕ → ℕ) → Fair g → Fair (without x g)
  without-fair x g fair y z e =
      let same : E x y ≡ E x z = eq.symm x y ∙ eq.congr y z x e ∙ eq.symm z x in
      rw (same, fair y z e) refl

  total-same : (f g : ℕ → ℕ) (xs : List ℕ) → ((y : ℕ) → f y ≡ g y) → total f xs ≡ total g xs
  total-same f g [] h = refl
  total-same f g (x ∷ xs) h = rw (h x, total-same f g xs h) refl

  total-without : (x : ℕ) (g : ℕ → ℕ) (xs : List ℕ) → total g (filter (λ q. not (E x q)) xs) ≡ total (without x g) xs
  total-without x g [] = refl
  total-without x g (y ∷ ys) = by_kind (E x y) (total-without x g ys)
    where
      by_kind : (v : Bool) → total g (filter (λ q. not (E x q)) ys) ≡ total (without x g) ys →
          total g (cond (not v) (y ∷ filter (λ q. not (E x q)) ys) (filter (λ q. not (E x q)) ys)) ≡ cond v 0 (g y) + total (without x g) ys
      by_kind true rest = (let r = rest in omega arith)
      by_kind false rest = ap (λ n. g y + n) rest

  -- one kind less
  split : (x : ℕ) (g : ℕ → ℕ) (ys : List ℕ) → Fair g → total g (firsts E ys) ≤ g x + total (without x g) (firsts E ys)
  split x g [] fair = omega arith
  split x g (y ∷ ys) fair = by_kind (E x y) refl (split x (without y g) ys (without-fair y g fair))
    where
      own : total g (firsts E (y ∷ ys)) ≡ g y + total (without y g) (firsts E ys)
      own = ap (λ n. g y + n) (total-without y g (firsts E ys))

      less : total (without x g) (firsts E (y ∷ ys)) ≡ without x g y + total (without y (without x g)) (firsts E ys)
      less = ap (λ n. without x g y + n) (total-without y (without x g) (firsts E ys))

      covered : E x y ≡ true → (z : ℕ) → without y g z ≡ without y (without x g) z
      covered e z = (let same : E x z ≡ E y z = eq.congr x y z e in by_z (E y z) (E x z) same)
        where
          by_z : (v w : Bool) → w ≡ v → cond v 0 (g z) ≡ cond v 0 (cond w 0 (g z))
          by_z true w s = refl
          by_z false w s = rw s refl

      turned : (z : ℕ) → without x (without y g) z ≡ without y (without x g) z
      turned z = by_z (E x z) (E y z)
        where
          by_z : (v w : Bool) → cond v 0 (cond w 0 (g z)) ≡ cond w 0 (cond v 0 (g z))
          by_z true true = refl
          by_z true false = refl
          by_z false true = refl
          by_z false false = refl

      most : (v : Bool) (n : ℕ) → cond v 0 n ≤ n
      most true n = omega arith
      most false n = omega arith

      by_kind : (v : Bool) → E x y ≡ v → total (without y g) (firsts E ys) ≤ without y g x + total (without x (without y g)) (firsts E ys) → total g (firsts E (y ∷ ys)) ≤ g x + total (without x g) (firsts E (y ∷ ys))
      by_kind true e before = (
          let same : g x ≡ g y = fair x y e in
          let rest : total (without y g) (firsts E ys) ≡ total (without y (without x g)) (firsts E ys) = total-same _ _ (firsts E ys) (covered e) in
          let a = own in let b = less in
          omega arith)
      by_kind false e before = (
          let other : without x g y ≡ g y = ap (λ v. cond v 0 (g y)) e in
          let same : total (without x (without y g)) (firsts E ys) ≡ total (without y (without x g)) (firsts E ys) = total-same _ _ (firsts E ys) turned in
          let small : without y g x ≤ g x = most (E y x) (g x) in
          let a = own in let b = less in
          omega arith)

  fewer-kinds : (p : ℕ → Bool) (g : ℕ → ℕ) (xs : List ℕ) → Fair g → total g (firsts E (filter p xs)) ≤ total g (firsts E xs)
  fewer-kinds p g [] fair = omega arith
  fewer-kinds p g (x ∷ xs) fair = by_test (p x) (fewer-kinds p (without x g) xs (without-fair x g fair))
    where
      all : total g (firsts E (x ∷ xs)) ≡ g x + total (without x g) (firsts E xs)
      all = ap (λ n. g x + n) (total-without x g (firsts E xs))

      by_test : (v : Bool) → total (without x g) (firsts E (filter p xs)) ≤ total (without x g) (firsts E xs) →
          total g (firsts E (cond v (x ∷ filter p xs) (filter p xs))) ≤ total g (firsts E (x ∷ xs))
      by_test true rest = (
          let some : total g (firsts E (x ∷ filter p xs)) ≡ g x + total (without x g) (firsts E (filter p xs)) = ap (λ n. g x + n) (total-without x g (firsts E (filter p xs))) in
          let a = all in omega arith)
      by_test false rest = (let one = split x g (filter p xs) fair in let a = all in omega arith)

pub few-kinds : Known → (H : List Entry) (m : ℕ) → choices_in H (kinds_at H m) ≤ choices_in H (kinds H)
few-kinds proved H m = fewer-kinds proved (is_alike H) (kinds-divide proved H) (λ r. nat_lt m (deadline_of H r)) (λ r. length (choices_of H r)) (waiting_requests H) (λ q r h. ap length (alike-choices proved H q r h))

waiting-is : (p : Place) → is_waiting p ≡ true → p ≡ waiting
waiting-is waiting e = refl
waiting-is p e = absurd (cc)

pub waiting-listed : Known → (H : List Entry) (r : ℕ) → is_waiting (place H r) ≡ true → has r (waiting_requests H) ≡ true
waiting-listed proved H r w =
    let asked : is_some (asked_of H r) ≡ true = ((laws proved).waiting-parts (is_taken H r) (outcome_of H r) (is_reserved H r) (is_some (asked_of H r)) (waiting-is (place H r) w)).2 in
    (laws proved).has-filter (λ q. is_waiting (place H q)) r (requests H) ∙ rw (w, (laws proved).asked-listed H r asked) refl

pub kinds-tell : Known → (c : HubConfig) (H : List Entry) (m below : ℕ) → legal c H ≡ true →
    ((r k : ℕ) (s : SlotId) → has r (kinds_at H m) ≡ true → r < below → fits H r k s m ≡ false) → (r k : ℕ) (s : SlotId) → r < below → fits H r k s m ≡ false
kinds-tell proved c H m below l none r k s b = off (fits H r k s m) (λ f.
    let told = (laws proved).fits-tells H r k s m f in
    let waits : is_waiting (place H r) ≡ true = rw told.is_waiting refl in
    let in_time : nat_lt m (deadline_of H r) ≡ true = told.in_time in
    let listed : has r (filter (λ q. nat_lt m (deadline_of H q)) (waiting_requests H)) ≡ true =
    (laws proved).has-filter (λ q. nat_lt m (deadline_of H q)) r (waiting_requests H) ∙ rw (in_time, waiting-listed proved H r waits) refl in
    let up : ascends (filter (λ q. nat_lt m (deadline_of H q)) (waiting_requests H)) ≡ true =
    ascends-filter proved (λ q. nat_lt m (deadline_of H q)) (waiting_requests H) (ascends-filter proved (λ q. is_waiting (place H q)) (requests H) (requests-ascend proved c H l)) in
    let first = first-of proved (is_alike H) (kinds-divide proved H) (filter (λ q. nat_lt m (deadline_of H q)) (waiting_requests H)) r up listed in
    let inside : has first.number (filter (λ q. nat_lt m (deadline_of H q)) (waiting_requests H)) ≡ true = firsts-has proved (is_alike H) (kinds-divide proved H) _ first.number first.there in
    let parts = sym ((laws proved).has-filter (λ q. nat_lt m (deadline_of H q)) first.number (waiting_requests H)) ∙ inside in
    let first_waits : is_waiting (place H first.number) ≡ true = (laws proved).and_left _ _ (sym ((laws proved).has-filter (λ q. is_waiting (place H q)) first.number (requests H)) ∙ (laws proved).and_right _ _ parts) in
    let alike : is_alike H r first.number ≡ true = (kinds-divide proved H).symm r first.number ∙ first.is_alike in
    let low : first.number ≤ r = first.low in
    sym (alike-fit-alike proved H r first.number k s m alike first_waits ((laws proved).and_left _ _ parts) f) ∙ none first.number k s first.there (omega arith))

-- one more request, and the first of each kind
filter-append : (p : ℕ → Bool) (xs ys : List ℕ) → filter p (xs ++ ys) ≡ filter p xs ++ filter p ys
filter-append p [] ys = refl
filter-append p (x ∷ xs) ys = by_test (p x) (filter-append p xs ys)
  where
    by_test : (v : Bool) → filter p (xs ++ ys) ≡ filter p xs ++ filter p ys → cond v (x ∷ filter p (xs ++ ys)) (filter p (xs ++ ys)) ≡ cond v (x ∷ filter p xs) (filter p xs) ++ filter p ys
    by_test true rest = ap (λ zs. x ∷ zs) rest
    by_test false rest = rest

total-append : (f : ℕ → ℕ) (xs ys : List ℕ) → total f (xs ++ ys) ≡ total f xs + total f ys
total-append f [] ys = omega arith
total-append f (x ∷ xs) ys = let rest = total-append f xs ys in omega arith

firsts-next : (E : ℕ → ℕ → Bool) (xs : List ℕ) (r : ℕ) → firsts E (xs ++ r ∷ []) ≡ firsts E xs ++ cond (list_any (λ q. E q r) xs) [] (r ∷ [])
firsts-next E [] r = refl
firsts-next E (x ∷ xs) r =
    ap (λ zs. x ∷ filter (λ q. not (E x q)) zs) (firsts-next E xs r)
    ∙ ap (λ zs. x ∷ zs) (filter-append (λ q. not (E x q)) (firsts E xs) (cond (list_any (λ q. E q r) xs) [] (r ∷ [])))
    ∙ ap (λ zs. x ∷ filter (λ q. not (E x q)) (firsts E xs) ++ zs) (by_any (list_any (λ q. E q r) xs) (E x r) refl)
  where
    by_any : (v w : Bool) → E x r ≡ w → filter (λ q. not (E x q)) (cond v [] (r ∷ [])) ≡ cond (w || v) [] (r ∷ [])
    by_any true true e = refl
    by_any true false e = refl
    by_any false true e = rw e refl
    by_any false false e = rw e refl

none-below : Known → (y x : ℕ) (ys : List ℕ) → list_all (nat_lt y) ys ≡ true → x ≤ y + 1 → filter (λ q. nat_lt q x) ys ≡ []
none-below proved y x [] h l = refl
none-below proved y x (z ∷ zs) h l =
    let above : nat_lt y z ≡ true = (laws proved).and_left (nat_lt y z) (list_all (nat_lt y) zs) h in
    let high : nat_lt z x ≡ false = grind arith in
    let rest : filter (λ q. nat_lt q x) zs ≡ [] = none-below proved y x zs ((laws proved).and_right (nat_lt y z) (list_all (nat_lt y) zs) h) l in
    rw (high, rest) refl

below-next : Known → (r : ℕ) (ys : List ℕ) → ascends ys ≡ true → has r ys ≡ true → filter (λ q. nat_lt q (r + 1)) ys ≡ filter (λ q. nat_lt q r) ys ++ r ∷ []
below-next proved r [] a h = absurd (cc)
below-next proved r (y ∷ ys) a h = by_number (nat_eq r y) refl h (below-next proved r ys ((laws proved).and_right (list_all (nat_lt y) ys) (ascends ys) a))
  where
    up : list_all (nat_lt y) ys ≡ true
    up = (laws proved).and_left (list_all (nat_lt y) ys) (ascends ys) a

    by_number : (v : Bool) → nat_eq r y ≡ v → (v || has r ys) ≡ true → (has r ys ≡ true → filter (λ q. nat_lt q (r + 1)) ys ≡ filter (λ q. nat_lt q r) ys ++ r ∷ []) →
        filter (λ q. nat_lt q (r + 1)) (y ∷ ys) ≡ filter (λ q. nat_lt q r) (y ∷ ys) ++ r ∷ []
    by_number true e t rest =
        let same : y ≡ r = grind arith in
        let in_more : nat_lt y (r + 1) ≡ true = grind arith in
        let out : nat_lt y r ≡ false = grind arith in
        let more : filter (λ q. nat_lt q (r + 1)) ys ≡ [] = none-below proved y (r + 1) ys up (omega arith) in
        let less : filter (λ q. nat_lt q r) ys ≡ [] = none-below proved y r ys up (omega arith) in
        rw (in_more, out, more, less) (ap (λ z. z ∷ []) same)
    by_number false e t rest =
        let low : y < r = all-has proved y r ys up t in
        let in_more : nat_lt y (r + 1) ≡ true = grind arith in
        let in_less : nat_lt y r ≡ true = grind arith in
        rw (in_more, in_less) (ap (λ zs. y ∷ zs) (rest t))

filter-both : (x y : ℕ) (xs : List ℕ) → x ≤ y → filter (λ q. nat_lt q x) (filter (λ q. nat_lt q y) xs) ≡ filter (λ q. nat_lt q x) xs
filter-both x y [] l = refl
filter-both x y (z ∷ zs) l = by_low (nat_lt z x) refl (filter-both x y zs l)
  where
    by_low : (v : Bool) → nat_lt z x ≡ v → filter (λ q. nat_lt q x) (filter (λ q. nat_lt q y) zs) ≡ filter (λ q. nat_lt q x) zs →
        filter (λ q. nat_lt q x) (filter (λ q. nat_lt q y) (z ∷ zs)) ≡ filter (λ q. nat_lt q x) (z ∷ zs)
    by_low true e rest = let high : nat_lt z y ≡ true = grind arith in rw (high, e) (ap (λ ws. z ∷ ws) rest)
    by_low false e rest = by_high (nat_lt z y)
      where
        by_high : (w : Bool) → filter (λ q. nat_lt q x) (cond w (z ∷ filter (λ q. nat_lt q y) zs) (filter (λ q. nat_lt q y) zs)) ≡ filter (λ q. nat_lt q x) (z ∷ zs)
        by_high true = rw e rest
        by_high false = rw e rest

lengths-fair : (proved : Known) → (H : List Entry) → Fair proved (is_alike H) (kinds-divide proved H) (λ r. length (choices_of H r))
lengths-fair proved H q r h = ap length (alike-choices proved H q r h)

pub choices-add : Known → (c : HubConfig) → ChoicesAdd c
choices-add proved c = record {
  one_more = λ H m r l w t.
      let looking : List ℕ = filter (λ q. nat_lt m (deadline_of H q)) (waiting_requests H) in
      let listed : has r (filter (λ q. nat_lt m (deadline_of H q)) (waiting_requests H)) ≡ true =
      (laws proved).has-filter (λ q. nat_lt m (deadline_of H q)) r (waiting_requests H) ∙ rw (t, waiting-listed proved H r w) refl in
      let up : ascends (filter (λ q. nat_lt m (deadline_of H q)) (waiting_requests H)) ≡ true =
      ascends-filter proved (λ q. nat_lt m (deadline_of H q)) (waiting_requests H) (ascends-filter proved (λ q. is_waiting (place H q)) (requests H) (requests-ascend proved c H l)) in
      ap (λ rs. choices_in H (firsts (is_alike H) rs)) (below-next proved r (filter (λ q. nat_lt m (deadline_of H q)) (waiting_requests H)) up listed)
      ∙ ap (λ rs. choices_in H rs) (firsts-next (is_alike H) (looking_below H m r) r)
      ∙ total-append (λ q. length (choices_of H q)) (firsts (is_alike H) (looking_below H m r)) (cond (is_covered H m r) [] (r ∷ []))
      ∙ ap (λ n. choices_below H m r + n) (alone H m r (is_covered H m r));
  grow = λ H m x y h. subst (λ (rs : List ℕ). choices_in H (firsts (is_alike H) rs) ≤ choices_below H m y) (filter-both x y (filter (λ q. nat_lt m (deadline_of H q)) (waiting_requests H)) h)
      (fewer-kinds proved (is_alike H) (kinds-divide proved H) (λ r. nat_lt r x) (λ r. length (choices_of H r)) (looking_below H m y) (lengths-fair proved H));
  in_all = λ H m x.
      let all = few-kinds proved H m in
      let some = fewer-kinds proved (is_alike H) (kinds-divide proved H) (λ r. nat_lt r x) (λ r. length (choices_of H r)) (filter (λ r. nat_lt m (deadline_of H r)) (waiting_requests H)) (lengths-fair proved H) in
      omega arith;
}
  where
    alone : (H : List Entry) (m r : ℕ) (v : Bool) → choices_in H (cond v [] (r ∷ [])) ≡ cond v 0 (length (choices_of H r))
    alone H m r true = refl
    alone H m r false = omega arith
