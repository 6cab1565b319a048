-- What a walk over the leads finds is what a walk over all requests finds.
use Rattle.std.proofs.Common.{◌≡◌, ℕ, zero, suc, ◌+◌, ◌*◌, ◌<◌, ◌≤◌, Bool, true, false, ◌||◌, List, [], ◌∷◌, ◌++◌, length, get_or, refl, sym, ap, ◌∙◌, subst, arith}
use Rattle.std.specs.Prelude.{Option, None, Some, option_map, nat_eq}
use Rattle.std.specs.Cmp.{IsEquivalence}
use Rattle.std.proofs.Math.Nat.{mul-le-mul_right}
use Rattle.grid_types.specs.declared.entry.Entry.{Entry}
use Rattle.grid_types.specs.declared.names.SlotId.{SlotId}
use Rattle.grid_types.specs.declared.capabilities.Cap.{Cap}
use Rattle.grid_types.specs.Lists.{total, has}
use Rattle.grid_types.specs.Requests.{place, is_waiting, choices_of}
use Rattle.grid_types.specs.Fit.{fits}
use Rattle.grid_types.specs.Choice.{chosen}
use Rattle.hub_walks.specs.Laws.{Known, laws}
use Rattle.request_laws.specs.Kinds.{is_alike, choices_in, kinds}
use Rattle.request_laws.specs.Leads.{HasLead, LeadKinds}
use Rattle.session_queue.specs.Table.{IsInTime, FindsInTime}
use Rattle.hub_walks.specs.declared.assignment.Assignment.{Assignment}
use Rattle.hub_walks.specs.First.{as_chosen, IsFound, IsMore, is_passed, request_of}
use Rattle.hub_walks.proofs.WaitingLemmas.{off}
use Rattle.hub_walks.proofs.ChosenLemmas.{chosen-is, chosen-nothing}

-- a lead that is read
pub get-has : (xs : List ℕ) (i d : ℕ) → i < length xs → has (get_or xs i d) xs ≡ true
get-has [] i d h = absurd (omega arith)
get-has (x ∷ xs) zero d h = grind arith
get-has (x ∷ xs) (suc i) d h = or-second (nat_eq (get_or xs i d) x) (has (get_or xs i d) xs) (get-has xs i d (omega arith))
  where
    or-second : (a b : Bool) → b ≡ true → (a || b) ≡ true
    or-second true b h = refl
    or-second false b h = h

-- one of the leads so far, or the last
same-is : (m n : ℕ) → nat_eq m n ≡ true → m ≡ n
same-is m n h = grind arith

last-or : Known → {X : Type 0} (n q : ℕ) (ls : List ℕ) → has n (ls ++ q ∷ []) ≡ true → (n ≡ q → X) → (has n ls ≡ true → X) → X
last-or proved {X} n q ls h f g = by_number (nat_eq n q) refl (sym ((laws proved).history.has-last n q ls) ∙ h)
  where
    first-of : (w : Bool) → (w || false) ≡ true → w ≡ true
    first-of true t = refl
    first-of false t = t

    by_number : (v : Bool) → nat_eq n q ≡ v → (has n ls || v) ≡ true → X
    by_number true e t = f (same-is n q e)
    by_number false e t = g (first-of (has n ls) t)

-- what the leads cost
total-append : (f : ℕ → ℕ) (xs ys : List ℕ) → total f (xs ++ ys) ≡ total f xs + total f ys
total-append f [] ys = omega arith
total-append f (x ∷ xs) ys = let rest = total-append f xs ys in omega arith

times-more : (a b g : ℕ) → (a + b) * g ≡ a * g + b * g
times-more a b g = grind arith

pub cost-leads : (H : List Entry) (ls next : List ℕ) (lead g s t u : ℕ) → next ≡ ls ++ lead ∷ [] → u ≤ s + choices_in H ls * g → t ≤ u + length (choices_of H lead) * g → t ≤ s + choices_in H next * g
cost-leads H ls next lead g s t u e before step =
    let one : choices_in H (lead ∷ []) ≡ length (choices_of H lead) = omega arith in
    let more : choices_in H next ≡ choices_in H ls + length (choices_of H lead) =
    ap (λ xs. choices_in H xs) e ∙ total-append (λ r. length (choices_of H r)) ls (lead ∷ []) ∙ ap (λ n. choices_in H ls + n) one in
    let all : choices_in H next * g ≡ choices_in H ls * g + length (choices_of H lead) * g = ap (λ n. n * g) more ∙ times-more (choices_in H ls) (length (choices_of H lead)) g in
    omega arith

pub cost-kinds : Known → (H : List Entry) (ls : List ℕ) (g s t : ℕ) → LeadKinds H ls → t ≤ s + choices_in H ls * g → t ≤ s + choices_in H (kinds H) * g
cost-kinds proved H ls g s t w h = let few = mul-le-mul_right g ((laws proved).kinds.leads-are-few H ls w) in omega arith

pub cost-alike : Known → (H : List Entry) (l q g s t : ℕ) → is_alike H l q ≡ true → t ≤ s + length (choices_of H q) * g → t ≤ s + length (choices_of H l) * g
cost-alike proved H l q g s t h c = let same : choices_of H l ≡ choices_of H q = (laws proved).kinds.alike-choices H l q h in subst (λ (xs : List (List Cap)). t ≤ s + length xs * g) (sym same) c

-- a lead is the least of its kind
lead-low : Known → (H : List Entry) (ls : List ℕ) (l r : ℕ) → LeadKinds H ls → has l ls ≡ true → is_waiting (place H r) ≡ true → is_alike H l r ≡ true → l ≤ r
lead-low proved H ls l r w inside waits alike = by_lead (w.covered r waits)
  where
    eq : IsEquivalence (is_alike H)
    eq = (laws proved).kinds.kinds-divide H

    by_lead : HasLead (is_alike H) ls r → l ≤ r
    by_lead its = by_number (nat_eq its.lead l) refl
      where
        by_number : (v : Bool) → nat_eq its.lead l ≡ v → l ≤ r
        by_number true e = subst (λ (z : ℕ). z ≤ r) (same-is its.lead l e) its.low
        by_number false e =
            let apart : is_alike H its.lead l ≡ false = (laws proved).requests.apart-two (is_alike H) (record { symm = eq.symm; congr = eq.congr }) its.lead l ls w.apart its.there inside e in
            let both : is_alike H its.lead l ≡ true = eq.congr its.lead r l its.same ∙ (eq.symm r l ∙ alike) in
            absurd (cc)

down : (o : Option ℕ) (q r : ℕ) → q ≤ r → is_passed o r → is_passed o q
down None q r h p = tt
down (Some x) q r h p = omega arith

-- what the first request of a kind that is in time tells of the kind
pub found-lead : Known → (H : List Entry) (m : ℕ) (ls passed : List ℕ) (best more : Option Assignment) (l q : ℕ) → LeadKinds H ls → has l ls ≡ true → FindsInTime H l m (Some q) → IsMore H m best q more → IsFound H m passed best → IsFound H m (passed ++ l ∷ []) more
found-lead proved H m ls passed best more l q w inside found a f = record {
  is_best = a.is_best f.is_best;
  passed = λ x r k s h alike p. last-or proved x l passed h
      (λ e. off (fits H r k s m) (λ fit. own r k s (subst (λ (z : ℕ). is_alike H z r ≡ true) e alike) p fit))
      (λ t. f.passed x r k s t alike (a.kept r p));
}
  where
    eq : IsEquivalence (is_alike H)
    eq = (laws proved).kinds.kinds-divide H

    least : (r : ℕ) → (x : ℕ) × (Some q ≡ Some x) × (x ≤ r) → q ≤ r
    least r x = (let same : q ≡ x.0 = (let e = x.1 in cc) in subst (λ (z : ℕ). z ≤ r) (sym same) x.2)

    own : (r k : ℕ) (s : SlotId) → is_alike H l r ≡ true → is_passed (request_of more) r → fits H r k s m ≡ true → true ≡ false
    own r k s alike p fit =
        let told = (laws proved).history.fits-tells H r k s m fit in
        let waits : is_waiting (place H r) ≡ true = rw told.is_waiting refl in
        let low : q ≤ r = least r (found.between r (record { high = lead-low proved H ls l r w inside waits alike; waits_there = waits; early = told.in_time; same = alike })) in
        let next : IsInTime H l m q = found.right q refl in
        let like : is_alike H r q ≡ true = sym (eq.congr l r q alike) ∙ next.same in
        sym ((laws proved).kinds.alike-fit-alike H r q k s m like next.waits_there next.early fit) ∙ a.passed k s (down (request_of more) q r low p)

pub found-late : Known → (H : List Entry) (m : ℕ) (ls passed : List ℕ) (best : Option Assignment) (l : ℕ) → LeadKinds H ls → has l ls ≡ true → FindsInTime H l m None → IsFound H m passed best → IsFound H m (passed ++ l ∷ []) best
found-late proved H m ls passed best l w inside found f = record {
  is_best = f.is_best;
  passed = λ x r k s h alike p. last-or proved x l passed h
      (λ e. off (fits H r k s m) (λ fit. own r k s (subst (λ (z : ℕ). is_alike H z r ≡ true) e alike) fit))
      (λ t. f.passed x r k s t alike p);
}
  where
    nothing : {X : Type 0} (r : ℕ) → (x : ℕ) × (None ≡ Some x) × (x ≤ r) → X
    nothing r x = (let odd = x.1 in absurd (cc))

    own : (r k : ℕ) (s : SlotId) → is_alike H l r ≡ true → fits H r k s m ≡ true → true ≡ false
    own r k s alike fit =
        let told = (laws proved).history.fits-tells H r k s m fit in
        let waits : is_waiting (place H r) ≡ true = rw told.is_waiting refl in
        nothing r (found.between r (record { high = lead-low proved H ls l r w inside waits alike; waits_there = waits; early = told.in_time; same = alike }))

-- the first assignment of the least request of a lead's kind that a slot fits is the chosen one
none-covered : Known → (H : List Entry) (m : ℕ) (ls : List ℕ) (best : Option Assignment) → LeadKinds H ls → IsFound H m ls best → (r k : ℕ) (s : SlotId) → is_passed (request_of best) r → fits H r k s m ≡ false
none-covered proved H m ls best w f r k s p = off (fits H r k s m) (λ fit.
    let told = (laws proved).history.fits-tells H r k s m fit in
    let waits : is_waiting (place H r) ≡ true = rw told.is_waiting refl in
    let its : HasLead (is_alike H) ls r = w.covered r waits in
    sym fit ∙ f.passed its.lead r k s its.there its.same p)

pub chosen-of-leads : Known → (H : List Entry) (m : ℕ) (ls : List ℕ) (best : Option Assignment) → LeadKinds H ls → IsFound H m ls best → option_map as_chosen best ≡ chosen H m
chosen-of-leads proved H m ls None w f = chosen-nothing proved H m (λ q k s. none-covered proved H m ls None w f q k s tt)
chosen-of-leads proved H m ls (Some a) w f = chosen-is proved H m a.request a f.is_best (λ q k s b. none-covered proved H m ls (Some a) w f q k s b)
