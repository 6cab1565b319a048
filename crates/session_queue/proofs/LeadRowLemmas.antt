-- The table's leads through its calls.
use Rattle.std.proofs.Common.{◌≡◌, ℕ, ◌-◌, ◌<◌, ◌≤◌, Bool, true, false, cond, not, ◌&&◌, ◌||◌, List, [], ◌∷◌, ◌++◌, refl, sym, ap, ◌∙◌, subst, arith}
use Rattle.std.specs.Prelude.{Option, None, Some, Result, OnOk, OnErr, Ok, Err, nat_eq, option_map, is_some, find}
use Rattle.std.specs.List.{list_any}
use Rattle.grid_types.specs.declared.entry.Entry.{Entry}
use Rattle.grid_types.specs.declared.entry.Outcome.{Outcome}
use Rattle.grid_types.specs.Requests.{place, is_waiting}
use Rattle.grid_types.specs.Lists.{has}
use Rattle.session_queue.specs.Laws.{Known, laws}
use Rattle.request_laws.specs.Kinds.{is_alike}
use Rattle.request_laws.specs.Leads.{Leads, LeadKinds}
use Rattle.session_queue.specs.declared.request.Request.{Request}
use Rattle.session_queue.specs.declared.request_table.RequestTable.{RequestTable}
use Rattle.session_queue.specs.Table.{row, Stands, waits, are_like, alike_in, waits_in, waits_but, KeepsLeads, Leaves, Joins, AddsLead, DropsLead, IsNextLike, FindsLike, MapsRow, Settles, SetsRow, SameRows, settling, bytes_in}
use Rattle.session_queue.proofs.FirstLemmas.{gone_waits}
use Rattle.session_queue.proofs.AlikeLemmas.{rows-symm, rows-congr, like-self, like-rows}
use Rattle.session_queue.specs.RequestLaws.{Divides}
use Rattle.session_queue.proofs.LeadLemmas.{leads-same, replaced, dropped, added, covered-too, uncovered, without, same-is, other-is, above-is}

divides : Known → (t : RequestTable) → Divides (alike_in t)
divides proved t = record { symm = λ q r. rows-symm proved (row t q) (row t r); congr = λ p q r. rows-congr proved (row t p) (row t q) (row t r) }

waits-self : Known → (o : Option Request) → waits o ≡ true → are_like o o ≡ true
waits-self proved None h = absurd (cc)
waits-self proved (Some q) h = like-self proved q

not-true : (v : Bool) → not v ≡ true → v ≡ false
not-true true h = absurd (cc)
not-true false h = refl

and-none : (v : Bool) → (v && false) ≡ false
and-none true = refl
and-none false = refl

-- a number that counts without this one
but-waits : Known → (t : RequestTable) (r n : ℕ) → waits_but t r n ≡ true → waits_in t n ≡ true
but-waits proved t r n h = (laws proved).history.and_left (waits (row t n)) (not (nat_eq r n)) h

but-other : Known → (t : RequestTable) (r n : ℕ) → waits_but t r n ≡ true → nat_eq r n ≡ false
but-other proved t r n h = not-true (nat_eq r n) ((laws proved).history.and_right (waits (row t n)) (not (nat_eq r n)) h)

but-is : (t : RequestTable) (r n : ℕ) → waits_in t n ≡ true → nat_eq r n ≡ false → waits_but t r n ≡ true
but-is t r n h f = rw (h, f) refl

-- the other rows are as they were
moved-but : Known → (t v : RequestTable) (r : ℕ) (ls : List ℕ) → ((n : ℕ) → nat_eq r n ≡ false → row v n ≡ row t n) → Leads (alike_in t) (waits_but t r) ls → Leads (alike_in v) (waits_but v r) ls
moved-but proved t v r ls rows w =
    leads-same proved (alike_in t) (alike_in v) (waits_but t r) (waits_but v r) ls (λ n. by_number n (nat_eq r n) refl) (λ p q h g. both p q (rows p (but-other proved t r p h)) (rows q (but-other proved t r q g))) w
  where
    by_number : (n : ℕ) (b : Bool) → nat_eq r n ≡ b → (waits (row t n) && not b) ≡ (waits (row v n) && not b)
    by_number n true e = and-none (waits (row t n)) ∙ sym (and-none (waits (row v n)))
    by_number n false e = ap (λ (o : Option Request). waits o && true) (sym (rows n e))

    both : (p q : ℕ) → row v p ≡ row t p → row v q ≡ row t q → are_like (row t p) (row t q) ≡ are_like (row v p) (row v q)
    both p q e d = sym (ap (λ (o : Option Request). are_like o (row v q)) e ∙ ap (λ (o : Option Request). are_like (row t p) o) d)

moved : Known → (t v : RequestTable) (ls : List ℕ) → ((n : ℕ) → row v n ≡ row t n) → Leads (alike_in t) (waits_in t) ls → Leads (alike_in v) (waits_in v) ls
moved proved t v ls rows w = leads-same proved (alike_in t) (alike_in v) (waits_in t) (waits_in v) ls (λ n. ap waits (sym (rows n)))
    (λ p q h g. sym (ap (λ (o : Option Request). are_like o (row v q)) (rows p) ∙ ap (λ (o : Option Request). are_like (row t p) o) (rows q))) w

-- a request that is no lead
pub leaves-none : Known → (t : RequestTable) (r : ℕ) → list_any (nat_eq r) t.leads.items ≡ false → Leaves t t r
leaves-none proved t r out = record {
  still = λ h. record { of = λ led. uncovered (alike_in t) (waits_in t) (waits_but t r) r t.leads.items (h.of led) out (but-waits proved t r) (λ n. but-is t r n) };
}

-- a lead that no other of its kind follows
pub leaves-alone : Known → (t v : RequestTable) (r : ℕ) → FindsLike t r None → SameRows t v → DropsLead t v r → Leaves t v r
leaves-alone proved t v r f s p = record {
  still = λ h. record {
    of = λ led.
        let before : Leads (alike_in t) (waits_in t) t.leads.items = h.of (sym p.still ∙ led) in
        let rest : Leads (alike_in t) (waits_but t r) (without r t.leads.items) = dropped proved (alike_in t) (waits_in t) (waits_but t r) r t.leads.items before (but-waits proved t r)
        (λ n c alike low. let high : r < n = above-is r n (but-other proved t r n c) low in nothing n (f.between n (record { high = high; waits_there = but-waits proved t r n c; same = alike }))) (λ n. but-is t r n) in
        subst (λ (ls : List ℕ). Leads (alike_in v) (waits_but v r) ls) (sym p.rest) (moved-but proved t v r (without r t.leads.items) (λ n e. s.rows n) rest);
  };
}
  where
    nothing : (n : ℕ) → (q : ℕ) × (None ≡ Some q) × (q ≤ n) → ⊥
    nothing n x = (let odd = x.1 in absurd (cc))

-- a lead that another of its kind follows
pub leaves-next : Known → (t a v : RequestTable) (r q : ℕ) → list_any (nat_eq r) t.leads.items ≡ true → FindsLike t r (Some q) → SameRows t a → DropsLead t a r → SameRows a v → AddsLead a v q → Leaves t v r
leaves-next proved t a v r q inside f s p u m = record {
  still = λ h. record {
    of = λ led.
        let before : Leads (alike_in t) (waits_in t) t.leads.items = h.of (sym p.still ∙ (m.more led).0) in
        let next : IsNextLike t r q = f.right q refl in
        let above : r < q = next.high in
        let other : nat_eq r q ≡ false = other-is r q above in
        let rest : Leads (alike_in t) (waits_but t r) (without r t.leads.items ++ q ∷ []) = replaced proved (alike_in t) (waits_in t) (waits_but t r) r q t.leads.items (divides proved t) before inside next.same (waits-self proved (row t q) next.waits_there)
        (but-is t r q next.waits_there other) (λ n c e. but-waits proved t r n c)
        (λ n c alike low. let high : r < n = above-is r n (but-other proved t r n c) low in least n (f.between n (record { high = high; waits_there = but-waits proved t r n c; same = alike }))) (λ n. but-is t r n) in
        let items : v.leads.items ≡ without r t.leads.items ++ q ∷ [] = (m.more led).1 ∙ ap (λ (ls : List ℕ). ls ++ q ∷ []) p.rest in
        subst (λ (ls : List ℕ). Leads (alike_in v) (waits_but v r) ls) (sym items) (moved-but proved t v r (without r t.leads.items ++ q ∷ []) (λ n e. u.rows n ∙ s.rows n) rest);
  };
}
  where
    least : (n : ℕ) → (x : ℕ) × (Some q ≡ Some x) × (x ≤ n) → q ≤ n
    least n x = (let same : q ≡ x.0 = (let e = x.1 in cc) in subst (λ (z : ℕ). z ≤ n) (sym same) x.2)

-- a request that does not wait
pub joins-none : Known → (t : RequestTable) (r : ℕ) → waits (row t r) ≡ false → Joins t t r
joins-none proved t r out = record {
  still = λ h. record { of = λ led. leads-same proved (alike_in t) (alike_in t) (waits_but t r) (waits_in t) t.leads.items (λ n. by_number n (nat_eq r n) refl) (λ p q x y. refl) (h.of led) };
}
  where
    by_number : (n : ℕ) (b : Bool) → nat_eq r n ≡ b → (waits (row t n) && not b) ≡ waits (row t n)
    by_number n true e = (let same : r ≡ n = same-is r n e in and-none (waits (row t n)) ∙ sym (subst (λ (z : ℕ). waits (row t z) ≡ false) same out))
    by_number n false e = and-one (waits (row t n))
      where
        and-one : (v : Bool) → (v && true) ≡ v
        and-one true = refl
        and-one false = refl

-- what is found of a list
found-passes : (p : ℕ → Bool) (xs : List ℕ) (x : ℕ) → find p xs ≡ Some x → (p x ≡ true) × (has x xs ≡ true)
found-passes p [] x h = absurd (cc)
found-passes p (y ∷ ys) x h = by_test (p y) refl h (found-passes p ys x)
  where
    or-second : (a b : Bool) → b ≡ true → (a || b) ≡ true
    or-second true b h = refl
    or-second false b h = h

    by_test : (v : Bool) → p y ≡ v → cond v (Some y) (find p ys) ≡ Some x → (find p ys ≡ Some x → (p x ≡ true) × (has x ys ≡ true)) → (p x ≡ true) × ((nat_eq x y || has x ys) ≡ true)
    by_test true e h rest = (let same : y ≡ x = cc in let own : nat_eq x y ≡ true = grind arith in (subst (λ (z : ℕ). p z ≡ true) same e, rw own refl))
    by_test false e h rest = ((rest h).0, or-second (nat_eq x y) (has x ys) (rest h).1)

none-passes : (p : ℕ → Bool) (xs : List ℕ) (x : ℕ) → find p xs ≡ None → has x xs ≡ true → p x ≡ false
none-passes p [] x h t = absurd (cc)
none-passes p (y ∷ ys) x h t = by_test (p y) refl h (nat_eq x y) refl t (none-passes p ys x)
  where
    by_test : (v : Bool) → p y ≡ v → cond v (Some y) (find p ys) ≡ None → (w : Bool) → nat_eq x y ≡ w → (w || has x ys) ≡ true → (find p ys ≡ None → has x ys ≡ true → p x ≡ false) → p x ≡ false
    by_test true e h w k t rest = absurd (cc)
    by_test false e h true k t rest = (let same : y ≡ x = grind arith in subst (λ (z : ℕ). p z ≡ false) same e)
    by_test false e h false k t rest = rest h t

-- a request that waits, where a lead of its kind is no greater
pub joins-covered : Known → (t : RequestTable) (r l : ℕ) → Some l ≡ find (λ x. alike_in t x r) t.leads.items → l ≤ r → Joins t t r
joins-covered proved t r l found low = record {
  still = λ h. record {
    of = λ led. (let its = found-passes (λ x. alike_in t x r) t.leads.items l (sym found) in
        covered-too (alike_in t) (waits_but t r) (waits_in t) r l t.leads.items (h.of led) its.1 its.0 low (λ n. but-is t r n) (but-waits proved t r));
  };
}

-- where the lead of its kind is greater
pub joins-over : Known → (t a v : RequestTable) (r l : ℕ) → waits (row t r) ≡ true → Some l ≡ find (λ x. alike_in t x r) t.leads.items → r < l → SameRows t a → DropsLead t a l → SameRows a v → AddsLead a v r → Joins t v r
joins-over proved t a v r l here found high s p u m = record {
  still = λ h. record {
    of = λ led.
        let its = found-passes (λ x. alike_in t x r) t.leads.items l (sym found) in
        let before : Leads (alike_in t) (waits_but t r) t.leads.items = h.of (sym p.still ∙ (m.more led).0) in
        let rest : Leads (alike_in t) (waits_in t) (without l t.leads.items ++ r ∷ []) = replaced proved (alike_in t) (waits_but t r) (waits_in t) l r t.leads.items (divides proved t) before its.1 its.0 (waits-self proved (row t r) here) here
        (λ n. but-is t r n) (λ n c alike low. omega arith) (λ n c e. but-waits proved t r n c) in
        let items : v.leads.items ≡ without l t.leads.items ++ r ∷ [] = (m.more led).1 ∙ ap (λ (ls : List ℕ). ls ++ r ∷ []) p.rest in
        subst (λ (ls : List ℕ). Leads (alike_in v) (waits_in v) ls) (sym items) (moved proved t v (without l t.leads.items ++ r ∷ []) (λ n. u.rows n ∙ s.rows n) rest);
  };
}

-- where no lead is of its kind
pub joins-new : Known → (t v : RequestTable) (r : ℕ) → waits (row t r) ≡ true → None ≡ find (λ x. alike_in t x r) t.leads.items → SameRows t v → AddsLead t v r → Joins t v r
joins-new proved t v r here found s m = record {
  still = λ h. record {
    of = λ led.
        let before : Leads (alike_in t) (waits_but t r) t.leads.items = h.of (m.more led).0 in
        let rest : Leads (alike_in t) (waits_in t) (t.leads.items ++ r ∷ []) = added proved (alike_in t) (waits_but t r) (waits_in t) r t.leads.items before (λ l there. none-passes (λ x. alike_in t x r) t.leads.items l (sym found) there)
        (waits-self proved (row t r) here) here (λ n. but-is t r n) (but-waits proved t r) in
        subst (λ (ls : List ℕ). Leads (alike_in v) (waits_in v) ls) (sym (m.more led).1) (moved proved t v (t.leads.items ++ r ∷ []) s.rows rest);
  };
}

-- a row changes between leaving and joining
pub keeps-leads : Known → (t a b v : RequestTable) (r : ℕ) → Leaves t a r → ((n : ℕ) → nat_eq r n ≡ false → row b n ≡ row a n) → b.leads ≡ a.leads → b.led ≡ a.led → Joins b v r → KeepsLeads t v
keeps-leads proved t a b v r p rows leads led q = record {
  still = λ h. q.still (record {
    of = λ now. subst (λ (ls : List ℕ). Leads (alike_in b) (waits_but b r) ls) (sym (ap (λ x. x.items) leads)) (moved-but proved a b r a.leads.items rows ((p.still h).of (sym led ∙ now)));
  });
}

-- the other rows
pub others-map : (a b : RequestTable) (r : ℕ) (f : Request → Request) → MapsRow a b r f → (n : ℕ) → nat_eq r n ≡ false → row b n ≡ row a n
others-map a b r f p n e = p.rows n ∙ ap (λ v. cond v (option_map f (row a n)) (row a n)) e

pub others-set : (a b : RequestTable) (r : ℕ) (o : Option Request) → SetsRow a b r o → (n : ℕ) → nat_eq r n ≡ false → row b n ≡ row a n
others-set a b r o p n e = p.rows n ∙ ap (λ v. cond v o (row a n)) e

pub others-settle : (a b : RequestTable) (r : ℕ) (o : Outcome) → Settles a b r o → (n : ℕ) → nat_eq r n ≡ false → row b n ≡ row a n
others-settle a b r o p n e = p.rows n ∙ ap (λ v. cond v (option_map (settling o) (row a n)) (row a n)) e

pub others-on : {A E : Type 0} {P : Type 0} (x : Result A E) (a b : RequestTable) (r : ℕ) → OnOk x P → OnErr x (SameRows a b) → (P → (n : ℕ) → nat_eq r n ≡ false → row b n ≡ row a n) → (n : ℕ) → nat_eq r n ≡ false → row b n ≡ row a n
others-on (Ok y) a b r p q f = f p
others-on (Err y) a b r p q f = λ n e. q.rows n

-- calls between two that leave the rows as they are
pub maps-between : (t a b v : RequestTable) (r : ℕ) (f : Request → Request) → SameRows t a → MapsRow a b r f → SameRows b v → MapsRow t v r f
maps-between t a b v r f s p u = record {
  rows = λ n. u.rows n ∙ p.rows n ∙ ap (λ (o : Option Request). cond (nat_eq r n) (option_map f o) o) (s.rows n);
  unsettled = u.unsettled ∙ p.unsettled ∙ s.unsettled;
  bytes = u.bytes ∙ p.bytes ∙ s.bytes;
}

pub sets-between : (t a b v : RequestTable) (r : ℕ) (x : Option Request) → SameRows t a → SetsRow a b r x → SameRows b v → SetsRow t v r x
sets-between t a b v r x s p u = record {
  rows = λ n. u.rows n ∙ p.rows n ∙ ap (λ (o : Option Request). cond (nat_eq r n) x o) (s.rows n);
  unsettled = u.unsettled ∙ p.unsettled ∙ s.unsettled;
  bytes = u.bytes ∙ p.bytes ∙ s.bytes;
}

pub same-between : (t a b v : RequestTable) → SameRows t a → SameRows a b → SameRows b v → SameRows t v
same-between t a b v s p u = record {
  rows = λ n. u.rows n ∙ p.rows n ∙ s.rows n;
  unsettled = u.unsettled ∙ p.unsettled ∙ s.unsettled;
  bytes = u.bytes ∙ p.bytes ∙ s.bytes;
}

pub same-both : (t a v : RequestTable) → SameRows t a → SameRows a v → SameRows t v
same-both t a v s u = record {
  rows = λ n. u.rows n ∙ s.rows n;
  unsettled = u.unsettled ∙ s.unsettled;
  bytes = u.bytes ∙ s.bytes;
}

pub settles-between : (t a b v : RequestTable) (r : ℕ) (o : Outcome) → SameRows t a → Settles a b r o → SameRows b v → Settles t v r o
settles-between t a b v r o s p u = record {
  rows = λ n. u.rows n ∙ p.rows n ∙ ap (λ (x : Option Request). cond (nat_eq r n) (option_map (settling o) x) x) (s.rows n);
  unsettled = u.unsettled ∙ p.unsettled ∙ ap (λ (n : ℕ). n - cond (is_some (row a r)) 1 0) s.unsettled ∙ ap (λ (x : Option Request). t.unsettled - cond (is_some x) 1 0) (s.rows r);
  bytes = u.bytes ∙ p.bytes ∙ ap (λ (n : ℕ). n - bytes_in (row a r)) s.bytes ∙ ap (λ (x : Option Request). t.bytes - bytes_in x) (s.rows r);
}

-- what the leads are of a history
pub lead-kinds : Known → (t : RequestTable) (H : List Entry) → Stands t H → t.led ≡ true → LeadKinds H t.leads.items
lead-kinds proved t H st led = leads-same proved (alike_in t) (is_alike H) (waits_in t) (λ r. is_waiting (place H r)) t.leads.items (λ n. by_row n (row t n) refl) (λ q r h g. by_rows q r (row t q) refl h (row t r) refl g) (st.leads_rows.of led)
  where
    by_row : (n : ℕ) (o : Option Request) → row t n ≡ o → waits o ≡ is_waiting (place H n)
    by_row n None e = sym (gone_waits (place H n) (st.missing n e))
    by_row n (Some q) e = ap is_waiting (st.found n q e).stands_at

    by_rows : (q r : ℕ) (o : Option Request) → row t q ≡ o → waits o ≡ true → (p : Option Request) → row t r ≡ p → waits p ≡ true → are_like o p ≡ is_alike H q r
    by_rows q r None e h p d g = absurd (cc)
    by_rows q r (Some a) e h None d g = absurd (cc)
    by_rows q r (Some a) e h (Some b) d g = like-rows proved a b H q r (st.found q a e) (st.found r b d) (ap is_waiting (sym (st.found q a e).stands_at) ∙ h) (ap is_waiting (sym (st.found r b d).stands_at) ∙ g)
