-- Rows at their places: which rows an order has, and how often a place stands in a list.
use Prim.Native.Nat.{zero, suc}
use Rattle.std.proofs.Common.{◌≡◌, ℕ, ◌+◌, ◌<◌, ◌≤◌, Bool, true, false, cond, ◌&&◌, List, [], ◌∷◌, ◌++◌, length, take, drop, Option, None, Some, refl, ap, sym, ◌∙◌, subst, arith}
use Rattle.std.specs.Prelude.{nat_eq, nat_lt, slice_get, slice_index_or, slice_set, filter, ◌≢◌}
use Rattle.std.specs.List.{list_all, insert, remove}
use Rattle.std.specs.List.Sorted.{IsPartitionedBy}
use Rattle.std.proofs.lemmas.Bool.Decides.{nat_tests}
use Rattle.map_view.specs.declared.sheet.Row.{Row}
use Rattle.map_view.specs.Rows.{is_before, before, in_order}
use Rattle.map_view.specs.Racks.{onto, laid, times, IsRack, Places, told_before}
use Rattle.map_view.proofs.Order.{before-trans, got, got-none}
use Rattle.std.specs.Slice.{IsItemAt}
use Rattle.std.specs.Prelude.{IfSome, IfNone}
use Rattle.std.proofs.Common.{Bor}

-- how often a place stands in a list
eq-self : (p : ℕ) → nat_eq p p ≡ true
eq-self p = grind (arith, nat_tests)

times-here : (p : ℕ) (ps : List ℕ) → 0 < times p (p ∷ ps)
times-here p ps = subst (λ (b : Bool). 0 < cond b 1 0 + times p ps) (sym (eq-self p)) (omega arith)

pub times-append : (p : ℕ) (xs ys : List ℕ) → times p (xs ++ ys) ≡ times p xs + times p ys
times-append p [] ys = omega arith
times-append p (x ∷ xs) ys = let rest = times-append p xs ys in omega (arith, rest)

times-parts : (p i : ℕ) (xs : List ℕ) → times p (take i xs) + times p (drop i xs) ≡ times p xs
times-parts p zero xs = omega arith
times-parts p (suc i) [] = omega arith
times-parts p (suc i) (x ∷ xs) = let rest = times-parts p i xs in omega (arith, rest)

pub times-insert : (p i q : ℕ) (xs : List ℕ) → times p (insert xs i q) ≡ cond (nat_eq q p) 1 0 + times p xs
times-insert p i q xs = let a = times-append p (take i xs) (q ∷ drop i xs) in let b = times-parts p i xs in omega (arith, a, b)

pub times-remove : (p i d : ℕ) (xs : List ℕ) → i < length xs → times p xs ≡ cond (nat_eq (slice_index_or xs i d) p) 1 0 + times p (remove xs i)
times-remove p i d [] h = absurd (omega arith)
times-remove p zero d (x ∷ xs) h = refl
times-remove p (suc i) d (x ∷ xs) h = let rest = times-remove p i d xs (omega arith) in omega (arith, rest)

pub times-last : (p q : ℕ) (xs : List ℕ) → times p (xs ++ q ∷ []) ≡ times p xs + cond (nat_eq q p) 1 0
times-last p q xs = let a = times-append p xs (q ∷ []) in omega (arith, a)

pub last-stands : (q : ℕ) (xs : List ℕ) → 0 < times q (xs ++ q ∷ [])
last-stands q xs = let a = times-append q xs (q ∷ []) in let h = times-here q [] in omega (arith, a, h)

-- each place of the list has a row
abbrev pub Within : List Row → List ℕ → Type 0
Within rows ps = (p : ℕ) → 0 < times p ps → p < length rows

tail : (rows : List Row) (q : ℕ) (ps : List ℕ) → Within rows (q ∷ ps) → Within rows ps
tail rows q ps w p h = w p (omega (arith, h))

below : (b : Bool) (n : ℕ) → 0 < n → n ≡ cond b 1 0 → b ≡ true
below true n h e = refl
below false n h e = absurd (omega (arith, h, e))

lt-is : (p n : ℕ) → nat_lt p n ≡ true → p < n
lt-is p n h = grind (arith, nat_tests)

pub order-within : (rows : List Row) (order free : List ℕ) → IsRack rows order free → Within rows order
order-within rows order free r p h = let e = r.1 p in lt-is p (length rows) (below (nat_lt p (length rows)) (times p order + times p free) (omega (arith, h)) e)

pub free-within : (rows : List Row) (order free : List ℕ) → IsRack rows order free → Within rows free
free-within rows order free r p h = let e = r.1 p in lt-is p (length rows) (below (nat_lt p (length rows)) (times p order + times p free) (omega (arith, h)) e)

pub item : {X : Type 0} (xs : List X) (i : ℕ) → i < length xs → (x : X) × (slice_get xs i ≡ Some x)
item [] i h = absurd (omega arith)
item (x ∷ xs) zero h = (x, refl)
item (x ∷ xs) (suc i) h = item xs i (omega arith)

first : (rows : List Row) (p : ℕ) (ps : List ℕ) → Within rows (p ∷ ps) → (x : Row) × (slice_get rows p ≡ Some x)
first rows p ps w = item rows p (w p (times-here p ps))

-- the rows of an order
pub laid-length : (rows : List Row) (ps : List ℕ) → Within rows ps → length (laid rows ps) ≡ length ps
laid-length rows [] w = refl
laid-length rows (p ∷ ps) w = ap (λ (o : Option Row). length (onto o (laid rows ps))) (first rows p ps w).1 ∙ ap suc (laid-length rows ps (tail rows p ps w))

abbrev pub at_place : List Row → Option ℕ → Option Row
at_place rows None = None
at_place rows (Some p) = slice_get rows p

pub laid-get : (rows : List Row) (ps : List ℕ) (i : ℕ) → Within rows ps → slice_get (laid rows ps) i ≡ at_place rows (slice_get ps i)
laid-get rows [] i w = refl
laid-get rows (p ∷ ps) zero w = let it = first rows p ps w in ap (λ (o : Option Row). slice_get (onto o (laid rows ps)) 0) it.1 ∙ sym it.1
laid-get rows (p ∷ ps) (suc i) w = ap (λ (o : Option Row). slice_get (onto o (laid rows ps)) (suc i)) (first rows p ps w).1 ∙ laid-get rows ps i (tail rows p ps w)

onto-append : (o : Option Row) (xs ys : List Row) → onto o (xs ++ ys) ≡ onto o xs ++ ys
onto-append None xs ys = refl
onto-append (Some r) xs ys = refl

laid-append : (rows : List Row) (xs ys : List ℕ) → laid rows (xs ++ ys) ≡ laid rows xs ++ laid rows ys
laid-append rows [] ys = refl
laid-append rows (x ∷ xs) ys = ap (onto (slice_get rows x)) (laid-append rows xs ys) ∙ onto-append (slice_get rows x) (laid rows xs) (laid rows ys)

laid-take : (rows : List Row) (i : ℕ) (ps : List ℕ) → Within rows ps → laid rows (take i ps) ≡ take i (laid rows ps)
laid-take rows zero ps w = refl
laid-take rows (suc i) [] w = refl
laid-take rows (suc i) (p ∷ ps) w =
    let it = first rows p ps w in
    ap (λ (o : Option Row). onto o (laid rows (take i ps))) it.1
    ∙ (ap (λ (z : List Row). it.0 ∷ z) (laid-take rows i ps (tail rows p ps w)) ∙ sym (ap (λ (o : Option Row). take (suc i) (onto o (laid rows ps))) it.1))

laid-drop : (rows : List Row) (i : ℕ) (ps : List ℕ) → Within rows ps → laid rows (drop i ps) ≡ drop i (laid rows ps)
laid-drop rows zero ps w = refl
laid-drop rows (suc i) [] w = refl
laid-drop rows (suc i) (p ∷ ps) w =
    let it = first rows p ps w in
    laid-drop rows i ps (tail rows p ps w) ∙ sym (ap (λ (o : Option Row). drop (suc i) (onto o (laid rows ps))) it.1)

pub laid-insert : (rows : List Row) (ps : List ℕ) (i p : ℕ) (r : Row) → Within rows ps → slice_get rows p ≡ Some r → laid rows (insert ps i p) ≡ insert (laid rows ps) i r
laid-insert rows ps i p r w at =
    laid-append rows (take i ps) (p ∷ drop i ps)
    ∙ (ap (λ (o : Option Row). laid rows (take i ps) ++ onto o (laid rows (drop i ps))) at
    ∙ (ap (λ (z : List Row). z ++ r ∷ laid rows (drop i ps)) (laid-take rows i ps w) ∙ ap (λ (z : List Row). take i (laid rows ps) ++ r ∷ z) (laid-drop rows i ps w)))

pub laid-remove : (rows : List Row) (ps : List ℕ) (i : ℕ) → Within rows ps → laid rows (remove ps i) ≡ remove (laid rows ps) i
laid-remove rows ps i w =
    laid-append rows (take i ps) (drop (suc i) ps)
    ∙ (ap (λ (z : List Row). z ++ laid rows (drop (suc i) ps)) (laid-take rows i ps w) ∙ ap (λ (z : List Row). take i (laid rows ps) ++ z) (laid-drop rows (suc i) ps w))

laid-same : (new old : List Row) (ps : List ℕ) → ((p : ℕ) → 0 < times p ps → slice_get new p ≡ slice_get old p) → laid new ps ≡ laid old ps
laid-same new old [] h = refl
laid-same new old (p ∷ ps) h =
    ap (λ (o : Option Row). onto o (laid new ps)) (h p (times-here p ps)) ∙ ap (onto (slice_get old p)) (laid-same new old ps (λ q k. h q (omega (arith, k))))

-- a row that is put at a place
set-here : (rows : List Row) (i : ℕ) (r : Row) → i < length rows → slice_get (slice_set rows i r) i ≡ Some r
set-here [] i r h = absurd (omega arith)
set-here (x ∷ rows) zero r h = refl
set-here (x ∷ rows) (suc i) r h = set-here rows i r (omega arith)

set-other : (rows : List Row) (i j : ℕ) (r : Row) → j ≢ i → slice_get (slice_set rows i r) j ≡ slice_get rows j
set-other [] i j r d = refl
set-other (x ∷ rows) zero zero r d = absurd (d refl)
set-other (x ∷ rows) zero (suc j) r d = refl
set-other (x ∷ rows) (suc i) zero r d = refl
set-other (x ∷ rows) (suc i) (suc j) r d = set-other rows i j r (λ e. d (ap suc e))

set-length : (rows : List Row) (i : ℕ) (r : Row) → length (slice_set rows i r) ≡ length rows
set-length [] i r = refl
set-length (x ∷ rows) zero r = refl
set-length (x ∷ rows) (suc i) r = ap suc (set-length rows i r)

end-here : (rows : List Row) (r : Row) → slice_get (rows ++ r ∷ []) (length rows) ≡ Some r
end-here [] r = refl
end-here (x ∷ rows) r = end-here rows r

end-other : (rows : List Row) (r : Row) (j : ℕ) → j < length rows → slice_get (rows ++ r ∷ []) j ≡ slice_get rows j
end-other [] r j h = absurd (omega arith)
end-other (x ∷ rows) r zero h = refl
end-other (x ∷ rows) r (suc j) h = end-other rows r j (omega arith)

end-length : {X : Type 0} (xs : List X) (x : X) → length (xs ++ x ∷ []) ≡ length xs + 1
end-length [] x = refl
end-length (y ∷ xs) x = let rest = end-length xs x in omega (arith, rest)

bound : (b : Bool) → cond b 1 0 ≤ 1
bound true = omega arith
bound false = omega arith

one-more : (p n : ℕ) → cond (nat_eq n p) 1 0 + cond (nat_lt p n) 1 0 ≡ cond (nat_lt p (n + 1)) 1 0
one-more p n = by_tests (nat_eq n p) (nat_lt p n) (nat_lt p (n + 1)) refl refl refl
  where
    by_tests : (a b c : Bool) → nat_eq n p ≡ a → nat_lt p n ≡ b → nat_lt p (n + 1) ≡ c → cond a 1 0 + cond b 1 0 ≡ cond c 1 0
    by_tests true true c e f g = absurd (grind (arith, nat_tests))
    by_tests true false true e f g = refl
    by_tests true false false e f g = absurd (grind (arith, nat_tests))
    by_tests false true true e f g = refl
    by_tests false true false e f g = absurd (grind (arith, nat_tests))
    by_tests false false true e f g = absurd (grind (arith, nat_tests))
    by_tests false false false e f g = refl

pub reused : (rows : List Row) (order free : List ℕ) (place : ℕ) (row : Row) → IsRack rows order (free ++ place ∷ []) → Places rows (slice_set rows place row) order place row free
reused rows order free place row r =
    let here = last-stands place free in
    let e = r.1 place in
    let most = bound (nat_lt place (length rows)) in
    let none : times place order ≡ 0 = omega (arith, here, e, most) in
    let long = set-length rows place row in
    let more = end-length free place in
    let all = r.0 in record {
      stands = set-here rows place row (free-within rows order (free ++ place ∷ []) r place here);
      same = laid-same (slice_set rows place row) rows order (λ p h. set-other rows place p row (λ is. let z : times p order ≡ 0 = subst (λ (q : ℕ). times q order ≡ 0) (sym is) none in absurd (omega (arith, h, z))));
      total = omega (arith, long, more, all);
      once = λ p.
          let f = r.1 p in let g = times-last p place free in
          subst (λ (n : ℕ). (cond (nat_eq place p) 1 0 + times p order) + times p free ≡ cond (nat_lt p n) 1 0) (sym long) (omega (arith, f, g));
    }

pub renewed : (rows : List Row) (order : List ℕ) (row : Row) → IsRack rows order [] → Places rows (rows ++ row ∷ []) order (length rows) row []
renewed rows order row r =
    let long = end-length rows row in
    let all = r.0 in record {
      stands = end-here rows row;
      same = laid-same (rows ++ row ∷ []) rows order (λ p h. end-other rows row p (order-within rows order [] r p h));
      total = omega (arith, long, all);
      once = λ p.
          let f = r.1 p in let g = one-more p (length rows) in
          subst (λ (n : ℕ). (cond (nat_eq (length rows) p) 1 0 + times p order) + 0 ≡ cond (nat_lt p n) 1 0) (sym long) (omega (arith, f, g));
    }

-- the order with the place of a row, and without one
pub rack-inserted : (old new : List Row) (order free : List ℕ) (i place : ℕ) (row : Row) → Places old new order place row free → length (insert order i place) ≡ length order + 1 → IsRack new (insert order i place) free
rack-inserted old new order free i place row h long =
    let all = h.total in (
      omega (arith, long, all),
      λ p. let f = h.once p in let g = times-insert p i place order in omega (arith, f, g),
    )

pub rack-removed : (rows : List Row) (order free : List ℕ) (i place : ℕ) → IsRack rows order free → i < length order → place ≡ slice_index_or order i place → length (remove order i) + 1 ≡ length order → IsRack rows (remove order i) (free ++ place ∷ [])
rack-removed rows order free i place r lt is short =
    let all = r.0 in let more = end-length free place in (
      omega (arith, all, more, short),
      λ p.
          let f = r.1 p in let g = times-last p place free in
          let k : times p order ≡ cond (nat_eq place p) 1 0 + times p (remove order i) =
          subst (λ (q : ℕ). times p order ≡ cond (nat_eq q p) 1 0 + times p (remove order i)) (sym is) (times-remove p i place order lt) in
          omega (arith, f, g, k),
    )

-- how many rows come before the session's
pub counted-places : (s : List ℕ) (rows : List Row) (ps : List ℕ) → length (before s (laid rows ps)) ≡ length (filter (λ p. told_before s (slice_get rows p)) ps)
counted-places s rows [] = refl
counted-places s rows (p ∷ ps) = by_row (slice_get rows p) (counted-places s rows ps)
  where
    by_row : (o : Option Row) → length (before s (laid rows ps)) ≡ length (filter (λ q. told_before s (slice_get rows q)) ps) →
        length (before s (onto o (laid rows ps))) ≡ length (cond (told_before s o) (p ∷ filter (λ q. told_before s (slice_get rows q)) ps) (filter (λ q. told_before s (slice_get rows q)) ps))
    by_row None rest = rest
    by_row (Some r) rest = by_test (is_before r.session s) rest
      where
        by_test : (b : Bool) → length (before s (laid rows ps)) ≡ length (filter (λ q. told_before s (slice_get rows q)) ps) →
            length (cond b (r ∷ before s (laid rows ps)) (before s (laid rows ps))) ≡ length (cond b (p ∷ filter (λ q. told_before s (slice_get rows q)) ps) (filter (λ q. told_before s (slice_get rows q)) ps))
        by_test true rest = ap suc rest
        by_test false rest = rest

both : (a b : Bool) → (a && b) ≡ true → (a ≡ true) × (b ≡ true)
both true b h = (refl, h)
both false b h = absurd cc

all-behind : (f : Row → Bool) (o : Option Row) (rows : List Row) → list_all f (onto o rows) ≡ true → list_all f rows ≡ true
all-behind f None rows h = h
all-behind f (Some r) rows h = (both (f r) (list_all f rows) h).1

order-behind : (o : Option Row) (rows : List Row) → in_order (onto o rows) ≡ true → in_order rows ≡ true
order-behind None rows h = h
order-behind (Some r) rows h = (both (list_all (λ x. is_before r.session x.session) rows) (in_order rows) h).1

all-at : (f : Row → Bool) (rows : List Row) (ps : List ℕ) (j d : ℕ) (x : Row) → list_all f (laid rows ps) ≡ true → j < length ps → slice_get rows (slice_index_or ps j d) ≡ Some x → f x ≡ true
all-at f rows [] j d x h lt at = absurd (omega arith)
all-at f rows (p ∷ ps) zero d x h lt at = (both (f x) (list_all f (laid rows ps)) (subst (λ (o : Option Row). list_all f (onto o (laid rows ps)) ≡ true) at h)).0
all-at f rows (p ∷ ps) (suc j) d x h lt at = all-at f rows ps j d x (all-behind f (slice_get rows p) (laid rows ps) h) (omega arith) at

row-before : (s : List ℕ) (o : Option Row) → told_before s o ≡ true → (x : Row) × (o ≡ Some x) × (is_before x.session s ≡ true)
row-before s None h = absurd cc
row-before s (Some r) h = (r, refl, h)

pub parted-places : (s : List ℕ) (rows : List Row) (ps : List ℕ) → in_order (laid rows ps) ≡ true → Within rows ps → IsPartitionedBy (λ p. told_before s (slice_get rows p)) ps
parted-places s rows [] h w i j d le lt t = absurd (omega arith)
parted-places s rows (p ∷ ps) h w zero zero d le lt t = t
parted-places s rows (p ∷ ps) h w zero (suc j) d le lt t =
    let it = first rows p ps w in
    let there = row-before s (slice_get rows (slice_index_or ps j d)) t in
    let ordered = subst (λ (o : Option Row). in_order (onto o (laid rows ps)) ≡ true) it.1 h in
    let all = (both (list_all (λ x. is_before it.0.session x.session) (laid rows ps)) (in_order (laid rows ps)) ordered).0 in
    ap (told_before s) it.1 ∙ before-trans it.0.session there.0.session s (all-at (λ x. is_before it.0.session x.session) rows ps j d there.0 all (omega arith) there.1) there.2
parted-places s rows (p ∷ ps) h w (suc i) zero d le lt t = absurd (omega arith)
parted-places s rows (p ∷ ps) h w (suc i) (suc j) d le lt t =
    parted-places s rows ps (order-behind (slice_get rows p) (laid rows ps) h) (tail rows p ps w) i j d (omega arith) (omega arith) t

pub empty : (xs : List ℕ) → length xs ≡ 0 → xs ≡ []
empty [] h = refl
empty (x ∷ xs) h = absurd (omega (arith, h))

pub as-long : (rows now : List Row) (order free : List ℕ) → IsRack rows order free → laid rows order ≡ now → length now ≡ length order
as-long rows now order free r is = sym (ap (λ (z : List Row). length z) is) ∙ laid-length rows order (order-within rows order free r)

pub placed-within : (old new : List Row) (order free : List ℕ) (place : ℕ) (row : Row) → Places old new order place row free → Within new order
placed-within old new order free place row h p k =
    let e = h.once p in lt-is p (length new) (below (nat_lt p (length new)) ((cond (nat_eq place p) 1 0 + times p order) + times p free) (omega (arith, k)) e)

pub insert-length : {X : Type 0} (i : ℕ) (x : X) (xs : List X) → i ≤ length xs → length (insert xs i x) ≡ length xs + 1
insert-length zero x xs h = omega arith
insert-length (suc i) x [] h = absurd (omega arith)
insert-length (suc i) x (y ∷ xs) h = let rest = insert-length i x xs (omega arith) in omega (arith, rest)

pub remove-length : {X : Type 0} (i : ℕ) (xs : List X) → i < length xs → length (remove xs i) + 1 ≡ length xs
remove-length i [] h = absurd (omega arith)
remove-length zero (y ∷ xs) h = omega arith
remove-length (suc i) (y ∷ xs) h = let rest = remove-length i xs (omega arith) in omega (arith, rest)

-- what `get` tells of a row
pub row-found : (rows : List Row) (p : ℕ) (want : Option Row) → want ≡ slice_get rows p → (r : Option (Bor Row)) → IsItemAt rows p r → IfSome r (λ x. want ≡ Some x.now)
row-found rows p want e (Some x) g = e ∙ got rows p x g
row-found rows p want e None g = tt

pub row-none : (rows : List Row) (p : ℕ) (want : Option Row) → want ≡ slice_get rows p → (r : Option (Bor Row)) → IsItemAt rows p r → IfNone r (want ≡ None)
row-none rows p want e (Some x) g = tt
row-none rows p want e None g = e ∙ got-none rows p g
