-- Rows in the order of their sessions: where a session's row is, and that the order stays.
use Prim.Native.Nat.{zero, suc}
use Rattle.std.proofs.Common.{◌≡◌, ℕ, ◌<◌, ◌≤◌, Bool, true, false, cond, not, ◌&&◌, List, [], ◌∷◌, length, find, Option, None, Some, refl, ap, sym, ◌∙◌, subst, arith}
use Rattle.std.specs.Prelude.{bytes_eq, filter, slice_get, is_some, slice_index_or}
use Rattle.std.proofs.Common.{Bor, Result, Ok, Err, IsOk}
use Rattle.std.specs.Prelude.{is_ok, if◌then◌else◌}
use Rattle.std.specs.List.{list_all, insert, remove}
use Rattle.std.specs.Slice.{IsItemAt}
use Rattle.std.proofs.lemmas.Option.{slice_get_within, slice_get_past, slice_get-get_or}
use Rattle.std.specs.declared.cmp.Ordering.{Ordering}
use Rattle.std.specs.declared.cmp.Ordering.TheVariants.{Less, Equal, Greater}
use Rattle.std.specs.Ordering.{is_lt, is_eq, nat_cmp, ordering_reverse}
use Rattle.std.specs.Cmp.Lexicographic.{slice_cmp, nat_list_cmp_total, texts_ties, same_text}
use Rattle.std.specs.List.Sorted.{IsPartitionedBy, IsPartitionPoint}
use Rattle.map_view.specs.declared.sheet.Row.{Row}
use Rattle.map_view.specs.Rows.{is_of, others, is_before, before, in_order, placed}

less-is : (o : Ordering) → is_lt o ≡ true → o ≡ Less
less-is Less h = refl
less-is Equal h = absurd cc
less-is Greater h = absurd cc

not-eq : (o : Ordering) → is_lt o ≡ true → is_eq o ≡ false
not-eq Less h = refl
not-eq Equal h = absurd cc
not-eq Greater h = absurd cc

turned : (o : Ordering) → is_lt o ≡ false → is_eq o ≡ false → is_lt (ordering_reverse o) ≡ true
turned Less h e = absurd cc
turned Equal h e = absurd cc
turned Greater h e = refl

pub before-trans : (x y z : List ℕ) → is_before x y ≡ true → is_before y z ≡ true → is_before x z ≡ true
before-trans x y z h k = ap is_lt (nat_list_cmp_total.trans x y z (less-is _ h) (less-is _ k))

pub before-differs : (x y : List ℕ) → is_before x y ≡ true → bytes_eq x y ≡ false
before-differs x y h = texts_ties x y ∙ not-eq _ h

pub before-turned : (x y : List ℕ) → is_before x y ≡ false → bytes_eq x y ≡ false → is_before y x ≡ true
before-turned x y h d = ap is_lt (nat_list_cmp_total.antisymm y x) ∙ turned (slice_cmp nat_cmp x y) h (sym (texts_ties x y) ∙ d)

-- what is not before is not before what stands after
after-not : (x r s : List ℕ) → is_before r x ≡ true → is_before r s ≡ false → is_before x s ≡ false
after-not x r s h k = by_test (is_before x s) refl
  where
    by_test : (b : Bool) → is_before x s ≡ b → b ≡ false
    by_test true e = let both : is_before r s ≡ true = before-trans r x s h e in let no : true ≡ false = sym both ∙ k in absurd cc
    by_test false e = refl

after-differs : (x r s : List ℕ) → is_before r x ≡ true → is_before r s ≡ false → bytes_eq x s ≡ false
after-differs x r s h k = by_test (bytes_eq x s) refl
  where
    by_test : (b : Bool) → bytes_eq x s ≡ b → b ≡ false
    by_test true e =
        let same : x ≡ s = same_text x s (sym e) in
        let both : is_before r s ≡ true = subst (λ (z : List ℕ). is_before r z ≡ true) same h in
        let no : true ≡ false = sym both ∙ k in
        absurd cc
    by_test false e = refl

both : (a b : Bool) → (a && b) ≡ true → (a ≡ true) × (b ≡ true)
both true b h = (refl, h)
both false b h = absurd cc

-- of the rows behind one that is not before the session, none is before it, and none is its
none-before : (r : Row) (s : List ℕ) (rows : List Row) → list_all (λ x. is_before r.session x.session) rows ≡ true → is_before r.session s ≡ false → before s rows ≡ []
none-before r s [] h k = refl
none-before r s (x ∷ rows) h k =
    let q = both (is_before r.session x.session) (list_all (λ y. is_before r.session y.session) rows) h in
    ap (λ (b : Bool). cond b (x ∷ before s rows) (before s rows)) (after-not x.session r.session s q.0 k) ∙ none-before r s rows q.1 k

none-found : (r : Row) (s : List ℕ) (rows : List Row) → list_all (λ x. is_before r.session x.session) rows ≡ true → is_before r.session s ≡ false → find (is_of s) rows ≡ None
none-found r s [] h k = refl
none-found r s (x ∷ rows) h k =
    let q = both (is_before r.session x.session) (list_all (λ y. is_before r.session y.session) rows) h in
    ap (λ (b : Bool). cond b (Some x) (find (is_of s) rows)) (after-differs x.session r.session s q.0 k) ∙ none-found r s rows q.1 k

none-taken : (r : Row) (s : List ℕ) (rows : List Row) → list_all (λ x. is_before r.session x.session) rows ≡ true → is_before r.session s ≡ false → others s rows ≡ rows
none-taken r s [] h k = refl
none-taken r s (x ∷ rows) h k =
    let q = both (is_before r.session x.session) (list_all (λ y. is_before r.session y.session) rows) h in
    ap (λ (b : Bool). cond (not b) (x ∷ others s rows) (others s rows)) (after-differs x.session r.session s q.0 k) ∙ ap (λ (z : List Row). x ∷ z) (none-taken r s rows q.1 k)

-- the row, if it is the session's
abbrev pub only : List ℕ → Option Row → Option Row
only s None = None
only s (Some r) = cond (bytes_eq r.session s) (Some r) None

pub found-at : (s : List ℕ) (rows : List Row) → in_order rows ≡ true → find (is_of s) rows ≡ only s (slice_get rows (length (before s rows)))
found-at s [] h = refl
found-at s (r ∷ rows) h = by_test (is_before r.session s) refl (found-at s rows (both (list_all (λ x. is_before r.session x.session) rows) (in_order rows) h).1)
  where
    q : (list_all (λ x. is_before r.session x.session) rows ≡ true) × (in_order rows ≡ true)
    q = both (list_all (λ x. is_before r.session x.session) rows) (in_order rows) h

    by_test : (b : Bool) → is_before r.session s ≡ b → find (is_of s) rows ≡ only s (slice_get rows (length (before s rows))) →
        find (is_of s) (r ∷ rows) ≡ only s (slice_get (r ∷ rows) (length (cond b (r ∷ before s rows) (before s rows))))
    by_test true e rest = ap (λ (b : Bool). cond b (Some r) (find (is_of s) rows)) (before-differs r.session s e) ∙ rest
    by_test false e rest =
        ap (λ (z : Option Row). cond (bytes_eq r.session s) (Some r) z) (none-found r s rows q.0 e)
        ∙ sym (ap (λ (z : List Row). only s (slice_get (r ∷ rows) (length z))) (none-before r s rows q.0 e))

-- the rows without the one at a place, where there is one to take out
abbrev pub taken : Bool → List Row → ℕ → List Row
taken there rows i = cond there (remove rows i) rows

taken-behind : (b : Bool) (r : Row) (rows : List Row) (i : ℕ) → taken b (r ∷ rows) (suc i) ≡ r ∷ taken b rows i
taken-behind true r rows i = refl
taken-behind false r rows i = refl

pub taken-at : (s : List ℕ) (rows : List Row) → in_order rows ≡ true → others s rows ≡ taken (is_some (only s (slice_get rows (length (before s rows))))) rows (length (before s rows))
taken-at s [] h = refl
taken-at s (r ∷ rows) h = by_test (is_before r.session s) refl (taken-at s rows (both (list_all (λ x. is_before r.session x.session) rows) (in_order rows) h).1)
  where
    q : (list_all (λ x. is_before r.session x.session) rows ≡ true) × (in_order rows ≡ true)
    q = both (list_all (λ x. is_before r.session x.session) rows) (in_order rows) h

    first : (b : Bool) → cond (not b) (r ∷ rows) rows ≡ taken (is_some (cond b (Some r) None)) (r ∷ rows) 0
    first true = refl
    first false = refl

    by_test : (b : Bool) → is_before r.session s ≡ b → others s rows ≡ taken (is_some (only s (slice_get rows (length (before s rows))))) rows (length (before s rows)) →
        others s (r ∷ rows) ≡ taken (is_some (only s (slice_get (r ∷ rows) (length (cond b (r ∷ before s rows) (before s rows)))))) (r ∷ rows) (length (cond b (r ∷ before s rows) (before s rows)))
    by_test true e rest =
        ap (λ (b : Bool). cond (not b) (r ∷ others s rows) (others s rows)) (before-differs r.session s e)
        ∙ ap (λ (z : List Row). r ∷ z) rest
        ∙ sym (taken-behind (is_some (only s (slice_get rows (length (before s rows))))) r rows (length (before s rows)))
    by_test false e rest =
        ap (λ (z : List Row). cond (not (bytes_eq r.session s)) (r ∷ z) z) (none-taken r s rows q.0 e)
        ∙ first (bytes_eq r.session s)
        ∙ sym (ap (λ (z : List Row). taken (is_some (only s (slice_get (r ∷ rows) (length z)))) (r ∷ rows) (length z)) (none-before r s rows q.0 e))

pub inserted-at : (r : Row) (rows : List Row) → in_order rows ≡ true → insert rows (length (before r.session rows)) r ≡ placed r rows
inserted-at r [] h = refl
inserted-at r (x ∷ rows) h = by_test (is_before x.session r.session) refl (inserted-at r rows (both (list_all (λ y. is_before x.session y.session) rows) (in_order rows) h).1)
  where
    q : (list_all (λ y. is_before x.session y.session) rows ≡ true) × (in_order rows ≡ true)
    q = both (list_all (λ y. is_before x.session y.session) rows) (in_order rows) h

    by_test : (b : Bool) → is_before x.session r.session ≡ b → insert rows (length (before r.session rows)) r ≡ placed r rows →
        insert (x ∷ rows) (length (cond b (x ∷ before r.session rows) (before r.session rows))) r ≡ cond b (x ∷ placed r rows) (r ∷ x ∷ rows)
    by_test true e rest = ap (λ (z : List Row). x ∷ z) rest
    by_test false e rest = ap (λ (z : List Row). insert (x ∷ rows) (length z) r) (none-before x r.session rows q.0 e)

-- the order stays
all-others : (f : Row → Bool) (s : List ℕ) (rows : List Row) → list_all f rows ≡ true → list_all f (others s rows) ≡ true
all-others f s [] h = refl
all-others f s (x ∷ rows) h = by_test (bytes_eq x.session s) (all-others f s rows (both (f x) (list_all f rows) h).1)
  where
    q : (f x ≡ true) × (list_all f rows ≡ true)
    q = both (f x) (list_all f rows) h

    by_test : (b : Bool) → list_all f (others s rows) ≡ true → list_all f (cond (not b) (x ∷ others s rows) (others s rows)) ≡ true
    by_test true rest = rest
    by_test false rest = ap (λ (b : Bool). b && list_all f (others s rows)) q.0 ∙ rest

pub others-ordered : (s : List ℕ) (rows : List Row) → in_order rows ≡ true → in_order (others s rows) ≡ true
others-ordered s [] h = refl
others-ordered s (x ∷ rows) h = by_test (bytes_eq x.session s) (others-ordered s rows (both (list_all (λ y. is_before x.session y.session) rows) (in_order rows) h).1)
  where
    q : (list_all (λ y. is_before x.session y.session) rows ≡ true) × (in_order rows ≡ true)
    q = both (list_all (λ y. is_before x.session y.session) rows) (in_order rows) h

    by_test : (b : Bool) → in_order (others s rows) ≡ true → in_order (cond (not b) (x ∷ others s rows) (others s rows)) ≡ true
    by_test true rest = rest
    by_test false rest = ap (λ (b : Bool). b && in_order (others s rows)) (all-others (λ y. is_before x.session y.session) s rows q.0) ∙ rest

all-placed : (f : Row → Bool) (r : Row) (rows : List Row) → f r ≡ true → list_all f rows ≡ true → list_all f (placed r rows) ≡ true
all-placed f r [] g h = ap (λ (b : Bool). b && true) g
all-placed f r (x ∷ rows) g h = by_test (is_before x.session r.session) (all-placed f r rows g (both (f x) (list_all f rows) h).1)
  where
    q : (f x ≡ true) × (list_all f rows ≡ true)
    q = both (f x) (list_all f rows) h

    by_test : (b : Bool) → list_all f (placed r rows) ≡ true → list_all f (cond b (x ∷ placed r rows) (r ∷ x ∷ rows)) ≡ true
    by_test true rest = ap (λ (b : Bool). b && list_all f (placed r rows)) q.0 ∙ rest
    by_test false rest = ap (λ (b : Bool). b && list_all f (x ∷ rows)) g ∙ h

all-behind : (x y : List ℕ) (rows : List Row) → is_before x y ≡ true → list_all (λ z. is_before y z.session) rows ≡ true → list_all (λ z. is_before x z.session) rows ≡ true
all-behind x y [] h k = refl
all-behind x y (z ∷ rows) h k =
    let q = both (is_before y z.session) (list_all (λ z. is_before y z.session) rows) k in
    ap (λ (b : Bool). b && list_all (λ z. is_before x z.session) rows) (before-trans x y z.session h q.0) ∙ all-behind x y rows h q.1

found-first : (b : Bool) (x : Row) (F : Option Row) → cond b (Some x) F ≡ None → (b ≡ false) × (F ≡ None)
found-first true x F h = absurd cc
found-first false x F h = (refl, h)

pub placed-ordered : (r : Row) (rows : List Row) → in_order rows ≡ true → find (is_of r.session) rows ≡ None → in_order (placed r rows) ≡ true
placed-ordered r [] h none = refl
placed-ordered r (x ∷ rows) h none =
    by_test (is_before x.session r.session) refl
    (placed-ordered r rows (both (list_all (λ y. is_before x.session y.session) rows) (in_order rows) h).1 (found-first (bytes_eq x.session r.session) x (find (is_of r.session) rows) none).1)
  where
    q : (list_all (λ y. is_before x.session y.session) rows ≡ true) × (in_order rows ≡ true)
    q = both (list_all (λ y. is_before x.session y.session) rows) (in_order rows) h

    apart : (bytes_eq x.session r.session ≡ false) × (find (is_of r.session) rows ≡ None)
    apart = found-first (bytes_eq x.session r.session) x (find (is_of r.session) rows) none

    by_test : (b : Bool) → is_before x.session r.session ≡ b → in_order (placed r rows) ≡ true → in_order (cond b (x ∷ placed r rows) (r ∷ x ∷ rows)) ≡ true
    by_test true e rest = ap (λ (b : Bool). b && in_order (placed r rows)) (all-placed (λ y. is_before x.session y.session) r rows e q.0) ∙ rest
    by_test false e rest =
        let here : is_before r.session x.session ≡ true = before-turned x.session r.session e apart.0 in
        let all : list_all (λ y. is_before r.session y.session) (x ∷ rows) ≡ true = ap (λ (b : Bool). b && list_all (λ y. is_before r.session y.session) rows) here ∙ all-behind r.session x.session rows here q.0 in
        ap (λ (b : Bool). b && in_order (x ∷ rows)) all ∙ h

-- how many elements pass a test that holds just below a place
pub passed : {X : Type 0} (p : X → Bool) (xs : List X) (i : ℕ) → i ≤ length xs → IsPartitionPoint (λ y. p y ≡ true) (λ y. p y ≡ false) xs i → length (filter p xs) ≡ i
passed p [] i le h = omega arith
passed p (x ∷ xs) zero le h =
    let here : p x ≡ false = h.1 0 x (omega arith) (omega arith) in
    ap (λ (b : Bool). length (cond b (x ∷ filter p xs) (filter p xs))) here
    ∙ passed p xs 0 (omega arith) ((λ k d a b. absurd (omega arith)), (λ k d a b. h.1 (suc k) d (omega arith) (omega arith)))
passed p (x ∷ xs) (suc i) le h =
    let here : p x ≡ true = h.0 0 x (omega arith) (omega arith) in
    ap (λ (b : Bool). length (cond b (x ∷ filter p xs) (filter p xs))) here
    ∙ ap suc (passed p xs i (omega arith) ((λ k d a b. h.0 (suc k) d (omega arith) (omega arith)), (λ k d a b. h.1 (suc k) d (omega arith) (omega arith))))

all-at : {X : Type 0} (f : X → Bool) (xs : List X) (k : ℕ) (d : X) → list_all f xs ≡ true → k < length xs → f (slice_index_or xs k d) ≡ true
all-at f [] k d h lt = absurd (omega arith)
all-at f (x ∷ xs) zero d h lt = (both (f x) (list_all f xs) h).0
all-at f (x ∷ xs) (suc k) d h lt = all-at f xs k d (both (f x) (list_all f xs) h).1 (omega arith)

pub parted : (s : List ℕ) (rows : List Row) → in_order rows ≡ true → IsPartitionedBy (λ r. is_before r.session s) rows
parted s [] h i j d le lt p = absurd (omega arith)
parted s (r ∷ rows) h zero zero d le lt p = p
parted s (r ∷ rows) h zero (suc j) d le lt p =
    let q = both (list_all (λ x. is_before r.session x.session) rows) (in_order rows) h in
    before-trans r.session (slice_index_or rows j d).session s (all-at (λ (x : Row). is_before r.session x.session) rows j d q.0 (omega arith)) p
parted s (r ∷ rows) h (suc i) zero d le lt p = absurd (omega arith)
parted s (r ∷ rows) h (suc i) (suc j) d le lt p =
    parted s rows (both (list_all (λ x. is_before r.session x.session) rows) (in_order rows) h).1 i j d (omega arith) (omega arith) p

-- what a place tells: the session's row is there, or another's, or none
pub there : (s : List ℕ) (rows : List Row) (i : ℕ) (r : Row) → in_order rows ≡ true → i ≡ length (before s rows) → slice_get rows i ≡ Some r → bytes_eq r.session s ≡ true →
    (i < length rows) × (slice_get rows i ≡ find (is_of s) rows) × (others s rows ≡ remove rows i)
there s rows i r h e at same =
    let here : slice_get rows (length (before s rows)) ≡ Some r = ap (slice_get rows) (sym e) ∙ at in
    let found : only s (slice_get rows (length (before s rows))) ≡ Some r = ap (only s) here ∙ ap (λ (b : Bool). cond b (Some r) None) same in (
      slice_get_within rows i r at,
      at ∙ sym (found-at s rows h ∙ found),
      taken-at s rows h ∙ (ap (λ (o : Option Row). taken (is_some o) rows (length (before s rows))) found ∙ ap (remove rows) (sym e)),
    )

abbrev no_row : Option Row
no_row = None

pub not-there : (s : List ℕ) (rows : List Row) → in_order rows ≡ true → only s (slice_get rows (length (before s rows))) ≡ None → (find (is_of s) rows ≡ None) × (others s rows ≡ rows)
not-there s rows h none = (found-at s rows h ∙ none, taken-at s rows h ∙ ap (λ (o : Option Row). taken (is_some o) rows (length (before s rows))) none)

pub other-there : (s : List ℕ) (rows : List Row) (i : ℕ) (r : Row) → in_order rows ≡ true → i ≡ length (before s rows) → slice_get rows i ≡ Some r → bytes_eq r.session s ≡ false →
    (find (is_of s) rows ≡ None) × (others s rows ≡ rows)
other-there s rows i r h e at other = not-there s rows h (ap (only s) (ap (slice_get rows) (sym e) ∙ at) ∙ ap (λ (b : Bool). cond b (Some r) no_row) other)

pub none-there : (s : List ℕ) (rows : List Row) (i : ℕ) → in_order rows ≡ true → i ≡ length (before s rows) → slice_get rows i ≡ None → (find (is_of s) rows ≡ None) × (others s rows ≡ rows)
none-there s rows i h e at = not-there s rows h (ap (only s) (ap (slice_get rows) (sym e) ∙ at))

-- a place in the order is in the list or at its end
pub few-before : (s : List ℕ) (rows : List Row) → length (before s rows) ≤ length rows
few-before s [] = omega arith
few-before s (r ∷ rows) = by_test (is_before r.session s) (few-before s rows)
  where
    by_test : (b : Bool) → length (before s rows) ≤ length rows → length (cond b (r ∷ before s rows) (before s rows)) ≤ length (r ∷ rows)
    by_test true rest = omega arith
    by_test false rest = omega arith

-- none of the others is the session's
pub none-of-others : (s : List ℕ) (rows : List Row) → find (is_of s) (others s rows) ≡ None
none-of-others s [] = refl
none-of-others s (r ∷ rows) = by_test (bytes_eq r.session s) refl (none-of-others s rows)
  where
    by_test : (b : Bool) → bytes_eq r.session s ≡ b → find (is_of s) (others s rows) ≡ None → find (is_of s) (cond (not b) (r ∷ others s rows) (others s rows)) ≡ None
    by_test true e rest = rest
    by_test false e rest = ap (λ (b : Bool). cond b (Some r) (find (is_of s) (others s rows))) e ∙ rest

-- what `get` tells
pub got : {X : Type 0} (rows : List X) (i : ℕ) (x : Bor X) → IsItemAt rows i (Some x) → slice_get rows i ≡ Some x.now
got rows i x g = slice_get-get_or rows i x.now g.3.0 ∙ ap Some (sym g.1)

pub got-none : {X : Type 0} (rows : List X) (i : ℕ) → IsItemAt rows i None → slice_get rows i ≡ None
got-none rows i g = slice_get_past rows i g.3

-- what `insert` does where there is room
pub inserted : {U E : Type 0} (r : Result U E) (done kept now : List ℕ) → IsOk r → now ≡ (if is_ok r then done else kept) → now ≡ done
inserted (Ok u) done kept now h e = e
inserted (Err x) done kept now h e = absurd cc
