-- Texts in a row, one more at the end.
use Rattle.std.proofs.Common.{◌≡◌, ℕ, zero, suc, ◌+◌, ◌<◌, List, [], ◌∷◌, ◌++◌, length, map, take, drop, get_or, refl, ap, sym, ◌∙◌, arith, append_assoc, add-zero, add-one, drop-cons, min, nat_lt, Bool, true, false, ◌≤◌}
use Rattle.std.proofs.lemmas.Bool.Decides.{nat_tests}
use Rattle.grid_types.specs.declared.capabilities.SlotGroup.{SlotGroup}
use Rattle.std.specs.List.{join_with_byte}
use Rattle.std.proofs.lemmas.List.{take_more, take_all, drop_min, length-take-le, length-map, map-append}
use Rattle.grid_types.specs.declared.view.SlotState.{SlotState}
use Rattle.hub_status.specs.Joined.{comma}
use Rattle.hub_status.specs.Status.{written_state, written_states, written_group, written_groups}

-- one more text, behind a comma if it is not the first
pub join-more : (ts : List (List ℕ)) (t : List ℕ) → join_with_byte 44 (ts ++ t ∷ []) ≡ join_with_byte 44 ts ++ (comma (length ts) ++ t)
join-more [] t = refl
join-more (y ∷ []) t = refl
join-more (y ∷ z ∷ ys) t =
    ap (λ (v : List ℕ). y ++ (44 ∷ v)) (join-more (z ∷ ys) t)
    ∙ sym (append_assoc y (44 ∷ join_with_byte 44 (z ∷ ys)) (44 ∷ t))

-- the next of what is written for each element
pub joined-map : {X : Type 0} (f : X → List ℕ) (xs : List X) (i : ℕ) (d : X) → i < length xs
    → join_with_byte 44 (map f (take (i + 1) xs)) ≡ join_with_byte 44 (map f (take i xs)) ++ (comma i ++ f (get_or xs i d))
joined-map f xs i d within =
    let n : length (map f (take i xs)) ≡ i = length-map (take i xs) f ∙ length-take-le i xs (omega arith) in
    rw (take_more xs i d within, map-append)
    (join-more (map f (take i xs)) (f (get_or xs i d)) ∙ ap (λ (k : ℕ). join_with_byte 44 (map f (take i xs)) ++ (comma k ++ f (get_or xs i d))) n)

-- ---- slots

length-written_states : (n : ℕ) (xs : List SlotState) → length (written_states n xs) ≡ length xs
length-written_states n [] = refl
length-written_states n (x ∷ xs) = ap suc (length-written_states (n + 1) xs)

written_states-append : (n : ℕ) (xs : List SlotState) (x : SlotState) → written_states n (xs ++ x ∷ []) ≡ written_states n xs ++ written_state (n + length xs) x ∷ []
written_states-append n [] x = rw (add-zero n) refl
written_states-append n (y ∷ xs) x =
    let e : n + 1 + length xs ≡ n + length (y ∷ xs) = omega arith in
    ap (λ (ts : List (List ℕ)). written_state n y ∷ ts) (written_states-append (n + 1) xs x ∙ rw e refl)

pub joined-states : (n : ℕ) (xs : List SlotState) (i : ℕ) (x : SlotState) → i < length xs → x ≡ get_or xs i x
    → join_with_byte 44 (written_states n (take (i + 1) xs)) ≡ join_with_byte 44 (written_states n (take i xs)) ++ (comma i ++ written_state (n + i) x)
joined-states n xs i x within is =
    let m : length (take i xs) ≡ i = length-take-le i xs (omega arith) in
    let k : length (written_states n (take i xs)) ≡ i = length-written_states n (take i xs) ∙ m in
    rw (take_more xs i x within, ← is)
    (ap (join_with_byte 44) (written_states-append n (take i xs) x)
    ∙ join-more (written_states n (take i xs)) (written_state (n + length (take i xs)) x)
    ∙ rw (k, m) refl)

-- ---- a list by what is left of it

pub take-next : {X : Type 0} (i : ℕ) (xs : List X) (x : X) (rest : List X) → drop i xs ≡ x ∷ rest → take (suc i) xs ≡ take i xs ++ x ∷ []
take-next zero [] x rest left = absurd cc
take-next zero (y ∷ xs) x rest left = let e : y ≡ x = cc in ap (λ (z : _). z ∷ []) e
take-next (suc i) [] x rest left = absurd cc
take-next (suc i) (y ∷ xs) x rest left = ap (λ (ys : List _). y ∷ ys) (take-next i xs x rest left)

pub drop-next : {X : Type 0} (i : ℕ) (xs : List X) (x : X) (rest : List X) → drop i xs ≡ x ∷ rest → drop (suc i) xs ≡ rest
drop-next zero [] x rest left = absurd cc
drop-next zero (y ∷ xs) x rest left = cc
drop-next (suc i) [] x rest left = absurd cc
drop-next (suc i) (y ∷ xs) x rest left = drop-next i xs x rest left

-- ---- groups

take_min : {X : Type 0} (n : ℕ) (xs : List X) → take (min n (length xs)) xs ≡ take n xs
take_min n xs = by (nat_lt (length xs) n) refl
  where
    by : (t : Bool) → nat_lt (length xs) n ≡ t → take (min n (length xs)) xs ≡ take n xs
    by true longer =
        let over : length xs < n = grind (arith, nat_tests) in
        let m : min n (length xs) ≡ length xs = omega arith in
        rw m (take_all (length xs) xs (omega arith) ∙ sym (take_all n xs (omega arith)))
    by false other =
        let within : n ≤ length xs = grind (arith, nat_tests) in
        let m : min n (length xs) ≡ n = omega arith in
        rw m refl

pub length-written_groups : (n : ℕ) (groups : List SlotGroup) (states : List SlotState) → length (written_groups n groups states) ≡ length groups
length-written_groups n [] states = refl
length-written_groups n (g ∷ groups) states = ap suc (length-written_groups (n + length (take g.count states)) groups (drop g.count states))

next_left : (W : List (List ℕ)) (i first : ℕ) (groups : List SlotGroup) (rest : List SlotState) (g : SlotGroup)
    → i < length groups → g ≡ get_or groups i g → drop i W ≡ written_groups first (drop i groups) rest
    → drop i W ≡ written_group first g (take g.count rest) ∷ written_groups (first + length (take g.count rest)) (drop (suc i) groups) (drop g.count rest)
next_left W i first groups rest g within is left =
    left ∙ ap (λ (gs : List SlotGroup). written_groups first gs rest) (drop-cons groups i g within ∙ ap (λ (h : SlotGroup). h ∷ drop (suc i) groups) (sym is))

-- the next group is written
pub group-written : (W : List (List ℕ)) (i first : ℕ) (groups : List SlotGroup) (rest own : List SlotState) (g : SlotGroup)
    → length W ≡ length groups → i < length groups → g ≡ get_or groups i g → own ≡ take (min g.count (length rest)) rest
    → drop i W ≡ written_groups first (drop i groups) rest
    → join_with_byte 44 (take (i + 1) W) ≡ join_with_byte 44 (take i W) ++ (comma i ++ written_group first g own)
group-written W i first groups rest own g long within is own_is left =
    let next = take-next i W _ _ (next_left W i first groups rest g within is left) in
    let n : length (take i W) ≡ i = length-take-le i W (omega arith) in
    let same : take g.count rest ≡ own = sym (take_min g.count rest) ∙ sym own_is in
    rw add-one
    (ap (join_with_byte 44) next
    ∙ join-more (take i W) (written_group first g (take g.count rest))
    ∙ ap (λ (k : ℕ). join_with_byte 44 (take i W) ++ (comma k ++ written_group first g (take g.count rest))) n
    ∙ ap (λ (s : List SlotState). join_with_byte 44 (take i W) ++ (comma i ++ written_group first g s)) same)

-- and the others are left
pub groups-left : (W : List (List ℕ)) (i first : ℕ) (groups : List SlotGroup) (rest own others : List SlotState) (g : SlotGroup)
    → i < length groups → g ≡ get_or groups i g → own ≡ take (min g.count (length rest)) rest → others ≡ drop (min g.count (length rest)) rest
    → drop i W ≡ written_groups first (drop i groups) rest
    → drop (i + 1) W ≡ written_groups (first + length own) (drop (i + 1) groups) others
groups-left W i first groups rest own others g within is own_is others_is left =
    let next = drop-next i W _ _ (next_left W i first groups rest g within is left) in
    let same : take g.count rest ≡ own = sym (take_min g.count rest) ∙ sym own_is in
    let behind : drop g.count rest ≡ others = sym (drop_min g.count rest) ∙ sym others_is in
    rw add-one
    (next
    ∙ ap (λ (s : List SlotState). written_groups (first + length s) (drop (suc i) groups) (drop g.count rest)) same
    ∙ ap (λ (s : List SlotState). written_groups (first + length own) (drop (suc i) groups) s) behind)
