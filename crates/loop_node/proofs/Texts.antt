-- Texts cut at the first byte of a kind.
use Rattle.std.proofs.Common.{◌≡◌, ◌≢◌, ℕ, zero, suc, ◌<◌, ◌==◌, cond, List, [], ◌∷◌, length, get_or, take, drop, refl, ap, arith}
use Rattle.std.proofs.lemmas.Bool.Decides.{nat_tests}
use Rattle.loop_node.specs.Paths.{up_to, from_first}

-- no byte before place i is c
abbrev pub Passed : ℕ → List ℕ → ℕ → Type 0
Passed c bs i = (k : ℕ) → k < i → get_or bs k 0 ≢ c

at_head : (c b : ℕ) {X : Type 0} (x y : X) → b ≢ c → cond (b == c) x y ≡ y
at_head c b x y other = grind (arith, nat_tests)

at_stop : (c b : ℕ) {X : Type 0} (x y : X) → b ≡ c → cond (b == c) x y ≡ x
at_stop c b x y same = grind (arith, nat_tests)

later : (c b : ℕ) (bs : List ℕ) (i : ℕ) → Passed c (b ∷ bs) (suc i) → Passed c bs i
later c b bs i passed = λ k below. passed (suc k) (omega arith)

pub up_to-at : (c : ℕ) (bs : List ℕ) (i : ℕ) → i < length bs → Passed c bs i → get_or bs i 0 ≡ c → up_to c bs ≡ take i bs
up_to-at c [] i within passed stop = absurd (omega arith)
up_to-at c (b ∷ bs) zero within passed stop = at_stop c b [] (b ∷ up_to c bs) stop
up_to-at c (b ∷ bs) (suc i) within passed stop =
    rw (at_head c b [] (b ∷ up_to c bs) (passed 0 (omega arith))) (ap (λ (xs : List ℕ). b ∷ xs) (up_to-at c bs i (omega arith) (later c b bs i passed) stop))

pub up_to-none : (c : ℕ) (bs : List ℕ) → Passed c bs (length bs) → up_to c bs ≡ bs
up_to-none c [] passed = refl
up_to-none c (b ∷ bs) passed =
    rw (at_head c b [] (b ∷ up_to c bs) (passed 0 (omega arith))) (ap (λ (xs : List ℕ). b ∷ xs) (up_to-none c bs (later c b bs (length bs) passed)))

pub from_first-at : (c : ℕ) (bs : List ℕ) (i : ℕ) → i < length bs → Passed c bs i → get_or bs i 0 ≡ c → from_first c bs ≡ drop i bs
from_first-at c [] i within passed stop = absurd (omega arith)
from_first-at c (b ∷ bs) zero within passed stop = at_stop c b (b ∷ bs) (from_first c bs) stop
from_first-at c (b ∷ bs) (suc i) within passed stop =
    rw (at_head c b (b ∷ bs) (from_first c bs) (passed 0 (omega arith))) (from_first-at c bs i (omega arith) (later c b bs i passed) stop)

pub from_first-none : (c : ℕ) (bs : List ℕ) → Passed c bs (length bs) → from_first c bs ≡ []
from_first-none c [] passed = refl
from_first-none c (b ∷ bs) passed =
    rw (at_head c b (b ∷ bs) (from_first c bs) (passed 0 (omega arith))) (from_first-none c bs (later c b bs (length bs) passed))
