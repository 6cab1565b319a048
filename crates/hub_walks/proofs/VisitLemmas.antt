-- What a walk over the nodes knows of the one that it visits.
use Rattle.std.proofs.Common.{◌≡◌, ℕ, zero, suc, ◌<◌, Bool, true, false, cond, not, ◌&&◌, List, [], ◌∷◌, length, refl, sym, ap, ◌∙◌, arith}
use Rattle.std.specs.Prelude.{Option, Some, option_map, unwrap_or}
use Rattle.std.specs.List.{slice_get}
use Rattle.grid_types.specs.declared.entry.Entry.{Entry}
use Rattle.grid_types.specs.declared.capabilities.Cap.{Cap}
use Rattle.grid_types.specs.declared.capabilities.Registration.{Registration}
use Rattle.grid_types.specs.Nodes.{registration_of, is_up}
use Rattle.grid_types.specs.Slots.{load}
use Rattle.grid_types.specs.Requests.{is_barred}
use Rattle.grid_types.specs.Fit.{has_sessions_left}
use Rattle.slot_select.specs.declared.choice.Best.{Best}
use Rattle.slot_select.specs.declared.choice.NodeFacts.{NodeFacts}
use Rattle.slot_select.specs.Select.{selected}
use Rattle.slot_select.specs.Rows.{facts_of, is_open}
use Rattle.hub_walks.specs.First.{row_with, with_open}

-- the node at a place
pub get-there : (xs : List ℕ) (i : ℕ) → i < length xs → (n : ℕ) × (Some n ≡ slice_get xs i)
get-there [] i h = absurd (omega arith)
get-there (x ∷ xs) zero h = (x, refl)
get-there (x ∷ xs) (suc i) h = get-there xs i (omega arith)

pub one-number : (m n : ℕ) (o : Option ℕ) → Some m ≡ o → Some n ≡ o → m ≡ n
one-number m n o e f = let same : Some m ≡ Some n = e ∙ sym f in cc

-- what the tables tell of a node is what is told of it in the history
pub facts-told : (H : List Entry) (rank : ℕ → ℕ) (n used turn : ℕ) (reg : Registration) → used ≡ load H n → Some reg ≡ registration_of H n → turn ≡ rank n →
    record { node = n; load = used; max = reg.max_sessions; last_reserved = turn } ≡ facts_of H rank n
facts-told H rank n used turn reg e f h =
    ap (λ (z : ℕ). facts n z reg.max_sessions turn) e
    ∙ ap (λ (o : Option Registration). facts n (load H n) (unwrap_or (option_map (λ (z : Registration). z.max_sessions) o) 0) turn) f
    ∙ ap (λ (z : ℕ). facts n (load H n) (unwrap_or (option_map (λ (r : Registration). r.max_sessions) (registration_of H n)) 0) z) h
  where
    facts : ℕ → ℕ → ℕ → ℕ → NodeFacts
    facts node used most turn = record { node = node; load = used; max = most; last_reserved = turn }

-- a node that leaves the best as it is, whether it is open or not
pub passed : (H : List Entry) (rank : ℕ → ℕ) (r n : ℕ) (wanted : List Cap) (best : Option Best) (facts : NodeFacts) → facts ≡ facts_of H rank n →
    best ≡ selected wanted best (row_with H facts) → best ≡ with_open H rank r wanted best n
passed H rank r n wanted best facts e h = by_open (is_open H r n)
  where
    by_open : (v : Bool) → best ≡ cond v (selected wanted best (row_with H (facts_of H rank n))) best
    by_open true = h ∙ ap (λ (z : NodeFacts). selected wanted best (row_with H z)) e
    by_open false = refl

-- a node that is open
pub opened : (H : List Entry) (rank : ℕ → ℕ) (r n : ℕ) (wanted : List Cap) (best new : Option Best) (facts : NodeFacts) → facts ≡ facts_of H rank n →
    new ≡ selected wanted best (row_with H facts) → is_open H r n ≡ true → new ≡ with_open H rank r wanted best n
opened H rank r n wanted best new facts e h open_is =
    h ∙ ap (λ (z : NodeFacts). selected wanted best (row_with H z)) e
    ∙ sym (ap (λ (v : Bool). cond v (selected wanted best (row_with H (facts_of H rank n))) best) open_is)

-- a node that is not
pub closed : (H : List Entry) (rank : ℕ → ℕ) (r n : ℕ) (wanted : List Cap) (best : Option Best) → is_open H r n ≡ false → best ≡ with_open H rank r wanted best n
closed H rank r n wanted best e = sym (ap (λ (v : Bool). cond v (selected wanted best (row_with H (facts_of H rank n))) best) e)

pub barred-closed : (H : List Entry) (r n : ℕ) → is_barred H r n ≡ true → is_open H r n ≡ false
barred-closed H r n e = ap (λ (v : Bool). is_up H n && not v && has_sessions_left H n) e ∙ by_test (is_up H n)
  where
    by_test : (v : Bool) → (v && false && has_sessions_left H n) ≡ false
    by_test true = refl
    by_test false = refl

pub spent-closed : (H : List Entry) (r n : ℕ) → has_sessions_left H n ≡ false → is_open H r n ≡ false
spent-closed H r n e = ap (λ (v : Bool). is_up H n && not (is_barred H r n) && v) e ∙ by_tests (is_up H n) (is_barred H r n)
  where
    by_tests : (v w : Bool) → (v && not w && false) ≡ false
    by_tests true true = refl
    by_tests true false = refl
    by_tests false w = refl

pub all-open : (H : List Entry) (r n : ℕ) → is_up H n ≡ true → is_barred H r n ≡ false → has_sessions_left H n ≡ true → is_open H r n ≡ true
all-open H r n up untried left = rw (up, untried, left) refl
