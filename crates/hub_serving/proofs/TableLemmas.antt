-- Lists that go together place by place, of which one place goes on; and what is told of a connection that is over.
use Rattle.std.proofs.Common.{◌≡◌, ℕ, zero, suc, ◌+◌, ◌<◌, List, [], ◌∷◌, ◌++◌, length, slice_set, slice_index_or, All, arith, refl, ap}
use Rattle.std.specs.Prelude.{Option, None, Some, Result, IfSome, true, get_or}
use Rattle.std.specs.List.{AllZip}
use Rattle.std.proofs.lemmas.List.Elements.{All-cons, All-nil}
use Rattle.grid_types.specs.Legal.{legal}
use Rattle.grid_types.specs.Safe.{IsSafe}
use Rattle.grid_outside.specs.Told.{ClockView, LinkView, Tick}
use Rattle.grid_outside.specs.declared.exchange.Ask.{Ask}
use Rattle.grid_outside.specs.Exchanges.{Came}
use Rattle.turn_cell.specs.Rule.{entries_of}
use Rattle.hub_cell.specs.declared.hub.SharedHub.{SharedHub}
use Rattle.hub_cell.specs.Passes.{config_of, knows}
use Rattle.hub_cell.specs.Shared.{past}
use Rattle.conn_script.specs.declared.wants.ConnFault.{ConnFault}
use Rattle.conn_script.specs.declared.wants.Served.{Served}
use Rattle.hub_conn.specs.SpentLaws.{SpentLaws}
use Rattle.hub_serving.specs.declared.seats.Seat.{Seat}
use Rattle.hub_workers.specs.SharedClock.{SharedTells}
use Rattle.hub_serving.specs.Tables.{IsServed, ServesSeat, first_of, now_of}
use Rattle.hub_serving.proofs.ServedLemmas.{sees_on, told_spent}

pub zip_start : {X : Type 0} (P : X → Type 0) (R : X → X → Type 0) → ((x : X) → P x → R x x) → (xs : List X) → All P xs → AllZip R xs xs
zip_start P R same [] all = tt
zip_start P R same (x ∷ xs) all = (same x (all 0 x (omega arith)), zip_start P R same xs (λ k d below. all (suc k) d (omega (arith, below))))

-- what holds of each that goes on
pub zip_right : {X : Type 0} (Q : X → Type 0) (R : X → X → Type 0) → ((x y : X) → R x y → Q y) → (xs ys : List X) → AllZip R xs ys → All Q ys
zip_right Q R of [] [] z = All-nil Q
zip_right Q R of [] (y ∷ ys) z = absurd z
zip_right Q R of (x ∷ xs) [] z = absurd z
zip_right Q R of (x ∷ xs) (y ∷ ys) z = All-cons Q y ys (of x y z.0) (zip_right Q R of xs ys z.1)

-- what follows of each pair
pub zip_map : {X : Type 0} (R Q : X → X → Type 0) → ((x y : X) → R x y → Q x y) → (xs ys : List X) → AllZip R xs ys → AllZip Q xs ys
zip_map R Q of [] [] z = tt
zip_map R Q of [] (y ∷ ys) z = absurd z
zip_map R Q of (x ∷ xs) [] z = absurd z
zip_map R Q of (x ∷ xs) (y ∷ ys) z = (of x y z.0, zip_map R Q of xs ys z.1)

-- what holds of each holds where another is put in a place of which it holds
pub all_put : {X : Type 0} (P : X → Type 0) (xs : List X) (i : ℕ) (new : X) → i < length xs → P new → All P xs → All P (slice_set xs i new)
all_put P [] i new below p all = absurd (omega (arith, below))
all_put P (x ∷ xs) zero new below p all = All-cons P new xs p (λ k d inside. all (suc k) d (omega (arith, inside)))
all_put P (x ∷ xs) (suc i) new below p all =
    All-cons P x (slice_set xs i new) (all 0 x (omega arith)) (all_put P xs i new (omega (arith, below)) p (λ k d inside. all (suc k) d (omega (arith, inside))))

-- and where one more is put behind them
pub all_behind : {X : Type 0} (P : X → Type 0) (xs : List X) (new : X) → P new → All P xs → All P (xs ++ new ∷ [])
all_behind P [] new p all = All-cons P new [] p (All-nil P)
all_behind P (x ∷ xs) new p all =
    All-cons P x (xs ++ new ∷ []) (all 0 x (omega arith)) (all_behind P xs new p (λ k d inside. all (suc k) d (omega (arith, inside))))

-- one of them goes on further
pub zip_on : {X : Type 0} (R : X → X → Type 0) → ((x y z : X) → R x y → R y z → R x z) → (xs ys : List X) (i : ℕ) (d new : X) → AllZip R xs ys → i < length ys →
    R (get_or ys i d) new → AllZip R xs (slice_set ys i new)
zip_on R trans [] [] i d new z below on = absurd (omega (arith, below))
zip_on R trans [] (y ∷ ys) i d new z below on = absurd z
zip_on R trans (x ∷ xs) [] i d new z below on = absurd z
zip_on R trans (x ∷ xs) (y ∷ ys) zero d new z below on = (trans x y new z.0 on, z.1)
zip_on R trans (x ∷ xs) (y ∷ ys) (suc i) d new z below on = (z.0, zip_on R trans xs ys i d new z.1 (omega (arith, below)) on)

module _ {L N S C : Type 0} (hub : SharedHub) (line_view : L → LinkView) (state : N → S) (gives : S → List ℕ → Ask → Came → S → Type 0)
    (asks : N → Option (List ℕ × Ask) → Type 0) (tells : C → Tick → ℕ → C → Type 0) (clock_view : C → ClockView) where
  pub told_all : (seat : Seat L N C) (o : Option (Result Served ConnFault)) → SpentLaws → legal (config_of hub) (past (knows seat.pass)) ≡ true → IsSafe (past (knows seat.pass)) →
      entries_of (knows seat.pass).number (knows seat.pass).seen ≡ (knows seat.pass).mine → IsServed hub line_view state gives asks tells clock_view seat o →
      IfSome o (ServesSeat hub line_view state gives asks tells clock_view seat)
  told_all seat None laws is_legal is_safe exact served = tt
  told_all seat (Some result) laws is_legal is_safe exact served =
      let first = first_of line_view state clock_view seat in
      let later = now_of line_view state clock_view seat in
      record {
        served = served.0;
        sees = sees_on hub gives (SharedTells tells clock_view) result first later served.0 is_legal is_safe exact;
        blames = served.1;
        spent = told_spent hub gives (SharedTells tells clock_view) result first later laws served.0;
      }

-- another is put in the place of the last one
pub put_last : {X : Type 0} (xs : List X) (old new : X) → slice_set (xs ++ old ∷ []) (length xs) new ≡ xs ++ new ∷ []
put_last [] old new = refl
put_last (x ∷ xs) old new = ap (λ zs. x ∷ zs) (put_last xs old new)

-- the last one of them
pub last_of : {X : Type 0} (xs : List X) (old other : X) → slice_index_or (xs ++ old ∷ []) (length xs) other ≡ old
last_of [] old other = refl
last_of (x ∷ xs) old other = last_of xs old other
