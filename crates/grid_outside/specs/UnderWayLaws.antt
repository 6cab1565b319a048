-- That one exchange is under way or none.
use Rattle.std.proofs.Common.{ℕ, List}
use Rattle.std.specs.Prelude.{Option, None, Some}
use Rattle.grid_outside.specs.declared.exchange.Ask.{Ask}
use Rattle.grid_outside.specs.Exchanges.{Came}
use Rattle.grid_outside.specs.UnderWay.{IsUnderWay}

pub one_under_way : {S : Type 0} (gives : S → List ℕ → Ask → Came → S → Type 0) (faults : S → ℕ) (before : S) (came : Option Came) (nodes : S) (address : List ℕ) (ask : Ask) →
    IsUnderWay gives faults before came nodes (Some (address, ask)) → IsUnderWay gives faults before came nodes None → ⊥
one_under_way gives faults before None nodes address ask some none = some
one_under_way gives faults before (Some came) nodes address ask some none = absurd cc
