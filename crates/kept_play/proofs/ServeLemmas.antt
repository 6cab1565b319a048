-- How a connection that was served tells its end.
use Rattle.std.proofs.Common.{◌≡◌, ℕ, refl, sym, subst}
use Rattle.std.specs.Prelude.{Option, IfSome, Result, Ok, Err, IsErrOf}
use Rattle.conn_script.specs.declared.wants.ConnFault.{ConnFault}
use Rattle.conn_script.specs.declared.wants.Served.{Served}
use Rattle.grid_outside.specs.Counts.{Rose}
use Rattle.row_keeper.specs.Disks.{Disk}
use Rattle.own_hub.specs.Own.{Goes}
use Rattle.grid_keeper.specs.declared.kept_hub.KeptHub.{KeptHub}
use Rattle.grid_keeper.specs.declared.kept_hub.KeptFault.{KeptFault}
use Rattle.grid_keeper.specs.declared.kept_hub.KeptFault.TheVariants as faults
use Rattle.grid_keeper.specs.Runs.{Ended, Ran, kept_own}
use Rattle.kept_play.specs.declared.serving.KeptEnd.{KeptEnd}
use Rattle.kept_play.specs.declared.serving.KeptEnd.TheVariants as ends
use Rattle.kept_play.specs.Serving.{KeptTo, conn_of, end_of, told_of}

pub tells : (P : Result Served ConnFault → Type 0) (ended : Result Served ConnFault) (result : Result Served KeptEnd) → result ≡ told_of ended → P ended → IfSome (conn_of result) P
tells P ended result is holds = subst (λ (r : Result Served KeptEnd). IfSome (conn_of r) P) (sym is) (by_end ended holds)
  where
    by_end : (e : Result Served ConnFault) → P e → IfSome (conn_of (told_of e)) P
    by_end (Ok served) h = h
    by_end (Err fault) h = h

pub tells_none : (P : Result Served ConnFault → Type 0) (fault : KeptFault) (end : KeptEnd) → end ≡ end_of fault → IfSome (conn_of (Err end)) P
tells_none P fault end is = subst (λ (e : KeptEnd). IfSome (conn_of (Err e)) P) (sym is) (by_fault fault)
  where
    by_fault : (f : KeptFault) → IfSome (conn_of (Err (end_of f))) P
    by_fault faults.Keeper = tt
    by_fault faults.Memory = tt

pub no_keeper : (ended : Result Served ConnFault) (result : Result Served KeptEnd) → result ≡ told_of ended → IsErrOf result ends.Keeper → ⊥
no_keeper ended result is blamed = by_end ended (subst (λ (r : Result Served KeptEnd). IsErrOf r ends.Keeper) is blamed)
  where
    by_end : (e : Result Served ConnFault) → IsErrOf (told_of e) ends.Keeper → ⊥
    by_end (Ok served) h = absurd (cc h)
    by_end (Err fault) h = absurd (cc h)

module _ {K : Type 0} (disk : K → Option Disk) (count : K → ℕ) where
  pub kept_all : (old new : KeptHub K) (ended : Result Served ConnFault) (result : Result Served KeptEnd) → result ≡ told_of ended → Ran disk count old old → Goes (kept_own disk count) old new → KeptTo disk count old result new
  kept_all old new ended result is first goes = subst (λ (r : Result Served KeptEnd). KeptTo disk count old r new) (sym is) (by_end ended)
    where
      by_end : (e : Result Served ConnFault) → KeptTo disk count old (told_of e) new
      by_end (Ok served) = record { is_open = goes.is_open; ran = goes.along old first }
      by_end (Err fault) = record { is_open = goes.is_open; ran = goes.along old first }

  pub kept_till : (old new : KeptHub K) (fault : KeptFault) (end : KeptEnd) → end ≡ end_of fault → Ended disk count old fault new → KeptTo disk count old (Err end) new
  kept_till old new fault end is ended = subst (λ (e : KeptEnd). KeptTo disk count old (Err e) new) (sym is) (by_fault fault ended)
    where
      by_fault : (f : KeptFault) → Ended disk count old f new → KeptTo disk count old (Err (end_of f)) new
      by_fault faults.Keeper h = h
      by_fault faults.Memory h = h

  pub blamed : (old new : KeptHub K) (fault : KeptFault) (end : KeptEnd) → end ≡ end_of fault → Ended disk count old fault new → IsErrOf {T = Served} (Err end) ends.Keeper → Rose (count old.keeper) (count new.keeper)
  blamed old new fault end is ended told = by_fault fault ended (subst (λ (e : KeptEnd). IsErrOf {T = Served} (Err e) ends.Keeper) is told)
    where
      by_fault : (f : KeptFault) → Ended disk count old f new → IsErrOf {T = Served} (Err (end_of f)) ends.Keeper → Rose (count old.keeper) (count new.keeper)
      by_fault faults.Keeper e t = e.cause refl
      by_fault faults.Memory e t = absurd (cc t)
