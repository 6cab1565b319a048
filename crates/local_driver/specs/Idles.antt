-- Sessions that were idle for too long, ended one after the other.
use Rattle.std.specs.Prelude.{◌≡◌, ◌⊎◌, ℕ, ◌<◌, Bool, true, false, List, [], ◌∷◌, ◌++◌, length, Some, None, Err}
use Rattle.grid_types.specs.declared.entry.Entry.{Entry}
use Rattle.grid_types.specs.Sessions.{live_bindings}
use Rattle.grid_types.specs.Tokens.{Closing}
use Rattle.grid_types.specs.Calls.{Call, Reply}
use Rattle.grid_outside.specs.declared.exchange.ExchangeFault.TheVariants.{Memory}
use Rattle.node_client.specs.Asks.{quit_ask}
use Rattle.node_client.specs.Steps.{Step, Called, Exchanged}
use Rattle.conn_script.specs.Begin.{AsksToEnd}
use Rattle.local_driver.specs.declared.before.Idle.{Idle}
use Rattle.local_driver.specs.declared.before.Idle.TheVariants as idle

-- The node is asked to end the session where that is called for; or it was to be asked, and there was no memory for it.
abbrev pub AsksOrLacks : Closing → (sent : Bool) → List Step → Type 0
AsksOrLacks c true steps = AsksToEnd c steps
AsksOrLacks c false steps = (c.quit ≡ true) × (steps ≡ Exchanged c.address (quit_ask c.session) (Err Memory) ∷ [])

-- and then the slot is freed
pub record AsksAndFrees (c : Closing) (sent : Bool) (steps : List Step) : Type 0 where
  pub own : List Step
  pub at : ℕ
  pub asks : AsksOrLacks c sent own
  pub steps_are : steps ≡ own ++ Called (Call.freed c) at (Some Reply.is_freed) ∷ []

-- an idle session is ended at the hub and at its node, and its slot is freed
pub record EndsIdle (sent : Bool) (steps : List Step) : Type 0 where
  pub at : ℕ
  pub c : Closing
  pub own : List Step
  pub frees : AsksAndFrees c sent own
  pub steps_are : steps ≡ Called Call.expire at (Some (Reply.expired c)) ∷ own

-- idle sessions, one after the other
pub data AllEnd : List Step → Type 0 where
  none_yet : AllEnd []
  one_more : (done own : List Step) → AllEnd done → EndsIdle true own → AllEnd (done ++ own)

abbrev pub found_by : Bool → Idle
found_by true = idle.Ended
found_by false = idle.Lacks

-- what came of one look for an idle session
abbrev pub Looked : Idle → List Step → Type 0
Looked idle.Ended steps = EndsIdle true steps
Looked idle.Over steps = (at : ℕ) × (steps ≡ Called Call.expire at (Some Reply.nothing) ∷ [])
Looked idle.Lacks steps = ((at : ℕ) × (steps ≡ Called Call.expire at None ∷ [])) ⊎ EndsIdle false steps

-- how many sessions run
abbrev pub live_count : List Entry → ℕ
live_count H = length (live_bindings H)

abbrev pub EndsOne : Idle → (before later : List Entry) → Type 0
EndsOne idle.Ended before later = live_count later < live_count before
EndsOne found before later = Unit {0}
