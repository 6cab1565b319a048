-- The statuses of the hub's program.
use Rattle.std.specs.Prelude.{◌≡◌, ℕ, ◌≤◌, ◌⊎◌, Some}
use Rattle.std.specs.declared.net.ip_addr.IpAddr.{IpAddr}
use Rattle.grid_types.specs.declared.config.HubConfig.{HubConfig}
use Rattle.grid_outside.specs.Counts.{Rose}
use Rattle.grid_outside.specs.Told.{DoorView, NoneFell}
use Rattle.hub_server.specs.declared.begins.Unbegun.{Unbegun}
use Rattle.hub_server.specs.declared.begins.Unbegun.TheVariants as unbegun

-- The links ended behind a door that is bound: it was found closed, or it failed, or there was no memory.
pub record HasRun (old new : DoorView) (status : ℕ) : Type 0 where
  pub closed : status ≡ 0 → Rose old.ends new.ends
  pub failed : status ≡ 3 → Rose old.faults new.faults
  pub later : NoneFell old new
  pub statuses : (status ≡ 0) ⊎ ((status ≡ 3) ⊎ (status ≡ 5))

-- the status where a hub has not begun
abbrev pub status_of : Unbegun → ℕ
status_of unbegun.Memory = 5
status_of unbegun.Failed = 6
status_of unbegun.Held = 7
status_of unbegun.NoJournal = 11

-- why a hub that keeps no journal may not begin: there was no memory, or it was to keep one
abbrev pub MayNotBeNew : Unbegun → Type 0
MayNotBeNew why = (why ≡ unbegun.Memory) ⊎ (why ≡ unbegun.Failed)

-- the hub is set up with what is told, but for the first numbers that it gives
pub record IsSetUpAs (told config : HubConfig) : Type 0 where
  pub timeout : config.timeout_ms ≡ told.timeout_ms
  pub idle : config.idle_ms ≡ told.idle_ms
  pub lapse : config.lapse_ms ≡ told.lapse_ms
  pub down : config.down_ms ≡ told.down_ms
  pub queue : config.queue_requests ≡ told.queue_requests
  pub rejects : config.reject_unsupported ≡ told.reject_unsupported

-- the status of a program that was not refused: its links ended, or its hub had not begun for one of these reasons
abbrev pub MayEnd : (Unbegun → Type 0) → ℕ → Type 0
MayEnd may status =
    (status ≡ 0) ⊎ ((status ≡ 3) ⊎ ((status ≡ 5) ⊎ ((why : Unbegun) × may why × (status ≡ status_of why))))

-- The links ended behind a door that is bound, or the hub had not begun.
pub record HasRunOr (may : Unbegun → Type 0) (old new : DoorView) (status : ℕ) : Type 0 where
  pub closed : status ≡ 0 → Rose old.ends new.ends
  pub failed : status ≡ 3 → Rose old.faults new.faults
  pub later : NoneFell old new
  pub statuses : MayEnd may status

-- The door was set to the address, and bound at the port where that did not fail, and then the links ended behind it.
pub record HasServed (may : Unbegun → Type 0) (address : IpAddr) (port : ℕ) (old new : DoorView) (status : ℕ) : Type 0 where
  pub closed : status ≡ 0 → Rose old.ends new.ends × (new.bound ≡ Some port)
  pub failed : status ≡ 3 → Rose old.faults new.faults
  pub ends : old.ends ≤ new.ends
  pub faults : old.faults ≤ new.faults
  pub bound : (new.bound ≡ old.bound) ⊎ (new.bound ≡ Some port)
  pub host : new.host ≡ Some address
  pub statuses : MayEnd may status
