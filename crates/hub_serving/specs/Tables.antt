-- Connections that one thread serves beside each other, each with the pass, the line and the nodes that it began with.
use Rattle.std.specs.Prelude.{◌≡◌, ℕ, List, None, Some, Option, Result, IfSome}
use Rattle.grid_outside.specs.Told.{ClockView, LinkView, Tick}
use Rattle.grid_outside.specs.declared.exchange.Ask.{Ask}
use Rattle.grid_outside.specs.Exchanges.{Came}
use Rattle.hub_cell.specs.declared.hub.SharedHub.{SharedHub}
use Rattle.hub_cell.specs.declared.hub.Pass.{Pass}
use Rattle.hub_cell.specs.Passes.{IsOf}
use Rattle.conn_script.specs.declared.wants.ConnFault.{ConnFault}
use Rattle.conn_script.specs.declared.wants.Served.{Served}
use Rattle.hub_serving.specs.declared.stepping.Act.{Act}
use Rattle.hub_serving.specs.declared.stepping.Act.TheVariants as acts
use Rattle.hub_serving.specs.declared.seats.Seat.{Seat}
use Rattle.hub_serving.specs.Outside.{Outside}
use Rattle.hub_serving.specs.Served.{ServesConnection}
use Rattle.hub_serving.specs.Serving.{EndedSo}
use Rattle.hub_workers.specs.SharedClock.{Remembers, SharedTells}
use Rattle.hub_serving.specs.Seats.{Sits, seen_by}

-- its pass, its line and what reaches its nodes
abbrev pub pass_of : {L N C : Type 0} → Seat L N C → Pass
pass_of seat = seat.pass

abbrev pub line_of : {L N C : Type 0} → Seat L N C → L
line_of seat = seat.line

abbrev pub nodes_of : {L N C : Type 0} → Seat L N C → N
nodes_of seat = seat.nodes

-- how it ended, if it has
abbrev pub ended_of : {L N C : Type 0} → Seat L N C → Option (Result Served ConnFault)
ended_of seat = seat.ended

module _ {L N S C : Type 0} (line_view : L → LinkView) (state : N → S) (clock_view : C → ClockView) where
  -- all outside of the connection when it began, and now
  abbrev pub first_of : Seat L N C → Outside S C
  first_of seat =
      seen_by clock_view seat.first_pass.value (state seat.first_nodes.value) seat.first_clock.value
      (line_view seat.first_line.value)

  abbrev pub now_of : Seat L N C → Outside S C
  now_of seat = seen_by clock_view seat.pass (state seat.nodes) seat.last.value (line_view seat.line)

  -- What a step says of it: that it is over, and how it ended; or it isn't over, and where it rests nothing outside has changed.
  abbrev pub Says : Act → Seat L N C → Seat L N C → Type 0
  Says (acts.Over result) old new = new.ended ≡ Some result
  Says acts.GoesOn old new = new.ended ≡ None
  Says (acts.Rests rest) old new = (new.ended ≡ None) × (now_of new ≡ now_of old)

  -- and what is said at a place of a table, of the connection that stands there
  abbrev pub SaysAt : Option Act → Option (Seat L N C) → Option (Seat L N C) → Type 0
  SaysAt told old new = IfSome told (λ act. IfSome old (λ before. IfSome new (Says act before)))

module _ {L N S C : Type 0} (hub : SharedHub) (line_view : L → LinkView) (state : N → S) (gives : S → List ℕ → Ask → Came → S → Type 0)
    (asks : N → Option (List ℕ × Ask) → Type 0) (tells : C → Tick → ℕ → C → Type 0) (clock_view : C → ClockView) where
  -- it is served, or has ended so: then the whole of it is one conversation
  abbrev pub IsServed : Seat L N C → Option (Result Served ConnFault) → Type 0
  IsServed seat None =
      Sits hub gives asks tells clock_view (first_of line_view state clock_view seat) seat.talk seat.nodes seat.asking
      (now_of line_view state clock_view seat)
  IsServed seat (Some result) =
      EndedSo hub gives (SharedTells tells clock_view) (first_of line_view state clock_view seat) result
      (now_of line_view state clock_view seat)

  -- a connection with its pass of the hub, over the clock as it is now
  pub record IsSeated (clock : C) (seat : Seat L N C) : Type 0 where
    pub own : IsOf hub seat.pass
    pub served : IsServed seat seat.ended
    pub remembers : Remembers tells clock_view clock seat.moment seat.last.value

  -- it is the same connection, further on
  pub record SitsOn (clock : C) (old new : Seat L N C) : Type 0 where
    pub same : first_of line_view state clock_view new ≡ first_of line_view state clock_view old
    pub seated : IsSeated clock new

  -- It is the same connection, and nothing outside of it was done: over each clock it is seated where it was.
  pub record IsStill (old new : Seat L N C) : Type 0 where
    pub same : first_of line_view state clock_view new ≡ first_of line_view state clock_view old
    pub now : now_of line_view state clock_view new ≡ now_of line_view state clock_view old
    pub ended : ended_of new ≡ ended_of old
    pub seated : (clock : C) → IsSeated clock old → IsSeated clock new

  -- at a place of a table stands the connection that stood there, further on; or none, as before
  abbrev pub StaysAt : C → Option (Seat L N C) → Option (Seat L N C) → Type 0
  StaysAt clock None None = Unit {0}
  StaysAt clock (Some old) (Some new) = SitsOn clock old new
  StaysAt clock None (Some new) = ⊥
  StaysAt clock (Some old) None = ⊥

  -- at a place of a table stands the same connection, of which nothing outside was done; or none, as before
  abbrev pub StillAt : Option (Seat L N C) → Option (Seat L N C) → Type 0
  StillAt None None = Unit {0}
  StillAt (Some old) (Some new) = IsStill old new
  StillAt None (Some new) = ⊥
  StillAt (Some old) None = ⊥

  -- All that is told of a connection that is over: what is said of one that is served alone, over what it had outside when it
  -- began and has now.
  abbrev pub ServesSeat : Seat L N C → Result Served ConnFault → Type 0
  ServesSeat seat result =
      ServesConnection hub gives (SharedTells tells clock_view) (first_of line_view state clock_view seat) result
      (now_of line_view state clock_view seat)
