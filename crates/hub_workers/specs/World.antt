-- What the steps of a pass say of the shared hub, of the nodes and of the clock.
use Rattle.std.specs.Prelude.{◌≡◌, ◌⊎◌, ℕ, Bool, true, false, List, [], ◌∷◌, Option, None, Some}
use Rattle.grid_types.specs.Calls.{Call, Reply}
use Rattle.grid_types.specs.declared.entry.Found.TheVariants as found
use Rattle.grid_types.specs.LookupMap.{Item, changes, find}
use Rattle.grid_types.specs.Sessions.{found_of}
use Rattle.grid_outside.specs.Told.{ClockView, Tick}
use Rattle.grid_outside.specs.declared.exchange.Ask.{Ask}
use Rattle.grid_outside.specs.Exchanges.{Came}
use Rattle.turn_cell.specs.declared.views.View.{View}
use Rattle.turn_cell.specs.Steps.{with_look}
use Rattle.grid_types.specs.declared.spent.Spent as spent
use Rattle.hub_cell.specs.declared.grid.Grid.{Grid}
use Rattle.hub_cell.specs.declared.hub.SharedHub.{SharedHub}
use Rattle.hub_cell.specs.Passes.{IsSpent, config_of}
use Rattle.hub_cell.specs.Shared.{LooksOnce, SharedServes, past}
use Rattle.map_view.specs.Lists.{BeginsWith}
use Rattle.node_client.specs.Runs.{Clocked, Exchanges, KeepsTime}
use Rattle.node_client.specs.Steps.{Step, Called, Spent, Exchanged, Paused}

-- what a pass knows
abbrev pub Knowledge : Type 0
Knowledge = View Grid

-- a call that takes room ahead of its change, and finds none
abbrev pub wants_room : Call → Bool
wants_room Call.sweep = true
wants_room Call.expire = true
wants_room (Call.end session binding) = true
wants_room call = false

-- A look-up that found its session without a turn, in a list of the map's changes that begins with those of what the pass has
-- seen. That it was found there, and so, is noted in what the pass knows; only a look-up in the map notes it.
abbrev pub FindsInMap : Knowledge → Call → Option Reply → Knowledge → Type 0
FindsInMap old (Call.lookup session) (Some (Reply.found (found.At slot address binding))) new =
    (new ≡ with_look session (found.At slot address binding) old)
    × (list : List Item) × BeginsWith list (changes (past old))
    × (found.At slot address binding ≡ found_of (find list session))
FindsInMap old call reply new = ⊥

-- The pass took one turn, at a point of the one history that begins with all that it had seen, and there the hub of one
-- thread answers so. Or there was no room, and the turn made no entry; or a session was found without a turn.
abbrev pub AnswersAt : SharedHub → Knowledge → Call → ℕ → Option Reply → Knowledge → Type 0
AnswersAt hub old call at None new =
    SharedServes (config_of hub) old call at None new ⊎ ((wants_room call ≡ true) × LooksOnce old new)
AnswersAt hub old call at (Some reply) new =
    SharedServes (config_of hub) old call at (Some reply) new ⊎ FindsInMap old call (Some reply) new

-- From what the pass knew, each call was answered so, one behind the other, or found that no ticket was left; and then it
-- knows `last`.
unfoldable pub Answered : SharedHub → Knowledge → List Step → Knowledge → Type 0
Answered hub known [] last = last ≡ known
Answered hub known (Called call at reply ∷ steps) last =
    (next : Knowledge) × AnswersAt hub known call at reply next × Answered hub next steps last
Answered hub known (Spent call at ∷ steps) last =
    (next : Knowledge) × (s : spent.Spent) × IsSpent hub known s next × Answered hub next steps last
Answered hub known (Exchanged address ask came ∷ steps) last = Answered hub known steps last
Answered hub known (Paused ms ∷ steps) last = Answered hub known steps last

-- what a pass knows, its nodes, its clock, and what that tells
pub record World (N C : Type 0) : Type 0 where
  pub view : Knowledge
  pub nodes : N
  pub clock : C
  pub time : ClockView

abbrev pub world_of : {N C : Type 0} → Knowledge → N → C → ClockView → World N C
world_of view nodes clock time = record { view = view; nodes = nodes; clock = clock; time = time }

-- The steps lead from the one world to the other: their calls are all that the pass did, their exchanges all that the nodes
-- were asked, and the clock was asked once for the moment of each call, behind the step before it, and for their pauses.
pub record Went {N C : Type 0} (hub : SharedHub) (gives : N → List ℕ → Ask → Came → N → Type 0)
    (tells : C → Tick → ℕ → C → Type 0) (old : World N C) (steps : List Step) (new : World N C) : Type 0 where
  pub answered : Answered hub old.view steps new.view
  pub asked : Exchanges gives old.nodes steps new.nodes
  pub clocked : Clocked tells old.clock steps new.clock
  pub keeps_time : KeepsTime old.time steps new.time
