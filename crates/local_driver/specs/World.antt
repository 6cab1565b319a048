-- What the steps of a connection say of the hub of one thread, of the nodes and of the clock.
use Rattle.std.specs.Prelude.{◌≡◌, ◌⊎◌, ℕ, Bool, true, false, List, [], ◌∷◌, Option, None, Some}
use Rattle.grid_types.specs.declared.config.HubConfig.{HubConfig}
use Rattle.grid_types.specs.declared.entry.Entry.{Entry}
use Rattle.grid_types.specs.Calls.{Call, Reply}
use Rattle.grid_outside.specs.Told.{ClockView, Tick}
use Rattle.grid_outside.specs.declared.exchange.Ask.{Ask}
use Rattle.grid_outside.specs.Exchanges.{Came}
use Rattle.hub_core.specs.Answers.{Answers}
use Rattle.hub_core.specs.HubView.{HubView, past}
use Rattle.node_client.specs.Runs.{Clocked, Exchanges, KeepsTime}
use Rattle.node_client.specs.Steps.{Step, Called, Spent, Exchanged, Paused}

-- a call of which each entry has its room taken ahead, and which has no answer of its own where there is none
abbrev pub wants_room : Call → Bool
wants_room (Call.beat node name) = true
wants_room (Call.drain node) = true
wants_room (Call.remove node) = true
wants_room (Call.touch session binding) = true
wants_room (Call.end session binding) = true
wants_room Call.sweep = true
wants_room Call.expire = true
wants_room Call.clear = true
wants_room call = false

-- the hub of one thread answers so; or there was no room, and the call was not made
abbrev pub AnswersAt : HubConfig → List Entry → Call → ℕ → Option Reply → List Entry → Type 0
AnswersAt c H call at None later = Answers c H 0 call at None later ⊎ ((wants_room call ≡ true) × (later ≡ H))
AnswersAt c H call at (Some reply) later = Answers c H 0 call at (Some reply) later

-- From the history H each call was answered so, one behind the other, and then the history is `last`. This hub is never spent.
unfoldable pub Answered : HubConfig → List Entry → List Step → List Entry → Type 0
Answered c H [] last = last ≡ H
Answered c H (Called call at reply ∷ steps) last = (later : List Entry) × AnswersAt c H call at reply later × Answered c later steps last
Answered c H (Spent call at ∷ steps) last = ⊥
Answered c H (Exchanged address ask came ∷ steps) last = Answered c H steps last
Answered c H (Paused ms ∷ steps) last = Answered c H steps last

-- a hub, its nodes, its clock, and what that tells
pub record World (N C : Type 0) : Type 0 where
  pub hub : HubView
  pub nodes : N
  pub clock : C
  pub time : ClockView

abbrev pub world_of : {N C : Type 0} → HubView → N → C → ClockView → World N C
world_of hub nodes clock time = record { hub = hub; nodes = nodes; clock = clock; time = time }

-- The steps lead from the one world to the other: the hub made no entry but those of their calls, the nodes were asked nothing but
-- their exchanges, and the clock was asked once for the moment of each call, behind the step before it, and for their pauses.
pub record Went {N C : Type 0} (gives : N → List ℕ → Ask → Came → N → Type 0) (tells : C → Tick → ℕ → C → Type 0)
    (old : World N C) (steps : List Step) (new : World N C) : Type 0 where
  pub config : new.hub.config ≡ old.hub.config
  pub answered : Answered old.hub.config (past old.hub) steps (past new.hub)
  pub asked : Exchanges gives old.nodes steps new.nodes
  pub clocked : Clocked tells old.clock steps new.clock
  pub keeps_time : KeepsTime old.time steps new.time

-- by steps of this kind
pub record WentBy {N C : Type 0} (gives : N → List ℕ → Ask → Came → N → Type 0) (tells : C → Tick → ℕ → C → Type 0)
    (IsSo : List Step → Type 0) (old new : World N C) : Type 0 where
  pub steps : List Step
  pub are : IsSo steps
  pub went : Went gives tells old steps new
