-- What the steps of a connection say of the hub, of the nodes and of the clock.
use Rattle.std.specs.Prelude.{◌≡◌, ℕ, ◌≤◌, List, [], ◌∷◌, Some, IfSome}
use Rattle.grid_outside.specs.Told.{later_by, Pauses, paused, ClockView, Tick, to_tell, to_wait}
use Rattle.grid_outside.specs.declared.exchange.Ask.{Ask}
use Rattle.grid_outside.specs.Exchanges.{Came}
use Rattle.grid_types.specs.declared.config.HubConfig.{HubConfig}
use Rattle.grid_types.specs.declared.entry.Entry.{Entry}
use Rattle.hub_core.specs.Answers.{Answers}
use Rattle.node_client.specs.Steps.{Step, Called, Spent, Exchanged, Paused}

-- From the history H each call of the caller is answered as the hub of one thread answers at its
-- point, or finds no memory there and changes nothing; and then the history is `later`. That hub is
-- never spent. Histories have their newest entry first.
unfoldable pub Runs : HubConfig → ℕ → List Entry → List Step → List Entry → Type 0
Runs c caller H [] later = later ≡ H
Runs c caller H (Called call at reply ∷ steps) later =
    (next : List Entry) × Answers c H caller call at reply next × Runs c caller next steps later
Runs c caller H (Spent call at ∷ steps) later = ⊥
Runs c caller H (Exchanged address ask came ∷ steps) later = Runs c caller H steps later
Runs c caller H (Paused ms ∷ steps) later = Runs c caller H steps later

-- From the state n the nodes may give all that came of the exchanges, and are in the state m then.
unfoldable pub Exchanges : {N : Type 0} → (N → List ℕ → Ask → Came → N → Type 0) → N → List Step →
    N → Type 0
Exchanges gives n [] m = m ≡ n
Exchanges gives n (Called call at reply ∷ steps) m = Exchanges gives n steps m
Exchanges gives n (Spent call at ∷ steps) m = Exchanges gives n steps m
Exchanges {N} gives n (Exchanged address ask came ∷ steps) m = (next : N) ×
    gives n address ask came next × Exchanges gives next steps m
Exchanges gives n (Paused ms ∷ steps) m = Exchanges gives n steps m

-- From the state c the clock may give the moment of each call, asked for it once behind the step before, and the moments behind
-- the pauses; it was asked nothing else, and is in the state d then.
unfoldable pub Clocked : {C : Type 0} → (C → Tick → ℕ → C → Type 0) → C → List Step → C → Type 0
Clocked ticks c [] d = d ≡ c
Clocked {C} ticks c (Called call at reply ∷ steps) d =
    (next : C) × ticks c to_tell at next × Clocked ticks next steps d
Clocked {C} ticks c (Spent call at ∷ steps) d = (next : C) × ticks c to_tell at next × Clocked ticks next steps d
Clocked ticks c (Exchanged address ask came ∷ steps) d = Clocked ticks c steps d
Clocked {C} ticks c (Paused ms ∷ steps) d =
    (at : ℕ) × (next : C) × ticks c (to_wait ms) at next × Clocked ticks next steps d

-- on a clock whose moments never fall: each call comes at a moment that it gave, and a pause is as
-- long as it says
unfoldable pub Timed : ℕ → List Step → ℕ → Type 0
Timed before [] after = before ≤ after
Timed before (Called call at reply ∷ steps) after = (before ≤ at) × Timed at steps after
Timed before (Spent call at ∷ steps) after = (before ≤ at) × Timed at steps after
Timed before (Exchanged address ask came ∷ steps) after = Timed before steps after
Timed before (Paused ms ∷ steps) after = (middle : ℕ) × (later_by before ms ≤ middle) ×
    Timed middle steps after

-- on a clock that stands still but for pauses, from one moment to another
unfoldable pub Still : ℕ → List Step → ℕ → Type 0
Still before [] after = after ≡ before
Still before (Called call at reply ∷ steps) after = (at ≡ before) × Still before steps after
Still before (Spent call at ∷ steps) after = (at ≡ before) × Still before steps after
Still before (Exchanged address ask came ∷ steps) after = Still before steps after
Still before (Paused ms ∷ steps) after = Still (later_by before ms) steps after

-- the pauses of a clock that tells them, after the steps
unfoldable pub pauses_after : Pauses → List Step → Pauses
pauses_after p [] = p
pauses_after p (Called call at reply ∷ steps) = pauses_after p steps
pauses_after p (Spent call at ∷ steps) = pauses_after p steps
pauses_after p (Exchanged address ask came ∷ steps) = pauses_after p steps
pauses_after p (Paused ms ∷ steps) = pauses_after (paused ms p) steps

-- What the steps say of a clock that tells this before and after them: moments never fall, and a clock that tells its pauses
-- made just theirs and stood still but for them.
pub record KeepsTime (old : ClockView) (steps : List Step) (new : ClockView) : Type 0 where
  pub timed : Timed old.moment steps new.moment
  pub told : IfSome old.pauses (λ pauses. (new.pauses ≡ Some (pauses_after pauses steps))
      × Still old.moment steps new.moment)
