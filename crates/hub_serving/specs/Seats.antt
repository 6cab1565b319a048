-- What one step of a connection does that shares its thread with others.
use Rattle.std.specs.Prelude.{◌≡◌, ℕ, Bool, true, false, List, [], None, Some, Option}
use Rattle.grid_outside.specs.Lines.{LooksSo}
use Rattle.grid_outside.specs.Told.{ClockView, LinkView, Tick, untold}
use Rattle.grid_outside.specs.declared.exchange.Ask.{Ask}
use Rattle.grid_outside.specs.Exchanges.{Came, CameSo}
use Rattle.hub_cell.specs.declared.hub.SharedHub.{SharedHub}
use Rattle.hub_cell.specs.declared.hub.Pass.{Pass}
use Rattle.hub_cell.specs.Passes.{knows}
use Rattle.conn_script.specs.Wanted.{Wanted, bytes_in, is_wait, piece, to_read, to_write, to_begin, to_call, to_ask, to_pause, over}
use Rattle.hub_conn.specs.declared.talk.Talk.{Talk}
use Rattle.conn_script.specs.declared.wants.Answer.{Answer}
use Rattle.conn_script.specs.declared.wants.Answer.TheVariants as told
use Rattle.hub_conn.specs.Talk.{Feeds, awaited}
use Rattle.hub_links.specs.Links.{DoesLink}
use Rattle.hub_workers.specs.World.{world_of}
use Rattle.hub_serving.specs.declared.stepping.Act.{Act}
use Rattle.hub_serving.specs.declared.stepping.Act.TheVariants as acts
use Rattle.hub_serving.specs.Outside.{Outside, outside_of}
use Rattle.hub_serving.specs.Serving.{EndedSo, Serving}
use Rattle.hub_workers.specs.SharedClock.{Asked, SharedTells}

-- a look whether a New Session waits whose client has left: then a failed read is counted
abbrev pub FindsLeft : Talk → Bool → LinkView → LinkView → Type 0
FindsLeft talk true old new = (is_wait (awaited talk) ≡ true) × LooksSo true old new
FindsLeft talk false old new = new ≡ old

-- What a seat has outside of its connection; the clock is as the seat left it when it asked last. A clock that is shared is made
-- to pause for nobody, so it tells no pauses.
abbrev pub seen_by : {S C : Type 0} → (C → ClockView) → Pass → S → C → LinkView → Outside S C
seen_by view pass state clock line =
    outside_of (world_of (knows pass) state clock (untold (view clock).moment)) line

-- an exchange that is under way is the one that is wanted
abbrev pub AsksFor : (Option (List ℕ × Ask) → Type 0) → Wanted → Type 0
AsksFor asks (to_ask address ask) = asks (Some (address, ask))
AsksFor asks (to_read most) = ⊥
AsksFor asks (to_write unsent) = ⊥
AsksFor asks to_begin = ⊥
AsksFor asks (to_call call) = ⊥
AsksFor asks (to_pause ms) = ⊥
AsksFor asks (over result) = ⊥

-- What has come of the exchange under way was taken in, and none is under way then; or nothing has come, and nothing has changed.
abbrev pub TakesReply : {S N : Type 0} (gives : S → List ℕ → Ask → Came → S → Type 0) (asks : N → Option (List ℕ × Ask) → Type 0) (faults : S → ℕ) →
    Act → Talk → S → N → Bool → Talk → S → N → Bool → Type 0
TakesReply gives asks faults acts.GoesOn talk state nodes asking talk_after state_after nodes_after asking_after =
    (came : Came) × Feeds talk (told.Node came) talk_after
    × ((address : List ℕ) (ask : Ask) → asks nodes (Some (address, ask)) → CameSo gives faults state address ask came state_after)
    × asks nodes_after None × (asking_after ≡ false)
TakesReply gives asks faults (acts.Rests rest) talk state nodes asking talk_after state_after nodes_after asking_after =
    (talk_after ≡ talk) × (state_after ≡ state)
    × ((under : Option (List ℕ × Ask)) → asks nodes under → asks nodes_after under) × (asking_after ≡ asking)
TakesReply gives asks faults (acts.Over result) talk state nodes asking talk_after state_after nodes_after asking_after = ⊥

-- A piece of what is there was read and taken in; or nothing is there, and nothing has changed.
abbrev pub TakesPiece : Act → ℕ → Talk → LinkView → Bool → Talk → LinkView → Bool → Type 0
TakesPiece acts.GoesOn most talk line asking talk_after line_after asking_after =
    (answer : Answer) × DoesLink answer (piece most) line (bytes_in answer) [] line_after
    × Feeds talk answer talk_after × (asking_after ≡ false)
TakesPiece (acts.Rests rest) most talk line asking talk_after line_after asking_after =
    (talk_after ≡ talk) × (line_after ≡ line) × (asking_after ≡ asking)
TakesPiece (acts.Over result) most talk line asking talk_after line_after asking_after = ⊥

module _ {S N C : Type 0} (hub : SharedHub) (gives : S → List ℕ → Ask → Came → S → Type 0) (asks : N → Option (List ℕ × Ask) → Type 0)
    (tells : C → Tick → ℕ → C → Type 0) (view : C → ClockView) where
  -- the connection is served, and the exchange under way, if there is one, is the one that it wants
  pub record Sits (first : Outside S C) (talk : Talk) (nodes : N) (asking : Bool) (o : Outside S C) : Type 0 where
    pub serving : Serving hub gives (SharedTells tells view) first talk o
    pub asked : asking ≡ true → AsksFor (asks nodes) serving.want
    pub idle : asking ≡ false → asks nodes None

  -- Whatever it was served from, it is served on from there, or has ended. Where it rests nothing outside has changed.
  abbrev pub GoesSo : Act → Talk → N → Bool → Outside S C → Talk → N → Bool → Outside S C → Type 0
  GoesSo (acts.Over result) talk nodes asking before talk_after nodes_after asking_after after =
      (first : Outside S C) → Sits first talk nodes asking before →
      EndedSo hub gives (SharedTells tells view) first result after
  GoesSo acts.GoesOn talk nodes asking before talk_after nodes_after asking_after after =
      (first : Outside S C) → Sits first talk nodes asking before → Sits first talk_after nodes_after asking_after after
  GoesSo (acts.Rests rest) talk nodes asking before talk_after nodes_after asking_after after =
      (after ≡ before)
      × ((first : Outside S C) → Sits first talk nodes asking before → Sits first talk_after nodes_after asking_after after)

  -- One step: the clock was asked at most by this one.
  pub record Acted (act : Act) (clock : C) (talk : Talk) (nodes : N) (asking : Bool) (before : Outside S C)
      (clock_after : C) (talk_after : Talk) (nodes_after : N) (asking_after : Bool) (after : Outside S C) : Type 0 where
    pub asked : Asked tells view clock clock_after
    pub goes : GoesSo act talk nodes asking before talk_after nodes_after asking_after after
