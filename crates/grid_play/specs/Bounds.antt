-- How long a New Session waits, and how often it is started.
use Rattle.std.specs.Prelude.{◌≡◌, ◌≢◌, ℕ, ◌+◌, ◌*◌, ◌<◌, ◌≤◌, Bool, true, false, List, [], ◌∷◌, ◌++◌, Option, Some, Result, Ok}
use Rattle.http_frames.specs.Frames.{Request}
use Rattle.grid_types.specs.declared.capabilities.Cap.{Cap}
use Rattle.grid_types.specs.declared.config.HubConfig.{HubConfig}
use Rattle.grid_types.specs.declared.entry.Entry.{Entry}
use Rattle.grid_types.specs.Calls.{Call, Reply}
use Rattle.grid_types.specs.QueueTime.{queue_time}
use Rattle.request_laws.specs.Starts.{registered_count}
use Rattle.caps_merge.specs.Merging.{BodyGives}
use Rattle.router_core.specs.Routes.{new_session}
use Rattle.node_client.specs.Steps.{Step, Called, Spent, Exchanged, Paused}
use Rattle.conn_script.specs.NewSession.{poll_pause}
use Rattle.conn_script.specs.Responses.{Response, left}
use Rattle.conn_script.specs.Script.{Script, body_of, route}
use Rattle.conn_script.specs.declared.wants.ConnFault.{ConnFault}
use Rattle.conn_script.specs.declared.wants.Served.{Served}
use Rattle.local_driver.specs.World.{Answered}
use Rattle.play_words.specs.declared.play.PlayNode.{PlayNode}
use Rattle.grid_play.specs.Crew.{first_crew}
use Rattle.grid_play.specs.Played.{Played}

-- how many pauses the steps have
abbrev pub pauses_in : List Step → ℕ
pauses_in [] = 0
pauses_in (Called call at reply ∷ steps) = pauses_in steps
pauses_in (Spent call at ∷ steps) = pauses_in steps
pauses_in (Exchanged address ask came ∷ steps) = pauses_in steps
pauses_in (Paused ms ∷ steps) = pauses_in steps + 1

-- a poll that gave a slot, and so leads to a start
abbrev pub gives_slot : Call → Option Reply → Bool
gives_slot (Call.poll t) (Some (Reply.yours u r)) = true
gives_slot call reply = false

abbrev pub one_more_if : Bool → ℕ → ℕ
one_more_if true n = n + 1
one_more_if false n = n

-- how many starts the steps have
abbrev pub starts_in : List Step → ℕ
starts_in [] = 0
starts_in (Called call at reply ∷ steps) = one_more_if (gives_slot call reply) (starts_in steps)
starts_in (Spent call at ∷ steps) = starts_in steps
starts_in (Exchanged address ask came ∷ steps) = starts_in steps
starts_in (Paused ms ∷ steps) = starts_in steps

-- From this history on: all pauses but the last end before the request's time is over, and there are no more starts than registered
-- nodes.
pub record IsBounded (c : HubConfig) (H : List Entry) (choices : List (List Cap)) (steps : List Step) : Type 0 where
  pub waits : poll_pause * pauses_in steps < queue_time c choices + poll_pause
  pub starts : starts_in steps ≤ registered_count H

-- So is each New Session of a conversation whose client did not leave, from the history that led to it; one that left waits until the
-- start that is under way for it is over.
abbrev pub SessionsAreBoundedAt : HubConfig → Type 0
SessionsAreBoundedAt c =
    (nodes : List PlayNode) (ended : Result Served ConnFault) (bytes : List ℕ) (steps : List Step) (written : List ℕ) → Played c nodes ended bytes steps written →
    (before own after : List Step) (f : Request) (response : Response) (choices : List (List Cap)) → steps ≡ before ++ (own ++ after) →
    route f ≡ Ok new_session → BodyGives (body_of f) (Ok choices) → Script f own response → response ≢ left →
    (H : List Entry) × Answered c (first_crew c nodes).history before H × IsBounded c H choices own

abbrev pub SessionsAreBounded : Type 0
SessionsAreBounded = (c : HubConfig) → SessionsAreBoundedAt c
