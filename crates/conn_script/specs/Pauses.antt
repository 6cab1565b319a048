-- Where a script pauses.
use Rattle.std.specs.Prelude.{◌≡◌, ℕ, Bool, true, false, List, [], ◌∷◌, ◌++◌, None, Some}
use Rattle.http_frames.specs.Frames.{Request}
use Rattle.grid_types.specs.Calls.{Call, Reply}
use Rattle.node_client.specs.Steps.{Step, Called, Paused}
use Rattle.conn_script.specs.Responses.{Response}
use Rattle.conn_script.specs.Script.{Script}

-- a poll or a withdrawal that was told to wait, or a poll that found no memory
abbrev pub is_early_call : Step → Bool
is_early_call (Called (Call.poll t) at None) = true
is_early_call (Called (Call.poll t) at (Some (Reply.not_yet u))) = true
is_early_call (Called (Call.withdraw t) at (Some (Reply.not_yet u))) = true
is_early_call step = false

-- the last step is one; where there is none, the step before them was
abbrev pub ends_early_behind : Bool → List Step → Bool
ends_early_behind before [] = before
ends_early_behind before (step ∷ steps) = ends_early_behind (is_early_call step) steps

abbrev pub ends_early : List Step → Bool
ends_early = ends_early_behind false

-- a script pauses right behind such a call, and nowhere else
abbrev pub PausesBehindEarlyCalls : Type 0
PausesBehindEarlyCalls = (f : Request) (steps more : List Step) (ms : ℕ) (response : Response) → Script f (steps ++ Paused ms ∷ more) response →
    ends_early steps ≡ true
