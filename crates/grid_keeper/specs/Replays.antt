-- What rows stand for: the history of their calls, made by caller 0 one behind the other from the empty history. Rows and
-- histories have the newest first.
use Rattle.std.specs.Prelude.{◌≡◌, ℕ, ◌<◌, List, [], ◌∷◌, map, reverse, length, None}
use Rattle.grid_types.specs.declared.config.HubConfig.{HubConfig}
use Rattle.grid_types.specs.declared.entry.Entry.{Entry}
use Rattle.grid_types.specs.declared.names.SlotId.{SlotId}
use Rattle.grid_types.specs.Tokens.{Closing, ticket_of, reservation_of}
use Rattle.grid_types.specs.Calls.{Call}
use Rattle.grid_types.specs.HubAnswers.{after_call}
use Rattle.hub_core.specs.Serves.{MayCall}
use Rattle.grid_journal.specs.declared.rows.Row.{Row}
use Rattle.grid_journal.specs.declared.rows.Row.TheVariants as row
use Rattle.grid_journal.specs.RowSpelled.{row_bytes, RowFits}

-- the call that a row names after a history: of a token the row tells the request or the slot
abbrev pub Names : List Entry → Row → Call → Type 0
Names H (row.Register node at) call = call ≡ Call.register node
Names H (row.Beat n at) call = call ≡ Call.beat n None
Names H (row.Drain n at) call = call ≡ Call.drain n
Names H (row.Remove n at) call = call ≡ Call.remove n
Names H (row.Enqueue choices at) call = call ≡ Call.enqueue choices
Names H (row.Poll r at) call = call ≡ Call.poll (ticket_of H r)
Names H (row.Dispatch at) call = call ≡ Call.dispatch
Names H (row.Bind r x caps at) call = (s : SlotId) × (call ≡ Call.bind (reservation_of H r s) x caps)
Names H (row.Fail r w at) call = (s : SlotId) × (call ≡ Call.fail (reservation_of H r s) w)
Names H (row.Touch x b at) call = call ≡ Call.touch x b
Names H (row.End x b at) call = call ≡ Call.end x b
Names H (row.Freed s) call = (t : Closing) × (t.slot ≡ s) × (call ≡ Call.freed t)
Names H (row.Sweep at) call = call ≡ Call.sweep
Names H (row.Expire at) call = call ≡ Call.expire
Names H (row.Clear at) call = call ≡ Call.clear

-- the moment of its call; that of a freed slot has none
abbrev pub row_moment : Row → ℕ
row_moment (row.Register node at) = at.0
row_moment (row.Beat n at) = at.0
row_moment (row.Drain n at) = at.0
row_moment (row.Remove n at) = at.0
row_moment (row.Enqueue choices at) = at.0
row_moment (row.Poll r at) = at.0
row_moment (row.Dispatch at) = at.0
row_moment (row.Bind r x caps at) = at.0
row_moment (row.Fail r w at) = at.0
row_moment (row.Touch x b at) = at.0
row_moment (row.End x b at) = at.0
row_moment (row.Freed s) = 0
row_moment (row.Sweep at) = at.0
row_moment (row.Expire at) = at.0
row_moment (row.Clear at) = at.0

-- The row can be spelled, its call may be made after the history, makes an entry and leads to the later one.
pub record Goes (c : HubConfig) (H : List Entry) (r : Row) (later : List Entry) : Type 0 where
  pub fits : RowFits r
  pub call : Call
  pub named : Names H r call
  pub may : MayCall H 0 call
  pub goes_on : later ≡ after_call c H 0 call (row_moment r)
  pub makes : length H < length later

-- the rows stand for the history
pub data Replays (c : HubConfig) : List Row → List Entry → Type 0 where
  nothing : Replays c [] []
  one_more : (r : Row) (older : List Row) (H later : List Entry) → Replays c older H → Goes c H r later → Replays c (r ∷ older) later

-- an image, which has its oldest row first, is the rows of this history
pub record IsImage (c : HubConfig) (image : List (List ℕ)) (H : List Entry) : Type 0 where
  pub rows : List Row
  pub spelled : reverse image ≡ map row_bytes rows
  pub replays : Replays c rows H

-- an image is the rows of one history alone
abbrev pub RowsTellOneHistory : Type 0
RowsTellOneHistory =
    (c : HubConfig) (image : List (List ℕ)) (first second : List Entry) →
    IsImage c image first → IsImage c image second → first ≡ second
