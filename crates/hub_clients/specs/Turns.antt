-- How many turns a pass took, and what its last one told of a request.
use Rattle.std.specs.Prelude.{◌≡◌, ℕ, ◌+◌, length}
use Rattle.grid_types.specs.declared.config.HubConfig.{HubConfig}
use Rattle.grid_types.specs.Tokens.{Ticket}
use Rattle.grid_types.specs.Calls.{Call}
use Rattle.hub_core.specs.declared.answers.Polled.{Polled}
use Rattle.hub_core.specs.Replies.{polled_reply}
use Rattle.turn_cell.specs.declared.views.View.{View}
use Rattle.hub_cell.specs.declared.grid.Grid.{Grid}
use Rattle.hub_cell.specs.Shared.{SharedServes}

-- it took so many turns, each of which is a point of the one history
abbrev pub HasTaken : ℕ → View Grid → View Grid → Type 0
HasTaken turns old new = length new.points ≡ length old.points + turns

-- The pass took so many turns, and in the last of them it asked how the request of a ticket stands that was good there, and was
-- told this.
pub record AsksLast (config : HubConfig) (turns : ℕ) (old : View Grid) (at : ℕ) (told : Polled) (new : View Grid) : Type 0 where
  pub ticket : Ticket
  pub before : View Grid
  pub taken : HasTaken turns old new
  pub asks : SharedServes config before (Call.poll ticket) at (polled_reply told) new
