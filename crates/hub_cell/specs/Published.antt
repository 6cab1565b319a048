-- What the hub's value says of the map that it publishes.
use Rattle.std.specs.Prelude.{◌≡◌, ℕ, ◌<◌, List, [], length, Option, Result, Ok, Err}
use Rattle.grid_types.specs.declared.config.HubConfig.{HubConfig}
use Rattle.grid_types.specs.declared.entry.Entry.{Entry}
use Rattle.grid_types.specs.declared.entry.Found.{Found}
use Rattle.grid_types.specs.History.{history_of}
use Rattle.grid_types.specs.LookupMap.{changes}
use Rattle.journal_keeper.specs.declared.keeping.Keeping.{Keeping}
use Rattle.journal_keeper.specs.Keeps.{Holds}
use Rattle.journal_keeper.specs.Keepings.{kept_by}
use Rattle.turn_cell.specs.Rule.{GoesOnFrom}
use Rattle.hub_core.specs.declared.hub.HubCore.{HubCore}
use Rattle.hub_core.specs.CoreStands.{Stands}
use Rattle.map_view.specs.declared.items.Item as map_item
use Rattle.map_view.specs.declared.map.MapReader.{MapReader}
use Rattle.map_view.specs.declared.map.MapWriter.{MapWriter}
use Rattle.map_view.specs.Lists.{BeginsWith}
use Rattle.map_view.specs.Maps.{published, pending, Finds, Knows}

-- the map shows the changes of the history, and nothing waits to be shown
pub record MapStands (map : MapWriter) (H : List Entry) : Type 0 where
  pub shows : published map ≡ changes H
  pub none_pending : pending map ≡ []

-- the tables stand for the history, which is legal, and the map shows its changes
pub record GridStands (core : HubCore) (map : MapWriter) (H : List Entry) : Type 0 where
  pub core_stands : Stands core H
  pub map_stands : MapStands map H

-- what is kept, where it is told, is the journal of the log, the oldest entry first, and no entry waits to be kept
pub record JournalStands (config : HubConfig) (log : List Entry) (kept : Option (List ℕ)) (piece : List ℕ) : Type 0 where
  pub holds : Holds config log kept
  pub none_waits : piece ≡ []

-- What a hub may go on from: entries that the core stands for, whose changes the map shows, and whose journal is kept. None has
-- the number of a pass to come.
pub record MayBegin (core : HubCore) (map : MapWriter) (keeping : Keeping) (first number : ℕ) : Type 0 where
  pub start : List Entry
  pub core_stands : Stands core (history_of start)
  pub map_stands : MapStands map (history_of start)
  pub holds : Holds core.config start (kept_by keeping)
  pub goes : GoesOnFrom first number start

-- what the reader finds is found in a list that begins with the changes of the history
abbrev pub KnowsChanges : MapReader → List Entry → Type 0
KnowsChanges reader H = Knows reader (changes H)

-- A look-up that takes no turn answers by the list that the reader finds, and knows from now on. It begins with all that
-- the reader knew, the list of its last look-up among it, and so with the changes of the history that the pass has seen.
pub record FromMap (old new : MapReader) (H : List Entry) (session : List ℕ) (found : Found) : Type 0 where
  pub finds : Finds old new session found
  pub begins : BeginsWith finds.list (changes H)

-- memory is asked for: the items could not be told, or there are some
abbrev pub MayLack : {E : Type 0} → Result (List map_item.Item) E → Type 0
MayLack (Ok items) = 0 < length items
MayLack (Err e) = Unit {0}
