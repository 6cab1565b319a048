-- The journal that the hub's program keeps.
use Rattle.std.specs.Prelude.{◌≡◌, ◌||◌, ℕ, Bool, List, Option, codes, true}
use Rattle.std.specs.Str.{bytes_eq}
use Rattle.clap.specs.Words.{Row, Text, first_of, matches_of}
use Rattle.server_words.specs.HubOptions.{hub_command}
use Rattle.server_words.specs.Options.{IsTaken, text_or}

-- the path that the words found write, where they write one
abbrev pub file_told : List Row → Option Text
file_told rows = first_of (codes "journal") rows

abbrev pub file_said : List Text → Option Text
file_said words = file_told (matches_of hub_command words)

-- when what they keep is synced: each second where they write nothing
abbrev pub sync_told : List Row → List ℕ
sync_told rows = text_or (codes "second") (first_of (codes "journal-sync") rows)

abbrev pub sync_said : List Text → List ℕ
sync_said words = sync_told (matches_of hub_command words)

-- `each` or `second`
abbrev pub is_sync : List ℕ → Bool
is_sync text = bytes_eq text (codes "each") || bytes_eq text (codes "second")

-- the command takes the words, and what they write is a time of a sync
pub record TellsJournal (words : List Text) : Type 0 where
  pub taken : IsTaken hub_command words
  pub sync : is_sync (sync_said words) ≡ true
