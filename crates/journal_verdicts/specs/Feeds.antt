-- The bytes that were read and are not taken off.
use Rattle.std.specs.Prelude.{◌≡◌, ◌⊎◌, ℕ, ◌+◌, ◌≤◌, true, List, ◌++◌, length, drop, Option}
use Rattle.grid_outside.specs.Told.{Gains}
use Rattle.journal_verdicts.specs.declared.feed.Feed.{Feed}

-- those that wait
abbrev pub waiting : Feed → List ℕ
waiting feed = drop feed.start feed.bytes.items

-- these bytes were read behind those that wait, and nothing else changed
pub record Reads (old new : Feed) (told gained : Option (List ℕ)) : Type 0 where
  pub bytes : List ℕ
  pub gains : Gains told gained bytes
  pub behind : waiting new ≡ waiting old ++ bytes
  pub taken : new.taken ≡ old.taken

-- some bytes were read, or the input ended
abbrev pub HasMore : Feed → Feed → Type 0
HasMore old new = (length (waiting old) + 1 ≤ length (waiting new)) ⊎ (new.ended ≡ true)
