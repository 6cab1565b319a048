-- What a kill may leave of a journal that is written at its end.
use Rattle.std.specs.Prelude.{◌≡◌, ℕ, List, [], ◌∷◌, ◌++◌, flat_map}
use Rattle.grid_types.specs.declared.config.HubConfig.{HubConfig}
use Rattle.grid_types.specs.declared.entry.Entry.{Entry}
use Rattle.grid_types.specs.History.{history_of}
use Rattle.grid_journal.specs.Spelled.{entry_bytes, head_bytes, journal_bytes}

-- the journal of a log, which has its oldest entry first
abbrev pub written : HubConfig → List Entry → List ℕ
written config log = head_bytes config ++ flat_map entry_bytes log

-- It is that of the history.
abbrev pub WrittenIsJournal : Type 0
WrittenIsJournal = (config : HubConfig) (log : List Entry) →
    written config log ≡ journal_bytes config (history_of log)

-- A part of the first of these entries, and not all of it; no byte, where there is none.
abbrev pub IsCutOf : List Entry → List ℕ → Type 0
IsCutOf [] cut = cut ≡ []
IsCutOf (entry ∷ later) cut =
    (byte : ℕ) × (missing : List ℕ) × (cut ++ byte ∷ missing ≡ entry_bytes entry)

-- The bytes are the journal of the whole log and of a front of the entries that were made behind it, and perhaps a part of
-- one entry more.
pub record IsImage (config : HubConfig) (log made : List Entry) (image : List ℕ) : Type 0 where
  pub front : List Entry
  pub behind : List Entry
  pub are : front ++ behind ≡ made
  pub cut : List ℕ
  pub is_cut : IsCutOf behind cut
  pub spelled : image ≡ written config (log ++ front) ++ cut

-- Wherever the bytes of these entries end, behind the journal of the log, there is such an image.
abbrev pub FrontsAreImages : Type 0
FrontsAreImages = (config : HubConfig) (log made : List Entry) (front rest : List ℕ) →
    front ++ rest ≡ flat_map entry_bytes made → IsImage config log made (written config log ++ front)

-- What a kill may leave of a file that held `before` and grew until it holds `now`: all that it held before, and a front of
-- what it holds now.
pub record MayLeave (before now image : List ℕ) : Type 0 where
  pub more : List ℕ
  pub has : image ≡ before ++ more
  pub rest : List ℕ
  pub front : image ++ rest ≡ now

-- A kill while entries are put behind a journal, in whole or in part, leaves an image too.
abbrev pub KillsLeaveImages : Type 0
KillsLeaveImages = (config : HubConfig) (log made : List Entry) (now image : List ℕ) →
    IsImage config log made now → MayLeave (written config log) now image →
    IsImage config log made image
