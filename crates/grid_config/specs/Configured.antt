-- What a document says, and why it says nothing.
use Rattle.std.specs.Prelude.{◌≡◌, ◌<◌, ◌≤◌, ◌&&◌, ℕ, Bool, true, false, List, []}
use Rattle.std.specs.Prelude.{length, Option, None, Some, Result, Ok, Err, IsUtf8}
use Rattle.std.specs.Prelude.{if◌then◌else◌}
use Rattle.toml.specs.Data.{Data, as_table, is_before, Members, no_members, member}
use Rattle.toml.specs.Parse.{parse_document}
use Rattle.grid_config.specs.declared.fault.ConfigFault.{ConfigFault}
use Rattle.grid_config.specs.declared.fault.ConfigFault.TheVariants as fault
use Rattle.grid_config.specs.declared.rows.Kind.{Kind}
use Rattle.grid_config.specs.Rows.{Row, has_section, kind_at}
use Rattle.grid_config.specs.Values.{word_for}
use Rattle.grid_config.specs.Words.{value_at, words_in}
use Rattle.grid_config.specs.declared.reading.TheConstants.{MOST_TEXT_BYTES}

-- ---- faults

abbrev pub first : {A : Type 0} → Option A → Option A → Option A
first None later = later
first (Some x) later = Some x

-- the value may not stand for its key
abbrev pub misfit : List ℕ → List ℕ → Option (List ℕ) → Option ConfigFault
misfit section key None = Some (fault.WrongValue section key)
misfit section key (Some word) = None

abbrev pub value_fault : List ℕ → List ℕ → Option Kind → Data → Option ConfigFault
value_fault section key None d = Some (fault.UnknownKey section key)
value_fault section key (Some k) d = misfit section key (word_for k d)

-- the first fault of a section's keys
abbrev pub keys_fault : List Row → List ℕ → Members → Option ConfigFault
keys_fault rows section no_members = None
keys_fault rows section (member key d members) =
    first (value_fault section key (kind_at rows section key) d) (keys_fault rows section members)

abbrev pub table_fault : List Row → List ℕ → Option Members → Option ConfigFault
table_fault rows section None = Some (fault.WrongValue section [])
table_fault rows section (Some keys) = keys_fault rows section keys

abbrev pub section_fault : List Row → List ℕ → Data → Option ConfigFault
section_fault rows section d =
    if has_section rows section then table_fault rows section (as_table d) else Some (fault.UnknownKey section [])

-- the first fault of a document
abbrev pub fault_in : List Row → Members → Option ConfigFault
fault_in rows no_members = None
fault_in rows (member section d members) = first (section_fault rows section d) (fault_in rows members)

-- the fault is that one, or out of memory
abbrev pub IsFault : ConfigFault → Option ConfigFault → Type 0
IsFault fault.Memory found = Unit {0}
IsFault fault.TooLong found = ⊥
IsFault fault.NotToml found = ⊥
IsFault (fault.UnknownKey section key) found = found ≡ Some (fault.UnknownKey section key)
IsFault (fault.WrongValue section key) found = found ≡ Some (fault.WrongValue section key)

-- ---- a text

-- the text is UTF-8, and spells this document of TOML
pub record Spells (text : List ℕ) (document : Members) : Type 0 where
  pub utf8 : IsUtf8 text
  pub parsed : parse_document text ≡ Some document

-- each key stands before the next one by their bytes
abbrev pub ascend : Members → Bool
ascend no_members = true
ascend (member key d members) = is_before key members && ascend members

abbrev pub section_ascends : Option Members → Bool
section_ascends None = true
section_ascends (Some keys) = ascend keys

abbrev pub sections_ascend : Members → Bool
sections_ascend no_members = true
sections_ascend (member section d members) = section_ascends (as_table d) && sections_ascend members

-- the sections stand in the order of their bytes, and the keys of each
abbrev pub is_in_order : Members → Bool
is_in_order document = ascend document && sections_ascend document

-- the document has this fault as its first one, by the order of bytes
pub record HasFault (rows : List Row) (text : List ℕ) (f : ConfigFault) : Type 0 where
  pub document : Members
  pub spells : Spells text document
  pub in_order : is_in_order document ≡ true
  pub fault_is : fault_in rows document ≡ Some f

-- the document has no fault, and says these words
pub record HasWords (rows : List Row) (text : List ℕ) (words : List (List ℕ)) : Type 0 where
  pub document : Members
  pub spells : Spells text document
  pub faultless : fault_in rows document ≡ None
  pub words_are : words ≡ words_in rows document

abbrev pub IsShort : List ℕ → Type 0
IsShort text = length text ≤ MOST_TEXT_BYTES

-- What the text says by the table of keys, or why it says nothing. Of want of memory nothing more is
-- said than that it is not told of a text that is too long.
abbrev pub Says : List Row → List ℕ → Result (List (List ℕ)) ConfigFault → Type 0
Says rows text (Ok words) = IsShort text × HasWords rows text words
Says rows text (Err fault.TooLong) = MOST_TEXT_BYTES < length text
Says rows text (Err fault.NotToml) = IsShort text × ((document : Members) → ¬ Spells text document)
Says rows text (Err (fault.UnknownKey section key)) =
    IsShort text × HasFault rows text (fault.UnknownKey section key)
Says rows text (Err (fault.WrongValue section key)) =
    IsShort text × HasFault rows text (fault.WrongValue section key)
Says rows text (Err fault.Memory) = IsShort text

-- ---- laws

abbrev pub is_told : Result (List (List ℕ)) ConfigFault → Bool
is_told (Err fault.Memory) = false
is_told result = true

-- want of memory aside, a text says one thing
abbrev pub OneReading : Type 0
OneReading = (rows : List Row) (text : List ℕ) (r s : Result (List (List ℕ)) ConfigFault) →
    Says rows text r → Says rows text s → is_told r ≡ true → is_told s ≡ true → r ≡ s

-- the key is of a row, and what stands for it may
abbrev pub IsTaken : List Row → List ℕ → List ℕ → Data → Type 0
IsTaken rows section key d = (k : Kind) × (word : List ℕ)
    × (kind_at rows section key ≡ Some k) × (word_for k d ≡ Some word)

-- nothing in a document without a fault is left out: each key of each section is of a row
abbrev pub NothingIsLeftOut : Type 0
NothingIsLeftOut = (rows : List Row) (document : Members) (section key : List ℕ) (d : Data) →
    fault_in rows document ≡ None → value_at document section key ≡ Some d → IsTaken rows section key d
