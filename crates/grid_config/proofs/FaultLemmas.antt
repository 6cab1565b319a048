-- The first fault of what stands one behind the other.
use Rattle.std.proofs.Common.{◌≡◌, ◌≤◌, ℕ, true, List, length, Option, Some, Err}
use Rattle.std.specs.Prelude.{IsUtf8}
use Rattle.toml.specs.Data.{Members}
use Rattle.toml.specs.Parse.{parse_document}
use Rattle.grid_config.specs.declared.reading.TheConstants.{MOST_TEXT_BYTES}
use Rattle.grid_config.specs.Rows.{Row}
use Rattle.grid_config.specs.declared.fault.ConfigFault.{ConfigFault}
use Rattle.grid_config.specs.declared.fault.ConfigFault.TheVariants as fault
use Rattle.grid_config.specs.Configured.{IsFault, Says, fault_in, first, is_in_order}

-- a fault in front is the first
pub fault_first : (f : ConfigFault) (found later : Option ConfigFault) → IsFault f found → IsFault f (first found later)
fault_first fault.Memory found later h = tt
fault_first fault.TooLong found later h = absurd h
fault_first fault.NotToml found later h = absurd h
fault_first (fault.UnknownKey section key) found later h = rw h
fault_first (fault.WrongValue section key) found later h = rw h

-- what a document's fault says of its text
pub says_fault : (rows : List Row) (text : List ℕ) (f : ConfigFault) (document : Members) → length text ≤ MOST_TEXT_BYTES → IsUtf8 text → parse_document text ≡ Some document
    → is_in_order document ≡ true → IsFault f (fault_in rows document) → Says rows text (Err f)
says_fault rows text fault.Memory document short utf8 parsed order h = short
says_fault rows text fault.TooLong document short utf8 parsed order h = absurd h
says_fault rows text fault.NotToml document short utf8 parsed order h = absurd h
says_fault rows text (fault.UnknownKey section key) document short utf8 parsed order h =
    (short, record { document = document; spells = record { utf8 = utf8; parsed = parsed }; in_order = order; fault_is = h })
says_fault rows text (fault.WrongValue section key) document short utf8 parsed order h =
    (short, record { document = document; spells = record { utf8 = utf8; parsed = parsed }; in_order = order; fault_is = h })
