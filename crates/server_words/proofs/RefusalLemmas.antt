-- Words that the hub's command does not take.
use Rattle.std.proofs.Common.{◌≡◌, List, ap}
use Rattle.std.specs.Prelude.{Err, IsErrOf, Ok, Result}
use Rattle.clap.specs.Words.{Text}
use Rattle.server_words.specs.HubOptions.{hub_command}
use Rattle.server_words.specs.Options.{IsTaken}

-- the words that were lent are not taken, so the words are not
pub not_taken : (found words : List Text) → found ≡ words → ¬ (IsTaken hub_command found) → IsTaken hub_command words → ⊥
not_taken found words w wrong taken = wrong (rw w taken)

abbrev fault_or : {T E : Type 0} → E → Result T E → E
fault_or default (Ok value) = default
fault_or default (Err fault) = fault

-- whatever was wanted, the fault is the same
pub same_fault : {T U E : Type 0} (e x : E) → IsErrOf {T = T} (Err e) x → IsErrOf {T = U} (Err e) x
same_fault e x h = ap Err (ap (fault_or e) h)
