-- What the words of the program say.
use Rattle.std.specs.Prelude.{ℕ, ◌-◌, ◌^◌, List, [], ◌∷◌, Option, None, Some, codes, bytes_eq, if◌then◌else◌}
use Rattle.grid_log.specs.declared.form.Form.{Form}
use Rattle.grid_log.specs.declared.form.Form.TheVariants as form
use Rattle.grid_log.specs.declared.words.AskedLog.{AskedLog}

-- the form that one word asks for
abbrev pub form_named : List ℕ → Option Form
form_named word = if bytes_eq word (codes "--json") then Some form.Json else None

-- the form that the words ask for: none of them is text
abbrev pub form_of : List (List ℕ) → Option Form
form_of [] = Some form.Text
form_of (word ∷ []) = form_named word
form_of (word ∷ other ∷ words) = None

-- the form of a log that goes on, where the first word asks for one
abbrev pub follow_of : List (List ℕ) → Option Form
follow_of [] = None
follow_of (word ∷ words) = if bytes_eq word (codes "--follow") then form_of words else None

-- a log that goes on waits as often as can be counted, and another never
abbrev pub following : Option Form → Option AskedLog
following None = None
following (Some f) = Some (record { form = f; pauses = 2 ^ 64 - 1 })

abbrev pub log_or : Option Form → Option AskedLog → Option AskedLog
log_or None other = other
log_or (Some f) other = Some (record { form = f; pauses = 0 })

-- the log that the words ask for: one that goes on, or not
abbrev pub asked_by : List (List ℕ) → Option AskedLog
asked_by words = log_or (form_of words) (following (follow_of words))
