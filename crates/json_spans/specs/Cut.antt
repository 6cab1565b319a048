-- Reading a whole text: white space, one value, white space.
use Rattle.std.specs.Prelude.{ℕ, ◌+◌, List, length, drop, if◌then◌else◌, ◌==◌, IsUtf8}
use Rattle.json_spans.specs.Parts.{space_len}
use Rattle.json_spans.specs.Machine.{Outcome, ended, stopped, too_deep, value_at}
use Rattle.json_spans.specs.Faults.{IsSyntaxFault, IsDeepFault}
use Rattle.json_spans.specs.declared.fault.JsonFault.{JsonFault}
use Rattle.json_spans.specs.declared.fault.JsonFault.TheVariants as fault

-- nothing but white space stands from the place on
abbrev pub at_the_end : List ℕ → ℕ → Outcome
at_the_end text to = if to + space_len (drop to text) == length text then ended to else stopped (to + space_len (drop to text))

abbrev pub and_then_the_end : List ℕ → Outcome → Outcome
and_then_the_end text (ended to) = at_the_end text to
and_then_the_end text (stopped p) = stopped p
and_then_the_end text (too_deep p) = too_deep p

-- where the one value of a text ends, or where the text is refused
abbrev pub whole : List ℕ → Outcome
whole text = and_then_the_end text (value_at (space_len text) (drop (space_len text) text))

-- why a text is refused: its bytes, or the place where no JSON text within 127 levels goes on
abbrev pub Refuses : List ℕ → JsonFault → Type 0
Refuses text fault.NotUtf8 = IsUtf8 text → ⊥
Refuses text (fault.Syntax p) = IsUtf8 text × IsSyntaxFault text p
Refuses text (fault.Deep p) = IsUtf8 text × IsDeepFault text p
Refuses text (fault.Repeated p q) = ⊥
Refuses text (fault.Many p) = ⊥
Refuses text fault.Memory = ⊥
