-- What reading a value from a place comes to: where it ends, or where it is refused.
use Rattle.std.specs.Prelude.{ℕ, ◌+◌, ◌-◌, List, [], ◌∷◌, length, Bool, true, false, if◌then◌else◌, nat_lt, get_or, zero, suc, ◌≡◌, Option, Some, None, Result, Ok, Err}
use Rattle.json_spans.specs.declared.fault.JsonFault.{JsonFault}
use Rattle.json_spans.specs.declared.fault.JsonFault.TheVariants.{Syntax, Deep}
use Rattle.json_spans.specs.declared.machine.TheConstants.{MAX_DEPTH}
use Rattle.json_spans.specs.Table.{step, back, is_number_end}
use Rattle.json_spans.specs.declared.table.Mode.{Mode}
use Rattle.json_spans.specs.declared.table.Mode.TheVariants as mode
use Rattle.json_spans.specs.declared.table.Top.{Top}
use Rattle.json_spans.specs.declared.table.Top.TheVariants as top
use Rattle.json_spans.specs.declared.table.Action.{Action}
use Rattle.json_spans.specs.declared.table.Action.TheVariants as does

pub data Outcome : Type 0 where
  ended : ℕ → Outcome
  stopped : ℕ → Outcome
  too_deep : ℕ → Outcome

-- the brackets that are open, the innermost first: true for an object
abbrev pub Stack : Type 0
Stack = List Bool

abbrev pub top_of : Stack → Top
top_of [] = top.Outside
top_of (false ∷ s) = top.InList
top_of (true ∷ s) = top.InObject

abbrev pub first_of : Bool → Mode
first_of true = mode.NameOrClose
first_of false = mode.ValueOrClose

-- what goes on in a mode and among brackets
abbrev pub Onward : Type 0
Onward = Mode → Bool → Stack → Outcome

-- a value ends before the place p
abbrev pub finish : ℕ → Bool → Stack → Onward → Outcome
finish p naming [] k = ended p
finish p naming (b ∷ s) k = k mode.After naming (b ∷ s)

-- a bracket at p closes the innermost; q is the place behind it
abbrev pub close : ℕ → ℕ → Bool → Stack → Onward → Outcome
close p q naming [] k = stopped p
close p q naming (b ∷ s) k = finish q naming s k

-- what the byte at p does within so many levels, where k goes on behind it, from the place q
abbrev pub react : ℕ → ℕ → ℕ → Bool → Stack → Onward → Action → Outcome
react limit p q naming s k (does.Go m) = k m naming s
react limit p q naming s k does.Begin = k mode.Value false s
react limit p q naming s k does.Name = k mode.Text true s
react limit p q naming s k does.Text = k mode.Text false s
react limit p q naming s k (does.Open b) = if nat_lt (length s) limit then k (first_of b) naming (b ∷ s) else too_deep p
react limit p q naming s k does.Done = finish q naming s k
react limit p q naming s k does.Close = close p q naming s k
react limit p q naming s k does.Over = ended p
react limit p q naming s k (does.Stop n) = stopped (p - n)

-- how a call says it
abbrev pub as_result : Outcome → Result ℕ JsonFault
as_result (ended p) = Ok p
as_result (stopped p) = Err (Syntax p)
as_result (too_deep p) = Err (Deep p)

-- a turn that comes to o answers so, or goes on as k
abbrev pub Turns : Outcome → Option (Result ℕ JsonFault) → Outcome → Type 0
Turns o None k = o ≡ k
Turns o (Some answer) k = answer ≡ as_result o

abbrev pub at_end : ℕ → Mode → Stack → Outcome
at_end p m [] = if is_number_end m then ended p else stopped (p - back m)
at_end p m (b ∷ s) = stopped (p - back m)

-- reading what is left of a text of n bytes, within so many levels
unfoldable pub run : ℕ → ℕ → Mode → Bool → Stack → List ℕ → Outcome
run limit n m naming s [] = at_end n m s
run limit n m naming s (x ∷ xs) = react limit (n - suc (length xs)) (n - length xs) naming s (λ m naming s. run limit n m naming s xs) (step m naming (top_of s) x)

-- the value that begins behind white space at p
abbrev pub value_at : ℕ → List ℕ → Outcome
value_at p xs = run MAX_DEPTH (p + length xs) mode.Value false [] xs

-- the brackets among the first n of an array, the innermost first
unfoldable pub stack_of : List Bool → ℕ → Stack
stack_of brackets zero = []
stack_of brackets (suc n) = get_or brackets n false ∷ stack_of brackets n
