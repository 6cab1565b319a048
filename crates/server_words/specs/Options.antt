-- Options of a command line, as a simple command of `clap` takes them, and what the words set them to.
use Rattle.std.specs.Prelude.{◌≡◌, ◌==◌, ◌&&◌, ◌||◌, ℕ, Bool, List, [], ◌∷◌, Option, Some, None}
use Rattle.std.specs.Prelude.{IfSome, codes, pos, false, not, true}
use Rattle.std.specs.List.{list_all}
use Rattle.std.specs.Str.{bytes_eq}
use Rattle.std.specs.Str.Parse.{digits_value, without_leading_sign}
use Rattle.clap.specs.Simple.{on_top}
use Rattle.clap.specs.Words.{App, IsSignedIn, Row, Rule, Text, fault_of, first_of, new_app, new_rule, with_rule}
use Rattle.clap.specs.declared.builder.action.ArgAction.{ArgAction}
use Rattle.clap.specs.declared.builder.action.ArgAction.TheVariants.{Append, Set}
use Rattle.clap.specs.declared.builder.value_parser.ValueParser.{ValueParser}
use Rattle.clap.specs.declared.builder.value_parser.ValueParser.TheVariants as parser

-- an option by what it does with a value, and what takes that
abbrev pub rule_with : List ℕ → ArgAction → ValueParser → Rule
rule_with name does takes = record (new_rule name) { long = Some name; action = Some does; parser = Some takes }

-- an option with one value that the parser takes; it may be set once
abbrev pub option_of : List ℕ → ValueParser → Rule
option_of name takes = rule_with name Set takes

-- an option with a number between two limits
abbrev pub number_of : List ℕ → ℕ → ℕ → Rule
number_of name least most = option_of name (parser.Signed (pos least) (pos most))

-- an option with `true` or `false`
abbrev pub truth_of : List ℕ → Rule
truth_of name = option_of name parser.Bool

-- an option with any text
abbrev pub text_of : List ℕ → Rule
text_of name = option_of name parser.String

-- an option with any text that may be set again and again
abbrev pub texts_of : List ℕ → Rule
texts_of name = rule_with name Append parser.String

-- an option with `true` or `false`, which is true where it stands without a value
abbrev pub switch_of : List ℕ → Rule
switch_of name = record (truth_of name) {
  range = Some (record { start_inclusive = 0; end_inclusive = 1 });
  missing = codes "true" ∷ [];
}

-- the command with no option, which is handed its words without the program's name
abbrev pub bare : List ℕ → App
bare name = on_top (λ s. record s { no_binary_name = true }) (new_app name)

-- the command with these options behind its own
abbrev pub with_rules : App → List Rule → App
with_rules app [] = app
with_rules app (rule ∷ rules) = with_rules (with_rule app rule) rules

-- the words are taken by the command
abbrev pub IsTaken : App → List Text → Type 0
IsTaken app words = fault_of app words ≡ []

-- the number that the text of an option writes, behind its sign
abbrev pub number_or : ℕ → Option Text → ℕ
number_or default None = default
number_or default (Some text) = digits_value 10 (without_leading_sign text)

abbrev pub truth_or : Bool → Option Text → Bool
truth_or default None = default
truth_or default (Some text) = bytes_eq text (codes "true")

abbrev pub text_or : List ℕ → Option Text → List ℕ
text_or default None = default
text_or default (Some text) = text

-- all texts that an option was set to
abbrev pub all_or_none : Option (List Text) → List Text
all_or_none None = []
all_or_none (Some texts) = texts

-- the rule is of another option, or wants a number between the limits
abbrev pub wants_number : ℕ → ℕ → Option ValueParser → Bool
wants_number least most (Some (parser.Signed (pos low) (pos high))) = low == least && high == most
wants_number least most _ = false

abbrev pub limits : Text → ℕ → ℕ → Rule → Bool
limits name least most r =
    not (bytes_eq r.id name) || (not r.ignore_case && wants_number least most r.parser)

-- the name is none of those that `clap` itself gives
abbrev pub is_own_name : Text → Bool
is_own_name name =
    not (bytes_eq name []) && not (bytes_eq name (codes "help") || bytes_eq name (codes "version"))

-- of each option of the command that wants a number between limits, the text that was found is one
abbrev pub NumbersFit : App → List Row → Type 0
NumbersFit app rows = (name : Text) (least most : ℕ)
    → is_own_name name ≡ true
    → list_all (limits name least most) app.top.rules ≡ true
    → IfSome (first_of name rows) (IsSignedIn (pos least) (pos most))
