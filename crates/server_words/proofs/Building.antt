-- What a command reads of its options as it is built.
use Rattle.std.proofs.Common.{◌∙◌, ◌≡◌, false, true, List, ℕ, ap, ap₂}
use Rattle.clap.specs.Words.{App, Row, Rule, Text, AddsArg, matches_of, app_of, new_app, rule_of, with_rule}
use Rattle.clap.specs.Simple.{app_of_fields, on_top}
use Rattle.clap.specs.declared.builder.arg.Arg.{Arg}
use Rattle.clap.specs.declared.builder.command.Command.{Command}
use Rattle.clap.specs.declared.builder.command.Command.TheViews.{out-Command}
use Rattle.server_words.specs.Options.{IsTaken, bare, with_rules}

pub started : (name : List ℕ) (c d : Command) → app_of c ≡ new_app name
    → out-Command d ≡ record (out-Command c) { no_binary_name = true } → app_of d ≡ bare name
started name c d new e = ap app_of_fields e ∙ ap (on_top (λ s. record s { no_binary_name = true })) new

pub with_option : (app : App) (rule : Rule) (c d : Command) (a : Arg) → app_of c ≡ app → AddsArg c a d → a.global ≡ false → rule_of a ≡ rule
    → app_of d ≡ with_rule app rule
with_option app rule c d a so_far added local same = added.shape local ∙ ap₂ with_rule so_far same

-- the options of a whole table
pub all_options : (name : List ℕ) (c d : Command) (rules : List Rule) → app_of c ≡ bare name → app_of d ≡ with_rules (app_of c) rules → app_of d ≡ with_rules (bare name) rules
all_options name c d rules begun built = built ∙ ap (λ (app : App). with_rules app rules) begun

-- what is known of the words that were lent is known of the words
pub taken_as : (app : App) (found words : List Text) → found ≡ words → IsTaken app found → IsTaken app words
taken_as app found words w h = rw (← w) h

pub rows_as : (app : App) (found words : List Text) (rows : List Row) → found ≡ words → rows ≡ matches_of app found → rows ≡ matches_of app words
rows_as app found words rows w h = rw (← w) h
