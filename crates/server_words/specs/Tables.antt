-- The options of a program, as its table has them.
use Rattle.std.specs.Prelude.{ℕ, List}
use Rattle.clap.specs.Words.{Rule}
use Rattle.server_words.specs.Options.{number_of, switch_of, text_of, texts_of, truth_of}
use Rattle.server_words.specs.declared.tables.OptionRow.{OptionRow}
use Rattle.server_words.specs.declared.tables.Takes.{Takes}
use Rattle.server_words.specs.declared.tables.Takes.TheVariants as takes

abbrev pub rule_by : List ℕ → Takes → Rule
rule_by name (takes.Number least most) = number_of name least most
rule_by name takes.Truth = truth_of name
rule_by name takes.Text = text_of name
rule_by name takes.Texts = texts_of name
rule_by name takes.Switch = switch_of name

-- what an option of the table takes
abbrev pub rule_told : OptionRow → Rule
rule_told row = rule_by row.name.now row.takes
