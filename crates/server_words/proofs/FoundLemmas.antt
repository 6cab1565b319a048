-- What is found by a command is found by the one that it is equal to.
use Rattle.std.proofs.Common.{◌≡◌, List, subst}
use Rattle.std.specs.Prelude.{Result, IfErr, IfOk, IsErrOf}
use Rattle.clap.specs.Words.{App, Text, found_of, matches_of, rows_of}
use Rattle.clap.specs.declared.parser.matches.ArgMatches.{ArgMatches}
use Rattle.server_words.specs.declared.options.WordsFault.{WordsFault}
use Rattle.server_words.specs.declared.options.WordsFault.TheVariants as fault
use Rattle.server_words.specs.declared.attach.AttachFault.{AttachFault}
use Rattle.server_words.specs.AttachOptions.{HasWordCause}
use Rattle.server_words.specs.Options.{IsTaken, NumbersFit}

pub taken_by : {E : Type 0} (result : Result ArgMatches E) (words : List Text) {app other : App} → app ≡ other →
    IfOk result (λ _. IsTaken app words) → IfOk result (λ _. IsTaken other words)
taken_by result words same = subst (λ app. IfOk result (λ _. IsTaken app words)) same

pub rows_by : {E : Type 0} (result : Result ArgMatches E) (words : List Text) {app other : App} → app ≡ other →
    IfOk result (λ m. rows_of (found_of m) ≡ matches_of app words) → IfOk result (λ m. rows_of (found_of m) ≡ matches_of other words)
rows_by result words same = subst (λ app. IfOk result (λ m. rows_of (found_of m) ≡ matches_of app words)) same

pub numbers_by : {E : Type 0} (result : Result ArgMatches E) {app other : App} → app ≡ other →
    IfOk result (λ m. NumbersFit app (rows_of (found_of m))) → IfOk result (λ m. NumbersFit other (rows_of (found_of m)))
numbers_by result same = subst (λ app. IfOk result (λ m. NumbersFit app (rows_of (found_of m)))) same

pub refused_by : (result : Result ArgMatches WordsFault) (words : List Text) {app other : App} → app ≡ other →
    (IsErrOf result fault.Refused → ¬ (IsTaken app words)) → IsErrOf result fault.Refused → ¬ (IsTaken other words)
refused_by result words same = subst (λ app. IsErrOf result fault.Refused → ¬ (IsTaken app words)) same

pub cause_by : (result : Result ArgMatches AttachFault) (words : List Text) {app other : App} → app ≡ other →
    IfErr result (λ f. HasWordCause f app words) → IfErr result (λ f. HasWordCause f other words)
cause_by result words same = subst (λ app. IfErr result (λ f. HasWordCause f app words)) same
