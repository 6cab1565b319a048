use Rattle.std.proofs.Common.{◌<◌, length, refl, sym, ◌∙◌, arith}
use Rattle.std.proofs.lemmas.Bool.{false≢true}
use Rattle.std.proofs.lemmas.Bool.Decides.{nat_tests}
use Rattle.httparse.specs.Grammar.{is_extension_byte}
use Rattle.http_frames.specs.Calm.{is_no_semicolon, IsPartOfLine}
use Rattle.http_frames.proofs.TargetLemmas.{pass_from_all, all_from_pass}
use Rattle.http_frames.proofs.CalmLemmas.{nothing_so}
use Rattle.http_frames.proofs.CalmLineLemmas.{padding_stays, extension_stays}
use Rattle.http_frames.proofs.calm.calm_of_chunk_line.Goals as goal

pub returns-then-is_empty : goal.returns-then-is_empty
returns-then-is_empty c begun = nothing_so IsPartOfLine _ c.args.text.now refl

pub returns-then-not-are_of_extension : goal.returns-then-not-are_of_extension
returns-then-not-are_of_extension c begun = nothing_so IsPartOfLine _ c.args.text.now refl

pub returns-then-has_no_semicolon : goal.returns-then-has_no_semicolon
returns-then-has_no_semicolon c begun =
    let e = c.is_empty.ensures in
    let f = c.if-is_empty.false in
    let some : 0 < length c.args.text.now = grind (arith, nat_tests) in
    padding_stays c.args.text.now begun some
    (pass_from_all is_no_semicolon c.args.text.now (sym (c.if-has_no_semicolon.ensures)))
    (pass_from_all is_extension_byte c.args.text.now (sym (c.if-not-are_of_extension.ensures)))

pub returns-else-has_no_semicolon : goal.returns-else-has_no_semicolon
returns-else-has_no_semicolon c begun =
    extension_stays c.args.text.now begun
    (λ all. false≢true (c.if-has_no_semicolon.ensures ∙ all_from_pass is_no_semicolon c.args.text.now all))
    (pass_from_all is_extension_byte c.args.text.now (sym (c.if-not-are_of_extension.ensures)))
