use Rattle.std.proofs.Common.{◌≡◌, refl, sym, subst}
use Rattle.std.specs.Prelude.{true}
use Rattle.journal_verdicts.specs.declared.verdict.Verdict.{Verdict}
use Rattle.journal_verdicts.specs.Checks.{told}
use Rattle.journal_verdicts.specs.Verdicts.{IsVerdict, tells_end}
use Rattle.journal_verdicts.proofs.CheckLemmas.{begins_check, opened_with, told_verdict}
use Rattle.journal_verdicts.proofs.checking.read_in.Goals as goal

pub returns-in_ok-verdict-in-Config-clause-says : goal.returns-in_ok-verdict-in-Config-clause-says
returns-in_ok-verdict-in-Config-clause-says g c =
    let start = told (g.S.Source.view c.args.input.now).given (g.S.Source.view c.args.input.now).ends in
    let before = told (g.S.Source.view c.open.new.input).given (g.S.Source.view c.open.new.input).ends in
    let now = told (g.S.Source.view c.run.new.input).given (g.S.Source.view c.run.new.input).ends in
    let ends = c.in_ok-verdict-in-Config.ensures.goes start
    (begins_check g.L.Listener.heard start before _ c.in-Config.config
    (opened_with start before c.open.new.feed c.in_ok-verdict.field-0 c.in-Config.config c.in_ok-verdict.ensures.opens c.in-Config.is)
    c.new.ensures.stands c.new.ensures.config refl c.requires) in
    subst (λ (v : Verdict). IsVerdict start.given now.given v) (sym c.left_at.ensures.verdict) (told_verdict start now _ ends.is_told)

pub returns-in_ok-verdict-in-Config-clause-journal : goal.returns-in_ok-verdict-in-Config-clause-journal
returns-in_ok-verdict-in-Config-clause-journal g c =
    let start = told (g.S.Source.view c.args.input.now).given (g.S.Source.view c.args.input.now).ends in
    let before = told (g.S.Source.view c.open.new.input).given (g.S.Source.view c.open.new.input).ends in
    let now = told (g.S.Source.view c.run.new.input).given (g.S.Source.view c.run.new.input).ends in
    let ends = c.in_ok-verdict-in-Config.ensures.goes start
    (begins_check g.L.Listener.heard start before _ c.in-Config.config
    (opened_with start before c.open.new.feed c.in_ok-verdict.field-0 c.in-Config.config c.in_ok-verdict.ensures.opens c.in-Config.is)
    c.new.ensures.stands c.new.ensures.config refl c.requires) in
    c.left_at.ensures.journal start now ends

pub returns-in_ok-verdict-in-Config-clause-end : goal.returns-in_ok-verdict-in-Config-clause-end
returns-in_ok-verdict-in-Config-clause-end g c =
    let start = told (g.S.Source.view c.args.input.now).given (g.S.Source.view c.args.input.now).ends in
    let before = told (g.S.Source.view c.open.new.input).given (g.S.Source.view c.open.new.input).ends in
    let now = told (g.S.Source.view c.run.new.input).given (g.S.Source.view c.run.new.input).ends in
    let ends = c.in_ok-verdict-in-Config.ensures.goes start
    (begins_check g.L.Listener.heard start before _ c.in-Config.config
    (opened_with start before c.open.new.feed c.in_ok-verdict.field-0 c.in-Config.config c.in_ok-verdict.ensures.opens c.in-Config.is)
    c.new.ensures.stands c.new.ensures.config refl c.requires) in
    λ h. ends.is_told.end_told (subst (λ (v : Verdict). tells_end v ≡ true) c.left_at.ensures.verdict h)
