use Rattle.std.proofs.Common.{sym, ap, ◌∙◌, subst}
use Rattle.std.proofs.lemmas.Bool.{false≢true}
use Rattle.http_frames.specs.declared.calm.Calm.{Calm}
use Rattle.http_frames.specs.Calm.{StaysOpen, calm_of_line}
use Rattle.http_frames.proofs.CalmLemmas.{target_stays, line_stays}
use Rattle.http_frames.proofs.TargetLemmas.{EndsInsideTarget-from_test, test_from_EndsInsideTarget}
use Rattle.http_frames.proofs.calm.calm_of_head.Goals as goal

pub returns-then-ends_inside_target : goal.returns-then-ends_inside_target
returns-then-ends_inside_target c begun =
    target_stays c.args.text.now begun
    (EndsInsideTarget-from_test _ (sym c.ends_inside_target.ensures ∙ c.if-ends_inside_target.true))

pub returns-else-ends_inside_target : goal.returns-else-ends_inside_target
returns-else-ends_inside_target c begun =
    subst (λ (now : Calm). StaysOpen now c.args.text.now)
    (sym (c.calm_of_line.ensures ∙ ap calm_of_line c.last_line.ensures))
    (line_stays c.args.text.now begun
    (λ x. false≢true (sym c.if-ends_inside_target.false ∙ c.ends_inside_target.ensures ∙ test_from_EndsInsideTarget _ x)))
