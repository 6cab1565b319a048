use Rattle.std.proofs.Common.{sym, ap, ◌∙◌, subst}
use Rattle.http_frames.specs.declared.calm.Calm.{Calm}
use Rattle.http_frames.specs.Calm.{TrailersStay, calm_of_line}
use Rattle.http_frames.proofs.CalmLemmas.{trailers_stay}
use Rattle.http_frames.proofs.calm.calm_of_trailers.Goals as goal

pub returns : goal.returns
returns c begun =
    subst (λ (now : Calm). TrailersStay now c.args.text.now)
    (sym (c.calm_of_line.ensures ∙ ap calm_of_line c.last_line.ensures)) (trailers_stay c.args.text.now begun)
