use Rattle.std.proofs.Common.{refl, sym, ◌∙◌}
use Rattle.std.specs.Prelude.{codes, None}
use Rattle.std.proofs.lemmas.Result.{IfOk-weaker}
use Rattle.grid_log.specs.Events.{request_event, taken_events}
use Rattle.grid_log.specs.Past.{is_clearing}
use Rattle.grid_log.specs.Recalls.{recalled}
use Rattle.grid_log.proofs.LineLemmas.{request_told, told_where}
use Rattle.grid_log.proofs.telling.Teller.taken.Goals as goal

pub returns-then-was_just_cleared : goal.returns-then-was_just_cleared
returns-then-was_just_cleared c =
    let past = c.args.past.now in
    let withdrawn = request_event (codes "request withdrawn") c.args.request None c.args.at.0 in
    IfOk-weaker c.of_request.result _ _ (λ bytes h.
    request_told c.args.self.now.form (codes "request withdrawn") c.args.request c.args.at.0 None None
    (taken_events (recalled past) c.args.caller c.args.request c.args.at.0) bytes.items h refl
    (told_where (is_clearing c.args.caller c.args.request past.cleared) withdrawn (sym c.was_just_cleared.ensures ∙ c.if-was_just_cleared.true)))
    c.of_request.ensures
