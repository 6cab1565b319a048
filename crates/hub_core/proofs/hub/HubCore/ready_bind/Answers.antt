use Rattle.std.proofs.Common.{refl, sym, ◌∙◌}
use Rattle.hub_core.proofs.NoteLemmas.{kept}
use Rattle.hub_core.proofs.AheadLemmas.{core-refuses, core-binds_there}
use Rattle.hub_core.proofs.hub.HubCore.ready_bind.Goals as goal

pub returns-then-is_some-clause-tells : goal.returns-then-is_some-clause-tells
returns-then-is_some-clause-tells c =
    let proved = c.history_laws.ensures in
    core-refuses proved c.args.self.now c.args.reservation.now c.args.session.now c.args.caps.now c.args._at.0 c.refusal.result c.refusal.ensures (sym c.is_some.ensures ∙ c.if-is_some.true)

pub returns-in-Ok-clause-keeps : goal.returns-in-Ok-clause-keeps
returns-in-Ok-clause-keeps c = kept refl c.ready.ensures.keeps

pub returns-in-Ok-clause-tells : goal.returns-in-Ok-clause-tells
returns-in-Ok-clause-tells c =
    let proved = c.history_laws.ensures in
    core-binds_there proved c.args.self.now c.args.reservation.now c.args.session.now c.args.caps.now c.args._at.0 c.refusal.result c.refusal.ensures (sym c.is_some.ensures ∙ c.if-is_some.false)

pub returns-in-Err-clause-keeps : goal.returns-in-Err-clause-keeps
returns-in-Err-clause-keeps c = kept refl c.ready.ensures.keeps

pub returns-in-Err-clause-tells : goal.returns-in-Err-clause-tells
returns-in-Err-clause-tells c =
    let proved = c.history_laws.ensures in
    core-binds_there proved c.args.self.now c.args.reservation.now c.args.session.now c.args.caps.now c.args._at.0 c.refusal.result c.refusal.ensures (sym c.is_some.ensures ∙ c.if-is_some.false)
