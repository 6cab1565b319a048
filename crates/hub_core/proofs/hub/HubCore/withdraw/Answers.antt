use Rattle.std.proofs.Common.{refl}
use Rattle.hub_core.proofs.NoteLemmas.{noted, told}
use Rattle.hub_core.proofs.WithdrawLemmas.{core-withdraw_settled, core-withdraw_never, core-withdraw_held, core-withdrawn}
use Rattle.hub_core.proofs.hub.HubCore.withdraw.Goals as goal

pub returns-in-Some : goal.returns-in-Some
returns-in-Some c =
    let proved = c.history_laws.ensures in
    core-withdraw_settled proved _ _ _ c.args.ticket _ c.raised-now.ensures _ (rw c.request-request.ensures at c.is_settled.ensures) _ _ _ c.if-is_settled.true (noted refl (rw c.request-request.ensures at c.note_taken.ensures.noted _)) (told (rw c.request-request.ensures at c.note_taken.ensures.outcome)) c.in-Some.is

pub returns-in-None : goal.returns-in-None
returns-in-None c =
    let proved = c.history_laws.ensures in
    core-withdraw_never proved _ _ _ c.args.ticket _ c.raised-now.ensures _ (rw c.request-request.ensures at c.is_settled.ensures) _ _ _ c.if-is_settled.true (noted refl (rw c.request-request.ensures at c.note_taken.ensures.noted _)) (told (rw c.request-request.ensures at c.note_taken.ensures.outcome)) c.in-None.is

pub returns-then-not-is_waiting : goal.returns-then-not-is_waiting
returns-then-not-is_waiting c =
    let proved = c.history_laws.ensures in
    core-withdraw_held proved _ _ _ c.args.ticket _ c.raised-now.ensures _ (rw c.request-request.ensures at c.is_settled.ensures) _ (rw c.request-request.ensures at c.is_waiting.ensures) c.if-is_settled.false c.if-not-is_waiting.true

pub returns : goal.returns
returns c =
    let proved = c.history_laws.ensures in
    core-withdrawn proved _ _ _ c.args.ticket _ c.raised-now.ensures _ (rw c.request-request.ensures at c.is_settled.ensures) _ (rw c.request-request.ensures at c.is_waiting.ensures) _ _ c.if-is_settled.false c.if-not-is_waiting.false
    (noted refl (rw c.request-request.ensures at c.note_cleared.ensures _)) (noted refl (rw c.request-request.ensures at c.note_taken-2.ensures.noted _))
