use Rattle.std.proofs.Common.{refl, arith, sym, ◌∙◌}
use Rattle.hub_core.proofs.EntriesLemmas.{polled-none}
use Rattle.hub_core.proofs.LocalLemmas.{kept-within, grown-kept, grown-view, made-place, local-stays, local-keeps, local-writes, local-kept, local-place, local-first, local-second, local-kept_two, local-writes_two}
use Rattle.hub_core.proofs.LocalCallLemmas.{poll-goes, reserves-never, core-would, ok-of}
use Rattle.hub_core.proofs.local.LocalHub.poll_with.Goals as goal
use Rattle.hub_core.proofs.local.LocalHub.poll_with.Goals.{else-is_err-via-then-is_err+else-would_reserve, else-is_err-via-else-is_err}

pub make_places-requires : goal.make_places-requires
make_places-requires g c =
    let proved = c.history_laws.ensures in
    kept-within proved _ _ _ _ _ c.self.invariant

pub returns-then-would_reserve-clause-serves : goal.returns-then-would_reserve-clause-serves
returns-then-would_reserve-clause-serves g c =
    let proved = c.history_laws.ensures in
    local-stays proved _ _ _ _ _ _ (grown-kept _ _ _ _ _ _ _ _ _ c.self.invariant c.make_places.ensures.grown) (grown-view _ _ _ _ _ _ _ _ _ _ c.self.view_is c.make_places.ensures.grown) _ _ _ c.requires _ (core-would proved _ _ _ _ _ (c.would_reserve.ensures 0) c.if-would_reserve.true) refl

pub write-requires : goal.write-requires
write-requires g c =
    let proved = c.history_laws.ensures in
    rw c.reserved.ensures (made-place proved _ _ _ _ _ _ _ (grown-kept _ _ _ _ _ _ _ _ _ c.self.invariant c.make_places.ensures.grown)
    (elim c.else-is_err.branch [
      | else-is_err-via-then-is_err+else-would_reserve w ↦ absurd (reserves-never proved _ _ _ _ _ _ c.self.invariant c.self.view_is _ _ _ _ _ c.requires (w.would_reserve.ensures 0) w.if-would_reserve.false c.in-Yours.ensures.serves refl)
      | else-is_err-via-else-is_err w ↦ ok-of _ _ (sym c.is_err.ensures.value ∙ w.if-is_err.false) c.make_places.ensures.ok
    ]) (omega arith))

pub invariant_of-self-in-Yours : goal.invariant_of-self-in-Yours
invariant_of-self-in-Yours g c =
    let proved = c.history_laws.ensures in
    local-kept proved _ _ _ _ _ _ (grown-kept _ _ _ _ _ _ _ _ _ c.self.invariant c.make_places.ensures.grown) (grown-view _ _ _ _ _ _ _ _ _ _ c.self.view_is c.make_places.ensures.grown) _ _ _ c.requires _ _ _ _ _ _ c.in-Yours.ensures.serves (poll-goes proved _ _ _ _ _ _ (grown-kept _ _ _ _ _ _ _ _ _ c.self.invariant c.make_places.ensures.grown) (grown-view _ _ _ _ _ _ _ _ _ _ c.self.view_is c.make_places.ensures.grown) _ _ _ c.raised-now.ensures _ c.args.ticket _ _ _ c.request-request.ensures refl c.requires c.is_settled-settled.ensures c.in-Yours.ensures.serves)
    (made-place proved _ _ _ _ _ _ _ (grown-kept _ _ _ _ _ _ _ _ _ c.self.invariant c.make_places.ensures.grown)
    (elim c.else-is_err.branch [
      | else-is_err-via-then-is_err+else-would_reserve w ↦ absurd (reserves-never proved _ _ _ _ _ _ c.self.invariant c.self.view_is _ _ _ _ _ c.requires (w.would_reserve.ensures 0) w.if-would_reserve.false c.in-Yours.ensures.serves refl)
      | else-is_err-via-else-is_err w ↦ ok-of _ _ (sym c.is_err.ensures.value ∙ w.if-is_err.false) c.make_places.ensures.ok
    ]) (omega arith)) (rw c.reserved.ensures at c.write.ensures)

pub write-requires-then-not-settled : goal.write-requires-then-not-settled
write-requires-then-not-settled g c =
    let proved = c.history_laws.ensures in
    local-first proved _ _ _ _ _ _ (grown-kept _ _ _ _ _ _ _ _ _ c.self.invariant c.make_places.ensures.grown) (grown-view _ _ _ _ _ _ _ _ _ _ c.self.view_is c.make_places.ensures.grown) _ _ _ c.requires _ _ _ c.in-Settled.ensures.serves (poll-goes proved _ _ _ _ _ _ (grown-kept _ _ _ _ _ _ _ _ _ c.self.invariant c.make_places.ensures.grown) (grown-view _ _ _ _ _ _ _ _ _ _ c.self.view_is c.make_places.ensures.grown) _ _ _ c.raised-now.ensures _ c.args.ticket _ _ _ c.request-request.ensures c.if-not-settled.true c.requires c.is_settled-settled.ensures c.in-Settled.ensures.serves) refl refl

pub write-requires-then-not-settled-2 : goal.write-requires-then-not-settled-2
write-requires-then-not-settled-2 g c =
    let proved = c.history_laws.ensures in
    local-second proved _ _ _ _ _ _ (grown-kept _ _ _ _ _ _ _ _ _ c.self.invariant c.make_places.ensures.grown) (grown-view _ _ _ _ _ _ _ _ _ _ c.self.view_is c.make_places.ensures.grown) _ _ _ c.requires _ _ _ _ _ _ _ c.in-Settled.ensures.serves (poll-goes proved _ _ _ _ _ _ (grown-kept _ _ _ _ _ _ _ _ _ c.self.invariant c.make_places.ensures.grown) (grown-view _ _ _ _ _ _ _ _ _ _ c.self.view_is c.make_places.ensures.grown) _ _ _ c.raised-now.ensures _ c.args.ticket _ _ _ c.request-request.ensures c.if-not-settled.true c.requires c.is_settled-settled.ensures c.in-Settled.ensures.serves) refl refl c.write-then-not-settled.ensures

pub invariant_of-self-then-not-settled : goal.invariant_of-self-then-not-settled
invariant_of-self-then-not-settled g c =
    let proved = c.history_laws.ensures in
    local-kept_two proved _ _ _ _ _ _ (grown-kept _ _ _ _ _ _ _ _ _ c.self.invariant c.make_places.ensures.grown) (grown-view _ _ _ _ _ _ _ _ _ _ c.self.view_is c.make_places.ensures.grown) _ _ _ c.requires _ _ _ _ _ _ _ _ _ _ _ c.in-Settled.ensures.serves (poll-goes proved _ _ _ _ _ _ (grown-kept _ _ _ _ _ _ _ _ _ c.self.invariant c.make_places.ensures.grown) (grown-view _ _ _ _ _ _ _ _ _ _ c.self.view_is c.make_places.ensures.grown) _ _ _ c.raised-now.ensures _ c.args.ticket _ _ _ c.request-request.ensures c.if-not-settled.true c.requires c.is_settled-settled.ensures c.in-Settled.ensures.serves) refl refl c.write-then-not-settled.ensures c.write-then-not-settled-2.ensures

pub returns-then-not-settled-clause-serves : goal.returns-then-not-settled-clause-serves
returns-then-not-settled-clause-serves g c =
    let proved = c.history_laws.ensures in
    local-writes_two proved _ _ _ _ _ _ (grown-kept _ _ _ _ _ _ _ _ _ c.self.invariant c.make_places.ensures.grown) (grown-view _ _ _ _ _ _ _ _ _ _ c.self.view_is c.make_places.ensures.grown) _ _ _ c.requires _ _ _ _ _ _ _ _ _ _ _ c.in-Settled.ensures.serves (poll-goes proved _ _ _ _ _ _ (grown-kept _ _ _ _ _ _ _ _ _ c.self.invariant c.make_places.ensures.grown) (grown-view _ _ _ _ _ _ _ _ _ _ c.self.view_is c.make_places.ensures.grown) _ _ _ c.raised-now.ensures _ c.args.ticket _ _ _ c.request-request.ensures c.if-not-settled.true c.requires c.is_settled-settled.ensures c.in-Settled.ensures.serves) c.write-then-not-settled.ensures c.write-then-not-settled-2.ensures

pub write-requires-in-Settled : goal.write-requires-in-Settled
write-requires-in-Settled g c =
    let proved = c.history_laws.ensures in
    local-place proved _ _ _ _ _ _ (grown-kept _ _ _ _ _ _ _ _ _ c.self.invariant c.make_places.ensures.grown) (grown-view _ _ _ _ _ _ _ _ _ _ c.self.view_is c.make_places.ensures.grown) _ _ _ c.requires _ _ c.in-Settled.ensures.serves (poll-goes proved _ _ _ _ _ _ (grown-kept _ _ _ _ _ _ _ _ _ c.self.invariant c.make_places.ensures.grown) (grown-view _ _ _ _ _ _ _ _ _ _ c.self.view_is c.make_places.ensures.grown) _ _ _ c.raised-now.ensures _ c.args.ticket _ _ _ c.request-request.ensures c.if-not-settled.false c.requires c.is_settled-settled.ensures c.in-Settled.ensures.serves) refl

pub invariant_of-self-in-Settled : goal.invariant_of-self-in-Settled
invariant_of-self-in-Settled g c =
    let proved = c.history_laws.ensures in
    local-kept proved _ _ _ _ _ _ (grown-kept _ _ _ _ _ _ _ _ _ c.self.invariant c.make_places.ensures.grown) (grown-view _ _ _ _ _ _ _ _ _ _ c.self.view_is c.make_places.ensures.grown) _ _ _ c.requires _ _ _ _ _ _ c.in-Settled.ensures.serves (poll-goes proved _ _ _ _ _ _ (grown-kept _ _ _ _ _ _ _ _ _ c.self.invariant c.make_places.ensures.grown) (grown-view _ _ _ _ _ _ _ _ _ _ c.self.view_is c.make_places.ensures.grown) _ _ _ c.raised-now.ensures _ c.args.ticket _ _ _ c.request-request.ensures c.if-not-settled.false c.requires c.is_settled-settled.ensures c.in-Settled.ensures.serves)
    (local-place proved _ _ _ _ _ _ (grown-kept _ _ _ _ _ _ _ _ _ c.self.invariant c.make_places.ensures.grown) (grown-view _ _ _ _ _ _ _ _ _ _ c.self.view_is c.make_places.ensures.grown) _ _ _ c.requires _ _ c.in-Settled.ensures.serves (poll-goes proved _ _ _ _ _ _ (grown-kept _ _ _ _ _ _ _ _ _ c.self.invariant c.make_places.ensures.grown) (grown-view _ _ _ _ _ _ _ _ _ _ c.self.view_is c.make_places.ensures.grown) _ _ _ c.raised-now.ensures _ c.args.ticket _ _ _ c.request-request.ensures c.if-not-settled.false c.requires c.is_settled-settled.ensures c.in-Settled.ensures.serves) refl) c.write-in-Settled.ensures

pub invariant_of-self-in_default : goal.invariant_of-self-in_default
invariant_of-self-in_default g c =
    let proved = c.history_laws.ensures in
    local-keeps proved _ _ _ _ _ _ (grown-kept _ _ _ _ _ _ _ _ _ c.self.invariant c.make_places.ensures.grown) (grown-view _ _ _ _ _ _ _ _ _ _ c.self.view_is c.make_places.ensures.grown) _ _ _ c.requires _ c.poll.ensures.serves (poll-goes proved _ _ _ _ _ _ (grown-kept _ _ _ _ _ _ _ _ _ c.self.invariant c.make_places.ensures.grown) (grown-view _ _ _ _ _ _ _ _ _ _ c.self.view_is c.make_places.ensures.grown) _ _ _ c.raised-now.ensures _ c.args.ticket _ _ _ c.request-request.ensures refl c.requires c.is_settled-settled.ensures c.poll.ensures.serves ∙ polled-none _ _ _ _ _ _ c.in_default.not-Yours c.in_default.not-Settled)

pub returns-in-Yours-clause-serves : goal.returns-in-Yours-clause-serves
returns-in-Yours-clause-serves g c =
    let proved = c.history_laws.ensures in
    local-writes proved _ _ _ _ _ _ (grown-kept _ _ _ _ _ _ _ _ _ c.self.invariant c.make_places.ensures.grown) (grown-view _ _ _ _ _ _ _ _ _ _ c.self.view_is c.make_places.ensures.grown) _ _ _ c.requires _ _ _ _ _ _ c.in-Yours.ensures.serves (poll-goes proved _ _ _ _ _ _ (grown-kept _ _ _ _ _ _ _ _ _ c.self.invariant c.make_places.ensures.grown) (grown-view _ _ _ _ _ _ _ _ _ _ c.self.view_is c.make_places.ensures.grown) _ _ _ c.raised-now.ensures _ c.args.ticket _ _ _ c.request-request.ensures refl c.requires c.is_settled-settled.ensures c.in-Yours.ensures.serves) (rw c.reserved.ensures at c.write.ensures)

pub returns-else-not-settled-clause-serves : goal.returns-else-not-settled-clause-serves
returns-else-not-settled-clause-serves g c =
    let proved = c.history_laws.ensures in
    local-writes proved _ _ _ _ _ _ (grown-kept _ _ _ _ _ _ _ _ _ c.self.invariant c.make_places.ensures.grown) (grown-view _ _ _ _ _ _ _ _ _ _ c.self.view_is c.make_places.ensures.grown) _ _ _ c.requires _ _ _ _ _ _ c.in-Settled.ensures.serves (poll-goes proved _ _ _ _ _ _ (grown-kept _ _ _ _ _ _ _ _ _ c.self.invariant c.make_places.ensures.grown) (grown-view _ _ _ _ _ _ _ _ _ _ c.self.view_is c.make_places.ensures.grown) _ _ _ c.raised-now.ensures _ c.args.ticket _ _ _ c.request-request.ensures c.if-not-settled.false c.requires c.is_settled-settled.ensures c.in-Settled.ensures.serves) c.write-in-Settled.ensures

pub returns-in_default-clause-serves : goal.returns-in_default-clause-serves
returns-in_default-clause-serves g c =
    let proved = c.history_laws.ensures in
    local-stays proved _ _ _ _ _ _ (grown-kept _ _ _ _ _ _ _ _ _ c.self.invariant c.make_places.ensures.grown) (grown-view _ _ _ _ _ _ _ _ _ _ c.self.view_is c.make_places.ensures.grown) _ _ _ c.requires _ c.poll.ensures.serves (poll-goes proved _ _ _ _ _ _ (grown-kept _ _ _ _ _ _ _ _ _ c.self.invariant c.make_places.ensures.grown) (grown-view _ _ _ _ _ _ _ _ _ _ c.self.view_is c.make_places.ensures.grown) _ _ _ c.raised-now.ensures _ c.args.ticket _ _ _ c.request-request.ensures refl c.requires c.is_settled-settled.ensures c.poll.ensures.serves ∙ polled-none _ _ _ _ _ _ c.in_default.not-Yours c.in_default.not-Settled)
