use Rattle.std.proofs.Common.{refl}
use Rattle.hub_core.proofs.LocalLemmas.{local-stays, local-keeps, local-writes, local-kept, local-place, local-first, local-second, local-kept_two, local-writes_two}
use Rattle.hub_core.proofs.LocalCallLemmas.{withdraw-goes}
use Rattle.hub_core.proofs.local.LocalHub.withdraw.Goals as goal

pub write-requires : goal.write-requires
write-requires c =
    let proved = c.history_laws.ensures in
    local-first proved _ _ _ _ _ _ c.self.invariant c.self.view_is _ _ _ c.requires _ _ _ c.in-Withdrawn.ensures (withdraw-goes proved _ _ _ _ _ _ c.self.invariant c.self.view_is _ _ _ c.raised-now.ensures _ c.args.ticket _ c.request-request.ensures c.requires c.in-Withdrawn.ensures) refl refl

pub write-requires-in-Withdrawn : goal.write-requires-in-Withdrawn
write-requires-in-Withdrawn c =
    let proved = c.history_laws.ensures in
    local-second proved _ _ _ _ _ _ c.self.invariant c.self.view_is _ _ _ c.requires _ _ _ _ _ _ _ c.in-Withdrawn.ensures (withdraw-goes proved _ _ _ _ _ _ c.self.invariant c.self.view_is _ _ _ c.raised-now.ensures _ c.args.ticket _ c.request-request.ensures c.requires c.in-Withdrawn.ensures) refl refl c.write.ensures

pub invariant_of-self : goal.invariant_of-self
invariant_of-self c =
    let proved = c.history_laws.ensures in
    local-kept_two proved _ _ _ _ _ _ c.self.invariant c.self.view_is _ _ _ c.requires _ _ _ _ _ _ _ _ _ _ _ c.in-Withdrawn.ensures (withdraw-goes proved _ _ _ _ _ _ c.self.invariant c.self.view_is _ _ _ c.raised-now.ensures _ c.args.ticket _ c.request-request.ensures c.requires c.in-Withdrawn.ensures) refl refl c.write.ensures c.write-in-Withdrawn.ensures

pub returns-in-Withdrawn : goal.returns-in-Withdrawn
returns-in-Withdrawn c =
    let proved = c.history_laws.ensures in
    local-writes_two proved _ _ _ _ _ _ c.self.invariant c.self.view_is _ _ _ c.requires _ _ _ _ _ _ _ _ _ _ _ c.in-Withdrawn.ensures (withdraw-goes proved _ _ _ _ _ _ c.self.invariant c.self.view_is _ _ _ c.raised-now.ensures _ c.args.ticket _ c.request-request.ensures c.requires c.in-Withdrawn.ensures) c.write.ensures c.write-in-Withdrawn.ensures

pub write-requires-in-Settled : goal.write-requires-in-Settled
write-requires-in-Settled c =
    let proved = c.history_laws.ensures in
    local-place proved _ _ _ _ _ _ c.self.invariant c.self.view_is _ _ _ c.requires _ _ c.in-Settled.ensures (withdraw-goes proved _ _ _ _ _ _ c.self.invariant c.self.view_is _ _ _ c.raised-now.ensures _ c.args.ticket _ c.request-request.ensures c.requires c.in-Settled.ensures) refl

pub invariant_of-self-in-Settled : goal.invariant_of-self-in-Settled
invariant_of-self-in-Settled c =
    let proved = c.history_laws.ensures in
    local-kept proved _ _ _ _ _ _ c.self.invariant c.self.view_is _ _ _ c.requires _ _ _ _ _ _ c.in-Settled.ensures (withdraw-goes proved _ _ _ _ _ _ c.self.invariant c.self.view_is _ _ _ c.raised-now.ensures _ c.args.ticket _ c.request-request.ensures c.requires c.in-Settled.ensures) (local-place proved _ _ _ _ _ _ c.self.invariant c.self.view_is _ _ _ c.requires _ _ c.in-Settled.ensures (withdraw-goes proved _ _ _ _ _ _ c.self.invariant c.self.view_is _ _ _ c.raised-now.ensures _ c.args.ticket _ c.request-request.ensures c.requires c.in-Settled.ensures) refl) c.write-in-Settled.ensures

pub returns-in-Settled : goal.returns-in-Settled
returns-in-Settled c =
    let proved = c.history_laws.ensures in
    local-writes proved _ _ _ _ _ _ c.self.invariant c.self.view_is _ _ _ c.requires _ _ _ _ _ _ c.in-Settled.ensures (withdraw-goes proved _ _ _ _ _ _ c.self.invariant c.self.view_is _ _ _ c.raised-now.ensures _ c.args.ticket _ c.request-request.ensures c.requires c.in-Settled.ensures) c.write-in-Settled.ensures

pub invariant_of-self-in-NotYet : goal.invariant_of-self-in-NotYet
invariant_of-self-in-NotYet c =
    let proved = c.history_laws.ensures in
    local-keeps proved _ _ _ _ _ _ c.self.invariant c.self.view_is _ _ _ c.requires _ c.in-NotYet.ensures (withdraw-goes proved _ _ _ _ _ _ c.self.invariant c.self.view_is _ _ _ c.raised-now.ensures _ c.args.ticket _ c.request-request.ensures c.requires c.in-NotYet.ensures)

pub returns-in-NotYet : goal.returns-in-NotYet
returns-in-NotYet c =
    let proved = c.history_laws.ensures in
    local-stays proved _ _ _ _ _ _ c.self.invariant c.self.view_is _ _ _ c.requires _ c.in-NotYet.ensures (withdraw-goes proved _ _ _ _ _ _ c.self.invariant c.self.view_is _ _ _ c.raised-now.ensures _ c.args.ticket _ c.request-request.ensures c.requires c.in-NotYet.ensures)
