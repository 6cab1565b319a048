use Rattle.std.proofs.Common.{refl}
use Rattle.hub_core.proofs.NoteLemmas.{told}
use Rattle.hub_core.proofs.LocalLemmas.{local-writes, local-kept, local-place}
use Rattle.hub_core.proofs.LocalCallLemmas.{failed-goes}
use Rattle.hub_core.proofs.local.LocalHub.counted_fail.Goals as goal

pub write-requires : goal.write-requires
write-requires g c =
    let proved = c.history_laws.ensures in
    local-place proved _ _ _ _ _ _ c.self.invariant c.self.view_is _ _ _ c.requires.may _ _ c.fail-answer.ensures (failed-goes proved _ _ _ _ _ _ c.self.invariant c.self.view_is c.fail-answer.new.self _ _ c.raised-now.ensures c.args.reservation c.args.why _ _ _ _ c.request-request.ensures c.slot-slot.ensures c.requires.may (told c.is_last-last.ensures)) refl

pub invariant_of-self : goal.invariant_of-self
invariant_of-self g c =
    let proved = c.history_laws.ensures in
    local-kept proved _ _ _ _ _ _ c.self.invariant c.self.view_is _ _ _ c.requires.may _ _ _ _ _ _ c.fail-answer.ensures (failed-goes proved _ _ _ _ _ _ c.self.invariant c.self.view_is c.fail-answer.new.self _ _ c.raised-now.ensures c.args.reservation c.args.why _ _ _ _ c.request-request.ensures c.slot-slot.ensures c.requires.may (told c.is_last-last.ensures)) (local-place proved _ _ _ _ _ _ c.self.invariant c.self.view_is _ _ _ c.requires.may _ _ c.fail-answer.ensures (failed-goes proved _ _ _ _ _ _ c.self.invariant c.self.view_is c.fail-answer.new.self _ _ c.raised-now.ensures c.args.reservation c.args.why _ _ _ _ c.request-request.ensures c.slot-slot.ensures c.requires.may (told c.is_last-last.ensures)) refl) c.write.ensures

pub returns : goal.returns
returns g c =
    let proved = c.history_laws.ensures in
    local-writes proved _ _ _ _ _ _ c.self.invariant c.self.view_is _ _ _ c.requires.may _ _ _ _ _ _ c.fail-answer.ensures (failed-goes proved _ _ _ _ _ _ c.self.invariant c.self.view_is c.fail-answer.new.self _ _ c.raised-now.ensures c.args.reservation c.args.why _ _ _ _ c.request-request.ensures c.slot-slot.ensures c.requires.may (told c.is_last-last.ensures)) c.write.ensures
