use Rattle.std.proofs.Common.{refl}
use Rattle.hub_core.proofs.NoteLemmas.{told, untouched}
use Rattle.hub_core.proofs.CoreStartLemmas.{core-bind_lacks}
use Rattle.hub_core.proofs.LocalLemmas.{paid-place, local-silent, local-writes, local-kept, local-place, local-second, local-kept_two, local-writes_two}
use Rattle.hub_core.proofs.LocalCallLemmas.{refused-goes, bound-legal, bound-down, bound-alone, bound-drained}
use Rattle.hub_core.proofs.local.LocalHub.bind_with.Goals as goal
use Rattle.hub_core.proofs.local.LocalHub.bind_with.Goals.{else-up-via-then-up+else-not-is_base_up, else-up-via-else-up}

pub write-requires : goal.write-requires
write-requires g c =
    let proved = c.history_laws.ensures in
    local-place proved _ _ _ _ _ _ c.self.invariant c.self.view_is _ _ _ c.requires _ _ c.bind-answer.ensures.serves (refused-goes proved _ _ _ _ _ _ c.self.invariant c.self.view_is _ _ _ c.raised-now.ensures c.args.reservation c.args.session c.args.caps _ _ _ _ _ _ c.request-request.ensures c.slot-slot.ensures c.requires c.refusal.ensures c.in-Some.is (told c.is_last-last.ensures) c.bind-answer.ensures.serves) refl

pub invariant_of-self : goal.invariant_of-self
invariant_of-self g c =
    let proved = c.history_laws.ensures in
    local-kept proved _ _ _ _ _ _ c.self.invariant c.self.view_is _ _ _ c.requires _ _ _ _ _ _ c.bind-answer.ensures.serves (refused-goes proved _ _ _ _ _ _ c.self.invariant c.self.view_is _ _ _ c.raised-now.ensures c.args.reservation c.args.session c.args.caps _ _ _ _ _ _ c.request-request.ensures c.slot-slot.ensures c.requires c.refusal.ensures c.in-Some.is (told c.is_last-last.ensures) c.bind-answer.ensures.serves)
    (local-place proved _ _ _ _ _ _ c.self.invariant c.self.view_is _ _ _ c.requires _ _ c.bind-answer.ensures.serves (refused-goes proved _ _ _ _ _ _ c.self.invariant c.self.view_is _ _ _ c.raised-now.ensures c.args.reservation c.args.session c.args.caps _ _ _ _ _ _ c.request-request.ensures c.slot-slot.ensures c.requires c.refusal.ensures c.in-Some.is (told c.is_last-last.ensures) c.bind-answer.ensures.serves) refl) c.write.ensures

pub returns-in-Some-clause-serves : goal.returns-in-Some-clause-serves
returns-in-Some-clause-serves g c =
    let proved = c.history_laws.ensures in
    local-writes proved _ _ _ _ _ _ c.self.invariant c.self.view_is _ _ _ c.requires _ _ _ _ _ _ c.bind-answer.ensures.serves (refused-goes proved _ _ _ _ _ _ c.self.invariant c.self.view_is _ _ _ c.raised-now.ensures c.args.reservation c.args.session c.args.caps _ _ _ _ _ _ c.request-request.ensures c.slot-slot.ensures c.requires c.refusal.ensures c.in-Some.is (told c.is_last-last.ensures) c.bind-answer.ensures.serves) c.write.ensures

pub returns-in_default-clone-clause-serves : goal.returns-in_default-clone-clause-serves
returns-in_default-clone-clause-serves g c =
    let proved = c.history_laws.ensures in
    local-silent proved _ _ _ _ _ _ c.self.invariant c.self.view_is _ _ _ c.requires (core-bind_lacks proved _ _ _ c.args.reservation _ c.raised-now.ensures c.args.session c.args.caps _ c.refusal.ensures _ c.in_default.is (untouched _)) refl

pub write-requires-in_default-bind : goal.write-requires-in_default-bind
write-requires-in_default-bind g c =
    let proved = c.history_laws.ensures in
    (paid-place proved _ _ _ _ _ _ c.self.invariant refl (bound-legal proved _ _ _ _ _ _ c.self.invariant c.self.view_is c.bind.new.self _ _ c.raised-now.ensures c.args.reservation c.args.session c.args.caps _ _ _ _ _ c.request-request.ensures c.slot-slot.ensures c.in-Ok.ensures.cases c.requires c.refusal.ensures c.in_default.is c.in_default-bind.not-Memory c.bind.ensures.serves))

pub write-requires-then-not-is_base_up : goal.write-requires-then-not-is_base_up
write-requires-then-not-is_base_up g c =
    let proved = c.history_laws.ensures in
    local-second proved _ _ _ _ _ _ c.self.invariant c.self.view_is _ _ _ c.requires _ _ _ _ _ _ _ c.bind.ensures.serves (bound-drained proved _ _ _ _ _ _ c.self.invariant c.self.view_is c.bind.new.self _ _ c.raised-now.ensures c.args.reservation c.args.session c.args.caps _ _ _ _ _ c.request-request.ensures c.slot-slot.ensures c.in-Ok.ensures.cases c.requires c.refusal.ensures c.in_default.is c.in_default-bind.not-Memory c.bind.ensures.serves _ _ (told c.is_base_up-up.ensures) (told c.is_base_up.ensures) c.if-up.true c.if-not-is_base_up.true)
    refl refl c.write-in_default-bind.ensures

pub invariant_of-self-then-not-is_base_up : goal.invariant_of-self-then-not-is_base_up
invariant_of-self-then-not-is_base_up g c =
    let proved = c.history_laws.ensures in
    local-kept_two proved _ _ _ _ _ _ c.self.invariant c.self.view_is _ _ _ c.requires _ _ _ _ _ _ _ _ _ _ _ c.bind.ensures.serves (bound-drained proved _ _ _ _ _ _ c.self.invariant c.self.view_is c.bind.new.self _ _ c.raised-now.ensures c.args.reservation c.args.session c.args.caps _ _ _ _ _ c.request-request.ensures c.slot-slot.ensures c.in-Ok.ensures.cases c.requires c.refusal.ensures c.in_default.is c.in_default-bind.not-Memory c.bind.ensures.serves _ _ (told c.is_base_up-up.ensures) (told c.is_base_up.ensures) c.if-up.true c.if-not-is_base_up.true)
    refl refl c.write-in_default-bind.ensures c.write-then-not-is_base_up.ensures

pub returns-then-not-is_base_up : goal.returns-then-not-is_base_up
returns-then-not-is_base_up g c =
    let proved = c.history_laws.ensures in
    record {
      serves = local-writes_two proved _ _ _ _ _ _ c.self.invariant c.self.view_is _ _ _ c.requires _ _ _ _ _ _ _ _ _ _ _ c.bind.ensures.serves (bound-drained proved _ _ _ _ _ _ c.self.invariant c.self.view_is c.bind.new.self _ _ c.raised-now.ensures c.args.reservation c.args.session c.args.caps _ _ _ _ _ c.request-request.ensures c.slot-slot.ensures c.in-Ok.ensures.cases c.requires c.refusal.ensures c.in_default.is c.in_default-bind.not-Memory c.bind.ensures.serves _ _ (told c.is_base_up-up.ensures) (told c.is_base_up.ensures) c.if-up.true c.if-not-is_base_up.true)
          c.write-in_default-bind.ensures c.write-then-not-is_base_up.ensures;
      back = c.bind.ensures.back;
    }

pub invariant_of-self-else-not-is_base_up : goal.invariant_of-self-else-not-is_base_up
invariant_of-self-else-not-is_base_up g c =
    let proved = c.history_laws.ensures in
    local-kept proved _ _ _ _ _ _ c.self.invariant c.self.view_is _ _ _ c.requires _ _ _ _ _ _ c.bind.ensures.serves (bound-alone proved _ _ _ _ _ _ c.self.invariant c.self.view_is c.bind.new.self _ _ c.raised-now.ensures c.args.reservation c.args.session c.args.caps _ _ _ _ _ c.request-request.ensures c.slot-slot.ensures c.in-Ok.ensures.cases c.requires c.refusal.ensures c.in_default.is c.in_default-bind.not-Memory c.bind.ensures.serves _ _ (told c.is_base_up-up.ensures) (told c.is_base_up.ensures) c.if-not-is_base_up.false)
    (paid-place proved _ _ _ _ _ _ c.self.invariant refl (bound-legal proved _ _ _ _ _ _ c.self.invariant c.self.view_is c.bind.new.self _ _ c.raised-now.ensures c.args.reservation c.args.session c.args.caps _ _ _ _ _ c.request-request.ensures c.slot-slot.ensures c.in-Ok.ensures.cases c.requires c.refusal.ensures c.in_default.is c.in_default-bind.not-Memory c.bind.ensures.serves)) c.write-in_default-bind.ensures

pub invariant_of-self-else-up : goal.invariant_of-self-else-up
invariant_of-self-else-up g c =
    let proved = c.history_laws.ensures in
    local-kept proved _ _ _ _ _ _ c.self.invariant c.self.view_is _ _ _ c.requires _ _ _ _ _ _ c.bind.ensures.serves (bound-down proved _ _ _ _ _ _ c.self.invariant c.self.view_is c.bind.new.self _ _ c.raised-now.ensures c.args.reservation c.args.session c.args.caps _ _ _ _ _ c.request-request.ensures c.slot-slot.ensures c.in-Ok.ensures.cases c.requires c.refusal.ensures c.in_default.is c.in_default-bind.not-Memory _ (told c.is_base_up-up.ensures) c.if-up.false)
    (paid-place proved _ _ _ _ _ _ c.self.invariant refl (bound-legal proved _ _ _ _ _ _ c.self.invariant c.self.view_is c.bind.new.self _ _ c.raised-now.ensures c.args.reservation c.args.session c.args.caps _ _ _ _ _ c.request-request.ensures c.slot-slot.ensures c.in-Ok.ensures.cases c.requires c.refusal.ensures c.in_default.is c.in_default-bind.not-Memory c.bind.ensures.serves)) c.write-in_default-bind.ensures

pub returns-else-up : goal.returns-else-up
returns-else-up g c =
    let proved = c.history_laws.ensures in
    elim c.else-up.branch [
      | else-up-via-then-up+else-not-is_base_up w ↦ record {
        serves = rw w.self-is (local-writes proved _ _ _ _ _ _ c.self.invariant c.self.view_is _ _ _ c.requires _ _ _ _ _ _ c.bind.ensures.serves (bound-alone proved _ _ _ _ _ _ c.self.invariant c.self.view_is c.bind.new.self _ _ c.raised-now.ensures c.args.reservation c.args.session c.args.caps _ _ _ _ _ c.request-request.ensures c.slot-slot.ensures c.in-Ok.ensures.cases c.requires c.refusal.ensures c.in_default.is c.in_default-bind.not-Memory c.bind.ensures.serves _ _ (told c.is_base_up-up.ensures) (told w.is_base_up.ensures) w.if-not-is_base_up.false) c.write-in_default-bind.ensures);
        back = c.bind.ensures.back;
      }
      | else-up-via-else-up w ↦ record {
        serves = rw w.self-is (local-writes proved _ _ _ _ _ _ c.self.invariant c.self.view_is _ _ _ c.requires _ _ _ _ _ _ c.bind.ensures.serves (bound-down proved _ _ _ _ _ _ c.self.invariant c.self.view_is c.bind.new.self _ _ c.raised-now.ensures c.args.reservation c.args.session c.args.caps _ _ _ _ _ c.request-request.ensures c.slot-slot.ensures c.in-Ok.ensures.cases c.requires c.refusal.ensures c.in_default.is c.in_default-bind.not-Memory _ (told c.is_base_up-up.ensures) w.if-up.false) c.write-in_default-bind.ensures);
        back = c.bind.ensures.back;
      }
    ]
