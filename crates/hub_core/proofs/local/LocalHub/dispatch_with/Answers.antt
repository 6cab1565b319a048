use Rattle.std.proofs.Common.{refl, arith, ◌∙◌}
use Rattle.hub_core.proofs.NoteLemmas.{kept, told, untouched}
use Rattle.hub_core.proofs.CoreDispatchLemmas.{found-is, core-dispatch_nothing, core-dispatch_lacks}
use Rattle.hub_core.proofs.EntriesLemmas.{dispatched-none}
use Rattle.hub_core.proofs.LocalLemmas.{kept-within, grown-kept, grown-view, made-place, local-stays, local-keeps, local-writes, local-kept}
use Rattle.hub_core.proofs.LocalCallLemmas.{dispatch-goes}
use Rattle.hub_core.proofs.local.LocalHub.dispatch_with.Goals as goal

pub returns-in_default : goal.returns-in_default
returns-in_default g c =
    let proved = c.history_laws.ensures in
    local-stays proved _ _ _ _ _ _ c.self.invariant c.self.view_is _ _ _ (record { is_good = refl; is_true = tt }) _ (core-dispatch_nothing proved _ _ _ _ c.raised-now.ensures _ (told (found-is c.in_default.is c.next_assignment.ensures.answer)) (kept refl (c.search_ended.ensures (found-is c.in_default.is c.next_assignment.ensures.answer))))
    (dispatch-goes proved _ _ _ _ _ _ c.self.invariant c.self.view_is _ _ _ c.raised-now.ensures _ (core-dispatch_nothing proved _ _ _ _ c.raised-now.ensures _ (told (found-is c.in_default.is c.next_assignment.ensures.answer)) (kept refl (c.search_ended.ensures (found-is c.in_default.is c.next_assignment.ensures.answer)))))

pub invariant_of-self : goal.invariant_of-self
invariant_of-self g c =
    let proved = c.history_laws.ensures in
    local-keeps proved _ _ _ _ _ _ c.self.invariant c.self.view_is _ _ _ (record { is_good = refl; is_true = tt }) _ (core-dispatch_nothing proved _ _ _ _ c.raised-now.ensures _ (told (found-is c.in_default.is c.next_assignment.ensures.answer)) (kept refl (c.search_ended.ensures (found-is c.in_default.is c.next_assignment.ensures.answer))))
    (dispatch-goes proved _ _ _ _ _ _ c.self.invariant c.self.view_is _ _ _ c.raised-now.ensures _ (core-dispatch_nothing proved _ _ _ _ c.raised-now.ensures _ (told (found-is c.in_default.is c.next_assignment.ensures.answer)) (kept refl (c.search_ended.ensures (found-is c.in_default.is c.next_assignment.ensures.answer)))))

pub make_places-requires : goal.make_places-requires
make_places-requires g c =
    let proved = c.history_laws.ensures in
    kept-within proved _ _ _ _ _ c.self.invariant

pub invariant_of-self-in_default-make_places : goal.invariant_of-self-in_default-make_places
invariant_of-self-in_default-make_places g c = (grown-kept _ _ _ _ _ _ _ _ _ c.self.invariant c.make_places.ensures.grown)

pub returns-in_default-make_places : goal.returns-in_default-make_places
returns-in_default-make_places g c =
    let proved = c.history_laws.ensures in
    local-stays proved _ _ _ _ _ _ (grown-kept _ _ _ _ _ _ _ _ _ c.self.invariant c.make_places.ensures.grown) (grown-view _ _ _ _ _ _ _ _ _ _ c.self.view_is c.make_places.ensures.grown) _ _ _ (record { is_good = refl; is_true = tt }) _ (core-dispatch_lacks proved _ _ _ _ c.raised-now.ensures _ _ (told (found-is c.in-Some.is c.next_assignment.ensures.answer)) (untouched _)) refl

pub write-requires : goal.write-requires
write-requires g c =
    let proved = c.history_laws.ensures in
    made-place proved _ _ _ _ _ _ _ (grown-kept _ _ _ _ _ _ _ _ _ c.self.invariant c.make_places.ensures.grown) c.in-Ok.ensures.ok (rw c.reserved.ensures (omega arith))

pub invariant_of-self-in-Assigned : goal.invariant_of-self-in-Assigned
invariant_of-self-in-Assigned g c =
    let proved = c.history_laws.ensures in
    local-kept proved _ _ _ _ _ _ (grown-kept _ _ _ _ _ _ _ _ _ c.self.invariant c.make_places.ensures.grown) (grown-view _ _ _ _ _ _ _ _ _ _ c.self.view_is c.make_places.ensures.grown) _ _ _ (record { is_good = refl; is_true = tt }) _ _ _ _ _ _ c.in-Assigned.ensures.serves (dispatch-goes proved _ _ _ _ _ _ (grown-kept _ _ _ _ _ _ _ _ _ c.self.invariant c.make_places.ensures.grown) (grown-view _ _ _ _ _ _ _ _ _ _ c.self.view_is c.make_places.ensures.grown) _ _ _ c.raised-now.ensures _ c.in-Assigned.ensures.serves)
    (made-place proved _ _ _ _ _ _ _ (grown-kept _ _ _ _ _ _ _ _ _ c.self.invariant c.make_places.ensures.grown) c.in-Ok.ensures.ok (omega arith)) (rw c.reserved.ensures at c.write.ensures)

pub invariant_of-self-in_default-dispatch : goal.invariant_of-self-in_default-dispatch
invariant_of-self-in_default-dispatch g c =
    let proved = c.history_laws.ensures in
    local-keeps proved _ _ _ _ _ _ (grown-kept _ _ _ _ _ _ _ _ _ c.self.invariant c.make_places.ensures.grown) (grown-view _ _ _ _ _ _ _ _ _ _ c.self.view_is c.make_places.ensures.grown) _ _ _ (record { is_good = refl; is_true = tt }) _ c.dispatch.ensures.serves (dispatch-goes proved _ _ _ _ _ _ (grown-kept _ _ _ _ _ _ _ _ _ c.self.invariant c.make_places.ensures.grown) (grown-view _ _ _ _ _ _ _ _ _ _ c.self.view_is c.make_places.ensures.grown) _ _ _ c.raised-now.ensures _ c.dispatch.ensures.serves ∙ dispatched-none _ _ _ _ c.in_default-dispatch.not-Assigned)

pub returns-in-Assigned : goal.returns-in-Assigned
returns-in-Assigned g c =
    let proved = c.history_laws.ensures in
    local-writes proved _ _ _ _ _ _ (grown-kept _ _ _ _ _ _ _ _ _ c.self.invariant c.make_places.ensures.grown) (grown-view _ _ _ _ _ _ _ _ _ _ c.self.view_is c.make_places.ensures.grown) _ _ _ (record { is_good = refl; is_true = tt }) _ _ _ _ _ _ c.in-Assigned.ensures.serves (dispatch-goes proved _ _ _ _ _ _ (grown-kept _ _ _ _ _ _ _ _ _ c.self.invariant c.make_places.ensures.grown) (grown-view _ _ _ _ _ _ _ _ _ _ c.self.view_is c.make_places.ensures.grown) _ _ _ c.raised-now.ensures _ c.in-Assigned.ensures.serves) (rw c.reserved.ensures at c.write.ensures)

pub returns-in_default-dispatch : goal.returns-in_default-dispatch
returns-in_default-dispatch g c =
    let proved = c.history_laws.ensures in
    local-stays proved _ _ _ _ _ _ (grown-kept _ _ _ _ _ _ _ _ _ c.self.invariant c.make_places.ensures.grown) (grown-view _ _ _ _ _ _ _ _ _ _ c.self.view_is c.make_places.ensures.grown) _ _ _ (record { is_good = refl; is_true = tt }) _ c.dispatch.ensures.serves (dispatch-goes proved _ _ _ _ _ _ (grown-kept _ _ _ _ _ _ _ _ _ c.self.invariant c.make_places.ensures.grown) (grown-view _ _ _ _ _ _ _ _ _ _ c.self.view_is c.make_places.ensures.grown) _ _ _ c.raised-now.ensures _ c.dispatch.ensures.serves ∙ dispatched-none _ _ _ _ c.in_default-dispatch.not-Assigned)
