use Rattle.std.proofs.Common.{refl, arith}
use Rattle.std.specs.Prelude.{Some}
use Rattle.hub_core.proofs.LocalLemmas.{room-place, local-stays, local-keeps, local-writes, local-kept}
use Rattle.hub_core.proofs.LocalCallLemmas.{beat-goes}
use Rattle.hub_core.proofs.local.LocalHub.beat_as.Goals as goal

pub write-requires : goal.write-requires
write-requires c =
    let proved = c.history_laws.ensures in
    room-place proved _ _ _ _ _ _ _ c.self.invariant c.self.view_is c.requires (omega arith)

pub invariant_of-self : goal.invariant_of-self
invariant_of-self c =
    let proved = c.history_laws.ensures in
    local-kept proved _ _ _ _ _ _ c.self.invariant c.self.view_is _ _ _ (record { is_good = refl; is_true = tt }) _ _ _ _ _ _ c.in-Beaten.ensures (beat-goes proved _ _ _ _ _ _ c.self.invariant c.self.view_is _ _ _ c.raised-now.ensures _ _ (Some c.args.name.now) c.in-Beaten.ensures)
    (room-place proved _ _ _ _ _ _ _ c.self.invariant c.self.view_is c.requires (omega arith)) c.write.ensures

pub invariant_of-self-in-NoNode : goal.invariant_of-self-in-NoNode
invariant_of-self-in-NoNode c =
    let proved = c.history_laws.ensures in
    local-keeps proved _ _ _ _ _ _ c.self.invariant c.self.view_is _ _ _ (record { is_good = refl; is_true = tt }) _ c.in-NoNode.ensures (beat-goes proved _ _ _ _ _ _ c.self.invariant c.self.view_is _ _ _ c.raised-now.ensures _ _ (Some c.args.name.now) c.in-NoNode.ensures)

pub returns-in-Beaten : goal.returns-in-Beaten
returns-in-Beaten c =
    let proved = c.history_laws.ensures in
    local-writes proved _ _ _ _ _ _ c.self.invariant c.self.view_is _ _ _ (record { is_good = refl; is_true = tt }) _ _ _ _ _ _ c.in-Beaten.ensures (beat-goes proved _ _ _ _ _ _ c.self.invariant c.self.view_is _ _ _ c.raised-now.ensures _ _ (Some c.args.name.now) c.in-Beaten.ensures) c.write.ensures

pub returns-in-NoNode : goal.returns-in-NoNode
returns-in-NoNode c =
    let proved = c.history_laws.ensures in
    local-stays proved _ _ _ _ _ _ c.self.invariant c.self.view_is _ _ _ (record { is_good = refl; is_true = tt }) _ c.in-NoNode.ensures (beat-goes proved _ _ _ _ _ _ c.self.invariant c.self.view_is _ _ _ c.raised-now.ensures _ _ (Some c.args.name.now) c.in-NoNode.ensures)
