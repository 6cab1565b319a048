use Rattle.std.proofs.Common.{refl}
use Rattle.std.specs.Prelude.{Some}
use Rattle.hub_core.proofs.NoteLemmas.{noted}
use Rattle.hub_core.proofs.NodeCallLemmas.{core-no_beat, core-beaten}
use Rattle.hub_core.proofs.hub.HubCore.beat_as.Goals as goal

pub returns-then-not-is_named : goal.returns-then-not-is_named
returns-then-not-is_named c =
    let proved = c.history_laws.ensures in
    core-no_beat proved _ _ _ (Some c.args.name.now) _ _ c.is_named.ensures c.if-not-is_named.true

pub returns : goal.returns
returns c =
    let proved = c.history_laws.ensures in
    core-beaten proved _ _ _ (Some c.args.name.now) _ _ c.is_named.ensures _ _ c.raised-now.ensures c.if-not-is_named.false (noted refl (c.note_beaten.ensures _))
