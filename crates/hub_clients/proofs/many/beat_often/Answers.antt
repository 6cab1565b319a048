use Rattle.std.proofs.Common.{ℕ, ◌+◌, length, ap, subst, ◌∙◌}
use Rattle.std.specs.Prelude.{None, Some}
use Rattle.grid_types.specs.Calls.{Call, Reply}
use Rattle.hub_core.specs.declared.answers.Beating.{Beating}
use Rattle.hub_core.specs.Replies.{beating_reply}
use Rattle.hub_cell.specs.Passes.{knows, config_of}
use Rattle.hub_cell.specs.Shared.{SharedServes}
use Rattle.hub_clients.proofs.BeatLemmas.{beaten-more, same-ended, one-more}
use Rattle.hub_clients.proofs.many.beat_often.Goals as goal

pub loop-preserved : goal.loop-preserved
loop-preserved g c =
    let serves : SharedServes (config_of c.args.hub.now) (knows c.loop.pass) (Call.beat c.args.node None) 0 (Some Reply.beaten) (knows c.beat.new.pass) =
    subst (λ (a : Beating). SharedServes (config_of c.args.hub.now) (knows c.loop.pass) (Call.beat c.args.node None) 0 (beating_reply a) (knows c.beat.new.pass)) c.in-Ok-Beaten.field-0-is c.in-Ok-Beaten.ensures.serves in (
      c.beat.ensures.own,
      beaten-more (config_of c.args.hub.now) (knows c.loop.pass) (knows c.beat.new.pass) c.args.node 0 serves
          ∙ (ap (λ (n : ℕ). n + 1) c.loop.invariant.1 ∙ one-more (length (knows c.args.pass).mine) c.loop.counter),
      same-ended (config_of c.args.hub.now) (knows c.loop.pass) (knows c.beat.new.pass) (Call.beat c.args.node None) 0 (Some Reply.beaten) serves ∙ c.loop.invariant.2,
    )
