use Rattle.std.proofs.Common.{◌∙◌, inr, sym}
use Rattle.conn_script.specs.declared.wants.Answer.TheVariants as told
use Rattle.hub_conn.specs.declared.talk.State.TheVariants as states
use Rattle.hub_conn.proofs.AwaitLemmas.{awaits_at, waits_only}
use Rattle.hub_conn.proofs.FeedLemmas.{feeds_gone}
use Rattle.hub_conn.proofs.talk.Talk.gone.Goals as goal

pub left-requires : goal.left-requires
left-requires c = awaits_at c.args.self.now (states.Running c.in-Running.run') told.Gone (sym c.take_state.ensures.taken ∙ c.in-Running.is) c.requires.awaits

pub undone-requires : goal.undone-requires
undone-requires c = inr c.left.ensures.fresh

pub returns : goal.returns
returns c =
    feeds_gone (λ limits buf more h parts behind x. c.stays.ensures.whole limits buf more h parts behind x) c.args.self.now c.undone.new.self c.in-Running.run' c.left.result
    (sym c.take_state.ensures.taken ∙ c.in-Running.is) c.requires.awaits c.left.ensures c.undone.ensures.settles c.undone.ensures.undone c.undone.ensures.less

pub unreachable-requires : goal.unreachable-requires
unreachable-requires c = waits_only c.args.self.now c.requires.awaits (λ r e. c.in_default.not-Running r (c.take_state.ensures.taken ∙ e))
