use Rattle.std.proofs.Common.{◌∙◌, refl, sym, subst, Bool}
use Rattle.conn_script.specs.declared.wants.Answer.TheVariants as told
use Rattle.conn_script.specs.Moving.{Moves}
use Rattle.hub_conn.specs.declared.talk.State.TheVariants as states
use Rattle.hub_conn.proofs.AwaitLemmas.{awaits_at, scripts_only}
use Rattle.hub_conn.proofs.FeedLemmas.{running_some, answerable_kept, feeds_turn, feeds_undo}
use Rattle.hub_conn.proofs.talk.Talk.paused.Goals as goal

pub paused-turn-requires : goal.paused-turn-requires
paused-turn-requires c =
    awaits_at c.args.self.now (states.Running c.in-Running.run') told.Paused (sym c.take_state.ensures.taken ∙ c.in-Running.is) c.requires.awaits

pub turn-requires-clause-front : goal.turn-requires-clause-front
turn-requires-clause-front c =
    answerable_kept c.args.self.now c.take_state.new.self c.take_state.ensures.rests
    (running_some c.args.self.now c.in-Running.run' (sym c.take_state.ensures.taken ∙ c.in-Running.is) c.requires.stands)

pub turn-requires-clause-fresh : goal.turn-requires-clause-fresh
turn-requires-clause-fresh c = c.paused-turn.ensures.fresh

pub returns-in-Running : goal.returns-in-Running
returns-in-Running c =
    feeds_turn c.args.self.now c.take_state.new.self c.turn.new.self c.in-Running.run' told.Paused c.paused-turn.result
    (sym c.take_state.ensures.taken ∙ c.in-Running.is)
    (subst (λ (b : Bool). Moves c.in-Running.run' told.Paused b c.paused-turn.result) c.take_state.ensures.rests.closing c.paused-turn.ensures)
    c.take_state.ensures.rests c.turn.ensures.settles c.turn.ensures.goes refl refl (λ w. refl) c.turn.ensures.less c.turn.ensures.writes

pub returns-in-Undoing : goal.returns-in-Undoing
returns-in-Undoing c =
    feeds_undo c.args.self.now c.undone.new.self c.in-Undoing.fault c.in-Undoing.undoing c.paused.result told.Paused
    (sym c.take_state.ensures.taken ∙ c.in-Undoing.is) c.paused.ensures c.undone.ensures.settles c.undone.ensures.undone refl refl (λ w. refl) c.undone.ensures.less

pub paused-requires : goal.paused-requires
paused-requires c =
    awaits_at c.args.self.now (states.Undoing c.in-Undoing.fault c.in-Undoing.undoing) told.Paused (sym c.take_state.ensures.taken ∙ c.in-Undoing.is) c.requires.awaits

pub undone-requires : goal.undone-requires
undone-requires c = c.paused.ensures.fresh

pub unreachable-requires : goal.unreachable-requires
unreachable-requires c =
    scripts_only c.args.self.now told.Paused tt c.requires.awaits (λ r e. c.in_default.not-Running r (c.take_state.ensures.taken ∙ e))
    (λ fault u e. c.in_default.not-Undoing fault u (c.take_state.ensures.taken ∙ e))
