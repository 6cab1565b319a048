use Rattle.std.proofs.Common.{◌∙◌, refl, sym}
use Rattle.hub_conn.specs.declared.talk.State.TheVariants as states
use Rattle.hub_conn.proofs.TalkLemmas.{takes_run, takes_undo, held_at, held_only}
use Rattle.hub_conn.proofs.talk.Talk.hub_call.Goals as goal

pub take-call-requires : goal.take-call-requires
take-call-requires c = held_at c.args.self.now (states.Running c.in-Running.run') (sym c.take_state.ensures.taken ∙ c.in-Running.is) c.requires

pub take-call-requires-in-Undoing : goal.take-call-requires-in-Undoing
take-call-requires-in-Undoing c = held_at c.args.self.now (states.Undoing c.in-Undoing.fault c.in-Undoing.undoing) (sym c.take_state.ensures.taken ∙ c.in-Undoing.is) c.requires

pub unreachable-requires : goal.unreachable-requires
unreachable-requires c =
    held_only c.args.self.now c.requires (λ r e. c.in_default.not-Running r (c.take_state.ensures.taken ∙ e)) (λ fault u e. c.in_default.not-Undoing fault u (c.take_state.ensures.taken ∙ e))

pub returns-in-Running : goal.returns-in-Running
returns-in-Running c =
    let rests = c.take_state.ensures.rests in
    takes_run c.args.self.now _ c.in-Running.run' c.take-call.result.1 c.take-call.result.0 (sym c.take_state.ensures.taken ∙ c.in-Running.is) c.take-call.ensures refl (record {
      same = record { inbox = rests.same.inbox; read = rests.same.read; begins = rests.same.begins; frames = rests.same.frames };
      short = rests.short;
      continued = rests.continued;
      closing = rests.closing;
    })

pub returns-in-Undoing : goal.returns-in-Undoing
returns-in-Undoing c =
    takes_undo c.args.self.now _ c.in-Undoing.fault c.in-Undoing.undoing c.take-call-in-Undoing.result.1 c.take-call-in-Undoing.result.0
    (sym c.take_state.ensures.taken ∙ c.in-Undoing.is) c.take-call-in-Undoing.ensures refl
