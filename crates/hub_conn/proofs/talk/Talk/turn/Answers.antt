use Rattle.std.proofs.Common.{◌≡◌, ◌∙◌, Bool, true, refl, sym, ap, subst, List, ◌++◌}
use Rattle.std.specs.Prelude.{Err}
use Rattle.node_client.specs.Held.{Token}
use Rattle.conn_script.specs.declared.turn.Turn.{Turn}
use Rattle.conn_script.specs.declared.turn.Turn.TheVariants as turn
use Rattle.conn_script.specs.declared.wants.ConnFault.TheVariants as faults
use Rattle.conn_script.specs.Responses.{created, hub_spent, bytes_of}
use Rattle.conn_script.specs.Script.{behind_all}
use Rattle.conn_script.specs.Moving.{turn_is_fresh, turn_tokens}
use Rattle.hub_conn.specs.declared.talk.State.TheVariants as states
use Rattle.hub_conn.specs.Talk.{Settles, IsTurned, TurnWrites, of_nothing}
use Rattle.hub_conn.proofs.PassLemmas.{writes_in, go_writes}
use Rattle.hub_conn.proofs.GoLemmas.{goes_on, complete_of, short_none, short_told, broke, broke_now}
use Rattle.hub_conn.proofs.StateLemmas.{settles_in, done_stands, done_settles}
use Rattle.hub_conn.proofs.WorkLemmas.{goes_less, responds_less, undo_less, done_leaves}
use Rattle.hub_conn.proofs.talk.Talk.turn.Goals as goal

pub returns-in-Go-clause-goes : goal.returns-in-Go-clause-goes
returns-in-Go-clause-goes c = λ own bytes steps written y.
    let x = subst (λ (t : Turn). IsTurned c.args.self.now own bytes steps written t) c.in-Go.is y in
    goes_on c.args.self.now _ c.in-Go.run' c.in-Go.short own bytes steps written x refl (record { inbox = refl; read = refl; begins = refl; frames = refl }) refl refl c.either-self.ensures

pub returns-in-Go-clause-settles : goal.returns-in-Go-clause-settles
returns-in-Go-clause-settles c =
    settles_in _ (states.Running c.in-Go.run') of_nothing (turn_tokens c.args.turn) refl
    (subst (λ (t : Turn). turn_is_fresh t ≡ true) c.in-Go.is c.requires.fresh) refl (sym (ap turn_tokens c.in-Go.is)) refl

pub returns-in-Respond-clause-goes : goal.returns-in-Respond-clause-goes
returns-in-Respond-clause-goes c = λ own bytes steps written y.
    let old = c.args.self.now in
    let t = turn.Respond c.in-Respond.bytes in
    let x = subst (λ (z : Turn). IsTurned old own bytes steps written z) c.in-Respond.is y in
    let r = x.turns in
    c.respond.ensures.responds own x.f r.0 bytes steps written
    (complete_of old old t own r.0 bytes steps written x r.1 refl (record { inbox = refl; read = refl; begins = refl; frames = refl }) refl refl
    (short_none old t own bytes steps written x r.5))
    r.2 (sym r.3) (r.4 ∙ ap (λ (b : Bool). bytes_of r.0 b) x.at_front.closes_is)

pub returns-in-Respond-clause-settles : goal.returns-in-Respond-clause-settles
returns-in-Respond-clause-settles c =
    subst (λ (ts : List Token). Settles c.respond.new.self of_nothing ts) (sym (ap turn_tokens c.in-Respond.is)) c.respond.ensures.settles

pub returns-in-RespondLast-clause-goes : goal.returns-in-RespondLast-clause-goes
returns-in-RespondLast-clause-goes c = λ own bytes steps written y.
    let old = c.args.self.now in
    let t = turn.RespondLast c.in-RespondLast.bytes c.in-RespondLast.short in
    let x = subst (λ (z : Turn). IsTurned old own bytes steps written z) c.in-RespondLast.is y in
    let r = x.turns in
    c.respond-in-RespondLast.ensures.responds own x.f hub_spent bytes steps written
    (complete_of old _ t own hub_spent bytes steps written x r.0 refl (record { inbox = refl; read = refl; begins = refl; frames = refl }) refl refl
    (c.either-self-in-RespondLast.ensures ∙ short_told old t c.in-RespondLast.short own bytes steps written x r.2))
    refl refl r.1

pub returns-in-RespondLast-clause-settles : goal.returns-in-RespondLast-clause-settles
returns-in-RespondLast-clause-settles c =
    subst (λ (ts : List Token). Settles c.respond-in-RespondLast.new.self of_nothing ts) (sym (ap turn_tokens c.in-RespondLast.is)) c.respond-in-RespondLast.ensures.settles

pub returns-in-Created-clause-goes : goal.returns-in-Created-clause-goes
returns-in-Created-clause-goes c = λ own bytes steps written y.
    let old = c.args.self.now in
    let t = turn.Created c.in-Created.bytes c.in-Created.session c.in-Created.binding in
    let x = subst (λ (z : Turn). IsTurned old own bytes steps written z) c.in-Created.is y in
    let r = x.turns in
    let response = created c.in-Created.session r.0 c.in-Created.binding in
    c.respond-in-Created.ensures.responds own x.f response bytes steps written
    (complete_of old old t own response bytes steps written x r.1 refl (record { inbox = refl; read = refl; begins = refl; frames = refl }) refl refl
    (short_none old t own bytes steps written x r.3))
    (r.0, refl) refl (r.2 ∙ ap (λ (b : Bool). bytes_of response b) x.at_front.closes_is)

pub returns-in-Created-clause-settles : goal.returns-in-Created-clause-settles
returns-in-Created-clause-settles c =
    subst (λ (ts : List Token). Settles c.respond-in-Created.new.self of_nothing ts) (sym (ap turn_tokens c.in-Created.is)) c.respond-in-Created.ensures.settles

pub returns-in-Undo-clause-goes : goal.returns-in-Undo-clause-goes
returns-in-Undo-clause-goes c = λ own bytes steps written y.
    let old = c.args.self.now in
    let t = turn.Undo c.in-Undo.session c.in-Undo.binding in
    let x = subst (λ (z : Turn). IsTurned old own bytes steps written z) c.in-Undo.is y in
    let r = x.turns in
    c.undo.ensures.ends own bytes steps written (λ undone z.
    broke (λ limits buf more h parts behind w. c.stays.ensures.whole limits buf more h parts behind w)
    (λ limits buf h parts behind w. c.stays.ensures.some limits buf h parts behind w) old t own bytes steps undone written x
    (behind_all (x.mine ++ x.made) undone (created c.in-Undo.session r.0 c.in-Undo.binding) r.1 z))

pub returns-in-Undo-clause-settles : goal.returns-in-Undo-clause-settles
returns-in-Undo-clause-settles c =
    subst (λ (ts : List Token). Settles c.undo.new.self of_nothing ts) (sym (ap turn_tokens c.in-Undo.is)) c.undo.ensures.settles

pub returns-in-Lacks-clause-goes : goal.returns-in-Lacks-clause-goes
returns-in-Lacks-clause-goes c = λ own bytes steps written y.
    let old = c.args.self.now in
    let x = subst (λ (z : Turn). IsTurned old own bytes steps written z) c.in-Lacks.is y in
    done_stands c.fail.new.self (Err faults.Memory) own bytes steps written c.fail.ensures
    (broke_now (λ limits buf more h parts behind w. c.stays.ensures.whole limits buf more h parts behind w)
    (λ limits buf h parts behind w. c.stays.ensures.some limits buf h parts behind w) old turn.Lacks own bytes steps written x x.turns)

pub returns-in-Lacks-clause-settles : goal.returns-in-Lacks-clause-settles
returns-in-Lacks-clause-settles c =
    subst (λ (ts : List Token). Settles c.fail.new.self of_nothing ts) (sym (ap turn_tokens c.in-Lacks.is)) (done_settles c.fail.new.self (Err faults.Memory) c.fail.ensures)

pub returns-in-Go-clause-less : goal.returns-in-Go-clause-less
returns-in-Go-clause-less c = goes_less c.args.self.now _ c.args.turn c.in-Go.run' c.in-Go.short c.in-Go.is refl refl

pub returns-in-Respond-clause-less : goal.returns-in-Respond-clause-less
returns-in-Respond-clause-less c = responds_less c.args.self.now c.respond.new.self c.args.turn c.respond.ensures.less

pub returns-in-RespondLast-clause-less : goal.returns-in-RespondLast-clause-less
returns-in-RespondLast-clause-less c = responds_less c.args.self.now c.respond-in-RespondLast.new.self c.args.turn c.respond-in-RespondLast.ensures.less

pub returns-in-Created-clause-less : goal.returns-in-Created-clause-less
returns-in-Created-clause-less c = responds_less c.args.self.now c.respond-in-Created.new.self c.args.turn c.respond-in-Created.ensures.less

pub returns-in-Undo-clause-less : goal.returns-in-Undo-clause-less
returns-in-Undo-clause-less c = undo_less c.args.self.now c.undo.new.self c.args.turn c.undo.ensures.less

pub returns-in-Lacks-clause-less : goal.returns-in-Lacks-clause-less
returns-in-Lacks-clause-less c = undo_less c.args.self.now c.fail.new.self c.args.turn (done_leaves 4 c.fail.new.self (Err faults.Memory) c.fail.ensures)

pub returns-in-Go-clause-writes : goal.returns-in-Go-clause-writes
returns-in-Go-clause-writes c = go_writes _ c.args.turn c.in-Go.run' c.in-Go.short c.in-Go.is refl

pub returns-in-Respond-clause-writes : goal.returns-in-Respond-clause-writes
returns-in-Respond-clause-writes c = subst (λ (t : Turn). TurnWrites t c.respond.new.self) (sym c.in-Respond.is) c.respond.ensures.writes

pub returns-in-RespondLast-clause-writes : goal.returns-in-RespondLast-clause-writes
returns-in-RespondLast-clause-writes c =
    subst (λ (t : Turn). TurnWrites t c.respond-in-RespondLast.new.self) (sym c.in-RespondLast.is) c.respond-in-RespondLast.ensures.writes

pub returns-in-Created-clause-writes : goal.returns-in-Created-clause-writes
returns-in-Created-clause-writes c =
    subst (λ (t : Turn). TurnWrites t c.respond-in-Created.new.self) (sym c.in-Created.is) c.respond-in-Created.ensures.writes

pub returns-in-Undo-clause-writes : goal.returns-in-Undo-clause-writes
returns-in-Undo-clause-writes c = subst (λ (t : Turn). TurnWrites t c.undo.new.self) (sym c.in-Undo.is) c.undo.ensures.writes

pub returns-in-Lacks-clause-writes : goal.returns-in-Lacks-clause-writes
returns-in-Lacks-clause-writes c =
    subst (λ (t : Turn). TurnWrites t c.fail.new.self) (sym c.in-Lacks.is) (writes_in c.fail.new.self (states.Done (Err faults.Memory)) c.fail.ensures)
