use Rattle.std.proofs.Common.{◌∙◌, Bool, refl, sym, subst, []}
use Rattle.hub_conn.specs.Conversation.{Waits}
use Rattle.hub_conn.specs.declared.talk.State.TheVariants as states
use Rattle.hub_conn.specs.Talk.{of_nothing}
use Rattle.hub_conn.proofs.LookLemmas.{look_waits, read_on_from, due_waits, due_none}
use Rattle.hub_conn.proofs.StateLemmas.{settles_in}
use Rattle.hub_conn.specs.Work.{bytes_left}
use Rattle.hub_conn.proofs.WorkLemmas.{due_leaves, look_leaves}
use Rattle.hub_conn.proofs.talk.Talk.look_first.Goals as goal

pub returns-then-is_due-clause-looks : goal.returns-then-is_due-clause-looks
returns-then-is_due-clause-looks c =
    let old = c.args.self.now in
    let due = sym c.is_due.ensures ∙ c.if-is_due.true in
    look_waits old old _ refl (record { inbox = refl; read = refl; begins = refl; frames = refl }) refl (due_none c.waits-waits.result old.continued due) refl refl refl
    (λ bytes x. x) (λ bytes x. subst (λ (b : Bool). Waits bytes b) (due_waits c.waits-waits.result old.continued due) (c.waits-waits.ensures c.requires.filled bytes x))

pub returns-then-is_due-clause-settles : goal.returns-then-is_due-clause-settles
returns-then-is_due-clause-settles c = settles_in _ (states.Continuing 0) of_nothing [] refl refl refl refl refl

pub returns-else-is_due-clause-looks : goal.returns-else-is_due-clause-looks
returns-else-is_due-clause-looks c = λ own bytes steps written x.
    let old = c.args.self.now in
    c.look_on.ensures.looks own bytes x.rest steps written
    (read_on_from old old c.waits-waits.result own bytes steps written x refl refl refl refl refl (λ rest y. y) (λ rest y. c.waits-waits.ensures c.requires.filled rest y)
    (sym c.is_due.ensures ∙ c.if-is_due.false))

pub returns-then-is_due-clause-less : goal.returns-then-is_due-clause-less
returns-then-is_due-clause-less c = due_leaves c.args.self.now.continued _ (due_none c.waits-waits.result c.args.self.now.continued (sym c.is_due.ensures ∙ c.if-is_due.true)) refl

pub returns-else-is_due-clause-less : goal.returns-else-is_due-clause-less
returns-else-is_due-clause-less c = look_leaves c.args.self.now.continued (bytes_left c.args.self.now) c.look_on.new.self c.look_on.ensures.less
