use Rattle.std.proofs.Common.{◌≡◌, ◌||◌, refl, sym, ◌∙◌, arith}
use Rattle.grid_types.specs.declared.entry.FailWhy.TheVariants as why
use Rattle.node_client.specs.declared.wants.CarryAnswer.TheVariants as answers
use Rattle.node_client.specs.declared.carry.State.TheVariants as states
use Rattle.node_client.specs.Steps.{lacked}
use Rattle.node_client.proofs.HandLemmas.{feeds}
use Rattle.node_client.proofs.StandLemmas.{asked_on, returned_on, quit_on, or_then, or_else}
use Rattle.node_client.proofs.carry.Carry.exchanged.Goals as goal
use Rattle.node_client.proofs.carry.Carry.exchanged.Goals.{then-self, else-self}

pub returns-in-Asking : goal.returns-in-Asking
returns-in-Asking c =
    let was = sym c.in-Asking.ensures.value in
    feeds c.args.self.now c.answered.new.self (answers.Node c.args.came) (states.Asking c.in-Asking.reservation c.in-Asking.field-1) c.answered.new.self.state was refl
    c.answered.ensures.fresh c.answered.ensures.less c.answered.ensures.tokens
    (λ r place steps at st fits. asked_on c.args.self.now c.answered.new.self c.in-Asking.reservation c.in-Asking.field-1 c.args.came was c.answered.ensures r place steps at st)

pub returns-in-Returning : goal.returns-in-Returning
returns-in-Returning c =
    let was = sym c.in-Returning.ensures.value in
    feeds c.args.self.now c.give_up.new.self (answers.Node c.args.came) (states.Returning c.in-Returning.reservation c.in-Returning.field-1)
    (states.ToFail c.in-Returning.reservation why.NoMemory) was c.give_up.ensures.state refl (omega arith) refl
    (λ r place steps at st fits. returned_on c.args.self.now c.give_up.new.self c.in-Returning.reservation c.in-Returning.field-1 c.args.came was c.give_up.ensures.state c.give_up.ensures.short
    r place steps at st)

pub returns-after-self : goal.returns-after-self
returns-after-self c =
    let was = sym c.in-Quitting.ensures.value in
    let short_is : c.if-self.self ≡ (c.args.self.now.short || lacked c.args.came) = elim c.if-self.branch [ then-self w ↦ or_then _ _ _ w.self-is w.if-self.true | else-self w ↦ or_else _ _ _ (w.self-is ∙ w.lacked-self.ensures) w.if-self.false ] in
    feeds c.args.self.now _ (answers.Node c.args.came) (states.Quitting c.in-Quitting.closing c.in-Quitting.field-1) (states.ToFree c.in-Quitting.closing) was refl refl (omega arith) refl
    (λ r place steps at st fits. quit_on c.args.self.now _ c.in-Quitting.closing c.in-Quitting.field-1 c.args.came was refl short_is r place steps at st)
