use Rattle.std.proofs.Common.{refl, arith}
use Rattle.grid_types.specs.Calls.{Reply}
use Rattle.hub_core.specs.declared.answers.Binding.TheVariants as binding
use Rattle.node_client.specs.declared.wants.CarryAnswer.TheVariants as answers
use Rattle.node_client.specs.declared.wants.CarryEnd.TheVariants as ends
use Rattle.node_client.specs.declared.carry.State.TheVariants as states
use Rattle.node_client.specs.Start.{late, node_gone, duplicate, mismatch}
use Rattle.node_client.specs.Carrying.{awaited}
use Rattle.node_client.proofs.HandLemmas.{feeds}
use Rattle.node_client.proofs.StandLemmas.{binding_is, bound_on, closed_on, lacked_on}
use Rattle.node_client.proofs.carry.Carry.bound.Goals as goal

pub returns-in-Bound : goal.returns-in-Bound
unfolding awaited
returns-in-Bound c =
    let was = binding_is c.args.self.now.state c.requires in
    rw c.in-Bound.is (feeds c.args.self.now _ _ states.Binding (states.Done ends.Bound) was refl refl (omega arith) refl
    (λ r place steps at st fits. bound_on c.args.self.now _ _ was refl refl r place steps at st))

pub returns-in-Late : goal.returns-in-Late
unfolding awaited
returns-in-Late c =
    let was = binding_is c.args.self.now.state c.requires in
    let t = c.in-Late.closing in
    rw c.in-Late.is (feeds c.args.self.now c.close.new.self (answers.Bound (binding.Late t)) states.Binding c.close.new.self.state was refl c.close.ensures.fresh c.close.ensures.less c.close.ensures.tokens
    (λ r place steps at st fits. closed_on c.args.self.now c.close.new.self (binding.Late t) (Reply.late t) t was refl (late t) c.close.ensures r place steps at st))

pub returns-in-NodeGone : goal.returns-in-NodeGone
unfolding awaited
returns-in-NodeGone c =
    let was = binding_is c.args.self.now.state c.requires in
    let t = c.in-NodeGone.closing in
    rw c.in-NodeGone.is (feeds c.args.self.now c.close-in-NodeGone.new.self (answers.Bound (binding.NodeGone t)) states.Binding c.close-in-NodeGone.new.self.state was refl c.close-in-NodeGone.ensures.fresh c.close-in-NodeGone.ensures.less c.close-in-NodeGone.ensures.tokens
    (λ r place steps at st fits. closed_on c.args.self.now c.close-in-NodeGone.new.self (binding.NodeGone t) (Reply.node_gone t) t was refl (node_gone t) c.close-in-NodeGone.ensures r place steps at st))

pub returns-in-Duplicate : goal.returns-in-Duplicate
unfolding awaited
returns-in-Duplicate c =
    let was = binding_is c.args.self.now.state c.requires in
    let t = c.in-Duplicate.closing in
    rw c.in-Duplicate.is (feeds c.args.self.now c.close-in-Duplicate.new.self (answers.Bound (binding.Duplicate t)) states.Binding c.close-in-Duplicate.new.self.state was refl c.close-in-Duplicate.ensures.fresh c.close-in-Duplicate.ensures.less c.close-in-Duplicate.ensures.tokens
    (λ r place steps at st fits. closed_on c.args.self.now c.close-in-Duplicate.new.self (binding.Duplicate t) (Reply.duplicate t) t was refl (duplicate t) c.close-in-Duplicate.ensures r place steps at st))

pub returns-in-Mismatch : goal.returns-in-Mismatch
unfolding awaited
returns-in-Mismatch c =
    let was = binding_is c.args.self.now.state c.requires in
    let t = c.in-Mismatch.closing in
    rw c.in-Mismatch.is (feeds c.args.self.now c.close-in-Mismatch.new.self (answers.Bound (binding.Mismatch t)) states.Binding c.close-in-Mismatch.new.self.state was refl c.close-in-Mismatch.ensures.fresh c.close-in-Mismatch.ensures.less c.close-in-Mismatch.ensures.tokens
    (λ r place steps at st fits. closed_on c.args.self.now c.close-in-Mismatch.new.self (binding.Mismatch t) (Reply.mismatch t) t was refl (mismatch t) c.close-in-Mismatch.ensures r place steps at st))

pub returns-in-Memory : goal.returns-in-Memory
unfolding awaited
returns-in-Memory c =
    let was = binding_is c.args.self.now.state c.requires in
    rw c.in-Memory.is (feeds c.args.self.now _ _ states.Binding _ was refl refl (omega arith) refl
    (λ r place steps at st fits. lacked_on c.args.self.now _ c.in-Memory.reservation c.in-Memory.session c.of.result was refl c.of.ensures refl r place steps at st fits))
