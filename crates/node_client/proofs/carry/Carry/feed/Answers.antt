use Rattle.std.proofs.Common.{refl, ap, ◌∙◌, arith, Some}
use Rattle.node_client.specs.declared.wants.CarryAnswer.{CarryAnswer}
use Rattle.node_client.specs.declared.wants.CarryEnd.TheVariants as ends
use Rattle.node_client.specs.declared.carry.State.TheVariants as states
use Rattle.node_client.specs.Carrying.{awaited, kind_of}
use Rattle.node_client.proofs.HandLemmas.{feeds}
use Rattle.node_client.proofs.StandLemmas.{failing_is, freeing_is, failed_on, freed_on}
use Rattle.node_client.proofs.carry.Carry.feed.Goals as goal

pub returns-in-Failed : goal.returns-in-Failed
unfolding awaited
returns-in-Failed c =
    let was = failing_is c.args.self.now.state (c.requires ∙ ap (λ (a : CarryAnswer). Some (kind_of a)) c.in-Failed.is) in
    rw c.in-Failed.is (feeds c.args.self.now _ _ states.Failing (states.Done ends.NotBound) was refl refl (omega arith) refl
    (λ r place steps at st fits. failed_on c.args.self.now _ _ was refl refl r place steps at st))

pub returns-in-Freed : goal.returns-in-Freed
unfolding awaited
returns-in-Freed c =
    let was = freeing_is c.args.self.now.state (c.requires ∙ ap (λ (a : CarryAnswer). Some (kind_of a)) c.in-Freed.is) in
    rw c.in-Freed.is (feeds c.args.self.now _ _ states.Freeing (states.Done ends.NotBound) was refl refl (omega arith) refl
    (λ r place steps at st fits. freed_on c.args.self.now _ was refl refl r place steps at st))
