use Rattle.std.proofs.Common.{◌≡◌, List, ◌++◌, ◌∙◌, refl, ap, subst}
use Rattle.std.specs.Prelude.{ℕ, IfOk, codes, decimal}
use Rattle.grid_types.specs.Calls.{Reply}
use Rattle.wd_bodies.specs.declared.code.ErrorCode.TheVariants as code
use Rattle.conn_script.specs.Responses.{success, failure, bytes_of}
use Rattle.conn_script.proofs.TurnLemmas.{responds}
use Rattle.hub_core.specs.Replies.{registering_reply}
use Rattle.conn_script.specs.Messages.{register_response, numbers_are_spent}
use Rattle.conn_script.proofs.responses.registered.Goals as goal

pub returns-in_ok-value-in-Registered : goal.returns-in_ok-value-in-Registered
returns-in_ok-value-in-Registered c =
    responds (registering_reply c.args.answer.now) register_response (Reply.registered c.in-Registered.node) (success (codes "{\"node\":" ++ (decimal c.in-Registered.node ++ codes "}"))) c.args.close c.success.result (ap registering_reply c.in-Registered.is) refl
    (subst (λ (m : List ℕ). IfOk c.success.result (λ b. b ≡ bytes_of (success m) c.args.close)) (c.as_str.ensures.value ∙ c.in_ok-value-in-Registered.ensures.ok) c.success.ensures)

pub returns-in_ok-message-in-NameTaken : goal.returns-in_ok-message-in-NameTaken
returns-in_ok-message-in-NameTaken c =
    responds (registering_reply c.args.answer.now) register_response (Reply.name_taken c.in-NameTaken.node) (failure code.InvalidArgument (codes "name is taken by node " ++ decimal c.in-NameTaken.node)) c.args.close c.failure.result (ap registering_reply c.in-NameTaken.is) refl
    (subst (λ (m : List ℕ). IfOk c.failure.result (λ b. b ≡ bytes_of (failure code.InvalidArgument m) c.args.close)) (c.as_str-in-NameTaken.ensures.value ∙ c.in_ok-message-in-NameTaken.ensures.ok) c.failure.ensures)

pub returns-in_ok-message-in-NodesFull : goal.returns-in_ok-message-in-NodesFull
returns-in_ok-message-in-NodesFull c =
    responds (registering_reply c.args.answer.now) register_response (Reply.nodes_full c.in-NodesFull.listed) (failure code.UnknownError (decimal c.in-NodesFull.listed ++ codes " nodes are listed")) c.args.close c.failure-in-NodesFull.result (ap registering_reply c.in-NodesFull.is) refl
    (subst (λ (m : List ℕ). IfOk c.failure-in-NodesFull.result (λ b. b ≡ bytes_of (failure code.UnknownError m) c.args.close)) (c.as_str-in-NodesFull.ensures.value ∙ c.in_ok-message-in-NodesFull.ensures.ok) c.failure-in-NodesFull.ensures)

pub returns-in-NumbersSpent : goal.returns-in-NumbersSpent
returns-in-NumbersSpent c = responds (registering_reply c.args.answer.now) register_response Reply.numbers_spent numbers_are_spent c.args.close c.numbers_are_spent.result (ap registering_reply c.in-NumbersSpent.is) refl c.numbers_are_spent.ensures
