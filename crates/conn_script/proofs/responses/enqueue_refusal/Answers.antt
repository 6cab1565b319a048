use Rattle.std.proofs.Common.{◌≡◌, List, ◌++◌, ◌∙◌, refl, ap, subst}
use Rattle.std.specs.Prelude.{ℕ, IfOk, codes, decimal}
use Rattle.grid_types.specs.Calls.{Reply}
use Rattle.wd_bodies.specs.declared.code.ErrorCode.TheVariants as code
use Rattle.conn_script.specs.Responses.{failure, bytes_of}
use Rattle.hub_core.specs.Replies.{enqueued_reply}
use Rattle.conn_script.specs.Messages.{enqueue_refusal, numbers_are_spent}
use Rattle.conn_script.proofs.TurnLemmas.{responds}
use Rattle.conn_script.proofs.responses.enqueue_refusal.Goals as goal

pub returns-in-NumbersSpent : goal.returns-in-NumbersSpent
returns-in-NumbersSpent c = responds (enqueued_reply c.args.answer.now) enqueue_refusal Reply.numbers_spent numbers_are_spent c.args.close c.numbers_are_spent.result (ap enqueued_reply c.in-NumbersSpent.is) refl c.numbers_are_spent.ensures

pub returns-in-Unsupported : goal.returns-in-Unsupported
returns-in-Unsupported c = responds (enqueued_reply c.args.answer.now) enqueue_refusal Reply.unsupported (failure code.SessionNotCreated (codes "no registered slot matches")) c.args.close c.failure.result (ap enqueued_reply c.in-Unsupported.is) refl c.failure.ensures

pub returns-in_ok-message-in-QueueFull : goal.returns-in_ok-message-in-QueueFull
returns-in_ok-message-in-QueueFull c =
    responds (enqueued_reply c.args.answer.now) enqueue_refusal (Reply.queue_full c.in-QueueFull.count c.in-QueueFull.bytes)
    (failure code.SessionNotCreated (codes "queue is full: " ++ (decimal c.in-QueueFull.count ++ (codes " requests, " ++ (decimal c.in-QueueFull.bytes ++ codes " bytes"))))) c.args.close
    c.failure-in-QueueFull.result (ap enqueued_reply c.in-QueueFull.is) refl
    (subst (λ (m : List ℕ). IfOk c.failure-in-QueueFull.result (λ b. b ≡ bytes_of (failure code.SessionNotCreated m) c.args.close)) (c.as_str.ensures.value ∙ c.in_ok-message-in-QueueFull.ensures.ok) c.failure-in-QueueFull.ensures)
