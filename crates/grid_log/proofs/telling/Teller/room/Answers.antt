use Rattle.std.proofs.lemmas.Result.{IfOk-weaker}
use Rattle.grid_log.proofs.LineLemmas.{full_told, room_told}
use Rattle.grid_log.proofs.telling.Teller.room.Goals as goal

pub returns-in-false-true : goal.returns-in-false-true
returns-in-false-true c =
    IfOk-weaker c.of_queue-in-false-true.result _ _ (λ bytes h.
    full_told c.args.self.now.form c.args.was c.args.is c.args.count.requests c.args.count.limit c.args.at bytes.items
    c.in-false-true.is-0 c.in-false-true.is-1 h)
    c.of_queue-in-false-true.ensures

pub returns-in-true-false : goal.returns-in-true-false
returns-in-true-false c =
    IfOk-weaker c.of_queue.result _ _ (λ bytes h.
    room_told c.args.self.now.form c.args.was c.args.is c.args.count.requests c.args.count.limit c.args.at bytes.items
    c.in-true-false.is-0 c.in-true-false.is-1 h)
    c.of_queue.ensures
