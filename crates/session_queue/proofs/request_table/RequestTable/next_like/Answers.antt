use Rattle.std.proofs.Common.{sym}
use Rattle.session_queue.proofs.FirstLemmas.{finds-like}
use Rattle.session_queue.proofs.request_table.RequestTable.next_like.Goals as goal

pub returns-in-Some : goal.returns-in-Some
returns-in-Some c =
    let proved = c.queue_laws.ensures in
    finds-like proved c.args.self.now c.args.request c.in-Some.asked.now _ (sym c.in-Some.ensures) c.first_like.ensures.ordered c.first_like.ensures.first
