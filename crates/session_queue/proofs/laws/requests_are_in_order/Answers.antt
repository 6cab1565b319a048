use Rattle.session_queue.proofs.AscendingLemmas.{find-least, requests-ascend}
use Rattle.session_queue.proofs.LeadLemmas.{apart-two}
use Rattle.session_queue.proofs.laws.requests_are_in_order.Goals as goal

pub returns : goal.returns
returns c =
    let proved = c.queue_laws.ensures in
    record {
      find-least = find-least;
      requests-ascend = requests-ascend proved;
      apart-two = apart-two proved;
    }
