use Rattle.std.proofs.Common.{sym}
use Rattle.session_queue.proofs.FirstLemmas.{finds-in_time, gone-in_time}
use Rattle.session_queue.proofs.request_table.RequestTable.in_time_of.Goals as goal

pub returns-in-Some : goal.returns-in-Some
returns-in-Some c =
    let proved = c.queue_laws.ensures in
    record {
      of = λ d H st l wait. finds-in_time proved c.args.self.now H c.args.lead c.args.at.0 c.in-Some.asked.now _ (sym c.in-Some.ensures) c.first_in_time.ensures.ordered st wait c.first_in_time.ensures.first;
    }

pub returns-in-None : goal.returns-in-None
returns-in-None c = record { of = λ d H st l wait. gone-in_time c.args.self.now H c.args.lead st (sym c.in-None.ensures) wait }
