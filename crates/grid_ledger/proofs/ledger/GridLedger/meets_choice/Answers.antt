use Rattle.std.proofs.Common.{◌≤◌, length}
use Rattle.std.proofs.lemmas.Option.{slice_get_past}
use Rattle.grid_ledger.proofs.FactLemmas.{absent_met}
use Rattle.grid_ledger.proofs.ledger.GridLedger.meets_choice.Goals as goal

pub returns-in-None-get : goal.returns-in-None-get
returns-in-None-get c = record {
  of = λ H s h.
      let past : length c.in-Some.asked.now.choices ≤ c.args.choice = (rw c.items.ensures.items at c.in-None-get.ensures.lookup).3 in
      absent_met c.in-Some.asked.now H c.args.request c.args.choice c.args.caps.now (c.in-Some.ensures.of c.args.self.now.config H s.requests_stand s.is_legal)
      (slice_get_past c.in-Some.asked.now.choices c.args.choice past);
}
