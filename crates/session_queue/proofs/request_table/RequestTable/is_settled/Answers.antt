use Rattle.std.proofs.Common.{sym, ◌∙◌, ap}
use Rattle.std.specs.Prelude.{not}
use Rattle.grid_types.specs.Requests.{Place, is_unsettled}
use Rattle.session_queue.proofs.SettledLemmas.{settled_place, settled_gone}
use Rattle.session_queue.proofs.request_table.RequestTable.is_settled.Goals as goal

pub returns-in-Some : goal.returns-in-Some
returns-in-Some c =
    let proved = c.queue_laws.ensures in
    record {
      of = λ d H s l slot h. ap not c.is_unsettled.ensures
          ∙ (ap (λ (p : Place). not (is_unsettled p)) (c.in-Some.ensures.of d H s l).stands_at ∙ sym (settled_place proved d H slot c.args.request l h));
    }

pub returns-in-None : goal.returns-in-None
returns-in-None c =
    let proved = c.queue_laws.ensures in
    record {
      of = λ d H s l slot h. sym (settled_gone proved d H slot c.args.request l h (c.in-None.ensures.of d H s l));
    }
