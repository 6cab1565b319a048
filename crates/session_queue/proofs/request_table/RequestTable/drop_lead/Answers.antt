use Rattle.std.proofs.Common.{refl, rules}
use Rattle.std.specs.Prelude.{not, nat_eq}
use Rattle.std.proofs.lemmas.Fn.{filter_same}
use Rattle.session_queue.proofs.request_table.RequestTable.drop_lead.Goals as goal

pub returns-clause-leads : goal.returns-clause-leads
returns-clause-leads c = record {
  rest = filter_same _ (λ l. not (nat_eq c.args.request l)) _ (λ x b f' k. search rules) _ _ c.retain.ensures.filtered;
  still = refl;
}
