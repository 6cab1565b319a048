use Rattle.std.proofs.Common.{rules, not}
use Rattle.std.proofs.lemmas.Fn.{filter_same}
use Rattle.grid_log.specs.Past.{is_of_request}
use Rattle.grid_log.proofs.recall.drop_request.Goals as goal

pub returns : goal.returns
returns c = filter_same _ (λ row. not (is_of_request c.args.request row)) _ (λ x b f' k. search rules) _ _ c.retain.ensures.filtered
