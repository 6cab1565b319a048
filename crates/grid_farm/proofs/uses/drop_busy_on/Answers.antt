use Rattle.std.proofs.Common.{rules, not}
use Rattle.std.proofs.lemmas.Fn.{filter_same}
use Rattle.grid_farm.specs.Uses.{is_busy_on}
use Rattle.grid_farm.proofs.uses.drop_busy_on.Goals as goal

pub returns : goal.returns
returns c = filter_same _ (λ row. not (is_busy_on c.args.node row)) _ (λ x b f' k. search rules) _ _ c.retain.ensures.filtered
