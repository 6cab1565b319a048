use Rattle.std.proofs.Common.{rules}
use Rattle.std.proofs.lemmas.Fn.{filter_same}
use Rattle.grid_farm.specs.Hours.{is_within_hour}
use Rattle.grid_farm.proofs.hour.drop_old.Goals as goal

pub returns : goal.returns
returns c = filter_same _ (is_within_hour c.args.minute) _ (λ x b f' k. search rules) _ _ c.retain.ensures.filtered
