use Rattle.std.proofs.Common.{rules, not, nat_eq}
use Rattle.std.proofs.lemmas.Fn.{filter_same}
use Rattle.grid_farm.proofs.uses.drop_node.Goals as goal

pub returns : goal.returns
returns c = filter_same _ (λ other. not (nat_eq other c.args.node)) _ (λ x b f' k. search rules) _ _ c.retain.ensures.filtered
