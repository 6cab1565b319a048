use Rattle.std.proofs.Common.{rules, not}
use Rattle.std.proofs.lemmas.Fn.{filter_same}
use Rattle.grid_types.specs.Slots.{slot_eq}
use Rattle.grid_farm.proofs.uses.drop_slot.Goals as goal

pub returns : goal.returns
returns c = filter_same _ (λ row. not (slot_eq row.slot c.args.slot)) _ (λ x b f' k. search rules) _ _ c.retain.ensures.filtered
