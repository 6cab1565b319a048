use Rattle.std.proofs.Common.{◌≡◌, true, not, sym, ap, ◌∙◌}
use Rattle.slot_select.specs.declared.choice.NodeFacts.{NodeFacts}
use Rattle.slot_select.specs.Select.{is_behind}
use Rattle.slot_select.proofs.PlaceLemmas.{kept-behind}
use Rattle.slot_select.proofs.choice.is_behind.Goals as goal

pub returns-in-Some-clause-kept : goal.returns-in-Some-clause-kept
returns-in-Some-clause-kept c = λ yes wanted row same.
    let behind : is_behind c.args.facts c.args.best ≡ true = ap (is_behind c.args.facts) c.in-Some.is ∙ ap not (sym c.comes_before.ensures) ∙ yes in
    sym (kept-behind wanted c.args.best row (ap (λ (facts : NodeFacts). is_behind facts c.args.best) same ∙ behind))
