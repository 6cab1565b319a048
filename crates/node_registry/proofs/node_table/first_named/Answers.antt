use Rattle.std.proofs.Common.{◌∙◌, ap, sym, rules, tests, option_map}
use Rattle.std.specs.Map.Iter.{deref_pair}
use Rattle.std.proofs.lemmas.Iterator.Consumers.{YieldsList-from_rest}
use Rattle.std.proofs.lemmas.Iterator.Search.{find_from_yields_List}
use Rattle.node_registry.specs.Table.{is_row_named}
use Rattle.node_registry.proofs.node_table.first_named.Goals as goal

pub returns : goal.returns
returns c =
    let found = find_from_yields_List (is_row_named c.args.name.now) _ _ c.find.result c.find.ensures.ran (YieldsList-from_rest c.args.nodes.now.entries c.iter.ensures.rest) (λ x b q k. search (rules, tests)) in
    ap (option_map (λ e. e.0)) (ap (option_map deref_pair) (sym c.in_ok-node.was) ∙ found)

pub returns-in_err-node : goal.returns-in_err-node
returns-in_err-node c =
    let found = find_from_yields_List (is_row_named c.args.name.now) _ _ c.find.result c.find.ensures.ran (YieldsList-from_rest c.args.nodes.now.entries c.iter.ensures.rest) (λ x b q k. search (rules, tests)) in
    c.from_residual.ensures ∙ ap (option_map (λ e. e.0)) (ap (option_map deref_pair) (sym c.in_err-node.was) ∙ found)
