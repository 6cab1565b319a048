use Rattle.std.proofs.Common.{◌∙◌, ap, sym, rules, tests, option_map, ◌&&◌}
use Rattle.std.specs.Ordering.{nat_cmp}
use Rattle.std.specs.BTreeMap.Range.{entries_between}
use Rattle.std.specs.declared.ops.Bound.TheVariants.{Excluded, Unbounded}
use Rattle.std.specs.Map.Iter.{deref_pair}
use Rattle.std.proofs.lemmas.Iterator.Consumers.{YieldsList-from_rest}
use Rattle.std.proofs.lemmas.Iterator.Search.{find_from_yields_List}
use Rattle.grid_types.specs.Requests.{is_waiting}
use Rattle.session_queue.specs.Table.{place_of, is_like}
use Rattle.session_queue.proofs.request_table.leads.first_like.Goals as goal

pub returns-clause-first : goal.returns-clause-first
returns-clause-first c =
    let found = find_from_yields_List (λ e. is_waiting (place_of e.1.stage) && is_like c.args.asked.now e.1) _ _ c.find.result c.find.ensures.ran (YieldsList-from_rest (entries_between nat_cmp (Excluded c.args.after) Unbounded c.args.requests.now.entries) (c.range.ensures.between (search rules))) (λ x b q k. search (rules, tests)) in
    ap (option_map (λ e. e.0)) (ap (option_map deref_pair) (sym c.in_ok-number.was) ∙ found)

pub returns-in_err-number-clause-first : goal.returns-in_err-number-clause-first
returns-in_err-number-clause-first c =
    let found = find_from_yields_List (λ e. is_waiting (place_of e.1.stage) && is_like c.args.asked.now e.1) _ _ c.find.result c.find.ensures.ran (YieldsList-from_rest (entries_between nat_cmp (Excluded c.args.after) Unbounded c.args.requests.now.entries) (c.range.ensures.between (search rules))) (λ x b q k. search (rules, tests)) in
    c.from_residual.ensures ∙ ap (option_map (λ e. e.0)) (ap (option_map deref_pair) (sym c.in_err-number.was) ∙ found)
