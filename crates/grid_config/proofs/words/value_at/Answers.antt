use Rattle.std.proofs.Common.{◌≡◌, Some, None, Bor, option_map, sym, ap, ◌∙◌}
use Rattle.std.specs.Prelude.{option_and_then}
use Rattle.toml.specs.Data.{get, get_member}
use Rattle.toml.specs.View.{table_view, view}
use Rattle.toml.specs.declared.value.Value.{Value}
use Rattle.toml.proofs.Views.{table_get}
use Rattle.grid_config.proofs.words.value_at.Goals as goal

pub returns-in-Some : goal.returns-in-Some
returns-in-Some c =
    let name = c.args.section.now in
    let key = c.args.key.now in
    let all = table_view c.args.document.now in
    let found : option_map (λ (x : Bor Value). view x.now) c.get.result ≡ get_member name all = table_get c.get.result name c.args.document.now.entries c.get.ensures.value in
    let there : Some (view c.in-Some.value.now) ≡ get_member name all = ap (option_map (λ (x : Bor Value). view x.now)) (sym c.in-Some.is) ∙ found in
    c.get-in-Some.ensures ∙ ap (option_and_then (get key)) there

pub returns-in-None : goal.returns-in-None
returns-in-None c =
    let name = c.args.section.now in
    let key = c.args.key.now in
    let all = table_view c.args.document.now in
    let found : option_map (λ (x : Bor Value). view x.now) c.get.result ≡ get_member name all = table_get c.get.result name c.args.document.now.entries c.get.ensures.value in
    let none : None ≡ get_member name all = ap (option_map (λ (x : Bor Value). view x.now)) (sym c.in-None.is) ∙ found in
    ap (option_and_then (get key)) none
