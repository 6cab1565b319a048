use Rattle.std.proofs.Common.{◌≡◌, ap, map, subst, true, List, ◌∙◌}
use Rattle.std.proofs.lemmas.Result.{IfOk-weaker}
use Rattle.grid_types.specs.Names.{is_node_address}
use Rattle.clap.specs.Words.{Row, found_of, rows_of}
use Rattle.server_words.specs.NodeOptions.{hub_address, node_command}
use Rattle.server_words.proofs.Building.{rows_as, taken_as}
use Rattle.server_words.proofs.node.node_words.Goals as goal

pub returns-clause-fits : goal.returns-clause-fits
returns-clause-fits c =
    let texts = ap (map (λ s. s.now)) c.as_slice.ensures.value ∙ c.in_ok-texts.ensures in
    let rows = rows_as node_command _ c.args.words.now (rows_of (found_of c.in_ok-matches.matches)) texts c.in_ok-matches.ensures.rows in
    IfOk-weaker c.told.result _ _
    (λ w h. (
      taken_as node_command _ c.args.words.now texts c.in_ok-matches.ensures.taken,
      subst (λ (found : List Row). is_node_address (hub_address found) ≡ true) rows h,
    )) c.told.ensures.address
