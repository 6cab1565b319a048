use Rattle.std.proofs.Common.{◌∙◌, ap, sym}
use Rattle.node_client.specs.Asks.{session_path, with_path}
use Rattle.grid_keeper.proofs.QuitLemmas.{quits_one}
use Rattle.grid_keeper.proofs.settling.ask_to_end.Goals as goal

pub returns-then-quit : goal.returns-then-quit
returns-then-quit g c =
    let ask = c.quit_request.ensures ∙ ap with_path (c.as_bytes.ensures ∙ (c.of-path.ensures ∙ ap session_path c.session.ensures)) in
    quits_one g.N.NodeLink.gives c.args.closing.now _ _ c.exchange-came.result c.args.nodes.now c.exchange-came.new.self (sym c.quit.ensures ∙ c.if-quit.true)
    c.address.ensures ask c.exchange-came.ensures.gives
