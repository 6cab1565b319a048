use Rattle.std.proofs.Common.{◌∙◌, ap, sym}
use Rattle.node_client.specs.Asks.{session_path, with_path}
use Rattle.node_client.proofs.QuitLemmas.{asks_none, asks_once}
use Rattle.node_client.proofs.quitting.ask_to_end.Goals as goal

pub returns-then-quit : goal.returns-then-quit
returns-then-quit g c =
    let ask = c.quit_request.ensures ∙ ap with_path (c.as_bytes.ensures ∙ (c.of-path.ensures ∙ ap session_path c.session.ensures)) in
    asks_once g.N.NodeLink.gives c.args.closing.now _ _ c.exchange-came.result c.was_sent.result c.args.nodes.now c.exchange-came.new.self (sym c.quit.ensures ∙ c.if-quit.true)
    c.address.ensures ask c.was_sent.ensures c.exchange-came.ensures.gives

pub returns : goal.returns
returns g c = asks_none g.N.NodeLink.gives c.args.closing.now c.args.nodes.now (sym c.quit.ensures ∙ c.if-quit.false)
