use Rattle.std.proofs.Common.{◌∙◌, ap, refl, subst, sym}
use Rattle.std.specs.Prelude.{List, Some, ℕ}
use Rattle.grid_outside.specs.declared.exchange.Ask.{Ask}
use Rattle.grid_outside.specs.Exchanges.{ask_of}
use Rattle.node_client.specs.Asks.{session_path, with_path}
use Rattle.hub_workers.proofs.tick_steps.begin_to_end.Goals as goal

pub returns-then-quit-clause-begins : goal.returns-then-quit-clause-begins
returns-then-quit-clause-begins g c =
    let ask = c.quit_request.ensures ∙ ap with_path (c.as_bytes.ensures ∙ (c.of-path.ensures ∙ ap session_path c.session.ensures)) in (
      refl,
      sym c.quit.ensures ∙ c.if-quit.true,
      subst (λ (k : Ask). g.N.NodeLine.asks c.ask.new.self (Some (c.args.closing.address, k))) ask
          (subst (λ (a : List ℕ). g.N.NodeLine.asks c.ask.new.self (Some (a, ask_of c.quit_request.result))) c.address.ensures c.ask.ensures.asks),
    )

pub returns-clause-begins : goal.returns-clause-begins
returns-clause-begins g c = (refl, refl, sym c.quit.ensures ∙ c.if-quit.false, c.requires)
