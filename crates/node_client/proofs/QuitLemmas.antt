-- That a node is asked to end a session at most once.
use Rattle.std.proofs.Common.{◌≡◌, ℕ, Bool, true, false, List, [], ◌∷◌, refl, sym, subst}
use Rattle.std.specs.Prelude.{not}
use Rattle.grid_types.specs.Tokens.{Closing}
use Rattle.grid_outside.specs.declared.exchange.Ask.{Ask}
use Rattle.grid_outside.specs.Exchanges.{Came}
use Rattle.node_client.specs.Asks.{quit_ask}
use Rattle.node_client.specs.Runs.{Exchanges}
use Rattle.node_client.specs.Quitting.{AsksOnce, AsksToEnd, asked, not_asked}
use Rattle.node_client.specs.Steps.{Exchanged, lacked}

module _ {N : Type 0} (gives : N → List ℕ → Ask → Came → N → Type 0) where
  pub asks_none : (c : Closing) (n : N) → c.quit ≡ false → AsksOnce gives c n true n
  unfolding Exchanges
  asks_none c n q = ([], not_asked q, refl)

  pub asks_once : (c : Closing) (address : List ℕ) (ask : Ask) (came : Came) (sent : Bool) (n n' : N) → c.quit ≡ true → address ≡ c.address → ask ≡ quit_ask c.session →
      sent ≡ not (lacked came) → gives n address ask came n' → AsksOnce gives c n sent n'
  unfolding Exchanges
  asks_once c address ask came sent n n' q a k s gave = (
    Exchanged c.address (quit_ask c.session) came ∷ [],
    subst (λ (b : Bool). AsksToEnd c b (Exchanged c.address (quit_ask c.session) came ∷ [])) (sym s) (asked came q),
    (n', subst (λ (z : Ask). gives n c.address z came n') k (subst (λ (z : List ℕ). gives n z ask came n') a gave), refl),
  )
