-- That the node of a session is asked to end it.
use Rattle.std.specs.Prelude.{◌≡◌, ℕ, Bool, true, false, not, List, [], ◌∷◌}
use Rattle.grid_types.specs.Tokens.{Closing}
use Rattle.grid_outside.specs.declared.exchange.Ask.{Ask}
use Rattle.grid_outside.specs.Exchanges.{Came}
use Rattle.node_client.specs.Asks.{quit_ask}
use Rattle.node_client.specs.Runs.{Exchanges}
use Rattle.node_client.specs.Steps.{Step, Exchanged, lacked}

-- The node is asked to end the session, whatever comes of that, unless a session of its id is live at the same address. It
-- was not asked where there was no memory for it.
pub data AsksToEnd (c : Closing) : (sent : Bool) → List Step → Type 0 where
  asked : (came : Came) → c.quit ≡ true →
      AsksToEnd c (not (lacked came)) (Exchanged c.address (quit_ask c.session) came ∷ [])
  not_asked : c.quit ≡ false → AsksToEnd c true []

abbrev pub AsksOnce : {N : Type 0} → (N → List ℕ → Ask → Came → N → Type 0) → Closing → N → Bool → N → Type 0
AsksOnce gives c old sent new = (steps : List Step) × AsksToEnd c sent steps × Exchanges gives old steps new
