-- Which token a start holds, and that it is spent.
use Rattle.std.specs.Prelude.{ℕ, List, [], ◌∷◌, Option, None, Some}
use Rattle.grid_types.specs.declared.capabilities.Cap.{Cap}
use Rattle.grid_types.specs.declared.entry.FailWhy.{FailWhy}
use Rattle.grid_types.specs.Tokens.{Reservation, Closing}
use Rattle.grid_types.specs.Calls.{Call, Reply}
use Rattle.grid_outside.specs.declared.exchange.Ask.{Ask}
use Rattle.grid_outside.specs.Exchanges.{Came}
use Rattle.node_client.specs.Held.{Token, of_reservation, of_closing}
use Rattle.node_client.specs.Steps.{Step, Called, Exchanged}
use Rattle.node_client.specs.Start.{Start, Refuses}

-- The steps use just the token that is held at each point, and hold none at the end: a reservation
-- until it is bound or given up, or a refused bind gives a closing; a closing until its slot is
-- freed.
pub data Spends : List Token → List Step → Type 0 where
  over : Spends [] []
  asks : {held : List Token} {steps : List Step} (address : List ℕ) (ask : Ask) (came : Came) →
      Spends held steps → Spends held (Exchanged address ask came ∷ steps)
  binds : {r : Reservation} {steps : List Step} (session : List ℕ) (caps : List Cap)
      (at binding : ℕ) →
      Spends [] steps →
      Spends (of_reservation r ∷ [])
      (Called (Call.bind r session caps) at (Some (Reply.bound binding)) ∷ steps)
  keeps : {r : Reservation} {steps : List Step} (session : List ℕ) (caps : List Cap) (at : ℕ) →
      Spends (of_reservation r ∷ []) steps →
      Spends (of_reservation r ∷ []) (Called (Call.bind r session caps) at None ∷ steps)
  closes : {r : Reservation} {steps : List Step} (session : List ℕ) (caps : List Cap) (at : ℕ)
      (reply : Reply) (c : Closing) → Refuses reply c → Spends (of_closing c ∷ []) steps →
      Spends (of_reservation r ∷ []) (Called (Call.bind r session caps) at (Some reply) ∷ steps)
  gives_up : {r : Reservation} {steps : List Step} (w : FailWhy) (at : ℕ) (reply : Option Reply) →
      Spends [] steps → Spends (of_reservation r ∷ []) (Called (Call.fail r w) at reply ∷ steps)
  frees : {c : Closing} {steps : List Step} (at : ℕ) (reply : Option Reply) →
      Spends [] steps → Spends (of_closing c ∷ []) (Called (Call.freed c) at reply ∷ steps)

abbrev pub StartsSpendAll : Type 0
StartsSpendAll = (r : Reservation) (steps : List Step) → Start r steps →
    Spends (of_reservation r ∷ []) steps
