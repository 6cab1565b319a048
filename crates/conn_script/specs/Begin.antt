-- What a driver does before the first step of each request, where nodes of its own stand in its program: they give a sign
-- of life, what is over by its time is settled, and sessions that were idle for too long are ended.
use Rattle.std.specs.Prelude.{◌≡◌, ◌≢◌, ℕ, true, false, List, [], ◌∷◌, ◌++◌, Option, None, Some, Err}
use Rattle.grid_types.specs.Tokens.{Closing}
use Rattle.grid_types.specs.Calls.{Call, Reply}
use Rattle.grid_outside.specs.Exchanges.{Came}
use Rattle.grid_outside.specs.declared.exchange.ExchangeFault.TheVariants.{Memory}
use Rattle.node_client.specs.Asks.{quit_ask}
use Rattle.node_client.specs.Steps.{Step, Called, Exchanged}

-- the node is asked to end the session, where that is called for
pub data AsksToEnd (c : Closing) : List Step → Type 0 where
  asked : (came : Came) → came ≢ Err Memory → c.quit ≡ true →
      AsksToEnd c (Exchanged c.address (quit_ask c.session) came ∷ [])
  not_asked : c.quit ≡ false → AsksToEnd c []

-- idle sessions one after the other, until there is none
pub data Expires : List Step → Type 0 where
  none_idle : (at : ℕ) → Expires (Called Call.expire at (Some Reply.nothing) ∷ [])
  one_idle : {own more : List Step} (at at' : ℕ) (c : Closing) → AsksToEnd c own → Expires more →
      Expires (Called Call.expire at (Some (Reply.expired c)) ∷ (own ++ Called (Call.freed c) at' (Some Reply.is_freed) ∷ more))

-- the signs of life, then the sweep, then the idle sessions
pub data Begins : List ℕ → List Step → Type 0 where
  swept : {more : List Step} (at : ℕ) (reply : Reply) → Expires more → Begins [] (Called Call.sweep at (Some reply) ∷ more)
  beaten : {nodes : List ℕ} {more : List Step} (node at : ℕ) (reply : Reply) → Begins nodes more →
      Begins (node ∷ nodes) (Called (Call.beat node None) at (Some reply) ∷ more)

-- what goes before a request: these steps for the driver's own nodes, or none where it has none
abbrev pub Begun : Option (List ℕ) → List Step → Type 0
Begun None steps = steps ≡ []
Begun (Some nodes) steps = Begins nodes steps

-- ---- out of memory in them, at a call or at an exchange; the slot of a session that was ended is freed all the same
pub data ExpireLacks : List Step → Type 0 where
  expire_lacks : (at : ℕ) → ExpireLacks (Called Call.expire at None ∷ [])
  not_sent : (at at' : ℕ) (c : Closing) → c.quit ≡ true →
      ExpireLacks (Called Call.expire at (Some (Reply.expired c)) ∷ Exchanged c.address (quit_ask c.session) (Err Memory)
      ∷ Called (Call.freed c) at' (Some Reply.is_freed) ∷ [])
  later : {own more : List Step} (at at' : ℕ) (c : Closing) → AsksToEnd c own → ExpireLacks more →
      ExpireLacks (Called Call.expire at (Some (Reply.expired c)) ∷ (own ++ Called (Call.freed c) at' (Some Reply.is_freed) ∷ more))

pub data BeginLacks : List ℕ → List Step → Type 0 where
  sweep_lacks : (at : ℕ) → BeginLacks [] (Called Call.sweep at None ∷ [])
  behind_sweep : {more : List Step} (at : ℕ) (reply : Reply) → ExpireLacks more → BeginLacks [] (Called Call.sweep at (Some reply) ∷ more)
  beat_lacks : {nodes : List ℕ} (node at : ℕ) → BeginLacks (node ∷ nodes) (Called (Call.beat node None) at None ∷ [])
  behind_beat : {nodes : List ℕ} {more : List Step} (node at : ℕ) (reply : Reply) → BeginLacks nodes more →
      BeginLacks (node ∷ nodes) (Called (Call.beat node None) at (Some reply) ∷ more)

abbrev pub BegunLacks : Option (List ℕ) → List Step → Type 0
BegunLacks None steps = ⊥
BegunLacks (Some nodes) steps = BeginLacks nodes steps
