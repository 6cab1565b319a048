-- A connection that was served by a hub of one thread: what was read, done and written, and how it ended.
use Rattle.std.specs.Prelude.{◌≡◌, ◌≢◌, ℕ, ◌≤◌, true, List, length, Some, Result, IfOk}
use Rattle.grid_types.specs.Legal.{legal}
use Rattle.grid_outside.specs.Told.{LinkView, Tick}
use Rattle.grid_outside.specs.declared.exchange.Ask.{Ask}
use Rattle.grid_outside.specs.Exchanges.{Came}
use Rattle.hub_core.specs.HubView.{past}
use Rattle.node_client.specs.Steps.{Step}
use Rattle.conn_script.specs.declared.wants.ConnFault.{ConnFault}
use Rattle.conn_script.specs.declared.wants.ConnFault.TheVariants as faults
use Rattle.conn_script.specs.declared.wants.End.TheVariants as ends
use Rattle.conn_script.specs.declared.wants.Served.{Served}
use Rattle.conn_script.specs.declared.wants.TheConstants.{LIMIT}
use Rattle.hub_conn.specs.Conversation.{Finished}
use Rattle.hub_conn.specs.Talk.{result_cause}
use Rattle.hub_links.specs.Links.{Moved, RoseFor}
use Rattle.local_driver.specs.World.{Went, World}

-- what a driver has outside of it: a hub with its nodes and a clock, and what a link tells
pub record Outside (N C : Type 0) : Type 0 where
  pub world : World N C
  pub link : LinkView

abbrev pub outside_of : {N C : Type 0} → World N C → LinkView → Outside N C
outside_of world link = record { world = world; link = link }

module _ {N C : Type 0} (gives : N → List ℕ → Ask → Came → N → Type 0) (tells : C → Tick → ℕ → C → Type 0) where
  -- these bytes were read, these steps made and these bytes written, and nothing else was done outside
  pub record Onward (old : Outside N C) (bytes : List ℕ) (steps : List Step) (written : List ℕ) (new : Outside N C) : Type 0 where
    pub went : Went gives tells old.world steps new.world
    pub moved : Moved old.link bytes written new.link

  -- There are bytes, steps and written bytes by which all outside went on, and they are a conversation that ended so.
  pub record HasServed (own : List ℕ) (old : Outside N C) (result : Result Served ConnFault) (new : Outside N C) : Type 0 where
    pub bytes : List ℕ
    pub steps : List Step
    pub written : List ℕ
    pub finished : Finished (Some own) result bytes steps written
    pub onward : Onward old bytes steps written new
    pub within : length bytes ≤ LIMIT

  -- What is promised of a connection that was served.
  pub record ServedLocally (own : List ℕ) (old : Outside N C) (result : Result Served ConnFault) (new : Outside N C) : Type 0 where
    -- What was read, done and written is one conversation that ended so, and it is all that was done.
    pub served : HasServed own old result new
    -- The history of the hub behind it is legal.
    pub is_legal : legal new.world.hub.config (past new.world.hub) ≡ true
    -- The fault or the end of the input that is told has happened on the link.
    pub blames : RoseFor (result_cause result) old.link new.link
    -- It did not end because the hub was spent, since this hub never is.
    pub unspent : IfOk result (λ served. served.end ≢ ends.HubSpent)
