-- What parts of the end of a session came to.
use Rattle.std.specs.Prelude.{◌≡◌, ◌≢◌, Err, List}
use Rattle.grid_types.specs.Tokens.{Closing}
use Rattle.grid_types.specs.Calls.{Call, Reply}
use Rattle.grid_outside.specs.declared.exchange.ExchangeFault.TheVariants.{Memory}
use Rattle.grid_outside.specs.Exchanges.{Came}
use Rattle.node_client.specs.Asks.{quit_ask}
use Rattle.loop_node.specs.Links.{NodesGive}
use Rattle.loop_node.specs.Sessions.{Node}
use Rattle.grid_simulate.specs.declared.actions.sessions.Idle.{Idle}
use Rattle.grid_simulate.specs.declared.actions.sessions.Idle.TheVariants as idle
use Rattle.grid_simulate.specs.World.{World, reply_to, called}
use Rattle.grid_simulate.specs.Actions.{QuitsIf}

-- the node of the closing was asked to end its session
pub record Asked (c : Closing) (old new : List Node) : Type 0 where
  pub came : Came
  pub gives : NodesGive old c.address (quit_ask c.session) came new
  pub full : came ≢ Err Memory

-- one look for an idle session
abbrev pub Looked : Idle → World → World → Type 0
Looked idle.Ended old new =
    (c : Closing) × (reply_to old Call.expire ≡ Reply.expired c) × QuitsIf c.quit c (called old Call.expire) new
Looked idle.Over old new = (reply_to old Call.expire ≡ Reply.nothing) × (new ≡ called old Call.expire)
