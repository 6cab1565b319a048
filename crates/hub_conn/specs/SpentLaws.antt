-- Whether a conversation that is over found the hub spent.
use Rattle.std.specs.Prelude.{◌≡◌, ℕ, Bool, true, false, List, Option, Result, Ok, Err}
use Rattle.node_client.specs.Steps.{Step}
use Rattle.conn_script.specs.declared.wants.End.{End}
use Rattle.conn_script.specs.declared.wants.End.TheVariants as ends
use Rattle.conn_script.specs.declared.wants.ConnFault.{ConnFault}
use Rattle.conn_script.specs.declared.wants.Served.{Served}
use Rattle.conn_script.specs.SpentLooks.{FindsSpent}
use Rattle.hub_conn.specs.Conversation.{Finished}

abbrev pub is_hub_spent : End → Bool
is_hub_spent ends.HubSpent = true
is_hub_spent end = false

-- What the result tells of it. A fault may come after the hub was found spent, or before.
abbrev pub TellsSpent : Result Served ConnFault → Bool → Type 0
TellsSpent (Ok served) spent = spent ≡ is_hub_spent served.end
TellsSpent (Err fault) spent = Unit {0}

-- it found the hub spent at no step, or at the last alone
pub record SpentAtEnd (result : Result Served ConnFault) (steps : List Step) : Type 0 where
  pub spent : Bool
  pub told : TellsSpent result spent
  pub finds : FindsSpent spent steps

abbrev pub SpentLaws : Type 0
SpentLaws = (own : Option (List ℕ)) (result : Result Served ConnFault) (bytes : List ℕ) (steps : List Step) (written : List ℕ) →
    Finished own result bytes steps written → SpentAtEnd result steps
