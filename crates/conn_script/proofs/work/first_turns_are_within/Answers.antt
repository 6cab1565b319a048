use Rattle.std.proofs.Common.{◌≡◌, ◌≤◌, List, [], ◌∷◌, ◌++◌, true, arith}
use Rattle.node_client.specs.Held.{Token, of_ticket}
use Rattle.conn_script.specs.declared.deleting.Deleting.{Deleting}
use Rattle.conn_script.specs.declared.deleting.Deleting.TheVariants as deleting
use Rattle.conn_script.specs.declared.relaying.Relaying.{Relaying}
use Rattle.conn_script.specs.declared.relaying.Relaying.TheVariants as relaying
use Rattle.conn_script.specs.declared.creating.Creating.{Creating}
use Rattle.conn_script.specs.declared.creating.Creating.TheVariants as creating
use Rattle.conn_script.specs.declared.turn.Turn.{Turn}
use Rattle.conn_script.specs.declared.turn.Turn.TheVariants as turn
use Rattle.conn_script.specs.declared.turn.Run.TheVariants as run
use Rattle.conn_script.specs.Moving.{IsReady, create_is_fresh}
use Rattle.conn_script.specs.Running.{create_tokens}
use Rattle.conn_script.specs.Work.{Outlook, turn_work, delete_work, relay_work, create_work, queue_work}
use Rattle.conn_script.proofs.work.first_turns_are_within.Goals as goal

never : (ts : List Token) (t : Token) → ts ++ t ∷ [] ≡ [] → ⊥
never [] t e = absurd cc
never (u ∷ ts) t e = absurd cc

few_deletes : (d : Deleting) → delete_work d ≤ queue_work
few_deletes (deleting.Lookup id) = omega arith
few_deletes (deleting.LookingUp id) = omega arith
few_deletes (deleting.End id b) = omega arith
few_deletes (deleting.Ending id b) = omega arith
few_deletes (deleting.Quit c path) = omega arith
few_deletes (deleting.Free c q) = omega arith
few_deletes (deleting.Freeing q) = omega arith

few_relays : (r : Relaying) → relay_work r ≤ queue_work
few_relays (relaying.Lookup id target) = omega arith
few_relays (relaying.LookingUp id target) = omega arith
few_relays (relaying.Touch id b address target) = omega arith
few_relays (relaying.Touching id b address target) = omega arith
few_relays (relaying.Exchange address target) = omega arith

few_creates : (c : Creating) (o : Outlook) → create_is_fresh c ≡ true → create_tokens c ≡ [] → create_work c o ≤ queue_work
few_creates (creating.Enqueue choices) o fresh none = omega arith
few_creates creating.Enqueuing o fresh none = omega arith
few_creates (creating.Poll t) o fresh none = absurd (never [] (of_ticket t) none)
few_creates (creating.Polling n) o fresh none = absurd cc
few_creates (creating.Pausing t) o fresh none = absurd (never [] (of_ticket t) none)
few_creates (creating.Starting t carry) o fresh none = absurd (never _ (of_ticket t) none)

within : (t : Turn) → IsReady t [] → (o : Outlook) → turn_work t o ≤ queue_work
within (turn.Go (run.Calling c) short) ready o = omega arith
within (turn.Go (run.Deleting d) short) ready o = few_deletes d
within (turn.Go (run.Relaying r) short) ready o = few_relays r
within (turn.Go (run.Creating c) short) ready o = few_creates c o ready.fresh ready.holds
within (turn.Respond bytes) ready o = omega arith
within (turn.Created bytes session binding) ready o = omega arith
within (turn.Undo session binding) ready o = omega arith
within (turn.RespondLast bytes short) ready o = omega arith
within turn.Lacks ready o = omega arith

pub returns : goal.returns
returns c = within
