-- The first turn of a request.
use Rattle.std.specs.Prelude.{◌≢◌, ℕ, Bool, List, [], Err}
use Rattle.http_frames.specs.Frames.{Request}
use Rattle.grid_types.specs.Calls.{Call}
use Rattle.caps_merge.specs.declared.fault.CapsFault.{CapsFault}
use Rattle.caps_merge.specs.declared.fault.CapsFault.TheVariants as caps
use Rattle.caps_merge.specs.declared.registering.fault.RegFault.{RegFault}
use Rattle.caps_merge.specs.declared.registering.fault.RegFault.TheVariants as reg
use Rattle.caps_merge.specs.Merging.{BodyGives}
use Rattle.caps_merge.specs.Beats.{BeatGives}
use Rattle.caps_merge.specs.Registering.{RegistrationGives}
use Rattle.node_client.specs.Steps.{Step}
use Rattle.conn_script.specs.declared.calling.Asked.{Asked}
use Rattle.conn_script.specs.declared.calling.Asked.TheVariants as asked
use Rattle.conn_script.specs.declared.turn.Turn.{Turn}
use Rattle.conn_script.specs.OneCall.{NamesNode, NodeCall, NodeCallLacks, Beats, BeatsLack, Registers, RegisterLacks}
use Rattle.conn_script.specs.DeleteSession.{DeleteSession, DeleteLacks}
use Rattle.conn_script.specs.Relay.{Relay, RelayLacks, relayed}
use Rattle.conn_script.specs.NewSession.{NewSession, EnqueueLacks}
use Rattle.conn_script.specs.Script.{Script, Lacks}
use Rattle.conn_script.specs.Turns.{Turns, Stops}
use Rattle.conn_script.specs.Running.{RunsOn}

-- before its first step
abbrev pub FirstTurn : Request → Turn → Bool → Type 0
FirstTurn f turn close = Turns (RunsOn f) (Script f) (Lacks f) [] close turn

-- memory may be wanted before the first step too
pub data OrNone (stops : Stops) : List Step → Type 0 where
  none : OrNone stops []
  at : (steps : List Step) → stops steps → OrNone stops steps

-- the call of a removal or a drain
abbrev pub node_call : Asked → ℕ → Call
node_call asked.Remove node = Call.remove node
node_call a node = Call.drain node

abbrev pub IsNodeAsked : Asked → Type 0
IsNodeAsked asked.Remove = Unit {0}
IsNodeAsked asked.Drain = Unit {0}
IsNodeAsked a = ⊥

abbrev pub AsksNode : Asked → List ℕ → Turn → Bool → Type 0
AsksNode a id turn close = (f : Request) → Turns (RunsOn f) (NodeCall (node_call a) id) (OrNone (NodeCallLacks (node_call a) id)) [] close turn

abbrev pub AsksToBeat : List ℕ → List ℕ → Turn → Bool → Type 0
AsksToBeat id body turn close =
    (f : Request) → Turns (RunsOn f) (Beats id body) (OrNone (BeatsLack id body)) [] close turn

abbrev pub AsksToRegister : List ℕ → Turn → Bool → Type 0
AsksToRegister body turn close = (f : Request) → Turns (RunsOn f) (Registers body) (OrNone (RegisterLacks body)) [] close turn

abbrev pub AsksToCreate : List ℕ → Turn → Bool → Type 0
AsksToCreate body turn close = (f : Request) → Turns (RunsOn f) (NewSession body) (OrNone (EnqueueLacks body)) [] close turn

abbrev pub AsksToDelete : List ℕ → Turn → Bool → Type 0
AsksToDelete id turn close = (f : Request) → Turns (RunsOn f) (DeleteSession id) (OrNone (DeleteLacks id)) [] close turn

abbrev pub AsksToRelay : List ℕ → List ℕ → Turn → Bool → Type 0
AsksToRelay id target turn close =
    (f : Request) → Turns (RunsOn f) (Relay (relayed f target) id) (OrNone (RelayLacks (relayed f target) id)) [] close turn

-- what comes of a body that is refused for this fault, unless it is out of memory
abbrev pub IsRegistrationRefused : RegFault → Turn → Bool → Type 0
IsRegistrationRefused fault turn close =
    (body : List ℕ) → (fault ≢ reg.Memory → RegistrationGives body (Err fault)) → AsksToRegister body turn close

-- the same of a beat's body, behind whatever path names a node
abbrev pub IsBeatRefused : RegFault → Turn → Bool → Type 0
IsBeatRefused fault turn close =
    (id body : List ℕ) (node : ℕ) → NamesNode id node →
    (fault ≢ reg.Memory → BeatGives body (Err fault)) → AsksToBeat id body turn close

abbrev pub AreCapabilitiesRefused : CapsFault → Turn → Bool → Type 0
AreCapabilitiesRefused fault turn close =
    (body : List ℕ) → (fault ≢ caps.Memory → BodyGives body (Err fault)) → AsksToCreate body turn close
