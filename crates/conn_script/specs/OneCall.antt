-- Requests that one call of the hub answers.
use Rattle.std.specs.Prelude.{◌≡◌, ◌≢◌, ℕ, ◌<◌, ◌^◌, List, [], ◌∷◌, Option, None, Some, Ok, Err, decimal}
use Rattle.grid_types.specs.declared.capabilities.Registration.{Registration}
use Rattle.grid_types.specs.Calls.{Call, Reply}
use Rattle.caps_merge.specs.declared.registering.fault.RegFault.{RegFault}
use Rattle.caps_merge.specs.Beats.{BeatGives}
use Rattle.caps_merge.specs.Registering.{RegistrationGives}
use Rattle.node_client.specs.Steps.{Step, Called, Spent}
use Rattle.conn_script.specs.Responses.{Response, hub_spent}
use Rattle.conn_script.specs.Messages.{beat_refusal, no_such_node, node_response, reg_refusal, register_response}

-- one call, and the response that its reply calls for
pub data OneCall (call : Call) (respond : Reply → Option Response) : List Step → Response → Type 0 where
  answered : (at : ℕ) (reply : Reply) (response : Response) → respond reply ≡ Some response →
      OneCall call respond (Called call at (Some reply) ∷ []) response
  call_spent : (at : ℕ) → OneCall call respond (Spent call at ∷ []) hub_spent

-- the call found no memory
pub data CallLacks (call : Call) : List Step → Type 0 where
  call_lacks : (at : ℕ) → CallLacks call (Called call at None ∷ [])

-- the id in the path is the number of a node, in decimal digits
abbrev pub NamesNode : List ℕ → ℕ → Type 0
NamesNode id n = (n < 2 ^ 32) × (id ≡ decimal n)

abbrev pub NamesNoNode : List ℕ → Type 0
NamesNoNode id = (n : ℕ) → n < 2 ^ 32 → id ≢ decimal n

-- a removal or a drain of the node that the path names; where it names none, no call is made
pub data NodeCall (call : ℕ → Call) (id : List ℕ) : List Step → Response → Type 0 where
  no_number : NamesNoNode id → NodeCall call id [] no_such_node
  asks_node : {steps : List Step} {response : Response} (n : ℕ) → NamesNode id n → OneCall (call n) node_response steps response →
      NodeCall call id steps response

abbrev pub NodeCallLacks : (ℕ → Call) → List ℕ → List Step → Type 0
NodeCallLacks call id steps = (n : ℕ) × NamesNode id n × CallLacks (call n) steps

-- a beat of the node that the path names, under the name that the body tells, if it tells one; where
-- the path names no node, and then where the body is refused, no call is made
pub data Beats (id body : List ℕ) : List Step → Response → Type 0 where
  no_path : NamesNoNode id → Beats id body [] no_such_node
  no_beat : (node : ℕ) (fault : RegFault) → NamesNode id node → BeatGives body (Err fault) →
      Beats id body [] (beat_refusal fault)
  beats_node : {steps : List Step} {response : Response} (node : ℕ) (name : Option (List ℕ)) →
      NamesNode id node → BeatGives body (Ok name) →
      OneCall (Call.beat node name) node_response steps response → Beats id body steps response

abbrev pub BeatsLack : List ℕ → List ℕ → List Step → Type 0
BeatsLack id body steps =
    (node : ℕ) × (name : Option (List ℕ)) × NamesNode id node × BeatGives body (Ok name)
    × CallLacks (Call.beat node name) steps

-- a registration
pub data Registers (body : List ℕ) : List Step → Response → Type 0 where
  no_registration : (fault : RegFault) → RegistrationGives body (Err fault) → Registers body [] (reg_refusal fault)
  asks_hub : {steps : List Step} {response : Response} (node : Registration) → RegistrationGives body (Ok node) →
      OneCall (Call.register node) register_response steps response → Registers body steps response

abbrev pub RegisterLacks : List ℕ → List Step → Type 0
RegisterLacks body steps = (node : Registration) × RegistrationGives body (Ok node) × CallLacks (Call.register node) steps
