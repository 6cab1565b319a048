-- That texts are read in one way.
use Rattle.std.specs.Prelude.{◌≡◌, ℕ, List, Option, Result}
use Rattle.json_spans.specs.OneWay.{ReadOneWay, NotBoth}
use Rattle.http_frames.specs.declared.frames.FrameLimits.{FrameLimits}
use Rattle.http_frames.specs.Frames.{Request, End, Frames}
use Rattle.grid_types.specs.declared.capabilities.Cap.{Cap}
use Rattle.grid_types.specs.declared.capabilities.Registration.{Registration}
use Rattle.caps_merge.specs.declared.fault.CapsFault.{CapsFault}
use Rattle.caps_merge.specs.declared.registering.fault.RegFault.{RegFault}
use Rattle.caps_merge.specs.Beats.{BeatGives}
use Rattle.caps_merge.specs.Merging.{BodyGives}
use Rattle.caps_merge.specs.Registering.{RegistrationGives}
use Rattle.node_client.specs.Replies.{Said, Says}

-- JSON, the bodies of requests, the replies of nodes, and the requests of a connection
pub record Readings : Type 0 where
  pub text : (bytes : List ℕ) → ReadOneWay bytes
  pub both : (bytes : List ℕ) → NotBoth bytes
  pub bodies : (body : List ℕ) (r s : Result (List (List Cap)) CapsFault) → BodyGives body r → BodyGives body s → r ≡ s
  pub registrations : (body : List ℕ) (r s : Result Registration RegFault) → RegistrationGives body r → RegistrationGives body s → r ≡ s
  pub beats : (body : List ℕ) (r s : Result (Option (List ℕ)) RegFault) → BeatGives body r → BeatGives body s → r ≡ s
  pub replies : (status : ℕ) (body : List ℕ) (s t : Said) → Says status body s → Says status body t → s ≡ t
  pub connection : (limits : FrameLimits) (bytes : List ℕ) (fs gs : List Request) (d e : End) → Frames limits bytes fs d → Frames limits bytes gs e → (fs ≡ gs) × (d ≡ e)
