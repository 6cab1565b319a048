-- Looks at a driver, and what the hub is told after each.
use Rattle.std.specs.Prelude.{◌≡◌, ◌<◌, ◌⊎◌, ◌&&◌, ℕ, ◌≤◌, Bool, true, false, nat_eq, List, [], ◌∷◌, length, Option, None, Some, Result, Ok, Err, IsErr, codes}
use Rattle.grid_types.specs.declared.text.NoMemory.{NoMemory}
use Rattle.grid_outside.specs.Told.{ClockView, Tick, later_by, to_wait}
use Rattle.grid_outside.specs.declared.exchange.Ask.{Ask}
use Rattle.grid_outside.specs.declared.exchange.Reply.TheVariants as reply
use Rattle.grid_outside.specs.declared.exchange.ExchangeFault.TheVariants as fault
use Rattle.grid_outside.specs.Exchanges.{Came}
use Rattle.wd_bodies.specs.declared.paths.TheConstants.{STATUS}
use Rattle.node_signs.specs.Signs.{ask_to_beat, ask_to_register, beat_bytes, BeatIs, RegisterIs, registration_bytes}
use Rattle.node_signs.specs.declared.signs.TheConstants.{SERVED}
use Rattle.node_signs.specs.declared.signs.Beat.{Beat}
use Rattle.node_signs.specs.declared.signs.Beat.TheVariants as beat
use Rattle.server_words.specs.declared.attach.AttachWords.{AttachWords}
use Rattle.grid_attach.specs.Builds.{VersionIs}
use Rattle.grid_attach.specs.Said.{node_said}
use Rattle.grid_attach.specs.declared.attaching.TheConstants.{BEAT_MS, RETRY_MS}

-- what a driver is asked
abbrev pub ask_for_status : Ask
ask_for_status = record {
  method = codes "GET";
  target = STATUS.now;
  accept = None;
  accept_encoding = None;
  content_type = None;
  content_encoding = None;
  body = [];
}

-- what the exchange says of the driver
abbrev pub ReadyIs : Came → Result Bool NoMemory → Type 0
ReadyIs (Ok (reply.Http r)) result = result ≡ Ok (nat_eq r.status SERVED)
ReadyIs (Ok (reply.NotHttp bytes)) result = result ≡ Ok false
ReadyIs (Err fault.Unreachable) result = result ≡ Ok false
ReadyIs (Err fault.Memory) result = IsErr result

-- the number that a node has after a beat
abbrev pub after_beat : ℕ → Beat → Option ℕ
after_beat n beat.Refused = None
after_beat n beat.Taken = Some n
after_beat n beat.Unanswered = Some n

-- the node had a number before the look, and has none after it: the hub refused its beat
abbrev pub is_lost : Option ℕ → Option ℕ → Bool
is_lost None now = false
is_lost (Some n) None = true
is_lost (Some n) (Some m) = false

-- how long it waits after a look
abbrev pub wait_after : Option ℕ → ℕ
wait_after None = RETRY_MS
wait_after (Some n) = BEAT_MS

-- a driver that answered this to its status is registered as the arguments say
pub record Registers {N : Type 0} (gives : N → List ℕ → Ask → Came → N → Type 0)
    (said : AttachWords) (seen : Came) (old : N) (now : Option ℕ) (new : N) : Type 0 where
  pub version : List ℕ
  pub came : Came
  pub told : VersionIs said.version seen version
  pub asked : gives old said.hub (ask_to_register (registration_bytes (node_said said version))) came new
  pub given : RegisterIs came (Ok now)

-- a beat of the node of this number and name
pub record Beats {N : Type 0} (gives : N → List ℕ → Ask → Came → N → Type 0)
    (said : AttachWords) (number : ℕ) (old : N) (now : Option ℕ) (new : N) : Type 0 where
  pub came : Came
  pub answer : Beat
  pub asked : gives old said.hub (ask_to_beat number (beat_bytes said.name)) came new
  pub shown : BeatIs came (Ok answer)
  pub left : now ≡ after_beat number answer

-- the hub is told of a node by its registration, until it has a number, and by a beat then
abbrev pub SignIs : {N : Type 0} → (N → List ℕ → Ask → Came → N → Type 0)
    → AttachWords → Came → Option ℕ → N → Option ℕ → N → Type 0
SignIs gives said seen None old now new = Registers gives said seen old now new
SignIs gives said seen (Some n) old now new = Beats gives said n old now new

-- the hub is told where the driver is ready
abbrev pub IsTold : {N : Type 0} → (N → List ℕ → Ask → Came → N → Type 0)
    → AttachWords → Came → Bool → Option ℕ → N → Option ℕ → N → Type 0
IsTold gives said seen true known between now new = SignIs gives said seen known between now new
IsTold gives said seen false known between now new = (now ≡ known) × (new ≡ between)

-- one look: the driver is asked, and the hub is told
pub record IsLook {N : Type 0} (gives : N → List ℕ → Ask → Came → N → Type 0)
    (said : AttachWords) (known : Option ℕ) (old : N) (now : Option ℕ) (new : N) : Type 0 where
  pub seen : Came
  pub ready : Bool
  pub between : N
  pub asked : gives old said.driver ask_for_status seen between
  pub shown : ReadyIs seen (Ok ready)
  pub told : IsTold gives said seen ready known between now new

-- the clock was asked to wait for so many milliseconds, and did
pub record Waits {C : Type 0} (tells : C → Tick → ℕ → C → Type 0) (shows : C → ClockView) (ms : ℕ) (old new : C) : Type 0 where
  pub at : ℕ
  pub asked : tells old (to_wait ms) at new
  pub long_enough : later_by (shows old).moment ms ≤ (shows new).moment

-- what is so after a look and the wait behind it
pub record Look (N C : Type 0) : Type 0 where
  pub known : Option ℕ
  pub nodes : N
  pub clock : C

module _ {N C : Type 0} (gives : N → List ℕ → Ask → Came → N → Type 0) (tells : C → Tick → ℕ → C → Type 0) (shows : C → ClockView)
    (said : AttachWords) where
  -- Looks one after the other, each with the wait behind it; the clock was asked nothing else. Of one that
  -- is to be there once none of them lost the node.
  abbrev pub Looks : Option ℕ → N → C → List (Look N C) → Option ℕ → N → C → Type 0
  Looks known old before [] now new after = (now ≡ known) × (new ≡ old) × (after ≡ before)
  Looks known old before (l ∷ ls) now new after =
      IsLook gives said known old l.known l.nodes × Waits tells shows (wait_after l.known) before l.clock
      × ((said.once && is_lost known l.known) ≡ false) × Looks l.known l.nodes l.clock ls now new after

  -- a look more lost the node that is to be there once, and no wait is behind it
  pub record IsLastLook (known : Option ℕ) (old : N) (before : C) (now : Option ℕ) (new : N) (after : C) : Type 0 where
    pub only_once : said.once ≡ true
    pub lost : is_lost known now ≡ true
    pub look : IsLook gives said known old now new
    pub unasked : after ≡ before

  -- the looks of a node that has no number before: so many, or fewer where the last one lost the node
  pub record Attached (count : ℕ) (old : N) (before : C) (now : Option ℕ) (new : N) (after : C) : Type 0 where
    pub done : List (Look N C)
    pub known : Option ℕ
    pub nodes : N
    pub clock : C
    pub looks : Looks None old before done known nodes clock
    pub ends : ((length done ≡ count) × (now ≡ known) × (new ≡ nodes) × (after ≡ clock))
        ⊎ ((length done < count) × IsLastLook known nodes clock now new after)
