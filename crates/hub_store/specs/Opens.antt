-- What a hub goes on from, and why it does not.
use Rattle.std.specs.Prelude.{◌≡◌, ◌≢◌, ◌⊎◌, ℕ, ◌+◌, ◌-◌, ◌^◌, ◌<◌, ◌≤◌, max, false, List, [], length, Option, IfSome}
use Rattle.grid_types.specs.declared.config.HubConfig.{HubConfig}
use Rattle.grid_types.specs.declared.entry.Entry.{Entry}
use Rattle.grid_types.specs.declared.limits.TheConstants.{LAST_MOMENT}
use Rattle.grid_types.specs.History.{clock, next_node, next_request}
use Rattle.grid_outside.specs.Counts.{Rose}
use Rattle.grid_journal.specs.HeadReads.{HeadRead}
use Rattle.grid_journal.specs.declared.head.HeadStep.TheVariants as step
use Rattle.journal_verdicts.specs.declared.verdict.Verdict.{Verdict}
use Rattle.journal_verdicts.specs.Verdicts.{Says, tells_end}
use Rattle.journal_keeper.specs.declared.keeping.Keeping.{Keeping}
use Rattle.journal_keeper.specs.Keepings.{faults_of}
use Rattle.hub_core.specs.declared.hub.HubCore.{HubCore}
use Rattle.grid_opening.specs.declared.fault.OpeningFault.{OpeningFault}
use Rattle.grid_opening.specs.declared.fault.OpeningFault.TheVariants as opening_fault
use Rattle.grid_replay.specs.Replays.{most_caller}
use Rattle.hub_opening.specs.Handed.{Continues}
use Rattle.hub_store.specs.declared.fault.HubOption.{HubOption}
use Rattle.hub_store.specs.declared.fault.HubOption.TheVariants as hub_option
use Rattle.hub_store.specs.declared.fault.StoreFault.{StoreFault}
use Rattle.hub_store.specs.declared.fault.StoreFault.TheVariants as fault
use Rattle.hub_store.specs.Stores.{HasOptions, IsLeft, IsOver, IsUnfinished}

-- ---- a hub

-- The hub goes on from the history whose journal was found, in which something goes on where it has an entry, under the options
-- that it was told. Its passes have numbers above that of each caller of before.
pub record GoesOn (told : HubConfig) (given : Option (List ℕ)) (config : HubConfig) (core : HubCore) (keeping : Keeping) (first : ℕ) : Type 0 where
  pub history : List Entry
  pub left : IsLeft given config history
  pub unfinished : IsUnfinished history
  pub options : HasOptions told config
  pub continues : Continues config core keeping first history
  pub next : first ≡ most_caller history + 1

-- Nothing goes on in the history that was found, which has an entry. What was given stands aside, and the hub begins with the next
-- numbers, under the options that it was told.
pub record BeginsBehind (told : HubConfig) (given aside : Option (List ℕ)) (config : HubConfig) (core : HubCore) (keeping : Keeping) (first : ℕ) : Type 0 where
  pub before : HubConfig
  pub history : List Entry
  pub left : IsLeft given before history
  pub some : 1 ≤ length history
  pub over : IsOver history
  pub options : HasOptions told config
  pub nodes : config.first_node ≡ next_node before history
  pub requests : config.first_request ≡ next_request before history
  pub is_aside : aside ≡ given
  pub begins : Continues config core keeping first []
  pub next : first ≡ most_caller history + 1

-- No head is whole yet: the hub begins as it was told.
pub record BeginsAnew (told : HubConfig) (given : Option (List ℕ)) (config : HubConfig) (core : HubCore) (keeping : Keeping) (first : ℕ) : Type 0 where
  pub cut : IfSome given (λ bytes. HeadRead bytes step.More)
  pub same : config ≡ told
  pub begins : Continues config core keeping first []
  pub next : first ≡ 1

-- by the bytes that were given, where they are told
abbrev pub Opens : HubConfig → Option (List ℕ) → Option (List ℕ) → HubConfig → HubCore → Keeping → ℕ → Type 0
Opens told given aside config core keeping first =
    GoesOn told given config core keeping first
    ⊎ (BeginsBehind told given aside config core keeping first ⊎ BeginsAnew told given config core keeping first)

-- ---- none

-- the option has another value
abbrev pub Differs : HubOption → HubConfig → HubConfig → Type 0
Differs hub_option.RequestTimeout told config = config.timeout_ms ≢ told.timeout_ms
Differs hub_option.SessionTimeout told config = config.idle_ms ≢ told.idle_ms
Differs hub_option.QueueLimit told config = config.queue_requests ≢ told.queue_requests
Differs hub_option.Unsupported told config = config.reject_unsupported ≢ told.reject_unsupported
Differs hub_option.Lapse told config = (config.lapse_ms ≡ told.lapse_ms) × (config.down_ms ≡ told.down_ms) → ⊥

-- what was found, of whose configuration and history this holds
pub record Left (given : Option (List ℕ)) (fact : HubConfig → List Entry → Type 0) : Type 0 where
  pub config : HubConfig
  pub history : List Entry
  pub left : IsLeft given config history
  pub holds : fact config history

-- the verdict on the bytes, which leaves nothing to go on from
pub record IsRefused (given : Option (List ℕ)) (verdict : Verdict) : Type 0 where
  pub ends : tells_end verdict ≡ false
  pub says : IfSome given (Says verdict)

-- by why a hub that was to begin has not, where this is the greatest number of a caller before it
abbrev pub NotBegun : ℕ → ℕ → Keeping → OpeningFault → Type 0
NotBegun most at keeping opening_fault.Unkept = Rose 0 (faults_of keeping)
NotBegun most at keeping opening_fault.Late = LAST_MOMENT < at
NotBegun most at keeping opening_fault.Numbers = 2 ^ 64 - 1 ≤ most
NotBegun most at keeping opening_fault.Memory = Unit {0}

abbrev pub NotBegunBy : ℕ → ℕ → Keeping → StoreFault → Type 0
NotBegunBy most at keeping (fault.Opening why) = NotBegun most at keeping why
NotBegunBy most at keeping other = ⊥

-- What keeps the journal has failed; the moment, or the last one of the history, is past the last one that there is; or a caller had
-- the greatest number already. Memory may lack at any time.
abbrev pub WhyUnsettled : Option (List ℕ) → ℕ → Keeping → OpeningFault → Type 0
WhyUnsettled given at keeping opening_fault.Unkept = Rose 0 (faults_of keeping)
WhyUnsettled given at keeping opening_fault.Late = (LAST_MOMENT < at) ⊎ Left given (λ config history. LAST_MOMENT < max at (clock history))
WhyUnsettled given at keeping opening_fault.Numbers = Left given (λ config history. 2 ^ 64 - 1 ≤ most_caller history)
WhyUnsettled given at keeping opening_fault.Memory = Unit {0}

-- By the fault: the store failed; the verdict leaves nothing; the journal is of a hub with another value of the option, and is not
-- over; or what was under way was not settled. Memory may lack at any time.
abbrev pub WhyClosed : HubConfig → Option (List ℕ) → ℕ → ℕ → ℕ → Keeping → StoreFault → Type 0
WhyClosed told given before after at keeping fault.Memory = Unit {0}
WhyClosed told given before after at keeping fault.Failed = Rose before after
WhyClosed told given before after at keeping (fault.Verdict verdict) = IsRefused given verdict
WhyClosed told given before after at keeping (fault.Option name) = Left given (λ config history. Differs name told config × IsUnfinished history)
WhyClosed told given before after at keeping (fault.Opening why) = WhyUnsettled given at keeping why
