-- From what a store gave to what a hub goes on from.
use Rattle.std.proofs.Common.{◌≡◌, ◌⊎◌, inl, inr, ℕ, zero, suc, ◌+◌, ◌-◌, ◌^◌, ◌<◌, ◌≤◌, max, true, false, List, [], ◌∷◌, ◌++◌, length, take, refl, sym, ◌∙◌, ap, subst, arith, append-nil}
use Rattle.std.specs.Prelude.{Option, None, Some, IfErr, IfOk, IfSome, Result, Ok, Err, is_none, option_map, filter, nat_lt}
use Rattle.std.proofs.lemmas.Bool.Decides.{nat_tests}
use Rattle.std.proofs.Math.Seq.{take-append_seam}
use Rattle.grid_types.specs.declared.config.HubConfig.{HubConfig}
use Rattle.grid_types.specs.declared.entry.Entry.{Entry}
use Rattle.grid_types.specs.Config.{IsValid}
use Rattle.grid_types.specs.declared.limits.TheConstants.{LEAST_IDLE_MS, LEAST_LAPSE_MS, LEAST_QUEUE_TIME_MS, MOST_DOWN_MS, MOST_IDLE_MS, MOST_LAPSE_MS, MOST_QUEUE_TIME_MS, MOST_REQUESTS}
use Rattle.grid_types.specs.History.{next_node, next_request, nodes}
use Rattle.grid_types.specs.HistoryLaws.{Known, laws}
use Rattle.grid_types.specs.Legal.{legal}
use Rattle.grid_types.specs.Lists.{numbers_from}
use Rattle.grid_types.specs.Slots.{is_listed}
use Rattle.grid_journal.specs.Fits.{AllFit}
use Rattle.grid_journal.specs.HeadReads.{HeadRead}
use Rattle.grid_journal.specs.declared.head.HeadStep.TheVariants as step
use Rattle.grid_journal.specs.EntryReads.{BeginsEntry}
use Rattle.grid_journal.specs.Spelled.{head_bytes, journal_bytes}
use Rattle.grid_outside.specs.Counts.{Rose}
use Rattle.grid_outside.specs.Told.{Gains}
use Rattle.journal_verdicts.specs.declared.found.Journal.{Journal}
use Rattle.journal_verdicts.specs.declared.verdict.Verdict.{Verdict}
use Rattle.journal_verdicts.specs.declared.verdict.Verdict.TheVariants as verdict
use Rattle.journal_verdicts.specs.ReadIn as of_check
use Rattle.journal_verdicts.specs.Verdicts.{IsVerdict, Leaves, LeavesNone, Says, tells_end}
use Rattle.journal_keeper.specs.declared.keeping.Keeping.{Keeping}
use Rattle.journal_keeper.specs.Keepings.{kept_by}
use Rattle.hub_core.specs.declared.hub.HubCore.{HubCore}
use Rattle.grid_ledger.specs.declared.ledger.GridLedger.{GridLedger}
use Rattle.grid_ledger.specs.LedgerStands.{AtMost, LedgerTells, Stands}
use Rattle.grid_opening.specs.declared.fault.OpeningFault.{OpeningFault}
use Rattle.grid_opening.specs.declared.fault.OpeningFault.TheVariants as opening_fault
use Rattle.grid_opening.specs.Openings.{Keeps}
use Rattle.grid_replay.specs.declared.replay.Replay.{Replay}
use Rattle.grid_replay.specs.Replays.{Shows, most_caller}
use Rattle.hub_opening.specs.Handed.{Continues, GoesOnFrom, HasRead, IsRead, WhyNot}
use Rattle.hub_cell.specs.declared.hub.SharedHub.{SharedHub}
use Rattle.hub_cell.specs.declared.hub.Pass.{Pass}
use Rattle.hub_cell.specs.Passes.{config_of, core_of, first_of, keeping_of}
use Rattle.hub_store.specs.declared.fault.Unopened.{Unopened}
use Rattle.hub_store.specs.declared.fault.HubOption.{HubOption}
use Rattle.hub_store.specs.declared.fault.StoreFault.{StoreFault}
use Rattle.hub_store.specs.declared.fault.StoreFault.TheVariants as fault
use Rattle.hub_store.specs.Opens.{BeginsAnew, BeginsBehind, Differs, GoesOn, Left, NotBegun, NotBegunBy, WhyClosed, WhyUnsettled}
use Rattle.hub_store.specs.Stores.{ByJournal, Found, HasOptions, is_cut, IsLeft, IsOver, IsToGoOn, IsUnfinished, IsUnlisted, NoNode, StandsFor}

-- ---- callers

at-most : (n m : ℕ) (H : List Entry) → n ≤ m → AllFit (AtMost n) H → AllFit (AtMost m) H
at-most n m [] less fit = tt
at-most n m (e ∷ H) less fit = (omega (arith, less, fit.0), at-most n m H less fit.1)

pub none_above : (H : List Entry) → AllFit (AtMost (most_caller H)) H
none_above [] = tt
none_above (e ∷ H) = (omega arith, at-most (most_caller H) (max e.caller (most_caller H)) H (omega arith) (none_above H))

-- ---- a journal that begins

bare : (c : HubConfig) (kept : Option (List ℕ)) → IfSome kept (λ bytes. bytes ≡ head_bytes c) → Keeps c [] kept
bare c None h = tt
bare c (Some bytes) h = record { entries_fit = tt; spelled = h ∙ sym (append-nil (head_bytes c)) }

pub empty_read : (c : HubConfig) (ledger : GridLedger) (listener : Replay) (keeping : Keeping) (most : ℕ) → ledger.config ≡ c → Stands ledger [] → Shows listener [] → IfSome (kept_by keeping) (λ bytes. bytes ≡ head_bytes c) → HasRead ledger listener keeping most []
empty_read c ledger listener keeping most same stands shows kept = record {
  stands = stands;
  shows = shows;
  callers = tt;
  keeps = subst (λ (d : HubConfig). Keeps d [] (kept_by keeping)) (sym same) (bare c (kept_by keeping) kept);
}

pub is_read : (ledger : GridLedger) (listener : Replay) (keeping : Keeping) (most : ℕ) (H : List Entry) → HasRead ledger listener keeping most H → IsRead ledger listener keeping most
is_read ledger listener keeping most H read = record { history = H; has_read = read }

pub begins_of : (c : HubConfig) (ledger : GridLedger) (listener : Replay) (keeping : Keeping) (most : ℕ) (core : HubCore) (now : Keeping) (first : ℕ) → ledger.config ≡ c →
    GoesOnFrom ledger listener keeping most core now first → HasRead ledger listener keeping most [] → Continues c core now first []
begins_of c ledger listener keeping most core now first same goes read = subst (λ (d : HubConfig). Continues d core now first []) same (goes.of [] read)

rose_from : (before after : ℕ) → Rose before after → Rose 0 after
rose_from before after (inl more) = inl (omega (arith, more))
rose_from before after (inr most) = inr most

not_begun : (ledger : GridLedger) (listener : Replay) (keeping : Keeping) (most at : ℕ) (now : Keeping) (f : OpeningFault) → HasRead ledger listener keeping most [] → WhyNot ledger listener keeping most at now f → NotBegun most at now f
not_begun ledger listener keeping most at now opening_fault.Unkept read why = rose_from _ _ why
not_begun ledger listener keeping most at now opening_fault.Late read why = omega (arith, why [] read)
not_begun ledger listener keeping most at now opening_fault.Numbers read why = why [] read
not_begun ledger listener keeping most at now opening_fault.Memory read why = tt

-- by what came back of it
pub not_begun_as : (ledger : GridLedger) (listener : Replay) (keeping : Keeping) (most at : ℕ) (now kept : Keeping) (f : OpeningFault) (g : StoreFault) → HasRead ledger listener keeping most [] → WhyNot ledger listener keeping most at now f → g ≡ fault.Opening f → kept ≡ now → NotBegunBy most at kept g
not_begun_as ledger listener keeping most at now kept f g read why is same =
    subst (λ (s : StoreFault). NotBegunBy most at kept s) (sym is) (subst (λ (k : Keeping). NotBegun most at k f) (sym same) (not_begun ledger listener keeping most at now f read why))

-- what keeps the head alone
pub keeps_head : (c : HubConfig) (head : List ℕ) (given kept : Option (List ℕ)) → kept ≡ option_map (λ bytes. head) given → head ≡ head_bytes c → IfSome kept (λ bytes. bytes ≡ head_bytes c)
keeps_head c head None kept is same = subst (λ (o : Option (List ℕ)). IfSome o (λ bytes. bytes ≡ head_bytes c)) (sym is) tt
keeps_head c head (Some given) kept is same = subst (λ (o : Option (List ℕ)). IfSome o (λ bytes. bytes ≡ head_bytes c)) (sym is) same

-- ---- why there is no hub

pub if_err : {A E : Type 0} (P Q : E → Type 0) (r : Result A E) → ((e : E) → P e → Q e) → IfErr r P → IfErr r Q
if_err P Q (Ok x) f h = h
if_err P Q (Err e) f h = f e h

pub if_ok : {A E : Type 0} (P Q : A → Type 0) (r : Result A E) → ((x : A) → P x → Q x) → IfOk r P → IfOk r Q
if_ok P Q (Ok x) f h = f x h
if_ok P Q (Err e) f h = h

pub both_ok : {A E : Type 0} (P Q S : A → Type 0) (r : Result A E) → ((x : A) → P x → Q x → S x) → IfOk r P → IfOk r Q → IfOk r S
both_ok P Q S (Ok x) f p q = f x p q
both_ok P Q S (Err e) f p q = p

closed_begun : (told : HubConfig) (given : Option (List ℕ)) (before after at most : ℕ) (keeping : Keeping) (f : OpeningFault) → (2 ^ 64 - 1 ≤ most → Left given (λ config history. 2 ^ 64 - 1 ≤ most_caller history)) → NotBegun most at keeping f →
    WhyUnsettled given at keeping f
closed_begun told given before after at most keeping opening_fault.Unkept most_is why = why
closed_begun told given before after at most keeping opening_fault.Late most_is why = inl why
closed_begun told given before after at most keeping opening_fault.Numbers most_is why = most_is why
closed_begun told given before after at most keeping opening_fault.Memory most_is why = tt

pub closed_as : (told : HubConfig) (given : Option (List ℕ)) (before after now at most : ℕ) (keeping : Keeping) (f : StoreFault) → at ≡ now → (2 ^ 64 - 1 ≤ most → Left given (λ config history. 2 ^ 64 - 1 ≤ most_caller history)) → NotBegunBy most at keeping f →
    WhyClosed told given before after now keeping f
closed_as told given before after now at most keeping fault.Memory same most_is why = tt
closed_as told given before after now at most keeping fault.Failed same most_is why = absurd why
closed_as told given before after now at most keeping (fault.Verdict v) same most_is why = absurd why
closed_as told given before after now at most keeping (fault.Option name) same most_is why = absurd why
closed_as told given before after now at most keeping (fault.Opening f) same most_is why =
    subst (λ (n : ℕ). WhyUnsettled given n keeping f) same (closed_begun told given before after at most keeping f most_is why)

pub few : (given : Option (List ℕ)) → 2 ^ 64 - 1 ≤ 0 → Left given (λ config history. 2 ^ 64 - 1 ≤ most_caller history)
few given h = absurd (omega (arith, h))

pub many : (given : Option (List ℕ)) (j : Journal Replay) (found : Found given j) (most : ℕ) → most ≡ most_caller found.history → 2 ^ 64 - 1 ≤ most → Left given (λ config history. 2 ^ 64 - 1 ≤ most_caller history)
many given j found most is h = record { config = j.ledger.config; history = found.history; left = found.left; holds = subst (λ (n : ℕ). 2 ^ 64 - 1 ≤ n) is h }

-- a count that did not fall before
rose_before : (first before after : ℕ) → first ≤ before → Rose before after → Rose first after
rose_before first before after less (inl more) = inl (omega (arith, less, more))
rose_before first before after less (inr most) = inr most

pub why_since : (told : HubConfig) (given now : Option (List ℕ)) (first before after at : ℕ) (keeping : Keeping) (f : StoreFault) → now ≡ given → first ≤ before → WhyClosed told given before after at keeping f → WhyClosed told now first after at keeping f
why_since told given now first before after at keeping f same less why = subst (λ (o : Option (List ℕ)). WhyClosed told o first after at keeping f) (sym same) (by_fault f why)
  where
    by_fault : (f : StoreFault) → WhyClosed told given before after at keeping f → WhyClosed told given first after at keeping f
    by_fault fault.Memory why = tt
    by_fault fault.Failed why = rose_before first before after less why
    by_fault (fault.Verdict v) why = why
    by_fault (fault.Option name) why = why
    by_fault (fault.Opening f) why = why

-- ---- whether a hub goes on or begins behind

none_there : (H : List Entry) (n : ℕ) → n ≡ length H → n ≡ 0 → H ≡ []
none_there [] n is none = refl
none_there (e ∷ H) n is none = absurd (cc)

unfinished_by : (j : Journal Replay) (H : List Entry) → StandsFor j H → IsToGoOn j → IsUnfinished H
unfinished_by j H stands_for (inl none) = inl (none_there H j.entries stands_for.count none)
unfinished_by j H stands_for (inr ongoing) = inr (ongoing.of H stands_for.stands)

-- the next numbers are numbers that a hub may begin with
pub valid_behind : (told next : HubConfig) → HasOptions told next → 1 ≤ next.first_node → 1 ≤ next.first_request → IsValid told → IsValid next
valid_behind told next same node request valid = record {
  timeout_least = subst (λ (n : ℕ). LEAST_QUEUE_TIME_MS ≤ n) (sym same.timeout) valid.timeout_least;
  timeout_most = subst (λ (n : ℕ). n ≤ MOST_QUEUE_TIME_MS) (sym same.timeout) valid.timeout_most;
  idle_least = subst (λ (n : ℕ). LEAST_IDLE_MS ≤ n) (sym same.idle) valid.idle_least;
  idle_most = subst (λ (n : ℕ). n ≤ MOST_IDLE_MS) (sym same.idle) valid.idle_most;
  lapse_least = subst (λ (n : ℕ). LEAST_LAPSE_MS ≤ n) (sym same.lapse) valid.lapse_least;
  lapse_most = subst (λ (n : ℕ). n ≤ MOST_LAPSE_MS) (sym same.lapse) valid.lapse_most;
  queue_least = subst (λ (n : ℕ). 1 ≤ n) (sym same.queue) valid.queue_least;
  queue_most = subst (λ (n : ℕ). n ≤ MOST_REQUESTS) (sym same.queue) valid.queue_most;
  first_node = node;
  first_request = request;
  down_least = omega (arith, same.lapse, same.down, valid.down_least);
  down_most = subst (λ (n : ℕ). n ≤ MOST_DOWN_MS) (sym same.down) valid.down_most;
}

-- ---- a journal that was found

found_keeps : (c : HubConfig) (H : List Entry) (given kept : Option (List ℕ)) (whole : ℕ) → IsLeft given c H → whole ≡ length (journal_bytes c H) → kept ≡ option_map (take whole) given → Keeps c H kept
found_keeps c H None kept whole left place is = subst (λ (o : Option (List ℕ)). Keeps c H o) (sym is) tt
found_keeps c H (Some told) kept whole left place is = subst (λ (o : Option (List ℕ)). Keeps c H o) (sym is) (record {
  entries_fit = left.journal.entries_fit;
  spelled = ap (take whole) (left.are ∙ left.journal.spelled) ∙ ap (λ (n : ℕ). take n (journal_bytes c H ++ left.rest)) place ∙ take-append_seam (journal_bytes c H) left.rest;
})

pub found_read : (given : Option (List ℕ)) (j : Journal Replay) (keeping : Keeping) (most : ℕ) (found : Found given j) → most ≡ most_caller found.history → kept_by keeping ≡ option_map (take j.whole) given → HasRead j.ledger j.listener keeping most found.history
found_read given j keeping most found is kept = record {
  stands = found.stands_for.stands;
  shows = found.stands_for.shows;
  callers = subst (λ (n : ℕ). AllFit (AtMost n) found.history) (sym is) (none_above found.history);
  keeps = found_keeps j.ledger.config found.history given (kept_by keeping) j.whole found.left found.stands_for.place kept;
}

closed_found : (given : Option (List ℕ)) (j : Journal Replay) (at most : ℕ) (keeping now : Keeping) (f : OpeningFault) (found : Found given j) → most ≡ most_caller found.history → kept_by keeping ≡ option_map (take j.whole) given →
    WhyNot j.ledger j.listener keeping most at now f → WhyUnsettled given at now f
closed_found given j at most keeping now opening_fault.Unkept found is kept why = rose_from _ _ why
closed_found given j at most keeping now opening_fault.Late found is kept why = inr (record { config = j.ledger.config; history = found.history; left = found.left; holds = why found.history (found_read given j keeping most found is kept) })
closed_found given j at most keeping now opening_fault.Numbers found is kept why = many given j found most is (why found.history (found_read given j keeping most found is kept))
closed_found given j at most keeping now opening_fault.Memory found is kept why = tt

pub closed_found_as : (told : HubConfig) (given : Option (List ℕ)) (j : Journal Replay) (before after moment at most : ℕ) (keeping now kept : Keeping) (f : OpeningFault) (g : StoreFault) (found : Found given j) → most ≡ most_caller found.history →
    kept_by keeping ≡ option_map (take j.whole) given → at ≡ moment → WhyNot j.ledger j.listener keeping most at now f → g ≡ fault.Opening f → kept ≡ now → WhyClosed told given before after moment kept g
closed_found_as told given j before after moment at most keeping now kept f g found is bytes there why same_fault same =
    subst (λ (s : StoreFault). WhyClosed told given before after moment kept s) (sym same_fault)
    (subst (λ (k : Keeping). WhyUnsettled given moment k f) (sym same) (subst (λ (n : ℕ). WhyUnsettled given n now f) there (closed_found given j at most keeping now f found is bytes why)))

pub goes_on : (told : HubConfig) (given : Option (List ℕ)) (j : Journal Replay) (keeping : Keeping) (most : ℕ) (config : HubConfig) (core : HubCore) (now : Keeping) (first : ℕ) (found : Found given j) → IsToGoOn j → HasOptions told j.ledger.config → config ≡ j.ledger.config →
    most ≡ most_caller found.history → kept_by keeping ≡ option_map (take j.whole) given → GoesOnFrom j.ledger j.listener keeping most core now first → first ≡ most + 1 → GoesOn told given config core now first
goes_on told given j keeping most config core now first found unfinished options same is bytes goes next = record {
  history = found.history;
  left = subst (λ (d : HubConfig). IsLeft given d found.history) (sym same) found.left;
  unfinished = unfinished_by j found.history found.stands_for unfinished;
  options = subst (λ (d : HubConfig). HasOptions told d) (sym same) options;
  continues = subst (λ (d : HubConfig). Continues d core now first found.history) (sym same) (goes.of found.history (found_read given j keeping most found is bytes));
  next = next ∙ ap (λ (n : ℕ). n + 1) is;
}

pub closed_option : (told : HubConfig) (given : Option (List ℕ)) (j : Journal Replay) (before after at : ℕ) (kept : Keeping) (config : HubConfig) (name : HubOption) (g : StoreFault) → Found given j → IsToGoOn j → g ≡ fault.Option name → config ≡ j.ledger.config → Differs name told config → WhyClosed told given before after at kept g
closed_option told given j before after at kept config name g found unfinished is same differs =
    subst (λ (s : StoreFault). WhyClosed told given before after at kept s) (sym is)
    (record { config = j.ledger.config; history = found.history; left = found.left; holds = (subst (λ (d : HubConfig). Differs name told d) same differs, unfinished_by j found.history found.stands_for unfinished) })

pub begins_behind : (told next : HubConfig) (given aside : Option (List ℕ)) (j : Journal Replay) (most : ℕ) (config : HubConfig) (core : HubCore) (now : Keeping) (first : ℕ) (found : Found given j) → 1 ≤ j.entries → HasOptions told next →
    LedgerTells j.ledger (λ H. next.first_node ≡ next_node j.ledger.config H) → LedgerTells j.ledger (λ H. next.first_request ≡ next_request j.ledger.config H) → LedgerTells j.ledger IsOver →
    aside ≡ given → most ≡ most_caller found.history → config ≡ next → Continues next core now first [] → first ≡ most + 1 → BeginsBehind told given aside config core now first
begins_behind told next given aside j most config core now first found some options nodes requests over is_aside is same begins after =
    subst (λ (d : HubConfig). BeginsBehind told given aside d core now first) (sym same) (record {
      before = j.ledger.config;
      history = found.history;
      left = found.left;
      some = subst (λ (n : ℕ). 1 ≤ n) found.stands_for.count some;
      over = over.of found.history found.stands_for.stands;
      options = options;
      nodes = nodes.of found.history found.stands_for.stands;
      requests = requests.of found.history found.stands_for.stands;
      is_aside = is_aside;
      begins = begins;
      next = after ∙ ap (λ (n : ℕ). n + 1) is;
    })

-- ---- what came of it

pub anew_ok : (told : HubConfig) (given : Option (List ℕ)) (r : Result (SharedHub × Pass) Unopened) → IfSome given (λ bytes. HeadRead bytes step.More) → IfOk r (λ x. config_of x.0 ≡ told) →
    IfOk r (λ x. Continues told (core_of x.0) (keeping_of x.0) (first_of x.0) []) → IfOk r (λ x. first_of x.0 ≡ 0 + 1) → IfOk r (λ x. BeginsAnew told given (config_of x.0) (core_of x.0) (keeping_of x.0) (first_of x.0))
anew_ok told given (Ok x) cut same begins next = record { cut = cut; same = same; begins = subst (λ (d : HubConfig). Continues d (core_of x.0) (keeping_of x.0) (first_of x.0) []) (sym same) begins; next = next }
anew_ok told given (Err e) cut same begins next = tt

pub behind_ok : (told next : HubConfig) (given aside : Option (List ℕ)) (j : Journal Replay) (most : ℕ) (r : Result (SharedHub × Pass) Unopened) (found : Found given j) → 1 ≤ j.entries → HasOptions told next →
    LedgerTells j.ledger (λ H. next.first_node ≡ next_node j.ledger.config H) → LedgerTells j.ledger (λ H. next.first_request ≡ next_request j.ledger.config H) → LedgerTells j.ledger IsOver →
    aside ≡ given → most ≡ most_caller found.history → IfOk r (λ x. config_of x.0 ≡ next) → IfOk r (λ x. Continues next (core_of x.0) (keeping_of x.0) (first_of x.0) []) → IfOk r (λ x. first_of x.0 ≡ most + 1) →
    IfOk r (λ x. BeginsBehind told given aside (config_of x.0) (core_of x.0) (keeping_of x.0) (first_of x.0))
behind_ok told next given aside j most (Ok x) found some options nodes requests over is_aside is same begins after =
    begins_behind told next given aside j most (config_of x.0) (core_of x.0) (keeping_of x.0) (first_of x.0) found some options nodes requests over is_aside is same begins after
behind_ok told next given aside j most (Err e) found some options nodes requests over is_aside is same begins after = tt

-- ---- what was read

were : (old new : Option (List ℕ)) (bytes : List ℕ) → IfSome old (λ told. told ≡ []) → (is_none old ≡ true → is_none new ≡ true) → Gains old new bytes → IfSome new (λ told. told ≡ bytes)
were None None bytes unread untold gains = tt
were None (Some told) bytes unread untold gains = absurd (let h = untold refl in cc)
were (Some before) new bytes unread untold gains =
    subst (λ (o : Option (List ℕ)). IfSome o (λ told. told ≡ bytes)) (sym gains) (ap (λ (l : List ℕ). l ++ bytes) unread)

if_some : {A : Type 0} (P Q : A → Type 0) (o : Option A) → ((x : A) → P x → Q x) → IfSome o P → IfSome o Q
if_some P Q None f h = tt
if_some P Q (Some x) f h = f x h

pub says_of : (old new : Option (List ℕ)) (v : Verdict) → IfSome old (λ told. told ≡ []) → (is_none old ≡ true → is_none new ≡ true) → IsVerdict old new v → IfSome new (Says v)
says_of old new v unread untold is =
    if_some (λ told. told ≡ is.bytes) (Says v) new (λ told same. subst (Says v) (sym same) is.says) (were old new is.bytes unread untold is.gains)

ends_of : (v : Verdict) (entries whole : ℕ) (rest : List ℕ) → Leaves v entries whole rest → (rest ≡ []) ⊎ ((1 ≤ length rest) × BeginsEntry rest)
ends_of (verdict.Legal number) entries whole rest h = inl h.1
ends_of (verdict.Cut at) entries whole rest h = inr (h.1, h.2)
ends_of (verdict.Illegal entry) entries whole rest h = absurd h
ends_of (verdict.Bad at) entries whole rest h = absurd h
ends_of verdict.NotJournal entries whole rest h = absurd h
ends_of verdict.Limit entries whole rest h = absurd h

pub found_of : (old new : Option (List ℕ)) (v : Verdict) (found : Option (Journal Replay)) → IfSome old (λ told. told ≡ []) → (is_none old ≡ true → is_none new ≡ true) → of_check.ByJournal Shows old new v found → ByJournal new v found
found_of old new v None unread untold h = h
found_of old new v (Some j) unread untold h = record {
  history = h.history;
  left = record { bytes = h.bytes; rest = h.rest; are = were old new h.bytes unread untold h.gains; journal = h.journal; ends = ends_of v j.entries j.whole h.rest h.leaves };
  stands_for = record { stands = h.stands; shows = h.was_heard; count = h.count; place = h.place };
}

-- a head is no entry that is cut
some_head : (c : HubConfig) (H : List Entry) → 0 ≡ length (journal_bytes c H) → ⊥
some_head c H e = absurd (cc)

cut_of : (at : ℕ) (bytes : List ℕ) → at ≡ 0 → Says (verdict.Cut at) bytes → HeadRead bytes step.More
cut_of at bytes is (inl head) = head.begins
cut_of at bytes is (inr entry) = absurd (some_head entry.config entry.history (sym is ∙ entry.place))

pub cut_head : (given : Option (List ℕ)) (v : Verdict) → is_cut v ≡ true → LeavesNone v → IfSome given (Says v) → IfSome given (λ bytes. HeadRead bytes step.More)
cut_head given (verdict.Cut at) cut none says = if_some (Says (verdict.Cut at)) (λ bytes. HeadRead bytes step.More) given (λ bytes. cut_of at bytes none) says
cut_head given other cut none says = absurd (cc)

goes_no_further : (v : Verdict) → is_cut v ≡ false → LeavesNone v → tells_end v ≡ false
goes_no_further (verdict.Cut at) cut none = absurd (cc)
goes_no_further (verdict.Legal entries) cut none = absurd none
goes_no_further (verdict.Illegal entry) cut none = refl
goes_no_further (verdict.Bad at) cut none = refl
goes_no_further verdict.NotJournal cut none = refl
goes_no_further verdict.Limit cut none = refl

pub refused_as : (told : HubConfig) (given : Option (List ℕ)) (before after at : ℕ) (keeping : Keeping) (v : Verdict) (g : StoreFault) → g ≡ fault.Verdict v → is_cut v ≡ false → LeavesNone v → IfSome given (Says v) → WhyClosed told given before after at keeping g
refused_as told given before after at keeping v g is cut none says =
    subst (λ (s : StoreFault). WhyClosed told given before after at keeping s) (sym is) (record { ends = goes_no_further v cut none; says = says })

-- ---- nodes that are listed

below_or : (i j : ℕ) → j < i + 1 → (j < i) ⊎ (j ≡ i)
below_or i j h = elim (nat_lt j i) as (λ v. nat_lt j i ≡ v → (j < i) ⊎ (j ≡ i)) [
  | true ↦ λ e. inl (grind (arith, nat_tests))
  | false ↦ λ e. inr (grind (arith, nat_tests))
] refl

pub one_more : (H : List Entry) (first n : ℕ) → IsUnlisted H n → ((m : ℕ) → first ≤ m → m < n → IsUnlisted H m) → (m : ℕ) → first ≤ m → m < n + 1 → IsUnlisted H m
one_more H first n here before m least below = by_place (below_or n m below)
  where
    by_place : (m < n) ⊎ (m ≡ n) → IsUnlisted H m
    by_place (inl h) = before m least h
    by_place (inr e) = subst (λ (k : ℕ). IsUnlisted H k) (sym e) here

none_of : (H : List Entry) (first count : ℕ) → ((m : ℕ) → first ≤ m → m < first + count → IsUnlisted H m) → filter (is_listed H) (numbers_from first count) ≡ []
none_of H first zero none = refl
none_of H first (suc count) none = rw (none first (omega arith) (omega arith)) (none_of H (first + 1) count (λ m least below. none m (omega (arith, least)) (omega (arith, below))))

pub no_node : Known → (c : HubConfig) (H : List Entry) → legal c H ≡ true → ((m : ℕ) → c.first_node ≤ m → m < next_node c H → IsUnlisted H m) → NoNode H
no_node proved c H l none =
    ap (filter (is_listed H)) (((laws proved).numbered c).of_nodes H l) ∙ none_of H c.first_node (length (nodes H)) none
