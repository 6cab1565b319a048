-- What a driver is told of a call that is kept.
use Rattle.std.proofs.Common.{◌≡◌, ◌≤◌, ◌⊎◌, ◌∙◌, [], ℕ, Bool, true, false, refl, sym, ap, subst, inl, inr, arith}
use Rattle.std.specs.Prelude.{List, Option, None, Some, IfSome, is_some, not, Result, Ok, Err, OnOk, OnErr, is_ok, IsErrOf}
use Rattle.grid_types.specs.declared.text.NoMemory.{NoMemory}
use Rattle.grid_types.specs.declared.config.HubConfig.{HubConfig}
use Rattle.grid_types.specs.declared.entry.Entry.{Entry}
use Rattle.grid_types.specs.Tokens.{Closing}
use Rattle.grid_types.specs.Calls.{Call, Reply}
use Rattle.grid_types.specs.HubAnswers.{hub}
use Rattle.grid_outside.specs.Counts.{Rose}
use Rattle.hub_core.specs.Answers.{Answers, IsExact}
use Rattle.hub_core.specs.HubView.{HubView, past, ServesLocally}
use Rattle.own_hub.specs.Own.{AnswersOrStops, HasAnswered, HasRoom, Roomed, Stops}
use Rattle.grid_keeper.specs.Replays.{IsImage}
use Rattle.row_keeper.specs.Disks.{Disk}
use Rattle.grid_keeper.specs.Keeping.{IsOpen, KeptServes, KeptFails, KeptCall, NotMade, WentTold, freed_reply}
use Rattle.grid_keeper.specs.Runs.{room_made, call_kept, Ran, Ended, kept_own}
use Rattle.grid_keeper.specs.declared.kept_hub.KeptHub.{KeptHub}
use Rattle.grid_keeper.specs.declared.kept_hub.KeptFault.{KeptFault}
use Rattle.grid_keeper.specs.declared.kept_hub.KeptFault.TheVariants as fault
use Rattle.grid_keeper.proofs.AlongLemmas.{along_on, served_along, failed_along, room_along}

rose_since : (a b c : ℕ) → a ≤ b → Rose b c → Rose a c
rose_since a b c le (inl more) = inl (omega (arith, le, more))
rose_since a b c le (inr most) = inr most

-- a slot is freed so at any moment
freed_then : (c : HubConfig) (H : List Entry) (t : Closing) (at : ℕ) (later : List Entry) → IsExact c H 0 (Call.freed t) 0 (Some Reply.is_freed) later → IsExact c H 0 (Call.freed t) at (Some Reply.is_freed) later
unfolding hub
freed_then c H t at later exact = record { replies = refl; goes_on = exact.goes_on }

freed_answers : (c : HubConfig) (H : List Entry) (t : Closing) (at : ℕ) (later : List Entry) → Answers c H 0 (Call.freed t) 0 (Some Reply.is_freed) later → Answers c H 0 (Call.freed t) at (Some Reply.is_freed) later
freed_answers c H t at later (inl exact) = inl (freed_then c H t at later exact)
freed_answers c H t at later (inr lack) = absurd (cc lack.silent)

freed_serves : (old new : HubView) (t : Closing) (at : ℕ) → ServesLocally old (Call.freed t) 0 (Some Reply.is_freed) new → ServesLocally old (Call.freed t) at (Some Reply.is_freed) new
freed_serves old new t at x = record {
  serves = record {
    answers = freed_answers old.config (past old) t at (past new) x.serves.answers;
    is_legal = x.serves.is_legal;
    is_safe = x.serves.is_safe;
    gives = x.serves.gives;
    keeps_tickets = x.serves.keeps_tickets;
    keeps_reservations = x.serves.keeps_reservations;
    keeps_closings = x.serves.keeps_closings;
  };
  same_config = x.same_config;
  same_room = x.same_room;
}

told_so : {A : Type 0} (is : KeptFault) → is ≡ fault.Keeper → IsErrOf {T = A} (Err is) fault.Keeper
told_so is e = cc e

module _ {K : Type 0} (disk : K → Option Disk) (count : K → ℕ) where
  -- one call more was kept
  ran_on : (first old new : KeptHub K) (call : Call) (at : ℕ) (reply : Option Reply) → Ran disk count first old → KeptServes disk old call at reply new → count old.keeper ≤ count new.keeper → Ran disk count first new
  ran_on first old new call at reply ran kept later = record {
    runs = call_kept first old new call at reply ran.runs kept;
    went = along_on disk first old new (served_along disk old new call at reply kept) ran.went;
    later = omega (arith, ran.later, later);
  }

  -- one call more was not
  ended_there : (first old new : KeptHub K) (call : Call) (at : ℕ) (is : KeptFault) → Ran disk count first old → KeptFails disk old call at new → count old.keeper ≤ count new.keeper
      → (is ≡ fault.Keeper → Rose (count old.keeper) (count new.keeper)) → Ended disk count first is new
  ended_there first old new call at is ran fails later cause = record {
    broke = record { last = old; runs = ran.runs; call = call; at = at; fails = fails };
    went = along_on disk first old new (failed_along disk old new call at fails) ran.went;
    later = omega (arith, ran.later, later);
    cause = λ e. rose_since (count first.keeper) (count old.keeper) (count new.keeper) ran.later (cause e);
  }

  pub came : {A : Type 0} (replies : A → Option Reply) (old new : KeptHub K) (call : Call) (at : ℕ) (result : Result A KeptFault) → KeptCall disk old call at replies result new → count old.keeper ≤ count new.keeper
      → (IsErrOf result fault.Keeper → Rose (count old.keeper) (count new.keeper)) → AnswersOrStops (kept_own disk count) replies old call at result new
  came replies old new call at (Ok a) kept later cause = record {
    serves = kept.serves;
    goes = record { is_open = kept.stays_open; along = λ first ran. ran_on first old new call at (replies a) ran kept later };
  }
  came replies old new call at (Err is) fails later cause = λ first ran. ended_there first old new call at is ran fails later (λ e. cause (told_so is e))

  pub freed_came : (old new : KeptHub K) (t : Closing) (at : ℕ) (result : Result (Unit {0}) KeptFault) → KeptCall disk old (Call.freed t) 0 freed_reply result new → count old.keeper ≤ count new.keeper
      → (IsErrOf result fault.Keeper → Rose (count old.keeper) (count new.keeper)) → AnswersOrStops (kept_own disk count) freed_reply old (Call.freed t) at result new
  freed_came old new t at (Ok u) kept later cause = record {
    serves = freed_serves old.hub new.hub t at kept.serves;
    goes = record { is_open = kept.stays_open; along = λ first ran. ran_on first old new (Call.freed t) 0 (freed_reply u) ran kept later };
  }
  freed_came old new t at (Err is) fails later cause = λ first ran. ended_there first old new (Call.freed t) 0 is ran fails later (λ e. cause (told_so is e))

  -- room was made, or not
  has : (result : Result (Unit {0}) NoMemory) (old new : HubView) → OnOk result (new ≡ record old { room = true }) → OnErr result (new ≡ old) → HasRoom (is_ok result) old new
  has (Ok a) old new made same = made
  has (Err e) old new made same = same

  same_past : (result : Result (Unit {0}) NoMemory) (old new : HubView) → OnOk result (new ≡ record old { room = true }) → OnErr result (new ≡ old) → past new ≡ past old
  same_past (Ok a) old new made same = ap past made
  same_past (Err e) old new made same = ap past same

  same_config : (result : Result (Unit {0}) NoMemory) (old new : HubView) → OnOk result (new ≡ record old { room = true }) → OnErr result (new ≡ old) → new.config ≡ old.config
  same_config (Ok a) old new made same = ap (λ (h : HubView). h.config) made
  same_config (Err e) old new made same = ap (λ (h : HubView). h.config) same

  pub roomed : (old new : KeptHub K) (result : Result (Unit {0}) NoMemory) → IsOpen disk old → IsOpen disk new → OnOk result (new.hub ≡ record old.hub { room = true }) → OnErr result (new.hub ≡ old.hub) → new.keeper ≡ old.keeper
      → Roomed (kept_own disk count) (is_ok result) old new
  roomed old new result was_open is_open made same keeper = record {
    room = has result old.hub new.hub made same;
    goes = record { is_open = is_open; along = λ first ran. on first ran };
  }
    where
      counts : (a : ℕ) → a ≤ count old.keeper → a ≤ count new.keeper
      counts a le = subst (λ (k : K). a ≤ count k) (sym keeper) le

      on : (first : KeptHub K) → Ran disk count first old → Ran disk count first new
      on first ran = record {
        runs = room_made first old new ran.runs (record {
          same_config = same_config result old.hub new.hub made same;
          same_past = same_past result old.hub new.hub made same;
          same_keeper = keeper;
          is_open = is_open;
        });
        went = along_on disk first old new (room_along disk old new result was_open made same keeper) ran.went;
        later = counts (count first.keeper) ran.later;
      }

  -- ---- a bind, which may not be made

  told_still : (c : HubConfig) (H : List Entry) (told : Option Disk) → IfSome told (λ d. IsImage c d.rows H) → WentTold c H H told told
  told_still c H None image = refl
  told_still c H (Some d) image = (d, refl, record { added = []; goes_on = refl; images = tt; rows = inl image })

  pub bind_kept : (old new : KeptHub K) (call : Call) (at : ℕ) (reply : Option Reply) (lacks : Bool) → lacks ≡ not (is_some reply) → lacks ≡ false → KeptServes disk old call at reply new ⊎ NotMade disk old reply new
      → count old.keeper ≤ count new.keeper → HasAnswered (kept_own disk count) old call at reply new
  bind_kept old new call at reply lacks is has (inl kept) later = record {
    serves = kept.serves;
    goes = record { is_open = kept.stays_open; along = λ first ran. ran_on first old new call at reply ran kept later };
  }
  bind_kept old new call at reply lacks is has (inr not_made) later = absurd (never (subst (λ (r : Option Reply). lacks ≡ not (is_some r)) not_made.silent is))
    where
      never : lacks ≡ true → ⊥
      never so = absurd (cc (so, has))

  closed_fails : (old mid new : KeptHub K) (call : Call) (at : ℕ) (reply : Option Reply) → IsOpen disk old → KeptServes disk old call at reply mid ⊎ NotMade disk old reply mid → new.hub ≡ mid.hub → new.keeper ≡ mid.keeper → new.is_open ≡ false
      → KeptFails disk old call at new
  closed_fails old mid new call at reply was_open (inl kept) same_hub same_keeper closed = record {
    closed = closed;
    same_config = ap (λ (h : HubView). h.config) same_hub ∙ kept.serves.same_config;
    hub_went = inr (reply, subst (λ (h : HubView). ServesLocally old.hub call at reply h) (sym same_hub) kept.serves);
    disk_went = subst (λ (h : HubView). WentTold old.hub.config (past old.hub) (past h) (disk old.keeper) (disk new.keeper)) (sym same_hub)
        (subst (λ (k : K). WentTold old.hub.config (past old.hub) (past mid.hub) (disk old.keeper) (disk k)) (sym same_keeper) kept.disk_went);
  }
  closed_fails old mid new call at reply was_open (inr not_made) same_hub same_keeper closed =
      let hubs : new.hub ≡ old.hub = same_hub ∙ ap (λ (k : KeptHub K). k.hub) not_made.same in
      let keepers : new.keeper ≡ old.keeper = same_keeper ∙ ap (λ (k : KeptHub K). k.keeper) not_made.same in
      record {
        closed = closed;
        same_config = ap (λ (h : HubView). h.config) hubs;
        hub_went = inl (ap past hubs);
        disk_went = subst (λ (h : HubView). WentTold old.hub.config (past old.hub) (past h) (disk old.keeper) (disk new.keeper)) (sym hubs)
            (subst (λ (k : K). WentTold old.hub.config (past old.hub) (past old.hub) (disk old.keeper) (disk k)) (sym keepers)
            (told_still old.hub.config (past old.hub) (disk old.keeper) was_open.stands));
      }

  pub bind_closed : (old mid new : KeptHub K) (call : Call) (at : ℕ) (reply : Option Reply) (is : KeptFault) → is ≡ fault.Memory → IsOpen disk old → KeptServes disk old call at reply mid ⊎ NotMade disk old reply mid → new.hub ≡ mid.hub
      → new.keeper ≡ mid.keeper → new.is_open ≡ false → count old.keeper ≤ count mid.keeper → Stops (kept_own disk count) old is new
  bind_closed old mid new call at reply is memory was_open went same_hub same_keeper closed later = λ first ran.
      ended_there first old new call at is ran (closed_fails old mid new call at reply was_open went same_hub same_keeper closed)
      (subst (λ (k : K). count old.keeper ≤ count k) (sym same_keeper) later) (λ e. absurd (cc (e, memory)))
