-- How a log goes on behind an end of its input.
use Rattle.std.proofs.Common.{◌≡◌, ℕ, ◌+◌, List, inl, inr, refl, sym, ◌∙◌, ap, subst, add-one, arith}
use Rattle.std.specs.Prelude.{Option, None, Some, IfSome}
use Rattle.grid_types.specs.declared.config.HubConfig.{HubConfig}
use Rattle.grid_types.specs.declared.entry.Entry.{Entry}
use Rattle.grid_outside.specs.Counts.{Rose}
use Rattle.grid_outside.specs.Told.{Gains, Pauses, paused}
use Rattle.journal_reader.specs.declared.reader.Ending.{Ending}
use Rattle.journal_reader.specs.declared.reader.Ending.TheVariants as ending
use Rattle.journal_reader.specs.Readings.{Told, HasRead, asked_again, tells_end}
use Rattle.grid_log.specs.declared.form.Form.{Form}
use Rattle.grid_log.specs.declared.log.Logging.{Logging}
use Rattle.grid_log.specs.declared.telling.Teller.{Teller}
use Rattle.grid_log.specs.declared.log.TheConstants.{PAUSE_MS}
use Rattle.grid_log.specs.Events.{log_on}
use Rattle.grid_log.specs.Recalls.{recalled}
use Rattle.grid_log.specs.Logs.{Input, Output, Start, FoundEnds, LogEnds, MayGoOn, ending_status, head_cut, input_of, journal_ended, no_journal, no_memory, read_failed, reading_of, start_at, waited, write_failed}
use Rattle.grid_log.specs.Logging.{HasLogged, IsWritten}

-- the input from which this count of ends had been told
abbrev pub since : ℕ → Start → Start
since ends old = start_at old.past (input_of old.input.given ends old.input.faults)

-- the log was written, and the input was found at its end so often before this count, behind which no end was taken for another
pub record HasFollowed (done : ℕ) (old : Start) (now : Input) (before after : Output) (logging : Logging) : Type 0 where
  pub logged : HasLogged old now before after logging
  pub base : ℕ
  pub found : FoundEnds done old.input.ends base
  pub again : HasLogged (since base old) now before after logging

pub followed_first : (old : Start) (now : Input) (before after : Output) (logging : Logging) → HasLogged old now before after logging → HasFollowed 0 old now before after logging
followed_first old now before after logging h = record { logged = h; base = old.input.ends; found = inl (omega arith); again = h }

-- ---- an end

whole_or_cut : (start now : Told) (e : Ending) (status : ℕ) → (tells : ending_status e ≡ status) → MayGoOn status → (e ≡ ending.Whole → Rose start.ends now.ends) →
    (e ≡ ending.Cut → Rose start.ends now.ends) → Rose start.ends now.ends
whole_or_cut start now ending.Whole status is may whole cut = whole refl
whole_or_cut start now ending.Cut status is may whole cut = cut refl
whole_or_cut start now ending.Bad status is (inl h) whole cut = absurd (cc)
whole_or_cut start now ending.Bad status is (inr h) whole cut = absurd (cc)
whole_or_cut start now ending.Limit status is (inl h) whole cut = absurd (cc)
whole_or_cut start now ending.Limit status is (inr h) whole cut = absurd (cc)

no_such : (n status : ℕ) → status ≡ n → (n ≡ 0 → ⊥) → (n ≡ 3 → ⊥) → MayGoOn status → ⊥
no_such n status is none three (inl h) = none (sym is ∙ h)
no_such n status is none three (inr h) = three (sym is ∙ h)

-- the input told an end where its log ended there
pub end_found : (form : Form) (old : Start) (now : Input) (before after : Output) (status : ℕ) → LogEnds form old now before after status → MayGoOn status → Rose old.input.ends now.ends
end_found form old now before after status (journal_ended c H e ended is gains) may =
    whole_or_cut (reading_of old.input) (reading_of now) e status (sym is) may (λ h. ended.end_told (ap tells_end h)) (λ h. ended.end_told (ap tells_end h))
end_found form old now before after status (no_journal is none same) may = absurd (no_such 4 status is (λ h. cc) (λ h. cc) may)
end_found form old now before after status (head_cut is cut same) may = cut.end_told
end_found form old now before after status (read_failed is rose so_far) may = absurd (no_such 5 status is (λ h. cc) (λ h. cc) may)
end_found form old now before after status (write_failed c H is rose begun front) may = absurd (no_such 6 status is (λ h. cc) (λ h. cc) may)
end_found form old now before after status (no_memory is so_far) may = absurd (no_such 7 status is (λ h. cc) (λ h. cc) may)

pub found_more : (done first base now : ℕ) → FoundEnds done first base → Rose base now → FoundEnds (done + 1) first now
found_more done first base now (inl h) (inl r) = inl (omega arith)
found_more done first base now (inl h) (inr r) = inr r
found_more done first base now (inr h) (inl r) = inr (omega arith)
found_more done first base now (inr h) (inr r) = inr r

-- ---- on

written_since : (ends : ℕ) (old : Start) (now : Input) (before after : Output) (logging new : Logging) (H : List Entry) → IsWritten old now before after logging H →
    new.past ≡ logging.past → new.teller ≡ logging.teller → new.reader.config ≡ logging.reader.config → IsWritten (since ends old) now before after new H
written_since ends old now before after logging new H w past teller config = record {
  past_is = ap recalled past ∙ w.past_is;
  written = subst (λ (c : HubConfig). Gains before.taken after.taken (log_on new.teller.form c old.past H)) (sym config)
      (subst (λ (t : Teller). Gains before.taken after.taken (log_on t.form logging.reader.config old.past H)) (sym teller) w.written);
  read_faults = w.read_faults;
  write_faults = w.write_faults;
}

pub went_on : (done : ℕ) (old : Start) (start now : Input) (before mid after : Output) (first logging new : Logging) (form : Form) (status : ℕ) → HasFollowed done old start before mid first →
    ((o : Start) (b : Output) → HasLogged o start b mid first → LogEnds form o now b after status) →
    ((o : Start) (b : Output) → HasLogged o start b mid first → MayGoOn status → HasLogged o now b after logging) → MayGoOn status →
    ((s n : Told) (H : List Entry) → HasRead s n logging.reader H → HasRead s n new.reader H) →
    ((s n : Told) (H : List Entry) → HasRead s n logging.reader H → HasRead (asked_again s n) n new.reader H) → new.past ≡ logging.past → new.teller ≡ logging.teller →
    new.reader.config ≡ logging.reader.config → HasFollowed (done + 1) old now before after new
went_on done old start now before mid after first logging new form status f goes stays may read again past teller config =
    let h : HasLogged old now before after logging = stays old before f.logged may in
    record {
      logged = record {
        history = h.history;
        has_read = read (reading_of old.input) (reading_of now) h.history h.has_read;
        is_written = written_since old.input.ends old now before after logging new h.history h.is_written past teller config;
      };
      base = now.ends;
      found = found_more done old.input.ends f.base now.ends f.found
          (end_found form (since f.base old) now before after status (goes (since f.base old) before f.again) may);
      again = record {
        history = h.history;
        has_read = again (reading_of old.input) (reading_of now) h.history h.has_read;
        is_written = written_since now.ends old now before after logging new h.history h.is_written past teller config;
      };
    }

-- the last end was found
pub found_last : (done : ℕ) (old : Start) (start now : Input) (before mid after : Output) (first : Logging) (form : Form) (status : ℕ) → HasFollowed done old start before mid first →
    ((o : Start) (b : Output) → HasLogged o start b mid first → LogEnds form o now b after status) → MayGoOn status → FoundEnds (done + 1) old.input.ends now.ends
found_last done old start now before mid after first form status f goes may =
    found_more done old.input.ends f.base now.ends f.found
    (end_found form (since f.base old) now before after status (goes (since f.base old) before f.again) may)

-- ---- pauses

waited_more : (done : ℕ) (p : Pauses) → paused PAUSE_MS (waited done p) ≡ waited (done + 1) p
unfolding waited
waited_more done p = ap (λ (n : ℕ). waited n p) (sym (add-one done))

-- one pause more
pub pause_more : (a b c : Option Pauses) (done now later : ℕ) → IfSome a (λ p. b ≡ Some (waited done p)) →
    IfSome b (λ p. (c ≡ Some (paused PAUSE_MS p)) × (now ≡ later)) → IfSome a (λ p. c ≡ Some (waited (done + 1) p))
pause_more None b c done now later p q = tt
pause_more (Some x) b c done now later p q =
    let h : (c ≡ Some (paused PAUSE_MS (waited done x))) × (now ≡ later) =
    subst (λ (o : Option Pauses). IfSome o (λ y. (c ≡ Some (paused PAUSE_MS y)) × (now ≡ later))) p q in
    h.0 ∙ ap Some (waited_more done x)

pub pauses_none : (a : Option Pauses) → IfSome a (λ p. a ≡ Some (waited 0 p))
unfolding waited
pauses_none None = tt
pauses_none (Some p) = refl
