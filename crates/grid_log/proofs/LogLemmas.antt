-- How a log goes on by one entry, and how it ends.
use Rattle.std.proofs.Common.{◌≡◌, ℕ, ◌≤◌, List, [], ◌∷◌, inl, inr, refl, sym, ◌∙◌, ap, subst, arith}
use Rattle.std.specs.Prelude.{Option, Some}
use Rattle.grid_types.specs.declared.config.HubConfig.{HubConfig}
use Rattle.grid_types.specs.declared.entry.Entry.{Entry}
use Rattle.grid_outside.specs.Counts.{Rose}
use Rattle.grid_outside.specs.Told.{Gains, TookFront}
use Rattle.journal_reader.specs.declared.feed.ReadFault.{ReadFault}
use Rattle.journal_reader.specs.declared.feed.ReadFault.TheVariants as read_fault
use Rattle.journal_reader.specs.declared.reader.Ending.{Ending}
use Rattle.journal_reader.specs.declared.reader.JournalReader.{JournalReader}
use Rattle.journal_reader.specs.declared.reader.Next.{Next}
use Rattle.journal_reader.specs.declared.reader.Next.TheVariants as next
use Rattle.journal_reader.specs.Feeds.{waiting}
use Rattle.journal_reader.specs.Readings.{Told, Goes, HasBegun, HasRead, Stays}
use Rattle.grid_log.specs.declared.form.Form.{Form}
use Rattle.grid_log.specs.declared.log.Logging.{Logging}
use Rattle.grid_log.specs.declared.log.Unlogged.{Unlogged}
use Rattle.grid_log.specs.declared.log.Unlogged.TheVariants as unlogged
use Rattle.grid_log.specs.declared.telling.Teller.{Teller}
use Rattle.grid_log.specs.Past.{Past, past_after, past_on}
use Rattle.grid_log.specs.Recalls.{recalled}
use Rattle.grid_log.specs.Facts.{first_line, lines}
use Rattle.grid_log.specs.Events.{entry_events, log_on}
use Rattle.grid_log.specs.Logs.{Input, Output, Start, LogEnds, MayGoOn, journal_ended, read_failed, write_failed, no_memory, some_read, none_read, ending_status, reading_of}
use Rattle.grid_log.specs.Logging.{HasLogged, HasNext, Stopped, fault_status, unlogged_status}
use Rattle.grid_log.proofs.StreamLemmas.{front_behind, gains_more, rose_later}

-- the lines of an entry, where the log remembers what is past
abbrev told_of : Logging → Entry → List ℕ
told_of logging entry = lines logging.teller.form (entry_events logging.reader.config (recalled logging.past) entry)

begun_by : (start now : Told) (reader : JournalReader) (H : List Entry) → HasRead start now reader H → HasBegun start now reader.config H
begun_by start now reader H r = record { rest = waiting reader.feed; gave = r.gave }

gains_kept : (a b c : Option (List ℕ)) (xs : List ℕ) → Gains a b xs → c ≡ b → Gains a c xs
gains_kept a b c xs gains same = subst (λ (t : Option (List ℕ)). Gains a t xs) (sym same) gains

-- ---- a step

-- what the journal has next was read
pub next_read : (old : Start) (mid now : Input) (before after : Output) (logging new : Logging) (n : Next) → HasLogged old mid before after logging →
    ((start : Told) (H : List Entry) → HasRead start (reading_of mid) logging.reader H → Goes start (reading_of now) new.reader H n) →
    ((start : Told) (H : List Entry) → HasRead start (reading_of mid) logging.reader H → Stays start (reading_of now) new.reader H n) →
    ((start : Told) (H : List Entry) → HasRead start (reading_of mid) logging.reader H → HasBegun start (reading_of now) logging.reader.config H) →
    new.reader.config ≡ logging.reader.config → new.past ≡ logging.past → new.teller ≡ logging.teller → mid.faults ≤ now.faults → HasNext old now before after new n
next_read old mid now before after logging new n h goes stays begun config past teller faults = record {
  history = h.history;
  goes = goes (reading_of old.input) h.history h.has_read;
  stays = stays (reading_of old.input) h.history h.has_read;
  begun = subst (λ (c : HubConfig). HasBegun (reading_of old.input) (reading_of now) c h.history) (sym config) (begun (reading_of old.input) h.history h.has_read);
  is_written = record {
    past_is = ap recalled past ∙ h.is_written.past_is;
    written = subst (λ (c : HubConfig). Gains before.taken after.taken (log_on new.teller.form c old.past h.history)) (sym config)
        (subst (λ (t : Teller). Gains before.taken after.taken (log_on t.form logging.reader.config old.past h.history)) (sym teller) h.is_written.written);
    read_faults = omega (arith, h.is_written.read_faults, faults);
    write_faults = h.is_written.write_faults;
  };
}

-- a read failed, or memory was wanted
pub read_stopped : (old : Start) (mid now : Input) (before after : Output) (logging : Logging) (why : ReadFault) → HasLogged old mid before after logging →
    ((start : Told) (H : List Entry) → HasRead start (reading_of mid) logging.reader H → HasBegun start (reading_of now) logging.reader.config H) →
    (why ≡ read_fault.Read → Rose mid.faults now.faults) → LogEnds logging.teller.form old now before after (fault_status why)
read_stopped old mid now before after logging read_fault.Read h begun cause =
    read_failed refl (rose_later old.input.faults mid.faults now.faults h.is_written.read_faults (cause refl))
    (some_read logging.reader.config h.history (begun (reading_of old.input) h.history h.has_read) h.is_written.written)
read_stopped old mid now before after logging read_fault.Memory h begun cause =
    no_memory refl (some_read logging.reader.config h.history (begun (reading_of old.input) h.history h.has_read) h.is_written.written)

-- the lines of the entry were written
pub entry_told : (old : Start) (now : Input) (before mid after : Output) (logging new : Logging) (n : Next) (entry : Entry) → HasNext old now before mid logging n → n ≡ next.Entry entry →
    recalled new.past ≡ past_after (recalled logging.past) entry → Gains mid.taken after.taken (told_of logging entry) → mid.faults ≤ after.faults →
    new.reader ≡ logging.reader → new.teller ≡ logging.teller → HasLogged old now before after new
entry_told old now before mid after logging new n entry has is noted gained faults reader teller =
    let h : HasNext old now before mid logging (next.Entry entry) = subst (λ (m : Next). HasNext old now before mid logging m) is has in
    let gains : Gains mid.taken after.taken (lines logging.teller.form (entry_events logging.reader.config (past_on old.past h.history) entry)) =
    subst (λ (p : Past). Gains mid.taken after.taken (lines logging.teller.form (entry_events logging.reader.config p entry))) h.is_written.past_is gained in
    record {
      history = entry ∷ h.history;
      has_read = subst (λ (r : JournalReader). HasRead (reading_of old.input) (reading_of now) r (entry ∷ h.history)) (sym reader) h.goes;
      is_written = record {
        past_is = noted ∙ ap (λ (p : Past). past_after p entry) h.is_written.past_is;
        written = subst (λ (r : JournalReader). Gains before.taken after.taken (log_on new.teller.form r.config old.past (entry ∷ h.history))) (sym reader)
            (subst (λ (t : Teller). Gains before.taken after.taken (log_on t.form logging.reader.config old.past (entry ∷ h.history))) (sym teller)
            (gains_more before.taken mid.taken after.taken _ _ h.is_written.written gains));
        read_faults = h.is_written.read_faults;
        write_faults = omega (arith, h.is_written.write_faults, faults);
      };
    }

-- they were not, or not all of them
pub entry_stopped : (old : Start) (now : Input) (before mid after : Output) (logging : Logging) (n : Next) (entry : Entry) (why : Unlogged) → HasNext old now before mid logging n →
    n ≡ next.Entry entry → Stopped mid after (told_of logging entry) why → LogEnds logging.teller.form old now before after (unlogged_status why)
entry_stopped old now before mid after logging n entry unlogged.Failed has is stopped =
    let h : HasNext old now before mid logging (next.Entry entry) = subst (λ (m : Next). HasNext old now before mid logging m) is has in
    let front : TookFront mid.taken after.taken (lines logging.teller.form (entry_events logging.reader.config (past_on old.past h.history) entry)) =
    subst (λ (p : Past). TookFront mid.taken after.taken (lines logging.teller.form (entry_events logging.reader.config p entry))) h.is_written.past_is stopped.1 in
    write_failed logging.reader.config (entry ∷ h.history) refl (rose_later before.faults mid.faults after.faults h.is_written.write_faults stopped.0)
    (begun_by (reading_of old.input) (reading_of now) logging.reader (entry ∷ h.history) h.goes)
    (front_behind before.taken mid.taken after.taken _ _ h.is_written.written front)
entry_stopped old now before mid after logging n entry unlogged.Memory has is stopped =
    no_memory refl (some_read logging.reader.config has.history has.begun (gains_kept before.taken mid.taken after.taken _ has.is_written.written stopped))

-- the journal has ended
pub journal_told : (old : Start) (now : Input) (before after : Output) (logging : Logging) (n : Next) (e : Ending) → HasNext old now before after logging n → n ≡ next.Ends e →
    LogEnds logging.teller.form old now before after (ending_status e)
journal_told old now before after logging n e has is =
    let h : HasNext old now before after logging (next.Ends e) = subst (λ (m : Next). HasNext old now before after logging m) is has in
    journal_ended logging.reader.config h.history e h.goes refl h.is_written.written

-- it has been read as before
pub journal_stays : (old : Start) (now : Input) (before after : Output) (logging : Logging) (n : Next) (e : Ending) → HasNext old now before after logging n → n ≡ next.Ends e →
    HasLogged old now before after logging
journal_stays old now before after logging n e has is =
    let h : HasNext old now before after logging (next.Ends e) = subst (λ (m : Next). HasNext old now before after logging m) is has in
    record { history = h.history; has_read = h.stays; is_written = h.is_written }

-- ---- the input is asked again

-- no such status tells of an end of the input
pub no_end_unlogged : (why : Unlogged) (said status : ℕ) → said ≡ unlogged_status why → Some said ≡ Some status → MayGoOn status → ⊥
no_end_unlogged unlogged.Failed said status is same (inl h) = absurd (cc)
no_end_unlogged unlogged.Failed said status is same (inr h) = absurd (cc)
no_end_unlogged unlogged.Memory said status is same (inl h) = absurd (cc)
no_end_unlogged unlogged.Memory said status is same (inr h) = absurd (cc)

pub no_end_fault : (why : ReadFault) (said status : ℕ) → said ≡ fault_status why → Some said ≡ Some status → MayGoOn status → ⊥
no_end_fault read_fault.Read said status is same (inl h) = absurd (cc)
no_end_fault read_fault.Read said status is same (inr h) = absurd (cc)
no_end_fault read_fault.Memory said status is same (inl h) = absurd (cc)
no_end_fault read_fault.Memory said status is same (inr h) = absurd (cc)

-- the same end, by the form and the status that are named
pub ends_as : (old : Start) (now : Input) (before after : Output) (f g : Form) (status other : ℕ) → LogEnds f old now before after status → g ≡ f → other ≡ status → LogEnds g old now before after other
ends_as old now before after f g status other ends same is =
    subst (λ (s : ℕ). LogEnds g old now before after s) (sym is) (subst (λ (h : Form). LogEnds h old now before after status) (sym same) ends)

-- ---- the beginning

-- the first line was written
pub first_told : (old : Start) (now : Input) (before after : Output) (logging : Logging) → HasRead (reading_of old.input) (reading_of now) logging.reader [] → old.input.faults ≤ now.faults →
    recalled logging.past ≡ old.past → Gains before.taken after.taken (first_line logging.teller.form) → before.faults ≤ after.faults → HasLogged old now before after logging
first_told old now before after logging read faults none gains later = record {
  history = [];
  has_read = read;
  is_written = record { past_is = none; written = gains; read_faults = faults; write_faults = later };
}

-- it was not, or not all of it
pub first_stopped : (form : Form) (old : Start) (now : Input) (before after : Output) (reader : JournalReader) (why : Unlogged) → HasRead (reading_of old.input) (reading_of now) reader [] →
    Stopped before after (first_line form) why → LogEnds form old now before after (unlogged_status why)
first_stopped form old now before after reader unlogged.Failed read stopped =
    write_failed reader.config [] refl stopped.0 (begun_by (reading_of old.input) (reading_of now) reader [] read) stopped.1
first_stopped form old now before after reader unlogged.Memory read stopped = no_memory refl (none_read stopped)
