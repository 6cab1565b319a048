-- How a check goes on by one entry, by bytes that are read, and to a verdict.
use Rattle.std.proofs.Common.{◌≡◌, ℕ, suc, ◌+◌, ◌-◌, ◌^◌, ◌<◌, ◌≤◌, max, min, Bool, true, false, ◌&&◌, nat_le, List, [], ◌∷◌, ◌++◌, length, drop, reverse, flat_map, codes, refl, sym, ◌∙◌, ap, subst, inr, arith, append_assoc, append-nil, length-append}
use Rattle.std.specs.Prelude.{Option, Some, Result, Ok, Err, is_err, OnOk}
use Rattle.std.proofs.Math.Seq.{drop-append_seam}
use Rattle.std.proofs.lemmas.Bool.Decides.{nat_tests}
use Rattle.std.proofs.lemmas.List.{reverse-append}
use Rattle.std.proofs.lemmas.Grind.{flat_map-append}
use Rattle.std.proofs.lemmas.List.Concat.{flat_map-cons}
use Rattle.grid_types.specs.declared.config.HubConfig.{HubConfig}
use Rattle.grid_types.specs.declared.entry.Entry.{Entry}
use Rattle.grid_types.specs.Permitted.{permitted}
use Rattle.grid_types.specs.Legal.{legal}
use Rattle.grid_types.specs.Laws.{LegalHistoriesAreSafe}
use Rattle.grid_outside.specs.Counts.{Rose}
use Rattle.grid_outside.specs.StreamLaws.{gains_more, rose_later}
use Rattle.grid_journal.specs.declared.head.HeadStep.TheVariants as head_step
use Rattle.grid_journal.specs.Spelled.{eight_bytes, four_bytes, flag_byte, change_bytes, entry_bytes, head_bytes, journal_bytes}
use Rattle.grid_journal.specs.HeadReads.{HeadRead}
use Rattle.grid_journal.specs.Fits.{AllFit}
use Rattle.grid_journal.specs.EntryReads.{BeginsEntry, BeginsWithEntry, NoEntry}
use Rattle.grid_ledger.specs.declared.ledger.GridLedger.{GridLedger}
use Rattle.grid_ledger.specs.LedgerStands.{AtMost, Stands, LedgerTells, Notes, Hears}
use Rattle.journal_verdicts.specs.declared.feed.Feed.{Feed}
use Rattle.journal_verdicts.specs.declared.checking.Checking.{Checking}
use Rattle.journal_verdicts.specs.declared.verdict.Verdict.{Verdict}
use Rattle.journal_verdicts.specs.declared.verdict.Verdict.TheVariants as verdict
use Rattle.journal_verdicts.specs.declared.checking.Opened.{Opened}
use Rattle.journal_verdicts.specs.declared.checking.Opened.TheVariants as opened
use Rattle.journal_verdicts.specs.Feeds.{waiting, Reads}
use Rattle.journal_verdicts.specs.Verdicts.{IsJournal, Leaves, most_bytes, tells_end, IsVerdict}
use Rattle.journal_verdicts.specs.Checks.{Told, EndsAt, HasRead, IsLeft, IsTold, IsOpened, Opens, Goes, GoesOn}
use Rattle.journal_verdicts.specs.ReadIn.{HasJournal}
use Rattle.journal_verdicts.specs.declared.found.Journal.{Journal}

-- ---- what is told

-- ---- the bytes of a journal

more_behind : (head : List ℕ) (f : Entry → List ℕ) (H : List Entry) (e : Entry) → head ++ flat_map f (reverse (e ∷ H)) ≡ (head ++ flat_map f (reverse H)) ++ f e
more_behind head f H e =
    let last : flat_map f (e ∷ []) ≡ f e = flat_map-cons f e [] ∙ append-nil (f e) in
    let order : reverse (e ∷ H) ≡ reverse H ++ e ∷ [] = reverse-append (e ∷ []) H in
    let entries : flat_map f (reverse (e ∷ H)) ≡ flat_map f (reverse H) ++ f e =
    ap (flat_map f) order ∙ flat_map-append f (reverse H) (e ∷ []) ∙ ap (λ (b : List ℕ). flat_map f (reverse H) ++ b) last in
    ap (λ (b : List ℕ). head ++ b) entries ∙ sym (append_assoc head (flat_map f (reverse H)) (f e))

pub journal_more : (c : HubConfig) (H : List Entry) (e : Entry) → journal_bytes c (e ∷ H) ≡ journal_bytes c H ++ entry_bytes e
journal_more c H e = more_behind (head_bytes c) entry_bytes H e

pub journal_none : (c : HubConfig) → journal_bytes c [] ≡ head_bytes c
journal_none c = append-nil (head_bytes c)

eight_long : (n : ℕ) → length (eight_bytes n) ≡ 8
eight_long n = refl

pub entry_some : (e : Entry) → 1 ≤ length (entry_bytes e)
entry_some e = omega (arith, length-append (eight_bytes e.caller) (change_bytes e.change), eight_long e.caller)

long_with : (c : HubConfig) (b : Bool) → length (codes "GRIDJ001" ++ (eight_bytes c.timeout_ms ++ (eight_bytes c.idle_ms ++ (eight_bytes c.lapse_ms ++ (four_bytes c.queue_requests
    ++ (flag_byte b ++ (four_bytes c.first_node ++ (eight_bytes c.first_request ++ eight_bytes c.down_ms)))))))) ≡ 57
long_with c true = refl
long_with c false = refl

pub head_long : (c : HubConfig) → length (head_bytes c) ≡ 57
head_long c = long_with c c.reject_unsupported

pub cut_head_short : (bytes : List ℕ) → HeadRead bytes head_step.More → length bytes < 57
cut_head_short bytes (c, missing, fits, some, is) = omega (arith, head_long c, ap length is, length-append bytes missing, some)

-- ---- a verdict

and_true : (a b : Bool) → a ≡ true → b ≡ true → (a && b) ≡ true
and_true true b h g = g
and_true false b h g = h

pub bytes_long : (c : HubConfig) (H : List Entry) (bytes rest : List ℕ) → bytes ≡ journal_bytes c H ++ rest → length bytes ≡ length (journal_bytes c H) + length rest
bytes_long c H bytes rest is = ap length is ∙ length-append (journal_bytes c H) rest

pub never_ends : (start now : Told) → false ≡ true → Rose start.ends now.ends
never_ends start now h = absurd (cc)

told_illegal : {L : Type 0} (heard : L → List Entry → Type 0) (start now : Told) (old : Checking L) (e : Entry) (n : ℕ) (b : Bool) → HasRead heard start now old → BeginsWithEntry (waiting old.feed) e n →
    LedgerTells old.ledger (λ H. b ≡ permitted old.ledger.config H e.caller e.change) → b ≡ false → IsTold start now (verdict.Illegal old.entries)
told_illegal heard start now old e n b r w tells is = record {
  bytes = r.bytes;
  gains = r.gains;
  says = record {
    config = old.ledger.config;
    history = r.history;
    entry = e;
    rest = w.rest;
    journal = record {
      config_fits = r.journal.config_fits;
      is_valid = r.journal.is_valid;
      entries_fit = r.journal.entries_fit;
      is_legal = r.journal.is_legal;
      spelled = r.journal.spelled ∙ ap (λ (x : List ℕ). journal_bytes old.ledger.config r.history ++ x) w.spelled;
    };
    count = r.count;
    entry_fits = w.is_entry;
    refused = sym (tells.of r.history r.stands) ∙ is;
  };
  end_told = λ h. absurd (cc);
}

told_bad : {L : Type 0} (heard : L → List Entry → Type 0) (start now : Told) (old : Checking L) → HasRead heard start now old → NoEntry (waiting old.feed) → IsTold start now (verdict.Bad old.feed.taken)
told_bad heard start now old r none = record {
  bytes = r.bytes;
  gains = r.gains;
  says = record { config = old.ledger.config; history = r.history; rest = waiting old.feed; journal = r.journal; place = r.place; none_begins = none };
  end_told = λ h. absurd (cc);
}

all_there : (have most : ℕ) → nat_le most have ≡ true → have ≤ most → have ≡ most
all_there have most h l = grind (arith, nat_tests)

told_limit : {L : Type 0} (heard : L → List Entry → Type 0) (start now : Told) (old : Checking L) → HasRead heard start now old → BeginsEntry (waiting old.feed) → nat_le (2 ^ 40) (old.feed.taken + length (waiting old.feed)) ≡ true →
    old.feed.taken + length (waiting old.feed) ≤ 2 ^ 40 → IsTold start now verdict.Limit
told_limit heard start now old r begins full most = record {
  bytes = r.bytes;
  gains = r.gains;
  says = record {
    config = old.ledger.config;
    history = r.history;
    rest = waiting old.feed;
    journal = r.journal;
    begins = begins;
    full = bytes_long old.ledger.config r.history r.bytes (waiting old.feed) r.journal.spelled ∙ ap (λ (k : ℕ). k + length (waiting old.feed)) (sym r.place) ∙ all_there _ (2 ^ 40) full most;
  };
  end_told = λ h. absurd (cc);
}

none_there : (xs : List ℕ) → length xs ≡ 0 → xs ≡ []
none_there [] h = refl
none_there (x ∷ xs) h = absurd (omega (arith, h))

few_bytes : {L : Type 0} (heard : L → List Entry → Type 0) (start now : Told) (old : Checking L) (r : HasRead heard start now old) → old.feed.taken + length (waiting old.feed) < most_bytes → length r.bytes < most_bytes
few_bytes heard start now old r room = omega (arith, bytes_long old.ledger.config r.history r.bytes (waiting old.feed) r.journal.spelled, r.place, room)

told_legal : {L : Type 0} (heard : L → List Entry → Type 0) (start now : Told) (old : Checking L) → HasRead heard start now old → LegalHistoriesAreSafe → old.feed.ended ≡ true → old.feed.taken + length (waiting old.feed) < most_bytes →
    length (waiting old.feed) ≡ 0 → IsTold start now (verdict.Legal old.entries)
told_legal heard start now old r safe ended room none = record {
  bytes = r.bytes;
  gains = r.gains;
  says = record {
    config = old.ledger.config;
    history = r.history;
    journal = subst (λ (rest : List ℕ). IsJournal old.ledger.config r.history r.bytes rest) (none_there _ none) r.journal;
    is_safe = safe old.ledger.config r.history r.journal.is_legal;
    count = r.count;
    few = few_bytes heard start now old r room;
  };
  end_told = λ h. r.end_told ended;
}

told_cut : {L : Type 0} (heard : L → List Entry → Type 0) (start now : Told) (old : Checking L) → HasRead heard start now old → BeginsEntry (waiting old.feed) → old.feed.ended ≡ true → old.feed.taken + length (waiting old.feed) < most_bytes →
    1 ≤ length (waiting old.feed) → IsTold start now (verdict.Cut old.feed.taken)
told_cut heard start now old r begins ended room some = record {
  bytes = r.bytes;
  gains = r.gains;
  says = inr (record { config = old.ledger.config; history = r.history; rest = waiting old.feed; journal = r.journal; place = r.place; some = some; begins = begins; few = few_bytes heard start now old r room });
  end_told = λ h. r.end_told ended;
}

-- ---- how a check ends

-- at a verdict on input that goes on
goes_ends : {L : Type 0} (heard : L → List Entry → Type 0) (start now : Told) (checking : Checking L) (v : Verdict) → IsTold start now v → tells_end v ≡ false → EndsAt heard start now checking v
goes_ends heard start now checking v told on = record { is_told = told; is_left = λ e. absurd (differ (sym e ∙ on)) }
  where
    differ : true ≡ false → ⊥
    differ h = cc

pub ends_illegal : {L : Type 0} (heard : L → List Entry → Type 0) (start now : Told) (old : Checking L) (e : Entry) (n : ℕ) (b : Bool) → HasRead heard start now old → BeginsWithEntry (waiting old.feed) e n →
    LedgerTells old.ledger (λ H. b ≡ permitted old.ledger.config H e.caller e.change) → b ≡ false → EndsAt heard start now old (verdict.Illegal old.entries)
ends_illegal heard start now old e n b r w tells is = goes_ends heard start now old (verdict.Illegal old.entries) (told_illegal heard start now old e n b r w tells is) refl

pub ends_bad : {L : Type 0} (heard : L → List Entry → Type 0) (start now : Told) (old : Checking L) → HasRead heard start now old → NoEntry (waiting old.feed) → EndsAt heard start now old (verdict.Bad old.feed.taken)
ends_bad heard start now old r none = goes_ends heard start now old (verdict.Bad old.feed.taken) (told_bad heard start now old r none) refl

pub ends_limit : {L : Type 0} (heard : L → List Entry → Type 0) (start now : Told) (old : Checking L) → HasRead heard start now old → BeginsEntry (waiting old.feed) →
    nat_le (2 ^ 40) (old.feed.taken + length (waiting old.feed)) ≡ true → old.feed.taken + length (waiting old.feed) ≤ 2 ^ 40 → EndsAt heard start now old verdict.Limit
ends_limit heard start now old r begins full most = goes_ends heard start now old verdict.Limit (told_limit heard start now old r begins full most) refl

pub ends_legal : {L : Type 0} (heard : L → List Entry → Type 0) (start now : Told) (old : Checking L) → HasRead heard start now old → LegalHistoriesAreSafe → old.feed.ended ≡ true →
    old.feed.taken + length (waiting old.feed) < most_bytes → length (waiting old.feed) ≡ 0 → EndsAt heard start now old (verdict.Legal old.entries)
ends_legal heard start now old r safe ended room none = record {
  is_told = told_legal heard start now old r safe ended room none;
  is_left = λ e. record { has_read = r; leaves = (refl, none_there _ none) };
}

pub ends_cut : {L : Type 0} (heard : L → List Entry → Type 0) (start now : Told) (old : Checking L) → HasRead heard start now old → BeginsEntry (waiting old.feed) → old.feed.ended ≡ true →
    old.feed.taken + length (waiting old.feed) < most_bytes → 1 ≤ length (waiting old.feed) → EndsAt heard start now old (verdict.Cut old.feed.taken)
ends_cut heard start now old r begins ended room some = record {
  is_told = told_cut heard start now old r begins ended room some;
  is_left = λ e. record { has_read = r; leaves = (refl, some, begins) };
}

-- ---- one entry more

spelled_more : (bytes j w e rest later more : List ℕ) (n : ℕ) → bytes ≡ j ++ w → w ≡ e ++ rest → n ≡ length e → later ≡ drop n w → more ≡ j ++ e → bytes ≡ more ++ later
spelled_more bytes j w e rest later more n is begins long left longer =
    let there : later ≡ rest = left ∙ ap (λ (x : List ℕ). drop n x) begins ∙ ap (λ (k : ℕ). drop k (e ++ rest)) long ∙ drop-append_seam e rest in
    is ∙ ap (λ (x : List ℕ). j ++ x) begins ∙ sym (append_assoc j e rest) ∙ ap (λ (x : List ℕ). x ++ rest) (sym longer) ∙ ap (λ (x : List ℕ). more ++ x) (sym there)

place_more : (taken now n : ℕ) (j e more : List ℕ) → taken ≡ length j → n ≡ length e → now ≡ taken + n → more ≡ j ++ e → now ≡ length more
place_more taken now n j e more is long goes longer = omega (arith, is, long, goes, ap length longer, length-append j e)

counted_more : (count now taken length_before : ℕ) → count ≡ length_before → count ≤ taken → taken ≤ 2 ^ 40 → now ≡ min (count + 1) (2 ^ 64 - 1) → now ≡ suc length_before
counted_more count now taken length_before is few most goes = omega (arith, is, few, most, goes)

few_more : (count now taken later n : ℕ) → count ≤ taken → now ≡ min (count + 1) (2 ^ 64 - 1) → later ≡ taken + n → 1 ≤ n → now ≤ later
few_more count now taken later n few goes on some = omega (arith, few, goes, on, some)

all_at_most : (old new : ℕ) (H : List Entry) → old ≤ new → AllFit (AtMost old) H → AllFit (AtMost new) H
all_at_most old new [] less all = all
all_at_most old new (e ∷ H) less (here, there) = (omega (arith, here, less), all_at_most old new H less there)

callers_more : (old new : ℕ) (e : Entry) (H : List Entry) → new ≡ max old e.caller → AllFit (AtMost old) H → AllFit (AtMost new) (e ∷ H)
callers_more old new e H is all = (omega (arith, is), all_at_most old new H (omega (arith, is)) all)

pub goes_by_entry : {L : Type 0} (heard : L → List Entry → Type 0) (start now : Told) (old new : Checking L) (e : Entry) (n : ℕ) (b : Bool) → HasRead heard start now old → BeginsWithEntry (waiting old.feed) e n →
    LedgerTells old.ledger (λ H. b ≡ permitted old.ledger.config H e.caller e.change) → b ≡ true → Notes old.ledger new.ledger e.caller e.change →
    Hears heard old.listener new.listener old.ledger e.caller e.change → new.most_caller ≡ max old.most_caller e.caller →
    waiting new.feed ≡ drop n (waiting old.feed) → new.feed.taken ≡ old.feed.taken + n → new.feed.ended ≡ old.feed.ended →
    new.entries ≡ min (old.entries + 1) (2 ^ 64 - 1) → old.feed.taken ≤ 2 ^ 40 → HasRead heard start now new
goes_by_entry heard start now old new e n b r w tells is notes hears most_is left taken ended counted most =
    let c = old.ledger.config in
    let H = r.history in
    let allowed : permitted c H e.caller e.change ≡ true = sym (tells.of H r.stands) ∙ is in
    let lawful : legal c (e ∷ H) ≡ true = and_true _ _ r.journal.is_legal allowed in
    let same = notes.same_config in
    let longer = journal_more c H e in
    let one : 1 ≤ n = omega (arith, entry_some e, w.long) in
    let journal : IsJournal c (e ∷ H) r.bytes (waiting new.feed) = record {
      config_fits = r.journal.config_fits;
      is_valid = r.journal.is_valid;
      entries_fit = (w.is_entry, r.journal.entries_fit);
      is_legal = lawful;
      spelled = spelled_more r.bytes (journal_bytes c H) (waiting old.feed) (entry_bytes e) w.rest (waiting new.feed) (journal_bytes c (e ∷ H)) n r.journal.spelled w.spelled w.long left longer;
    } in
    let place : new.feed.taken ≡ length (journal_bytes c (e ∷ H)) = place_more old.feed.taken new.feed.taken n (journal_bytes c H) (entry_bytes e) (journal_bytes c (e ∷ H)) r.place w.long taken longer in
    record {
      history = e ∷ H;
      bytes = r.bytes;
      gains = r.gains;
      journal = subst (λ (d : HubConfig). IsJournal d (e ∷ H) r.bytes (waiting new.feed)) (sym same) journal;
      stands = notes.after H r.stands lawful;
      was_heard = hears.goes H r.stands lawful r.was_heard;
      callers = callers_more old.most_caller new.most_caller e H most_is r.callers;
      place = subst (λ (d : HubConfig). new.feed.taken ≡ length (journal_bytes d (e ∷ H))) (sym same) place;
      count = counted_more old.entries new.entries old.feed.taken (length H) r.count r.few most counted;
      few = few_more old.entries new.entries old.feed.taken new.feed.taken n r.few counted taken one;
      ends_later = r.ends_later;
      end_told = λ h. r.end_told (sym ended ∙ h);
    }

-- ---- bytes that are read

pub goes_by_bytes : {L : Type 0} (heard : L → List Entry → Type 0) (start before now : Told) (old new : Checking L) → HasRead heard start before old → new.ledger ≡ old.ledger → new.entries ≡ old.entries →
    new.listener ≡ old.listener → new.most_caller ≡ old.most_caller →
    Reads old.feed new.feed before.given now.given → (new.feed.ended ≡ true → Rose before.ends now.ends) → before.ends ≤ now.ends → HasRead heard start now new
goes_by_bytes heard start before now old new r same entries same_listener same_most reads ends later =
    let c = old.ledger.config in
    let journal : IsJournal c r.history (r.bytes ++ reads.bytes) (waiting new.feed) = record {
      config_fits = r.journal.config_fits;
      is_valid = r.journal.is_valid;
      entries_fit = r.journal.entries_fit;
      is_legal = r.journal.is_legal;
      spelled = ap (λ (x : List ℕ). x ++ reads.bytes) r.journal.spelled ∙ append_assoc (journal_bytes c r.history) (waiting old.feed) reads.bytes
          ∙ ap (λ (x : List ℕ). journal_bytes c r.history ++ x) (sym reads.behind);
    } in
    record {
      history = r.history;
      bytes = r.bytes ++ reads.bytes;
      gains = gains_more start.given before.given now.given r.bytes reads.bytes r.gains reads.gains;
      journal = subst (λ (l : GridLedger). IsJournal l.config r.history (r.bytes ++ reads.bytes) (waiting new.feed)) (sym same) journal;
      stands = subst (λ (l : GridLedger). Stands l r.history) (sym same) r.stands;
      was_heard = subst (λ l. heard l r.history) (sym same_listener) r.was_heard;
      callers = subst (λ (most : ℕ). AllFit (AtMost most) r.history) (sym same_most) r.callers;
      place = subst (λ (l : GridLedger). new.feed.taken ≡ length (journal_bytes l.config r.history)) (sym same) (reads.taken ∙ r.place);
      count = entries ∙ r.count;
      few = omega (arith, entries, r.few, reads.taken);
      ends_later = omega (arith, r.ends_later, later);
      end_told = λ h. rose_later start.ends before.ends now.ends r.ends_later (ends h);
    }

-- ---- the beginning

pub begins_check : {L : Type 0} (heard : L → List Entry → Type 0) (start now : Told) (checking : Checking L) (c : HubConfig) → IsOpened start now checking.feed c → Stands checking.ledger [] → checking.ledger.config ≡ c → checking.entries ≡ 0 → heard checking.listener [] → HasRead heard start now checking
begins_check heard start now checking c o stands same none heard_none =
    let whole : head_bytes c ++ waiting checking.feed ≡ journal_bytes c [] ++ waiting checking.feed = ap (λ (x : List ℕ). x ++ waiting checking.feed) (sym (journal_none c)) in
    let journal : IsJournal c [] (head_bytes c ++ waiting checking.feed) (waiting checking.feed) = record {
      config_fits = o.config_fits;
      is_valid = o.is_valid;
      entries_fit = tt;
      is_legal = refl;
      spelled = whole;
    } in
    record {
      history = [];
      bytes = head_bytes c ++ waiting checking.feed;
      gains = o.gains;
      journal = subst (λ (d : HubConfig). IsJournal d [] (head_bytes c ++ waiting checking.feed) (waiting checking.feed)) (sym same) journal;
      stands = stands;
      was_heard = heard_none;
      callers = tt;
      place = o.taken ∙ ap length (sym (journal_none c)) ∙ ap (λ (d : HubConfig). length (journal_bytes d [])) (sym same);
      count = none;
      few = omega (arith, none);
      ends_later = o.ends_later;
      end_told = o.end_told;
    }

pub told_verdict : (start now : Told) (v : Verdict) → IsTold start now v → IsVerdict start.given now.given v
told_verdict start now v t = record { bytes = t.bytes; gains = t.gains; says = t.says }

-- ---- for the calls

-- what is promised where there was no error
pub ok_of : {A E : Type 0} {P : Type 0} (r : Result A E) → is_err r ≡ false → OnOk r P → P
ok_of (Ok x) e h = h
ok_of (Err x) e h = absurd (cc)

pub reads_on : (a b d : Feed) (t u v : Option (List ℕ)) → Reads a b t u → Reads b d u v → Reads a d t v
reads_on a b d t u v p q = record {
  bytes = p.bytes ++ q.bytes;
  gains = gains_more t u v p.bytes q.bytes p.gains q.gains;
  behind = q.behind ∙ ap (λ (x : List ℕ). x ++ q.bytes) p.behind ∙ append_assoc (waiting a) p.bytes q.bytes;
  taken = q.taken ∙ p.taken;
}

pub ends_of_goes : {L : Type 0} (heard : L → List Entry → Type 0) (before now start : Told) (old new : Checking L) (found : Option Verdict) (v : Verdict) → GoesOn heard before now old new found → found ≡ Some v →
    HasRead heard start before old → EndsAt heard start now new v
ends_of_goes heard before now start old new found v goes is r = subst (λ (f : Option Verdict). Goes heard start now new f) is (goes start r)

-- what is handed out
pub hands_out : {L : Type 0} (heard : L → List Entry → Type 0) (start now : Told) (checking : Checking L) (v : Verdict) (found : Journal L) → IsLeft heard start now checking v → found.ledger ≡ checking.ledger →
    found.entries ≡ checking.entries → found.most_caller ≡ checking.most_caller → found.whole ≡ checking.feed.taken → found.listener ≡ checking.listener →
    HasJournal heard start.given now.given v found
hands_out heard start now checking v found left same_ledger same_entries same_most same_whole same_listener =
    let r = left.has_read in
    record {
      history = r.history;
      bytes = r.bytes;
      rest = waiting checking.feed;
      gains = r.gains;
      journal = subst (λ (l : GridLedger). IsJournal l.config r.history r.bytes (waiting checking.feed)) (sym same_ledger) r.journal;
      stands = subst (λ (l : GridLedger). Stands l r.history) (sym same_ledger) r.stands;
      was_heard = subst (λ l. heard l r.history) (sym same_listener) r.was_heard;
      callers = subst (λ (most : ℕ). AllFit (AtMost most) r.history) (sym same_most) r.callers;
      count = same_entries ∙ r.count;
      place = same_whole ∙ r.place ∙ ap (λ (l : GridLedger). length (journal_bytes l.config r.history)) (sym same_ledger);
      leaves = subst (λ (n : ℕ). Leaves v found.entries n (waiting checking.feed)) (sym same_whole)
          (subst (λ (n : ℕ). Leaves v n checking.feed.taken (waiting checking.feed)) (sym same_entries) left.leaves);
    }

-- a head was opened with this configuration
pub opened_with : (start now : Told) (feed : Feed) (found : Opened) (c : HubConfig) → Opens start now feed found → found ≡ opened.Config c → IsOpened start now feed c
opened_with start now feed found c opens is = subst (λ (f : Opened). Opens start now feed f) is opens
