-- How the reading of a journal goes on by one entry, by bytes that are read, and to its end.
use Rattle.std.proofs.Common.{◌≡◌, ℕ, ◌+◌, ◌^◌, ◌<◌, ◌≤◌, Bool, true, false, nat_le, List, [], ◌∷◌, ◌++◌, length, drop, reverse, flat_map, codes, refl, sym, ◌∙◌, ap, subst, arith, append_assoc, append-nil, length-append}
use Rattle.std.specs.Prelude.{Option, Some, None}
use Rattle.std.proofs.Math.Seq.{drop-append_seam}
use Rattle.std.proofs.lemmas.Bool.Decides.{nat_tests}
use Rattle.std.proofs.lemmas.List.{reverse-append}
use Rattle.std.proofs.lemmas.Grind.{flat_map-append}
use Rattle.std.proofs.lemmas.List.Concat.{flat_map-cons}
use Rattle.grid_types.specs.declared.config.HubConfig.{HubConfig}
use Rattle.grid_types.specs.declared.entry.Entry.{Entry}
use Rattle.grid_outside.specs.Counts.{Rose}
use Rattle.grid_journal.specs.declared.head.HeadStep.TheVariants as head_step
use Rattle.grid_journal.specs.Spelled.{eight_bytes, four_bytes, flag_byte, change_bytes, entry_bytes, head_bytes, journal_bytes}
use Rattle.grid_journal.specs.HeadReads.{HeadRead}
use Rattle.grid_journal.specs.EntryReads.{BeginsEntry, BeginsWithEntry, NoEntry}
use Rattle.journal_reader.specs.declared.feed.Feed.{Feed}
use Rattle.journal_reader.specs.declared.reader.Ending.TheVariants as ending
use Rattle.journal_reader.specs.declared.reader.Head.{Head}
use Rattle.journal_reader.specs.declared.reader.Head.TheVariants as head
use Rattle.journal_reader.specs.declared.reader.Next.{Next}
use Rattle.journal_reader.specs.declared.reader.JournalReader.{JournalReader}
use Rattle.journal_reader.specs.Feeds.{waiting, Grew, Reads}
use Rattle.journal_reader.specs.Readings.{Told, Gave, Goes, GoesIf, HasBegun, HasEnded, HasRead, Heads, IsOpened, EndWasTold, LessensIf, StaysIf, Stays, asked_again, left_of}
use Rattle.journal_reader.proofs.StreamLemmas.{gains_more, rose_later}

-- ---- the bytes of a journal

more_behind : (head : List ℕ) (f : Entry → List ℕ) (H : List Entry) (e : Entry) → head ++ flat_map f (reverse (e ∷ H)) ≡ (head ++ flat_map f (reverse H)) ++ f e
more_behind head f H e =
    let last : flat_map f (e ∷ []) ≡ f e = flat_map-cons f e [] ∙ append-nil (f e) in
    let order : reverse (e ∷ H) ≡ reverse H ++ e ∷ [] = reverse-append (e ∷ []) H in
    let entries : flat_map f (reverse (e ∷ H)) ≡ flat_map f (reverse H) ++ f e =
    ap (flat_map f) order ∙ flat_map-append f (reverse H) (e ∷ []) ∙ ap (λ (b : List ℕ). flat_map f (reverse H) ++ b) last in
    ap (λ (b : List ℕ). head ++ b) entries ∙ sym (append_assoc head (flat_map f (reverse H)) (f e))

journal_more : (c : HubConfig) (H : List Entry) (e : Entry) → journal_bytes c (e ∷ H) ≡ journal_bytes c H ++ entry_bytes e
journal_more c H e = more_behind (head_bytes c) entry_bytes H e

journal_none : (c : HubConfig) → journal_bytes c [] ≡ head_bytes c
journal_none c = append-nil (head_bytes c)

eight_long : (n : ℕ) → length (eight_bytes n) ≡ 8
eight_long n = refl

pub entry_some : (e : Entry) → 1 ≤ length (entry_bytes e)
entry_some e = omega (arith, length-append (eight_bytes e.caller) (change_bytes e.change), eight_long e.caller)

long_with : (c : HubConfig) (b : Bool) → length (codes "GRIDJ001" ++ (eight_bytes c.timeout_ms ++ (eight_bytes c.idle_ms ++ (eight_bytes c.lapse_ms ++ (four_bytes c.queue_requests
    ++ (flag_byte b ++ (four_bytes c.first_node ++ (eight_bytes c.first_request ++ eight_bytes c.down_ms)))))))) ≡ 57
long_with c true = refl
long_with c false = refl

pub head_long : (c : HubConfig) → length (head_bytes c) ≡ 57
head_long c = long_with c c.reject_unsupported

pub cut_head_short : (bytes : List ℕ) → HeadRead bytes head_step.More → length bytes < 57
cut_head_short bytes (c, missing, fits, some, is) = omega (arith, head_long c, ap length is, length-append bytes missing, some)

-- ---- an end

all_there : (have most : ℕ) → nat_le most have ≡ true → have ≤ most → have ≡ most
all_there have most h l = grind (arith, nat_tests)

none_there : (xs : List ℕ) → length xs ≡ 0 → xs ≡ []
none_there [] h = refl
none_there (x ∷ xs) h = absurd (omega (arith, h))

pub ended_limit : (start now : Told) (old : JournalReader) (H : List Entry) → HasRead start now old H → BeginsEntry (waiting old.feed) →
    nat_le (2 ^ 40) (old.feed.taken + length (waiting old.feed)) ≡ true → old.feed.taken + length (waiting old.feed) ≤ 2 ^ 40 → HasEnded start now old.config H ending.Limit
ended_limit start now old H r begins full most = record {
  rest = waiting old.feed;
  gave = r.gave;
  ends_so = (begins, ap (λ (k : ℕ). k + length (waiting old.feed)) (sym r.place) ∙ all_there _ (2 ^ 40) full most);
  end_told = λ h. absurd (cc);
}

pub ended_bad : (start now : Told) (old : JournalReader) (H : List Entry) → HasRead start now old H → NoEntry (waiting old.feed) → HasEnded start now old.config H ending.Bad
ended_bad start now old H r none = record { rest = waiting old.feed; gave = r.gave; ends_so = none; end_told = λ h. absurd (cc) }

pub ended_whole : (start now : Told) (old : JournalReader) (H : List Entry) → HasRead start now old H → old.feed.ended ≡ true → length (waiting old.feed) ≡ 0 →
    HasEnded start now old.config H ending.Whole
ended_whole start now old H r ended none = record { rest = waiting old.feed; gave = r.gave; ends_so = none_there _ none; end_told = λ h. r.end_told ended }

pub ended_cut : (start now : Told) (old : JournalReader) (H : List Entry) → HasRead start now old H → BeginsEntry (waiting old.feed) → old.feed.ended ≡ true →
    1 ≤ length (waiting old.feed) → HasEnded start now old.config H ending.Cut
ended_cut start now old H r begins ended some = record { rest = waiting old.feed; gave = r.gave; ends_so = (some, begins); end_told = λ h. r.end_told ended }

pub begun : (start before now : Told) (old : JournalReader) (H : List Entry) → HasRead start before old H → Grew before.given now.given → HasBegun start now old.config H
begun start before now old H r g = record {
  rest = waiting old.feed ++ g.bytes;
  gave = record {
    bytes = r.gave.bytes ++ g.bytes;
    gains = gains_more start.given before.given now.given r.gave.bytes g.bytes r.gave.gains g.gains;
    config_fits = r.gave.config_fits;
    is_valid = r.gave.is_valid;
    entries_fit = r.gave.entries_fit;
    spelled = ap (λ (x : List ℕ). x ++ g.bytes) r.gave.spelled ∙ append_assoc (journal_bytes old.config H) (waiting old.feed) g.bytes;
  };
}

-- ---- one entry more

spelled_more : (bytes j w e rest later more : List ℕ) (n : ℕ) → bytes ≡ j ++ w → w ≡ e ++ rest → n ≡ length e → later ≡ drop n w → more ≡ j ++ e → bytes ≡ more ++ later
spelled_more bytes j w e rest later more n is begins long left longer =
    let there : later ≡ rest = left ∙ ap (λ (x : List ℕ). drop n x) begins ∙ ap (λ (k : ℕ). drop k (e ++ rest)) long ∙ drop-append_seam e rest in
    is ∙ ap (λ (x : List ℕ). j ++ x) begins ∙ sym (append_assoc j e rest) ∙ ap (λ (x : List ℕ). x ++ rest) (sym longer) ∙ ap (λ (x : List ℕ). more ++ x) (sym there)

place_more : (taken now n : ℕ) (j e more : List ℕ) → taken ≡ length j → n ≡ length e → now ≡ taken + n → more ≡ j ++ e → now ≡ length more
place_more taken now n j e more is long goes longer = omega (arith, is, long, goes, ap length longer, length-append j e)

pub goes_by_entry : (start now : Told) (old new : JournalReader) (e : Entry) (n : ℕ) (H : List Entry) → HasRead start now old H → BeginsWithEntry (waiting old.feed) e n →
    new.config ≡ old.config → waiting new.feed ≡ drop n (waiting old.feed) → new.feed.taken ≡ old.feed.taken + n → new.feed.ended ≡ old.feed.ended → HasRead start now new (e ∷ H)
goes_by_entry start now old new e n H r w same left taken ended =
    let c = old.config in
    let longer = journal_more c H e in
    let gave : Gave start.given now.given c (e ∷ H) (waiting new.feed) = record {
      bytes = r.gave.bytes;
      gains = r.gave.gains;
      config_fits = r.gave.config_fits;
      is_valid = r.gave.is_valid;
      entries_fit = (w.is_entry, r.gave.entries_fit);
      spelled = spelled_more r.gave.bytes (journal_bytes c H) (waiting old.feed) (entry_bytes e) w.rest (waiting new.feed) (journal_bytes c (e ∷ H)) n r.gave.spelled w.spelled w.long left longer;
    } in
    let place : new.feed.taken ≡ length (journal_bytes c (e ∷ H)) = place_more old.feed.taken new.feed.taken n (journal_bytes c H) (entry_bytes e) (journal_bytes c (e ∷ H)) r.place w.long taken longer in
    record {
      gave = subst (λ (d : HubConfig). Gave start.given now.given d (e ∷ H) (waiting new.feed)) (sym same) gave;
      place = subst (λ (d : HubConfig). new.feed.taken ≡ length (journal_bytes d (e ∷ H))) (sym same) place;
      ends_later = r.ends_later;
      end_told = λ h. r.end_told (sym ended ∙ h);
    }

-- ---- bytes that are read

pub goes_by_bytes : (start before now : Told) (old new : JournalReader) (H : List Entry) → HasRead start before old H → new.config ≡ old.config →
    Reads old.feed new.feed before.given now.given → (new.feed.ended ≡ true → Rose before.ends now.ends) → before.ends ≤ now.ends → HasRead start now new H
goes_by_bytes start before now old new H r same reads ends later =
    let c = old.config in
    let gave : Gave start.given now.given c H (waiting new.feed) = record {
      bytes = r.gave.bytes ++ reads.bytes;
      gains = gains_more start.given before.given now.given r.gave.bytes reads.bytes r.gave.gains reads.gains;
      config_fits = r.gave.config_fits;
      is_valid = r.gave.is_valid;
      entries_fit = r.gave.entries_fit;
      spelled = ap (λ (x : List ℕ). x ++ reads.bytes) r.gave.spelled ∙ append_assoc (journal_bytes c H) (waiting old.feed) reads.bytes
          ∙ ap (λ (x : List ℕ). journal_bytes c H ++ x) (sym reads.behind);
    } in
    record {
      gave = subst (λ (d : HubConfig). Gave start.given now.given d H (waiting new.feed)) (sym same) gave;
      place = subst (λ (d : HubConfig). new.feed.taken ≡ length (journal_bytes d H)) (sym same) (reads.taken ∙ r.place);
      ends_later = omega (arith, r.ends_later, later);
      end_told = λ h. rose_later start.ends before.ends now.ends r.ends_later (ends h);
    }

-- ---- the input is asked again

pub goes_as : (start now : Told) (old new : JournalReader) (H : List Entry) → HasRead start now old H → new.config ≡ old.config →
    waiting new.feed ≡ waiting old.feed → new.feed.taken ≡ old.feed.taken → start.ends ≤ now.ends → EndWasTold start now new.feed → HasRead start now new H
goes_as start now old new H r same waits taken later told = record {
  gave = subst (λ (d : HubConfig). Gave start.given now.given d H (waiting new.feed)) (sym same)
      (subst (λ (w : List ℕ). Gave start.given now.given old.config H w) (sym waits) r.gave);
  place = taken ∙ r.place ∙ ap (λ (d : HubConfig). length (journal_bytes d H)) (sym same);
  ends_later = later;
  end_told = told;
}

-- the same is read of a start at which the ends were those of now
pub read_since : (start now : Told) (reader : JournalReader) (H : List Entry) → HasRead start now reader H → reader.feed.ended ≡ false →
    HasRead (asked_again start now) now reader H
read_since start now reader H r still = record {
  gave = r.gave;
  place = r.place;
  ends_later = omega arith;
  end_told = λ h. absurd (cc);
}

pub stays_open : (start now : Told) (old new : JournalReader) (H : List Entry) → HasRead start now old H → new.config ≡ old.config →
    waiting new.feed ≡ waiting old.feed → new.feed.taken ≡ old.feed.taken → new.feed.ended ≡ false → HasRead start now new H
stays_open start now old new H r same waits taken still = goes_as start now old new H r same waits taken r.ends_later (λ h. absurd (cc))

-- ---- the beginning

pub begins_reading : (start now : Told) (reader : JournalReader) (c : HubConfig) → IsOpened start now reader.feed c → reader.config ≡ c → HasRead start now reader []
begins_reading start now reader c o same =
    let gave : Gave start.given now.given c [] (waiting reader.feed) = record {
      bytes = head_bytes c ++ waiting reader.feed;
      gains = o.gains;
      config_fits = o.config_fits;
      is_valid = o.is_valid;
      entries_fit = tt;
      spelled = ap (λ (x : List ℕ). x ++ waiting reader.feed) (sym (journal_none c));
    } in
    record {
      gave = subst (λ (d : HubConfig). Gave start.given now.given d [] (waiting reader.feed)) (sym same) gave;
      place = o.taken ∙ ap length (sym (journal_none c)) ∙ ap (λ (d : HubConfig). length (journal_bytes d [])) (sym same);
      ends_later = o.ends_later;
      end_told = o.end_told;
    }

-- ---- for the calls

pub reads_on : (a b d : Feed) (t u v : Option (List ℕ)) → Reads a b t u → Reads b d u v → Reads a d t v
reads_on a b d t u v p q = record {
  bytes = p.bytes ++ q.bytes;
  gains = gains_more t u v p.bytes q.bytes p.gains q.gains;
  behind = q.behind ∙ ap (λ (x : List ℕ). x ++ q.bytes) p.behind ∙ append_assoc (waiting a) p.bytes q.bytes;
  taken = q.taken ∙ p.taken;
}

-- a head was found with this configuration
pub opened_with : (start now : Told) (feed : Feed) (found : Head) (c : HubConfig) → Heads start now feed found → found ≡ head.Config c → IsOpened start now feed c
opened_with start now feed found c opens is = subst (λ (f : Head). Heads start now feed f) is opens

pub found_one : (start now : Told) (new : JournalReader) (H : List Entry) (found : Option Next) (n : Next) → GoesIf start now new H found → found ≡ Some n → Goes start now new H n
found_one start now new H found n goes is = subst (λ (f : Option Next). GoesIf start now new H f) is goes

pub stays_one : (start now : Told) (new : JournalReader) (H : List Entry) (found : Option Next) (n : Next) → StaysIf start now new H found → found ≡ Some n → Stays start now new H n
stays_one start now new H found n stays is = subst (λ (f : Option Next). StaysIf start now new H f) is stays

pub found_none : (start now : Told) (new : JournalReader) (H : List Entry) (found : Option Next) → GoesIf start now new H found → found ≡ None → HasRead start now new H
found_none start now new H found goes is = subst (λ (f : Option Next). GoesIf start now new H f) is goes

pub less_none : (a b : Feed) (found : Option Next) → LessensIf a b found → found ≡ None → left_of b < left_of a
less_none a b found less is = subst (λ (f : Option Next). LessensIf a b f) is less
