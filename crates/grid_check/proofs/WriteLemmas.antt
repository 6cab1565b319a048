-- How a journal grows by an entry, and where its writing stops.
use Rattle.std.proofs.Common.{◌≡◌, ℕ, ◌+◌, ◌<◌, ◌≤◌, List, [], ◌∷◌, ◌++◌, length, get_or, take, drop, reverse, flat_map, refl, sym, ap, subst, ◌∙◌, arith, append_assoc, append-nil, take-append-drop}
use Rattle.std.proofs.lemmas.List.{reverse-append, take_more, take_all}
use Rattle.std.proofs.lemmas.List.Concat.{flat_map-cons}
use Rattle.std.proofs.lemmas.Grind.{flat_map-append}
use Rattle.grid_types.specs.declared.config.HubConfig.{HubConfig}
use Rattle.grid_types.specs.declared.entry.Entry.{Entry}
use Rattle.grid_types.specs.History.{history_of, BeginsWith}
use Rattle.grid_outside.specs.Told.{Gains, SinkView, TookFront}
use Rattle.grid_outside.specs.StreamLaws.{gains_more, rose_later, none_before}
use Rattle.grid_journal.specs.Spelled.{entry_bytes, head_bytes, journal_bytes}
use Rattle.grid_journal.specs.Fits.{AllFit}
use Rattle.grid_check.specs.declared.writing.Unwritten.{Unwritten}
use Rattle.grid_check.specs.declared.writing.Unwritten.TheVariants as unwritten
use Rattle.grid_check.specs.Writes.{IsShort, WriteEnds, Gained, Puts, StopsAt, StopsAtHead, status_of}

-- ---- the bytes of a journal

-- those of newer entries stand behind
journal_behind : (c : HubConfig) (newer P : List Entry) → journal_bytes c (newer ++ P) ≡ journal_bytes c P ++ flat_map entry_bytes (reverse newer)
journal_behind c newer P =
    ap (λ (l : List Entry). head_bytes c ++ flat_map entry_bytes l) (reverse-append newer P)
    ∙ ap (λ (b : List ℕ). head_bytes c ++ b) (flat_map-append entry_bytes (reverse P) (reverse newer))
    ∙ sym (append_assoc (head_bytes c) (flat_map entry_bytes (reverse P)) (flat_map entry_bytes (reverse newer)))

one_entry : (e : Entry) → flat_map entry_bytes (reverse (e ∷ [])) ≡ entry_bytes e
one_entry e = flat_map-cons entry_bytes e [] ∙ append-nil (entry_bytes e)

journal_more : (c : HubConfig) (P : List Entry) (e : Entry) → journal_bytes c (e ∷ P) ≡ journal_bytes c P ++ entry_bytes e
journal_more c P e = journal_behind c (e ∷ []) P ∙ ap (λ (b : List ℕ). journal_bytes c P ++ b) (one_entry e)

journal_none : (c : HubConfig) → journal_bytes c [] ≡ head_bytes c
journal_none c = append-nil (head_bytes c)

-- ---- the first entries, as a history

history_step : (entries : List Entry) (i : ℕ) (e : Entry) → i < length entries → e ≡ get_or entries i e → history_of (take (i + 1) entries) ≡ e ∷ history_of (take i entries)
history_step entries i e below here =
    ap history_of (take_more entries i e below) ∙ reverse-append (take i entries) (get_or entries i e ∷ []) ∙ ap (λ (x : Entry). x ∷ history_of (take i entries)) (sym here)

begins : (entries : List Entry) (i : ℕ) → BeginsWith (history_of entries) (history_of (take i entries))
begins entries i = (history_of (drop i entries), sym (reverse-append (take i entries) (drop i entries)) ∙ ap history_of (take-append-drop i entries))

begins_next : (entries : List Entry) (i : ℕ) (e : Entry) → i < length entries → e ≡ get_or entries i e → BeginsWith (history_of entries) (e ∷ history_of (take i entries))
begins_next entries i e below here = subst (λ (P : List Entry). BeginsWith (history_of entries) P) (history_step entries i e below here) (begins entries (i + 1))

-- ---- the writing

-- the journal of a history was written, and none of its entries is too long
pub record HasWritten (c : HubConfig) (P : List Entry) (old now : SinkView) : Type 0 where
  pub gains : Gains old.taken now.taken (journal_bytes c P)
  pub short : AllFit IsShort P
  pub later : old.faults ≤ now.faults

pub none_yet : (c : HubConfig) (old now : SinkView) → Gained (head_bytes c) old now → HasWritten c [] old now
none_yet c old now g = record {
  gains = subst (λ (b : List ℕ). Gains old.taken now.taken b) (sym (journal_none c)) g.gains;
  short = tt;
  later = g.later;
}

pub one_more : (c : HubConfig) (entries : List Entry) (i : ℕ) (e : Entry) (old mid new : SinkView) → i < length entries → e ≡ get_or entries i e →
    HasWritten c (history_of (take i entries)) old mid → Puts e mid new → HasWritten c (history_of (take (i + 1) entries)) old new
one_more c entries i e old mid new below here so_far p =
    subst (λ (P : List Entry). HasWritten c P old new) (sym (history_step entries i e below here)) next
  where
    next : HasWritten c (e ∷ history_of (take i entries)) old new
    next = record {
      gains = subst (λ (b : List ℕ). Gains old.taken new.taken b) (sym (journal_more c (history_of (take i entries)) e))
          (gains_more old.taken mid.taken new.taken (journal_bytes c (history_of (take i entries))) (entry_bytes e) so_far.gains p.1.gains);
      short = (p.0, so_far.short);
      later = omega (arith, so_far.later, p.1.later);
    }

pub all_of_them : (c : HubConfig) (entries : List Entry) (i : ℕ) (old new : SinkView) → length entries ≤ i → HasWritten c (history_of (take i entries)) old new →
    WriteEnds c (history_of entries) old new 0
all_of_them c entries i old new whole h = ends (subst (λ (l : List Entry). HasWritten c (history_of l) old new) (take_all i entries whole) h)
  where
    ends : HasWritten c (history_of entries) old new → WriteEnds c (history_of entries) old new 0
    ends w = WriteEnds.all_written refl w.short w.gains

-- a front and what is left of it, between bytes before and behind
between : (a f u r : List ℕ) → (a ++ f) ++ (u ++ r) ≡ (a ++ (f ++ u)) ++ r
between a f u r = sym (append_assoc (a ++ f) u r) ∙ ap (λ (b : List ℕ). b ++ r) (append_assoc a f u)

-- a front of an entry behind a journal is a front of each journal that begins with both
front_of_entry : (c : HubConfig) (H P : List Entry) (e : Entry) (old mid new : SinkView) → BeginsWith H (e ∷ P) → Gains old.taken mid.taken (journal_bytes c P) →
    TookFront mid.taken new.taken (entry_bytes e) → TookFront old.taken new.taken (journal_bytes c H)
front_of_entry c H P e old mid new b g t =
    let rest = flat_map entry_bytes (reverse b.0) in
    let whole : (journal_bytes c P ++ entry_bytes e) ++ rest ≡ journal_bytes c H =
    ap (λ (bytes : List ℕ). bytes ++ rest) (sym (journal_more c P e)) ∙ sym (journal_behind c b.0 (e ∷ P)) ∙ ap (journal_bytes c) b.1 in
    record {
      front = journal_bytes c P ++ t.front;
      unwritten = t.unwritten ++ rest;
      some = λ e. t.some (none_before t.unwritten rest e);
      are = between (journal_bytes c P) t.front t.unwritten rest ∙ ap (λ (bytes : List ℕ). (journal_bytes c P ++ bytes) ++ rest) t.are ∙ whole;
      gains = gains_more old.taken mid.taken new.taken (journal_bytes c P) t.front g t.gains;
    }

pub stops : (c : HubConfig) (entries : List Entry) (i : ℕ) (e : Entry) (why : Unwritten) (old mid new : SinkView) → i < length entries → e ≡ get_or entries i e →
    HasWritten c (history_of (take i entries)) old mid → StopsAt e why mid new → WriteEnds c (history_of entries) old new (status_of why)
stops c entries i e unwritten.Failed old mid new below here so_far b =
    WriteEnds.broke_off refl (rose_later old.faults mid.faults new.faults so_far.later b.rose)
    (front_of_entry c (history_of entries) (history_of (take i entries)) e old mid new (begins_next entries i e below here) so_far.gains b.took)
stops c entries i e unwritten.Memory old mid new below here so_far same =
    WriteEnds.first_written (history_of (take i entries)) refl (begins entries i)
    (subst (λ (w : SinkView). Gains old.taken w.taken (journal_bytes c (history_of (take i entries)))) (sym same) so_far.gains)
stops c entries i e unwritten.TooLong old mid new below here so_far (long, same) =
    WriteEnds.too_long e (history_of (take i entries)) refl (begins_next entries i e below here) long so_far.short
    (subst (λ (w : SinkView). Gains old.taken w.taken (journal_bytes c (history_of (take i entries)))) (sym same) so_far.gains)

front_of_head : (c : HubConfig) (H : List Entry) (old new : SinkView) → TookFront old.taken new.taken (head_bytes c) → TookFront old.taken new.taken (journal_bytes c H)
front_of_head c H old new t = record {
  front = t.front;
  unwritten = t.unwritten ++ flat_map entry_bytes (reverse H);
  some = λ e. t.some (none_before t.unwritten (flat_map entry_bytes (reverse H)) e);
  are = sym (append_assoc t.front t.unwritten (flat_map entry_bytes (reverse H))) ∙ ap (λ (b : List ℕ). b ++ flat_map entry_bytes (reverse H)) t.are;
  gains = t.gains;
}

pub stops_at_head : (c : HubConfig) (H : List Entry) (why : Unwritten) (old new : SinkView) → StopsAtHead c why old new → WriteEnds c H old new (status_of why)
stops_at_head c H unwritten.Failed old new b = WriteEnds.broke_off refl b.rose (front_of_head c H old new b.took)
stops_at_head c H unwritten.Memory old new same = WriteEnds.none_written refl (ap (λ (w : SinkView). w.taken) same)
stops_at_head c H unwritten.TooLong old new never = absurd never
