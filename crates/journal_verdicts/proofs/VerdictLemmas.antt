-- Two verdicts that both hold of the same bytes are one.
use Rattle.std.proofs.Common.{◌≡◌, ℕ, ◌+◌, ◌<◌, ◌≤◌, nat_eq, nat_lt, cond, Bool, true, false, ◌&&◌, List, [], ◌∷◌, ◌++◌, length, reverse, flat_map, refl, sym, ◌∙◌, ap, subst, inl, inr, arith, append_assoc, append-nil, length-append}
use Rattle.std.proofs.lemmas.Bool.Decides.{nat_tests}
use Rattle.std.proofs.lemmas.List.{append_cancel_left, reverse-append, reverse-reverse}
use Rattle.std.proofs.lemmas.List.Concat.{flat_map-cons}
use Rattle.grid_types.specs.declared.config.HubConfig.{HubConfig}
use Rattle.grid_types.specs.declared.entry.Entry.{Entry}
use Rattle.grid_types.specs.declared.entry.Change.TheVariants as change
use Rattle.grid_types.specs.Permitted.{permitted}
use Rattle.grid_types.specs.Legal.{legal}
use Rattle.grid_journal.specs.declared.head.HeadStep.TheVariants as head_step
use Rattle.grid_journal.specs.Forms.{agree}
use Rattle.grid_journal.specs.Spelled.{entry_bytes, head_bytes, journal_bytes}
use Rattle.grid_journal.specs.Fits.{AllFit}
use Rattle.grid_journal.specs.HeadReads.{HeadRead, OneHead}
use Rattle.grid_journal.specs.EntryReads.{IsEntry, BeginsEntry, NoEntry, OneSpelling}
use Rattle.journal_verdicts.specs.declared.verdict.Verdict.{Verdict}
use Rattle.journal_verdicts.specs.declared.verdict.Verdict.TheVariants as verdict
use Rattle.journal_verdicts.specs.Verdicts.{IsJournal, Says, TextsHaveOneVerdict, most_bytes}
use Rattle.journal_verdicts.proofs.CheckLemmas.{cut_head_short, head_long}

-- ---- bytes that begin alike

nat_eq-refl : (n : ℕ) → nat_eq n n ≡ true
nat_eq-refl n = grind arith

agree_self : (xs ys : List ℕ) → agree xs (xs ++ ys) ≡ true
agree_self [] ys = refl
agree_self (x ∷ xs) ys = rw (nat_eq-refl x) (agree_self xs ys)

agree_front : (xs ys : List ℕ) → agree (xs ++ ys) xs ≡ true
agree_front [] [] = refl
agree_front [] (y ∷ ys) = refl
agree_front (x ∷ xs) ys = rw (nat_eq-refl x) (agree_front xs ys)

-- what begins the bytes agrees with them
begins_alike : (xs ys bytes : List ℕ) → bytes ≡ xs ++ ys → agree xs bytes ≡ true
begins_alike xs ys bytes is = subst (λ (b : List ℕ). agree xs b ≡ true) (sym is) (agree_self xs ys)

-- ---- the first entry of bytes

record IsFirst (e : Entry) (bytes : List ℕ) : Type 0 where
  pub is_entry : IsEntry e
  pub behind : List ℕ
  pub spelled : bytes ≡ entry_bytes e ++ behind

first_agrees : (e : Entry) (bytes : List ℕ) → IsFirst e bytes → agree (entry_bytes e) bytes ≡ true
first_agrees e bytes p = begins_alike (entry_bytes e) p.behind bytes p.spelled

not_none : (e : Entry) (bytes : List ℕ) → IsFirst e bytes → NoEntry bytes → ⊥
not_none e bytes p none = none e p.is_entry (first_agrees e bytes p)

part_not_none : (bytes : List ℕ) → BeginsEntry bytes → NoEntry bytes → ⊥
part_not_none bytes part none =
    none part.entry part.is_entry (subst (λ (b : List ℕ). agree b bytes ≡ true) (sym part.spelled) (agree_front bytes part.missing))

-- some entry begins with no bytes
abbrev some_entry : Entry
some_entry = record { caller = 0; change = change.Freed (record { node = 0; index = 0 }) }

begins_with_none : BeginsEntry []
begins_with_none = record {
  entry = some_entry;
  is_entry = ((omega arith, (omega arith, omega arith)), omega arith);
  missing = entry_bytes some_entry;
  some = omega arith;
  spelled = refl;
}

one_first : OneSpelling → (e f : Entry) (bytes : List ℕ) → IsFirst e bytes → IsFirst f bytes → e ≡ f
one_first spelling e f bytes p q =
    spelling e f q.behind p.is_entry.0 q.is_entry.0 (subst (λ (b : List ℕ). agree (entry_bytes e) b ≡ true) q.spelled (first_agrees e bytes p))

not_part : OneSpelling → (e : Entry) (bytes : List ℕ) → IsFirst e bytes → BeginsEntry bytes → ⊥
not_part spelling e bytes p part =
    let whole = entry_bytes part.entry in
    let first : IsFirst e whole = record {
      is_entry = p.is_entry;
      behind = p.behind ++ part.missing;
      spelled = part.spelled ∙ ap (λ (b : List ℕ). b ++ part.missing) p.spelled ∙ append_assoc (entry_bytes e) p.behind part.missing;
    } in
    let itself : IsFirst part.entry whole = record { is_entry = part.is_entry; behind = []; spelled = sym (append-nil whole) } in
    let same : e ≡ part.entry = one_first spelling e part.entry whole first itself in
    let long : length (entry_bytes e) ≡ length whole = ap (λ (x : Entry). length (entry_bytes x)) same in
    let there : length bytes ≡ length (entry_bytes e) + length p.behind = ap length p.spelled ∙ length-append (entry_bytes e) p.behind in
    let more : length whole ≡ length bytes + length part.missing = ap length part.spelled ∙ length-append bytes part.missing in
    omega (arith, long, there, more, part.some)

-- ---- two lists of entries that begin the same bytes, the oldest entry first

abbrev spelled_all : List Entry → List ℕ
spelled_all [] = []
spelled_all (e ∷ es) = entry_bytes e ++ spelled_all es

all_spelled : (es : List Entry) → flat_map entry_bytes es ≡ spelled_all es
all_spelled [] = refl
all_spelled (e ∷ es) = flat_map-cons entry_bytes e es ∙ ap (λ (b : List ℕ). entry_bytes e ++ b) (all_spelled es)

-- they are one; or one of them goes on with an entry that stands behind the other
data Meets (es fs : List Entry) (rest more : List ℕ) : Type 0 where
  both_end : es ≡ fs → rest ≡ more → Meets es fs rest more
  goes_on : (e : Entry) (later : List Entry) → fs ≡ es ++ (e ∷ later) → IsFirst e rest → Meets es fs rest more
  went_on : (e : Entry) (later : List Entry) → es ≡ fs ++ (e ∷ later) → IsFirst e more → Meets es fs rest more

behind_one : (e : Entry) (es fs : List Entry) (rest more : List ℕ) → Meets es fs rest more → Meets (e ∷ es) (e ∷ fs) rest more
behind_one e es fs rest more (both_end same left) = both_end (ap (λ (l : List Entry). e ∷ l) same) left
behind_one e es fs rest more (goes_on f later longer first) = goes_on f later (ap (λ (l : List Entry). e ∷ l) longer) first
behind_one e es fs rest more (went_on f later longer first) = went_on f later (ap (λ (l : List Entry). e ∷ l) longer) first

meet : OneSpelling → (es fs : List Entry) (rest more : List ℕ) → AllFit IsEntry es → AllFit IsEntry fs → spelled_all es ++ rest ≡ spelled_all fs ++ more → Meets es fs rest more
meet spelling [] [] rest more p q is = both_end refl is
meet spelling [] (f ∷ fs) rest more p q is =
    goes_on f fs refl (record { is_entry = q.0; behind = spelled_all fs ++ more; spelled = is ∙ append_assoc (entry_bytes f) (spelled_all fs) more })
meet spelling (e ∷ es) [] rest more p q is =
    went_on e es refl (record { is_entry = p.0; behind = spelled_all es ++ rest; spelled = sym is ∙ append_assoc (entry_bytes e) (spelled_all es) rest })
meet spelling (e ∷ es) (f ∷ fs) rest more p q is =
    let ours = spelled_all es ++ rest in
    let theirs = spelled_all fs ++ more in
    let whole : entry_bytes e ++ ours ≡ entry_bytes f ++ theirs = sym (append_assoc (entry_bytes e) (spelled_all es) rest) ∙ is ∙ append_assoc (entry_bytes f) (spelled_all fs) more in
    let same : e ≡ f = spelling e f theirs p.0.0 q.0.0 (begins_alike (entry_bytes e) ours (entry_bytes f ++ theirs) (sym whole)) in
    let left : ours ≡ theirs = append_cancel_left (entry_bytes f) ours theirs (ap (λ (x : Entry). entry_bytes x ++ ours) (sym same) ∙ whole) in
    subst (λ (x : Entry). Meets (e ∷ es) (x ∷ fs) rest more) same (behind_one e es fs rest more (meet spelling es fs rest more p.1 q.1 left))

-- ---- histories, which have the newest entry first

all_append : (xs ys : List Entry) → AllFit IsEntry xs → AllFit IsEntry ys → AllFit IsEntry (xs ++ ys)
all_append [] ys p q = q
all_append (x ∷ xs) ys p q = (p.0, all_append xs ys p.1 q)

turned : (e : Entry) (H : List Entry) → reverse (e ∷ H) ≡ reverse H ++ (e ∷ [])
turned e H = reverse-append (e ∷ []) H

all_turned : (H : List Entry) → AllFit IsEntry H → AllFit IsEntry (reverse H)
all_turned [] p = tt
all_turned (e ∷ H) p = subst (AllFit IsEntry) (sym (turned e H)) (all_append (reverse H) (e ∷ []) (all_turned H p.1) (p.0, tt))

and_left : (a b : Bool) → (a && b) ≡ true → a ≡ true
and_left a b h = grind arith

and_right : (a b : Bool) → (a && b) ≡ true → b ≡ true
and_right a b h = grind arith

legal_end : (c : HubConfig) (xs ys : List Entry) → legal c (xs ++ ys) ≡ true → legal c ys ≡ true
legal_end c [] ys h = h
legal_end c (x ∷ xs) ys h = legal_end c xs ys (and_left _ _ h)

longer_history : (H G later : List Entry) (e : Entry) → reverse G ≡ reverse H ++ (e ∷ later) → G ≡ reverse later ++ (e ∷ H)
longer_history H G later e is =
    sym (reverse-reverse G) ∙ ap reverse is ∙ reverse-append (reverse H) (e ∷ later) ∙ ap (λ (l : List Entry). reverse (e ∷ later) ++ l) (reverse-reverse H)
    ∙ ap (λ (l : List Entry). l ++ H) (turned e later) ∙ append_assoc (reverse later) (e ∷ []) H

next_permitted : (c : HubConfig) (H G later : List Entry) (e : Entry) → reverse G ≡ reverse H ++ (e ∷ later) → legal c G ≡ true → permitted c H e.caller e.change ≡ true
next_permitted c H G later e is lawful =
    and_right _ _ (legal_end c (reverse later) (e ∷ H) (subst (λ (l : List Entry). legal c l ≡ true) (longer_history H G later e is) lawful))

-- ---- what stands behind the journal of a legal history, and the verdict that it calls for

abbrev part_verdict : HubConfig → List Entry → List ℕ → List ℕ → Verdict
part_verdict c H bytes rest =
    cond (nat_lt (length bytes) most_bytes) (cond (nat_eq (length rest) 0) (verdict.Legal (length H)) (verdict.Cut (length (journal_bytes c H)))) verdict.Limit

data Ends (c : HubConfig) (H : List Entry) (bytes rest : List ℕ) (v : Verdict) : Type 0 where
  refuses : (e : Entry) → IsFirst e rest → permitted c H e.caller e.change ≡ false → v ≡ verdict.Illegal (length H) → Ends c H bytes rest v
  begins_none : NoEntry rest → v ≡ verdict.Bad (length (journal_bytes c H)) → Ends c H bytes rest v
  begins_part : BeginsEntry rest → v ≡ part_verdict c H bytes rest → Ends c H bytes rest v

-- no entry that is permitted stands there
never_on : OneSpelling → (c : HubConfig) (H : List Entry) (bytes rest : List ℕ) (v : Verdict) (e : Entry) → Ends c H bytes rest v → IsFirst e rest → permitted c H e.caller e.change ≡ true → ⊥
never_on spelling c H bytes rest v e (refuses f other refused is) first allowed =
    let same : f ≡ e = one_first spelling f e rest other first in
    let twice : false ≡ true = sym refused ∙ ap (λ (x : Entry). permitted c H x.caller x.change) same ∙ allowed in
    absurd (cc twice)
never_on spelling c H bytes rest v e (begins_none none is) first allowed = not_none e rest first none
never_on spelling c H bytes rest v e (begins_part part is) first allowed = not_part spelling e rest first part

one_end : OneSpelling → (c : HubConfig) (H : List Entry) (bytes rest : List ℕ) (v w : Verdict) → Ends c H bytes rest v → Ends c H bytes rest w → v ≡ w
one_end spelling c H bytes rest v w (refuses e first refused is) (refuses f other denied also) = is ∙ sym also
one_end spelling c H bytes rest v w (refuses e first refused is) (begins_none none also) = absurd (not_none e rest first none)
one_end spelling c H bytes rest v w (refuses e first refused is) (begins_part part also) = absurd (not_part spelling e rest first part)
one_end spelling c H bytes rest v w (begins_none none is) (refuses e first refused also) = absurd (not_none e rest first none)
one_end spelling c H bytes rest v w (begins_none none is) (begins_none other also) = is ∙ sym also
one_end spelling c H bytes rest v w (begins_none none is) (begins_part part also) = absurd (part_not_none rest part none)
one_end spelling c H bytes rest v w (begins_part part is) (refuses e first refused also) = absurd (not_part spelling e rest first part)
one_end spelling c H bytes rest v w (begins_part part is) (begins_none none also) = absurd (part_not_none rest part none)
one_end spelling c H bytes rest v w (begins_part part is) (begins_part other also) = is ∙ sym also

-- ---- one journal

head_there : (c : HubConfig) (H : List Entry) (bytes rest : List ℕ) → IsJournal c H bytes rest → bytes ≡ head_bytes c ++ (spelled_all (reverse H) ++ rest)
head_there c H bytes rest j =
    j.spelled ∙ append_assoc (head_bytes c) (flat_map entry_bytes (reverse H)) rest
    ∙ ap (λ (b : List ℕ). head_bytes c ++ (b ++ rest)) (all_spelled (reverse H))

head_agrees : (c : HubConfig) (H : List Entry) (bytes rest : List ℕ) → IsJournal c H bytes rest → agree (head_bytes c) bytes ≡ true
head_agrees c H bytes rest j = begins_alike (head_bytes c) (spelled_all (reverse H) ++ rest) bytes (head_there c H bytes rest j)

met_end : OneSpelling → (c : HubConfig) (H G : List Entry) (bytes rest more : List ℕ) (v w : Verdict) → legal c H ≡ true → legal c G ≡ true →
    Ends c H bytes rest v → Ends c G bytes more w → Meets (reverse H) (reverse G) rest more → v ≡ w
met_end spelling c H G bytes rest more v w lawful also d e (both_end same left) =
    let history : G ≡ H = sym (reverse-reverse G) ∙ ap reverse (sym same) ∙ reverse-reverse H in
    let there : Ends c H bytes more w = subst (λ (l : List Entry). Ends c l bytes more w) history e in
    one_end spelling c H bytes rest v w d (subst (λ (l : List ℕ). Ends c H bytes l w) (sym left) there)
met_end spelling c H G bytes rest more v w lawful also d e (goes_on f later longer first) =
    absurd (never_on spelling c H bytes rest v f d first (next_permitted c H G later f longer also))
met_end spelling c H G bytes rest more v w lawful also d e (went_on f later longer first) =
    absurd (never_on spelling c G bytes more w f e first (next_permitted c G H later f longer lawful))

same_config : OneSpelling → (c : HubConfig) (H G : List Entry) (bytes rest more : List ℕ) (v w : Verdict) → IsJournal c H bytes rest → IsJournal c G bytes more →
    Ends c H bytes rest v → Ends c G bytes more w → v ≡ w
same_config spelling c H G bytes rest more v w p q d e =
    let left : spelled_all (reverse H) ++ rest ≡ spelled_all (reverse G) ++ more =
    append_cancel_left (head_bytes c) _ _ (sym (head_there c H bytes rest p) ∙ head_there c G bytes more q) in
    met_end spelling c H G bytes rest more v w p.is_legal q.is_legal d e
    (meet spelling (reverse H) (reverse G) rest more (all_turned H p.entries_fit) (all_turned G q.entries_fit) left)

one_journal : OneSpelling → OneHead → (c d : HubConfig) (H G : List Entry) (bytes rest more : List ℕ) (v w : Verdict) → IsJournal c H bytes rest → IsJournal d G bytes more →
    Ends c H bytes rest v → Ends d G bytes more w → v ≡ w
one_journal spelling heads c d H G bytes rest more v w p q ends also =
    let agrees : agree (head_bytes d) (head_bytes c ++ (spelled_all (reverse H) ++ rest)) ≡ true =
    subst (λ (b : List ℕ). agree (head_bytes d) b ≡ true) (head_there c H bytes rest p) (head_agrees d G bytes more q) in
    let same : d ≡ c = heads d c (spelled_all (reverse H) ++ rest) q.config_fits p.config_fits agrees in
    same_config spelling c H G bytes rest more v w p (subst (λ (x : HubConfig). IsJournal x G bytes more) same q)
    ends (subst (λ (x : HubConfig). Ends x G bytes more w) same also)

-- ---- the three kinds of bytes

data View (bytes : List ℕ) (v : Verdict) : Type 0 where
  no_head : HeadRead bytes head_step.NotJournal → v ≡ verdict.NotJournal → View bytes v
  cut_head : HeadRead bytes head_step.More → v ≡ verdict.Cut 0 → View bytes v
  inside : (c : HubConfig) (H : List Entry) (rest : List ℕ) → IsJournal c H bytes rest → Ends c H bytes rest v → View bytes v

is_below : (m n : ℕ) → m < n → nat_lt m n ≡ true
is_below m n h = grind (arith, nat_tests, h)

is_not_below : (m n : ℕ) → m ≡ n → nat_lt m n ≡ false
is_not_below m n h = grind (arith, nat_tests, h)

is_some : (n : ℕ) → 1 ≤ n → nat_eq n 0 ≡ false
is_some n h = grind (arith, nat_tests, h)

chosen : {X : Type 0} (b : Bool) (x y : X) → b ≡ true → x ≡ cond b x y
chosen true x y h = refl
chosen false x y h = absurd (cc h)

not_chosen : {X : Type 0} (b : Bool) (x y : X) → b ≡ false → y ≡ cond b x y
not_chosen true x y h = absurd (cc h)
not_chosen false x y h = refl

view : (v : Verdict) (bytes : List ℕ) → Says v bytes → View bytes v
view (verdict.Legal entries) bytes s =
    inside s.config s.history [] s.journal (begins_part begins_with_none (ap verdict.Legal s.count ∙ chosen (nat_lt (length bytes) most_bytes) _ _ (is_below (length bytes) most_bytes s.few)))
view (verdict.Illegal entry) bytes s =
    inside s.config s.history (entry_bytes s.entry ++ s.rest) s.journal
    (refuses s.entry (record { is_entry = s.entry_fits; behind = s.rest; spelled = refl }) s.refused (ap verdict.Illegal s.count))
view (verdict.Bad at) bytes s = inside s.config s.history s.rest s.journal (begins_none s.none_begins (ap verdict.Bad s.place))
view (verdict.Cut at) bytes (inl s) = cut_head s.begins (ap verdict.Cut s.place)
view (verdict.Cut at) bytes (inr s) =
    inside s.config s.history s.rest s.journal (begins_part s.begins (ap verdict.Cut s.place ∙ not_chosen (nat_eq (length s.rest) 0) _ _ (is_some (length s.rest) s.some)
    ∙ chosen (nat_lt (length bytes) most_bytes) _ _ (is_below (length bytes) most_bytes s.few)))
view verdict.NotJournal bytes s = no_head s refl
view verdict.Limit bytes s =
    inside s.config s.history s.rest s.journal (begins_part s.begins (not_chosen (nat_lt (length bytes) most_bytes) _ _ (is_not_below (length bytes) most_bytes s.full)))

head_or_cut : (bytes : List ℕ) → HeadRead bytes head_step.NotJournal → HeadRead bytes head_step.More → ⊥
head_or_cut bytes none (c, missing, fits, some, is) =
    let whole = none c fits (subst (λ (b : List ℕ). agree b bytes ≡ true) (sym is) (agree_front bytes missing)) in
    omega (arith, whole.0, ap length is, length-append bytes missing, some)

head_or_none : (c : HubConfig) (H : List Entry) (bytes rest : List ℕ) → HeadRead bytes head_step.NotJournal → IsJournal c H bytes rest → ⊥
head_or_none c H bytes rest none j = (none c j.config_fits (head_agrees c H bytes rest j)).1 j.is_valid

whole_or_cut : (c : HubConfig) (H : List Entry) (bytes rest : List ℕ) → HeadRead bytes head_step.More → IsJournal c H bytes rest → ⊥
whole_or_cut c H bytes rest cut j =
    omega (arith, cut_head_short bytes cut, head_long c, ap length (head_there c H bytes rest j), length-append (head_bytes c) (spelled_all (reverse H) ++ rest))

one_view : OneSpelling → OneHead → (bytes : List ℕ) (v w : Verdict) → View bytes v → View bytes w → v ≡ w
one_view spelling heads bytes v w (no_head none is) (no_head also this) = is ∙ sym this
one_view spelling heads bytes v w (no_head none is) (cut_head cut this) = absurd (head_or_cut bytes none cut)
one_view spelling heads bytes v w (no_head none is) (inside d G more q f) = absurd (head_or_none d G bytes more none q)
one_view spelling heads bytes v w (cut_head cut is) (no_head none this) = absurd (head_or_cut bytes none cut)
one_view spelling heads bytes v w (cut_head cut is) (cut_head also this) = is ∙ sym this
one_view spelling heads bytes v w (cut_head cut is) (inside d G more q f) = absurd (whole_or_cut d G bytes more cut q)
one_view spelling heads bytes v w (inside c H rest p e) (no_head none this) = absurd (head_or_none c H bytes rest none p)
one_view spelling heads bytes v w (inside c H rest p e) (cut_head cut this) = absurd (whole_or_cut c H bytes rest cut p)
one_view spelling heads bytes v w (inside c H rest p e) (inside d G more q f) = one_journal spelling heads c d H G bytes rest more v w p q e f

pub one_verdict : OneSpelling → OneHead → TextsHaveOneVerdict
one_verdict spelling heads v w bytes s t = one_view spelling heads bytes v w (view v bytes s) (view w bytes t)
