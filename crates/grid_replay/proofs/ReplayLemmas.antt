-- What is published by one entry more.
use Rattle.std.proofs.Common.{◌≡◌, ℕ, max, Bool, true, false, ◌&&◌, ◌||◌, List, [], ◌∷◌, ◌++◌, map, filter_map, refl, sym, ap, ◌∙◌, append-nil}
use Rattle.std.specs.Prelude.{if◌then◌else◌, Option, None, Some, Result, Ok, Err, OnOk, option_map, unwrap_or}
use Rattle.std.specs.List.{cons_option}
use Rattle.grid_types.specs.declared.config.HubConfig.{HubConfig}
use Rattle.grid_types.specs.declared.entry.Entry.{Entry}
use Rattle.grid_types.specs.declared.entry.Change.{Change}
use Rattle.grid_types.specs.declared.entry.Change.TheVariants as change
use Rattle.grid_types.specs.declared.entry.EndCause.{EndCause}
use Rattle.grid_types.specs.declared.names.Moment.{Moment}
use Rattle.grid_types.specs.declared.names.SlotId.{SlotId}
use Rattle.grid_types.specs.declared.capabilities.Cap.{Cap}
use Rattle.grid_types.specs.Bindings.{Running, bound_of}
use Rattle.grid_types.specs.Lists.{kept, or_else, when}
use Rattle.grid_types.specs.Legal.{legal}
use Rattle.grid_types.specs.LookupMap.{Item, changes, published, published_by, put, removal, removal_of, session_in}
use Rattle.grid_types.specs.Nodes.{address_of, is_registered, registration_of}
use Rattle.grid_types.specs.Permitted.{permitted}
use Rattle.grid_types.specs.Sessions.{is_live}
use Rattle.grid_types.specs.Slots.{Holder, holder, is_listed, slot_eq, slots_of}
use Rattle.grid_types.specs.Tables.{entry}
use Rattle.grid_types.specs.HistoryLaws.{Known, laws}
use Rattle.reservation.specs.declared.slot_use.SlotUse.{SlotUse}
use Rattle.reservation.specs.declared.slot_use.SlotUse.TheVariants.{Free, Held, Busy, Closing}
use Rattle.reservation.specs.Table.{holder_of}
use Rattle.session_map.specs.Table.{running}
use Rattle.map_view.specs.Lists.{item_of, listed}
use Rattle.map_view.specs.declared.items.Item as map_item
use Rattle.map_view.specs.declared.items.Item.TheVariants.{Put, Removal}
use Rattle.grid_ledger.specs.declared.ledger.GridLedger.{GridLedger}
use Rattle.grid_ledger.specs.LedgerStands.{Hears, LedgerTells}
use Rattle.grid_replay.specs.declared.replay.Replay.{Replay}
use Rattle.grid_types.specs.declared.entry.FailWhy.{FailWhy}
use Rattle.grid_replay.specs.declared.replay.Stay.{Stay}
use Rattle.grid_replay.specs.Lasts.{Leaves, LeavesOver, last_at, last_from, last_in, left_by}
use Rattle.grid_replay.specs.Replays.{Adds, Ends, Follows, Puts, Shows, all_off, removals_in}

and_left : (a b : Bool) → (a && b) ≡ true → a ≡ true
and_left true b h = refl
and_left false b h = cc

and_right : (a b : Bool) → (a && b) ≡ true → b ≡ true
and_right true b h = h
and_right false b h = absurd (cc)

pub on-ok : {U E : Type 0} {P Q : Type 0} (r : Result U E) → (P → Q) → OnOk r P → OnOk r Q
on-ok (Ok u) f h = f h
on-ok (Err e) f h = tt

pub on-both : {U E : Type 0} {P Q R : Type 0} (r : Result U E) → (P → Q → R) → OnOk r P → OnOk r Q → OnOk r R
on-both (Ok u) f p q = f p q
on-both (Err e) f p q = tt

published-more : (items xs ys : List Item) → published items (xs ++ ys) ≡ published (published items xs) ys
published-more items [] ys = refl
published-more items (x ∷ xs) ys = published-more (x ∷ items) xs ys

items-more : (old new : Replay) (H : List Entry) (e : Entry) (more : List Item) → Follows old H → Adds old new more → more ≡ published_by H e.change → published [] (listed new.items) ≡ changes (e ∷ H)
items-more old new H e more shows adds is =
    ap (published []) adds ∙ published-more [] (listed old.items) more ∙ ap (λ (items : List Item). published items more) shows.items ∙ ap (published (changes H)) is

-- a change that leaves each session where it was
shows-more : (old new : Replay) (H : List Entry) (e : Entry) (more : List Item) → Follows old H → Adds old new more → more ≡ published_by H e.change → new.stays.items ≡ old.stays.items →
    ((slot : SlotId) → left_by slot e.change ≡ None) → Follows new (e ∷ H)
shows-more old new H e more shows adds is same none = record {
  items = items-more old new H e more shows adds is;
  lasts = λ slot. ap (last_in slot) same ∙ shows.lasts slot ∙ sym (ap (λ (o : Option (List ℕ)). or_else o (last_at H slot)) (none slot));
}

told-or : (b : Bool) (session : List ℕ) (before : Option (List ℕ)) → (if b then Some session else before) ≡ or_else (when b session) before
told-or true session before = refl
told-or false session before = refl

left-or : (b : Bool) (session : List ℕ) (before : Option (List ℕ)) → (if b then Some session else before) ≡ or_else (if b then Some session else None) before
left-or true session before = refl
left-or false session before = refl

none-left : (b : Bool) (before : Option (List ℕ)) → before ≡ or_else (if b then None else None) before
none-left true before = refl
none-left false before = refl

from-behind : (found : Option (List ℕ)) (slot : SlotId) (xs : List Stay) (x : Stay) → last_from found slot (xs ++ x ∷ []) ≡ (if slot_eq x.slot slot then Some x.session else last_from found slot xs)
from-behind found slot [] x = refl
from-behind found slot (y ∷ xs) x = from-behind (if slot_eq y.slot slot then Some y.session else found) slot xs x

-- one more stay behind the others
pub stays-there : (old new : List Stay) (x : Stay) → new ≡ old ++ x ∷ [] → Leaves old new x.slot x.session
stays-there old new x is slot = ap (last_in slot) is ∙ from-behind None slot old x

pub stays-behind : (old new : List Stay) (slot : SlotId) (session : List ℕ) → new ≡ old ++ (record { slot = slot; session = session }) ∷ [] → Leaves old new slot session
stays-behind old new slot session is = stays-there old new (record { slot = slot; session = session }) is

chosen : (b : Bool) (session : List ℕ) (x y : Option (List ℕ)) → x ≡ y → (if b then Some session else x) ≡ (if b then Some session else y)
chosen b session x y e = ap (λ (o : Option (List ℕ)). if b then Some session else o) e

pub knows : (r : Replay) (slot : SlotId) (found : Option (List ℕ)) → found ≡ last_in slot r.stays.items → (H : List Entry) → Shows r H → found ≡ last_at H slot
knows r slot found is H shows = is ∙ shows.lasts slot

last-permitted : Known → (c : HubConfig) (H : List Entry) (k : ℕ) (ch : Change) → legal c (entry k ch ∷ H) ≡ true → permitted c H k ch ≡ true
last-permitted proved c H k ch l = (laws proved).legal-permitted c (entry k ch) H l

-- ---- the kinds of change that publish

pub hears-bound : Known → (old new : Replay) (ledger : GridLedger) (k request : ℕ) (slot : SlotId) (session : List ℕ) (caps : List Cap) (at : Moment) →
    Puts old new ledger request slot session → Leaves old.stays.items new.stays.items slot session → Hears Follows old new ledger k (change.Bound request slot session caps at)
hears-bound proved old new ledger k request slot session caps at puts leaves = record {
  goes = λ H s l shows.
      let may = (laws proved).permitted-Bound ledger.config H k request slot session caps at (last-permitted proved ledger.config H k _ l) in record {
        items = items-more old new H (entry k (change.Bound request slot session caps at)) _ shows (puts.of H s may.registered) refl;
        lasts = λ other. leaves other ∙ chosen (slot_eq slot other) session _ _ (shows.lasts other) ∙ told-or (slot_eq slot other) session (last_at H other);
      };
}

-- what a start leaves that failed
lasts-failed : (old new : List Stay) (H : List Entry) (k request : ℕ) (slot : SlotId) (why : FailWhy) (orphan : Option (List ℕ)) (last : Bool) (at : Moment) → LeavesOver old new slot orphan → ((other : SlotId) → last_in other old ≡ last_at H other) →
    (other : SlotId) → last_in other new ≡ last_at (entry k (change.Failed request slot why orphan last at) ∷ H) other
lasts-failed old new H k request slot why None last at same before other = ap (last_in other) same ∙ before other ∙ none-left (slot_eq slot other) (last_at H other)
lasts-failed old new H k request slot why (Some session) last at leaves before other =
    leaves other ∙ chosen (slot_eq slot other) session _ _ (before other) ∙ left-or (slot_eq slot other) session (last_at H other)

pub hears-failed : (old new : Replay) (ledger : GridLedger) (k request : ℕ) (slot : SlotId) (why : FailWhy) (orphan : Option (List ℕ)) (last : Bool) (at : Moment) →
    new.items ≡ old.items → LeavesOver old.stays.items new.stays.items slot orphan → Hears Follows old new ledger k (change.Failed request slot why orphan last at)
hears-failed old new ledger k request slot why orphan last at same leaves = record {
  goes = λ H s l shows. record {
    items = items-more old new H (entry k (change.Failed request slot why orphan last at)) [] shows (ap listed same ∙ sym (append-nil (listed old.items))) refl;
    lasts = lasts-failed old.stays.items new.stays.items H k request slot why orphan last at leaves shows.lasts;
  };
}

pub hears-ended : Known → (old new : Replay) (ledger : GridLedger) (k binding : ℕ) (cause : EndCause) (at : Moment) →
    Ends old new ledger binding → new.stays.items ≡ old.stays.items → Hears Follows old new ledger k (change.Ended binding cause at)
hears-ended proved old new ledger k binding cause at ends same = record {
  goes = λ H s l shows.
      let live = (laws proved).permitted-Ended ledger.config H k binding cause at (last-permitted proved ledger.config H k _ l) in
      shows-more old new H (entry k (change.Ended binding cause at)) _ shows (ends.of H s live) refl same (λ slot. refl);
}

lapsed-registered : (c : HubConfig) (H : List Entry) (k node : ℕ) (at : Moment) → permitted c H k (change.Lapsed node at) ≡ true → is_registered H node ≡ true
unfolding permitted
lapsed-registered c H k node at p = and_right _ _ (and_left _ _ p)

fused : {X : Type 0} (f : X → Holder) (xs : List X) → filter_map (λ x. session_in (f x)) xs ≡ filter_map session_in (map f xs)
fused f [] = refl
fused f (x ∷ xs) = ap (cons_option (session_in (f x))) (fused f xs)

busy-of : (uses : List SlotUse) (H : List Entry) (slots : List SlotId) → map holder_of uses ≡ map (holder H) slots → filter_map (λ u. session_in (holder_of u)) uses ≡ filter_map (λ s. session_in (holder H s)) slots
busy-of uses H slots e = fused holder_of uses ∙ (ap (filter_map session_in) e ∙ sym (fused (holder H) slots))

pub hears-lapsed : Known → (old new : Replay) (ledger : GridLedger) (uses : List SlotUse) (k node : ℕ) (at : Moment) →
    LedgerTells ledger (λ H. is_registered H node ≡ true → map holder_of uses ≡ map (holder H) (slots_of H node)) → Adds old new (removals_in uses) →
    new.stays.items ≡ old.stays.items → Hears Follows old new ledger k (change.Lapsed node at)
hears-lapsed proved old new ledger uses k node at tells adds same = record {
  goes = λ H s l shows.
      let registered = lapsed-registered ledger.config H k node at (last-permitted proved ledger.config H k _ l) in
      shows-more old new H (entry k (change.Lapsed node at)) _ shows adds (ap (λ (sessions : List (List ℕ)). map (λ session. removal session) sessions) (busy-of uses H (slots_of H node) (tells.of H s registered))) same (λ slot. refl);
}

-- ---- what the calls put

listed-append : (xs ys : List map_item.Item) → listed (xs ++ ys) ≡ listed xs ++ listed ys
listed-append [] ys = refl
listed-append (x ∷ xs) ys = ap (λ (zs : List Item). item_of x ∷ zs) (listed-append xs ys)

listed-off : (uses : List SlotUse) → listed (all_off uses) ≡ removals_in uses
listed-off [] = refl
listed-off (Free ∷ uses) = listed-off uses
listed-off (Held r c k ∷ uses) = listed-off uses
listed-off (Busy x b k ∷ uses) = ap (λ (zs : List Item). removal x ∷ zs) (listed-off uses)
listed-off (Closing k ∷ uses) = listed-off uses

pub removes-all : (old new : Replay) (uses : List SlotUse) → new.items ≡ old.items ++ all_off uses → Adds old new (removals_in uses)
removes-all old new uses is = ap listed is ∙ listed-append old.items (all_off uses) ∙ ap (λ (zs : List Item). listed old.items ++ zs) (listed-off uses)

or_true : (a b : Bool) → a ≡ true → (a || b) ≡ true
or_true true b e = refl
or_true false b e = absurd (cc)

pub puts-there : (old new : Replay) (ledger : GridLedger) (request : ℕ) (slot : SlotId) (session : List ℕ) (found : Option (List ℕ)) (address : List ℕ) →
    LedgerTells ledger (λ H. is_listed H slot.node ≡ true → found ≡ option_map (λ r. r.address) (registration_of H slot.node)) → found ≡ Some address →
    new.items ≡ old.items ++ Put session slot address request ∷ [] → Puts old new ledger request slot session
puts-there old new ledger request slot session found address tells is added = record {
  of = λ H s registered.
      let known = sym (tells.of H s (or_true (is_registered H slot.node) _ registered)) ∙ is in
      let same : address ≡ address_of H slot.node = sym (ap (λ (o : Option (List ℕ)). unwrap_or o []) known) in
      ap listed added ∙ listed-append old.items (Put session slot address request ∷ [])
      ∙ ap (λ (a : List ℕ). listed old.items ++ put (record { session = session; slot = slot; address = a; binding = request }) ∷ []) same;
}

same-running : (H : List Entry) (b : ℕ) (o : Option Running) → is_live H b ≡ true → kept (λ x. is_live H b) o ≡ o
same-running H b None live = refl
same-running H b (Some x) live = rw live refl

removed : (o : Option Running) (session : List ℕ) → option_map (λ x. x.session) o ≡ Some session → removal session ∷ [] ≡ removal_of o
removed None session e = absurd (cc)
removed (Some x) session e = let same : x.session ≡ session = cc in ap (λ (s : List ℕ). removal s ∷ []) (sym same)

pub ends-there : (old new : Replay) (ledger : GridLedger) (binding : ℕ) (found : Option (List ℕ)) (session : List ℕ) →
    LedgerTells ledger (λ H. found ≡ option_map (λ x. x.session) (running H binding)) → found ≡ Some session →
    new.items ≡ old.items ++ Removal session ∷ [] → Ends old new ledger binding
ends-there old new ledger binding found session tells is added = record {
  of = λ H s live.
      let there = sym (ap (option_map (λ x. x.session)) (same-running H binding (bound_of H binding) live)) ∙ sym (tells.of H s) ∙ is in
      ap listed added ∙ listed-append old.items (Removal session ∷ []) ∙ ap (λ (zs : List Item). listed old.items ++ zs) (removed (bound_of H binding) session there);
}

-- ---- the others

abbrev pub is_quiet : Change → Bool
is_quiet (change.Bound request slot session caps at) = false
is_quiet (change.Failed request slot why orphan last at) = false
is_quiet (change.Ended binding cause at) = false
is_quiet (change.Lapsed node at) = false
is_quiet other = true

quiet-publishes : (H : List Entry) (ch : Change) → is_quiet ch ≡ true → published_by H ch ≡ []
quiet-publishes H (change.Bound request slot session caps at) h = absurd (cc)
quiet-publishes H (change.Failed request slot why orphan last at) h = absurd (cc)
quiet-publishes H (change.Ended binding cause at) h = absurd (cc)
quiet-publishes H (change.Lapsed node at) h = absurd (cc)
quiet-publishes H other h = refl

quiet-leaves : (slot : SlotId) (ch : Change) → is_quiet ch ≡ true → left_by slot ch ≡ None
quiet-leaves slot (change.Bound request named session caps at) h = absurd (cc)
quiet-leaves slot (change.Failed request named why orphan last at) h = absurd (cc)
quiet-leaves slot (change.Ended binding cause at) h = absurd (cc)
quiet-leaves slot (change.Lapsed node at) h = absurd (cc)
quiet-leaves slot other h = refl

pub hears-quiet : (old : Replay) (ledger : GridLedger) (k : ℕ) (ch : Change) → is_quiet ch ≡ true → Hears Follows old old ledger k ch
hears-quiet old ledger k ch quiet = record {
  goes = λ H s l shows. shows-more old old H (entry k ch) [] shows (sym (append-nil (listed old.items))) (sym (quiet-publishes H ch quiet)) refl (λ slot. quiet-leaves slot ch quiet);
}

-- ---- the callers

pub hears-all : (old mid new : Replay) (ledger : GridLedger) (k : ℕ) (ch : Change) → Hears Follows old mid ledger k ch → new.items ≡ mid.items → new.stays.items ≡ mid.stays.items → new.most_caller ≡ max k old.most_caller →
    Hears Shows old new ledger k ch
hears-all old mid new ledger k ch hears items stays most = record {
  goes = λ H s l shows.
      let follows = hears.goes H s l (record { items = shows.items; lasts = shows.lasts }) in record {
        items = ap (λ (xs : List map_item.Item). published [] (listed xs)) items ∙ follows.items;
        lasts = λ slot. ap (last_in slot) stays ∙ follows.lasts slot;
        most = most ∙ ap (max k) shows.most;
      };
}
