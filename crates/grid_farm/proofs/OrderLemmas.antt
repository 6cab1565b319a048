-- Slots in use stand in order after each change.
use Rattle.std.proofs.Common.{◌≡◌, ℕ, suc, ◌+◌, Bool, true, false, not, ◌&&◌, ◌||◌, nat_eq, nat_lt, List, [], ◌∷◌, refl, sym, ◌∙◌, ap, subst, add-one, arith}
use Rattle.std.specs.Prelude.{Option, None, Some, cond, filter, find, is_some, if◌then◌else◌}
use Rattle.std.specs.List.{insert}
use Rattle.std.proofs.lemmas.Bool.Decides.{nat_tests}
use Rattle.grid_types.specs.declared.entry.Change.{Change}
use Rattle.grid_types.specs.declared.entry.Change.TheVariants as change
use Rattle.grid_types.specs.declared.entry.Entry.{Entry}
use Rattle.grid_types.specs.declared.names.SlotId.{SlotId}
use Rattle.grid_types.specs.Slots.{slot_eq}
use Rattle.grid_log.specs.declared.rows.SessionRow.{SessionRow}
use Rattle.grid_log.specs.Past.{is_of_binding}
use Rattle.grid_farm.specs.declared.rows.SlotUse.{SlotUse}
use Rattle.grid_farm.specs.declared.rows.SlotUse.TheVariants as slot_use
use Rattle.grid_farm.specs.declared.rows.UseRow.{UseRow}
use Rattle.grid_farm.specs.Farms.{farm_of}
use Rattle.grid_farm.specs.Orders.{Ascends, AscendsFrom, IsBehind}
use Rattle.grid_farm.specs.Uses.{comes_before, is_busy_on, place_of, uses_after, with_ended, with_slot, without_slot}

-- ---- two pairs of numbers

abbrev before : ℕ → ℕ → ℕ → ℕ → Bool
before a x b y = nat_lt a b || (nat_eq a b && nat_lt x y)

before_through : (a x b y c z : ℕ) → before a x b y ≡ true → before b y c z ≡ true → before a x c z ≡ true
before_through a x b y c z p q = grind (arith, nat_tests)

before_else : (a x b y : ℕ) → before a x b y ≡ false → (nat_eq b a && nat_eq y x) ≡ false → before b y a x ≡ true
before_else a x b y p q = grind (arith, nat_tests)

-- ---- slots

behind_through : (other : Option SlotId) (slot later : SlotId) → IsBehind other slot → comes_before slot later ≡ true → IsBehind other later
behind_through None slot later h b = tt
behind_through (Some first) slot later h b = before_through first.node first.index slot.node slot.index later.node later.index h b

from_earlier : (other : Option SlotId) (slot : SlotId) (rows : List UseRow) → IsBehind other slot → AscendsFrom (Some slot) rows → AscendsFrom other rows
from_earlier other slot [] h a = tt
from_earlier other slot (row ∷ rows) h a = (behind_through other slot row.slot h a.0, a.1)

kept_where : (p : UseRow → Bool) (b : Bool) (other : Option SlotId) (row : UseRow) (rows : List UseRow) → IsBehind other row.slot → AscendsFrom (Some row.slot) rows →
    AscendsFrom other (cond b (row ∷ rows) rows)
kept_where p true other row rows h a = (h, a)
kept_where p false other row rows h a = from_earlier other row.slot rows h a

filter_ascends : (p : UseRow → Bool) (other : Option SlotId) (rows : List UseRow) → AscendsFrom other rows → AscendsFrom other (filter p rows)
filter_ascends p other [] a = tt
filter_ascends p other (row ∷ rows) a =
    kept_where p (p row) other row (filter p rows) a.0 (filter_ascends p (Some row.slot) rows a.1)

-- none of the rows is of the slot
abbrev NoneOf : SlotId → List UseRow → Type 0
NoneOf slot [] = Unit {0}
NoneOf slot (row ∷ rows) = (slot_eq row.slot slot ≡ false) × NoneOf slot rows

none_where : (slot : SlotId) (b : Bool) (row : UseRow) (rows : List UseRow) → slot_eq row.slot slot ≡ b → NoneOf slot rows → NoneOf slot (cond (not b) (row ∷ rows) rows)
none_where slot true row rows e h = h
none_where slot false row rows e h = (e, h)

none_without : (slot : SlotId) (rows : List UseRow) → NoneOf slot (without_slot slot rows)
none_without slot [] = tt
none_without slot (row ∷ rows) = none_where slot (slot_eq row.slot slot) row (without_slot slot rows) refl (none_without slot rows)

-- the row in its place
abbrev placed : SlotId → UseRow → List UseRow → List UseRow
placed slot new [] = new ∷ []
placed slot new (row ∷ rows) = cond (comes_before slot row.slot) (new ∷ row ∷ rows) (row ∷ placed slot new rows)

one_more : (k : ℕ) → 1 + k ≡ suc k
one_more k = let h : 1 + k ≡ k + 1 = omega arith in h ∙ add-one k

insert_where : (b : Bool) (k : ℕ) (new row : UseRow) (rows more : List UseRow) → insert rows k new ≡ more →
    insert (row ∷ rows) (cond (not b) (1 + k) 0) new ≡ cond b (new ∷ row ∷ rows) (row ∷ more)
insert_where true k new row rows more e = refl
insert_where false k new row rows more e =
    ap (λ (n : ℕ). insert (row ∷ rows) n new) (one_more k) ∙ ap (λ (all : List UseRow). row ∷ all) e

insert_places : (slot : SlotId) (new : UseRow) (rows : List UseRow) → insert rows (place_of slot rows) new ≡ placed slot new rows
insert_places slot new [] = refl
insert_places slot new (row ∷ rows) =
    insert_where (comes_before slot row.slot) (place_of slot rows) new row rows (placed slot new rows) (insert_places slot new rows)

placed_where : (b : Bool) (other : Option SlotId) (new row : UseRow) (rows more : List UseRow) → comes_before new.slot row.slot ≡ b → IsBehind other new.slot →
    IsBehind other row.slot → AscendsFrom (Some row.slot) rows → (b ≡ false → AscendsFrom (Some row.slot) more) → AscendsFrom other (cond b (new ∷ row ∷ rows) (row ∷ more))
placed_where true other new row rows more e n r a m = (n, (e, a))
placed_where false other new row rows more e n r a m = (r, m refl)

placed_ascends : (other : Option SlotId) (new : UseRow) (rows : List UseRow) → IsBehind other new.slot → NoneOf new.slot rows → AscendsFrom other rows →
    AscendsFrom other (placed new.slot new rows)
placed_ascends other new [] n none a = (n, tt)
placed_ascends other new (row ∷ rows) n none a =
    placed_where (comes_before new.slot row.slot) other new row rows (placed new.slot new rows) refl n a.0 a.1
    (λ e. placed_ascends (Some row.slot) new rows (before_else new.slot.node new.slot.index row.slot.node row.slot.index e none.0) none.1 a.1)

with_slot_ascends : (slot : SlotId) (state : SlotUse) (rows : List UseRow) → Ascends rows → Ascends (with_slot slot state rows)
with_slot_ascends slot state rows a =
    let new : UseRow = record { slot = slot; state = state } in
    subst Ascends (sym (insert_places slot new (without_slot slot rows)))
    (placed_ascends None new (without_slot slot rows) tt (none_without slot rows) (filter_ascends _ None rows a))

-- ---- changes

ended_ascends : (row : Option SessionRow) (rows : List UseRow) → Ascends rows → Ascends (with_ended row rows)
ended_ascends None rows a = a
ended_ascends (Some row) rows a = with_slot_ascends row.slot slot_use.Closing rows a

failed_ascends : (b : Bool) (slot : SlotId) (rows : List UseRow) → Ascends rows →
    Ascends (if b then with_slot slot slot_use.Closing rows else without_slot slot rows)
failed_ascends true slot rows a = with_slot_ascends slot slot_use.Closing rows a
failed_ascends false slot rows a = filter_ascends _ None rows a

after_ascends : (sessions : List SessionRow) (rows : List UseRow) (c : Change) → Ascends rows → Ascends (uses_after sessions rows c)
after_ascends sessions rows (change.Reserved request slot choice at) a = with_slot_ascends slot (slot_use.Starting request) rows a
after_ascends sessions rows (change.Bound request slot session capabilities at) a = with_slot_ascends slot slot_use.Busy rows a
after_ascends sessions rows (change.Failed request slot reason orphan last at) a = failed_ascends (is_some orphan) slot rows a
after_ascends sessions rows (change.Ended binding ending at) a = ended_ascends (find (is_of_binding binding) sessions) rows a
after_ascends sessions rows (change.Lapsed node at) a = filter_ascends (λ row. not (is_busy_on node row)) None rows a
after_ascends sessions rows (change.Freed slot) a = filter_ascends _ None rows a
after_ascends sessions rows (change.Registered node registration at) a = a
after_ascends sessions rows (change.Beaten node at) a = a
after_ascends sessions rows (change.Draining node at) a = a
after_ascends sessions rows (change.Removed node at) a = a
after_ascends sessions rows (change.Queued request choices deadline at) a = a
after_ascends sessions rows (change.TimedOut request at) a = a
after_ascends sessions rows (change.Cleared request at) a = a
after_ascends sessions rows (change.Taken request at) a = a
after_ascends sessions rows (change.Touched binding at) a = a
after_ascends sessions rows (change.Suspected node at) a = a

pub farm_ascends : (history : List Entry) → Ascends (farm_of history).uses
farm_ascends [] = tt
farm_ascends (entry ∷ history) = after_ascends (farm_of history).past.sessions (farm_of history).uses entry.change (farm_ascends history)
