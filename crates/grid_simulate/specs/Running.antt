-- What a change makes of a binding's life and of its slot.
use Rattle.std.specs.Prelude.{ℕ, Bool, ◌&&◌, ◌||◌, not, nat_eq, cond, List, Option, None, Some}
use Rattle.grid_types.specs.declared.entry.Change.{Change}
use Rattle.grid_types.specs.declared.entry.Change.TheVariants as change
use Rattle.grid_types.specs.declared.names.SlotId.{SlotId}
use Rattle.grid_types.specs.declared.entry.Entry.{Entry}
use Rattle.grid_types.specs.Sessions.{is_live, is_on_node}

-- the binding had this slot, and was live or not before the change
abbrev pub live_by : Change → ℕ → Option SlotId → Bool → Bool
live_by (change.Bound r s x cs at) b slot live = live || nat_eq r b
live_by (change.Ended q c at) b slot live = live && not (nat_eq q b)
live_by (change.Lapsed n at) b slot live = live && not (is_on_node n slot)
live_by c b slot live = live

abbrev pub slot_by : Change → ℕ → Option SlotId → Option SlotId
slot_by (change.Bound r s x cs at) b slot = cond (nat_eq r b) (Some s) slot
slot_by c b slot = slot

-- 1 where there is a binding that is live
abbrev pub live_in : List Entry → Option ℕ → ℕ
live_in H None = 0
live_in H (Some b) = cond (is_live H b) 1 0
