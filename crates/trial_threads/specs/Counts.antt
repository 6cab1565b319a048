-- A history that counts: each entry is a touch of the binding whose number is the count after it.
use Rattle.std.specs.Prelude.{◌≡◌, ℕ, ◌+◌, ◌%◌, ◌^◌, List, [], ◌∷◌, ◌++◌, length}
use mathlib.Core.List.{IsPrefix}
use Rattle.grid_types.specs.declared.entry.Entry.{Entry}
use Rattle.grid_types.specs.declared.entry.Change.{Change}
use Rattle.grid_types.specs.declared.entry.Change.TheVariants as change
use Rattle.turn_cell.specs.declared.views.View.{View}

abbrev pub counts_to : ℕ → Change
counts_to n = change.Touched n (record { 0 = 0 })

abbrev pub entry : ℕ → ℕ → Entry
entry caller n = record { caller = caller; change = counts_to n }

abbrev pub IsCounted : ℕ → List Entry → Type 0
IsCounted n [] = Unit {0}
IsCounted n (e ∷ es) = (e.change ≡ counts_to ((n + 1) % 2 ^ 64)) × IsCounted (n + 1) es

-- the count stands for the history
abbrev pub Counts : ℕ → List Entry → Type 0
Counts count log = (count ≡ length log % 2 ^ 64) × IsCounted 0 log

-- the entry that comes next, by what was seen
abbrev pub next_of : {V : Type 0} → View V → Entry
next_of v = entry v.number ((length v.seen + 1) % 2 ^ 64)

-- a call that answers n made one entry, at the end of a history that counts and begins with all that the pass had seen
abbrev pub Adds : {V : Type 0} → View V → ℕ → View V → Type 0
Adds v n w = (log : List Entry) × IsPrefix v.seen log × IsCounted 0 log × (n ≡ (length log + 1) % 2 ^ 64) × (w.seen ≡ log ++ entry v.number n ∷ [])
    × (w.mine ≡ v.mine ++ entry v.number n ∷ []) × (w.points ≡ v.points ++ length log ∷ []) × (w.number ≡ v.number) × (w.spent ≡ v.spent) × (w.ended ≡ v.ended)
