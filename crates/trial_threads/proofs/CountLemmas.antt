-- A history that counts goes on.
use Rattle.std.proofs.Common.{◌≡◌, ℕ, ◌+◌, ◌%◌, ◌^◌, List, [], ◌∷◌, ◌++◌, length, ap, sym, subst, ◌∙◌, arith, length-append}
use mathlib.Core.List.{IsPrefix}
use Rattle.grid_types.specs.declared.entry.Entry.{Entry}
use Rattle.grid_types.specs.declared.entry.Change.{Change}
use Rattle.turn_cell.specs.declared.views.View.{View}
use Rattle.turn_cell.specs.declared.views.Ended.{Ended}
use Rattle.turn_cell.specs.Steps.{seeing, after}
use Rattle.trial_threads.specs.Counts.{counts_to, entry, IsCounted, Counts, next_of, Adds}
use Rattle.trial_threads.specs.Crew.{EachHas}

abbrev count_after : ℕ → Change
count_after k = counts_to (k % 2 ^ 64)

counted_on : (k : ℕ) (log : List Entry) (e : Entry) → IsCounted k log → e.change ≡ count_after (k + length log + 1) → IsCounted k (log ++ e ∷ [])
counted_on k [] e h is = (is ∙ ap count_after (let y : k + length {A = Entry} [] + 1 ≡ k + 1 = omega arith in y), tt)
counted_on k (x ∷ xs) e h is = (h.0, counted_on (k + 1) xs e h.1 (is ∙ ap count_after (let y : k + length (x ∷ xs) + 1 ≡ (k + 1) + length xs + 1 = omega arith in y)))

-- the count after one more entry stands for the history with it
pub counts_on : (n by : ℕ) (log made : List Entry) → Counts n log → made ≡ entry by ((length log + 1) % 2 ^ 64) ∷ [] → Counts ((n + 1) % 2 ^ 64) (log ++ made)
counts_on n by log made c is =
    let a = c.0 in
    let up : (n + 1) % 2 ^ 64 ≡ (length log + 1) % 2 ^ 64 = omega arith in
    let e : Entry = entry by ((length log + 1) % 2 ^ 64) in
    subst (λ (z : List Entry). Counts ((n + 1) % 2 ^ 64) (log ++ z)) (sym is)
    (up ∙ ap (λ (x : ℕ). x % 2 ^ 64) (sym (length-append log (e ∷ []))), counted_on 0 log e c.1 (ap count_after (let y : length log + 1 ≡ 0 + length log + 1 = omega arith in y)))

-- a turn with the next entry
pub adds : {V : Type 0} (v u w : View V) (t n : ℕ) → u ≡ seeing u.seen t v → IsPrefix v.seen u.seen → IsCounted 0 u.seen → n ≡ (length u.seen + 1) % 2 ^ 64 → w ≡ after (next_of u ∷ []) u → Adds v n w
adds {V} v u w t n u_is begins counted is w_is =
    let same : next_of u ≡ entry v.number n = λ i. entry (u_is i).number (sym is i) in (
      u.seen,
      begins,
      counted,
      is,
      ap (λ (z : View V). z.seen) w_is ∙ ap (λ (x : Entry). u.seen ++ x ∷ []) same,
      ap (λ (z : View V). z.mine) w_is ∙ (λ i. (u_is i).mine ++ same i ∷ []),
      ap (λ (z : View V). z.points) w_is ∙ (λ i. (u_is i).points ++ length u.seen ∷ []),
      ap (λ (z : View V). z.number) w_is ∙ ap (λ (z : View V). z.number) u_is,
      ap (λ (z : View V). z.spent) w_is ∙ ap (λ (z : View V). z.spent) u_is,
      ap (λ (z : View V). z.ended) w_is ∙ ap (λ (z : View V). z.ended) u_is,
    )

pub each_has_more : (n : ℕ) (es : List Ended) (e : Ended) → EachHas n es → length e.mine ≡ n → EachHas n (es ++ e ∷ [])
each_has_more n [] e h is = (is, tt)
each_has_more n (x ∷ xs) e h is = (h.0, each_has_more n xs e h.1 is)
