-- The elements of a list, counted.
use Rattle.std.proofs.Common.{◌≡◌, ℕ, ◌+◌, ◌<◌, List, [], length, length-append, get_or, drop, refl, ap, ◌∙◌, sym, Ok, Err}
use Rattle.json_spans.specs.Grammar.{Tree, word, number, text, empty_list, list, empty_object, object, spelling}
use Rattle.json_spans.specs.Machine.{value_at, as_result}
use Rattle.json_spans.specs.Parts.{Part, part, kind_of, space_len, Spells}
use Rattle.json_spans.specs.Inside.{elements_of, HasElements}
use Rattle.json_spans.specs.declared.kind.Kind.TheVariants as kind
use Rattle.json_spans.specs.declared.fault.JsonFault.{JsonFault}
use Rattle.json_spans.proofs.Lists.{ItemsLeft, first_items, empty_items, item_read, item_there, items_within}

-- so many elements were read, and others are left
pub record Counted (d : List ℕ) (place at count : ℕ) (v : Tree) : Type 0 where
  pub done : List Part
  pub many : length done ≡ count
  pub left : ItemsLeft d place at done v

pub first_counted : (d : List ℕ) (place first : ℕ) → kind_of d ≡ kind.List → first ≡ 1 + space_len (drop 1 d) → (get_or d first 0 ≡ 93 → ⊥) → (v : Tree) → Spells (part place d) v → Counted d place 1 0 v
first_counted d place first k f ne v h = record { done = []; many = refl; left = first_items d place first k f ne v h }

pub none_counted : (d : List ℕ) (place first : ℕ) → first ≡ 1 + space_len (drop 1 d) → get_or d first 0 ≡ 93 → HasElements (part place d) 0
none_counted d place first f e = λ v h. ap length (empty_items d place first f e v h)

pub record CountRead (d : List ℕ) (place count : ℕ) (v : Tree) (end : ℕ) : Type 0 where
  pub within : end < length d
  pub more : get_or d end 0 ≡ 44 → Counted d place (end + 1) (count + 1) v
  pub last : (get_or d end 0 ≡ 44 → ⊥) → count + 1 ≡ length (elements_of place v)

pub count_read : (d : List ℕ) (place at count : ℕ) (v : Tree) → Counted d place at count v
    → (from to end : ℕ) → from ≡ at + space_len (drop at d) → as_result (value_at from (drop from d)) ≡ Ok to → end ≡ to + space_len (drop to d) → CountRead d place count v end
count_read d place at count v c from to end f g h =
    let r = item_read d place at c.done v c.left from to end f g h in
    record {
      within = r.within;
      more = λ e. record { done = _; many = length-append c.done _ ∙ ap (λ n. n + 1) c.many; left = r.more e };
      last = λ ne. sym (length-append c.done _ ∙ ap (λ n. n + 1) c.many) ∙ ap length (r.last ne);
    }

pub count_there : (d : List ℕ) (place at count : ℕ) (v : Tree) → Counted d place at count v
    → (e : JsonFault) → as_result (value_at (at + space_len (drop at d)) (drop (at + space_len (drop at d)) d)) ≡ Err e → ⊥
count_there d place at count v c e f = item_there d place at c.done v c.left e f

pub count_within : (d : List ℕ) (place at count : ℕ) (v : Tree) → Counted d place at count v → at < length d
count_within d place at count v c = items_within d place at c.done v c.left

-- ---- other values have no elements

no_elements : (place : ℕ) (v : Tree) → (kind_of (spelling v) ≡ kind.List → ⊥) → 0 ≡ length (elements_of place v)
no_elements place (word s) ne = refl
no_elements place (number s) ne = refl
no_elements place (text cs) ne = refl
no_elements place (empty_list w) ne = refl
no_elements place (list is) ne = absurd (ne refl)
no_elements place (empty_object w) ne = refl
no_elements place (object ms) ne = refl

pub not_list : (p : Part) → (kind_of p.bytes ≡ kind.List → ⊥) → HasElements p 0
not_list p ne = λ v h. no_elements p.place v (λ e. ne (ap kind_of h.is ∙ e))
