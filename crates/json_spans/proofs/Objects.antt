-- How the members of an object are gone through.
use Rattle.std.proofs.Common.{◌≡◌, ℕ, suc, ◌+◌, ◌-◌, ◌<◌, ◌≤◌, Bool, true, false, cond, ◌==◌, List, [], ◌∷◌, ◌++◌, length, get_or, drop, take, refl, ap, ◌∙◌, sym, arith, inl, inr, length-append, length-drop, Ok, Err}
use Rattle.std.proofs.lemmas.List.{append_assoc, drop-drop}
use Rattle.std.proofs.lemmas.Bool.{eqb-true}
use Rattle.json_spans.specs.Grammar.{Tree, Char, word, number, text, empty_list, list, empty_object, object, Members, one_member, more_members, IsTree, IsWord, AreMembers, AreSpaces, AreChars, spelling, quoted, members, members_depth}
use Rattle.json_spans.specs.Machine.{value_at, as_result}
use Rattle.json_spans.specs.Parts.{part, is_value, space_len, Spells, kind_of}
use Rattle.json_spans.specs.Inside.{Pair, members_at, members_of}
use Rattle.json_spans.specs.declared.fault.JsonFault.{JsonFault}
use Rattle.json_spans.specs.declared.kind.Kind.TheVariants as kind
use Rattle.json_spans.proofs.Texts.{space_len-append, drop_front}
use Rattle.json_spans.proofs.Forward.{IsOver, IsOver-spaces}
use Rattle.json_spans.proofs.Lists.{value_there, Front, front, byte_there, within, spelled, number_begins, no_bracket}

kind_object : (x : ℕ) (xs : List ℕ) → kind_of (x ∷ xs) ≡ kind.Object → x ≡ 123
kind_object x xs h = eqb-true x 123 (by_tests _ _ _ _ _ _ refl refl refl refl refl refl h)
  where
    by_tests : (a b c d e f : Bool) → (x == 123) ≡ a → (x == 91) ≡ b → (x == 34) ≡ c → (x == 116) ≡ d → (x == 102) ≡ e → (x == 110) ≡ f
        → cond a kind.Object (cond b kind.List (cond c kind.Text (cond d kind.True (cond e kind.False (cond f kind.Null kind.Number))))) ≡ kind.Object → (x == 123) ≡ true
    by_tests true b c d e f ha hb hc hd he hf g = ha
    by_tests false true c d e f ha hb hc hd he hf g = absurd (cc)
    by_tests false false true d e f ha hb hc hd he hf g = absurd (cc)
    by_tests false false false true e f ha hb hc hd he hf g = absurd (cc)
    by_tests false false false false true f ha hb hc hd he hf g = absurd (cc)
    by_tests false false false false false true ha hb hc hd he hf g = absurd (cc)
    by_tests false false false false false false ha hb hc hd he hf g = absurd (cc)

abbrev IsObjectTree : Tree → Type 0
IsObjectTree (word s) = ⊥
IsObjectTree (number s) = ⊥
IsObjectTree (text cs) = ⊥
IsObjectTree (empty_list w) = ⊥
IsObjectTree (list is) = ⊥
IsObjectTree (empty_object w) = Unit {0}
IsObjectTree (object ms) = Unit {0}

word_no_object : (w : List ℕ) → IsWord w → kind_of w ≡ kind.Object → ⊥
word_no_object w (inl h) g = let k = ap kind_of h in cc
word_no_object w (inr (inl h)) g = let k = ap kind_of h in cc
word_no_object w (inr (inr h)) g = let k = ap kind_of h in cc

object_tree : (v : Tree) → IsTree v → kind_of (spelling v) ≡ kind.Object → IsObjectTree v
object_tree (word w) h g = word_no_object w h g
object_tree (number s) h g = let t = number_begins s h in no_bracket t.x 123 t.can (inr refl) (kind_object t.x t.rest (ap kind_of (sym t.is) ∙ g))
object_tree (text cs) h g = cc
object_tree (empty_list w) h g = cc
object_tree (list is) h g = cc
object_tree (empty_object w) h g = tt
object_tree (object ms) h g = tt

pub record MembersLeft (d : List ℕ) (place at : ℕ) (done : List Pair) (v : Tree) : Type 0 where
  pub left : Members
  pub are : AreMembers left
  pub levels : members_depth left ≤ 126
  pub bytes : drop at d ≡ members left ++ 125 ∷ []
  pub parts : members_of place v ≡ done ++ members_at (place + at) left

-- at the beginning
first_by : (d : List ℕ) (place first : ℕ) (v : Tree) → Spells (part place d) v → IsObjectTree v → first ≡ 1 + space_len (drop 1 d) → (get_or d first 0 ≡ 125 → ⊥) → MembersLeft d place 1 [] v
first_by d place first (word s) h l f ne = absurd l
first_by d place first (number s) h l f ne = absurd l
first_by d place first (text cs) h l f ne = absurd l
first_by d place first (empty_list w) h l f ne = absurd l
first_by d place first (list is) h l f ne = absurd l
first_by d place first (object ms) h l f ne = record { left = ms; are = h.is_tree; levels = omega (arith, h.levels); bytes = ap (drop 1) h.is; parts = refl }
first_by d place first (empty_object w) h l f ne =
    let behind : drop 1 d ≡ w ++ 125 ∷ [] = ap (drop 1) h.is in
    let n : first ≡ 1 + length w = f ∙ ap (λ k. 1 + k) (ap space_len behind ∙ space_len-append w (125 ∷ []) h.is_tree refl) in
    let there : drop first d ≡ 125 ∷ [] = ap (λ k. drop k d) n ∙ sym (drop-drop (length w) 1 d) ∙ ap (drop (length w)) behind ∙ drop_front w (125 ∷ []) in
    absurd (ne (byte_there d first 125 [] there))

pub first_members : (d : List ℕ) (place first : ℕ) → kind_of d ≡ kind.Object → first ≡ 1 + space_len (drop 1 d) → (get_or d first 0 ≡ 125 → ⊥) → (v : Tree) → Spells (part place d) v → MembersLeft d place 1 [] v
first_members d place first k f ne v h = first_by d place first v h (object_tree v h.is_tree (ap kind_of (sym h.is) ∙ k)) f ne

-- a name stands at the first byte that is no white space
record NameFirst (d : List ℕ) (first : ℕ) : Type 0 where
  byte : get_or d first 0 ≡ 34
  inside : first < length d

name_first : (d : List ℕ) (first : ℕ) (a xs : List ℕ) → drop 1 d ≡ a ++ 34 ∷ xs → AreSpaces a → first ≡ 1 + space_len (drop 1 d) → NameFirst d first
name_first d first a xs is ha f =
    let n : first ≡ 1 + length a = f ∙ ap (λ k. 1 + k) (ap space_len is ∙ space_len-append a (34 ∷ xs) ha refl) in
    let there : drop first d ≡ 34 ∷ xs = ap (λ k. drop k d) n ∙ sym (drop-drop (length a) 1 d) ∙ ap (drop (length a)) is ∙ drop_front a (34 ∷ xs) in
    record { byte = byte_there d first 34 xs there; inside = within d first 34 xs there }

members_first : (d : List ℕ) (place first : ℕ) (ms : Members) → Spells (part place d) (object ms) → first ≡ 1 + space_len (drop 1 d) → NameFirst d first
members_first d place first (one_member a n b c v e) h f =
    let apart : (a ++ (quoted n ++ (b ++ 58 ∷ (c ++ (spelling v ++ e))))) ++ 125 ∷ [] ≡ a ++ (quoted n ++ (b ++ 58 ∷ (c ++ (spelling v ++ (e ++ 125 ∷ []))))) = simp append_assoc in
    name_first d first a _ (ap (drop 1) h.is ∙ apart) h.is_tree.0 f
members_first d place first (more_members a n b c v e ms) h f =
    let apart : (a ++ (quoted n ++ (b ++ 58 ∷ (c ++ (spelling v ++ (e ++ 44 ∷ members ms)))))) ++ 125 ∷ [] ≡ a ++ (quoted n ++ (b ++ 58 ∷ (c ++ (spelling v ++ (e ++ 44 ∷ (members ms ++ 125 ∷ [])))))) = simp append_assoc in
    name_first d first a _ (ap (drop 1) h.is ∙ apart) h.is_tree.0 f

empty_by : (d : List ℕ) (place first : ℕ) (v : Tree) → Spells (part place d) v → first ≡ 1 + space_len (drop 1 d) → get_or d first 0 ≡ 125 → [] ≡ members_of place v
empty_by d place first (word s) h f e = refl
empty_by d place first (number s) h f e = refl
empty_by d place first (text cs) h f e = refl
empty_by d place first (empty_object w) h f e = refl
empty_by d place first (list is) h f e = refl
empty_by d place first (empty_list w) h f e = refl
empty_by d place first (object ms) h f e = absurd (omega (arith, (members_first d place first ms h f).byte, e))

pub empty_members : (d : List ℕ) (place first : ℕ) → first ≡ 1 + space_len (drop 1 d) → get_or d first 0 ≡ 125 → (v : Tree) → Spells (part place d) v → [] ≡ members_of place v
empty_members d place first f e v h = empty_by d place first v h f e

first_within_by : (d : List ℕ) (place : ℕ) (v : Tree) → Spells (part place d) v → IsObjectTree v → (1 + space_len (drop 1 d) < length d) × (1 ≤ length d)
first_within_by d place (word s) h l = absurd l
first_within_by d place (number s) h l = absurd l
first_within_by d place (text cs) h l = absurd l
first_within_by d place (empty_list w) h l = absurd l
first_within_by d place (list is) h l = absurd l
first_within_by d place (empty_object w) h l =
    let behind : drop 1 d ≡ w ++ 125 ∷ [] = ap (drop 1) h.is in
    let n : space_len (drop 1 d) ≡ length w = ap space_len behind ∙ space_len-append w (125 ∷ []) h.is_tree refl in
    let total : length d ≡ suc (length w + 1) = ap length h.is ∙ ap suc (length-append w (125 ∷ [])) in
    (omega arith, omega arith)
first_within_by d place (object ms) h l = let m = members_first d place (1 + space_len (drop 1 d)) ms h refl in (m.inside, omega (arith, m.inside))

pub first_within : (d : List ℕ) (place : ℕ) → is_value d ≡ true → kind_of d ≡ kind.Object → (1 + space_len (drop 1 d) < length d) × (1 ≤ length d)
first_within d place h k = let v = spelled place d h in first_within_by d place v.0 v.1 (object_tree v.0 v.1.is_tree (ap kind_of (sym v.1.is) ∙ k))

-- ---- one member: its name, and then its value

pub record NameRead (d : List ℕ) (place at : ℕ) (from to end : ℕ) : Type 0 where
  pub valid : is_value (take (to - from) (drop from d)) ≡ true
  pub inside : end < length d

pub record MemberRead (d : List ℕ) (place at : ℕ) (done : List Pair) (v : Tree) (from to vfrom vto vend : ℕ) : Type 0 where
  pub valid : is_value (take (vto - vfrom) (drop vfrom d)) ≡ true
  pub inside : vend < length d
  pub more : get_or d vend 0 ≡ 44 → MembersLeft d place (vend + 1) (done ++ (part (place + from) (take (to - from) (drop from d)), part (place + vfrom) (take (vto - vfrom) (drop vfrom d))) ∷ []) v
  pub last : (get_or d vend 0 ≡ 44 → ⊥) → done ++ (part (place + from) (take (to - from) (drop from d)), part (place + vfrom) (take (vto - vfrom) (drop vfrom d))) ∷ [] ≡ members_of place v
  pub some : length done < length (members_of place v)

part_same : (p q : ℕ) (x y : List ℕ) → p ≡ q → x ≡ y → part p x ≡ part q y
part_same p q x y e f = ap (λ p. part p x) e ∙ ap (part q) f

-- the name of a member, and what stands behind its colon
record NameStep (d : List ℕ) (at : ℕ) (a : List ℕ) (n : List Char) (b behind : List ℕ) (from to end : ℕ) : Type 0 where
  read : Front d at a (text n) b (58 ∷ behind) from to end
  rest : drop (end + 1) d ≡ behind

name_step : (d : List ℕ) (at : ℕ) (a : List ℕ) (n : List Char) (b behind : List ℕ) → drop at d ≡ a ++ (quoted n ++ (b ++ 58 ∷ behind)) → AreSpaces a → AreChars n → AreSpaces b
    → (from to end : ℕ) → from ≡ at + space_len (drop at d) → as_result (value_at from (drop from d)) ≡ Ok to → end ≡ to + space_len (drop to d) → NameStep d at a n b behind from to end
name_step d at a n b behind is ha hn hb from to end f g h =
    let r = front d at a (text n) b (58 ∷ behind) is ha hn (omega arith) hb refl (refl, refl, refl) from to end f g h in
    record { read = r; rest = sym (drop-drop 1 end d) ∙ ap (drop 1) r.left }

name_by : (d : List ℕ) (place at : ℕ) (ms : Members) → AreMembers ms → drop at d ≡ members ms ++ 125 ∷ [] → (from to end : ℕ) → from ≡ at + space_len (drop at d) → as_result (value_at from (drop from d)) ≡ Ok to
    → end ≡ to + space_len (drop to d) → NameRead d place at from to end
name_by d place at (one_member a n b c t e) are is from to end f g h =
    let apart : (a ++ (quoted n ++ (b ++ 58 ∷ (c ++ (spelling t ++ e))))) ++ 125 ∷ [] ≡ a ++ (quoted n ++ (b ++ 58 ∷ (c ++ (spelling t ++ (e ++ 125 ∷ []))))) = simp append_assoc in
    let r = name_step d at a n b (c ++ (spelling t ++ (e ++ 125 ∷ []))) (is ∙ apart) are.0 are.1 are.2 from to end f g h in
    record { valid = r.read.valid; inside = within d end 58 _ r.read.left }
name_by d place at (more_members a n b c t e ms) are is from to end f g h =
    let apart : (a ++ (quoted n ++ (b ++ 58 ∷ (c ++ (spelling t ++ (e ++ 44 ∷ members ms)))))) ++ 125 ∷ [] ≡ a ++ (quoted n ++ (b ++ 58 ∷ (c ++ (spelling t ++ (e ++ 44 ∷ (members ms ++ 125 ∷ [])))))) = simp append_assoc in
    let r = name_step d at a n b (c ++ (spelling t ++ (e ++ 44 ∷ (members ms ++ 125 ∷ [])))) (is ∙ apart) are.0 are.1 are.2 from to end f g h in
    record { valid = r.read.valid; inside = within d end 58 _ r.read.left }

pub name_read : (d : List ℕ) (place at : ℕ) (done : List Pair) (v : Tree) → MembersLeft d place at done v
    → (from to end : ℕ) → from ≡ at + space_len (drop at d) → as_result (value_at from (drop from d)) ≡ Ok to → end ≡ to + space_len (drop to d) → NameRead d place at from to end
name_read d place at done v l from to end f g h = name_by d place at l.left l.are l.bytes from to end f g h

member_by : (d : List ℕ) (place at : ℕ) (done : List Pair) (v : Tree) (ms : Members) → AreMembers ms → members_depth ms ≤ 126 → drop at d ≡ members ms ++ 125 ∷ [] → members_of place v ≡ done ++ members_at (place + at) ms
    → (from to end : ℕ) → from ≡ at + space_len (drop at d) → as_result (value_at from (drop from d)) ≡ Ok to → end ≡ to + space_len (drop to d)
    → (vfrom vto vend : ℕ) → vfrom ≡ end + 1 + space_len (drop (end + 1) d) → as_result (value_at vfrom (drop vfrom d)) ≡ Ok vto → vend ≡ vto + space_len (drop vto d) → MemberRead d place at done v from to vfrom vto vend
member_by d place at done v (one_member a n b c t e) are levels is parts from to end f g h vfrom vto vend vf vg vh =
    let apart : (a ++ (quoted n ++ (b ++ 58 ∷ (c ++ (spelling t ++ e))))) ++ 125 ∷ [] ≡ a ++ (quoted n ++ (b ++ 58 ∷ (c ++ (spelling t ++ (e ++ 125 ∷ []))))) = simp append_assoc in
    let k = name_step d at a n b (c ++ (spelling t ++ (e ++ 125 ∷ []))) (is ∙ apart) are.0 are.1 are.2 from to end f g h in
    let r = front d (end + 1) c t e (125 ∷ []) k.rest are.3 are.4 (omega arith) are.5 refl (refl, refl, refl) vfrom vto vend vf vg vh in
    let name : part (place + from) (take (to - from) (drop from d)) ≡ part (place + at + length a) (quoted n) = part_same _ _ _ _ (omega (arith, k.read.from_is)) k.read.slice in
    let value : part (place + vfrom) (take (vto - vfrom) (drop vfrom d)) ≡ part (place + at + length a + length (quoted n) + length b + 1 + length c) (spelling t) =
    part_same _ _ _ _ (omega (arith, k.read.from_is, k.read.to_is, k.read.end_is, r.from_is)) r.slice in
    record {
      valid = r.valid;
      inside = within d vend 125 [] r.left;
      more = λ x. absurd (omega (arith, x, byte_there d vend 125 [] r.left));
      last = λ ne. ap (λ p. done ++ (p, part (place + vfrom) (take (vto - vfrom) (drop vfrom d))) ∷ []) name ∙ ap (λ p. done ++ (part (place + at + length a) (quoted n), p) ∷ []) value ∙ sym parts;
      some = omega (arith, ap length parts, length-append done (members_at (place + at) (one_member a n b c t e)));
    }
member_by d place at done v (more_members a n b c t e ms) are levels is parts from to end f g h vfrom vto vend vf vg vh =
    let apart : (a ++ (quoted n ++ (b ++ 58 ∷ (c ++ (spelling t ++ (e ++ 44 ∷ members ms)))))) ++ 125 ∷ [] ≡ a ++ (quoted n ++ (b ++ 58 ∷ (c ++ (spelling t ++ (e ++ 44 ∷ (members ms ++ 125 ∷ [])))))) = simp append_assoc in
    let k = name_step d at a n b (c ++ (spelling t ++ (e ++ 44 ∷ (members ms ++ 125 ∷ [])))) (is ∙ apart) are.0 are.1 are.2 from to end f g h in
    let r = front d (end + 1) c t e (44 ∷ (members ms ++ 125 ∷ [])) k.rest are.3 are.4 (omega arith) are.5 refl (refl, refl, refl) vfrom vto vend vf vg vh in
    let name : part (place + from) (take (to - from) (drop from d)) ≡ part (place + at + length a) (quoted n) = part_same _ _ _ _ (omega (arith, k.read.from_is)) k.read.slice in
    let value : part (place + vfrom) (take (vto - vfrom) (drop vfrom d)) ≡ part (place + at + length a + length (quoted n) + length b + 1 + length c) (spelling t) =
    part_same _ _ _ _ (omega (arith, k.read.from_is, k.read.to_is, k.read.end_is, r.from_is)) r.slice in
    let here : place + (vend + 1) ≡ place + at + length a + length (quoted n) + length b + 1 + length c + length (spelling t) + length e + 1 =
    omega (arith, k.read.from_is, k.read.to_is, k.read.end_is, r.from_is, r.to_is, r.end_is) in
    record {
      valid = r.valid;
      inside = within d vend 44 _ r.left;
      more = λ x. record {
        left = ms;
        are = are.6;
        levels = omega arith;
        bytes = sym (drop-drop 1 vend d) ∙ ap (drop 1) r.left;
        parts = parts ∙ ap (λ p. done ++ ((p, part (place + at + length a + length (quoted n) + length b + 1 + length c) (spelling t)) ∷ members_at (place + at + length a + length (quoted n) + length b + 1 + length c + length (spelling t) + length e + 1) ms)) (sym name)
            ∙ ap (λ p. done ++ ((part (place + from) (take (to - from) (drop from d)), p) ∷ members_at (place + at + length a + length (quoted n) + length b + 1 + length c + length (spelling t) + length e + 1) ms)) (sym value)
            ∙ ap (λ q. done ++ ((part (place + from) (take (to - from) (drop from d)), part (place + vfrom) (take (vto - vfrom) (drop vfrom d))) ∷ members_at q ms)) (sym here)
            ∙ sym (append_assoc done ((part (place + from) (take (to - from) (drop from d)), part (place + vfrom) (take (vto - vfrom) (drop vfrom d))) ∷ []) (members_at (place + (vend + 1)) ms));
      };
      last = λ ne. absurd (ne (byte_there d vend 44 _ r.left));
      some = omega (arith, ap length parts, length-append done (members_at (place + at) (more_members a n b c t e ms)));
    }

pub member_read : (d : List ℕ) (place at : ℕ) (done : List Pair) (v : Tree) → MembersLeft d place at done v
    → (from to end : ℕ) → from ≡ at + space_len (drop at d) → as_result (value_at from (drop from d)) ≡ Ok to → end ≡ to + space_len (drop to d)
    → (vfrom vto vend : ℕ) → vfrom ≡ end + 1 + space_len (drop (end + 1) d) → as_result (value_at vfrom (drop vfrom d)) ≡ Ok vto → vend ≡ vto + space_len (drop vto d) → MemberRead d place at done v from to vfrom vto vend
member_read d place at done v l from to end f g h vfrom vto vend vf vg vh = member_by d place at done v l.left l.are l.levels l.bytes l.parts from to end f g h vfrom vto vend vf vg vh

-- where members are left, a name can be read, and behind it a value
pub name_there : (d : List ℕ) (place at : ℕ) (done : List Pair) (v : Tree) → MembersLeft d place at done v
    → (e : JsonFault) → as_result (value_at (at + space_len (drop at d)) (drop (at + space_len (drop at d)) d)) ≡ Err e → ⊥
name_there d place at done v l e f = by_members l.left l.are l.bytes
  where
    over : (b : List ℕ) (r : List ℕ) → AreSpaces b → IsOver (b ++ 58 ∷ r)
    over b r h = IsOver-spaces b (58 ∷ r) h (refl, refl, refl)

    by_members : (ms : Members) → AreMembers ms → drop at d ≡ members ms ++ 125 ∷ [] → ⊥
    by_members (one_member a n b c t x) are is =
        let r = c ++ (spelling t ++ (x ++ 125 ∷ [])) in
        let apart : (a ++ (quoted n ++ (b ++ 58 ∷ (c ++ (spelling t ++ x))))) ++ 125 ∷ [] ≡ a ++ (quoted n ++ (b ++ 58 ∷ (c ++ (spelling t ++ (x ++ 125 ∷ []))))) = simp append_assoc in
        value_there d at a (text n) (b ++ 58 ∷ r) (is ∙ apart) are.0 are.1 (omega arith) (over b r are.2) e f
    by_members (more_members a n b c t x ms) are is =
        let r = c ++ (spelling t ++ (x ++ 44 ∷ (members ms ++ 125 ∷ []))) in
        let apart : (a ++ (quoted n ++ (b ++ 58 ∷ (c ++ (spelling t ++ (x ++ 44 ∷ members ms)))))) ++ 125 ∷ [] ≡ a ++ (quoted n ++ (b ++ 58 ∷ (c ++ (spelling t ++ (x ++ 44 ∷ (members ms ++ 125 ∷ [])))))) = simp append_assoc in
        value_there d at a (text n) (b ++ 58 ∷ r) (is ∙ apart) are.0 are.1 (omega arith) (over b r are.2) e f

pub member_there : (d : List ℕ) (place at : ℕ) (done : List Pair) (v : Tree) → MembersLeft d place at done v
    → (from to end : ℕ) → from ≡ at + space_len (drop at d) → as_result (value_at from (drop from d)) ≡ Ok to → end ≡ to + space_len (drop to d)
    → (e : JsonFault) → as_result (value_at (end + 1 + space_len (drop (end + 1) d)) (drop (end + 1 + space_len (drop (end + 1) d)) d)) ≡ Err e → ⊥
member_there d place at done v l from to end f g h e k = by_members l.left l.are l.levels l.bytes
  where
    by_members : (ms : Members) → AreMembers ms → members_depth ms ≤ 126 → drop at d ≡ members ms ++ 125 ∷ [] → ⊥
    by_members (one_member a n b c t x) are levels is =
        let apart : (a ++ (quoted n ++ (b ++ 58 ∷ (c ++ (spelling t ++ x))))) ++ 125 ∷ [] ≡ a ++ (quoted n ++ (b ++ 58 ∷ (c ++ (spelling t ++ (x ++ 125 ∷ []))))) = simp append_assoc in
        let s = name_step d at a n b (c ++ (spelling t ++ (x ++ 125 ∷ []))) (is ∙ apart) are.0 are.1 are.2 from to end f g h in
        value_there d (end + 1) c t (x ++ 125 ∷ []) s.rest are.3 are.4 (omega arith) (IsOver-spaces x (125 ∷ []) are.5 (refl, refl, refl)) e k
    by_members (more_members a n b c t x ms) are levels is =
        let apart : (a ++ (quoted n ++ (b ++ 58 ∷ (c ++ (spelling t ++ (x ++ 44 ∷ members ms)))))) ++ 125 ∷ [] ≡ a ++ (quoted n ++ (b ++ 58 ∷ (c ++ (spelling t ++ (x ++ 44 ∷ (members ms ++ 125 ∷ [])))))) = simp append_assoc in
        let s = name_step d at a n b (c ++ (spelling t ++ (x ++ 44 ∷ (members ms ++ 125 ∷ [])))) (is ∙ apart) are.0 are.1 are.2 from to end f g h in
        value_there d (end + 1) c t (x ++ 44 ∷ (members ms ++ 125 ∷ [])) s.rest are.3 are.4 (omega arith) (IsOver-spaces x (44 ∷ (members ms ++ 125 ∷ [])) are.5 (refl, refl, refl)) e k

pub members_within : (d : List ℕ) (place at : ℕ) (done : List Pair) (v : Tree) → MembersLeft d place at done v → at < length d
members_within d place at done v l = omega (arith, ap length l.bytes, length-append (members l.left) (125 ∷ []), length-drop at d)
