-- A registration that a body gives is well sized.
use Rattle.std.proofs.Common.{◌≡◌, ℕ, ◌+◌, ◌≤◌, Bool, true, false, ◌&&◌, nat_le, List, [], ◌∷◌, ◌++◌, length, replicate, codes, Option, None, Some, Result, Ok, Err, refl, sym, ap, subst, ◌∙◌, arith, length-append}
use Rattle.std.proofs.lemmas.List.{length-replicate}
use Rattle.std.proofs.lemmas.Bool.{and_parts}
use Rattle.std.proofs.lemmas.Bool.Decides.{nat_tests}
use Rattle.std.specs.List.{list_all}
use Rattle.std.specs.Char.{is_ascii_digit}
use Rattle.std.specs.Str.Parse.{digits_value}
use Rattle.grid_types.specs.declared.capabilities.SlotGroup.{SlotGroup}
use Rattle.grid_types.specs.declared.capabilities.Registration.{Registration}
use Rattle.grid_types.specs.declared.limits.TheConstants.{MOST_DRAIN_AFTER}
use Rattle.grid_types.specs.Names.{is_node_address}
use Rattle.grid_types.specs.Nodes.{stereotypes}
use Rattle.grid_types.specs.Permitted.{is_well_sized, is_drain_count}
use Rattle.json_spans.specs.Grammar.{Tree, word, number, text, empty_list, list, empty_object, object}
use Rattle.caps_merge.specs.declared.registering.fault.RegField.{RegField}
use Rattle.caps_merge.specs.declared.registering.fault.RegField.TheVariants as field
use Rattle.caps_merge.specs.declared.registering.fault.RegFault.{RegFault}
use Rattle.caps_merge.specs.Placed.{Placed, placed, Member, list_elements}
use Rattle.caps_merge.specs.Reading.{value_named, and_then}
use Rattle.caps_merge.specs.Allowed.{is_whole}
use Rattle.caps_merge.specs.Registering.{read_fields, if_right, string_where, is_node_name, number_in, number_where, drain_after_where, stereotype_of, group_with, group_by, group_of, with_groups, some_groups, slots_of, slot_count, few_slots, groups_by, registration_by, RegistrationGives, too_large, not_json, json}

-- a step that goes well comes after one that did
record Went {X Y : Type 0} (r : Result X RegFault) (next : X → Result Y RegFault) (y : Y) : Type 0 where
  x : X
  first : r ≡ Ok x
  then : next x ≡ Ok y

went : {X Y : Type 0} (r : Result X RegFault) (next : X → Result Y RegFault) (y : Y) → and_then r next ≡ Ok y → Went r next y
went (Ok x) next y e = record { x = x; first = refl; then = e }
went (Err f) next y e = cc

right_of : {X : Type 0} (b : Bool) (f : RegField) (x y : X) → if_right b f x ≡ Ok y → (b ≡ true) × (x ≡ y)
right_of true f x y e = (refl, let is : x ≡ y = cc in is)
right_of false f x y e = cc

-- ---- numbers

abbrev IsWithin : ℕ → ℕ → Type 0
IsWithin most n = (nat_le 1 n ≡ true) × (nat_le n most ≡ true)

whole_within : (most : ℕ) (s : List ℕ) → is_whole 1 most s ≡ true → IsWithin most (digits_value 10 s)
whole_within most s e =
    let b = and_parts (list_all is_ascii_digit s && nat_le 1 (digits_value 10 s)) (nat_le (digits_value 10 s) most) e in
    ((and_parts (list_all is_ascii_digit s) (nat_le 1 (digits_value 10 s)) b.0).1, b.1)

number_within : (most : ℕ) (f : RegField) (v : Tree) (n : ℕ) → number_in most f v ≡ Ok n → IsWithin most n
number_within most f (number s) n e =
    let r = right_of (is_whole 1 most s) f (digits_value 10 s) n e in
    subst (IsWithin most) r.1 (whole_within most s r.0)
number_within most f (word s) n e = cc
number_within most f (text cs) n e = cc
number_within most f (empty_list w) n e = cc
number_within most f (list is) n e = cc
number_within most f (empty_object w) n e = cc
number_within most f (object ms) n e = cc

found_within : (f : RegField) (o : Option Placed) (n : ℕ) → number_where f o ≡ Ok n → IsWithin 64 n
found_within f None n e = cc
found_within f (Some v) n e = number_within 64 f v.tree n e

drain_within : (o : Option Placed) (count : Option ℕ) → drain_after_where o ≡ Ok count → is_drain_count count ≡ true
drain_within None count e = subst (λ (c : Option ℕ). is_drain_count c ≡ true) (let is : None ≡ count = cc in is) refl
drain_within (Some v) count e =
    let w = went (number_in MOST_DRAIN_AFTER field.DrainAfter v.tree) (λ n. Ok (Some n)) count e in
    let b = number_within MOST_DRAIN_AFTER field.DrainAfter v.tree w.x w.first in
    subst (λ (c : Option ℕ). is_drain_count c ≡ true) (let is : Some w.x ≡ count = cc in is)
    (ap (λ (t : Bool). t && nat_le w.x MOST_DRAIN_AFTER) b.0 ∙ b.1)

-- ---- groups

at_least : (n : ℕ) → nat_le 1 n ≡ true → 1 ≤ n
at_least n e = grind (arith, nat_tests)

group_counts : (ms : List Member) (g : SlotGroup) → group_by ms ≡ Ok g → 1 ≤ g.count
group_counts ms g e =
    let o = value_named (codes "count") ms in
    let w = went (number_where field.Count o) (λ count. and_then (stereotype_of (value_named (codes "stereotype") ms)) (group_with count)) g e in
    let u = went (stereotype_of (value_named (codes "stereotype") ms)) (group_with w.x) g w.then in
    let is : record { stereotype = u.x; count = w.x } ≡ g = cc in
    subst (λ (n : ℕ). 1 ≤ n) (ap (λ (h : SlotGroup). h.count) is) (at_least w.x (found_within field.Count o w.x w.first).0)

one_counts : (v : Placed) (g : SlotGroup) → group_of v ≡ Ok g → 1 ≤ g.count
one_counts v g e = let w = went (read_fields v field.Slots) group_by g e in group_counts w.x g w.then

one_more : (done : List SlotGroup) (g : SlotGroup) → slot_count (done ++ g ∷ []) ≡ slot_count done + g.count
one_more [] g = omega arith
one_more (d ∷ done) g = omega (arith, one_more done g)

each_counts : (done groups : List SlotGroup) (vs : List Placed) → with_groups done vs ≡ Ok groups → slot_count done + length vs ≤ slot_count groups
each_counts done groups [] e = let is : done ≡ groups = cc in omega (arith, ap slot_count is)
each_counts done groups (v ∷ vs) e =
    let w = went (group_of v) (λ group. with_groups (done ++ group ∷ []) vs) groups e in
    omega (arith, each_counts (done ++ w.x ∷ []) groups vs w.then, one_more done w.x, one_counts v w.x w.first)

some_there : (o : Option (List Placed)) (vs : List Placed) → some_groups o ≡ Ok vs → 1 ≤ length vs
some_there None vs e = cc
some_there (Some us) vs e =
    let r = right_of (nat_le 1 (length us) && nat_le (length us) 64) field.Slots us vs e in
    subst (λ (xs : List Placed). 1 ≤ length xs) r.1 (at_least (length us) (and_parts (nat_le 1 (length us)) (nat_le (length us) 64) r.0).0)

slots_there : (o : Option Placed) (vs : List Placed) → slots_of o ≡ Ok vs → 1 ≤ length vs
slots_there None vs e = cc
slots_there (Some v) vs e = some_there (list_elements v.place v.tree) vs e

-- the slots are those of all groups
slots_are : (groups : List SlotGroup) → length (stereotypes groups) ≡ slot_count groups
slots_are [] = refl
slots_are (g ∷ groups) =
    length-append (replicate g.count g.stereotype) (stereotypes groups)
    ∙ omega (arith, length-replicate g.count g.stereotype, slots_are groups)

groups_within : (ms : List Member) (groups : List SlotGroup) → groups_by ms ≡ Ok groups → IsWithin 64 (length (stereotypes groups))
groups_within ms groups e =
    let o = value_named (codes "slots") ms in
    let a = went (slots_of o) (λ vs. and_then (with_groups [] vs) few_slots) groups e in
    let b = went (with_groups [] a.x) few_slots groups a.then in
    let r = right_of (nat_le (slot_count b.x) 64) field.Slots b.x groups b.then in
    let some : 1 ≤ slot_count b.x = omega (arith, each_counts [] b.x a.x b.first, slots_there o a.x a.first) in
    let least : nat_le 1 (slot_count b.x) ≡ true = grind (arith, nat_tests) in
    subst (λ (gs : List SlotGroup). IsWithin 64 (length (stereotypes gs))) r.1
    (subst (IsWithin 64) (sym (slots_are b.x)) (least, r.0))

-- ---- the whole

all_right : (a b c d e : Bool) → a ≡ true → b ≡ true → c ≡ true → d ≡ true → e ≡ true → (a && b && c && d && e) ≡ true
all_right a b c d e p q r s t = rw (p, q, r, s, t) refl

by_members : (ms : List Member) (node : Registration) → registration_by ms ≡ Ok node → is_well_sized node ≡ true
unfolding registration_by
by_members ms node e =
    let named = string_where is_node_name field.Name (value_named (codes "name") ms) in
    let addressed = string_where is_node_address field.Address (value_named (codes "address") ms) in
    let limit = value_named (codes "maxSessions") ms in
    let drain = value_named (codes "drainAfter") ms in
    let a = went named _ node e in
    let b = went addressed _ node a.then in
    let l = went (number_where field.MaxSessions limit) _ node b.then in
    let d = went (drain_after_where drain) _ node l.then in
    let g = went (groups_by ms) (λ groups. Ok (record { name = a.x; address = b.x; max_sessions = l.x; groups = groups; drain_after = d.x })) node d.then in
    let is : record { name = a.x; address = b.x; max_sessions = l.x; groups = g.x; drain_after = d.x } ≡ node = cc in
    let slots = groups_within ms g.x g.first in
    let most = found_within field.MaxSessions limit l.x l.first in
    subst (λ (r : Registration). is_well_sized r ≡ true) is
    (all_right _ _ _ _ _ slots.0 slots.1 most.0 most.1 (drain_within drain d.x d.first))

sized_by : (body : List ℕ) (r : Result Registration RegFault) (node : Registration) → RegistrationGives body r → r ≡ Ok node → is_well_sized node ≡ true
sized_by body _ node (too_large many) e = cc
sized_by body _ node (not_json f few h) e = cc
sized_by body _ node (json before v after few u h) e =
    let w = went (read_fields (placed (length before) v) field.Body) registration_by node e in
    by_members w.x node w.then

pub well_sized : (body : List ℕ) (node : Registration) → RegistrationGives body (Ok node) → is_well_sized node ≡ true
well_sized body node h = sized_by body (Ok node) node h refl
