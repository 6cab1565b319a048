-- The lists that a body gives ask for a time wherever they have its name.
use Rattle.std.proofs.Common.{◌≡◌, ℕ, suc, Bool, true, false, cond, ◌&&◌, ◌||◌, not, nat_lt, List, [], ◌∷◌, ◌++◌, Option, None, Some, Result, Ok, Err, is_some, codes, bytes_eq, refl, ap, subst, ap₂, ◌∙◌}
use Rattle.std.proofs.lemmas.Bool.{and_parts}
use Rattle.std.proofs.lemmas.List.Folds.{list_all-append}
use Rattle.std.proofs.lemmas.Slice.Eq.{bytes_eq-Decides}
use Rattle.std.specs.List.{list_all}
use Rattle.std.specs.Str.Parse.{digits_value}
use Rattle.grid_types.specs.declared.capabilities.Cap.{Cap}
use Rattle.grid_types.specs.declared.queue_time.TheConstants.{QUEUE_TIME_NAME}
use Rattle.grid_types.specs.Capabilities.{request_bytes}
use Rattle.grid_types.specs.Lists.{when}
use Rattle.grid_types.specs.QueueTime.{queue_time_of}
use Rattle.json_spans.specs.Grammar.{Tree, word, number, text, empty_list, list, empty_object, object}
use Rattle.json_spans.specs.Characters.{meaning}
use Rattle.caps_merge.specs.declared.fault.CapsFault.{CapsFault}
use Rattle.caps_merge.specs.declared.fault.CapsFault.TheVariants as fault
use Rattle.caps_merge.specs.declared.rule.Rule.{Rule}
use Rattle.caps_merge.specs.declared.rule.Rule.TheVariants as rule
use Rattle.caps_merge.specs.Placed.{Placed, Member}
use Rattle.caps_merge.specs.Reading.{read_members, value_named, and_then}
use Rattle.caps_merge.specs.Allowed.{allowed, rule_of, cap_value, is_null, tree_kind, asks_queue_time}
use Rattle.caps_merge.specs.Merging.{BodyGives, too_large, not_json, json, cap_of, or_bad, with_member, with_members, list_of, lists_of, or_nothing, entries_of, merged, first_clash, unless_clash, merge_of, asked_by}
use Rattle.caps_merge.specs.OwnTimes.{asks_where_named, all_ask}

-- a step that goes well comes after one that did
record Went {X Y E : Type 0} (r : Result X E) (next : X → Result Y E) (y : Y) : Type 0 where
  x : X
  first : r ≡ Ok x
  then : next x ≡ Ok y

went : {X Y E : Type 0} (r : Result X E) (next : X → Result Y E) (y : Y) → and_then r next ≡ Ok y → Went r next y
went (Ok x) next y e = record { x = x; first = refl; then = e }
went (Err f) next y e = cc

-- ---- a member

value_asks : (v : Tree) → asks_queue_time v ≡ true → is_some (queue_time_of (cap_value v)) ≡ true
value_asks (word s) e = cc
value_asks (number s) e = ap (λ (b : Bool). is_some (when b (digits_value 10 s))) e
value_asks (text cs) e = cc
value_asks (empty_list w) e = cc
value_asks (list is) e = cc
value_asks (empty_object w) e = cc
value_asks (object ms) e = cc

rule_is : (name : List ℕ) → bytes_eq name QUEUE_TIME_NAME.now ≡ true → rule_of name ≡ rule.QueueTime
unfolding rule_of
rule_is name e = ap rule_of ((bytes_eq-Decides name QUEUE_TIME_NAME.now).0 e)

allowed_asks : (v : Placed) → allowed rule.QueueTime v ≡ Ok true → asks_queue_time v.tree ≡ true
allowed_asks v e = cc

cap_asks : (m : Member) → allowed (rule_of (meaning m.name)) m.value ≡ Ok true → asks_where_named (cap_of m) ≡ true
cap_asks m a = by (bytes_eq (meaning m.name) QUEUE_TIME_NAME.now) refl
  where
    by : (b : Bool) → bytes_eq (meaning m.name) QUEUE_TIME_NAME.now ≡ b → not b || is_some (cond b (queue_time_of (cap_value m.value.tree)) None) ≡ true
    by true e =
        value_asks m.value.tree (allowed_asks m.value (subst (λ (r : Rule). allowed r m.value ≡ Ok true) (rule_is (meaning m.name) e) a))
    by false e = refl

-- ---- a list

all_append : {X : Type 0} (p : X → Bool) (xs ys : List X) → list_all p xs ≡ true → list_all p ys ≡ true → list_all p (xs ++ ys) ≡ true
all_append p xs ys f g = list_all-append p xs ys ∙ ap₂ (λ (a b : Bool). a && b) f g

abbrev Asks : List Cap → Type 0
Asks caps = list_all asks_where_named caps ≡ true

bad_asks : (k : ℕ) (done more : List Cap) (m : Member) (b : Bool) → allowed (rule_of (meaning m.name)) m.value ≡ Ok b → or_bad k done m b ≡ Ok more → Asks done → Asks more
bad_asks k done more m true a e h =
    let both : Asks (done ++ cap_of m ∷ []) = all_append asks_where_named done (cap_of m ∷ []) h (ap (λ (b : Bool). b && true) (cap_asks m a)) in
    subst Asks (let is : done ++ cap_of m ∷ [] ≡ more = cc in is) both
bad_asks k done more m false a e h = cc

member_asks : (k : ℕ) (done more : List Cap) (m : Member) → with_member k done m ≡ Ok more → Asks done → Asks more
member_asks k done more m e h = by (is_null (tree_kind m.value.tree)) e
  where
    by : (b : Bool) → cond b (Ok done) (and_then (allowed (rule_of (meaning m.name)) m.value) (or_bad k done m)) ≡ Ok more → Asks more
    by true f = subst Asks (let is : done ≡ more = cc in is) h
    by false f = let w = went (allowed (rule_of (meaning m.name)) m.value) (or_bad k done m) more f in bad_asks k done more m w.x w.first w.then h

members_ask : (k : ℕ) (done caps : List Cap) (ms : List Member) → with_members k done ms ≡ Ok caps → Asks done → Asks caps
members_ask k done caps [] e h = subst Asks (let is : done ≡ caps = cc in is) h
members_ask k done caps (m ∷ ms) e h =
    let w = went (with_member k done m) (λ more. with_members k more ms) caps e in
    members_ask k w.x caps ms w.then (member_asks k done w.x m w.first h)

list_asks : (k : ℕ) (v : Placed) (caps : List Cap) → list_of k v ≡ Ok caps → Asks caps
list_asks k v caps e =
    let w = went (read_members v (fault.BadList k)) (with_members k []) caps e in
    members_ask k [] caps w.x w.then refl

-- ---- all lists

abbrev AllAsk : List (List Cap) → Type 0
AllAsk lists = all_ask lists ≡ true

lists_ask : (k : ℕ) (done lists : List (List Cap)) (vs : List Placed) → lists_of k done vs ≡ Ok lists → AllAsk done → AllAsk lists
lists_ask k done lists [] e h = subst AllAsk (let is : done ≡ lists = cc in is) h
lists_ask k done lists (v ∷ vs) e h =
    let w = went (list_of k v) (λ caps. lists_of (suc k) (done ++ caps ∷ []) vs) lists e in
    lists_ask (suc k) (done ++ w.x ∷ []) lists vs w.then
    (all_append (list_all asks_where_named) done (w.x ∷ []) h (ap (λ (b : Bool). b && true) (list_asks k v w.x w.first)))

merged_ask : (always : List Cap) (entries : List (List Cap)) → Asks always → AllAsk entries → AllAsk (merged always entries)
merged_ask always [] h g = refl
merged_ask always (entry ∷ entries) h g =
    let both = and_parts (list_all asks_where_named entry) (all_ask entries) g in
    ap₂ (λ (a b : Bool). a && b) (all_append asks_where_named always entry h both.0) (merged_ask always entries h both.1)

sized : (b : Bool) (f : CapsFault) (lists given : List (List Cap)) → cond b (Err f) (Ok lists) ≡ Ok given → lists ≡ given
sized true f lists given e = cc
sized false f lists given e = cc

unclashed : (o : Option CapsFault) (lists given : List (List Cap)) → unless_clash o lists ≡ Ok given → lists ≡ given
unclashed None lists given e = sized (nat_lt 16777216 (request_bytes lists)) (fault.TooLarge (request_bytes lists)) lists given e
unclashed (Some f) lists given e = cc

asked_ask : (ms : List Member) (lists : List (List Cap)) → asked_by ms ≡ Ok lists → AllAsk lists
unfolding asked_by
asked_ask ms lists e =
    let always_match = or_nothing (value_named (codes "alwaysMatch") ms) in
    let a = went (entries_of (value_named (codes "firstMatch") ms)) (λ entries. and_then (list_of 0 always_match) (λ always. and_then (lists_of 1 [] entries) (merge_of always))) lists e in
    let b = went (list_of 0 always_match) (λ always. and_then (lists_of 1 [] a.x) (merge_of always)) lists a.then in
    let d = went (lists_of 1 [] a.x) (merge_of b.x) lists b.then in
    subst AllAsk (unclashed (first_clash 0 b.x d.x) (merged b.x d.x) lists d.then)
    (merged_ask b.x d.x (list_asks 0 always_match b.x b.first) (lists_ask 1 [] d.x a.x d.first refl))

-- what a body gives asks
pub own_times : (body : List ℕ) (r : Result (List (List Cap)) CapsFault) (lists : List (List Cap)) → BodyGives body r → r ≡ Ok lists → AllAsk lists
own_times body _ lists (too_large many) e = cc
own_times body _ lists (not_json f few h) e = cc
own_times body _ lists (json before v after few u h) e = let w = went _ asked_by lists e in asked_ask w.x lists w.then
