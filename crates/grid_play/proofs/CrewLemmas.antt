-- The nodes of a play are numbered one by one, and their texts are short.
use Rattle.std.proofs.Common.{◌≡◌, ℕ, ◌+◌, ◌^◌, ◌<◌, ◌≤◌, Bool, true, false, ◌&&◌, ◌||◌, List, [], ◌∷◌, ◌++◌, length, get_or, drop, refl, sym, ap, subst, ◌∙◌, arith}
use Rattle.std.specs.Prelude.{◌==◌, Result, Ok, Err, OnOk}
use Rattle.std.specs.List.{list_all, list_any}
use Rattle.grid_types.specs.declared.NoMemory.{NoMemory}
use Rattle.grid_types.specs.declared.capabilities.Registration.{Registration}
use Rattle.grid_types.specs.declared.config.HubConfig.{HubConfig}
use Rattle.grid_types.specs.declared.entry.Entry.{Entry}
use Rattle.grid_types.specs.Calls.{Call}
use Rattle.grid_types.specs.HubAnswers.{after_call}
use Rattle.hub_core.specs.HubView.{HubView, past}
use Rattle.loop_node.specs.Links.{Differ}
use Rattle.loop_node.specs.Sessions.{Node}
use Rattle.loop_node.specs.Sizes.{short_texts}
use Rattle.play_words.specs.declared.play.PlayNode.{PlayNode}
use Rattle.grid_play.specs.Crew.{AllFit, Crew, crew_from, first_crew, gathered, joins, loop_node_of, registration_of}
use Rattle.grid_play.proofs.GivesLemmas.{Ascends}

-- ---- numbers

-- they ascend from k on, up to below the last
abbrev Upto : ℕ → List Node → ℕ → Type 0
Upto k [] last = k ≤ last
Upto k (n ∷ ns) last = (k ≤ n.number) × Upto (n.number + 1) ns last

upto_le : (k : ℕ) (ns : List Node) (last : ℕ) → Upto k ns last → k ≤ last
upto_le k [] last u = u
upto_le k (n ∷ ns) last u = omega (arith, u.0, upto_le (n.number + 1) ns last u.1)

upto_more : (k : ℕ) (ns : List Node) (i : ℕ) (p : PlayNode) → Upto k ns i → Upto k (ns ++ loop_node_of i p ∷ []) (i + 1)
upto_more k [] i p u = (u, omega arith)
upto_more k (n ∷ ns) i p u = (u.0, upto_more (n.number + 1) ns i p u.1)

crew_upto : (c : HubConfig) (i : ℕ) (played : List PlayNode) (crew : Crew) → Upto 1 crew.nodes i → Upto 1 (crew_from c i played crew).nodes (i + length played)
crew_upto c i [] crew u = subst (λ (k : ℕ). Upto 1 crew.nodes k) (omega arith) u
crew_upto c i (p ∷ played) crew u =
    subst (λ (k : ℕ). Upto 1 (crew_from c (i + 1) played (joins c crew i p)).nodes k) (omega arith)
    (crew_upto c (i + 1) played (joins c crew i p) (upto_more 1 crew.nodes i p u))

first_upto : (c : HubConfig) (played : List PlayNode) → Upto 1 (first_crew c played).nodes (1 + length played)
first_upto c played = crew_upto c 1 played (record { history = []; nodes = []; numbers = [] }) (omega arith)

ascends_to : (k : ℕ) (ns : List Node) (last : ℕ) → last < 2 ^ 64 → Upto k ns last → Ascends k ns
ascends_to k [] last small u = tt
ascends_to k (n ∷ ns) last small u =
    (u.0, omega (arith, small, upto_le (n.number + 1) ns last u.1), ascends_to (n.number + 1) ns last small u.1)

pub crew_ascends : (c : HubConfig) (played : List PlayNode) → length played < 2 ^ 16 → Ascends 1 (first_crew c played).nodes
crew_ascends c played few = ascends_to 1 (first_crew c played).nodes (1 + length played) (omega (arith, few)) (first_upto c played)

none_below : (j k : ℕ) (ns : List Node) (last : ℕ) → j < k → Upto k ns last → list_any (λ m. m.number == j) ns ≡ false
none_below j k [] last lt u = refl
none_below j k (n ∷ ns) last lt u =
    let later : j < n.number + 1 = omega (arith, lt, u.0) in
    by_test (n.number == j) (other n.number j (omega (arith, lt, u.0))) (none_below j (n.number + 1) ns last later u.1)
  where
    other : (a b : ℕ) → b < a → (a == b) ≡ false
    other a b h = grind (arith, h)

    by_test : (b : Bool) → b ≡ false → list_any (λ m. m.number == j) ns ≡ false → (b || list_any (λ m. m.number == j) ns) ≡ false
    by_test true e h = e
    by_test false e h = h

differ_to : (k : ℕ) (ns : List Node) (last : ℕ) → Upto k ns last → Differ ns
differ_to k [] last u = tt
differ_to k (n ∷ ns) last u = (none_below n.number (n.number + 1) ns last (omega arith) u.1, differ_to (n.number + 1) ns last u.1)

pub crew_differ : (c : HubConfig) (played : List PlayNode) → Differ (first_crew c played).nodes
crew_differ c played = differ_to 1 (first_crew c played).nodes (1 + length played) (first_upto c played)

-- ---- texts

all_last : (ns : List Node) (n : Node) → list_all short_texts ns ≡ true → short_texts n ≡ true → list_all short_texts (ns ++ n ∷ []) ≡ true
all_last [] n h s = both (short_texts n) s
  where
    both : (b : Bool) → b ≡ true → (b && true) ≡ true
    both true e = refl
    both false e = e
all_last (m ∷ ns) n h s = by_test (short_texts m) (list_all short_texts ns) (list_all short_texts (ns ++ n ∷ [])) h (λ g. all_last ns n g s)
  where
    by_test : (b c d : Bool) → (b && c) ≡ true → (c ≡ true → d ≡ true) → (b && d) ≡ true
    by_test true c d h g = g h
    by_test false c d h g = h

crew_all_short : (c : HubConfig) (i : ℕ) (played : List PlayNode) (crew : Crew) → AllFit played → list_all short_texts crew.nodes ≡ true →
    list_all short_texts (crew_from c i played crew).nodes ≡ true
crew_all_short c i [] crew fit h = h
crew_all_short c i (p ∷ played) crew fit h =
    crew_all_short c (i + 1) played (joins c crew i p) fit.1 (all_last crew.nodes (loop_node_of i p) h fit.0.short)

pub crew_short : (c : HubConfig) (played : List PlayNode) → AllFit played → list_all short_texts (first_crew c played).nodes ≡ true
crew_short c played fit = crew_all_short c 1 played (record { history = []; nodes = []; numbers = [] }) fit refl

-- ---- registrations

pub ok_more : {P Q : Type 0} (r : Result Unit NoMemory) → (P → Q) → OnOk r P → OnOk r Q
ok_more (Ok u) f h = f h
ok_more (Err e) f h = tt

abbrev crew_of : List Entry → List Node → List ℕ → Crew
crew_of history nodes numbers = record { history = history; nodes = nodes; numbers = numbers }

-- a node registers, and stands behind the others
pub joined_one : (c : HubConfig) (i : ℕ) (p : PlayNode) (old new : HubView) (ns ms : List Node) (xs ys : List ℕ) (r : Registration) (n : Node) →
    r ≡ registration_of i p → n ≡ loop_node_of i p → past new ≡ after_call c (past old) 0 (Call.register r) 0 → ms ≡ ns ++ n ∷ [] → ys ≡ xs ++ i ∷ [] →
    gathered new ms ys ≡ joins c (gathered old ns xs) i p
joined_one c i p old new ns ms xs ys r n er en eh em ey =
    let history = eh ∙ ap (λ (q : Registration). after_call c (past old) 0 (Call.register q) 0) er in
    let nodes = em ∙ ap (λ (k : Node). ns ++ k ∷ []) en in
    λ j. crew_of (history j) (nodes j) (ey j)

-- and the others behind it
pub joined_all : (c d : HubConfig) (i : ℕ) (p : PlayNode) (played others : List PlayNode) (old mid new : Crew) → d ≡ c → played ≡ p ∷ others → mid ≡ joins c old i p →
    new ≡ crew_from d (i + 1) others mid → new ≡ crew_from c i played old
joined_all c d i p played others old mid new ec ep em e =
    e ∙ (λ j. crew_from (ec j) (i + 1) others (em j)) ∙ ap (λ (l : List PlayNode). crew_from c i l old) (sym ep)

-- from a hub without an entry
pub joined_first : (c : HubConfig) (h : HubView) (ns : List Node) (xs : List ℕ) (played : List PlayNode) (last : Crew) → h ≡ record { config = c; journal = []; room = false } →
    ns ≡ [] → xs ≡ [] → last ≡ crew_from h.config 1 played (gathered h ns xs) → last ≡ first_crew c played
joined_first c h ns xs played last eh en ex e = e ∙ (λ j. crew_from (eh j).config 1 played (gathered (eh j) (en j) (ex j)))

-- a list of some nodes begins with the first
pub first_one : (xs : List PlayNode) (a : PlayNode) → 1 ≤ length xs → a ≡ get_or xs 0 a → xs ≡ a ∷ drop 1 xs
first_one [] a least p = absurd (omega (arith, least))
first_one (x ∷ xs) a least p = ap (λ (y : PlayNode). y ∷ xs) (sym p)
