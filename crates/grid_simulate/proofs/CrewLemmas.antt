-- The nodes of a simulation differ, and their texts are short.
use Rattle.std.proofs.Common.{◌≡◌, ℕ, zero, suc, ◌+◌, ◌<◌, Bool, true, false, ◌&&◌, ◌||◌, List, [], ◌∷◌, ◌++◌, add-one, refl, sym, ap, ◌∙◌, arith}
use Rattle.std.specs.Prelude.{◌==◌, if◌then◌else◌, codes}
use Rattle.std.specs.List.{list_all, list_any}
use Rattle.loop_node.specs.Sessions.{Node, new_node}
use Rattle.loop_node.specs.Links.{Differ}
use Rattle.loop_node.specs.Sizes.{short_texts}
use Rattle.grid_types.specs.declared.capabilities.Registration.{Registration}
use Rattle.grid_types.specs.declared.entry.Entry.{Entry}
use Rattle.grid_types.specs.Calls.{Call}
use Rattle.grid_types.specs.HubAnswers.{after_call}
use Rattle.hub_core.specs.HubView.{HubView, past}
use Rattle.grid_simulate.specs.Joining.{gathered}
use Rattle.grid_simulate.specs.World.{World, draw, drawn, simulated_config}
use Rattle.grid_simulate.specs.Crew.{version, browser_of, registration_of, joins_as, joined, crew}

pub crew_none : (number : ℕ) → crew number 0 ≡ record { number = number; moment = 0; history = []; nodes = []; tickets = []; reservations = []; sessions = [] }
unfolding crew
crew_none number = refl

pub crew_more : (number i : ℕ) (now next : World) → now ≡ crew number i → next ≡ joined now (i + 1) → next ≡ crew number (i + 1)
unfolding crew
crew_more number i now next e h = h ∙ ap (λ (w : World). joined w (i + 1)) e ∙ ap (λ (n : ℕ). crew number n) (sym (add-one i))

all_last : (ns : List Node) (n : Node) → list_all short_texts ns ≡ true → short_texts n ≡ true → list_all short_texts (ns ++ n ∷ []) ≡ true
all_last [] n h s = both (short_texts n) s
  where
    both : (b : Bool) → b ≡ true → (b && true) ≡ true
    both true e = refl
    both false e = e
all_last (m ∷ ns) n h s = by_test (short_texts m) (list_all short_texts ns) (list_all short_texts (ns ++ n ∷ [])) h (λ g. all_last ns n g s)
  where
    by_test : (b c d : Bool) → (b && c) ≡ true → (c ≡ true → d ≡ true) → (b && d) ≡ true
    by_test true c d h g = g h
    by_test false c d h g = h

short_browser : (d i slots refuses : ℕ) → short_texts (new_node i (browser_of d) version slots refuses) ≡ true
short_browser d i slots refuses = by_tests (d == 0) (d == 1)
  where
    by_tests : (a b : Bool) → short_texts (new_node i (if a then codes "chrome" else if b then codes "firefox" else codes "safari") version slots refuses) ≡ true
    by_tests true b = refl
    by_tests false true = refl
    by_tests false false = refl

pub crew_short : (number n : ℕ) → list_all short_texts (crew number n).nodes ≡ true
unfolding crew
crew_short number zero = refl
crew_short number (suc n) =
    let w = crew number n in
    all_last w.nodes (new_node (n + 1) (browser_of (draw w 3)) version (1 + draw (drawn w) 4) (draw (drawn (drawn w)) 3)) (crew_short number n) (short_browser (draw w 3) (n + 1) (1 + draw (drawn w) 4) (draw (drawn (drawn w)) 3))

-- each number of the nodes is below this one
abbrev Below : ℕ → List Node → Type 0
Below k [] = Unit {0}
Below k (m ∷ ns) = (m.number < k) × Below k ns

below_later : (k j : ℕ) (ns : List Node) → k < j → Below k ns → Below j ns
below_later k j [] h b = tt
below_later k j (m ∷ ns) h b = (omega (arith, h, b.0), below_later k j ns h b.1)

below_last : (k : ℕ) (ns : List Node) (n : Node) → Below k ns → n.number < k → Below k (ns ++ n ∷ [])
below_last k [] n b h = (h, tt)
below_last k (m ∷ ns) n b h = (b.0, below_last k ns n b.1 h)

differ_last : (ns : List Node) (n : Node) → Differ ns → Below n.number ns → Differ (ns ++ n ∷ [])
differ_last [] n d b = (refl, tt)
differ_last (m ∷ ns) n d b = (none ns d.0, differ_last ns n d.1 b.1)
  where
    other : (n.number == m.number) ≡ false
    other = grind (arith, b.0)

    none : (ns : List Node) → list_any (λ k. k.number == m.number) ns ≡ false → list_any (λ k. k.number == m.number) (ns ++ n ∷ []) ≡ false
    none [] h = rw other refl
    none (k ∷ ks) h = by_test (k.number == m.number) (list_any (λ j. j.number == m.number) ks) (list_any (λ j. j.number == m.number) (ks ++ n ∷ [])) h (none ks)
      where
        by_test : (b c e : Bool) → (b || c) ≡ false → (c ≡ false → e ≡ false) → (b || e) ≡ false
        by_test true c e h g = h
        by_test false c e h g = g h

numbered : (number n : ℕ) → Differ (crew number n).nodes × Below (n + 1) (crew number n).nodes
unfolding crew
numbered number zero = (tt, tt)
numbered number (suc n) =
    let w = crew number n in
    let before = numbered number n in
    let last = new_node (n + 1) (browser_of (draw w 3)) version (1 + draw (drawn w) 4) (draw (drawn (drawn w)) 3) in
    (differ_last w.nodes last before.0 before.1, below_last (suc n + 1) w.nodes last (below_later (n + 1) (suc n + 1) w.nodes (omega arith) before.1) (omega arith))

pub crew_differ : (number n : ℕ) → Differ (crew number n).nodes
crew_differ number n = (numbered number n).0

-- a node registers, and stands behind the others
pub enrolled : (number i slots refuses : ℕ) (b : List ℕ) (old new : HubView) (ns ms : List Node) (r : Registration) (n : Node) → r ≡ registration_of i b slots → n ≡ new_node i b version slots refuses →
    past new ≡ after_call simulated_config (past old) 0 (Call.register r) 0 → ms ≡ ns ++ n ∷ [] → gathered number new ms ≡ joins_as (gathered number old ns) i b slots refuses
enrolled number i slots refuses b old new ns ms r n er en eh em =
    ap (λ (l : List Node). gathered number new l) (em ∙ ap (λ (m : Node). ns ++ m ∷ []) en)
    ∙ ap (λ (H : List Entry). record (gathered number new (ns ++ new_node i b version slots refuses ∷ [])) { history = H })
    (eh ∙ ap (λ (q : Registration). after_call simulated_config (past old) 0 (Call.register q) 0) er)
