-- Teams that words say may start, and stand where they are said to when they have.
use Rattle.std.proofs.Common.{◌≡◌, ℕ, zero, suc, ◌+◌, ◌≤◌, Bool, true, false, cond, List, [], ◌∷◌, ◌++◌, length, get_or, drop, refl, sym, ap, subst, ◌∙◌, arith, length-append, append_assoc, Result, Ok, Err, OnOk}
use Rattle.std.specs.Prelude.{bytes_eq}
use Rattle.play_words.specs.declared.play.PlayNode.{PlayNode}
use Rattle.grid_play.specs.Crew.{AllFit, IsFit}
use Rattle.grid_play.specs.Talks.{SaidNodesFit}
use Rattle.team_words.specs.declared.team_play.TeamPlay.{TeamPlay}
use Rattle.team_words.specs.Teams.{TeamNode, all_put, put_in, with_node}
use Rattle.team_words.specs.Words.{SaysTeamNodes, SaysTeams}
use Rattle.grid_teams_top.specs.declared.playing.PlayingTeam.{PlayingTeam}
use Rattle.grid_teams_top.specs.Blocks.{AllPlay, PlaysFor, standing_of, standings}
use Rattle.grid_teams_top.specs.Play.{first_of, first_standings}
use Rattle.grid_teams_run.specs.Teams.{AllMayStart, AllStarted}

-- ---- where they stand

pub started_play : (said : List TeamPlay) (teams : List PlayingTeam) → AllStarted said teams → AllPlay said teams
started_play [] [] h = tt
started_play [] (t ∷ teams) h = absurd h
started_play (s ∷ said) [] h = absurd h
started_play (s ∷ said) (t ∷ teams) h = (h.0, started_play said teams h.2)

pub started_first : (said : List TeamPlay) (teams : List PlayingTeam) → AllStarted said teams → (place : ℕ) → standings teams place ≡ first_standings said place
started_first [] [] h place = refl
started_first [] (t ∷ teams) h place = absurd h
started_first (s ∷ said) [] h place = absurd h
started_first (s ∷ said) (t ∷ teams) h zero = h.1
started_first (s ∷ said) (t ∷ teams) h (suc place) = started_first said teams h.2 place

pub first_one : (xs : List TeamPlay) (a : TeamPlay) → 1 ≤ length xs → a ≡ get_or xs 0 a → xs ≡ a ∷ drop 1 xs
first_one [] a least p = absurd (omega (arith, least))
first_one (x ∷ xs) a least p = ap (λ (v : TeamPlay). v ∷ xs) (sym p)

pub started_more : (said others : List TeamPlay) (team : TeamPlay) (t : PlayingTeam) (old mid new : List PlayingTeam) → said ≡ team ∷ others → PlaysFor team t →
    standing_of t ≡ first_of team → mid ≡ old ++ t ∷ [] → ((more : List PlayingTeam) × AllStarted others more × (new ≡ mid ++ more)) →
    (more : List PlayingTeam) × AllStarted said more × (new ≡ old ++ more)
started_more said others team t old mid new e p s m h = (
  t ∷ h.0,
  subst (λ (ts : List TeamPlay). AllStarted ts (t ∷ h.0)) (sym e) (p, s, h.1),
  h.2 ∙ ap (λ (ts : List PlayingTeam). ts ++ h.0) m ∙ append_assoc old (t ∷ []) h.0,
)

pub ok_map : {A E : Type 0} (r : Result A E) (P Q : Type 0) → (P → Q) → OnOk r P → OnOk r Q
ok_map (Ok x) P Q f p = f p
ok_map (Err e) P Q f p = tt

-- ---- that they may start

-- each team has few nodes, which are as nodes may be
abbrev Small : ℕ → List TeamPlay → Type 0
Small k [] = Unit {0}
Small k (t ∷ teams) = AllFit t.nodes × (length t.nodes ≤ k) × Small k teams

fit_more : (nodes : List PlayNode) (n : PlayNode) → AllFit nodes → IsFit n → AllFit (nodes ++ n ∷ [])
fit_more [] n h f = (f, tt)
fit_more (m ∷ nodes) n h f = (h.0, fit_more nodes n h.1 f)

larger : (k j : ℕ) (teams : List TeamPlay) → k ≤ j → Small k teams → Small j teams
larger k j [] e h = tt
larger k j (t ∷ teams) e h = (h.0, omega (arith, e, h.1), larger k j teams e h.2)

one_longer : (nodes : List PlayNode) (n : PlayNode) → length (nodes ++ n ∷ []) ≡ length nodes + 1
one_longer nodes n = length-append nodes (n ∷ [])

put_step : (k : ℕ) (t : TeamPlay) (teams : List TeamPlay) (name : List ℕ) (n : PlayNode) (is : Bool) → Small k (t ∷ teams) → IsFit n →
    Small (k + 1) (put_in teams name n) → Small (k + 1) (cond is (with_node t n ∷ teams) (t ∷ put_in teams name n))
put_step k t teams name n true h f behind =
    let l = one_longer t.nodes n in (fit_more t.nodes n h.0 f, omega (arith, l, h.1), larger k (k + 1) teams (omega arith) h.2)
put_step k t teams name n false h f behind = (h.0, omega (arith, h.1), behind)

put_small : (k : ℕ) (teams : List TeamPlay) (name : List ℕ) (n : PlayNode) → Small k teams → IsFit n → Small (k + 1) (put_in teams name n)
put_small k [] name n h f = ((f, tt), omega arith, tt)
put_small k (t ∷ teams) name n h f = put_step k t teams name n (bytes_eq t.name name) h f (put_small k teams name n h.2 f)

abbrev NodesFit : List TeamNode → Type 0
NodesFit [] = Unit {0}
NodesFit (n ∷ nodes) = IsFit n.node × NodesFit nodes

all_small : (k : ℕ) (teams : List TeamPlay) (nodes : List TeamNode) → Small k teams → NodesFit nodes → Small (k + length nodes) (all_put teams nodes)
all_small k teams [] h f = larger k (k + 0) teams (omega arith) h
all_small k teams (n ∷ nodes) h f =
    larger ((k + 1) + length nodes) (k + length (n ∷ nodes)) (all_put (put_in teams n.team n.node) nodes) (omega arith)
    (all_small (k + 1) (put_in teams n.team n.node) nodes (put_small k teams n.team n.node h f.0) f.1)

nodes_fit : SaidNodesFit → (words : List (List ℕ)) (nodes : List TeamNode) → SaysTeamNodes words nodes → NodesFit nodes
nodes_fit fit [] [] h = tt
nodes_fit fit [] (n ∷ nodes) h = absurd h
nodes_fit fit (a ∷ []) nodes h = absurd h
nodes_fit fit (a ∷ b ∷ []) nodes h = absurd h
nodes_fit fit (a ∷ b ∷ c ∷ words) [] h = tt
nodes_fit fit (a ∷ b ∷ c ∷ words) (n ∷ nodes) h = (fit b c n.node h.0.node_is, nodes_fit fit words nodes h.1)

small_start : (teams : List TeamPlay) → Small 16 teams → AllMayStart teams
small_start [] h = tt
small_start (t ∷ teams) h = (h.0, omega (arith, h.1), small_start teams h.2)

pub may_start : SaidNodesFit → (words : List (List ℕ)) (said : List TeamPlay) → SaysTeams words said → AllMayStart said
may_start fit words said s =
    let c = s.crews in
    small_start said (subst (λ (ts : List TeamPlay). Small 16 ts) (sym c.teams_are)
    (larger (0 + length c.nodes) 16 (all_put [] c.nodes) (omega (arith, c.few)) (all_small 0 [] c.nodes tt (nodes_fit fit s.node_words c.nodes c.nodes_are))))
