-- Three words for each node.
use Rattle.std.proofs.Common.{◌≡◌, ℕ, ◌+◌, ◌<◌, ◌≤◌, Bool, false, true, List, [], ◌∷◌, ◌++◌, length, get_or, drop, codes, refl, sym, ap, ap₂, subst, ◌∙◌, arith, zero, suc, cond, slice_get, slice_set, Result, Ok, Err, OnOk, IfErr, IfOk, not}
use Rattle.std.specs.Prelude.{Option, None, Some, bytes_eq, option_map}
use Rattle.grid_teams.specs.Places.{names_by, place_of}
use Rattle.std.specs.Result.{is_err}
use Rattle.grid_types.specs.Config.{default_config}
use Rattle.play_words.specs.declared.play.PlayNode.{PlayNode}
use Rattle.play_words.specs.Words.{OnePlay, Plays, SaysNode}
use Rattle.team_words.specs.declared.team_play.TeamPlay.{TeamPlay}
use Rattle.team_words.specs.Teams.{TeamNode, all_put, put_in, team_of, with_node}
use Rattle.team_words.specs.Words.{SaysCrews, SaysTeamNode, SaysTeamNodes, SaysTeams, is_team_name}

pub first_word : (xs : List (List ℕ)) (a : List ℕ) → 1 ≤ length xs → a ≡ get_or xs 0 a → xs ≡ a ∷ drop 1 xs
first_word [] a least p = absurd (omega (arith, least))
first_word (x ∷ xs) a least p = ap (λ (v : List ℕ). v ∷ xs) (sym p)

pub first_three : (xs : List (List ℕ)) (a b c : List ℕ) → 3 ≤ length xs → a ≡ get_or xs 0 a → b ≡ get_or xs 1 b → c ≡ get_or xs 2 c → xs ≡ a ∷ b ∷ c ∷ drop 3 xs
first_three [] a b c least p q r = absurd (omega (arith, least))
first_three (x ∷ []) a b c least p q r = absurd (omega (arith, least))
first_three (x ∷ y ∷ []) a b c least p q r = absurd (omega (arith, least))
first_three (x ∷ y ∷ z ∷ xs) a b c least p q r =
    ap (λ (v : List ℕ). v ∷ y ∷ z ∷ xs) (sym p) ∙ ap (λ (v : List ℕ). a ∷ v ∷ z ∷ xs) (sym q) ∙ ap (λ (v : List ℕ). a ∷ b ∷ v ∷ xs) (sym r)

pub too_few : (words : List (List ℕ)) (said : List TeamNode) → 0 < length words → length words < 3 → SaysTeamNodes words said → ⊥
too_few [] said some few h = absurd (omega (arith, some))
too_few (a ∷ []) said some few h = h
too_few (a ∷ b ∷ []) said some few h = h
too_few (a ∷ b ∷ c ∷ words) said some few h = absurd (omega (arith, few))

pub nodes_length : (words : List (List ℕ)) (nodes : List TeamNode) → SaysTeamNodes words nodes → length words ≡ length nodes + length nodes + length nodes
nodes_length [] [] h = refl
nodes_length [] (n ∷ nodes) h = absurd h
nodes_length (t ∷ []) nodes h = absurd h
nodes_length (t ∷ w ∷ []) nodes h = absurd h
nodes_length (t ∷ w ∷ s ∷ words) [] h = absurd h
nodes_length (t ∷ w ∷ s ∷ words) (n ∷ nodes) h = omega (arith, nodes_length words nodes h.1)

pub all_said : (words : List (List ℕ)) → ((said : List TeamNode) × SaysTeamNodes words said) → 0 < length words → length words ≤ 48 → (teams : List TeamPlay) × SaysCrews words teams
all_said words said some few =
    let size = nodes_length words said.0 said.1 in
    (all_put [] said.0, record { nodes = said.0; nodes_are = said.1; some = omega (arith, size, some); few = omega (arith, size, few); teams_are = refl })

pub grown : (words others : List (List ℕ)) (t w s : List ℕ) (old mid new : List TeamPlay) → words ≡ t ∷ w ∷ s ∷ others
    → ((n : TeamNode) × SaysTeamNode t w s n × (mid ≡ all_put old (n ∷ [])))
    → ((said : List TeamNode) × SaysTeamNodes others said × (new ≡ all_put mid said)) → (said : List TeamNode) × SaysTeamNodes words said × (new ≡ all_put old said)
grown words others t w s old mid new e n h = (
  n.0 ∷ h.0,
  subst (λ (ws : List (List ℕ)). SaysTeamNodes ws (n.0 ∷ h.0)) (sym e) (n.1, h.1),
  h.2 ∙ ap (λ (ts : List TeamPlay). all_put ts h.0) n.2,
)

pub not_grown : (words others : List (List ℕ)) (t w s : List ℕ) → words ≡ t ∷ w ∷ s ∷ others → ((said : List TeamNode) → SaysTeamNodes others said → ⊥) → (said : List TeamNode) → SaysTeamNodes words said → ⊥
not_grown words others t w s e h said k = behind said (subst (λ (ws : List (List ℕ)). SaysTeamNodes ws said) e k)
  where
    behind : (ns : List TeamNode) → SaysTeamNodes (t ∷ w ∷ s ∷ others) ns → ⊥
    behind [] x = x
    behind (n ∷ ns) x = h ns x.1

pub said_more : (words others : List (List ℕ)) (t w s : List ℕ) → words ≡ t ∷ w ∷ s ∷ others → ((node : TeamNode) × SaysTeamNode t w s node) → ((said : List TeamNode) × SaysTeamNodes others said) →
    (said : List TeamNode) × SaysTeamNodes words said
said_more words others t w s e node h = (node.0 ∷ h.0, subst (λ (ws : List (List ℕ)). SaysTeamNodes ws (node.0 ∷ h.0)) (sym e) (node.1, h.1))

pub not_first : (words others : List (List ℕ)) (t w s : List ℕ) → words ≡ t ∷ w ∷ s ∷ others → ((node : TeamNode) → SaysTeamNode t w s node → ⊥) → (said : List TeamNode) → SaysTeamNodes words said → ⊥
not_first words others t w s e none said k = first said (subst (λ (ws : List (List ℕ)). SaysTeamNodes ws said) e k)
  where
    first : (ns : List TeamNode) → SaysTeamNodes (t ∷ w ∷ s ∷ others) ns → ⊥
    first [] x = x
    first (n ∷ ns) x = none n x.0

pub node_said : (team word slots : List ℕ) → is_team_name team ≡ true → ((node : PlayNode) × SaysNode word slots node) → (t : TeamNode) × SaysTeamNode team word slots t
node_said team word slots is node = (record { team = team; node = node.0 }, record { is_name = is; named = refl; node_is = node.1 })

pub ok_map : {A E : Type 0} (r : Result A E) (P Q : Type 0) → (P → Q) → OnOk r P → OnOk r Q
ok_map (Ok x) P Q f p = f p
ok_map (Err e) P Q f p = tt

pub ok_of : {A E : Type 0} (r : Result A E) (P : Type 0) → is_err r ≡ false → OnOk r P → P
ok_of (Ok x) P e p = p
ok_of (Err e) P d p = cc

pub err_map : {A E : Type 0} (r : Result A E) (P Q : E → Type 0) → ((e : E) → P e → Q e) → IfErr r P → IfErr r Q
err_map (Ok x) P Q f p = tt
err_map (Err e) P Q f p = f e p

-- ---- one list

plays_one : (word slots : List ℕ) (n : PlayNode) → SaysNode word slots n → Plays (codes "play" ∷ word ∷ slots ∷ []) default_config (n ∷ [])
plays_one word slots n s = record {
  node_words = word ∷ slots ∷ [];
  refusal = None;
  timeout = None;
  words_are = refl;
  crew = record { nodes_are = (s, tt); some = omega arith; few = omega arith };
  refusal_is = refl;
  timeout_is = refl;
  others = refl;
}

module _ (one : OnePlay) where
  node_one : (word slots : List ℕ) (n m : PlayNode) → SaysNode word slots n → SaysNode word slots m → n ≡ m
  node_one word slots n m h k =
      let same = one (codes "play" ∷ word ∷ slots ∷ []) default_config default_config (n ∷ []) (m ∷ []) (plays_one word slots n h) (plays_one word slots m k) in
      head_one n m same.same_nodes
    where
      head_one : (a b : PlayNode) → a ∷ [] ≡ b ∷ [] → a ≡ b
      head_one a b e = cc

  triple_one : (team word slots : List ℕ) (n m : TeamNode) → SaysTeamNode team word slots n → SaysTeamNode team word slots m → n ≡ m
  triple_one team word slots n m h k =
      ap (λ (x : List ℕ). record { team = x; node = n.node }) (h.named ∙ sym k.named)
      ∙ ap (λ (x : PlayNode). record { team = m.team; node = x }) (node_one word slots n.node m.node h.node_is k.node_is)

  nodes_one : (words : List (List ℕ)) (ns ms : List TeamNode) → SaysTeamNodes words ns → SaysTeamNodes words ms → ns ≡ ms
  nodes_one [] [] [] h k = refl
  nodes_one [] [] (m ∷ ms) h k = absurd k
  nodes_one [] (n ∷ ns) ms h k = absurd h
  nodes_one (t ∷ []) ns ms h k = absurd h
  nodes_one (t ∷ w ∷ []) ns ms h k = absurd h
  nodes_one (t ∷ w ∷ s ∷ words) [] ms h k = absurd h
  nodes_one (t ∷ w ∷ s ∷ words) (n ∷ ns) [] h k = absurd k
  nodes_one (t ∷ w ∷ s ∷ words) (n ∷ ns) (m ∷ ms) h k = ap₂ (λ (x : TeamNode) (xs : List TeamNode). x ∷ xs) (triple_one t w s n m h.0 k.0) (nodes_one words ns ms h.1 k.1)

  behind_one : (words : List (List ℕ)) (a b : List (List ℕ)) → words ≡ codes "teams" ∷ a → words ≡ codes "teams" ∷ b → a ≡ b
  behind_one words a b p q = tail_one (sym p ∙ q)
    where
      tail_one : codes "teams" ∷ a ≡ codes "teams" ∷ b → a ≡ b
      tail_one e = ap (λ (xs : List (List ℕ)). drop 1 xs) e

  pub teams_one : (words : List (List ℕ)) (teams others : List TeamPlay) → SaysTeams words teams → SaysTeams words others → teams ≡ others
  teams_one words teams others p q =
      p.crews.teams_are
      ∙ ap (λ (ns : List TeamNode). all_put [] ns) (nodes_one q.node_words p.crews.nodes q.crews.nodes
      (subst (λ (ws : List (List ℕ)). SaysTeamNodes ws p.crews.nodes) (behind_one words p.node_words q.node_words p.words_are q.words_are) p.crews.nodes_are) q.crews.nodes_are)
      ∙ sym q.crews.teams_are

-- ---- a node in its team

put_case : (t : TeamPlay) (teams : List TeamPlay) (name : List ℕ) (node : PlayNode) (is : Bool) → bytes_eq t.name name ≡ is →
    put_in (t ∷ teams) name node ≡ cond is (with_node t node ∷ teams) (t ∷ put_in teams name node)
put_case t teams name node is e = ap (λ (b : Bool). cond b (with_node t node ∷ teams) (t ∷ put_in teams name node)) e

place_case : (t : TeamPlay) (teams : List TeamPlay) (name : List ℕ) (is : Bool) → bytes_eq t.name name ≡ is →
    place_of name (names_by (λ (u : TeamPlay). u.name) (t ∷ teams)) ≡ cond is (Some 0) (option_map (λ place. place + 1) (place_of name (names_by (λ (u : TeamPlay). u.name) teams)))
place_case t teams name is e = ap (λ (b : Bool). cond b (Some 0) (option_map (λ (place : ℕ). place + 1) (place_of name (names_by (λ (u : TeamPlay). u.name) teams)))) e

abbrev names : List TeamPlay → List (List ℕ)
names teams = names_by (λ (u : TeamPlay). u.name) teams

abbrev next_place : Option ℕ → Option ℕ
next_place o = option_map (λ (place : ℕ). place + 1) o

none_behind : (o : Option ℕ) → next_place o ≡ None → o ≡ None
none_behind None e = refl
none_behind (Some p) e = cc

none_step : (t : TeamPlay) (teams : List TeamPlay) (name : List ℕ) (node : PlayNode) (is : Bool) → bytes_eq t.name name ≡ is →
    (place_of name (names teams) ≡ None → put_in teams name node ≡ teams ++ team_of name node ∷ []) → place_of name (names (t ∷ teams)) ≡ None →
    put_in (t ∷ teams) name node ≡ t ∷ (teams ++ team_of name node ∷ [])
none_step t teams name node true f behind e = let g = sym (place_case t teams name true f) ∙ e in cc
none_step t teams name node false f behind e =
    put_case t teams name node false f
    ∙ ap (λ (ts : List TeamPlay). t ∷ ts) (behind (none_behind (place_of name (names teams)) (sym (place_case t teams name false f) ∙ e)))

pub none_named : (teams : List TeamPlay) (name : List ℕ) (node : PlayNode) → place_of name (names_by (λ (u : TeamPlay). u.name) teams) ≡ None →
    put_in teams name node ≡ teams ++ team_of name node ∷ []
none_named [] name node e = refl
none_named (t ∷ teams) name node e = none_step t teams name node (bytes_eq t.name name) refl (none_named teams name node) e

zero_place : (p : ℕ) → Some 0 ≡ Some p → p ≡ 0
zero_place p e = cc

next_places : (o : Option ℕ) (p : ℕ) → next_place o ≡ Some p → (q : ℕ) × (o ≡ Some q) × (p ≡ q + 1)
next_places None p e = absurd cc
next_places (Some q) p e = (q, refl, some_one e)
  where
    some_one : Some (q + 1) ≡ Some p → p ≡ q + 1
    some_one x = cc

at_front : (u : TeamPlay) (teams : List TeamPlay) (t : TeamPlay) (node : PlayNode) (p : ℕ) → p ≡ 0 → slice_get (u ∷ teams) p ≡ Some t →
    with_node u node ∷ teams ≡ slice_set (u ∷ teams) p (with_node t node)
at_front u teams t node zero e h = let same : u ≡ t = cc in ap (λ (v : TeamPlay). with_node v node ∷ teams) same
at_front u teams t node (suc p) e h = absurd (omega (arith, e))

further : (u : TeamPlay) (teams : List TeamPlay) (t : TeamPlay) (name : List ℕ) (node : PlayNode) (p q : ℕ) → p ≡ q + 1 → place_of name (names teams) ≡ Some q →
    ((r : ℕ) → place_of name (names teams) ≡ Some r → slice_get teams r ≡ Some t → put_in teams name node ≡ slice_set teams r (with_node t node)) →
    slice_get (u ∷ teams) p ≡ Some t → u ∷ put_in teams name node ≡ slice_set (u ∷ teams) p (with_node t node)
further u teams t name node zero q e at behind h = absurd (omega (arith, e))
further u teams t name node (suc p) q e at behind h =
    let same : q ≡ p = omega (arith, e) in
    ap (λ (ts : List TeamPlay). u ∷ ts) (behind p (at ∙ ap Some same) h)

one_step : (u : TeamPlay) (teams : List TeamPlay) (t : TeamPlay) (name : List ℕ) (node : PlayNode) (place : ℕ) (is : Bool) → bytes_eq u.name name ≡ is →
    ((r : ℕ) → place_of name (names teams) ≡ Some r → slice_get teams r ≡ Some t → put_in teams name node ≡ slice_set teams r (with_node t node)) →
    place_of name (names (u ∷ teams)) ≡ Some place → slice_get (u ∷ teams) place ≡ Some t → put_in (u ∷ teams) name node ≡ slice_set (u ∷ teams) place (with_node t node)
one_step u teams t name node place true f behind e g =
    put_case u teams name node true f ∙ at_front u teams t node place (zero_place place (sym (place_case u teams name true f) ∙ e)) g
one_step u teams t name node place false f behind e g =
    let n = next_places (place_of name (names teams)) place (sym (place_case u teams name false f) ∙ e) in
    put_case u teams name node false f ∙ further u teams t name node place n.0 n.2 n.1 behind g

pub one_named : (teams : List TeamPlay) (name : List ℕ) (node : PlayNode) (place : ℕ) (t : TeamPlay) → place_of name (names_by (λ (u : TeamPlay). u.name) teams) ≡ Some place →
    slice_get teams place ≡ Some t → put_in teams name node ≡ slice_set teams place (with_node t node)
one_named [] name node place t e g = cc
one_named (u ∷ teams) name node place t e g =
    one_step u teams t name node place (bytes_eq u.name name) refl (λ r at there. one_named teams name node r t at there) e g

-- ---- all words

pub not_false : (b : Bool) → false ≡ not b → true ≡ b
not_false true e = refl
not_false false e = cc

pub if_ok_map : {A E : Type 0} (r : Result A E) (P Q : A → Type 0) → ((x : A) → P x → Q x) → IfOk r P → IfOk r Q
if_ok_map (Ok x) P Q f p = f x p
if_ok_map (Err e) P Q f p = tt

pub behind_first : (words others : List (List ℕ)) (teams : List TeamPlay) → words ≡ codes "teams" ∷ others → SaysTeams words teams → SaysCrews others teams
behind_first words others teams e s = subst (λ (ws : List (List ℕ)). SaysCrews ws teams) (ap (λ (xs : List (List ℕ)). drop 1 xs) (sym s.words_are ∙ e)) s.crews
