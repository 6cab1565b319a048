-- What words say is one play.
use Rattle.std.proofs.Common.{◌≡◌, ℕ, ◌+◌, ◌<◌, ◌≤◌, Bool, false, List, [], ◌∷◌, ◌++◌, length, get_or, codes, decimal, Option, None, Some, refl, sym, ap, ap₂, subst, ◌∙◌, arith, append-nil, append_assoc, Result, Ok, Err, OnOk, IfErr}
use Rattle.std.specs.Result.{is_err}
use Rattle.std.proofs.lemmas.Bool.{false≢true}
use Rattle.std.proofs.lemmas.Fmt.{decimal_injective}
use Rattle.grid_types.specs.declared.config.HubConfig.{HubConfig}
use Rattle.grid_types.specs.Config.{default_config}
use Rattle.play_words.specs.declared.play.PlayNode.{PlayNode}
use Rattle.play_words.specs.Node.{begins_with_letter, IsNode}
use Rattle.play_words.specs.Options.{refusal_name, timeout_name, option_words, IsOpen, AreParts, SaysRefusal, SaysTimeout}
use Rattle.play_words.specs.Words.{SaysNode, SaysNodes, SaysCrew, Plays, SamePlay}
use Rattle.play_words.proofs.NodeLemmas.{node_one, node_letter}
use Rattle.play_words.proofs.OptionLemmas.{ends_one, parts_one, refusal_one, timeout_one}

-- ---- the nodes

-- two words for each
pub nodes_length : (words : List (List ℕ)) (nodes : List PlayNode) → SaysNodes words nodes → length words ≡ length nodes + length nodes
nodes_length [] [] h = refl
nodes_length [] (n ∷ nodes) h = absurd h
nodes_length (w ∷ []) nodes h = absurd h
nodes_length (w ∷ s ∷ words) [] h = absurd h
nodes_length (w ∷ s ∷ words) (n ∷ nodes) h = omega (arith, nodes_length words nodes h.1)

-- they are a crew, where there are few words
pub all_said : (words : List (List ℕ)) → ((said : List PlayNode) × SaysNodes words said) → 0 < length words → length words ≤ 32 → (nodes : List PlayNode) × SaysCrew words nodes
all_said words said some few =
    let size = nodes_length words said.0 said.1 in
    (said.0, record { nodes_are = said.1; some = omega (arith, size, some); few = omega (arith, size, few) })

-- no option stands among them
no_option : (name : List ℕ) → begins_with_letter name ≡ false → (front : List (List ℕ)) (value : List ℕ) (nodes : List PlayNode) → SaysNodes (front ++ name ∷ value ∷ []) nodes → ⊥
no_option name fails [] value [] h = h
no_option name fails [] value (n ∷ nodes) h = false≢true (sym fails ∙ node_letter name n.browser n.version n.refuses h.0.word_is)
no_option name fails (x ∷ []) value [] h = h
no_option name fails (x ∷ []) value (n ∷ nodes) h = h.1
no_option name fails (x ∷ y ∷ front) value [] h = h
no_option name fails (x ∷ y ∷ front) value (n ∷ nodes) h = no_option name fails front value nodes h.1

nodes_open : (name : List ℕ) → begins_with_letter name ≡ false → (words : List (List ℕ)) (nodes : List PlayNode) → SaysNodes words nodes → IsOpen name words
nodes_open name fails words nodes h front value e = no_option name fails front value nodes (subst (λ (ws : List (List ℕ)). SaysNodes ws nodes) e h)

-- one node more in front
pub grown : (words others : List (List ℕ)) (w s : List ℕ) (n : PlayNode) (old mid new : List PlayNode) → words ≡ w ∷ s ∷ others → SaysNode w s n → mid ≡ old ++ n ∷ []
    → ((said : List PlayNode) × SaysNodes others said × (new ≡ mid ++ said)) → (said : List PlayNode) × SaysNodes words said × (new ≡ old ++ said)
grown words others w s n old mid new e node m h = (
  n ∷ h.0,
  subst (λ (ws : List (List ℕ)). SaysNodes ws (n ∷ h.0)) (sym e) (node, h.1),
  h.2 ∙ ap (λ (ns : List PlayNode). ns ++ h.0) m ∙ append_assoc old (n ∷ []) h.0,
)

pub not_grown : (words others : List (List ℕ)) (w s : List ℕ) → words ≡ w ∷ s ∷ others → ((said : List PlayNode) → SaysNodes others said → ⊥) → (said : List PlayNode) → SaysNodes words said → ⊥
not_grown words others w s e h said k = behind said (subst (λ (ws : List (List ℕ)). SaysNodes ws said) e k)
  where
    behind : (ns : List PlayNode) → SaysNodes (w ∷ s ∷ others) ns → ⊥
    behind [] x = x
    behind (n ∷ ns) x = h ns x.1

-- a node is said by its parts
pub node_said : (word slots b v : List ℕ) (r n : ℕ) → IsNode word b v r → (1 ≤ n) × (n ≤ 64) × (slots ≡ decimal n) → (node : PlayNode) × SaysNode word slots node
node_said word slots b v r n is h =
    (record { browser = b; version = v; refuses = r; slots = n }, record { word_is = is; slots_are = h.2; least = h.0; most = h.1 })

pub said_more : (words others : List (List ℕ)) (w s : List ℕ) → words ≡ w ∷ s ∷ others → ((node : PlayNode) × SaysNode w s node) → ((said : List PlayNode) × SaysNodes others said) →
    (said : List PlayNode) × SaysNodes words said
said_more words others w s e node h = (node.0 ∷ h.0, subst (λ (ws : List (List ℕ)). SaysNodes ws (node.0 ∷ h.0)) (sym e) (node.1, h.1))

pub not_first : (words others : List (List ℕ)) (w s : List ℕ) → words ≡ w ∷ s ∷ others → ((node : PlayNode) → SaysNode w s node → ⊥) → (said : List PlayNode) → SaysNodes words said → ⊥
not_first words others w s e none said k = first said (subst (λ (ws : List (List ℕ)). SaysNodes ws said) e k)
  where
    first : (ns : List PlayNode) → SaysNodes (w ∷ s ∷ others) ns → ⊥
    first [] x = x
    first (n ∷ ns) x = none n x.0

pub ok_map : {A E : Type 0} (r : Result A E) (P Q : Type 0) → (P → Q) → OnOk r P → OnOk r Q
ok_map (Ok x) P Q f p = f p
ok_map (Err e) P Q f p = tt

pub ok_of : {A E : Type 0} (r : Result A E) (P : Type 0) → is_err r ≡ false → OnOk r P → P
ok_of (Ok x) P e p = p
ok_of (Err e) P d p = cc

pub err_map : {A E : Type 0} (r : Result A E) (P Q : E → Type 0) → ((e : E) → P e → Q e) → IfErr r P → IfErr r Q
err_map (Ok x) P Q f p = tt
err_map (Err e) P Q f p = f e p

same_node : (n m : PlayNode) → n.browser ≡ m.browser → n.version ≡ m.version → n.refuses ≡ m.refuses → n.slots ≡ m.slots → n ≡ m
same_node n m a b r s =
    ap (λ (x : List ℕ). record { browser = x; version = n.version; refuses = n.refuses; slots = n.slots }) a
    ∙ ap (λ (x : List ℕ). record { browser = m.browser; version = x; refuses = n.refuses; slots = n.slots }) b
    ∙ ap (λ (x : ℕ). record { browser = m.browser; version = m.version; refuses = x; slots = n.slots }) r
    ∙ ap (λ (x : ℕ). record { browser = m.browser; version = m.version; refuses = m.refuses; slots = x }) s

pair_one : (w s : List ℕ) (n m : PlayNode) → SaysNode w s n → SaysNode w s m → n ≡ m
pair_one w s n m h k =
    let same = node_one w n.browser m.browser n.version m.version n.refuses m.refuses h.word_is k.word_is in
    same_node n m same.browser same.version same.refuses
    (decimal_injective n.slots m.slots (omega (arith, h.most)) (omega (arith, k.most)) (sym h.slots_are ∙ k.slots_are))

nodes_one : (words : List (List ℕ)) (ns ms : List PlayNode) → SaysNodes words ns → SaysNodes words ms → ns ≡ ms
nodes_one [] [] [] h k = refl
nodes_one [] [] (m ∷ ms) h k = absurd k
nodes_one [] (n ∷ ns) ms h k = absurd h
nodes_one (w ∷ []) ns ms h k = absurd h
nodes_one (w ∷ s ∷ words) [] ms h k = absurd h
nodes_one (w ∷ s ∷ words) (n ∷ ns) [] h k = absurd k
nodes_one (w ∷ s ∷ words) (n ∷ ns) (m ∷ ms) h k = ap₂ (λ (x : PlayNode) (xs : List PlayNode). x ∷ xs) (pair_one w s n m h.0 k.0) (nodes_one words ns ms h.1 k.1)

-- ---- the words

other_name : refusal_name ≡ timeout_name → ⊥
other_name e = let h = ap (λ (xs : List ℕ). get_or xs 2 0) e in omega (arith, h)

timeout_open : (words : List (List ℕ)) (nodes : List PlayNode) (refusal : Option (List ℕ)) → SaysNodes words nodes → IsOpen timeout_name (words ++ option_words refusal_name refusal)
timeout_open words nodes None h front value e = nodes_open timeout_name refl words nodes h front value (sym (append-nil words) ∙ e)
timeout_open words nodes (Some v) h front value e = other_name (ends_one words front refusal_name v timeout_name value e).name

pub plays_parts : (words : List (List ℕ)) (c : HubConfig) (nodes : List PlayNode) (p : Plays words c nodes) → AreParts words p.node_words p.refusal p.timeout
plays_parts words c nodes p = record {
  others = (p.node_words ++ option_words refusal_name p.refusal) ++ option_words timeout_name p.timeout;
  front = p.node_words ++ option_words refusal_name p.refusal;
  begins = p.words_are;
  timeout_split = record { spelled = refl; whole = λ none. timeout_open p.node_words nodes p.refusal p.crew.nodes_are };
  refusal_split = record { spelled = refl; whole = λ none. nodes_open refusal_name refl p.node_words nodes p.crew.nodes_are };
}

-- parts that are found spell the words
pub parts_spell : (words n : List (List ℕ)) (r t : Option (List ℕ)) → AreParts words n r t
    → words ≡ codes "play" ∷ ((n ++ option_words refusal_name r) ++ option_words timeout_name t)
parts_spell words n r t a =
    a.begins ∙ ap (λ (ws : List (List ℕ)). codes "play" ∷ ws) a.timeout_split.spelled
    ∙ ap (λ (ws : List (List ℕ)). codes "play" ∷ (ws ++ option_words timeout_name t)) a.refusal_split.spelled

-- ---- one play

abbrev set_up : ℕ → Bool → HubConfig
set_up ms refused = record default_config { timeout_ms = ms; reject_unsupported = refused }

pub one_play : (words : List (List ℕ)) (c d : HubConfig) (nodes others : List PlayNode) → Plays words c nodes → Plays words d others → SamePlay c d nodes others
one_play words c d nodes others p q =
    let same = parts_one words p.node_words q.node_words p.refusal q.refusal p.timeout q.timeout (plays_parts words c nodes p) (plays_parts words d others q) in
    let refused = refusal_one q.refusal c.reject_unsupported d.reject_unsupported (subst (λ (o : Option (List ℕ)). SaysRefusal o c.reject_unsupported) same.refusal p.refusal_is) q.refusal_is in
    let ms = timeout_one q.timeout c.timeout_ms d.timeout_ms (subst (λ (o : Option (List ℕ)). SaysTimeout o c.timeout_ms) same.timeout p.timeout_is) q.timeout_is in
    record {
      same_config = p.others ∙ ap₂ (λ (t : ℕ) (b : Bool). set_up t b) ms refused ∙ sym q.others;
      same_nodes = nodes_one q.node_words nodes others (subst (λ (ws : List (List ℕ)). SaysNodes ws nodes) same.nodes p.crew.nodes_are) q.crew.nodes_are;
    }

-- the parts that were read say a play
pub plays_of : (words nodes_said : List (List ℕ)) (refusal timeout : Option (List ℕ)) (b : Bool) (ms : ℕ) → AreParts words nodes_said refusal timeout → SaysRefusal refusal b →
    SaysTimeout timeout ms → ((nodes : List PlayNode) × SaysCrew nodes_said nodes) → (config : HubConfig) × (nodes : List PlayNode) × Plays words config nodes
plays_of words nodes_said refusal timeout b ms parts refused time crew = (
  record default_config { timeout_ms = ms; reject_unsupported = b },
  crew.0,
  record {
    node_words = nodes_said;
    refusal = refusal;
    timeout = timeout;
    words_are = parts.begins ∙ ap (λ (ws : List (List ℕ)). codes "play" ∷ ws)
        (parts.timeout_split.spelled ∙ ap (λ (ws : List (List ℕ)). ws ++ option_words timeout_name timeout) parts.refusal_split.spelled);
    crew = crew.1;
    refusal_is = refused;
    timeout_is = time;
    others = refl;
  },
)
