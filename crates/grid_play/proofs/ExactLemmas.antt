-- Where no step was out of memory, each step is told by the state before it.
use Rattle.std.proofs.Common.{◌≡◌, inl, inr, ℕ, true, false, List, [], ◌∷◌, ◌++◌, refl, sym, ◌∙◌, ap, subst, append_assoc}
use Rattle.std.proofs.lemmas.Bool.{or_parts}
use Rattle.std.specs.Prelude.{Option, None, Some}
use Rattle.grid_outside.specs.Told.{later_by}
use Rattle.grid_outside.specs.declared.exchange.Ask.{Ask}
use Rattle.grid_outside.specs.Exchanges.{Came}
use Rattle.grid_types.specs.declared.config.HubConfig.{HubConfig}
use Rattle.grid_types.specs.declared.entry.Entry.{Entry}
use Rattle.grid_types.specs.Calls.{Call, Reply}
use Rattle.grid_types.specs.HubAnswers.{hub, after_call}
use Rattle.node_client.specs.Runs.{Exchanges, Still}
use Rattle.node_client.specs.Steps.{Step, Called, Spent, Exchanged, Paused, call_lacks, gives_up, lacked, met_want}
use Rattle.local_driver.specs.World.{Answered, AnswersAt}
use Rattle.loop_node.specs.Links.{NodesGive}
use Rattle.loop_node.specs.Sessions.{Node}
use Rattle.grid_play.specs.Readings.{Readings}
use Rattle.grid_play.proofs.GivesLemmas.{Ascends, gives_kept, gives_one}

-- where steps have led: the hub's history, the nodes, and the clock's moment
pub record State : Type 0 where
  pub history : List Entry
  pub nodes : List Node
  pub moment : ℕ

abbrev pub state : List Entry → List Node → ℕ → State
state history nodes moment = record { history = history; nodes = nodes; moment = moment }

-- the state after a call, after an exchange and after a pause
unfoldable pub called : HubConfig → State → Call → State
called c s call = state (after_call c s.history 0 call s.moment) s.nodes s.moment

unfoldable pub exchanged : State → List Node → State
exchanged s nodes = state s.history nodes s.moment

unfoldable pub paused : ℕ → State → State
paused ms s = state s.history s.nodes (later_by s.moment ms)

-- what the hub replies
unfoldable pub reply_at : HubConfig → State → Call → Option Reply
reply_at c s call = Some (hub c s.history 0 call s.moment).reply

-- what came of an exchange for which there was memory
pub record Gave (old : List Node) (address : List ℕ) (ask : Ask) (came : Came) (new : List Node) : Type 0 where
  pub gives : NodesGive old address ask came new
  pub first : ℕ
  pub ascends : Ascends first old
  pub told : lacked came ≡ false

-- from the state s the steps are made so, and lead to z
unfoldable pub Exactly : HubConfig → State → List Step → State → Type 0
Exactly c s [] z = z ≡ s
Exactly c s (Called call at reply ∷ steps) z = (at ≡ s.moment) × (reply ≡ reply_at c s call) × (gives_up call ≡ false) × Exactly c (called c s call) steps z
Exactly c s (Spent call at ∷ steps) z = ⊥
Exactly c s (Exchanged address ask came ∷ steps) z = (next : List Node) × Gave s.nodes address ask came next × Exactly c (exchanged s next) steps z
Exactly c s (Paused ms ∷ steps) z = Exactly c (paused ms s) steps z

-- ---- the steps of a conversation are exact

-- a call that is not out of memory has the hub's reply, and does not give a start up
pub record IsTold (c : HubConfig) (H : List Entry) (call : Call) (at : ℕ) (reply : Option Reply) (later : List Entry) : Type 0 where
  pub replies : reply ≡ Some (hub c H 0 call at).reply
  pub goes_on : later ≡ after_call c H 0 call at
  pub kept : gives_up call ≡ false

told_one : (c : HubConfig) (H : List Entry) (call : Call) (at : ℕ) (reply : Option Reply) (later : List Entry) → call_lacks call reply ≡ false →
    AnswersAt c H call at reply later → IsTold c H call at reply later
told_one c H call at None later e x = cc
told_one c H call at (Some r) later e (inl x) = record { replies = x.replies; goes_on = x.goes_on; kept = e }
told_one c H call at (Some r) later e (inr x) = let none : Some r ≡ None = x.silent in cc

pub exactly_so : (c : HubConfig) (H L : List Entry) (n k : List Node) (m t first : ℕ) (steps : List Step) → Answered c H steps L → Exchanges NodesGive n steps k →
    Still m steps t → met_want steps ≡ false → Ascends first n → Exactly c (state H n m) steps (state L k t)
unfolding Answered Exchanges Still Exactly called exchanged paused reply_at
exactly_so c H L n k m t first [] r x st none a = λ i. state (r i) (x i) (st i)
exactly_so c H L n k m t first (Called call at reply ∷ steps) r x st none a =
    let parts = or_parts (call_lacks call reply) (met_want steps) none in
    let told = told_one c H call at reply r.0 parts.0 r.1 in (
      st.0,
      told.replies ∙ ap (λ (y : ℕ). Some (hub c H 0 call y).reply) st.0,
      told.kept,
      exactly_so c (after_call c H 0 call m) L n k m t first steps
          (subst (λ (G : List Entry). Answered c G steps L) (told.goes_on ∙ ap (λ (y : ℕ). after_call c H 0 call y) st.0) r.2) x st.1 parts.1 a,
    )
exactly_so c H L n k m t first (Spent call at ∷ steps) r x st none a = absurd r
exactly_so c H L n k m t first (Exchanged address ask came ∷ steps) r x st none a =
    let parts = or_parts (lacked came) (met_want steps) none in (
      x.0,
      record { gives = x.1; first = first; ascends = a; told = parts.0 },
      exactly_so c H L x.0 k m t first steps r x.2 st parts.1 (gives_kept first n address ask came x.0 a x.1),
    )
exactly_so c H L n k m t first (Paused ms ∷ steps) r x st none a = exactly_so c H L n k (later_by m ms) t first steps r x st none a

-- ---- two fronts of steps from one state

-- no answer of their own
abbrev pub done : Unit {0}
done = tt

module _ (laws : Readings) (c : HubConfig) (y z : State) where
  -- they are the same and end alike, and both lists go on from one state
  pub record One {A : Type 0} (Y Z X X' : List Step) (a b : A) : Type 0 where
    pub steps : X ≡ X'
    pub answer : a ≡ b
    pub place : State
    pub left : Exactly c place Y y
    pub right : Exactly c place Z z

  pub gave_one : (old : List Node) (address : List ℕ) (ask : Ask) (came other : Came) (m l : List Node) → Gave old address ask came m → Gave old address ask other l →
      (came ≡ other) × (m ≡ l)
  gave_one old address ask came other m l p q = gives_one laws.text laws.both p.first old address ask came other m l p.ascends p.told q.told p.gives q.gives

  -- nothing more
  pub one_none : {A : Type 0} (Y Z : List Step) (s : State) (a b : A) → a ≡ b → Exactly c s Y y → Exactly c s Z z → One Y Z [] [] a b
  one_none Y Z s a b e p q = record { steps = refl; answer = e; place = s; left = p; right = q }

  -- the same calls have the same replies
  pub reply_one : (s : State) (call : Call) (at on : ℕ) (r o : Reply) (X X' : List Step) → Exactly c s (Called call at (Some r) ∷ X) y →
      Exactly c s (Called call on (Some o) ∷ X') z → r ≡ o
  unfolding Exactly
  reply_one s call at on r o X X' p q = let e : Some r ≡ Some o = p.1 ∙ sym q.1 in cc

  -- and a call always has one
  pub never_silent : (w s : State) (call : Call) (at : ℕ) (X : List Step) → Exactly c s (Called call at None ∷ X) w → ⊥
  unfolding Exactly reply_at
  never_silent w s call at X p = let e : None ≡ reply_at c s call = p.1 in cc

  pub never_spent : (w s : State) (call : Call) (at : ℕ) (X : List Step) → Exactly c s (Spent call at ∷ X) w → ⊥
  unfolding Exactly
  never_spent w s call at X p = p

  pub never_given_up : (w s : State) (call : Call) (at : ℕ) (o : Option Reply) (X : List Step) → gives_up call ≡ true → Exactly c s (Called call at o ∷ X) w → ⊥
  unfolding Exactly
  never_given_up w s call at o X e p = let never : gives_up call ≡ false = p.2 in cc

  -- a call, and what follows it
  pub one_call : {A : Type 0} (Y Z : List Step) (s : State) (call : Call) (at on : ℕ) (reply other : Option Reply) (X X' : List Step) (a b : A) →
      Exactly c s (Called call at reply ∷ (X ++ Y)) y → Exactly c s (Called call on other ∷ (X' ++ Z)) z →
      (Exactly c (called c s call) (X ++ Y) y → Exactly c (called c s call) (X' ++ Z) z → One Y Z X X' a b) →
      One Y Z (Called call at reply ∷ X) (Called call on other ∷ X') a b
  unfolding Exactly
  one_call Y Z s call at on reply other X X' a b p q next =
      let o = next p.3 q.3 in
      let d : at ≡ on = p.0 ∙ sym q.0 in
      let e : reply ≡ other = p.1 ∙ sym q.1 in
      record { steps = λ i. Called call (d i) (e i) ∷ (o.steps i); answer = o.answer; place = o.place; left = o.left; right = o.right }

  -- an exchange, and what follows it
  pub one_exchange : {A : Type 0} (Y Z : List Step) (s : State) (address : List ℕ) (ask : Ask) (came other : Came) (X X' : List Step) (a b : A) →
      Exactly c s (Exchanged address ask came ∷ (X ++ Y)) y → Exactly c s (Exchanged address ask other ∷ (X' ++ Z)) z →
      (came ≡ other → (next : State) → Exactly c next (X ++ Y) y → Exactly c next (X' ++ Z) z → One Y Z X X' a b) →
      One Y Z (Exchanged address ask came ∷ X) (Exchanged address ask other ∷ X') a b
  unfolding Exactly
  one_exchange Y Z s address ask came other X X' a b p q next =
      let g = gave_one s.nodes address ask came other p.0 q.0 p.1 q.1 in
      let o = next g.0 (exchanged s p.0) p.2 (subst (λ (k : List Node). Exactly c (exchanged s k) (X' ++ Z) z) (sym g.1) q.2) in
      record { steps = λ i. Exchanged address ask (g.0 i) ∷ (o.steps i); answer = o.answer; place = o.place; left = o.left; right = o.right }

  -- a pause, and what follows it
  pub one_pause : {A : Type 0} (Y Z : List Step) (s : State) (ms : ℕ) (X X' : List Step) (a b : A) →
      Exactly c s (Paused ms ∷ (X ++ Y)) y → Exactly c s (Paused ms ∷ (X' ++ Z)) z →
      (Exactly c (paused ms s) (X ++ Y) y → Exactly c (paused ms s) (X' ++ Z) z → One Y Z X X' a b) → One Y Z (Paused ms ∷ X) (Paused ms ∷ X') a b
  unfolding Exactly
  one_pause Y Z s ms X X' a b p q next =
      let o = next p q in
      record { steps = λ i. Paused ms ∷ (o.steps i); answer = o.answer; place = o.place; left = o.left; right = o.right }

  -- fronts one behind the other
  pub one_append : {A B : Type 0} (Y Z : List Step) (s : State) (V V' W W' : List Step) (a b : A) (e f : B) →
      Exactly c s ((V ++ W) ++ Y) y → Exactly c s ((V' ++ W') ++ Z) z →
      (Exactly c s (V ++ (W ++ Y)) y → Exactly c s (V' ++ (W' ++ Z)) z → One (W ++ Y) (W' ++ Z) V V' a b) →
      (a ≡ b → (place : State) → Exactly c place (W ++ Y) y → Exactly c place (W' ++ Z) z → One Y Z W W' e f) → One Y Z (V ++ W) (V' ++ W') e f
  one_append Y Z s V V' W W' a b e f p q first next =
      let o = first (subst (λ (x : List Step). Exactly c s x y) (append_assoc V W Y) p) (subst (λ (x : List Step). Exactly c s x z) (append_assoc V' W' Z) q) in
      let k = next o.answer o.place o.left o.right in
      record { steps = λ i. (o.steps i) ++ (k.steps i); answer = k.answer; place = k.place; left = k.left; right = k.right }

  -- steps that are those of another spelling
  pub one_as : {A : Type 0} (Y Z : List Step) (s : State) (X X' V V' : List Step) (a b : A) → X ≡ V → X' ≡ V' → Exactly c s (X ++ Y) y → Exactly c s (X' ++ Z) z →
      (Exactly c s (V ++ Y) y → Exactly c s (V' ++ Z) z → One Y Z V V' a b) → One Y Z X X' a b
  one_as Y Z s X X' V V' a b d e p q next =
      let o = next (subst (λ (x : List Step). Exactly c s (x ++ Y) y) d p) (subst (λ (x : List Step). Exactly c s (x ++ Z) z) e q) in
      record { steps = d ∙ o.steps ∙ sym e; answer = o.answer; place = o.place; left = o.left; right = o.right }

  -- another answer that is told by the same
  pub one_answer : {A B : Type 0} (Y Z X X' : List Step) (a b : A) (e f : B) → One Y Z X X' a b → (a ≡ b → e ≡ f) → One Y Z X X' e f
  one_answer Y Z X X' a b e f o g = record { steps = o.steps; answer = g o.answer; place = o.place; left = o.left; right = o.right }

-- the same steps lead to one state
pub exactly_one : (laws : Readings) (c : HubConfig) (s y z : State) (steps : List Step) → Exactly c s steps y → Exactly c s steps z → y ≡ z
unfolding Exactly
exactly_one laws c s y z [] p q = p ∙ sym q
exactly_one laws c s y z (Called call at reply ∷ steps) p q = exactly_one laws c (called c s call) y z steps p.3 q.3
exactly_one laws c s y z (Spent call at ∷ steps) p q = absurd p
exactly_one laws c s y z (Exchanged address ask came ∷ steps) p q =
    let g = gave_one laws c y z s.nodes address ask came came p.0 q.0 p.1 q.1 in
    exactly_one laws c (exchanged s p.0) y z steps p.2 (subst (λ (k : List Node). Exactly c (exchanged s k) steps z) (sym g.1) q.2)
exactly_one laws c s y z (Paused ms ∷ steps) p q = exactly_one laws c (paused ms s) y z steps p q
