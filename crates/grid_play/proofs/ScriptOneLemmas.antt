-- From one state a request has one script, where no step was out of memory and its client did not leave.
use Rattle.std.proofs.Common.{◌≡◌, ◌≢◌, ℕ, List, [], ◌∷◌, ◌++◌, refl, sym, ◌∙◌, ap, subst, arith}
use Rattle.std.proofs.lemmas.Bool.{false≢true}
use Rattle.std.proofs.lemmas.Fmt.{decimal_injective}
use Rattle.std.specs.Prelude.{Option, None, Some, Result, Ok, Err}
use Rattle.grid_outside.specs.declared.exchange.Ask.{Ask}
use Rattle.grid_outside.specs.Exchanges.{Came}
use Rattle.http_frames.specs.Frames.{Request}
use Rattle.grid_types.specs.declared.capabilities.Cap.{Cap}
use Rattle.grid_types.specs.declared.capabilities.Registration.{Registration}
use Rattle.grid_types.specs.declared.config.HubConfig.{HubConfig}
use Rattle.grid_types.specs.declared.entry.Found.TheVariants as found
use Rattle.grid_types.specs.Calls.{Call, Reply}
use Rattle.grid_types.specs.Tokens.{Ticket, Reservation, Closing}
use Rattle.router_core.specs.declared.routed.RouteFault.{RouteFault}
use Rattle.router_core.specs.declared.routed.RouteFault.TheVariants as misrouted
use Rattle.router_core.specs.Routes as routes
use Rattle.router_core.specs.Routes.{Route}
use Rattle.node_client.specs.Asks.{with_path, session_path}
use Rattle.node_client.specs.Start.{Start}
use Rattle.node_client.specs.Steps.{Step, Called, Spent, Exchanged, Paused}
use Rattle.conn_script.specs.DeleteSession.{quit_response, AfterQuit, freed, freed_spent, AfterEnd, asked, AfterLookup, ended, not_ended, end_spent, AsksWhere, found_at, not_found, lookup_spent, DeleteSession, no_name, named}
use Rattle.conn_script.specs.Messages.{beat_refusal, caps_refusal, enqueue_refusal, outcome_response, reg_refusal, register_response, node_response, status_response, queue_response, clear_response}
use Rattle.conn_script.specs.NewSession.{poll_pause, SpentStart, spent_at, Rounds, not_yet, poll_lacks, left_waiting, left_lacking, yours, start_spent, settled, poll_spent, Asks, queued, not_queued, enqueue_spent, NewSession, no_choices, asks}
use Rattle.conn_script.specs.OneCall.{OneCall, answered, call_spent, NodeCall, no_number, asks_node, NamesNode, Beats, no_path, no_beat, beats_node, Registers, no_registration, asks_hub}
use Rattle.conn_script.specs.Relay as relay
use Rattle.conn_script.specs.Relay.{AfterTouch, AfterFound, FindsNode, Relay, relay_response, relayed}
use Rattle.conn_script.specs.Responses.{Response, left}
use Rattle.conn_script.specs.Script.{ByRoute, Script, body_of, route}
use Rattle.grid_play.specs.Readings.{Readings}
use Rattle.grid_play.proofs.ExactLemmas.{State, Exactly, called, done, exchanged, paused, One, one_none, one_call, one_exchange, one_pause, one_append, one_as, reply_one, never_silent, never_spent}
use Rattle.grid_play.proofs.StartOneLemmas.{start_one}

some_same : {A : Type 0} (a b : A) → Some a ≡ Some b → a ≡ b
some_same a b e = cc

module _ (laws : Readings) (c : HubConfig) (y z : State) where
  -- a start that found the hub spent
  pub spent_behind : (v s : State) (Y : List Step) (call : Call) (at : ℕ) (X : List Step) → Exactly c s ((X ++ Spent call at ∷ []) ++ Y) v → ⊥
  unfolding Exactly
  spent_behind v s Y call at [] p = p
  spent_behind v s Y call at (Called k m reply ∷ X) p = spent_behind v (called c s k) Y call at X p.3
  spent_behind v s Y call at (Spent k m ∷ X) p = p
  spent_behind v s Y call at (Exchanged address ask came ∷ X) p = spent_behind v (exchanged s p.0) Y call at X p.2
  spent_behind v s Y call at (Paused ms ∷ X) p = spent_behind v (paused ms s) Y call at X p

  never_spent_in : (v s : State) (Y : List Step) (r : Reservation) (X : List Step) → SpentStart r X → Exactly c s (X ++ Y) v → ⊥
  never_spent_in v s Y r X (spent_at steps place call at leads wants) p = spent_behind v s Y call at steps p

  never_spent_start : (v s : State) (Y : List Step) (t u : Ticket) (r : Reservation) (at : ℕ) (X : List Step) → SpentStart r X →
      Exactly c s (Called (Call.poll t) at (Some (Reply.yours u r)) ∷ (X ++ Y)) v → ⊥
  unfolding Exactly
  never_spent_start v s Y t u r at X spent p = never_spent_in v (called c s (Call.poll t)) Y r X spent p.3

  -- ---- a new session

  rounds_one : (Y Z : List Step) (t : Ticket) (X X' : List Step) (R R' : Response) (s : State) → Rounds t X R → Rounds t X' R' → R ≢ left →
      R' ≢ left → Exactly c s (X ++ Y) y → Exactly c s (X' ++ Z) z → One laws c y z Y Z X X' R R'
  rounds_one Y Z t X X' R R' s (left_waiting at u w) x stays stays_too p q = absurd (stays refl)
  rounds_one Y Z t X X' R R' s (left_lacking at w) x stays stays_too p q = absurd (stays refl)
  rounds_one Y Z t X X' R R' s x (left_waiting on u w) stays stays_too p q = absurd (stays_too refl)
  rounds_one Y Z t X X' R R' s x (left_lacking on w) stays stays_too p q = absurd (stays_too refl)
  rounds_one Y Z t X X' R R' s (poll_lacks {steps = V} at w) x stays stays_too p q = absurd (never_silent laws c y z y s (Call.poll t) at ((Paused poll_pause ∷ V) ++ Y) p)
  rounds_one Y Z t X X' R R' s (poll_spent at) x stays stays_too p q = absurd (never_spent laws c y z y s (Call.poll t) at Y p)
  rounds_one Y Z t X X' R R' s x (poll_lacks {steps = W} on w) stays stays_too p q = absurd (never_silent laws c y z z s (Call.poll t) on ((Paused poll_pause ∷ W) ++ Z) q)
  rounds_one Y Z t X X' R R' s x (poll_spent on) stays stays_too p q = absurd (never_spent laws c y z z s (Call.poll t) on Z q)
  rounds_one Y Z t X X' R R' s (start_spent {own = V} at u r spent) x stays stays_too p q = absurd (never_spent_start y s Y t u r at V spent p)
  rounds_one Y Z t X X' R R' s x (start_spent {own = W} on u r spent) stays stays_too p q = absurd (never_spent_start z s Z t u r on W spent q)
  rounds_one Y Z t X X' R R' s (not_yet {steps = V} at u w) (not_yet {steps = W} on v x) stays stays_too p q =
      let e = reply_one laws c y z s (Call.poll t) at on (Reply.not_yet u) (Reply.not_yet v) ((Paused poll_pause ∷ V) ++ Y) ((Paused poll_pause ∷ W) ++ Z) p q in
      let same : u ≡ v = cc in
      one_call laws c y z Y Z s (Call.poll t) at on (Some (Reply.not_yet u)) (Some (Reply.not_yet v)) (Paused poll_pause ∷ V) (Paused poll_pause ∷ W) R R' p q
      (λ a b. one_pause laws c y z Y Z (called c s (Call.poll t)) poll_pause V W R R' a b
      (λ d f. rounds_one Y Z u V W R R' (paused poll_pause (called c s (Call.poll t))) w (subst (λ (k : Ticket). Rounds k W R') (sym same) x) stays stays_too d f))
  rounds_one Y Z t X X' R R' s (not_yet {steps = V} at u w) (yours {own = D} {steps = W} on v r st x) stays stays_too p q =
      let e = reply_one laws c y z s (Call.poll t) at on (Reply.not_yet u) (Reply.yours v r) ((Paused poll_pause ∷ V) ++ Y) ((D ++ W) ++ Z) p q in cc
  rounds_one Y Z t X X' R R' s (not_yet {steps = V} at u w) (settled on o) stays stays_too p q =
      let e = reply_one laws c y z s (Call.poll t) at on (Reply.not_yet u) (Reply.settled o) ((Paused poll_pause ∷ V) ++ Y) Z p q in cc
  rounds_one Y Z t X X' R R' s (yours {own = D} {steps = V} at u r st w) (not_yet {steps = W} on v x) stays stays_too p q =
      let e = reply_one laws c y z s (Call.poll t) at on (Reply.yours u r) (Reply.not_yet v) ((D ++ V) ++ Y) ((Paused poll_pause ∷ W) ++ Z) p q in cc
  rounds_one Y Z t X X' R R' s (yours {own = D} {steps = V} at u r st w) (yours {own = F} {steps = W} on v o tr x) stays stays_too p q =
      let e = reply_one laws c y z s (Call.poll t) at on (Reply.yours u r) (Reply.yours v o) ((D ++ V) ++ Y) ((F ++ W) ++ Z) p q in
      let same : u ≡ v = cc in
      let held : r ≡ o = cc in
      one_call laws c y z Y Z s (Call.poll t) at on (Some (Reply.yours u r)) (Some (Reply.yours v o)) (D ++ V) (F ++ W) R R' p q
      (λ a b. one_append laws c y z Y Z (called c s (Call.poll t)) D F V W done done R R' a b
      (λ d f. start_one laws c y z (V ++ Y) (W ++ Z) r D F (called c s (Call.poll t)) st (subst (λ (k : Reservation). Start k F) (sym held) tr) d f)
      (λ _ place d f. rounds_one Y Z u V W R R' place w (subst (λ (k : Ticket). Rounds k W R') (sym same) x) stays stays_too d f))
  rounds_one Y Z t X X' R R' s (yours {own = D} {steps = V} at u r st w) (settled on o) stays stays_too p q =
      let e = reply_one laws c y z s (Call.poll t) at on (Reply.yours u r) (Reply.settled o) ((D ++ V) ++ Y) Z p q in cc
  rounds_one Y Z t X X' R R' s (settled at o) (not_yet {steps = W} on v x) stays stays_too p q =
      let e = reply_one laws c y z s (Call.poll t) at on (Reply.settled o) (Reply.not_yet v) Y ((Paused poll_pause ∷ W) ++ Z) p q in cc
  rounds_one Y Z t X X' R R' s (settled at o) (yours {own = F} {steps = W} on v r st x) stays stays_too p q =
      let e = reply_one laws c y z s (Call.poll t) at on (Reply.settled o) (Reply.yours v r) Y ((F ++ W) ++ Z) p q in cc
  rounds_one Y Z t X X' R R' s (settled at o) (settled on n) stays stays_too p q =
      let e = reply_one laws c y z s (Call.poll t) at on (Reply.settled o) (Reply.settled n) Y Z p q in
      let same : o ≡ n = cc in
      one_call laws c y z Y Z s (Call.poll t) at on (Some (Reply.settled o)) (Some (Reply.settled n)) [] [] R R' p q
      (λ a b. one_none laws c y z Y Z (called c s (Call.poll t)) R R' (ap (outcome_response t.request) same) a b)

  -- a request that was queued was not refused
  queued_not_refused : (t : Ticket) (reply : Reply) (response : Response) → Reply.queued t ≡ reply → enqueue_refusal reply ≡ Some response → ⊥
  queued_not_refused t reply response e d = let none : None ≡ Some response = ap enqueue_refusal e ∙ d in cc

  asks_one : (Y Z : List Step) (choices : List (List Cap)) (X X' : List Step) (R R' : Response) (s : State) → Asks choices X R → Asks choices X' R' → R ≢ left →
      R' ≢ left → Exactly c s (X ++ Y) y → Exactly c s (X' ++ Z) z → One laws c y z Y Z X X' R R'
  asks_one Y Z choices X X' R R' s (enqueue_spent at) x stays stays_too p q = absurd (never_spent laws c y z y s (Call.enqueue choices) at Y p)
  asks_one Y Z choices X X' R R' s x (enqueue_spent on) stays stays_too p q = absurd (never_spent laws c y z z s (Call.enqueue choices) on Z q)
  asks_one Y Z choices X X' R R' s (queued {steps = V} at t w) (queued {steps = W} on u x) stays stays_too p q =
      let e = reply_one laws c y z s (Call.enqueue choices) at on (Reply.queued t) (Reply.queued u) (V ++ Y) (W ++ Z) p q in
      let same : t ≡ u = cc in
      one_call laws c y z Y Z s (Call.enqueue choices) at on (Some (Reply.queued t)) (Some (Reply.queued u)) V W R R' p q
      (λ a b. rounds_one Y Z t V W R R' (called c s (Call.enqueue choices)) w (subst (λ (k : Ticket). Rounds k W R') (sym same) x) stays stays_too a b)
  asks_one Y Z choices X X' R R' s (queued {steps = V} at t w) (not_queued on reply response told) stays stays_too p q =
      absurd (queued_not_refused t reply R' (reply_one laws c y z s (Call.enqueue choices) at on (Reply.queued t) reply (V ++ Y) Z p q) told)
  asks_one Y Z choices X X' R R' s (not_queued at reply response told) (queued {steps = W} on t w) stays stays_too p q =
      absurd (queued_not_refused t reply R (sym (reply_one laws c y z s (Call.enqueue choices) at on reply (Reply.queued t) Y (W ++ Z) p q)) told)
  asks_one Y Z choices X X' R R' s (not_queued at reply response told) (not_queued on other answer told_too) stays stays_too p q =
      let e = reply_one laws c y z s (Call.enqueue choices) at on reply other Y Z p q in
      one_call laws c y z Y Z s (Call.enqueue choices) at on (Some reply) (Some other) [] [] R R' p q
      (λ a b. one_none laws c y z Y Z (called c s (Call.enqueue choices)) R R' (some_same R R' (sym told ∙ ap enqueue_refusal e ∙ told_too)) a b)

  new_session_one : (Y Z : List Step) (body : List ℕ) (X X' : List Step) (R R' : Response) (s : State) → NewSession body X R → NewSession body X' R' → R ≢ left →
      R' ≢ left → Exactly c s (X ++ Y) y → Exactly c s (X' ++ Z) z → One laws c y z Y Z X X' R R'
  new_session_one Y Z body X X' R R' s (no_choices fault g) (no_choices other h) stays stays_too p q =
      let e = laws.bodies body (Err fault) (Err other) g h in
      let same : fault ≡ other = cc in
      one_none laws c y z Y Z s R R' (ap caps_refusal same) p q
  new_session_one Y Z body X X' R R' s (no_choices fault g) (asks choices h x) stays stays_too p q = let e = laws.bodies body (Err fault) (Ok choices) g h in cc
  new_session_one Y Z body X X' R R' s (asks choices g w) (no_choices fault h) stays stays_too p q = let e = laws.bodies body (Ok choices) (Err fault) g h in cc
  new_session_one Y Z body X X' R R' s (asks choices g w) (asks others h x) stays stays_too p q =
      let e = laws.bodies body (Ok choices) (Ok others) g h in
      let same : choices ≡ others = cc in
      asks_one Y Z choices X X' R R' s w (subst (λ (k : List (List Cap)). Asks k X' R') (sym same) x) stays stays_too p q

  -- ---- requests that one call answers

  one_call_one : (Y Z : List Step) (call : Call) (respond : Reply → Option Response) (X X' : List Step) (R R' : Response) (s : State) → OneCall call respond X R →
      OneCall call respond X' R' → Exactly c s (X ++ Y) y → Exactly c s (X' ++ Z) z → One laws c y z Y Z X X' R R'
  one_call_one Y Z call respond X X' R R' s (call_spent at) x p q = absurd (never_spent laws c y z y s call at Y p)
  one_call_one Y Z call respond X X' R R' s x (call_spent on) p q = absurd (never_spent laws c y z z s call on Z q)
  one_call_one Y Z call respond X X' R R' s (answered at reply response told) (answered on other answer told_too) p q =
      let e = reply_one laws c y z s call at on reply other Y Z p q in
      one_call laws c y z Y Z s call at on (Some reply) (Some other) [] [] R R' p q
      (λ a b. one_none laws c y z Y Z (called c s call) R R' (some_same R R' (sym told ∙ ap respond e ∙ told_too)) a b)

  node_one : (id : List ℕ) (n m : ℕ) → NamesNode id n → NamesNode id m → n ≡ m
  node_one id n m p q = decimal_injective n m (omega (arith, p.0)) (omega (arith, q.0)) (sym p.1 ∙ q.1)

  node_call_one : (Y Z : List Step) (call : ℕ → Call) (id : List ℕ) (X X' : List Step) (R R' : Response) (s : State) → NodeCall call id X R → NodeCall call id X' R' →
      Exactly c s (X ++ Y) y → Exactly c s (X' ++ Z) z → One laws c y z Y Z X X' R R'
  node_call_one Y Z call id X X' R R' s (no_number none) (no_number none_too) p q = one_none laws c y z Y Z s R R' refl p q
  node_call_one Y Z call id X X' R R' s (no_number none) (asks_node n names x) p q = absurd (none n names.0 names.1)
  node_call_one Y Z call id X X' R R' s (asks_node n names w) (no_number none) p q = absurd (none n names.0 names.1)
  node_call_one Y Z call id X X' R R' s (asks_node n names w) (asks_node m names_too x) p q =
      let same = node_one id n m names names_too in
      one_call_one Y Z (call n) node_response X X' R R' s w (subst (λ (k : ℕ). OneCall (call k) node_response X' R') (sym same) x) p q

  beats_one : (Y Z : List Step) (id body : List ℕ) (X X' : List Step) (R R' : Response) (s : State) → Beats id body X R → Beats id body X' R' →
      Exactly c s (X ++ Y) y → Exactly c s (X' ++ Z) z → One laws c y z Y Z X X' R R'
  beats_one Y Z id body X X' R R' s (no_path none) (no_path none_too) p q = one_none laws c y z Y Z s R R' refl p q
  beats_one Y Z id body X X' R R' s (no_path none) (no_beat n fault names g) p q = absurd (none n names.0 names.1)
  beats_one Y Z id body X X' R R' s (no_path none) (beats_node n name names g x) p q = absurd (none n names.0 names.1)
  beats_one Y Z id body X X' R R' s (no_beat n fault names g) (no_path none) p q = absurd (none n names.0 names.1)
  beats_one Y Z id body X X' R R' s (no_beat n fault names g) (no_beat m other names_too h) p q =
      let e = laws.beats body (Err fault) (Err other) g h in
      let same : fault ≡ other = cc in
      one_none laws c y z Y Z s R R' (ap beat_refusal same) p q
  beats_one Y Z id body X X' R R' s (no_beat n fault names g) (beats_node m name names_too h x) p q = let e = laws.beats body (Err fault) (Ok name) g h in cc
  beats_one Y Z id body X X' R R' s (beats_node n name names g w) (no_path none) p q = absurd (none n names.0 names.1)
  beats_one Y Z id body X X' R R' s (beats_node n name names g w) (no_beat m fault names_too h) p q = let e = laws.beats body (Ok name) (Err fault) g h in cc
  beats_one Y Z id body X X' R R' s (beats_node n name names g w) (beats_node m other names_too h x) p q =
      let e = laws.beats body (Ok name) (Ok other) g h in
      let same : name ≡ other = cc in
      let same_node = node_one id n m names names_too in
      one_call_one Y Z (Call.beat n name) node_response X X' R R' s w
      (subst (λ (k : Option (List ℕ)). OneCall (Call.beat n k) node_response X' R') (sym same)
      (subst (λ (k : ℕ). OneCall (Call.beat k other) node_response X' R') (sym same_node) x)) p q

  registers_one : (Y Z : List Step) (body : List ℕ) (X X' : List Step) (R R' : Response) (s : State) → Registers body X R → Registers body X' R' →
      Exactly c s (X ++ Y) y → Exactly c s (X' ++ Z) z → One laws c y z Y Z X X' R R'
  registers_one Y Z body X X' R R' s (no_registration fault g) (no_registration other h) p q =
      let e = laws.registrations body (Err fault) (Err other) g h in
      let same : fault ≡ other = cc in
      one_none laws c y z Y Z s R R' (ap reg_refusal same) p q
  registers_one Y Z body X X' R R' s (no_registration fault g) (asks_hub node h x) p q = let e = laws.registrations body (Err fault) (Ok node) g h in cc
  registers_one Y Z body X X' R R' s (asks_hub node g w) (no_registration fault h) p q = let e = laws.registrations body (Ok node) (Err fault) g h in cc
  registers_one Y Z body X X' R R' s (asks_hub node g w) (asks_hub other h x) p q =
      let e = laws.registrations body (Ok node) (Ok other) g h in
      let same : node ≡ other = cc in
      one_call_one Y Z (Call.register node) register_response X X' R R' s w
      (subst (λ (k : Registration). OneCall (Call.register k) register_response X' R') (sym same) x) p q

  -- ---- the end of a session

  after_quit_one : (Y Z : List Step) (k : Closing) (o : Option Response) (X X' : List Step) (R R' : Response) (s : State) → AfterQuit k o X R → AfterQuit k o X' R' →
      Exactly c s (X ++ Y) y → Exactly c s (X' ++ Z) z → One laws c y z Y Z X X' R R'
  after_quit_one Y Z k o X X' R R' s (freed_spent response at) x p q = absurd (never_spent laws c y z y s (Call.freed k) at Y p)
  after_quit_one Y Z k o X X' R R' s x (freed_spent response on) p q = absurd (never_spent laws c y z z s (Call.freed k) on Z q)
  after_quit_one Y Z k o X X' R R' s (freed response at) (freed other on) p q =
      one_call laws c y z Y Z s (Call.freed k) at on (Some Reply.is_freed) (Some Reply.is_freed) [] [] R R' p q
      (λ a b. one_none laws c y z Y Z (called c s (Call.freed k)) R R' refl a b)

  after_end_one : (Y Z : List Step) (path : List ℕ) (k : Closing) (X X' : List Step) (R R' : Response) (s : State) → AfterEnd path k X R → AfterEnd path k X' R' →
      Exactly c s (X ++ Y) y → Exactly c s (X' ++ Z) z → One laws c y z Y Z X X' R R'
  after_end_one Y Z path k X X' R R' s (asked came V response w) (asked other W answer x) p q =
      one_exchange laws c y z Y Z s k.address (with_path path) came other V W R R' p q
      (λ e next a b. after_quit_one Y Z k (quit_response came) V W R R' next w (subst (λ (i : Came). AfterQuit k (quit_response i) W R') (sym e) x) a b)

  after_lookup_one : (Y Z : List Step) (session : List ℕ) (binding : ℕ) (X X' : List Step) (R R' : Response) (s : State) → AfterLookup session binding X R →
      AfterLookup session binding X' R' → Exactly c s (X ++ Y) y → Exactly c s (X' ++ Z) z → One laws c y z Y Z X X' R R'
  after_lookup_one Y Z session binding X X' R R' s (end_spent at) x p q = absurd (never_spent laws c y z y s (Call.end session binding) at Y p)
  after_lookup_one Y Z session binding X X' R R' s x (end_spent on) p q = absurd (never_spent laws c y z z s (Call.end session binding) on Z q)
  after_lookup_one Y Z session binding X X' R R' s (ended at k V response w) (ended on l W answer x) p q =
      let e = reply_one laws c y z s (Call.end session binding) at on (Reply.ended k) (Reply.ended l) (V ++ Y) (W ++ Z) p q in
      let same : k ≡ l = cc in
      one_call laws c y z Y Z s (Call.end session binding) at on (Some (Reply.ended k)) (Some (Reply.ended l)) V W R R' p q
      (λ a b. after_end_one Y Z (session_path session) k V W R R' (called c s (Call.end session binding)) w
      (subst (λ (i : Closing). AfterEnd (session_path session) i W R') (sym same) x) a b)
  after_lookup_one Y Z session binding X X' R R' s (ended at k V response w) (not_ended on) p q =
      let e = reply_one laws c y z s (Call.end session binding) at on (Reply.ended k) Reply.no_session (V ++ Y) Z p q in cc
  after_lookup_one Y Z session binding X X' R R' s (not_ended at) (ended on k W answer x) p q =
      let e = reply_one laws c y z s (Call.end session binding) at on Reply.no_session (Reply.ended k) Y (W ++ Z) p q in cc
  after_lookup_one Y Z session binding X X' R R' s (not_ended at) (not_ended on) p q =
      one_call laws c y z Y Z s (Call.end session binding) at on (Some Reply.no_session) (Some Reply.no_session) [] [] R R' p q
      (λ a b. one_none laws c y z Y Z (called c s (Call.end session binding)) R R' refl a b)

  asks_where_one : (Y Z : List Step) (id : List ℕ) (X X' : List Step) (R R' : Response) (s : State) → AsksWhere id X R → AsksWhere id X' R' →
      Exactly c s (X ++ Y) y → Exactly c s (X' ++ Z) z → One laws c y z Y Z X X' R R'
  asks_where_one Y Z id X X' R R' s (lookup_spent at) x p q = absurd (never_spent laws c y z y s (Call.lookup id) at Y p)
  asks_where_one Y Z id X X' R R' s x (lookup_spent on) p q = absurd (never_spent laws c y z z s (Call.lookup id) on Z q)
  asks_where_one Y Z id X X' R R' s (found_at at slot address binding V response w) (found_at on place there bound W answer x) p q =
      let e = reply_one laws c y z s (Call.lookup id) at on (Reply.found (found.At slot address binding)) (Reply.found (found.At place there bound)) (V ++ Y) (W ++ Z) p q in
      let same : binding ≡ bound = cc in
      one_call laws c y z Y Z s (Call.lookup id) at on (Some (Reply.found (found.At slot address binding))) (Some (Reply.found (found.At place there bound))) V W R R' p q
      (λ a b. after_lookup_one Y Z id binding V W R R' (called c s (Call.lookup id)) w (subst (λ (i : ℕ). AfterLookup id i W R') (sym same) x) a b)
  asks_where_one Y Z id X X' R R' s (found_at at slot address binding V response w) (not_found on) p q =
      let e = reply_one laws c y z s (Call.lookup id) at on (Reply.found (found.At slot address binding)) (Reply.found found.NoSession) (V ++ Y) Z p q in cc
  asks_where_one Y Z id X X' R R' s (not_found at) (found_at on slot address binding W answer x) p q =
      let e = reply_one laws c y z s (Call.lookup id) at on (Reply.found found.NoSession) (Reply.found (found.At slot address binding)) Y (W ++ Z) p q in cc
  asks_where_one Y Z id X X' R R' s (not_found at) (not_found on) p q =
      one_call laws c y z Y Z s (Call.lookup id) at on (Some (Reply.found found.NoSession)) (Some (Reply.found found.NoSession)) [] [] R R' p q
      (λ a b. one_none laws c y z Y Z (called c s (Call.lookup id)) R R' refl a b)

  delete_one : (Y Z : List Step) (id : List ℕ) (X X' : List Step) (R R' : Response) (s : State) → DeleteSession id X R → DeleteSession id X' R' →
      Exactly c s (X ++ Y) y → Exactly c s (X' ++ Z) z → One laws c y z Y Z X X' R R'
  delete_one Y Z id X X' R R' s (no_name e) (no_name d) p q = one_none laws c y z Y Z s R R' refl p q
  delete_one Y Z id X X' R R' s (no_name e) (named _ _ d x) p q = absurd (false≢true (sym e ∙ d))
  delete_one Y Z id X X' R R' s (named _ _ e w) (no_name d) p q = absurd (false≢true (sym d ∙ e))
  delete_one Y Z id X X' R R' s (named _ _ e w) (named _ _ d x) p q = asks_where_one Y Z id X X' R R' s w x p q

  -- ---- a command that is passed on

  after_touch_one : (Y Z : List Step) (ask : Ask) (address : List ℕ) (X X' : List Step) (R R' : Response) (s : State) → AfterTouch ask address X R →
      AfterTouch ask address X' R' → Exactly c s (X ++ Y) y → Exactly c s (X' ++ Z) z → One laws c y z Y Z X X' R R'
  after_touch_one Y Z ask address X X' R R' s (relay.asked came response told) (relay.asked other answer told_too) p q =
      one_exchange laws c y z Y Z s address ask came other [] [] R R' p q
      (λ e next a b. one_none laws c y z Y Z next R R' (some_same R R' (sym told ∙ ap relay_response e ∙ told_too)) a b)

  after_found_one : (Y Z : List Step) (ask : Ask) (session address : List ℕ) (binding : ℕ) (X X' : List Step) (R R' : Response) (s : State) →
      AfterFound ask session address binding X R → AfterFound ask session address binding X' R' →
      Exactly c s (X ++ Y) y → Exactly c s (X' ++ Z) z → One laws c y z Y Z X X' R R'
  after_found_one Y Z ask session address binding X X' R R' s (relay.touch_spent at) x p q = absurd (never_spent laws c y z y s (Call.touch session binding) at Y p)
  after_found_one Y Z ask session address binding X X' R R' s x (relay.touch_spent on) p q = absurd (never_spent laws c y z z s (Call.touch session binding) on Z q)
  after_found_one Y Z ask session address binding X X' R R' s (relay.touched at V response w) (relay.touched on W answer x) p q =
      one_call laws c y z Y Z s (Call.touch session binding) at on (Some Reply.touched) (Some Reply.touched) V W R R' p q
      (λ a b. after_touch_one Y Z ask address V W R R' (called c s (Call.touch session binding)) w x a b)
  after_found_one Y Z ask session address binding X X' R R' s (relay.touched at V response w) (relay.not_touched on) p q =
      let e = reply_one laws c y z s (Call.touch session binding) at on Reply.touched Reply.no_session (V ++ Y) Z p q in cc
  after_found_one Y Z ask session address binding X X' R R' s (relay.not_touched at) (relay.touched on W answer x) p q =
      let e = reply_one laws c y z s (Call.touch session binding) at on Reply.no_session Reply.touched Y (W ++ Z) p q in cc
  after_found_one Y Z ask session address binding X X' R R' s (relay.not_touched at) (relay.not_touched on) p q =
      one_call laws c y z Y Z s (Call.touch session binding) at on (Some Reply.no_session) (Some Reply.no_session) [] [] R R' p q
      (λ a b. one_none laws c y z Y Z (called c s (Call.touch session binding)) R R' refl a b)

  finds_one : (Y Z : List Step) (ask : Ask) (id : List ℕ) (X X' : List Step) (R R' : Response) (s : State) → FindsNode ask id X R → FindsNode ask id X' R' →
      Exactly c s (X ++ Y) y → Exactly c s (X' ++ Z) z → One laws c y z Y Z X X' R R'
  finds_one Y Z ask id X X' R R' s (relay.lookup_spent at) x p q = absurd (never_spent laws c y z y s (Call.lookup id) at Y p)
  finds_one Y Z ask id X X' R R' s x (relay.lookup_spent on) p q = absurd (never_spent laws c y z z s (Call.lookup id) on Z q)
  finds_one Y Z ask id X X' R R' s (relay.found_at at slot address binding V response w) (relay.found_at on place there bound W answer x) p q =
      let e = reply_one laws c y z s (Call.lookup id) at on (Reply.found (found.At slot address binding)) (Reply.found (found.At place there bound)) (V ++ Y) (W ++ Z) p q in
      let same : binding ≡ bound = cc in
      let reached : address ≡ there = cc in
      one_call laws c y z Y Z s (Call.lookup id) at on (Some (Reply.found (found.At slot address binding))) (Some (Reply.found (found.At place there bound))) V W R R' p q
      (λ a b. after_found_one Y Z ask id address binding V W R R' (called c s (Call.lookup id)) w
      (subst (λ (i : List ℕ). AfterFound ask id i binding W R') (sym reached) (subst (λ (i : ℕ). AfterFound ask id there i W R') (sym same) x)) a b)
  finds_one Y Z ask id X X' R R' s (relay.found_at at slot address binding V response w) (relay.not_found on) p q =
      let e = reply_one laws c y z s (Call.lookup id) at on (Reply.found (found.At slot address binding)) (Reply.found found.NoSession) (V ++ Y) Z p q in cc
  finds_one Y Z ask id X X' R R' s (relay.not_found at) (relay.found_at on slot address binding W answer x) p q =
      let e = reply_one laws c y z s (Call.lookup id) at on (Reply.found found.NoSession) (Reply.found (found.At slot address binding)) Y (W ++ Z) p q in cc
  finds_one Y Z ask id X X' R R' s (relay.not_found at) (relay.not_found on) p q =
      one_call laws c y z Y Z s (Call.lookup id) at on (Some (Reply.found found.NoSession)) (Some (Reply.found found.NoSession)) [] [] R R' p q
      (λ a b. one_none laws c y z Y Z (called c s (Call.lookup id)) R R' refl a b)

  relay_one : (Y Z : List Step) (ask : Ask) (id : List ℕ) (X X' : List Step) (R R' : Response) (s : State) → Relay ask id X R → Relay ask id X' R' →
      Exactly c s (X ++ Y) y → Exactly c s (X' ++ Z) z → One laws c y z Y Z X X' R R'
  relay_one Y Z ask id X X' R R' s (relay.no_name e) (relay.no_name d) p q = one_none laws c y z Y Z s R R' refl p q
  relay_one Y Z ask id X X' R R' s (relay.no_name e) (relay.named _ _ d x) p q = absurd (false≢true (sym e ∙ d))
  relay_one Y Z ask id X X' R R' s (relay.named _ _ e w) (relay.no_name d) p q = absurd (false≢true (sym d ∙ e))
  relay_one Y Z ask id X X' R R' s (relay.named _ _ e w) (relay.named _ _ d x) p q = finds_one Y Z ask id X X' R R' s w x p q

  -- ---- by the route

  -- no step, and a response that is told
  at_once : (Y Z : List Step) (X X' : List Step) (R R' D : Response) (s : State) → (X ≡ []) × (R ≡ D) → (X' ≡ []) × (R' ≡ D) →
      Exactly c s (X ++ Y) y → Exactly c s (X' ++ Z) z → One laws c y z Y Z X X' R R'
  at_once Y Z X X' R R' D s w x p q =
      one_as laws c y z Y Z s X X' [] [] R R' w.0 x.0 p q (λ a b. one_none laws c y z Y Z s R R' (w.1 ∙ sym x.1) a b)

  by_route_one : (Y Z : List Step) (o : Result Route RouteFault) (f : Request) (X X' : List Step) (R R' : Response) (s : State) → ByRoute o f X R → ByRoute o f X' R' → R ≢ left →
      R' ≢ left → Exactly c s (X ++ Y) y → Exactly c s (X' ++ Z) z → One laws c y z Y Z X X' R R'
  by_route_one Y Z (Err misrouted.UnknownCommand) f X X' R R' s w x stays stays_too p q = at_once Y Z X X' R R' _ s w x p q
  by_route_one Y Z (Err misrouted.UnknownMethod) f X X' R R' s w x stays stays_too p q = at_once Y Z X X' R R' _ s w x p q
  by_route_one Y Z (Err misrouted.Memory) f X X' R R' s w x stays stays_too p q = absurd w
  by_route_one Y Z (Ok routes.new_session) f X X' R R' s w x stays stays_too p q = new_session_one Y Z (body_of f) X X' R R' s w x stays stays_too p q
  by_route_one Y Z (Ok (routes.delete_session id)) f X X' R R' s w x stays stays_too p q = delete_one Y Z id X X' R R' s w x p q
  by_route_one Y Z (Ok (routes.relay id target)) f X X' R R' s w x stays stays_too p q = relay_one Y Z (relayed f target) id X X' R R' s w x p q
  by_route_one Y Z (Ok routes.status) f X X' R R' s w x stays stays_too p q = one_call_one Y Z Call.view status_response X X' R R' s w x p q
  by_route_one Y Z (Ok routes.queue) f X X' R R' s w x stays stays_too p q = one_call_one Y Z Call.view queue_response X X' R R' s w x p q
  by_route_one Y Z (Ok routes.clear_queue) f X X' R R' s w x stays stays_too p q = one_call_one Y Z Call.clear clear_response X X' R R' s w x p q
  by_route_one Y Z (Ok routes.register) f X X' R R' s w x stays stays_too p q = registers_one Y Z (body_of f) X X' R R' s w x p q
  by_route_one Y Z (Ok (routes.remove id)) f X X' R R' s w x stays stays_too p q = node_call_one Y Z Call.remove id X X' R R' s w x p q
  by_route_one Y Z (Ok (routes.drain id)) f X X' R R' s w x stays stays_too p q = node_call_one Y Z Call.drain id X X' R R' s w x p q
  by_route_one Y Z (Ok (routes.beat id)) f X X' R R' s w x stays stays_too p q = beats_one Y Z id (body_of f) X X' R R' s w x p q

  pub script_one : (Y Z : List Step) (f : Request) (X X' : List Step) (R R' : Response) (s : State) → Script f X R → Script f X' R' → R ≢ left →
      R' ≢ left → Exactly c s (X ++ Y) y → Exactly c s (X' ++ Z) z → One laws c y z Y Z X X' R R'
  unfolding Script
  script_one Y Z f X X' R R' s w x stays stays_too p q = by_route_one Y Z (route f) f X X' R R' s w x stays stays_too p q
