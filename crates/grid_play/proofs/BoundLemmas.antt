-- The pauses and starts of a New Session.
use Rattle.std.proofs.Common.{◌≡◌, ◌≢◌, ◌⊎◌, inl, inr, ℕ, ◌+◌, ◌*◌, ◌<◌, ◌≤◌, max, Bool, true, false, ◌&&◌, List, [], ◌∷◌, ◌++◌, refl, sym, ap, subst, ◌∙◌, arith}
use Rattle.std.specs.Prelude.{Option, None, Some, Result, Ok, nat_le}
use Rattle.http_frames.specs.Frames.{Request}
use Rattle.grid_outside.specs.Told.{later_by}
use Rattle.grid_outside.specs.declared.exchange.Ask.{Ask}
use Rattle.grid_outside.specs.Exchanges.{Came}
use Rattle.grid_types.specs.declared.capabilities.Cap.{Cap}
use Rattle.grid_types.specs.declared.config.HubConfig.{HubConfig}
use Rattle.grid_types.specs.declared.entry.Change.{Change}
use Rattle.grid_types.specs.declared.entry.Entry.{Entry}
use Rattle.grid_types.specs.declared.entry.FailWhy.{FailWhy}
use Rattle.grid_types.specs.History.{after, clock}
use Rattle.grid_types.specs.Legal.{legal}
use Rattle.grid_types.specs.Permitted.{last_moment, permitted}
use Rattle.grid_types.specs.QueueTime.{queue_time}
use Rattle.grid_types.specs.Requests.{deadline_of}
use Rattle.grid_types.specs.Calls.{Call, Reply}
use Rattle.grid_types.specs.HubAnswers.{after_call, hub}
use Rattle.grid_types.specs.Tokens.{Closing, Reservation, Ticket}
use Rattle.request_laws.specs.Laws.{CallsKeepNewest, CallsKeepTheClock, DeadlinesAreMoments, IsEarly, PollsAreEarly, QueuedDeadlines, StartsRunOut}
use Rattle.request_laws.specs.Starts.{registered_count, starts_left}
use Rattle.hub_core.specs.Answers.{may_lack}
use Rattle.hub_core.specs.Replies.{failing_reply}
use Rattle.caps_merge.specs.declared.fault.CapsFault.{CapsFault}
use Rattle.caps_merge.specs.Merging.{BodyGives}
use Rattle.router_core.specs.declared.routed.RouteFault.{RouteFault}
use Rattle.router_core.specs.Routes.{Route, new_session}
use Rattle.node_client.specs.Runs.{Still}
use Rattle.node_client.specs.Start.{Fails, failed, Frees, freed, Closes, quits, leaves, Returns, returned, Binds, bound, refuses, lacks, Start, unwritten, fails, names}
use Rattle.node_client.specs.Steps.{Step, Called, Spent, Exchanged, Paused}
use Rattle.conn_script.specs.NewSession.{SpentStart, spent_at, Rounds, not_yet, poll_lacks, left_waiting, left_lacking, yours, start_spent, settled, poll_spent, Asks, queued, not_queued, enqueue_spent, NewSession, no_choices, asks}
use Rattle.conn_script.specs.Responses.{Response, left}
use Rattle.conn_script.specs.Script.{ByRoute, Script, body_of, route}
use Rattle.local_driver.specs.World.{Answered, AnswersAt}
use Rattle.play_words.specs.declared.play.PlayNode.{PlayNode}
use Rattle.grid_play.specs.Bounds.{IsBounded, SessionsAreBoundedAt, gives_slot, one_more_if, pauses_in, starts_in}
use Rattle.grid_play.specs.Crew.{Crew, crew_from, first_crew, joins, registration_of}

-- ---- histories

legal_after : (c : HubConfig) (H : List Entry) (caller : ℕ) (changes : List Change) → legal c (after H caller changes) ≡ true → legal c H ≡ true
legal_after c H caller [] l = l
legal_after c H caller (x ∷ changes) l =
    left (legal c H) (permitted c H caller x) (legal_after c (record { caller = caller; change = x } ∷ H) caller changes l)
  where
    left : (a b : Bool) → (a && b) ≡ true → a ≡ true
    left true b e = refl
    left false b e = e

later_is : (c : HubConfig) (H : List Entry) (call : Call) (at : ℕ) (reply : Option Reply) (later : List Entry) → AnswersAt c H call at reply later →
    (later ≡ after_call c H 0 call at) ⊎ (later ≡ H)
later_is c H call at None later (inl (inl x)) = inl x.goes_on
later_is c H call at None later (inl (inr x)) = inr x.stays
later_is c H call at None later (inr x) = inr x.1
later_is c H call at (Some r) later (inl x) = inl x.goes_on
later_is c H call at (Some r) later (inr x) = inr x.stays

exact : (c : HubConfig) (H : List Entry) (call : Call) (at : ℕ) (r : Reply) (later : List Entry) → AnswersAt c H call at (Some r) later →
    ((hub c H 0 call at).reply ≡ r) × (later ≡ after_call c H 0 call at)
exact c H call at r later (inl x) = (some_is (hub c H 0 call at).reply r (sym x.replies), x.goes_on)
  where
    some_is : (a b : Reply) → Some a ≡ Some b → a ≡ b
    some_is a b e = cc
exact c H call at r later (inr x) = absurd (none_some x.silent)
  where
    none_some : Some r ≡ None → ⊥
    none_some e = cc

legal_one : (c : HubConfig) (H : List Entry) (call : Call) (at : ℕ) (reply : Option Reply) (later : List Entry) → AnswersAt c H call at reply later →
    legal c later ≡ true → legal c H ≡ true
legal_one c H call at reply later x l = by_later (later_is c H call at reply later x)
  where
    by_later : (later ≡ after_call c H 0 call at) ⊎ (later ≡ H) → legal c H ≡ true
    by_later (inl e) = legal_after c H 0 (hub c H 0 call at).changes (subst (λ (G : List Entry). legal c G ≡ true) e l)
    by_later (inr e) = subst (λ (G : List Entry). legal c G ≡ true) e l

-- what led to a legal history is legal
legal_before : (c : HubConfig) (H L : List Entry) (steps : List Step) → Answered c H steps L → legal c L ≡ true → legal c H ≡ true
unfolding Answered
legal_before c H L [] a l = subst (λ (G : List Entry). legal c G ≡ true) a l
legal_before c H L (Called call at reply ∷ steps) a l = legal_one c H call at reply a.0 a.1 (legal_before c a.0 L steps a.2 l)
legal_before c H L (Spent call at ∷ steps) a l = absurd a
legal_before c H L (Exchanged address ask came ∷ steps) a l = legal_before c H L steps a l
legal_before c H L (Paused ms ∷ steps) a l = legal_before c H L steps a l

-- ---- steps one after the other

pub record Between (c : HubConfig) (H L : List Entry) (m k : ℕ) (own more : List Step) : Type 0 where
  pub middle : List Entry
  pub at : ℕ
  pub first : Answered c H own middle
  pub rest : Answered c middle more L
  pub still : Still m own at
  pub goes_on : Still at more k

split : (c : HubConfig) (H L : List Entry) (m k : ℕ) (own more : List Step) → Answered c H (own ++ more) L → Still m (own ++ more) k → Between c H L m k own more
unfolding Answered Still
split c H L m k [] more a s = record { middle = H; at = m; first = refl; rest = a; still = refl; goes_on = s }
split c H L m k (Called call at reply ∷ own) more a s =
    let b = split c a.0 L m k own more a.2 s.1 in
    record { middle = b.middle; at = b.at; first = (a.0, a.1, b.first); rest = b.rest; still = (s.0, b.still); goes_on = b.goes_on }
split c H L m k (Spent call at ∷ own) more a s = absurd a
split c H L m k (Exchanged address ask came ∷ own) more a s =
    let b = split c H L m k own more a s in
    record { middle = b.middle; at = b.at; first = b.first; rest = b.rest; still = b.still; goes_on = b.goes_on }
split c H L m k (Paused ms ∷ own) more a s =
    let b = split c H L (later_by m ms) k own more a s in
    record { middle = b.middle; at = b.at; first = b.first; rest = b.rest; still = b.still; goes_on = b.goes_on }

-- steps that found the hub spent are none of this hub
spent_not_answered : (c : HubConfig) (H L : List Entry) (steps : List Step) (call : Call) (at : ℕ) → Answered c H (steps ++ Spent call at ∷ []) L → ⊥
unfolding Answered
spent_not_answered c H L [] call at a = a
spent_not_answered c H L (Called k m reply ∷ steps) call at a = spent_not_answered c a.0 L steps call at a.2
spent_not_answered c H L (Spent k m ∷ steps) call at a = a
spent_not_answered c H L (Exchanged address ask came ∷ steps) call at a = spent_not_answered c H L steps call at a
spent_not_answered c H L (Paused ms ∷ steps) call at a = spent_not_answered c H L steps call at a

spent_start_not_answered : (c : HubConfig) (H L : List Entry) (r : Reservation) (steps : List Step) → SpentStart r steps → Answered c H steps L → ⊥
spent_start_not_answered c H L r steps (spent_at before place call at leads wants) a = spent_not_answered c H L before call at a

-- ---- the steps of a start

data IsQuietCall : Call → Type 0 where
  binds : (r : Reservation) (session : List ℕ) (caps : List Cap) → IsQuietCall (Call.bind r session caps)
  gives_up : (r : Reservation) (w : FailWhy) → IsQuietCall (Call.fail r w)
  frees : (k : Closing) → IsQuietCall (Call.freed k)

data AreQuiet : List Step → Type 0 where
  nothing : AreQuiet []
  calls : {steps : List Step} (call : Call) (at : ℕ) (reply : Option Reply) → IsQuietCall call → AreQuiet steps → AreQuiet (Called call at reply ∷ steps)
  exchanges : {steps : List Step} (address : List ℕ) (ask : Ask) (came : Came) → AreQuiet steps → AreQuiet (Exchanged address ask came ∷ steps)

fails_quiet : (r : Reservation) (w : FailWhy) (steps : List Step) → Fails r w steps → AreQuiet steps
fails_quiet r w _ (failed at answer) = calls (Call.fail r w) at (failing_reply answer) (gives_up r w) nothing

frees_quiet : (k : Closing) (steps : List Step) → Frees k steps → AreQuiet steps
frees_quiet k _ (freed at) = calls (Call.freed k) at (Some Reply.is_freed) (frees k) nothing

closes_quiet : (k : Closing) (steps : List Step) → Closes k steps → AreQuiet steps
closes_quiet k _ (quits {steps = V} came e f) = exchanges k.address _ came (frees_quiet k V f)
closes_quiet k steps (leaves e f) = frees_quiet k steps f

returns_quiet : (r : Reservation) (session : List ℕ) (steps : List Step) → Returns r session steps → AreQuiet steps
returns_quiet r session _ (returned {steps = V} came f) = exchanges r.address _ came (fails_quiet r _ V f)

binds_quiet : (r : Reservation) (session : List ℕ) (caps : List Cap) (steps : List Step) → Binds r session caps steps → AreQuiet steps
binds_quiet r session caps _ (bound at b) = calls (Call.bind r session caps) at (Some (Reply.bound b)) (binds r session caps) nothing
binds_quiet r session caps _ (refuses {steps = V} at reply k why closes) =
    calls (Call.bind r session caps) at (Some reply) (binds r session caps) (closes_quiet k V closes)
binds_quiet r session caps _ (lacks {steps = V} at returns) =
    calls (Call.bind r session caps) at None (binds r session caps) (returns_quiet r session V returns)

start_quiet : (r : Reservation) (steps : List Step) → Start r steps → AreQuiet steps
start_quiet r steps (unwritten f) = fails_quiet r _ steps f
start_quiet r _ (fails {steps = V} came w after f) = exchanges r.address _ came (fails_quiet r w V f)
start_quiet r _ (names {steps = V} answer session caps says b) = exchanges r.address _ _ (binds_quiet r session caps V b)

no_slot : (call : Call) (reply : Option Reply) → IsQuietCall call → gives_slot call reply ≡ false
no_slot _ reply (binds r session caps) = refl
no_slot _ reply (gives_up r w) = refl
no_slot _ reply (frees k) = refl

quiet_pauses : (own more : List Step) → AreQuiet own → pauses_in (own ++ more) ≡ pauses_in more
quiet_pauses _ more nothing = refl
quiet_pauses _ more (calls {steps = V} call at reply q rest) = quiet_pauses V more rest
quiet_pauses _ more (exchanges {steps = V} address ask came rest) = quiet_pauses V more rest

quiet_starts : (own more : List Step) → AreQuiet own → starts_in (own ++ more) ≡ starts_in more
quiet_starts _ more nothing = refl
quiet_starts _ more (calls {steps = V} call at reply q rest) =
    ap (λ (b : Bool). one_more_if b (starts_in (V ++ more))) (no_slot call reply q) ∙ quiet_starts V more rest
quiet_starts _ more (exchanges {steps = V} address ask came rest) = quiet_starts V more rest

quiet_still : (own : List Step) (m k : ℕ) → AreQuiet own → Still m own k → k ≡ m
unfolding Still
quiet_still _ m k nothing s = s
quiet_still _ m k (calls {steps = V} call at reply q rest) s = quiet_still V m k rest s.1
quiet_still _ m k (exchanges {steps = V} address ask came rest) s = quiet_still V m k rest s

below_max : (a b d : ℕ) → max a b < d → a < d
below_max a b d h = grind (arith, h)

within_max : (a b m : ℕ) → a ≡ m → b ≤ m → max a b ≤ m
within_max a b m e h = grind (arith, e, h)

on_later : (a m d : ℕ) → a ≤ m → m < d → d ≤ last_moment → a ≤ later_by m 15
on_later a m d h ahead far = by_test (nat_le (m + 15) last_moment) refl
  where
    by_test : (b : Bool) → nat_le (m + 15) last_moment ≡ b → a ≤ later_by m 15
    by_test true e = let on : m + 15 ≤ later_by m 15 = grind arith in omega (arith, h, on)
    by_test false e = let on : last_moment ≤ later_by m 15 = grind arith in omega (arith, h, ahead, far, on)

later_far : (m ms : ℕ) → later_by m ms ≤ last_moment
later_far m ms = grind arith

on_pause : (a m ms : ℕ) → m ≤ last_moment → a ≤ m → a ≤ later_by m ms
on_pause a m ms far h = grind (arith, far, h)

-- the script of a request for a session
new_one : (f : Request) (own : List Step) (response : Response) → route f ≡ Ok new_session → Script f own response → NewSession (body_of f) own response
unfolding Script
new_one f own response e script = subst (λ (o : Result Route RouteFault). ByRoute o f own response) e script

module _ (newest : CallsKeepNewest) (ticking : CallsKeepTheClock) (due : QueuedDeadlines) (starts : StartsRunOut) (early : PollsAreEarly) (moments : DeadlinesAreMoments)
    (c : HubConfig) where
  -- what a call of a start leaves as it is
  pub record Keeps (H G : List Entry) (m q : ℕ) : Type 0 where
    pub fewer : starts_left G q ≤ starts_left H q
    pub deadline : deadline_of G q ≡ deadline_of H q
    pub on_time : clock H ≤ m → clock G ≤ m

  keeps_same : (H G : List Entry) (m q : ℕ) → G ≡ H → Keeps H G m q
  keeps_same H G m q e = subst (λ (F : List Entry). Keeps H F m q) (sym e) (record { fewer = omega arith; deadline = refl; on_time = λ h. h })

  clock_one : (H : List Entry) (call : Call) (at m : ℕ) (reply : Option Reply) (later : List Entry) → AnswersAt c H call at reply later → at ≡ m → clock H ≤ m → clock later ≤ m
  clock_one H call at m reply later x e h = by_later (later_is c H call at reply later x)
    where
      by_later : (later ≡ after_call c H 0 call at) ⊎ (later ≡ H) → clock later ≤ m
      by_later (inl d) =
          let most = subst (λ (G : List Entry). clock G ≤ max at (clock H)) (sym d) (ticking c H 0 call at) in
          omega (arith, most, within_max at (clock H) m e h)
      by_later (inr d) = subst (λ (G : List Entry). clock G ≤ m) (sym d) h

  keeps_after : (H : List Entry) (call : Call) (at m q : ℕ) → IsQuietCall call → at ≡ m → Keeps H (after_call c H 0 call at) m q
  keeps_after H _ at m q (binds r session caps) e = record {
    fewer = starts.bind c H 0 r session caps at q;
    deadline = newest.deadlines c H 0 (Call.bind r session caps) at q refl;
    on_time = λ h. let most = ticking c H 0 (Call.bind r session caps) at in omega (arith, most, within_max at (clock H) m e h);
  }
  keeps_after H _ at m q (gives_up r w) e = record {
    fewer = starts.fail c H 0 r w at q;
    deadline = newest.deadlines c H 0 (Call.fail r w) at q refl;
    on_time = λ h. let most = ticking c H 0 (Call.fail r w) at in omega (arith, most, within_max at (clock H) m e h);
  }
  keeps_after H _ at m q (frees k) e = record {
    fewer = starts.freed c H 0 k at q;
    deadline = newest.deadlines c H 0 (Call.freed k) at q refl;
    on_time = λ h. let most = ticking c H 0 (Call.freed k) at in omega (arith, most, within_max at (clock H) m e h);
  }

  keeps_one : (H later : List Entry) (call : Call) (at m q : ℕ) (reply : Option Reply) → IsQuietCall call → at ≡ m → AnswersAt c H call at reply later → Keeps H later m q
  keeps_one H later call at m q reply quiet e x = by_later (later_is c H call at reply later x)
    where
      by_later : (later ≡ after_call c H 0 call at) ⊎ (later ≡ H) → Keeps H later m q
      by_later (inl d) = subst (λ (G : List Entry). Keeps H G m q) (sym d) (keeps_after H call at m q quiet e)
      by_later (inr d) = keeps_same H later m q d

  keeps_more : (F G H : List Entry) (m q : ℕ) → Keeps F G m q → Keeps G H m q → Keeps F H m q
  keeps_more F G H m q a b = record { fewer = omega (arith, a.fewer, b.fewer); deadline = b.deadline ∙ a.deadline; on_time = λ h. b.on_time (a.on_time h) }

  keeps_all : (own : List Step) (H G : List Entry) (m k q : ℕ) → AreQuiet own → Answered c H own G → Still m own k → Keeps H G m q
  unfolding Answered Still
  keeps_all _ H G m k q nothing a s = keeps_same H G m q a
  keeps_all _ H G m k q (calls {steps = V} call at reply quiet rest) a s =
      keeps_more H a.0 G m q (keeps_one H a.0 call at m q reply quiet s.0 a.1) (keeps_all V a.0 G m k q rest a.2 s.1)
  keeps_all _ H G m k q (exchanges {steps = V} address ask came rest) a s = keeps_all V H G m k q rest a s

  -- ---- rounds of polls

  -- all pauses but the last end before the deadline
  abbrev PausesWithin : ℕ → ℕ → ℕ → Type 0
  PausesWithin count m d = (count ≡ 0) ⊎ (15 * count + m < d + 15)

  pub record RoundsWithin (H : List Entry) (steps : List Step) (m d q : ℕ) : Type 0 where
    pub waits : PausesWithin (pauses_in steps) m d
    pub count : starts_in steps ≤ starts_left H q

  one_pause : (count m d : ℕ) → m < d → d ≤ last_moment → PausesWithin count (later_by m 15) d → PausesWithin (count + 1) m d
  one_pause count m d ahead far (inl none) = inr (omega (arith, none, ahead))
  one_pause count m d ahead far (inr some) = by_test (nat_le (m + 15) last_moment) refl
    where
      by_test : (b : Bool) → nat_le (m + 15) last_moment ≡ b → PausesWithin (count + 1) m d
      by_test true e = let on : m + 15 ≤ later_by m 15 = grind arith in inr (omega (arith, some, on))
      by_test false e = let on : last_moment ≤ later_by m 15 = grind arith in inr (omega (arith, some, on, far, ahead))

  lacks_early : (H : List Entry) (t : Ticket) (at : ℕ) (reply : Reply) → (hub c H 0 (Call.poll t) at).reply ≡ reply → may_lack (Call.poll t) reply ≡ true → IsEarly H t at
  lacks_early H t at (Reply.yours u r) e may = early.yours c H 0 t u r at e
  lacks_early H t at reply e may = absurd cc

  none_early : (H : List Entry) (t : Ticket) (at : ℕ) (later : List Entry) → AnswersAt c H (Call.poll t) at None later → IsEarly H t at × (later ≡ H)
  none_early H t at later (inl (inl x)) = absurd (none_some x.replies)
    where
      none_some : None ≡ Some (hub c H 0 (Call.poll t) at).reply → ⊥
      none_some e = cc
  none_early H t at later (inl (inr x)) = (lacks_early H t at (hub c H 0 (Call.poll t) at).reply refl x.may, x.stays)
  none_early H t at later (inr x) = absurd (let no = x.0 in cc)

  ahead_of : (H : List Entry) (t : Ticket) (at m d : ℕ) → at ≡ m → deadline_of H t.request ≡ d → IsEarly H t at → m < d
  ahead_of H t at m d e due h = let lt = below_max at (clock H) (deadline_of H t.request) h in omega (arith, lt, e, due)

  rounds_within : (t : Ticket) (X : List Step) (R : Response) (H L : List Entry) (m k d : ℕ) → Rounds t X R → R ≢ left → Answered c H X L → Still m X k → legal c L ≡ true →
      clock H ≤ m → deadline_of H t.request ≡ d → d ≤ last_moment → RoundsWithin H X m d t.request
  unfolding Answered Still
  rounds_within t X R H L m k d (left_waiting at u w) n a s l on_time due far = absurd (n refl)
  rounds_within t X R H L m k d (left_lacking at w) n a s l on_time due far = absurd (n refl)
  rounds_within t X R H L m k d (not_yet {steps = V} at u w) n a s l on_time due far =
      let x = exact c H (Call.poll t) at (Reply.not_yet u) a.0 a.1 in
      let y = early.not_yet c H 0 t u at x.0 in
      let ahead = ahead_of H t at m d s.0 due y.0 in
      let rest = subst (λ (G : List Entry). Answered c G V L) (x.1 ∙ y.2) a.2 in
      let next = rounds_within u V R H L (later_by m 15) k d w n rest s.1 l (on_later (clock H) m d on_time ahead far) (ap (deadline_of H) y.1 ∙ due) far in
      record { waits = one_pause (pauses_in V) m d ahead far next.waits; count = subst (λ (q : ℕ). starts_in V ≤ starts_left H q) y.1 next.count }
  rounds_within t X R H L m k d (poll_lacks {steps = V} at w) n a s l on_time due far =
      let y = none_early H t at a.0 a.1 in
      let ahead = ahead_of H t at m d s.0 due y.0 in
      let rest = subst (λ (G : List Entry). Answered c G V L) y.1 a.2 in
      let next = rounds_within t V R H L (later_by m 15) k d w n rest s.1 l (on_later (clock H) m d on_time ahead far) due far in
      record { waits = one_pause (pauses_in V) m d ahead far next.waits; count = next.count }
  rounds_within t X R H L m k d (yours {own = D} {steps = V} at u r st w) n a s l on_time due far =
      let x = exact c H (Call.poll t) at (Reply.yours u r) a.0 a.1 in
      let legal_mid = legal_before c a.0 L (D ++ V) a.2 l in
      let gave = starts.yours c H 0 t u r at (legal_one c H (Call.poll t) at (Some (Reply.yours u r)) a.0 a.1 legal_mid) x.0 in
      let fewer : starts_left a.0 t.request < starts_left H t.request = subst (λ (G : List Entry). starts_left G t.request < starts_left H t.request) (sym x.1) gave.fewer in
      let mid_due : deadline_of a.0 t.request ≡ d = ap (λ (G : List Entry). deadline_of G t.request) x.1 ∙ newest.deadlines c H 0 (Call.poll t) at t.request refl ∙ due in
      let mid_time = clock_one H (Call.poll t) at m (Some (Reply.yours u r)) a.0 a.1 s.0 on_time in
      let b = split c a.0 L m k D V a.2 s.1 in
      let quiet = start_quiet r D st in
      let kept = keeps_all D a.0 b.middle m b.at u.request quiet b.first b.still in
      let same = quiet_still D m b.at quiet b.still in
      let next = rounds_within u V R b.middle L m k d w n b.rest (subst (λ (i : ℕ). Still i V k) same b.goes_on) l (kept.on_time mid_time)
      (kept.deadline ∙ ap (deadline_of a.0) gave.same_request ∙ mid_due) far in
      let left : starts_left b.middle u.request ≤ starts_left a.0 t.request =
      subst (λ (q : ℕ). starts_left b.middle u.request ≤ starts_left a.0 q) gave.same_request kept.fewer in
      record {
        waits = subst (λ (n : ℕ). PausesWithin n m d) (sym (quiet_pauses D V quiet)) next.waits;
        count = omega (arith, quiet_starts D V quiet, next.count, left, fewer);
      }
  rounds_within t X R H L m k d (start_spent {own = D} at u r spent) n a s l on_time due far = absurd (spent_start_not_answered c a.0 L r D spent a.2)
  rounds_within t X R H L m k d (settled at o) n a s l on_time due far = record { waits = inl refl; count = omega arith }
  rounds_within t X R H L m k d (poll_spent at) n a s l on_time due far = absurd a

  -- ---- a New Session

  asks_within : (choices : List (List Cap)) (X : List Step) (R : Response) (H L : List Entry) (m k : ℕ) → Asks choices X R → R ≢ left → Answered c H X L → Still m X k → legal c L ≡ true →
      clock H ≤ m → IsBounded c H choices X
  unfolding Answered Still
  asks_within choices X R H L m k (queued {steps = V} at t w) n a s l on_time =
      let x = exact c H (Call.enqueue choices) at (Reply.queued t) a.0 a.1 in
      let legal_mid = legal_before c a.0 L V a.2 l in
      let by_then : deadline_of a.0 t.request ≤ max at (clock H) + queue_time c choices =
      subst (λ (G : List Entry). deadline_of G t.request ≤ max at (clock H) + queue_time c choices) (sym x.1) (due c H 0 choices at t x.0) in
      let mid_time = clock_one H (Call.enqueue choices) at m (Some (Reply.queued t)) a.0 a.1 s.0 on_time in
      let next = rounds_within t V R a.0 L m k (deadline_of a.0 t.request) w n a.2 s.1 l mid_time refl (moments c a.0 t.request legal_mid) in
      let fewer = starts.registered a.0 t.request in
      let registered : registered_count a.0 ≤ registered_count H = subst (λ (G : List Entry). registered_count G ≤ registered_count H) (sym x.1) (starts.queues c H 0 choices at) in
      record {
        waits = in_time (pauses_in V) m (deadline_of a.0 t.request) (max at (clock H)) (queue_time c choices) next.waits by_then (within_max at (clock H) m s.0 on_time);
        starts = omega (arith, next.count, fewer, registered);
      }
    where
      in_time : (count m d at time : ℕ) → PausesWithin count m d → d ≤ at + time → at ≤ m → 15 * count < time + 15
      in_time count m d at time (inl none) due on = omega (arith, none)
      in_time count m d at time (inr some) due on = omega (arith, some, due, on)
  asks_within choices X R H L m k (not_queued at reply response told) n a s l on_time = record { waits = omega arith; starts = omega arith }
  asks_within choices X R H L m k (enqueue_spent at) n a s l on_time = absurd a

  session_within : ((body : List ℕ) (r s : Result (List (List Cap)) CapsFault) → BodyGives body r → BodyGives body s → r ≡ s) →
      (body : List ℕ) (choices : List (List Cap)) (X : List Step) (R : Response) (H L : List Entry) (m k : ℕ) → NewSession body X R → R ≢ left → BodyGives body (Ok choices) →
      Answered c H X L → Still m X k → legal c L ≡ true → clock H ≤ m → IsBounded c H choices X
  session_within bodies body choices X R H L m k (no_choices fault g) n h a s l on_time = record { waits = omega arith; starts = omega arith }
  session_within bodies body choices X R H L m k (asks others g w) n h a s l on_time =
      let e = bodies body (Ok others) (Ok choices) g h in
      let same : others ≡ choices = cc in
      asks_within choices X R H L m k (subst (λ (i : List (List Cap)). Asks i X R) same w) n a s l on_time

  -- ---- the clock of a conversation

  first_clock : (i : ℕ) (played : List PlayNode) (crew : Crew) → clock crew.history ≤ 0 → clock (crew_from c i played crew).history ≤ 0
  first_clock i [] crew h = h
  first_clock i (p ∷ played) crew h =
      let most = ticking c crew.history 0 (Call.register (registration_of i p)) 0 in
      first_clock (i + 1) played (joins c crew i p) (omega (arith, most, within_max 0 (clock crew.history) 0 refl h))

  clock_all : (steps : List Step) (H L : List Entry) (m k : ℕ) → Answered c H steps L → Still m steps k → m ≤ last_moment → clock H ≤ m → clock L ≤ k
  unfolding Answered Still
  clock_all [] H L m k a s far h = subst (λ (G : List Entry). clock G ≤ k) (sym a) (subst (λ (i : ℕ). clock H ≤ i) (sym s) h)
  clock_all (Called call at reply ∷ steps) H L m k a s far h = clock_all steps a.0 L m k a.2 s.1 far (clock_one H call at m reply a.0 a.1 s.0 h)
  clock_all (Spent call at ∷ steps) H L m k a s far h = absurd a
  clock_all (Exchanged address ask came ∷ steps) H L m k a s far h = clock_all steps H L m k a s far h
  clock_all (Paused ms ∷ steps) H L m k a s far h = clock_all steps H L (later_by m ms) k a s (later_far m ms) (on_pause (clock H) m ms far h)

  pub bounded : ((body : List ℕ) (r s : Result (List (List Cap)) CapsFault) → BodyGives body r → BodyGives body s → r ≡ s) → SessionsAreBoundedAt c
  bounded bodies nodes ended bytes steps written p before own after f response choices e routed gives script n =
      let start = (first_crew c nodes).history in
      let answered = subst (λ (x : List Step). Answered c start x p.history) e p.answered in
      let still = subst (λ (x : List Step). Still 0 x p.moment) e p.still in
      let b = split c start p.history 0 p.moment before (own ++ after) answered still in
      let d = split c b.middle p.history b.at p.moment own after b.rest b.goes_on in
      let begun = first_clock 1 nodes (record { history = []; nodes = []; numbers = [] }) (omega arith) in
      let on_time = clock_all before start b.middle 0 b.at b.first b.still (omega arith) begun in (
        b.middle,
        b.first,
        session_within bodies (body_of f) choices own response b.middle d.middle b.at d.at
            (new_one f own response routed script) n gives d.first d.still (legal_before c d.middle p.history after d.rest p.is_legal) on_time,
      )
