-- What one turn does, by what was wanted.
use Rattle.std.proofs.Common.{◌≡◌, ◌≢◌, ℕ, ◌<◌, ◌≤◌, Bool, true, false, List, [], ◌∷◌, ◌++◌, length, refl, sym, ap, subst, ◌∙◌, append-nil, length-append, arith}
use Rattle.std.specs.Prelude.{None, Some, Result, Err}
use Rattle.std.specs.Borrow.{Bor}
use Rattle.grid_types.specs.declared.entry.Entry.{Entry}
use Rattle.grid_types.specs.Calls.{Call, Reply}
use Rattle.grid_types.specs.Tokens.{Closing, Ticket}
use Rattle.grid_types.specs.Legal.{legal}
use Rattle.grid_types.specs.Permitted.{last_moment}
use Rattle.grid_outside.specs.Told.{ClockView, LinkView, Tick}
use Rattle.grid_outside.specs.declared.exchange.Ask.{Ask}
use Rattle.grid_outside.specs.Exchanges.{Came, ask_of}
use Rattle.http_frames.specs.declared.writing.NodeRequest.{NodeRequest}
use Rattle.request_laws.specs.Laws.{CallsKeepNewest, DeadlinesAreMoments, PollsAreEarly, StartsRunOut, is_enqueue}
use Rattle.hub_core.specs.HubView.{HubView, past}
use Rattle.node_client.specs.ClockSteps.{PausesFor, Ticks}
use Rattle.node_client.specs.Held.{Token}
use Rattle.node_client.specs.Steps.{Step, Called, Exchanged, Paused}
use Rattle.conn_script.specs.Begin as begin
use Rattle.conn_script.specs.Begin.{AsksToEnd, BeginLacks, Begins, Expires}
use Rattle.conn_script.specs.declared.wants.Answer.{Answer}
use Rattle.conn_script.specs.declared.wants.Answer.TheVariants as told
use Rattle.conn_script.specs.declared.wants.ConnFault.{ConnFault}
use Rattle.conn_script.specs.declared.wants.ConnFault.TheVariants as faults
use Rattle.conn_script.specs.declared.wants.HubAnswer.{HubAnswer}
use Rattle.conn_script.specs.declared.wants.HubAnswer.TheVariants as answers
use Rattle.conn_script.specs.declared.wants.HubCall.{HubCall}
use Rattle.conn_script.specs.declared.wants.HubCall.TheVariants as wanted
use Rattle.conn_script.specs.declared.wants.Served.{Served}
use Rattle.conn_script.specs.declared.wants.TheConstants.{LIMIT}
use Rattle.conn_script.specs.declared.wants.Want.{Want}
use Rattle.conn_script.specs.declared.wants.Want.TheVariants as wants
use Rattle.conn_script.specs.Pauses.{ends_early, ends_early_behind, is_early_call}
use Rattle.grid_types.specs.declared.config.HubConfig.{HubConfig}
use Rattle.conn_script.specs.Work.{Outlook}
use Rattle.conn_script.specs.Wanted.{Fits, IsAwaited, Made, Shows, Wanted, bytes_in, call_of, call_step, call_tokens, count, is_spent, over, piece, reply_of, taken_of, to_ask, to_begin, to_call, to_pause, to_read, to_write}
use Rattle.hub_conn.specs.declared.talk.Talk.{Talk}
use Rattle.hub_conn.specs.CallLaws.{CallLaws}
use Rattle.hub_conn.specs.WantLaws.{WantLaws}
use Rattle.hub_conn.specs.Talk.{Cause, Feeds, HandsOut, Says, Stands, Takes, blamed, cause_after, cause_of, leaves, result_cause, tokens}
use Rattle.hub_conn.specs.Work.{work}
use Rattle.hub_links.specs.Links.{DoesLink, MovesSome, RoseFor}
use Rattle.hub_links.specs.LinkLaws.{Adds, IsPlain, caused_on, few_bytes, plain_tokens, read_adds, write_adds}
use Rattle.local_driver.specs.Calls as calls
use Rattle.local_driver.specs.Calls.{MayMake}
use Rattle.local_driver.specs.World.{Went, WentBy, World, world_of}
use Rattle.local_driver.specs.Served.{Onward, Outside, outside_of}
use Rattle.local_driver.specs.Serving.{HasAll, Serving, Turned, outlook_of}
use Rattle.local_driver.proofs.LessLemmas.{PollsNewest, early_ahead, hub_lowers, no_more_same, outlook, one_last, pause_lowers, read_lowers, write_lowers}
use Rattle.local_driver.proofs.OnwardLemmas.{onward_link, onward_more, onward_world}
use Rattle.local_driver.proofs.TokenLemmas.{StaysWith, has_left, has_right, held_after, may_make}
use Rattle.local_driver.proofs.WayLemmas.{went_call, went_exchange, went_pause}

never : false ≡ true → ⊥
never e = cc

-- ---- no client is told to have left

read_none : (answer : Answer) (most : ℕ) → IsAwaited answer (piece most) → answer ≢ told.Gone
read_none answer most h is = never (subst (λ (a : Answer). IsAwaited a (piece most)) is h)

write_none : (answer : Answer) (most : ℕ) → IsAwaited answer (count most) → answer ≢ told.Gone
write_none answer most h is = never (subst (λ (a : Answer). IsAwaited a (count most)) is h)

begun_none : told.Begun ≢ told.Gone
begun_none is = cc

node_none : (came : Came) → told.Node came ≢ told.Gone
node_none came is = cc

pause_none : told.Paused ≢ told.Gone
pause_none is = cc

hub_none : (answer : HubAnswer) → told.Hub answer ≢ told.Gone
hub_none answer is = cc

-- so no request is withdrawn
stays_with : (call : HubCall) (b : Bool) → ((t : Ticket) → call ≡ wanted.Withdraw t → b ≡ true) → b ≡ false → StaysWith (call_of call)
stays_with (wanted.Withdraw t) b leaves_so e = never (sym e ∙ leaves_so t refl)
stays_with (wanted.Register node) b leaves_so e = tt
stays_with (wanted.Beat node) b leaves_so e = tt
stays_with (wanted.BeatAs node name) b leaves_so e = tt
stays_with (wanted.Drain node) b leaves_so e = tt
stays_with (wanted.Remove node) b leaves_so e = tt
stays_with (wanted.Enqueue choices) b leaves_so e = tt
stays_with (wanted.Poll t) b leaves_so e = tt
stays_with (wanted.Bind r session caps) b leaves_so e = tt
stays_with (wanted.Fail r why) b leaves_so e = tt
stays_with (wanted.Lookup session) b leaves_so e = tt
stays_with (wanted.Touch session binding) b leaves_so e = tt
stays_with (wanted.End session binding) b leaves_so e = tt
stays_with (wanted.Freed c) b leaves_so e = tt
stays_with wanted.Clear b leaves_so e = tt
stays_with wanted.View b leaves_so e = tt

-- ---- what goes before a request ends with no poll

behind_end : (own more : List Step) (c : Closing) (at : ℕ) → AsksToEnd c own → ends_early_behind false more ≡ false →
    ends_early_behind false (own ++ Called (Call.freed c) at (Some Reply.is_freed) ∷ more) ≡ false
behind_end _ more c at (begin.asked came some q) late = late
behind_end _ more c at (begin.not_asked q) late = late

expires_late : (before : Bool) (steps : List Step) → Expires steps → ends_early_behind before steps ≡ false
expires_late before _ (begin.none_idle at) = refl
expires_late before _ (begin.one_idle {own} {more} at at' c asks rest) = behind_end own more c at' asks (expires_late false more rest)

begins_late : (nodes : List ℕ) (before : Bool) (steps : List Step) → Begins nodes steps → ends_early_behind before steps ≡ false
begins_late _ before _ (begin.swept {more} at reply rest) = expires_late false more rest
begins_late _ before _ (begin.beaten {nodes} {more} node at reply rest) = begins_late nodes false more rest

last_late : (before : Bool) (steps more : List Step) → ((b : Bool) → ends_early_behind b more ≡ false) → ends_early_behind before (steps ++ more) ≡ false
last_late before [] more late = late before
last_late before (step ∷ steps) more late = last_late (is_early_call step) steps more late

module _ {N C : Type 0} (gives : N → List ℕ → Ask → Came → N → Type 0) (tells : C → Tick → ℕ → C → Type 0) (own : List ℕ) where
  -- ---- before a turn

  shown : (old : Outside N C) (talk : Talk) (new : Outside N C) (want : Want) → (s : Serving gives tells own old talk new) → HandsOut talk want → Shows want s.want
  shown old talk new want s hands = (hands.tells (Some own) s.want s.bytes s.steps s.written s.stands).shows

  says : (old : Outside N C) (talk : Talk) (new : Outside N C) (want : Want) (w : Wanted) → (s : Serving gives tells own old talk new) → HandsOut talk want → s.want ≡ w → Says w (Some own) s.bytes s.steps s.written
  says old talk new want w s hands e =
      subst (λ (x : Wanted). Says x (Some own) s.bytes s.steps s.written) e (hands.tells (Some own) s.want s.bytes s.steps s.written s.stands).says

  stands_as : (old : Outside N C) (talk : Talk) (new : Outside N C) (w : Wanted) → (s : Serving gives tells own old talk new) → s.want ≡ w → Stands talk (Some own) w s.bytes s.steps s.written
  stands_as old talk new w s e = subst (λ (x : Wanted). Stands talk (Some own) x s.bytes s.steps s.written) e s.stands

  -- ---- after it

  fed : (first before after : Outside N C) (talk mid new : Talk) (answer : Answer) (steps : List Step) (bytes written : List ℕ) (s : Serving gives tells own first talk before) →
      Stands mid (Some own) s.want s.bytes s.steps s.written → blamed mid ≡ blamed talk → leaves mid ≡ leaves talk → answer ≢ told.Gone → Feeds mid answer new → Fits answer s.want → Made (Some own) answer s.want steps →
      bytes_in answer ≡ bytes → taken_of answer s.want ≡ written → Onward gives tells before bytes steps written after → RoseFor (cause_of answer) before.link after.link →
      HasAll (past after.world.hub) (tokens new) → (ends_early (s.steps ++ steps) ≡ true → after.world.time.moment < last_moment) → length (s.bytes ++ bytes) ≤ LIMIT →
      Serving gives tells own first new after
  fed first before after talk mid new answer steps bytes written s stands same calm other feeds fits made came took onward rose has early within =
      let next = feeds.stands (Some own) s.want s.bytes s.steps s.written steps stands fits made in
      let there = subst (λ (xs : List ℕ). Stands new (Some own) next.0 (s.bytes ++ xs) (s.steps ++ steps) (s.written ++ taken_of answer s.want)) came next.1 in
      record {
        want = next.0;
        bytes = s.bytes ++ bytes;
        steps = s.steps ++ steps;
        written = s.written ++ written;
        stands = subst (λ (xs : List ℕ). Stands new (Some own) next.0 (s.bytes ++ bytes) (s.steps ++ steps) (s.written ++ xs)) took there;
        onward = onward_more gives tells first before after s.bytes bytes s.steps steps s.written written s.onward onward;
        fresh = feeds.fresh;
        stays = feeds.stays other (calm ∙ s.stays);
        has = has;
        early = early;
        within = within;
        caused = subst (λ (c : Cause). RoseFor c first.link after.link) (sym (feeds.blames ∙ ap (λ (c : Cause). cause_after c answer) same))
            (caused_on (blamed talk) answer first.link before.link after.link s.bytes s.written bytes written s.onward.moved onward.moved s.caused rose);
      }

  -- nothing more was read
  none_more : (bytes : List ℕ) → length bytes ≤ LIMIT → length (bytes ++ []) ≤ LIMIT
  none_more bytes h = subst (λ (xs : List ℕ). length xs ≤ LIMIT) (sym (append-nil bytes)) h

  -- one that was not the hub's
  plain_fed : (first before after : Outside N C) (talk new : Talk) (answer : Answer) (want : Wanted) (steps : List Step) (bytes written : List ℕ) (s : Serving gives tells own first talk before) →
      s.want ≡ want → answer ≢ told.Gone → Feeds talk answer new → Fits answer want → Made (Some own) answer want steps → bytes_in answer ≡ bytes → taken_of answer want ≡ written → IsPlain answer →
      Onward gives tells before bytes steps written after → RoseFor (cause_of answer) before.link after.link → past after.world.hub ≡ past before.world.hub →
      (ends_early (s.steps ++ steps) ≡ true → after.world.time.moment < last_moment) → length (s.bytes ++ bytes) ≤ LIMIT → Serving gives tells own first new after
  plain_fed first before after talk new answer want steps bytes written s is other feeds fits made came took plain onward rose same early within =
      fed first before after talk talk new answer steps bytes written s s.stands refl refl other feeds (subst (λ (x : Wanted). Fits answer x) (sym is) fits)
      (subst (λ (x : Wanted). Made (Some own) answer x steps) (sym is) made) came (ap (taken_of answer) is ∙ took) onward rose
      (subst (λ (H : List Entry). HasAll H (tokens new)) (sym same)
      (subst (λ (ts : List Token). HasAll (past before.world.hub) ts) (sym (plain_tokens talk new answer feeds.keeps plain)) s.has)) early within

  -- no step was made
  still_early : (first : Outside N C) (talk : Talk) (before : Outside N C) (m : ℕ) → (s : Serving gives tells own first talk before) → before.world.time.moment ≡ m → ends_early (s.steps ++ []) ≡ true → m < last_moment
  still_early first talk before m s same e =
      subst (λ (x : ℕ). x < last_moment) same (s.early (subst (λ (xs : List Step). ends_early xs ≡ true) (append-nil s.steps) e))

  pub read_turn : (laws : WantLaws) (talk new : Talk) (want : Want) (most : ℕ) (answer : Answer) (w : World N C) (l m : LinkView) →
      HandsOut talk want → want ≡ wants.Read most → DoesLink answer (piece most) l (bytes_in answer) [] m → Feeds talk answer new →
      Turned gives tells own talk (outside_of w l) None new (outside_of w m)
  read_turn laws talk new want most answer w l m hands is does feeds = λ first s. by_want first s (subst (λ (y : Want). Shows y s.want) is (shown first talk (outside_of w l) want s hands))
    where
      adds : Adds (Some own) answer (to_read most) (bytes_in answer) []
      adds = read_adds (Some own) answer most does.fits

      by_want : (first : Outside N C) (s : Serving gives tells own first talk (outside_of w l)) → s.want ≡ to_read most → Serving gives tells own first new (outside_of w m)
      by_want first s e =
          let room = laws.reads talk (Some own) most s.bytes s.steps s.written (stands_as first talk (outside_of w l) (to_read most) s e) in
          plain_fed first (outside_of w l) (outside_of w m) talk new answer (to_read most) [] (bytes_in answer) [] s e (read_none answer most does.fits) feeds
          adds.fits adds.made adds.bytes_are adds.taken_are adds.plain (onward_link gives tells w l m (bytes_in answer) [] does.moved) does.rose refl
          (still_early first talk (outside_of w l) w.time.moment s refl)
          (omega (arith, length-append s.bytes (bytes_in answer), room, few_bytes answer most does.fits))

  pub write_turn : (talk new : Talk) (want : Want) (bytes : Bor (List ℕ)) (answer : Answer) (w : World N C) (l m : LinkView) →
      HandsOut talk want → want ≡ wants.Write bytes → DoesLink answer (count (length bytes.now)) l [] (taken_of answer (to_write bytes.now)) m → Feeds talk answer new →
      Turned gives tells own talk (outside_of w l) None new (outside_of w m)
  write_turn talk new want bytes answer w l m hands is does feeds = λ first s.
      let adds = write_adds (Some own) answer bytes.now does.fits in
      plain_fed first (outside_of w l) (outside_of w m) talk new answer (to_write bytes.now) [] [] (taken_of answer (to_write bytes.now)) s
      (subst (λ (y : Want). Shows y s.want) is (shown first talk (outside_of w l) want s hands)) (write_none answer (length bytes.now) does.fits) feeds
      adds.fits adds.made adds.bytes_are adds.taken_are adds.plain (onward_link gives tells w l m [] (taken_of answer (to_write bytes.now)) does.moved) does.rose refl
      (still_early first talk (outside_of w l) w.time.moment s refl) (none_more s.bytes s.within)

  -- ---- what goes before a request

  pub begun_turn : (laws : CallLaws) (talk new : Talk) (want : Want) (v w : World N C) (l : LinkView) → HandsOut talk want → want ≡ wants.Begin → WentBy gives tells (Begins own) v w →
      Feeds talk told.Begun new → Turned gives tells own talk (outside_of v l) None new (outside_of w l)
  begun_turn laws talk new want v w l hands is way feeds = λ first s. by_want first s (subst (λ (y : Want). Shows y s.want) is (shown first talk (outside_of v l) want s hands))
    where
      by_want : (first : Outside N C) (s : Serving gives tells own first talk (outside_of v l)) → s.want ≡ to_begin → Serving gives tells own first new (outside_of w l)
      by_want first s e =
          let none = laws.none_held talk (Some own) to_begin s.bytes s.steps s.written (stands_as first talk (outside_of v l) to_begin s e) in
          fed first (outside_of v l) (outside_of w l) talk talk new told.Begun way.steps [] [] s s.stands refl refl begun_none feeds (subst (λ (x : Wanted). Fits told.Begun x) (sym e) tt)
          (subst (λ (x : Wanted). Made (Some own) told.Begun x way.steps) (sym e) way.are) refl (ap (taken_of told.Begun) e)
          (onward_world gives tells v w l way.steps way.went) refl
          (subst (λ (ts : List Token). HasAll (past w.hub) ts) (sym (feeds.keeps.0 refl ∙ none)) tt)
          (λ h. absurd (never (sym (last_late false s.steps way.steps (λ b. begins_late own b way.steps way.are)) ∙ h)))
          (none_more s.bytes s.within)

  -- for want of memory there it is over
  pub lacks_turn : (talk later : Talk) (want : Want) (v w : World N C) (l : LinkView) → HandsOut talk want → want ≡ wants.Begin →
      WentBy gives tells (BeginLacks own) v w → Turned gives tells own talk (outside_of v l) (Some (Err faults.Memory)) later (outside_of w l)
  lacks_turn talk later want v w l hands is way = λ first s.
      let e = subst (λ (y : Want). Shows y s.want) is (shown first talk (outside_of v l) want s hands) in
      let onward = onward_more gives tells first (outside_of v l) (outside_of w l) s.bytes [] s.steps way.steps s.written [] s.onward (onward_world gives tells v w l way.steps way.went) in (
        record {
          bytes = s.bytes;
          steps = s.steps ++ way.steps;
          written = s.written;
          finished = says first talk (outside_of v l) want to_begin s hands e way.steps way.are;
          onward = subst (λ (xs : List ℕ). Onward gives tells first xs (s.steps ++ way.steps) s.written (outside_of w l)) (append-nil s.bytes)
              (subst (λ (xs : List ℕ). Onward gives tells first (s.bytes ++ []) (s.steps ++ way.steps) xs (outside_of w l)) (append-nil s.written) onward);
          within = s.within;
        },
        subst (λ (c : Cause). RoseFor c first.link l) (hands.unblamed is) s.caused,
      )

  -- ---- nodes and pauses

  pub node_turn : (talk new : Talk) (want : Want) (address : List ℕ) (request : NodeRequest) (came : Came) (h : HubView) (n n' : N) (m : C) (time : ClockView) (l : LinkView) →
      HandsOut talk want → want ≡ wants.Node address request → Feeds talk (told.Node came) new → gives n address (ask_of request) came n' →
      Turned gives tells own talk (outside_of (world_of h n m time) l) None new (outside_of (world_of h n' m time) l)
  node_turn talk new want address request came h n n' m time l hands is feeds gave = λ first s.
      plain_fed first (outside_of (world_of h n m time) l) (outside_of (world_of h n' m time) l) talk new (told.Node came) (to_ask address (ask_of request))
      (Exchanged address (ask_of request) came ∷ []) [] [] s
      (subst (λ (y : Want). Shows y s.want) is (shown first talk (outside_of (world_of h n m time) l) want s hands)) (node_none came) feeds tt refl refl refl (refl, refl)
      (onward_world gives tells (world_of h n m time) (world_of h n' m time) l (Exchanged address (ask_of request) came ∷ [])
      (went_exchange gives tells h n n' address (ask_of request) came m time gave)) refl refl
      (λ e. absurd (never (sym (one_last false s.steps (Exchanged address (ask_of request) came)) ∙ e))) (none_more s.bytes s.within)

  pub pause_turn : (talk new : Talk) (want : Want) (ms : ℕ) (h : HubView) (n : N) (m m' : C) (time time' : ClockView) (l : LinkView) →
      HandsOut talk want → want ≡ wants.Pause ms → Feeds talk told.Paused new → PausesFor tells ms m m' time time' →
      Turned gives tells own talk (outside_of (world_of h n m time) l) None new (outside_of (world_of h n m' time') l)
  pause_turn talk new want ms h n m m' time time' l hands is feeds pauses = λ first s.
      plain_fed first (outside_of (world_of h n m time) l) (outside_of (world_of h n m' time') l) talk new told.Paused (to_pause ms) (Paused ms ∷ []) [] [] s
      (subst (λ (y : Want). Shows y s.want) is (shown first talk (outside_of (world_of h n m time) l) want s hands)) pause_none feeds tt refl refl refl (refl, refl)
      (onward_world gives tells (world_of h n m time) (world_of h n m' time') l (Paused ms ∷ []) (went_pause gives tells h n ms m m' time time' pauses)) refl refl
      (λ e. absurd (never (sym (one_last false s.steps (Paused ms)) ∙ e))) (none_more s.bytes s.within)

  -- ---- a call

  -- the hub may be asked
  pub rightful : (first : Outside N C) (talk mid : Talk) (o : Outside N C) (call : HubCall) → CallLaws → Serving gives tells own first talk o → Takes talk call mid → MayMake (past o.world.hub) (call_of call)
  rightful first talk mid o call laws s takes =
      let is = (takes.stands (Some own) s.want s.bytes s.steps s.written s.stands).0 in
      let stands = subst (λ (x : Wanted). Stands talk (Some own) x s.bytes s.steps s.written) is s.stands in
      let has = subst (λ (ts : List Token). HasAll (past o.world.hub) ts) takes.keeps s.has in
      may_make (past o.world.hub) (call_of call) (has_left (past o.world.hub) (call_tokens (call_of call)) (tokens mid) has)
      (laws.rightful talk (Some own) (call_of call) s.bytes s.steps s.written stands)
      (stays_with call (leaves talk) (λ t e. takes.withdraws (Some own) s.want s.bytes s.steps s.written t s.stands e) s.stays)

-- the step of a call that was not spent
step_is : (answer : HubAnswer) (call : Call) (at : ℕ) → is_spent answer ≡ false → call_step answer call at ≡ Called call at (reply_of answer)
step_is (answers.Spent s) call at e = absurd cc
step_is answer call at e = refl

polls_newest : (H : List Entry) (call : Call) → HasAll H (call_tokens call) → PollsNewest H call
polls_newest H (Call.poll t) has = has.0.2
polls_newest H (Call.register node) has = tt
polls_newest H (Call.beat node name) has = tt
polls_newest H (Call.drain node) has = tt
polls_newest H (Call.remove node) has = tt
polls_newest H (Call.enqueue choices) has = tt
polls_newest H (Call.withdraw t) has = tt
polls_newest H Call.dispatch has = tt
polls_newest H (Call.bind r session caps) has = tt
polls_newest H (Call.fail r why) has = tt
polls_newest H (Call.lookup session) has = tt
polls_newest H (Call.touch session number) has = tt
polls_newest H (Call.end session number) has = tt
polls_newest H (Call.freed c) has = tt
polls_newest H Call.sweep has = tt
polls_newest H Call.expire has = tt
polls_newest H Call.clear has = tt
polls_newest H Call.view has = tt

module _ {N C : Type 0} (gives : N → List ℕ → Ask → Came → N → Type 0) (tells : C → Tick → ℕ → C → Type 0) (own : List ℕ) (laws : CallLaws) (want_laws : WantLaws) (newest : CallsKeepNewest) (starts : StartsRunOut)
    (early : PollsAreEarly) (moments : DeadlinesAreMoments) where
  -- where a request is queued nothing is held
  none_at_enqueue : (talk mid : Talk) (call : HubCall) (bytes : List ℕ) (steps : List Step) (written : List ℕ) → Takes talk call mid →
      Stands talk (Some own) (to_call (call_of call)) bytes steps written → is_enqueue (call_of call) ≡ true → tokens mid ≡ []
  none_at_enqueue talk mid call bytes steps written takes stands e = by_call (call_of call) stands e takes.keeps
    where
      by_call : (k : Call) → Stands talk (Some own) (to_call k) bytes steps written → is_enqueue k ≡ true → tokens talk ≡ call_tokens k ++ tokens mid → tokens mid ≡ []
      by_call (Call.enqueue choices) st e keeps = sym keeps ∙ want_laws.enqueues talk (Some own) choices bytes steps written st
      by_call k st e keeps = absurd cc

  pub hub_turn : (talk mid new : Talk) (call : HubCall) (answer : HubAnswer) (at : ℕ) (h k : HubView) (n : N) (m m' : C) (time time' : ClockView) (l : LinkView) →
      legal h.config (past h) ≡ true → at ≡ time'.moment → Takes talk call mid → calls.Made h (call_of call) at answer k → Feeds mid (told.Hub answer) new → Ticks tells m at m' time time' →
      Turned gives tells own talk (outside_of (world_of h n m time) l) None new (outside_of (world_of k n m' time') l)
  hub_turn talk mid new call answer at h k n m m' time time' l is_legal is_now takes made feeds ticks = λ first s.
      let t = takes.stands (Some own) s.want s.bytes s.steps s.written s.stands in
      let stands = subst (λ (x : Wanted). Stands talk (Some own) x s.bytes s.steps s.written) t.0 s.stands in
      let all = subst (λ (ts : List Token). HasAll (past h) ts) takes.keeps s.has in
      let is_step = step_is answer (call_of call) at made.unspent in
      fed gives tells own first (outside_of (world_of h n m time) l) (outside_of (world_of k n m' time') l) talk mid new (told.Hub answer) (call_step answer (call_of call) at ∷ []) [] [] s t.1
      takes.blames takes.leaves_so (hub_none answer) feeds
      (subst (λ (x : Wanted). Fits (told.Hub answer) x) (sym t.0) (made.fits, made.keeps))
      (subst (λ (x : Wanted). Made (Some own) (told.Hub answer) x (call_step answer (call_of call) at ∷ [])) (sym t.0) (at, refl)) refl
      (ap (taken_of (told.Hub answer)) t.0)
      (onward_world gives tells (world_of h n m time) (world_of k n m' time') l (call_step answer (call_of call) at ∷ [])
      (subst (λ (step : Step). Went gives tells (world_of h n m time) (step ∷ []) (world_of k n m' time')) (sym is_step)
      (went_call gives tells h k n (call_of call) at (reply_of answer) m m' time time' (record { config = made.serves.config; answers = made.serves.answers }) ticks))) refl
      (subst (λ (ts : List Token). HasAll (past k) ts) (sym (feeds.keeps.0 made.unspent))
      (held_after newest starts early h k at is_legal (call_of call) answer (tokens mid) (rightful gives tells own first talk mid (outside_of (world_of h n m time) l) call laws s takes) made (has_left (past h) (call_tokens (call_of call)) (tokens mid) all)
      (has_right (past h) (call_tokens (call_of call)) (tokens mid) all)
      (laws.left_beside talk (Some own) (call_of call) s.bytes s.steps s.written (tokens mid) stands takes.keeps)
      (none_at_enqueue talk mid call s.bytes s.steps s.written takes stands)))
      (λ e. subst (λ (x : ℕ). x < last_moment) is_now
      (early_ahead newest starts early moments h.config (past h) at time.moment time'.moment (omega (arith, ticks.later, ticks.before)) is_legal (call_of call) (reply_of answer) (past k)
      (rightful gives tells own first talk mid (outside_of (world_of h n m time) l) call laws s takes) made.serves.answers
      (sym (ap is_early_call is_step) ∙ (sym (one_last false s.steps (call_step answer (call_of call) at)) ∙ e))))
      (none_more gives tells own s.bytes s.within)

  -- ---- less is left

  pub hub_less : (first : Outside N C) (talk mid new : Talk) (call : HubCall) (answer : HubAnswer) (at : ℕ) (h k : HubView) (n : N) (m m' : C) (time time' : ClockView) (l : LinkView) →
      Serving gives tells own first talk (outside_of (world_of h n m time) l) → legal h.config (past h) ≡ true → legal k.config (past k) ≡ true → Takes talk call mid →
      calls.Made h (call_of call) at answer k → Feeds mid (told.Hub answer) new → Ticks tells m at m' time time' →
      work new (outlook (past k) time'.moment) < work talk (outlook (past h) time.moment)
  hub_less first talk mid new call answer at h k n m m' time time' l s is_legal legal_after takes made feeds ticks =
      let all = subst (λ (ts : List Token). HasAll (past h) ts) takes.keeps s.has in
      let has = has_left (past h) (call_tokens (call_of call)) (tokens mid) all in
      let forward : time.moment ≤ time'.moment = omega (arith, ticks.later, ticks.before) in
      let after = subst (λ (c : HubConfig). legal c (past k) ≡ true) made.serves.config legal_after in
      let lowers = hub_lowers newest starts early moments h.config (past h) at time.moment time'.moment forward is_legal (call_of call) answer (past k) after
      (rightful gives tells own first talk mid (outside_of (world_of h n m time) l) call laws s takes) made.fits
      (polls_newest (past h) (call_of call) has) made.serves.answers in
      subst (λ (x : ℕ). work new (outlook (past k) time'.moment) < x) (takes.work_is (outlook (past h) time.moment))
      (feeds.less (outlook (past h) time.moment) (outlook (past k) time'.moment) lowers)

-- ---- less is left after the others

module _ {N C : Type 0} (gives : N → List ℕ → Ask → Came → N → Type 0) (tells : C → Tick → ℕ → C → Type 0) (own : List ℕ) where
  pub read_less : (talk new : Talk) (most : ℕ) (answer : Answer) (o : Outlook) → IsAwaited answer (piece most) → MovesSome answer → Feeds talk answer new → work new o < work talk o
  read_less talk new most answer o fits some feeds = feeds.less o o (read_lowers answer most o o fits some)

  pub write_less : (first : Outside N C) (talk new : Talk) (want : Want) (bytes : Bor (List ℕ)) (answer : Answer) (o : World N C) (l : LinkView) → Serving gives tells own first talk (outside_of o l) →
      HandsOut talk want → want ≡ wants.Write bytes → IsAwaited answer (count (length bytes.now)) → (0 < length bytes.now → MovesSome answer) → Feeds talk answer new →
      work new (outlook_of o) < work talk (outlook_of o)
  write_less first talk new want bytes answer o l s hands is fits some feeds =
      let there = says gives tells own first talk (outside_of o l) want (to_write bytes.now) s hands
      (subst (λ (y : Want). Shows y s.want) is (shown gives tells own first talk (outside_of o l) want s hands)) in
      feeds.less (outlook_of o) (outlook_of o) (write_lowers answer (length bytes.now) (outlook_of o) (outlook_of o) fits (some there))

  pub begun_less : (talk new : Talk) (before later : Outlook) → Feeds talk told.Begun new → work new later < work talk before
  begun_less talk new before later feeds = feeds.less before later tt

  pub node_less : (talk new : Talk) (came : Came) (o : Outlook) → Feeds talk (told.Node came) new → work new o < work talk o
  node_less talk new came o feeds = feeds.less o o (no_more_same o)

  pub pause_less : (first : Outside N C) (talk new : Talk) (want : Want) (ms : ℕ) (h : HubView) (n : N) (m m' : C) (time time' : ClockView) (l : LinkView) → WantLaws →
      Serving gives tells own first talk (outside_of (world_of h n m time) l) → HandsOut talk want → want ≡ wants.Pause ms → PausesFor tells ms m m' time time' → Feeds talk told.Paused new →
      work new (outlook (past h) time'.moment) < work talk (outlook (past h) time.moment)
  pause_less first talk new want ms h n m m' time time' l laws s hands is pauses feeds =
      let e = subst (λ (y : Want). Shows y s.want) is (shown gives tells own first talk (outside_of (world_of h n m time) l) want s hands) in
      let told_so = laws.pauses talk (Some own) ms s.bytes s.steps s.written (stands_as gives tells own first talk (outside_of (world_of h n m time) l) (to_pause ms) s e) in
      feeds.less (outlook (past h) time.moment) (outlook (past h) time'.moment) (pause_lowers (past h) ms time.moment time'.moment told_so.0 (s.early told_so.1) pauses.long_enough)

  -- ---- the end

  pub over_turn : (talk later : Talk) (want : Want) (result : Result Served ConnFault) (o : Outside N C) → HandsOut talk want → want ≡ wants.Done result → result_cause result ≡ blamed talk →
      Turned gives tells own talk o (Some result) later o
  over_turn talk later want result o hands is blames = λ first s.
      let e : s.want ≡ over result = subst (λ (y : Want). Shows y s.want) is (shown gives tells own first talk o want s hands) in (
        record { bytes = s.bytes; steps = s.steps; written = s.written; finished = says gives tells own first talk o want (over result) s hands e; onward = s.onward; within = s.within },
        subst (λ (c : Cause). RoseFor c first.link o.link) (sym blames) s.caused,
      )
