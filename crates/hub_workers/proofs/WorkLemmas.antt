-- The turns of workers and of tickers.
use Rattle.std.proofs.Common.{◌≡◌, inl, inr, ℕ, ◌+◌, ◌<◌, Bool, true, false, List, [], ◌∷◌, ◌++◌, refl, sym, ap, subst, ◌∙◌, arith}
use Rattle.std.specs.Prelude.{Option, None, Some}
use Rattle.grid_types.specs.Tokens.{Reservation, Closing}
use Rattle.grid_types.specs.Calls.{Call, Reply}
use Rattle.grid_outside.specs.Told.{ClockView, Tick}
use Rattle.grid_outside.specs.declared.exchange.Ask.{Ask}
use Rattle.grid_outside.specs.Exchanges.{Came}
use Rattle.grid_types.specs.declared.spent.Spent as spent
use Rattle.hub_cell.specs.declared.hub.SharedHub.{SharedHub}
use Rattle.hub_cell.specs.Passes.{IsSpent, config_of}
use Rattle.hub_cell.specs.Shared.{LooksOnce, SharedServes}
use Rattle.node_client.specs.ClockSteps.{PausesFor, Ticks}
use Rattle.node_client.specs.Asks.{quit_ask}
use Rattle.node_client.specs.declared.wants.CarryEnd.{CarryEnd}
use Rattle.node_client.specs.Steps.{Step, Called, Spent, Exchanged, Paused, spent_looks}
use Rattle.node_client.specs.Runs.{Exchanges}
use Rattle.hub_workers.specs.Carried.{CarriedOff, CarriedOut}
use Rattle.node_client.specs.Quitting.{AsksOnce, AsksToEnd, asked, not_asked}
use Rattle.hub_workers.specs.Turns.{AfterSweep, AfterSweepSpent, AllEnd, AsksAndFrees, AsksAndStops, EndsIdle, EndsSo, Finishes, IdleSpent, Looked, LookedAll, StopsBefore, TickerSpent, TickerTurn, Turns, OneTurn, WentBy, Worked, WorkerSpent, WorkerTurn, dispatch_lacks, dispatch_spent, ends_idle, expire_spent, finds_nothing, freed_spent, later_spent, look_spent, looks_lack, no_turn, none_yet, one_more, one_turn_more, ends_with_pause, spent_after, start_spent, starts, sweep_lacks, sweep_spent, swept, ticker_pause, worker_pause}
use Rattle.hub_workers.specs.World.{AnswersAt, Knowledge, Went, World, world_of}
use Rattle.hub_workers.specs.declared.ends.WorkerEnd.{WorkerEnd}
use Rattle.hub_workers.specs.declared.ends.WorkerEnd.TheVariants as ends
use Rattle.hub_workers.specs.declared.ticking.Idle.{Idle}
use Rattle.hub_workers.specs.declared.ticking.Idle.TheVariants as idle
use Rattle.hub_workers.specs.WorldLaws.{answered_spent, went_call, went_exchange, went_more, went_none, went_pause, went_spent}
use Rattle.hub_workers.proofs.LookLemmas.{looks-both, spent_start_looks, start_looks}

module _ {N C : Type 0} (hub : SharedHub) (gives : N → List ℕ → Ask → Came → N → Type 0) (tells : C → Tick → ℕ → C → Type 0) where
  -- ---- workers

  pub assigned_turn : (v w : Knowledge) (n : N) (at : ℕ) (m m' : C) (time time' : ClockView) (r : Reservation) (e : CarryEnd) (x : World N C) →
      SharedServes (config_of hub) v Call.dispatch at (Some (Reply.assigned r)) w → Ticks tells m at m' time time' → CarriedOut hub gives tells r (world_of w n m' time') e x →
      WentBy hub gives tells WorkerTurn (world_of v n m time) x
  assigned_turn v w n at m m' time time' r e x serves ticks carried = record {
    steps = Called Call.dispatch at (Some (Reply.assigned r)) ∷ carried.steps;
    are = starts at r carried.start;
    went = went_more hub gives tells (world_of v n m time) (world_of w n m' time') x (Called Call.dispatch at (Some (Reply.assigned r)) ∷ []) carried.steps
        (went_call hub gives tells v w n Call.dispatch at (Some (Reply.assigned r)) m m' time time' (inl serves) ticks) carried.went;
  }

  pub assigned_spent : (v w : Knowledge) (n : N) (at : ℕ) (m m' : C) (time time' : ClockView) (r : Reservation) (x : World N C) →
      SharedServes (config_of hub) v Call.dispatch at (Some (Reply.assigned r)) w → Ticks tells m at m' time time' → CarriedOff hub gives tells r (world_of w n m' time') x →
      WentBy hub gives tells WorkerSpent (world_of v n m time) x
  assigned_spent v w n at m m' time time' r x serves ticks carried = record {
    steps = Called Call.dispatch at (Some (Reply.assigned r)) ∷ carried.steps;
    are = start_spent at r carried.start;
    went = went_more hub gives tells (world_of v n m time) (world_of w n m' time') x (Called Call.dispatch at (Some (Reply.assigned r)) ∷ []) carried.steps
        (went_call hub gives tells v w n Call.dispatch at (Some (Reply.assigned r)) m m' time time' (inl serves) ticks) carried.went;
  }

  call_and_pause : (v w : Knowledge) (n : N) (call : Call) (at : ℕ) (reply : Option Reply) (ms : ℕ) (m m' k : C) (time time' told : ClockView) →
      AnswersAt hub v call at reply w → Ticks tells m at m' time time' → PausesFor tells ms m' k time' told →
      Went hub gives tells (world_of v n m time) (Called call at reply ∷ Paused ms ∷ []) (world_of w n k told)
  call_and_pause v w n call at reply ms m m' k time time' told serves ticks p =
      went_more hub gives tells (world_of v n m time) (world_of w n m' time') (world_of w n k told) (Called call at reply ∷ []) (Paused ms ∷ [])
      (went_call hub gives tells v w n call at reply m m' time time' serves ticks) (went_pause hub gives tells w n ms m' k time' told p)

  pub nothing_turn : (v w : Knowledge) (n : N) (at : ℕ) (m m' k : C) (time time' told : ClockView) →
      SharedServes (config_of hub) v Call.dispatch at (Some Reply.nothing) w → Ticks tells m at m' time time' → PausesFor tells worker_pause m' k time' told →
      WentBy hub gives tells WorkerTurn (world_of v n m time) (world_of w n k told)
  nothing_turn v w n at m m' k time time' told serves ticks p = record {
    steps = Called Call.dispatch at (Some Reply.nothing) ∷ Paused worker_pause ∷ [];
    are = finds_nothing at;
    went = call_and_pause v w n Call.dispatch at (Some Reply.nothing) worker_pause m m' k time time' told (inl serves) ticks p;
  }

  pub lacking_turn : (v w : Knowledge) (n : N) (at : ℕ) (m m' k : C) (time time' told : ClockView) →
      SharedServes (config_of hub) v Call.dispatch at None w → Ticks tells m at m' time time' → PausesFor tells worker_pause m' k time' told →
      WentBy hub gives tells WorkerTurn (world_of v n m time) (world_of w n k told)
  lacking_turn v w n at m m' k time time' told serves ticks p = record {
    steps = Called Call.dispatch at None ∷ Paused worker_pause ∷ [];
    are = dispatch_lacks at;
    went = call_and_pause v w n Call.dispatch at None worker_pause m m' k time time' told (inl serves) ticks p;
  }

  -- a call that found the hub spent
  pub one_spent : (IsSo : List Step → Type 0) (v w : Knowledge) (n : N) (call : Call) (at : ℕ) (s : spent.Spent) (m m' : C) (time time' : ClockView) →
      IsSo (Spent call at ∷ []) → IsSpent hub v s w → Ticks tells m at m' time time' → WentBy hub gives tells IsSo (world_of v n m time) (world_of w n m' time')
  one_spent IsSo v w n call at s m m' time time' so is ticks =
      record { steps = Spent call at ∷ []; are = so; went = went_spent hub gives tells v w n call at s m m' time time' is ticks }

  -- ---- idle sessions

  went_asks : (c : Closing) (sent : Bool) (v : Knowledge) (n n' : N) (m : C) (time : ClockView) (steps : List Step) → AsksToEnd c sent steps → Exchanges gives n steps n' →
      Went hub gives tells (world_of v n m time) steps (world_of v n' m time)
  unfolding Exchanges
  went_asks c _ v n n' m time _ (asked came q) e =
      subst (λ (k : N). Went hub gives tells (world_of v n m time) (Exchanged c.address (quit_ask c.session) came ∷ []) (world_of v k m time)) (sym e.2)
      (went_exchange hub gives tells v n e.0 c.address (quit_ask c.session) came m time e.1)
  went_asks c _ v n n' m time _ (not_asked q) e =
      subst (λ (k : N). Went hub gives tells (world_of v n m time) [] (world_of v k m time)) (sym e) (went_none hub gives tells (world_of v n m time))

  pub finished_so : (c : Closing) (sent : Bool) (v w : Knowledge) (n n' : N) (at : ℕ) (m m' : C) (time time' : ClockView) →
      AsksOnce gives c n sent n' → SharedServes (config_of hub) v (Call.freed c) at (Some Reply.is_freed) w → Ticks tells m at m' time time' →
      WentBy hub gives tells (AsksAndFrees c sent) (world_of v n m time) (world_of w n' m' time')
  finished_so c sent v w n n' at m m' time time' asks serves ticks = record {
    steps = asks.0 ++ Called (Call.freed c) at (Some Reply.is_freed) ∷ [];
    are = record { own = asks.0; at = at; asks = asks.1; steps_are = refl };
    went = went_more hub gives tells (world_of v n m time) (world_of v n' m time) (world_of w n' m' time') asks.0 (Called (Call.freed c) at (Some Reply.is_freed) ∷ [])
        (went_asks c sent v n n' m time asks.0 asks.1 asks.2) (went_call hub gives tells v w n' (Call.freed c) at (Some Reply.is_freed) m m' time time' (inl serves) ticks);
  }

  pub stopped_so : (c : Closing) (sent : Bool) (s : spent.Spent) (v w : Knowledge) (n n' : N) (at : ℕ) (m m' : C) (time time' : ClockView) →
      AsksOnce gives c n sent n' → IsSpent hub v s w → Ticks tells m at m' time time' →
      WentBy hub gives tells (AsksAndStops c) (world_of v n m time) (world_of w n' m' time')
  stopped_so c sent s v w n n' at m m' time time' asks is ticks = record {
    steps = asks.0 ++ Spent (Call.freed c) at ∷ [];
    are = record { sent = sent; own = asks.0; at = at; asks = asks.1; steps_are = refl };
    went = went_more hub gives tells (world_of v n m time) (world_of v n' m time) (world_of w n' m' time') asks.0 (Spent (Call.freed c) at ∷ [])
        (went_asks c sent v n n' m time asks.0 asks.1 asks.2) (went_spent hub gives tells v w n' (Call.freed c) at s m m' time time' is ticks);
  }

  pub looked_expired : (found : Idle) (v w : Knowledge) (n : N) (at : ℕ) (m m' : C) (time time' : ClockView) (c : Closing) (x : World N C) →
      SharedServes (config_of hub) v Call.expire at (Some (Reply.expired c)) w → Ticks tells m at m' time time' → WentBy hub gives tells (Finishes c found) (world_of w n m' time') x →
      WentBy hub gives tells (Looked found) (world_of v n m time) x
  looked_expired found v w n at m m' time time' c x serves ticks finishes = record {
    steps = Called Call.expire at (Some (Reply.expired c)) ∷ finishes.steps;
    are = by_found found finishes.steps finishes.are;
    went = went_more hub gives tells (world_of v n m time) (world_of w n m' time') x (Called Call.expire at (Some (Reply.expired c)) ∷ []) finishes.steps
        (went_call hub gives tells v w n Call.expire at (Some (Reply.expired c)) m m' time time' (inl serves) ticks) finishes.went;
  }
    where
      by_found : (f : Idle) (own : List Step) → Finishes c f own → Looked f (Called Call.expire at (Some (Reply.expired c)) ∷ own)
      by_found idle.Ended own h = ends_idle at c h
      by_found idle.Over own h = absurd h
      by_found idle.Lacks own h = inr (ends_idle at c h)
      by_found (idle.Spent s) own h = freed_spent at c h

  pub looked_over : (v w : Knowledge) (n : N) (at : ℕ) (m m' : C) (time time' : ClockView) →
      SharedServes (config_of hub) v Call.expire at (Some Reply.nothing) w → Ticks tells m at m' time time' →
      WentBy hub gives tells (Looked idle.Over) (world_of v n m time) (world_of w n m' time')
  looked_over v w n at m m' time time' serves ticks = record {
    steps = Called Call.expire at (Some Reply.nothing) ∷ [];
    are = (at, refl);
    went = went_call hub gives tells v w n Call.expire at (Some Reply.nothing) m m' time time' (inl serves) ticks;
  }

  pub looked_lacks : (v w : Knowledge) (n : N) (at : ℕ) (m m' : C) (time time' : ClockView) → LooksOnce v w → Ticks tells m at m' time time' →
      WentBy hub gives tells (Looked idle.Lacks) (world_of v n m time) (world_of w n m' time')
  looked_lacks v w n at m m' time time' looks ticks = record {
    steps = Called Call.expire at None ∷ [];
    are = inl (at, refl);
    went = went_call hub gives tells v w n Call.expire at None m m' time time' (inr (refl, looks)) ticks;
  }

  pub all_none : (w : World N C) → WentBy hub gives tells AllEnd w w
  all_none w = record { steps = []; are = none_yet; went = went_none hub gives tells w }

  pub all_more : (u v w : World N C) → WentBy hub gives tells AllEnd u v → WentBy hub gives tells (Looked idle.Ended) v w → WentBy hub gives tells AllEnd u w
  all_more u v w p q = record { steps = p.steps ++ q.steps; are = one_more p.are q.are; went = went_more hub gives tells u v w p.steps q.steps p.went q.went }

  pub all_last : (u v w : World N C) (found : Idle) → WentBy hub gives tells AllEnd u v → WentBy hub gives tells (Looked found) v w → WentBy hub gives tells (LookedAll found) u w
  all_last u v w found p q = record {
    steps = p.steps ++ q.steps;
    are = record { done = p.steps; own = q.steps; ended = p.are; last = q.are; steps_are = refl };
    went = went_more hub gives tells u v w p.steps q.steps p.went q.went;
  }

  -- ---- tickers

  pub paused_after : (u : World N C) (w : Knowledge) (n : N) (m m' : C) (time time' : ClockView) → WentBy hub gives tells (LookedAll idle.Over) u (world_of w n m time) →
      PausesFor tells ticker_pause m m' time time' → WentBy hub gives tells AfterSweep u (world_of w n m' time')
  paused_after u w n m m' time time' p q = record {
    steps = p.steps ++ Paused ticker_pause ∷ [];
    are = ends_with_pause p.are;
    went = went_more hub gives tells u (world_of w n m time) (world_of w n m' time') p.steps (Paused ticker_pause ∷ []) p.went (went_pause hub gives tells w n ticker_pause m m' time time' q);
  }

  pub lacks_after : (u w : World N C) → WentBy hub gives tells (LookedAll idle.Lacks) u w → WentBy hub gives tells AfterSweep u w
  lacks_after u w p = record { steps = p.steps; are = looks_lack p.are; went = p.went }

  pub spent_later : (u w : World N C) (s : spent.Spent) → WentBy hub gives tells (LookedAll (idle.Spent s)) u w → WentBy hub gives tells AfterSweepSpent u w
  spent_later u w s p = record { steps = p.steps; are = look_spent s p.are; went = p.went }

  pub swept_turn : (result : Option spent.Spent) (v w : Knowledge) (n : N) (at : ℕ) (m m' : C) (time time' : ClockView) (reply : Reply) (x : World N C) →
      SharedServes (config_of hub) v Call.sweep at (Some reply) w → Ticks tells m at m' time time' → OneTurn hub gives tells AfterSweep AfterSweepSpent (world_of w n m' time') result x →
      OneTurn hub gives tells TickerTurn TickerSpent (world_of v n m time) result x
  swept_turn None v w n at m m' time time' reply x serves ticks p = record {
    steps = Called Call.sweep at (Some reply) ∷ p.steps;
    are = swept at reply p.are;
    went = went_more hub gives tells (world_of v n m time) (world_of w n m' time') x (Called Call.sweep at (Some reply) ∷ []) p.steps
        (went_call hub gives tells v w n Call.sweep at (Some reply) m m' time time' (inl serves) ticks) p.went;
  }
  swept_turn (Some s) v w n at m m' time time' reply x serves ticks p = record {
    steps = Called Call.sweep at (Some reply) ∷ p.steps;
    are = later_spent at reply p.are;
    went = went_more hub gives tells (world_of v n m time) (world_of w n m' time') x (Called Call.sweep at (Some reply) ∷ []) p.steps
        (went_call hub gives tells v w n Call.sweep at (Some reply) m m' time time' (inl serves) ticks) p.went;
  }

  pub swept_none : (v w : Knowledge) (n : N) (at : ℕ) (m m' : C) (time time' : ClockView) → LooksOnce v w → Ticks tells m at m' time time' →
      WentBy hub gives tells TickerTurn (world_of v n m time) (world_of w n m' time')
  swept_none v w n at m m' time time' looks ticks = record {
    steps = Called Call.sweep at None ∷ [];
    are = sweep_lacks at;
    went = went_call hub gives tells v w n Call.sweep at None m m' time time' (inr (refl, looks)) ticks;
  }

  -- ---- turns one after the other

  pub turns_none : (IsTurn : List Step → Type 0) (w : World N C) → WentBy hub gives tells (Turns IsTurn 0) w w
  turns_none IsTurn w = record { steps = []; are = no_turn; went = went_none hub gives tells w }

  pub turns_more : (IsTurn : List Step → Type 0) (turns : ℕ) (u v w : World N C) → WentBy hub gives tells (Turns IsTurn turns) u v → WentBy hub gives tells IsTurn v w → WentBy hub gives tells (Turns IsTurn (turns + 1)) u w
  turns_more IsTurn turns u v w p q = record { steps = p.steps ++ q.steps; are = one_turn_more refl p.are q.are; went = went_more hub gives tells u v w p.steps q.steps p.went q.went }

  pub turns_all : (IsTurn : List Step → Type 0) (made turns : ℕ) (u w : World N C) → made ≡ turns → WentBy hub gives tells (Turns IsTurn made) u w → WentBy hub gives tells (Turns IsTurn turns) u w
  turns_all IsTurn made turns u w e p = subst (λ (n : ℕ). WentBy hub gives tells (Turns IsTurn n) u w) e p

  pub turns_stop : (IsTurn IsSpent : List Step → Type 0) (turns made : ℕ) (u v w : World N C) → made < turns → WentBy hub gives tells (Turns IsTurn made) u v → WentBy hub gives tells IsSpent v w →
      WentBy hub gives tells (StopsBefore IsTurn IsSpent turns) u w
  turns_stop IsTurn IsSpent turns made u v w lt p q = record {
    steps = p.steps ++ q.steps;
    are = record { made = made; done = p.steps; own = q.steps; fewer = lt; turned = p.are; stopped = q.are; steps_are = refl };
    went = went_more hub gives tells u v w p.steps q.steps p.went q.went;
  }

-- ---- how often they find the hub spent

turns_looks : (IsTurn : List Step → Type 0) → ((steps : List Step) → IsTurn steps → spent_looks steps ≡ 0) → (turns : ℕ) (steps : List Step) → Turns IsTurn turns steps → spent_looks steps ≡ 0
turns_looks IsTurn none _ _ no_turn = refl
turns_looks IsTurn none _ _ (one_turn_more {turns} {more} {done} {own} e before last) = looks-both done own 0 0 (turns_looks IsTurn none turns done before) (none own last)

worker_turn_looks : (steps : List Step) → WorkerTurn steps → spent_looks steps ≡ 0
worker_turn_looks _ (starts {own} at r start) = start_looks r own start
worker_turn_looks _ (finds_nothing at) = refl
worker_turn_looks _ (dispatch_lacks at) = refl

worker_spent_looks : (steps : List Step) → WorkerSpent steps → spent_looks steps ≡ 1
worker_spent_looks _ (dispatch_spent at) = omega arith
worker_spent_looks _ (start_spent {own} at r start) = spent_start_looks r own start

asks_looks : (c : Closing) (sent : Bool) (steps : List Step) → AsksToEnd c sent steps → spent_looks steps ≡ 0
asks_looks c _ _ (asked came q) = refl
asks_looks c _ _ (not_asked q) = refl

frees_looks_once : (c : Closing) (sent : Bool) (steps : List Step) → AsksAndFrees c sent steps → spent_looks steps ≡ 0
frees_looks_once c sent steps f = ap spent_looks f.steps_are ∙ looks-both f.own (Called (Call.freed c) f.at (Some Reply.is_freed) ∷ []) 0 0 (asks_looks c sent f.own f.asks) refl

stops_looks : (c : Closing) (steps : List Step) → AsksAndStops c steps → spent_looks steps ≡ 1
stops_looks c steps f = ap spent_looks f.steps_are ∙ looks-both f.own (Spent (Call.freed c) f.at ∷ []) 0 1 (asks_looks c f.sent f.own f.asks) (omega arith)

ends_looks : (sent : Bool) (steps : List Step) → EndsIdle sent steps → spent_looks steps ≡ 0
ends_looks _ _ (ends_idle {sent} {own} at c f) = frees_looks_once c sent own f

all_looks : (steps : List Step) → AllEnd steps → spent_looks steps ≡ 0
all_looks _ none_yet = refl
all_looks _ (one_more {done} {own} before last) = looks-both done own 0 0 (all_looks done before) (ends_looks true own last)

idle_looks : (steps : List Step) → IdleSpent steps → spent_looks steps ≡ 1
idle_looks _ (expire_spent at) = omega arith
idle_looks _ (freed_spent {own} at c f) = stops_looks c own f

over_looks : (steps : List Step) → Looked idle.Over steps → spent_looks steps ≡ 0
over_looks steps h = ap spent_looks h.1

lacks_looks : (steps : List Step) → Looked idle.Lacks steps → spent_looks steps ≡ 0
lacks_looks steps (inl h) = ap spent_looks h.1
lacks_looks steps (inr h) = ends_looks false steps h

looked_all_looks : (found : Idle) (count : ℕ) → ((steps : List Step) → Looked found steps → spent_looks steps ≡ count) → (steps : List Step) → LookedAll found steps → spent_looks steps ≡ count
looked_all_looks found count last steps l = let both = looks-both l.done l.own 0 count (all_looks l.done l.ended) (last l.own l.last) in let same = ap spent_looks l.steps_are in omega (arith, both, same)

after_looks : (steps : List Step) → AfterSweep steps → spent_looks steps ≡ 0
after_looks _ (ends_with_pause {own} l) = looks-both own (Paused ticker_pause ∷ []) 0 0 (looked_all_looks idle.Over 0 over_looks own l) refl
after_looks steps (looks_lack l) = looked_all_looks idle.Lacks 0 lacks_looks steps l

after_spent_looks : (steps : List Step) → AfterSweepSpent steps → spent_looks steps ≡ 1
after_spent_looks steps (look_spent s l) = looked_all_looks (idle.Spent s) 1 idle_looks steps l

ticker_turn_looks : (steps : List Step) → TickerTurn steps → spent_looks steps ≡ 0
ticker_turn_looks _ (swept {own} at reply a) = after_looks own a
ticker_turn_looks _ (sweep_lacks at) = refl

ticker_spent_looks : (steps : List Step) → TickerSpent steps → spent_looks steps ≡ 1
ticker_spent_looks _ (sweep_spent at) = omega arith
ticker_spent_looks _ (later_spent {own} at reply a) = after_spent_looks own a

ends_look : (IsTurn IsSpent : List Step → Type 0) → ((steps : List Step) → IsTurn steps → spent_looks steps ≡ 0) → ((steps : List Step) → IsSpent steps → spent_looks steps ≡ 1) →
    (turns count : ℕ) (end : WorkerEnd) (steps : List Step) → EndsSo IsTurn IsSpent turns end steps → count + spent_looks steps ≡ spent_after count end
ends_look IsTurn IsSpent none one turns count ends.TurnsDone steps e = let all = turns_looks IsTurn none turns steps e in omega (arith, all)
ends_look IsTurn IsSpent none one turns count (ends.Spent s) steps e =
    let both = looks-both e.done e.own 0 1 (turns_looks IsTurn none e.made e.done e.turned) (one e.own e.stopped) in
    let same = ap spent_looks e.steps_are in
    omega (arith, both, same)

worked_count : {N C : Type 0} (hub : SharedHub) (gives : N → List ℕ → Ask → Came → N → Type 0) (tells : C → Tick → ℕ → C → Type 0) (IsTurn IsSpent : List Step → Type 0) →
    ((steps : List Step) → IsTurn steps → spent_looks steps ≡ 0) → ((steps : List Step) → IsSpent steps → spent_looks steps ≡ 1) →
    (turns : ℕ) (u w : World N C) (end : WorkerEnd) → Worked hub gives tells IsTurn IsSpent turns u end w → w.view.spent ≡ spent_after u.view.spent end
worked_count hub gives tells IsTurn IsSpent none one turns u w end k =
    answered_spent hub u.view w.view k.steps k.went.answered ∙ ends_look IsTurn IsSpent none one turns u.view.spent end k.steps k.are

pub worker_count : {N C : Type 0} (hub : SharedHub) (gives : N → List ℕ → Ask → Came → N → Type 0) (tells : C → Tick → ℕ → C → Type 0) (turns : ℕ) (u w : World N C) (end : WorkerEnd) →
    Worked hub gives tells WorkerTurn WorkerSpent turns u end w → w.view.spent ≡ spent_after u.view.spent end
worker_count hub gives tells turns u w end k = worked_count hub gives tells WorkerTurn WorkerSpent worker_turn_looks worker_spent_looks turns u w end k

pub ticker_count : {N C : Type 0} (hub : SharedHub) (gives : N → List ℕ → Ask → Came → N → Type 0) (tells : C → Tick → ℕ → C → Type 0) (turns : ℕ) (u w : World N C) (end : WorkerEnd) →
    Worked hub gives tells TickerTurn TickerSpent turns u end w → w.view.spent ≡ spent_after u.view.spent end
ticker_count hub gives tells turns u w end k = worked_count hub gives tells TickerTurn TickerSpent ticker_turn_looks ticker_spent_looks turns u w end k
