-- One step of a worker that makes its turns step by step.
use Rattle.std.proofs.Common.{◌≡◌, inl, inr, ℕ, ◌<◌, List, [], ◌∷◌, ◌++◌, refl, sym, ap, subst, ◌∙◌, append-nil}
use Rattle.std.specs.Prelude.{Option, Some, None}
use Rattle.grid_types.specs.Tokens.{Reservation}
use Rattle.grid_types.specs.Calls.{Call, Reply}
use Rattle.grid_types.specs.declared.spent.Spent as spent
use Rattle.http_frames.specs.declared.writing.NodeRequest.{NodeRequest}
use Rattle.grid_outside.specs.Told.{ClockView, Tick, later_by}
use Rattle.grid_outside.specs.declared.exchange.Ask.{Ask}
use Rattle.grid_outside.specs.Exchanges.{Came, CameSo, ask_of}
use Rattle.hub_cell.specs.declared.hub.SharedHub.{SharedHub}
use Rattle.hub_cell.specs.Passes.{IsSpent, config_of}
use Rattle.hub_cell.specs.Shared.{SharedServes}
use Rattle.node_client.specs.ClockSteps.{PausesFor, Ticks}
use Rattle.node_client.specs.declared.wants.CarryAnswer.{CarryAnswer}
use Rattle.node_client.specs.declared.wants.CarryAnswer.TheVariants as answers
use Rattle.node_client.specs.declared.wants.CarryEnd.{CarryEnd}
use Rattle.node_client.specs.declared.wants.CarryWant.{CarryWant}
use Rattle.node_client.specs.declared.wants.CarryWant.TheVariants as wants
use Rattle.node_client.specs.declared.carry.Carry.{Carry}
use Rattle.node_client.specs.Steps.{Step, Called, Spent, Exchanged, Paused}
use Rattle.node_client.specs.Places.{Place, Wanted, to_call, Shows, wanted_at, made, asked_step, called_step, IsAsk, Fits, Moves}
use Rattle.node_client.specs.StandLaws.{stands_leads}
use Rattle.node_client.specs.Carrying.{Stands, HandsOut, Readies, Feeds, Moved, IsNew}
use Rattle.hub_workers.specs.Amid.{Goes}
use Rattle.hub_workers.specs.Carried.{HasAt, IsUnder, spent_at}
use Rattle.hub_workers.specs.Turns.{WorkerSpent, WorkerTurn, dispatch_lacks, dispatch_spent, finds_nothing, start_spent, starts, worker_pause}
use Rattle.hub_workers.specs.WorkStages.{AsksSo, FindsNothing, StartsSo, WorkSays, Works, no_memory, nothing_there}
use Rattle.hub_workers.specs.World.{AnswersAt, Knowledge, Went, World, world_of}
use Rattle.hub_workers.specs.WorldLaws.{answers_at, went_call, went_exchange, went_none, went_pause, went_spent}
use Rattle.hub_workers.specs.declared.acts.WorkAct.TheVariants as acts
use Rattle.hub_workers.specs.declared.work_steps.WorkStage.{WorkStage}
use Rattle.hub_workers.specs.declared.work_steps.WorkStage.TheVariants as stages
use Rattle.hub_workers.proofs.TurnLemmas.{good_node, over_turn}
use Rattle.hub_workers.proofs.WayLemmas.{first_good}

found_turn : (own : List Step) → FindsNothing own → WorkerTurn (own ++ Paused worker_pause ∷ [])
found_turn _ (nothing_there at) = finds_nothing at
found_turn _ (no_memory at) = dispatch_lacks at

pub is_under : (carry : Carry) (known : Knowledge) (own : List Step) → StartsSo carry known own → IsUnder carry known
is_under carry known own s = record { r = s.r; place = s.place; steps = s.steps; stands = s.stands; good = s.good }

-- steps of a start, with one more
step_more : (r : Reservation) (at : ℕ) (own steps : List Step) (step : Step) → own ≡ Called Call.dispatch at (Some (Reply.assigned r)) ∷ steps →
    own ++ step ∷ [] ≡ Called Call.dispatch at (Some (Reply.assigned r)) ∷ (steps ++ step ∷ [])
step_more r at own steps step e = ap (λ (xs : List Step). xs ++ step ∷ []) e

module _ {N C : Type 0} (hub : SharedHub) (gives : N → List ℕ → Ask → Came → N → Type 0) (tells : C → Tick → ℕ → C → Type 0) where
  pub same_nodes : (v : Knowledge) (n n' : N) (m : C) (time : ClockView) → n' ≡ n → Went hub gives tells (world_of v n m time) [] (world_of v n' m time)
  same_nodes v n n' m time e = subst (λ (k : N). Went hub gives tells (world_of v n m time) [] (world_of v k m time)) (sym e) (went_none hub gives tells (world_of v n m time))

module _ {N C : Type 0} (hub : SharedHub) (gives : N → List ℕ → Ask → Came → N → Type 0) (tells : C → Tick → ℕ → C → Type 0)
    (asks : Option (List ℕ × Ask) → Type 0) (moment now : ℕ) where
  pub seek_starts : (v w : Knowledge) (n : N) (at : ℕ) (m m' : C) (time time' : ClockView) (r : Reservation) (carry : Carry) →
      SharedServes (config_of hub) v Call.dispatch at (Some (Reply.assigned r)) w → Ticks tells m at m' time time' → IsNew carry r →
      Goes hub gives tells WorkerTurn (Works hub asks stages.Between) (Works hub asks (stages.Starting carry)) (WorkSays acts.GoesOn moment now stages.Between (stages.Starting carry))
      (world_of v n m time) (world_of w n m' time')
  seek_starts v w n at m m' time time' r carry serves ticks new = λ own works. record {
    more = Called Call.dispatch at (Some (Reply.assigned r)) ∷ [];
    went = went_call hub gives tells v w n Call.dispatch at (Some (Reply.assigned r)) m m' time time' (inl serves) ticks;
    reaches = inl (
      record {
        at = at;
        r = r;
        place = new.place;
        steps = [];
        stands = new.stands;
        good = first_good hub gives tells w r new.place new.begins serves.gives;
        own_are = ap (λ (xs : List Step). xs ++ Called Call.dispatch at (Some (Reply.assigned r)) ∷ []) works.0;
      },
      new.fresh,
      works.1,
    );
    did = tt;
  }

  seek_waits : (v w : Knowledge) (n : N) (at : ℕ) (m m' : C) (time time' : ClockView) (reply : Option Reply) → FindsNothing (Called Call.dispatch at reply ∷ []) →
      AnswersAt hub v Call.dispatch at reply w → Ticks tells m at m' time time' →
      Goes hub gives tells WorkerTurn (Works hub asks stages.Between) (Works hub asks stages.Pausing) (WorkSays acts.GoesOn moment now stages.Between stages.Pausing)
      (world_of v n m time) (world_of w n m' time')
  seek_waits v w n at m m' time time' reply found answers ticks = λ own works. record {
    more = Called Call.dispatch at reply ∷ [];
    went = went_call hub gives tells v w n Call.dispatch at reply m m' time time' answers ticks;
    reaches = inl (subst (λ (xs : List Step). FindsNothing (xs ++ Called Call.dispatch at reply ∷ [])) (sym works.0) found, works.1);
    did = tt;
  }

  pub seek_nothing : (v w : Knowledge) (n : N) (at : ℕ) (m m' : C) (time time' : ClockView) → SharedServes (config_of hub) v Call.dispatch at (Some Reply.nothing) w → Ticks tells m at m' time time' →
      Goes hub gives tells WorkerTurn (Works hub asks stages.Between) (Works hub asks stages.Pausing) (WorkSays acts.GoesOn moment now stages.Between stages.Pausing)
      (world_of v n m time) (world_of w n m' time')
  seek_nothing v w n at m m' time time' serves ticks = seek_waits v w n at m m' time time' (Some Reply.nothing) (nothing_there at) (inl serves) ticks

  pub seek_lacks : (v w : Knowledge) (n : N) (at : ℕ) (m m' : C) (time time' : ClockView) → SharedServes (config_of hub) v Call.dispatch at None w → Ticks tells m at m' time time' →
      Goes hub gives tells WorkerTurn (Works hub asks stages.Between) (Works hub asks stages.Pausing) (WorkSays acts.GoesOn moment now stages.Between stages.Pausing)
      (world_of v n m time) (world_of w n m' time')
  seek_lacks v w n at m m' time time' serves ticks = seek_waits v w n at m m' time time' None (no_memory at) (inl serves) ticks

  pub seek_spent : (v w : Knowledge) (n : N) (at : ℕ) (m m' : C) (time time' : ClockView) (s : spent.Spent) → IsSpent hub v s w → Ticks tells m at m' time time' →
      Goes hub gives tells WorkerTurn (Works hub asks stages.Between) (Works hub asks (stages.Over s)) (WorkSays (acts.Over s) moment now stages.Between (stages.Over s))
      (world_of v n m time) (world_of w n m' time')
  seek_spent v w n at m m' time time' s is ticks = λ own works. record {
    more = Spent Call.dispatch at ∷ [];
    went = went_spent hub gives tells v w n Call.dispatch at s m m' time time' is ticks;
    reaches = inl (subst (λ (xs : List Step). WorkerSpent (xs ++ Spent Call.dispatch at ∷ [])) (sym works.0) (dispatch_spent at), is.0);
    did = refl;
  }

  -- ---- a start

  pub start_asks : (later : Option (List ℕ × Ask) → Type 0) (carry : Carry) (want : CarryWant) (address : List ℕ) (request : NodeRequest) (v : Knowledge) (n n' : N) (m : C) (time : ClockView) →
      HandsOut carry want → want ≡ wants.Node address request → later (Some (address, ask_of request)) → n' ≡ n →
      Goes hub gives tells WorkerTurn (Works hub asks (stages.Starting carry)) (Works hub later (stages.Asking carry))
      (WorkSays acts.GoesOn moment now (stages.Starting carry) (stages.Asking carry)) (world_of v n m time) (world_of v n' m time)
  start_asks later carry want address request v n n' m time hands is under same = λ own works.
      let start = works.0 in
      let t = hands.tells start.r start.place start.steps start.stands in
      record {
        more = [];
        went = same_nodes hub gives tells v n n' m time same;
        reaches = inl (subst (λ (xs : List Step). AsksSo later carry v xs) (sym (append-nil own)) (record {
          start = start;
          address = address;
          ask = ask_of request;
          wanted = subst (λ (x : CarryWant). Shows x (wanted_at start.r start.place)) is t.shows;
          under = under;
          awaits = (subst (λ (x : CarryWant). Readies carry x) is hands.readies).0;
        }));
        did = tt;
      }

  pub start_calls : (old mid new : Carry) (call : Call) (at : ℕ) (answer : CarryAnswer) (reply : Option Reply) (v w : Knowledge) (n : N) (m m' : C) (time time' : ClockView) →
      ((r : Reservation) (place : Place) (steps : List Step) → Stands old r place steps → Stands mid r place steps × (wanted_at r place ≡ to_call call) × Fits answer (wanted_at r place)) →
      Feeds mid answer new → ((x : Wanted) → made answer x at ≡ called_step reply at x) → SharedServes (config_of hub) v call at reply w →
      ((r : Reservation) (place to : Place) → Moves r place answer to → HasAt v r place → HasAt w r to) → Ticks tells m at m' time time' →
      Goes hub gives tells WorkerTurn (Works hub asks (stages.Starting old)) (Works hub asks (stages.Starting new))
      (WorkSays acts.GoesOn moment now (stages.Starting old) (stages.Starting new)) (world_of v n m time) (world_of w n m' time')
  start_calls old mid new call at answer reply v w n m m' time time' told feeds is_step serves on ticks = λ own works.
      let start = works.0 in
      let t = told start.r start.place start.steps start.stands in
      let moved : Moved start.r start.place answer new (start.steps ++ made answer (wanted_at start.r start.place) at) = feeds.moved start.r start.place start.steps at t.0 t.2 in
      let step : made answer (wanted_at start.r start.place) at ≡ Called call at reply ∷ [] = is_step (wanted_at start.r start.place) ∙ ap (called_step reply at) t.1 in
      record {
        more = Called call at reply ∷ [];
        went = went_call hub gives tells v w n call at reply m m' time time' (answers_at hub v call at reply w serves) ticks;
        reaches = inl (
          record {
            at = start.at;
            r = start.r;
            place = moved.to;
            steps = start.steps ++ Called call at reply ∷ [];
            stands = subst (λ (xs : List Step). Stands new start.r moved.to (start.steps ++ xs)) step moved.stands;
            good = on start.r start.place moved.to moved.moves start.good;
            own_are = step_more start.r start.at own start.steps (Called call at reply) start.own_are;
          },
          feeds.fresh,
          works.2,
        );
        did = tt;
      }

  pub start_stops : (carry : Carry) (call : Call) (at : ℕ) (s : spent.Spent) (v w : Knowledge) (n : N) (m m' : C) (time time' : ClockView) →
      ((r : Reservation) (place : Place) (steps : List Step) → Stands carry r place steps → wanted_at r place ≡ to_call call) →
      IsSpent hub v s w → Ticks tells m at m' time time' →
      Goes hub gives tells WorkerTurn (Works hub asks (stages.Starting carry)) (Works hub asks (stages.Over s))
      (WorkSays (acts.Over s) moment now (stages.Starting carry) (stages.Over s)) (world_of v n m time) (world_of w n m' time')
  start_stops carry call at s v w n m m' time time' told is ticks = λ own works.
      let start = works.0 in
      record {
        more = Spent call at ∷ [];
        went = went_spent hub gives tells v w n call at s m m' time time' is ticks;
        reaches = inl (
          subst WorkerSpent (sym (step_more start.r start.at own start.steps (Spent call at) start.own_are))
              (start_spent start.at start.r (spent_at start.steps start.place call at (stands_leads carry start.r start.place start.steps start.stands) (told start.r start.place start.steps start.stands))),
          is.0,
        );
        did = refl;
      }

  pub start_over : (carry : Carry) (want : CarryWant) (e : CarryEnd) (world : World N C) → HandsOut carry want → want ≡ wants.Done e →
      Goes hub gives tells WorkerTurn (Works hub asks (stages.Starting carry)) (Works hub asks stages.Between)
      (WorkSays acts.GoesOn moment now (stages.Starting carry) stages.Between) world world
  start_over carry want e world hands is = λ own works.
      let start = works.0 in
      let over = (over_turn hub gives tells carry want e world hands is).1 start.r start.place start.steps start.stands in
      record {
        more = [];
        went = went_none hub gives tells world;
        reaches = inr (subst WorkerTurn (sym (append-nil own ∙ start.own_are)) (starts start.at start.r over.finished.start), (refl, works.2));
        did = tt;
      }

  -- ---- its exchange

  pub start_hears : (later : Option (List ℕ × Ask) → Type 0) (carry new : Carry) (came : Came) (faults : N → ℕ) (v : Knowledge) (n n' : N) (m : C) (time : ClockView) →
      Feeds carry (answers.Node came) new → ((address : List ℕ) (ask : Ask) → asks (Some (address, ask)) → CameSo gives faults n address ask came n') → later None →
      Goes hub gives tells WorkerTurn (Works hub asks (stages.Asking carry)) (Works hub later (stages.Starting new))
      (WorkSays acts.GoesOn moment now (stages.Asking carry) (stages.Starting new)) (world_of v n m time) (world_of v n' m time)
  start_hears later carry new came faults v n n' m time feeds so idle = λ own works.
      let start = works.start in
      let fits : IsAsk (wanted_at start.r start.place) = subst IsAsk (sym works.wanted) tt in
      let moved : Moved start.r start.place (answers.Node came) new (start.steps ++ made (answers.Node came) (wanted_at start.r start.place) 0) = feeds.moved start.r start.place start.steps 0 start.stands fits in
      let step : made (answers.Node came) (wanted_at start.r start.place) 0 ≡ Exchanged works.address works.ask came ∷ [] = ap (asked_step came) works.wanted in
      record {
        more = Exchanged works.address works.ask came ∷ [];
        went = went_exchange hub gives tells v n n' works.address works.ask came m time (so works.address works.ask works.under).gave;
        reaches = inl (
          record {
            at = start.at;
            r = start.r;
            place = moved.to;
            steps = start.steps ++ Exchanged works.address works.ask came ∷ [];
            stands = subst (λ (xs : List Step). Stands new start.r moved.to (start.steps ++ xs)) step moved.stands;
            good = good_node v start.r start.place moved.to came moved.moves start.good;
            own_are = step_more start.r start.at own start.steps (Exchanged works.address works.ask came) start.own_are;
          },
          feeds.fresh,
          idle,
        );
        did = tt;
      }

  pub start_awaits : (later : Option (List ℕ × Ask) → Type 0) (carry : Carry) (v : Knowledge) (n n' : N) (m : C) (time : ClockView) →
      ((under : Option (List ℕ × Ask)) → asks under → later under) → n' ≡ n →
      Goes hub gives tells WorkerTurn (Works hub asks (stages.Asking carry)) (Works hub later (stages.Asking carry))
      (WorkSays acts.AwaitsNode moment now (stages.Asking carry) (stages.Asking carry)) (world_of v n m time) (world_of v n' m time)
  start_awaits later carry v n n' m time keeps same = λ own works. record {
    more = [];
    went = same_nodes hub gives tells v n n' m time same;
    reaches = inl (subst (λ (xs : List Step). AsksSo later carry v xs) (sym (append-nil own)) (record {
      start = works.start;
      address = works.address;
      ask = works.ask;
      wanted = works.wanted;
      under = keeps (Some (works.address, works.ask)) works.under;
      awaits = works.awaits;
    }));
    did = (tt, refl, refl);
  }

  -- ---- a pause

  pub pause_over : (v : Knowledge) (n : N) (m m' : C) (time time' : ClockView) → PausesFor tells worker_pause m m' time time' →
      Goes hub gives tells WorkerTurn (Works hub asks stages.Pausing) (Works hub asks stages.Between)
      (WorkSays acts.GoesOn moment now stages.Pausing stages.Between) (world_of v n m time) (world_of v n m' time')
  pause_over v n m m' time time' paused = λ own works. record {
    more = Paused worker_pause ∷ [];
    went = went_pause hub gives tells v n worker_pause m m' time time' paused;
    reaches = inr (found_turn own works.0, (refl, works.1));
    did = tt;
  }

  pub pause_on : (due : ℕ) (old new : World N C) → new ≡ old → due ≡ later_by moment worker_pause → now < due →
      Goes hub gives tells WorkerTurn (Works hub asks stages.Pausing) (Works hub asks stages.Pausing)
      (WorkSays (acts.Until due) moment now stages.Pausing stages.Pausing) old new
  pause_on due old new same is below = λ own works. record {
    more = [];
    went = subst (λ (x : World N C). Went hub gives tells old [] x) (sym same) (went_none hub gives tells old);
    reaches = inl (subst FindsNothing (sym (append-nil own)) works.0, works.1);
    did = (refl, refl, refl, is, below);
  }

  pub over_again : (s : spent.Spent) (world : World N C) →
      Goes hub gives tells WorkerTurn (Works hub asks (stages.Over s)) (Works hub asks (stages.Over s))
      (WorkSays (acts.Over s) moment now (stages.Over s) (stages.Over s)) world world
  over_again s world = λ own works. record {
    more = [];
    went = went_none hub gives tells world;
    reaches = inl (subst WorkerSpent (sym (append-nil own)) works.0, works.1);
    did = refl;
  }
