-- What one turn of the driver of a start does.
use Rattle.std.proofs.Common.{◌≡◌, ℕ, Bool, true, false, ◌&&◌, List, [], ◌∷◌, ◌++◌, refl, sym, ap, subst, ◌∙◌}
use Rattle.std.specs.Prelude.{Option, Some, None, Ok, Err, is_some}
use Rattle.grid_types.specs.declared.capabilities.Cap.{Cap}
use Rattle.grid_types.specs.declared.entry.FailWhy.{FailWhy}
use Rattle.grid_types.specs.Tokens.{Reservation, Closing}
use Rattle.grid_types.specs.Calls.{Call, Reply}
use Rattle.grid_types.specs.HandedIn.{hands_reservation}
use Rattle.grid_types.specs.Permitted.{is_start_failure}
use Rattle.hub_core.specs.declared.answers.Binding.{Binding}
use Rattle.hub_core.specs.declared.answers.Failing.{Failing}
use Rattle.hub_core.specs.Replies.{binding_reply}
use Rattle.http_frames.specs.declared.writing.NodeRequest.{NodeRequest}
use Rattle.grid_outside.specs.Told.{ClockView, Tick}
use Rattle.grid_outside.specs.declared.exchange.Ask.{Ask}
use Rattle.grid_outside.specs.Exchanges.{Came, ask_of}
use Rattle.grid_types.specs.declared.spent.Spent as spent
use Rattle.hub_cell.specs.declared.hub.SharedHub.{SharedHub}
use Rattle.hub_cell.specs.Passes.{IsSpent, config_of}
use Rattle.hub_cell.specs.Shared.{GivesTokens, HasClosing, HasReservation, HasTokens, SharedServes}
use Rattle.node_client.specs.ClockSteps.{Ticks}
use Rattle.node_client.specs.declared.wants.CarryAnswer.{CarryAnswer}
use Rattle.node_client.specs.declared.wants.CarryAnswer.TheVariants as answers
use Rattle.node_client.specs.declared.wants.CarryEnd.{CarryEnd}
use Rattle.node_client.specs.declared.wants.CarryWant.{CarryWant}
use Rattle.node_client.specs.declared.wants.CarryWant.TheVariants as wants
use Rattle.node_client.specs.declared.carry.Carry.{Carry}
use Rattle.node_client.specs.Steps.{Step, Called, Exchanged}
use Rattle.node_client.specs.Start.{Refuses, late, node_gone, duplicate, mismatch}
use Rattle.node_client.specs.Places.{Place, at_start, at_bind, at_return, at_fail, at_quit, at_free, at_end, Wanted, to_ask, to_call, over, Shows, wanted_at, made, asked_step, called_step, IsAsk, Fits, Moves, named, failed_at_node, was_bound, to_quit, to_free, found_no_memory, was_returned, was_quit, gave_up, was_freed}
use Rattle.node_client.specs.Carrying.{Stands, HandsOut, Feeds, Moved, Finished, FinishedAt, Freed}
use Rattle.hub_workers.specs.Carried.{HasAt, IsOver, IsUnder, Turned}
use Rattle.hub_workers.specs.World.{Knowledge, World, world_of}
use Rattle.hub_workers.specs.WorldLaws.{answers_at, went_call, went_exchange, went_spent}

pub good_node : (v : Knowledge) (r : Reservation) (place to : Place) (came : Came) → Moves r place (answers.Node came) to → HasAt v r place → HasAt v r to
good_node v r _ _ _ (named answer session caps says) good = good
good_node v r _ _ _ (failed_at_node came w h) good = good
good_node v r _ _ _ (was_returned session came) good = good
good_node v r _ _ _ (was_quit c came) good = good

module _ {N C : Type 0} (hub : SharedHub) (gives : N → List ℕ → Ask → Came → N → Type 0) (tells : C → Tick → ℕ → C → Type 0) where
  pub node_turn : (old new : Carry) (want : CarryWant) (address : List ℕ) (request : NodeRequest) (came : Came) (v : Knowledge) (n n' : N) (m : C) (time : ClockView) →
      HandsOut old want → want ≡ wants.Node address request → Feeds old (answers.Node came) new → gives n address (ask_of request) came n' →
      Turned hub gives tells old (world_of v n m time) None new (world_of v n' m time)
  node_turn old new want address request came v n n' m time hands is feeds gave = λ r place steps st good.
      let t = hands.tells r place steps st in
      let shows : wanted_at r place ≡ to_ask address (ask_of request) = subst (λ (x : CarryWant). Shows x (wanted_at r place)) is t.shows in
      let fits : IsAsk (wanted_at r place) = subst IsAsk (sym shows) tt in
      let moved : Moved r place (answers.Node came) new (steps ++ made (answers.Node came) (wanted_at r place) 0) = feeds.moved r place steps 0 st fits in
      let step : made (answers.Node came) (wanted_at r place) 0 ≡ Exchanged address (ask_of request) came ∷ [] = ap (asked_step came) shows in
      record {
        to = moved.to;
        more = Exchanged address (ask_of request) came ∷ [];
        stands = subst (λ (xs : List Step). Stands new r moved.to (steps ++ xs)) step moved.stands;
        good = good_node v r place moved.to came moved.moves good;
        went = went_exchange hub gives tells v n n' address (ask_of request) came m time gave;
      }

  pub call_turn : (old mid new : Carry) (call : Call) (at : ℕ) (answer : CarryAnswer) (reply : Option Reply) (v w : Knowledge) (n : N) (m m' : C) (time time' : ClockView) →
      ((r : Reservation) (place : Place) (steps : List Step) → Stands old r place steps → Stands mid r place steps × (wanted_at r place ≡ to_call call) × Fits answer (wanted_at r place)) →
      Feeds mid answer new → ((w : Wanted) → made answer w at ≡ called_step reply at w) → SharedServes (config_of hub) v call at reply w →
      ((r : Reservation) (place to : Place) → Moves r place answer to → HasAt v r place → HasAt w r to) →
      Ticks tells m at m' time time' →
      Turned hub gives tells old (world_of v n m time) None new (world_of w n m' time')
  call_turn old mid new call at answer reply v w n m m' time time' told feeds is_step serves on ticks = λ r place steps st good.
      let t = told r place steps st in
      let moved : Moved r place answer new (steps ++ made answer (wanted_at r place) at) = feeds.moved r place steps at t.0 t.2 in
      let step : made answer (wanted_at r place) at ≡ Called call at reply ∷ [] = is_step (wanted_at r place) ∙ ap (called_step reply at) t.1 in
      record {
        to = moved.to;
        more = Called call at reply ∷ [];
        stands = subst (λ (xs : List Step). Stands new r moved.to (steps ++ xs)) step moved.stands;
        good = on r place moved.to moved.moves good;
        went = went_call hub gives tells v w n call at reply m m' time time' (answers_at hub v call at reply w serves) ticks;
      }

  pub spent_turn : (old later : Carry) (call : Call) (at : ℕ) (s : spent.Spent) (v w : Knowledge) (n : N) (m m' : C) (time time' : ClockView) →
      ((r : Reservation) (place : Place) (steps : List Step) → Stands old r place steps → wanted_at r place ≡ to_call call) →
      IsSpent hub v s w → Ticks tells m at m' time time' →
      Turned hub gives tells old (world_of v n m time) (Some (Err s)) later (world_of w n m' time')
  spent_turn old later call at s v w n m m' time time' told is ticks = λ r place steps st.
      record { call = call; at = at; wanted = told r place steps st; went = went_spent hub gives tells v w n call at s m m' time time' is ticks }

  pub over_turn : (old : Carry) (want : CarryWant) (e : CarryEnd) (w : World N C) →
      HandsOut old want → want ≡ wants.Done e → Turned hub gives tells old w (Some (Ok e)) old w
  over_turn old want e w hands is = (
    refl,
    λ r place steps st.
        let t = hands.tells r place steps st in
        let shows : wanted_at r place ≡ over e = subst (λ (x : CarryWant). Shows x (wanted_at r place)) is t.shows in
        by_place r place steps shows t.finished,
  )
    where
      over_one : (a b : CarryEnd) → over a ≡ over b → a ≡ b
      over_one a b h = cc

      by_place : (r : Reservation) (place : Place) (steps : List Step) → wanted_at r place ≡ over e → FinishedAt place r steps → IsOver e r place steps
      by_place r at_start steps h f = absurd cc
      by_place r (at_bind x cs) steps h f = absurd cc
      by_place r (at_return x) steps h f = absurd cc
      by_place r (at_fail y) steps h f = absurd cc
      by_place r (at_quit c) steps h f = absurd cc
      by_place r (at_free c) steps h f = absurd cc
      by_place r (at_end a) steps h f = record {
        finished = subst (λ (b : CarryEnd). Finished b r steps) (over_one a e h) f;
        place_is = ap at_end (over_one a e h);
      }

-- ---- what is held after a call

good_closing : (v : Knowledge) (answer : Reply) (c : Closing) → Refuses answer c → HasTokens v answer → HasClosing v c
good_closing v _ _ (late c) g = g
good_closing v _ _ (node_gone c) g = g
good_closing v _ _ (duplicate c) g = g
good_closing v _ _ (mismatch c) g = g

given_good : (v : Knowledge) (reply : Option Reply) (answer : Reply) → reply ≡ Some answer → GivesTokens v reply → HasTokens v answer
given_good v reply answer e g = subst (λ (o : Option Reply). GivesTokens v o) e g

no_reply : (b : Bool) (reply : Option Reply) → reply ≡ None → (b && is_some reply) ≡ false
no_reply true reply e = ap is_some e
no_reply false reply e = refl

pub good_bind : (hub : SharedHub) (v w : Knowledge) (q : Reservation) (session : List ℕ) (caps : List Cap) (at : ℕ) (b : Binding) →
    SharedServes (config_of hub) v (Call.bind q session caps) at (binding_reply b) w →
    (r : Reservation) (place to : Place) → Moves r place (answers.Bound b) to → HasAt v r place → HasAt w r to
good_bind hub v w q session caps at _ serves r _ _ (was_bound x cs number) good = tt
good_bind hub v w q session caps at _ serves r _ _ (to_quit x cs b answer c e h quit) good = good_closing w answer c h (given_good w (binding_reply b) answer e serves.gives)
good_bind hub v w q session caps at _ serves r _ _ (to_free x cs b answer c e h quit) good = good_closing w answer c h (given_good w (binding_reply b) answer e serves.gives)
good_bind hub v w q session caps at _ serves r _ _ (found_no_memory x cs b e) good =
    serves.keeps.reservations r good (no_reply (hands_reservation (Call.bind q session caps) r.request r.slot) (binding_reply b) e)

pub good_fail : (v w : Knowledge) (f : Failing) (r : Reservation) (place to : Place) → Moves r place (answers.Failed f) to → HasAt v r place → HasAt w r to
good_fail v w _ r _ _ (gave_up why f) good = tt

pub good_freed : (v w : Knowledge) (r : Reservation) (place to : Place) → Moves r place answers.Freed to → HasAt v r place → HasAt w r to
good_freed v w r _ _ (was_freed c) good = tt

-- ---- what a caller has to bring

pub may_bind : (carry : Carry) (v : Knowledge) (q : Reservation) (session : List ℕ) (caps : List Cap) → IsUnder carry v →
    ((r : Reservation) (place : Place) (steps : List Step) → Stands carry r place steps → (r ≡ q) × (place ≡ at_bind session caps)) → HasReservation v q
may_bind carry v q session caps under told =
    let t = told under.r under.place under.steps under.stands in
    subst (λ (r : Reservation). HasAt v r (at_bind session caps)) t.0 (subst (λ (p : Place). HasAt v under.r p) t.1 under.good)

pub may_fail : (carry : Carry) (v : Knowledge) (q : Reservation) (w : FailWhy) → IsUnder carry v →
    ((r : Reservation) (place : Place) (steps : List Step) → Stands carry r place steps → (r ≡ q) × (place ≡ at_fail w)) →
    ((r : Reservation) (place : Place) (steps : List Step) → Stands carry r place steps → is_start_failure w ≡ true) →
    HasReservation v q × (is_start_failure w ≡ true)
may_fail carry v q w under told cause =
    let t = told under.r under.place under.steps under.stands in (
      subst (λ (r : Reservation). HasAt v r (at_fail w)) t.0 (subst (λ (p : Place). HasAt v under.r p) t.1 under.good),
      cause under.r under.place under.steps under.stands,
    )

pub may_free : (carry : Carry) (v : Knowledge) (c : Closing) → IsUnder carry v →
    ((r : Reservation) (place : Place) (steps : List Step) → Stands carry r place steps → place ≡ at_free c) → HasClosing v c
may_free carry v c under told =
    let t = told under.r under.place under.steps under.stands in
    subst (λ (p : Place). HasAt v under.r p) t under.good
