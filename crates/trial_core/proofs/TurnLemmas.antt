-- What one turn of the driver does.
use Rattle.std.proofs.Common.{◌≡◌, inl, inr, ℕ, ◌≤◌, true, false, List, [], ◌∷◌, ◌++◌, refl, sym, ap, subst, ◌∙◌, arith}
use Rattle.std.specs.Prelude.{Option, Some, None}
use Rattle.grid_types.specs.declared.capabilities.Cap.{Cap}
use Rattle.grid_types.specs.declared.config.HubConfig.{HubConfig}
use Rattle.grid_types.specs.declared.entry.Entry.{Entry}
use Rattle.grid_types.specs.declared.entry.FailWhy.{FailWhy}
use Rattle.grid_types.specs.Tokens.{Reservation, Closing, is_good_closing}
use Rattle.grid_types.specs.Calls.{Call, Reply}
use Rattle.grid_types.specs.HandedIn.{hands_ticket}
use Rattle.grid_types.specs.Laws.{is_good_reply}
use Rattle.grid_types.specs.Permitted.{is_start_failure}
use Rattle.hub_core.specs.declared.answers.Binding.{Binding}
use Rattle.hub_core.specs.declared.answers.Failing.{Failing}
use Rattle.hub_core.specs.Answers.{Answers}
use Rattle.hub_core.specs.HubView.{HubView, past, ServesLocally}
use Rattle.hub_core.specs.Replies.{binding_reply}
use Rattle.hub_core.specs.Serves.{MayCall, GivesGood}
use Rattle.http_frames.specs.declared.writing.NodeRequest.{NodeRequest}
use Rattle.grid_outside.specs.declared.exchange.Ask.{Ask}
use Rattle.grid_outside.specs.Exchanges.{Came, ask_of}
use Rattle.node_client.specs.declared.wants.CarryAnswer.{CarryAnswer}
use Rattle.node_client.specs.declared.wants.CarryAnswer.TheVariants as answers
use Rattle.node_client.specs.declared.wants.CarryEnd.{CarryEnd}
use Rattle.node_client.specs.declared.wants.CarryWant.{CarryWant}
use Rattle.node_client.specs.declared.wants.CarryWant.TheVariants as wants
use Rattle.node_client.specs.declared.carry.Carry.{Carry}
use Rattle.node_client.specs.Steps.{Step, Called, Exchanged}
use Rattle.node_client.specs.Start.{Refuses, late, node_gone, duplicate, mismatch}
use Rattle.node_client.specs.Runs.{Runs, Exchanges, Timed}
use Rattle.node_client.specs.Places.{Place, at_start, at_bind, at_return, at_fail, at_quit, at_free, at_end, Wanted, to_ask, to_call, over, Shows, wanted_at, made, asked_step, called_step, IsAsk, Fits, Moves, named, failed_at_node, was_bound, to_quit, to_free, found_no_memory, was_returned, was_quit, gave_up, was_freed, IsGoodAt}
use Rattle.node_client.specs.Carrying.{Stands, HandsOut, Feeds, Moved, Finished, FinishedAt, Freed}
use Rattle.trial_core.specs.Carried.{World, world_of, IsUnder, IsOver, Turned}

-- ---- exchanges

good_node : (H : List Entry) (k : ℕ) (r : Reservation) (place to : Place) (came : Came) → Moves r place (answers.Node came) to → IsGoodAt H k r place → IsGoodAt H k r to
good_node H k r _ _ _ (named answer session caps says) good = good
good_node H k r _ _ _ (failed_at_node came w h) good = good
good_node H k r _ _ _ (was_returned session came) good = good
good_node H k r _ _ _ (was_quit c came) good = good

module _ {N : Type 0} (gives : N → List ℕ → Ask → Came → N → Type 0) where
  pub node_turn : (old new : Carry) (want : CarryWant) (address : List ℕ) (request : NodeRequest) (came : Came) (hub : HubView) (n n' : N) (m : ℕ) →
      HandsOut old want → want ≡ wants.Node address request → Feeds old (answers.Node came) new → gives n address (ask_of request) came n' →
      Turned gives old (world_of hub n m) None new (world_of hub n' m)
  unfolding Runs Exchanges Timed
  node_turn old new want address request came hub n n' m hands is feeds gave = λ r place steps st good.
      let shows : wanted_at r place ≡ to_ask address (ask_of request) = subst (λ (w : CarryWant). Shows w (wanted_at r place)) is (hands.tells r place steps st).shows in
      let fits : Fits (answers.Node came) (wanted_at r place) = subst (λ (w : Wanted). IsAsk w) (sym shows) tt in
      let moved : Moved r place (answers.Node came) new (steps ++ made (answers.Node came) (wanted_at r place) 0) = feeds.moved r place steps 0 st fits in
      let step : made (answers.Node came) (wanted_at r place) 0 ≡ Exchanged address (ask_of request) came ∷ [] = ap (asked_step came) shows in
      record {
        to = moved.to;
        more = Exchanged address (ask_of request) came ∷ [];
        stands = subst (λ (xs : List Step). Stands new r moved.to (steps ++ xs)) step moved.stands;
        good = good_node (past hub) 0 r place moved.to came moved.moves good;
        went = record { config = refl; answered = refl; asked = (n', gave, refl); timed = omega arith; sound = λ s. s; keeps = λ k t. (t, refl) };
      }

  -- ---- calls of the hub

  pub call_turn : (old mid new : Carry) (call : Call) (at : ℕ) (answer : CarryAnswer) (reply : Option Reply) (hub hub' : HubView) (n : N) (m m' : ℕ) →
      ((r : Reservation) (place : Place) (steps : List Step) → Stands old r place steps → Stands mid r place steps × (wanted_at r place ≡ to_call call) × Fits answer (wanted_at r place)) →
      Feeds mid answer new → ((w : Wanted) → made answer w at ≡ called_step reply at w) → ServesLocally hub call at reply hub' →
      ((r : Reservation) (place to : Place) → Moves r place answer to → IsGoodAt (past hub) 0 r place → IsGoodAt (past hub') 0 r to) →
      m ≤ at → at ≤ m' → ((k : ℕ) → hands_ticket call k ≡ false) →
      Turned gives old (world_of hub n m) None new (world_of hub' n m')
  unfolding Runs Exchanges Timed
  call_turn old mid new call at answer reply hub hub' n m m' told feeds is_step serves on later earlier hands = λ r place steps st good.
      let t = told r place steps st in
      let moved : Moved r place answer new (steps ++ made answer (wanted_at r place) at) = feeds.moved r place steps at t.0 t.2 in
      let step : made answer (wanted_at r place) at ≡ Called call at reply ∷ [] = is_step (wanted_at r place) ∙ ap (called_step reply at) t.1 in
      record {
        to = moved.to;
        more = Called call at reply ∷ [];
        stands = subst (λ (xs : List Step). Stands new r moved.to (steps ++ xs)) step moved.stands;
        good = on r place moved.to moved.moves good;
        went = record {
          config = serves.same_config;
          answered = (past hub', serves.serves.answers, refl);
          asked = refl;
          timed = (later, earlier);
          sound = λ s. record { is_legal = serves.serves.is_legal; is_safe = serves.serves.is_safe };
          keeps = λ k t. serves.serves.keeps_tickets 0 k t (hands k);
        };
      }

-- a closing that a refused bind gives is good
good_closing : (H : List Entry) (answer : Reply) (c : Closing) → Refuses answer c → is_good_reply H 0 answer ≡ true → is_good_closing H 0 c.slot ≡ true
good_closing H _ _ (late c) g = g
good_closing H _ _ (node_gone c) g = g
good_closing H _ _ (duplicate c) g = g
good_closing H _ _ (mismatch c) g = g

given_good : (H : List Entry) (reply : Option Reply) (answer : Reply) → reply ≡ Some answer → GivesGood H 0 reply → is_good_reply H 0 answer ≡ true
given_good H reply answer e g = (subst (λ (o : Option Reply). GivesGood H 0 o) e g).0

-- a call that found no memory has changed nothing
nothing_changed : (c : HubConfig) (H : List Entry) (call : Call) (at : ℕ) (reply : Option Reply) (later : List Entry) → reply ≡ None → Answers c H 0 call at reply later → later ≡ H
nothing_changed c H call at reply later e (inl exact) = absurd (none_some _ (sym e ∙ exact.replies))
  where
    none_some : (a : Reply) → None ≡ Some a → ⊥
    none_some a h = cc
nothing_changed c H call at reply later e (inr lack) = lack.stays

pub good_bind : (hub hub' : HubView) (q : Reservation) (session : List ℕ) (caps : List Cap) (at : ℕ) (b : Binding) → ServesLocally hub (Call.bind q session caps) at (binding_reply b) hub' →
    (r : Reservation) (place to : Place) → Moves r place (answers.Bound b) to → IsGoodAt (past hub) 0 r place → IsGoodAt (past hub') 0 r to
good_bind hub hub' q session caps at _ serves r _ _ (was_bound x cs number) good = tt
good_bind hub hub' q session caps at _ serves r _ _ (to_quit x cs b answer c e h quit) good = good_closing (past hub') answer c h (given_good (past hub') (binding_reply b) answer e serves.serves.gives)
good_bind hub hub' q session caps at _ serves r _ _ (to_free x cs b answer c e h quit) good = good_closing (past hub') answer c h (given_good (past hub') (binding_reply b) answer e serves.serves.gives)
good_bind hub hub' q session caps at _ serves r _ _ (found_no_memory x cs b e) good =
    subst (λ (H : List Entry). IsGoodAt H 0 r (at_return x)) (sym (nothing_changed hub.config (past hub) (Call.bind q session caps) at (binding_reply b) (past hub') e serves.serves.answers)) good

pub good_fail : (H later : List Entry) (f : Failing) (r : Reservation) (place to : Place) → Moves r place (answers.Failed f) to → IsGoodAt H 0 r place → IsGoodAt later 0 r to
good_fail H later _ r _ _ (gave_up w f) good = tt

pub good_freed : (H later : List Entry) (r : Reservation) (place to : Place) → Moves r place answers.Freed to → IsGoodAt H 0 r place → IsGoodAt later 0 r to
good_freed H later r _ _ (was_freed c) good = tt

-- ---- what a caller has to bring

pub may_bind : (carry : Carry) (H : List Entry) (q : Reservation) (session : List ℕ) (caps : List Cap) → IsUnder carry H →
    ((r : Reservation) (place : Place) (steps : List Step) → Stands carry r place steps → (r ≡ q) × (place ≡ at_bind session caps)) → MayCall H 0 (Call.bind q session caps)
may_bind carry H q session caps under told =
    let t = told under.r under.place under.steps under.stands in
    let good : IsGoodAt H 0 q (at_bind session caps) = subst (λ (r : Reservation). IsGoodAt H 0 r (at_bind session caps)) t.0 (subst (λ (p : Place). IsGoodAt H 0 under.r p) t.1 under.good) in
    record { is_good = good.0; is_true = good.1 }

pub may_fail : (carry : Carry) (H : List Entry) (q : Reservation) (w : FailWhy) → IsUnder carry H →
    ((r : Reservation) (place : Place) (steps : List Step) → Stands carry r place steps → (r ≡ q) × (place ≡ at_fail w)) →
    ((r : Reservation) (place : Place) (steps : List Step) → Stands carry r place steps → is_start_failure w ≡ true) → MayCall H 0 (Call.fail q w)
may_fail carry H q w under told cause =
    let t = told under.r under.place under.steps under.stands in
    let good : IsGoodAt H 0 q (at_fail w) = subst (λ (r : Reservation). IsGoodAt H 0 r (at_fail w)) t.0 (subst (λ (p : Place). IsGoodAt H 0 under.r p) t.1 under.good) in
    record { is_good = rw (good.0, cause under.r under.place under.steps under.stands) refl; is_true = good.1 }

pub may_free : (carry : Carry) (H : List Entry) (c : Closing) → IsUnder carry H →
    ((r : Reservation) (place : Place) (steps : List Step) → Stands carry r place steps → place ≡ at_free c) → MayCall H 0 (Call.freed c)
may_free carry H c under told =
    let t = told under.r under.place under.steps under.stands in
    let good : IsGoodAt H 0 under.r (at_free c) = subst (λ (p : Place). IsGoodAt H 0 under.r p) t under.good in
    record { is_good = good; is_true = tt }

-- ---- the end

pub over_turn : {N : Type 0} (gives : N → List ℕ → Ask → Came → N → Type 0) (old : Carry) (want : CarryWant) (e : CarryEnd) (w : World N) →
    HandsOut old want → want ≡ wants.Done e → Turned gives old w (Some e) old w
over_turn gives old want e w hands is = (
  refl,
  refl,
  λ r place steps st.
      let t = hands.tells r place steps st in
      let shows : wanted_at r place ≡ over e = subst (λ (x : CarryWant). Shows x (wanted_at r place)) is t.shows in
      by_place r place steps shows t.finished,
)
  where
    over_one : (a b : CarryEnd) → over a ≡ over b → a ≡ b
    over_one a b h = cc

    by_place : (r : Reservation) (place : Place) (steps : List Step) → wanted_at r place ≡ over e → FinishedAt place r steps → IsOver e r place steps
    by_place r at_start steps h f = absurd cc
    by_place r (at_bind x cs) steps h f = absurd cc
    by_place r (at_return x) steps h f = absurd cc
    by_place r (at_fail v) steps h f = absurd cc
    by_place r (at_quit c) steps h f = absurd cc
    by_place r (at_free c) steps h f = absurd cc
    by_place r (at_end a) steps h f = record {
      finished = subst (λ (b : CarryEnd). Finished b r steps) (over_one a e h) f;
      place_is = ap at_end (over_one a e h);
    }
