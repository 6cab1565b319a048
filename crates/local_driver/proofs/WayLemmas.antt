-- Steps that lead from one world to another, one behind the other.
use Rattle.std.proofs.Common.{◌≡◌, ℕ, true, List, [], ◌∷◌, ◌++◌, refl, subst, ◌∙◌, arith, inl, inr}
use Rattle.std.specs.Prelude.{Option, None, Some}
use Rattle.grid_types.specs.declared.config.HubConfig.{HubConfig}
use Rattle.grid_types.specs.declared.entry.Entry.{Entry}
use Rattle.grid_types.specs.Calls.{Call, Reply}
use Rattle.grid_outside.specs.Told.{ClockView, Tick}
use Rattle.grid_outside.specs.declared.exchange.Ask.{Ask}
use Rattle.grid_outside.specs.Exchanges.{Came}
use Rattle.hub_core.specs.Answers.{Answers}
use Rattle.hub_core.specs.HubView.{HubView, past, ServesLocally}
use Rattle.node_client.specs.ClockSteps.{Ticks, PausesFor, keeps_time_none}
use Rattle.node_client.specs.Runs.{Clocked, Exchanges, Still, Timed, pauses_after}
use Rattle.node_client.specs.RunLaws.{clocked_more, exchanges_more, keeps_time_more}
use Rattle.node_client.specs.Steps.{Step, Called, Spent, Exchanged, Paused}
use Rattle.local_driver.specs.World.{AnswersAt, Answered, World, Went, world_of, wants_room}

answered_more : (c : HubConfig) (F G H : List Entry) (steps more : List Step) → Answered c F steps G → Answered c G more H → Answered c F (steps ++ more) H
unfolding Answered
answered_more c F G H [] more p q = subst (λ (h : List Entry). Answered c h more H) p q
answered_more c F G H (Called call at reply ∷ steps) more p q = (p.0, p.1, answered_more c p.0 G H steps more p.2 q)
answered_more c F G H (Spent call at ∷ steps) more p q = absurd p
answered_more c F G H (Exchanged address ask came ∷ steps) more p q = answered_more c F G H steps more p q
answered_more c F G H (Paused ms ∷ steps) more p q = answered_more c F G H steps more p q

-- how a call of the hub left it
pub record Serves (old : HubView) (call : Call) (at : ℕ) (reply : Option Reply) (new : HubView) : Type 0 where
  pub config : new.config ≡ old.config
  pub answers : AnswersAt old.config (past old) call at reply (past new)

pub serves_as : (old : HubView) (call : Call) (at : ℕ) (reply : Option Reply) (new : HubView) → ServesLocally old call at reply new → Serves old call at reply new
serves_as old call at reply new serves = record { config = serves.same_config; answers = by_reply reply serves.serves.answers }
  where
    by_reply : (o : Option Reply) → Answers old.config (past old) 0 call at o (past new) → AnswersAt old.config (past old) call at o (past new)
    by_reply None x = inl x
    by_reply (Some r) x = x

-- there was no room for it
pub serves_not : (hub : HubView) (call : Call) (at : ℕ) → wants_room call ≡ true → Serves hub call at None hub
serves_not hub call at wants = record { config = refl; answers = inr (wants, refl) }

-- room was made before it
pub serves_roomed : (old roomed new : HubView) (call : Call) (at : ℕ) (reply : Option Reply) → roomed ≡ record old { room = true } → ServesLocally roomed call at reply new →
    Serves old call at reply new
serves_roomed old roomed new call at reply is serves =
    serves_in (subst (λ (h : HubView). ServesLocally h call at reply new) is serves)
  where
    serves_in : ServesLocally (record old { room = true }) call at reply new → Serves old call at reply new
    serves_in x = let y = serves_as (record old { room = true }) call at reply new x in record { config = y.config; answers = y.answers }

module _ {N C : Type 0} (gives : N → List ℕ → Ask → Came → N → Type 0) (tells : C → Tick → ℕ → C → Type 0) where
  pub went_none : (w : World N C) → Went gives tells w [] w
  unfolding Answered Exchanges Clocked
  went_none w = record { config = refl; answered = refl; asked = refl; clocked = refl; keeps_time = keeps_time_none w.time }

  pub went_more : (u v w : World N C) (steps more : List Step) → Went gives tells u steps v → Went gives tells v more w → Went gives tells u (steps ++ more) w
  went_more u v w steps more p q = record {
    config = q.config ∙ p.config;
    answered = answered_more u.hub.config (past u.hub) (past v.hub) (past w.hub) steps more p.answered
        (subst (λ (c : HubConfig). Answered c (past v.hub) more (past w.hub)) p.config q.answered);
    asked = exchanges_more gives u.nodes v.nodes w.nodes steps more p.asked q.asked;
    clocked = clocked_more tells u.clock v.clock w.clock steps more p.clocked q.clocked;
    keeps_time = keeps_time_more u.time v.time w.time steps more p.keeps_time q.keeps_time;
  }

  -- one call of the hub
  pub went_call : (h k : HubView) (n : N) (call : Call) (at : ℕ) (reply : Option Reply) (m m' : C) (time time' : ClockView) →
      Serves h call at reply k → Ticks tells m at m' time time' → Went gives tells (world_of h n m time) (Called call at reply ∷ []) (world_of k n m' time')
  unfolding Answered Exchanges Clocked Timed Still pauses_after
  went_call h k n call at reply m m' time time' serves ticks = record {
    config = serves.config;
    answered = (past k, serves.answers, refl);
    asked = refl;
    clocked = (m', ticks.gave, refl);
    keeps_time = record { timed = (ticks.later, ticks.before); told = ticks.told };
  }

  -- one exchange
  pub went_exchange : (h : HubView) (n n' : N) (address : List ℕ) (ask : Ask) (came : Came) (m : C) (time : ClockView) →
      gives n address ask came n' → Went gives tells (world_of h n m time) (Exchanged address ask came ∷ []) (world_of h n' m time)
  unfolding Answered Exchanges Clocked Timed Still pauses_after
  went_exchange h n n' address ask came m time gave =
      let none = keeps_time_none time in
      record { config = refl; answered = refl; asked = (n', gave, refl); clocked = refl; keeps_time = record { timed = none.timed; told = none.told } }

  -- one pause
  pub went_pause : (h : HubView) (n : N) (ms : ℕ) (m m' : C) (time time' : ClockView) → PausesFor tells ms m m' time time' →
      Went gives tells (world_of h n m time) (Paused ms ∷ []) (world_of h n m' time')
  unfolding Answered Exchanges Clocked Timed Still pauses_after
  went_pause h n ms m m' time time' p = record {
    config = refl;
    answered = refl;
    asked = refl;
    clocked = (p.at, m', p.gave, refl);
    keeps_time = record { timed = (time'.moment, p.long_enough, omega arith); told = p.told };
  }
