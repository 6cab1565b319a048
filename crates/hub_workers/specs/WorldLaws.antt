-- How the world goes on by single steps, and by steps one after the other; and what a pass counts.
use Rattle.std.proofs.Common.{◌≡◌, inl, inr, ℕ, ◌+◌, List, [], ◌∷◌, ◌++◌, refl, sym, ap, subst, ◌∙◌, append-nil, append_assoc, arith}
use Rattle.std.specs.Prelude.{Option, None, Some}
use mathlib.Core.List.{IsPrefix}
use Rattle.grid_types.specs.declared.entry.Entry.{Entry}
use Rattle.grid_types.specs.Calls.{Call, Reply}
use Rattle.grid_types.specs.declared.entry.Found.TheVariants as found
use Rattle.grid_outside.specs.Told.{ClockView, Tick}
use Rattle.grid_outside.specs.declared.exchange.Ask.{Ask}
use Rattle.grid_outside.specs.Exchanges.{Came}
use Rattle.grid_types.specs.declared.spent.Spent as spent
use Rattle.hub_cell.specs.declared.hub.SharedHub.{SharedHub}
use Rattle.hub_cell.specs.Passes.{IsSpent, config_of}
use Rattle.hub_cell.specs.Shared.{SharedServes, TookTurn}
use Rattle.node_client.specs.ClockSteps.{Ticks, PausesFor, keeps_time_none}
use Rattle.node_client.specs.Steps.{Step, Called, Spent, Exchanged, Paused, spent_looks}
use Rattle.node_client.specs.Runs.{Clocked, Exchanges, Still, Timed, pauses_after}
use Rattle.node_client.specs.RunLaws.{clocked_more, exchanges_more, keeps_time_more}
use Rattle.hub_workers.specs.World.{Answered, AnswersAt, FindsInMap, Knowledge, Went, World, world_of}

pub answers_at : (hub : SharedHub) (v : Knowledge) (call : Call) (at : ℕ) (reply : Option Reply) (w : Knowledge) → SharedServes (config_of hub) v call at reply w → AnswersAt hub v call at reply w
answers_at hub v call at None w serves = inl serves
answers_at hub v call at (Some reply) w serves = inl serves

answered_more : (hub : SharedHub) (u v w : Knowledge) (steps more : List Step) → Answered hub u steps v → Answered hub v more w → Answered hub u (steps ++ more) w
unfolding Answered
answered_more hub u v w [] more p q = subst (λ (k : Knowledge). Answered hub k more w) p q
answered_more hub u v w (Called call at reply ∷ steps) more p q = (p.0, p.1, answered_more hub p.0 v w steps more p.2 q)
answered_more hub u v w (Spent call at ∷ steps) more p q = (p.0, p.1, p.2, answered_more hub p.0 v w steps more p.3 q)
answered_more hub u v w (Exchanged address ask came ∷ steps) more p q = answered_more hub u v w steps more p q
answered_more hub u v w (Paused ms ∷ steps) more p q = answered_more hub u v w steps more p q

-- ---- what a pass counts

serves_same : (hub : SharedHub) (old new : Knowledge) (call : Call) (at : ℕ) (reply : Option Reply) → SharedServes (config_of hub) old call at reply new →
    (new.spent ≡ old.spent) × (new.number ≡ old.number) × (new.ended ≡ old.ended)
serves_same hub old new call at reply s = (ap (λ v. v.spent) s.turn.goes, ap (λ v. v.number) s.turn.goes, ap (λ v. v.ended) s.turn.goes)

-- a look-up without a turn leaves all that the pass knows but for what it found
pub found_same : (old new : Knowledge) (call : Call) (reply : Option Reply) → FindsInMap old call reply new →
    (new.spent ≡ old.spent) × (new.number ≡ old.number) × (new.ended ≡ old.ended) × (new.seen ≡ old.seen)
found_same old new (Call.lookup session) (Some (Reply.found (found.At slot address binding))) f =
    (ap (λ (v : Knowledge). v.spent) f.0, ap (λ (v : Knowledge). v.number) f.0, ap (λ (v : Knowledge). v.ended) f.0, ap (λ (v : Knowledge). v.seen) f.0)
found_same old new call reply f = absurd f

answers_same : (hub : SharedHub) (old new : Knowledge) (call : Call) (at : ℕ) (reply : Option Reply) → AnswersAt hub old call at reply new →
    (new.spent ≡ old.spent) × (new.number ≡ old.number) × (new.ended ≡ old.ended)
answers_same hub old new call at None (inl s) = serves_same hub old new call at None s
answers_same hub old new call at None (inr l) = (ap (λ v. v.spent) l.1.turn.goes, ap (λ v. v.number) l.1.turn.goes, ap (λ v. v.ended) l.1.turn.goes)
answers_same hub old new call at (Some reply) (inl s) = serves_same hub old new call at (Some reply) s
answers_same hub old new call at (Some reply) (inr f) = let same = found_same old new call (Some reply) f in (same.0, same.1, same.2)

pub answered_spent : (hub : SharedHub) (old new : Knowledge) (steps : List Step) → Answered hub old steps new → new.spent ≡ old.spent + spent_looks steps
unfolding Answered
answered_spent hub old new [] a = let same = ap (λ (v : Knowledge). v.spent) a in omega (arith, same)
answered_spent hub old new (Called call at reply ∷ steps) a =
    let rest = answered_spent hub a.0 new steps a.2 in
    let same = (answers_same hub old a.0 call at reply a.1).0 in
    omega (arith, rest, same)
answered_spent hub old new (Spent call at ∷ steps) a =
    let rest = answered_spent hub a.0 new steps a.3 in
    let one = ap (λ (v : Knowledge). v.spent) a.2.1 in
    omega (arith, rest, one)
answered_spent hub old new (Exchanged address ask came ∷ steps) a = answered_spent hub old new steps a
answered_spent hub old new (Paused ms ∷ steps) a = answered_spent hub old new steps a

pub answered_same : (hub : SharedHub) (old new : Knowledge) (steps : List Step) → Answered hub old steps new → (new.number ≡ old.number) × (new.ended ≡ old.ended)
unfolding Answered
answered_same hub old new [] a = (ap (λ (v : Knowledge). v.number) a, ap (λ (v : Knowledge). v.ended) a)
answered_same hub old new (Called call at reply ∷ steps) a =
    let rest = answered_same hub a.0 new steps a.2 in
    let same = answers_same hub old a.0 call at reply a.1 in
    (rest.0 ∙ same.1, rest.1 ∙ same.2)
answered_same hub old new (Spent call at ∷ steps) a =
    let rest = answered_same hub a.0 new steps a.3 in
    (rest.0 ∙ ap (λ (v : Knowledge). v.number) a.2.1, rest.1 ∙ ap (λ (v : Knowledge). v.ended) a.2.1)
answered_same hub old new (Exchanged address ask came ∷ steps) a = answered_same hub old new steps a
answered_same hub old new (Paused ms ∷ steps) a = answered_same hub old new steps a

-- ---- what a pass has seen

turn_seen : (old : Knowledge) (point made : List Entry) (new : Knowledge) → TookTurn old point made new → IsPrefix old.seen new.seen
turn_seen old point made new turn = (
  turn.begins.0 ++ made,
  sym (append_assoc old.seen turn.begins.0 made) ∙ (ap (λ (xs : List Entry). xs ++ made) turn.begins.1 ∙ sym (ap (λ (v : Knowledge). v.seen) turn.goes)),
)

answers_seen : (hub : SharedHub) (old new : Knowledge) (call : Call) (at : ℕ) (reply : Option Reply) → AnswersAt hub old call at reply new → IsPrefix old.seen new.seen
answers_seen hub old new call at None (inl s) = turn_seen old s.point s.made new s.turn
answers_seen hub old new call at None (inr l) = turn_seen old l.1.point [] new l.1.turn
answers_seen hub old new call at (Some reply) (inl s) = turn_seen old s.point s.made new s.turn
answers_seen hub old new call at (Some reply) (inr f) = ([], append-nil old.seen ∙ sym (found_same old new call (Some reply) f).3)

prefix_on : (xs ys zs : List Entry) → IsPrefix xs ys → IsPrefix ys zs → IsPrefix xs zs
prefix_on xs ys zs p q = (p.0 ++ q.0, sym (append_assoc xs p.0 q.0) ∙ (ap (λ (l : List Entry). l ++ q.0) p.1 ∙ q.1))

pub answered_seen : (hub : SharedHub) (old new : Knowledge) (steps : List Step) → Answered hub old steps new → IsPrefix old.seen new.seen
unfolding Answered
answered_seen hub old new [] a = ([], append-nil old.seen ∙ sym (ap (λ (v : Knowledge). v.seen) a))
answered_seen hub old new (Called call at reply ∷ steps) a =
    prefix_on old.seen a.0.seen new.seen (answers_seen hub old a.0 call at reply a.1) (answered_seen hub a.0 new steps a.2)
answered_seen hub old new (Spent call at ∷ steps) a =
    subst (λ (xs : List Entry). IsPrefix xs new.seen) (ap (λ (v : Knowledge). v.seen) a.2.1) (answered_seen hub a.0 new steps a.3)
answered_seen hub old new (Exchanged address ask came ∷ steps) a = answered_seen hub old new steps a
answered_seen hub old new (Paused ms ∷ steps) a = answered_seen hub old new steps a

module _ {N C : Type 0} (hub : SharedHub) (gives : N → List ℕ → Ask → Came → N → Type 0) (tells : C → Tick → ℕ → C → Type 0) where
  -- one call of the hub
  pub went_call : (v w : Knowledge) (n : N) (call : Call) (at : ℕ) (reply : Option Reply) (m m' : C) (time time' : ClockView) →
      AnswersAt hub v call at reply w → Ticks tells m at m' time time' →
      Went hub gives tells (world_of v n m time) (Called call at reply ∷ []) (world_of w n m' time')
  unfolding Answered Exchanges Clocked Timed Still pauses_after
  went_call v w n call at reply m m' time time' serves ticks = record {
    answered = (w, serves, refl);
    asked = refl;
    clocked = (m', ticks.gave, refl);
    keeps_time = record { timed = (ticks.later, ticks.before); told = ticks.told };
  }

  -- one that found it spent
  pub went_spent : (v w : Knowledge) (n : N) (call : Call) (at : ℕ) (s : spent.Spent) (m m' : C) (time time' : ClockView) →
      IsSpent hub v s w → Ticks tells m at m' time time' →
      Went hub gives tells (world_of v n m time) (Spent call at ∷ []) (world_of w n m' time')
  unfolding Answered Exchanges Clocked Timed Still pauses_after
  went_spent v w n call at s m m' time time' is ticks = record {
    answered = (w, s, is, refl);
    asked = refl;
    clocked = (m', ticks.gave, refl);
    keeps_time = record { timed = (ticks.later, ticks.before); told = ticks.told };
  }

  -- one exchange
  pub went_exchange : (v : Knowledge) (n n' : N) (address : List ℕ) (ask : Ask) (came : Came) (m : C) (time : ClockView) →
      gives n address ask came n' →
      Went hub gives tells (world_of v n m time) (Exchanged address ask came ∷ []) (world_of v n' m time)
  unfolding Answered Exchanges Clocked Timed Still pauses_after
  went_exchange v n n' address ask came m time gave =
      let none = keeps_time_none time in
      record {
        answered = refl;
        asked = (n', gave, refl);
        clocked = refl;
        keeps_time = record { timed = none.timed; told = none.told };
      }

  pub went_pause : (v : Knowledge) (n : N) (ms : ℕ) (m m' : C) (time time' : ClockView) → PausesFor tells ms m m' time time' →
      Went hub gives tells (world_of v n m time) (Paused ms ∷ []) (world_of v n m' time')
  unfolding Answered Exchanges Clocked Timed Still pauses_after
  went_pause v n ms m m' time time' p = record {
    answered = refl;
    asked = refl;
    clocked = (p.at, m', p.gave, refl);
    keeps_time = record { timed = (time'.moment, p.long_enough, omega arith); told = p.told };
  }

  pub went_none : (w : World N C) → Went hub gives tells w [] w
  unfolding Answered Exchanges Clocked
  went_none w = record { answered = refl; asked = refl; clocked = refl; keeps_time = keeps_time_none w.time }

  pub went_more : (u v w : World N C) (steps more : List Step) → Went hub gives tells u steps v → Went hub gives tells v more w → Went hub gives tells u (steps ++ more) w
  went_more u v w steps more p q = record {
    answered = answered_more hub u.view v.view w.view steps more p.answered q.answered;
    asked = exchanges_more gives u.nodes v.nodes w.nodes steps more p.asked q.asked;
    clocked = clocked_more tells u.clock v.clock w.clock steps more p.clocked q.clocked;
    keeps_time = keeps_time_more u.time v.time w.time steps more p.keeps_time q.keeps_time;
  }
