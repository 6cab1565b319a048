-- How turns go on that are made step by step.
use Rattle.std.proofs.Common.{◌≡◌, inl, inr, ◌⊎◌, ℕ, ◌+◌, List, [], ◌++◌, refl, sym, ap, subst, ◌∙◌, append-nil, append_assoc, arith}
use Rattle.grid_types.specs.declared.spent.Spent as spent
use Rattle.grid_outside.specs.Told.{ClockView, Tick, untold}
use Rattle.grid_outside.specs.declared.exchange.Ask.{Ask}
use Rattle.grid_outside.specs.Exchanges.{Came}
use Rattle.hub_cell.specs.declared.hub.SharedHub.{SharedHub}
use Rattle.hub_cell.specs.declared.hub.Pass.{Pass}
use Rattle.hub_cell.specs.Passes.{knows}
use Rattle.node_client.specs.Steps.{Step}
use Rattle.hub_workers.specs.Amid.{Amid, Goes, GoesBy}
use Rattle.hub_workers.specs.Benches.{Attends, now_of}
use Rattle.hub_workers.specs.ClockLaws.{remembers_on}
use Rattle.hub_workers.specs.SharedClock.{Asked}
use Rattle.hub_workers.specs.Turns.{Turns, Worked, no_turn, one_turn_more}
use Rattle.hub_workers.specs.World.{Knowledge, Went, World, world_of}
use Rattle.hub_workers.specs.WorldLaws.{went_more, went_none}
use Rattle.hub_workers.specs.declared.bench.Bench.{Bench}
use Rattle.hub_workers.specs.declared.ends.WorkerEnd.TheVariants as ends

module _ {N C : Type 0} (hub : SharedHub) (gives : N → List ℕ → Ask → Came → N → Type 0) (tells : C → Tick → ℕ → C → Type 0)
    (IsTurn : List Step → Type 0) where
  -- no turn was made yet
  pub amid_start : (Now : Knowledge → List Step → Type 0) (first now : World N C) → first ≡ now → Now now.view [] → Amid hub gives tells IsTurn Now first now
  amid_start Now first now e so = record {
    turns = 0;
    done = [];
    own = [];
    turned = no_turn;
    so = so;
    went = subst (λ (x : World N C). Went hub gives tells x [] now) (sym e) (went_none hub gives tells now);
  }

  amid_by : (Before After : Knowledge → List Step → Type 0) (Did : List Step → Type 0) (first old new : World N C) → (a : Amid hub gives tells IsTurn Before first old) →
      (g : GoesBy hub gives tells IsTurn After Did a.own old new) → After new.view (a.own ++ g.more) ⊎ (IsTurn (a.own ++ g.more) × After new.view []) →
      Amid hub gives tells IsTurn After first new
  amid_by Before After Did first old new a g (inl so) = record {
    turns = a.turns;
    done = a.done;
    own = a.own ++ g.more;
    turned = a.turned;
    so = so;
    went = subst (λ (xs : List Step). Went hub gives tells first xs new) (append_assoc a.done a.own g.more) (went_more hub gives tells first old new (a.done ++ a.own) g.more a.went g.went);
  }
  amid_by Before After Did first old new a g (inr over) = record {
    turns = a.turns + 1;
    done = a.done ++ (a.own ++ g.more);
    own = [];
    turned = one_turn_more refl a.turned over.0;
    so = over.1;
    went = subst (λ (xs : List Step). Went hub gives tells first xs new) (append_assoc a.done a.own g.more ∙ sym (append-nil (a.done ++ (a.own ++ g.more))))
        (went_more hub gives tells first old new (a.done ++ a.own) g.more a.went g.went);
  }

  pub amid_on : (Before After : Knowledge → List Step → Type 0) (Did : List Step → Type 0) (first old new : World N C) → Amid hub gives tells IsTurn Before first old →
      Goes hub gives tells IsTurn Before After Did old new → Amid hub gives tells IsTurn After first new
  amid_on Before After Did first old new a goes = amid_by Before After Did first old new a (goes a.own a.so) (goes a.own a.so).reaches

  -- between turns
  pub worked_all : (IsSpent : List Step → Type 0) (turns : ℕ) (done own : List Step) (first now : World N C) → Turns IsTurn turns done → own ≡ [] → Went hub gives tells first (done ++ own) now →
      Worked hub gives tells IsTurn IsSpent turns first ends.TurnsDone now
  worked_all IsSpent turns done own first now turned none went = record {
    steps = done;
    are = turned;
    went = subst (λ (xs : List Step). Went hub gives tells first xs now) (ap (λ (xs : List Step). done ++ xs) none ∙ append-nil done) went;
  }

  -- in a turn that found the hub spent
  pub worked_spent : (IsSpent : List Step → Type 0) (turns : ℕ) (done own : List Step) (s : spent.Spent) (first now : World N C) → Turns IsTurn turns done → IsSpent own →
      Went hub gives tells first (done ++ own) now → Worked hub gives tells IsTurn IsSpent (turns + 1) first (ends.Spent s) now
  worked_spent IsSpent turns done own s first now turned stopped went = record {
    steps = done ++ own;
    are = record { made = turns; done = done; own = own; fewer = omega arith; turned = turned; stopped = stopped; steps_are = refl };
    went = went;
  }

-- ---- what is worked with

pub now_is : {N S C : Type 0} (state : N → S) (view : C → ClockView) (bench : Bench N C) (pass : Pass) (nodes : N) (clock : C) → bench.pass ≡ pass → bench.nodes ≡ nodes → bench.last.value ≡ clock →
    now_of state view bench ≡ world_of (knows pass) (state nodes) clock (untold (view clock).moment)
now_is {N} {S} {C} state view bench pass nodes clock p n m =
    ap (λ (x : Pass). world_of (knows x) (state bench.nodes) bench.last.value (untold (view bench.last.value).moment)) p
    ∙ (ap (λ (x : N). world_of (knows pass) (state x) bench.last.value (untold (view bench.last.value).moment)) n
    ∙ ap (λ (x : C). world_of (knows pass) (state nodes) x (untold (view x).moment)) m)

pub attends_on : {N C : Type 0} (hub : SharedHub) (tells : C → Tick → ℕ → C → Type 0) (view : C → ClockView) (clock later : C) (bench : Bench N C) → Asked tells view clock later →
    Attends hub tells view clock bench → Attends hub tells view later bench
attends_on hub tells view clock later bench asked a =
    record { own = a.own; remembers = remembers_on tells view clock later bench.moment bench.last.value asked a.remembers }
