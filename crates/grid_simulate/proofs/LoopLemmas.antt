-- Steps of the loops of a simulation.
use Rattle.std.proofs.Common.{◌≡◌, ℕ, zero, suc, ◌+◌, ◌<◌, Bool, true, false, ◌&&◌, List, [], ◌∷◌, ◌++◌, length, add-one, refl, sym, ap, subst, ◌∙◌, arith}
use Rattle.std.specs.Prelude.{Option, None, Some, option_to_list, Result, Ok, Err, OnOk, is_ok}
use Rattle.grid_types.specs.declared.text.NoMemory.{NoMemory}
use Rattle.std.specs.List.{slice_get, remove}
use Rattle.grid_types.specs.declared.config.HubConfig.{HubConfig}
use Rattle.grid_types.specs.declared.entry.Entry.{Entry}
use Rattle.grid_types.specs.Lists.{numbers_from}
use Rattle.grid_types.specs.Tokens.{Ticket, Reservation}
use Rattle.grid_types.specs.Calls.{Call}
use Rattle.hub_core.specs.HubView.{HubView, past}
use Rattle.loop_node.specs.Sessions.{Node}
use Rattle.node_client.specs.Runs.{Runs}
use Rattle.grid_simulate.specs.declared.simulation.Kept.{Kept}
use Rattle.grid_simulate.specs.World.{World, simulated_config, called}
use Rattle.grid_simulate.specs.Starts.{Starts, StartsAll}
use Rattle.grid_simulate.specs.Actions.{StartsAt, beaten, Expires, over, one}
use Rattle.grid_simulate.specs.Looks.{Looked}
use Rattle.grid_simulate.specs.declared.actions.sessions.Idle.TheVariants as idle
use Rattle.grid_simulate.specs.Carrying.{grid_of, Carried}
use Rattle.grid_simulate.specs.Settling.{PollsFirst}
use Rattle.grid_simulate.specs.Simulates.{polled_all}

-- ---- starts

pub start_made : (w : World) (place : ℕ) (r : Reservation) (o : Option Reservation) (old new : HubView) (nodes : List Node) (bound : Option Kept) (short : Bool) (rs : List Reservation) (ss : List Kept) →
    o ≡ Some r → w.history ≡ past old → old.config ≡ simulated_config → Carried w.moment r (grid_of old w.nodes) (bound, short) (grid_of new nodes) → short ≡ false →
    rs ≡ remove w.reservations place → ss ≡ w.sessions ++ option_to_list bound →
    StartsAt w place o (record w { history = past new; nodes = nodes; reservations = rs; sessions = ss })
start_made w place r o old new nodes bound short rs ss is same config carried full rest kept =
    subst (λ (p : Option Reservation). StartsAt w place p (record w { history = past new; nodes = nodes; reservations = rs; sessions = ss })) (sym is)
    (subst (λ (l : List Reservation). Starts r (record w { reservations = l }) (record w { history = past new; nodes = nodes; reservations = rs; sessions = ss })) rest
    (record {
      steps = carried.steps;
      start = carried.start;
      full = sym carried.short_is ∙ full;
      answered = subst (λ (H : List Entry). Runs simulated_config 0 H carried.steps (past new)) (sym same) (subst (λ (c : HubConfig). Runs c 0 (past old) carried.steps (past new)) config carried.went.answered);
      asked = carried.went.asked;
      still = carried.went.still;
      rest = ap (λ (l : List Kept). record w { history = past new; nodes = nodes; reservations = rs; sessions = l }) (kept ∙ ap (λ (b : Option Kept). w.sessions ++ option_to_list b) carried.notes);
    }))

-- one start more
pub starts_more : (first now next : World) (rs : List Reservation) → now.reservations ≡ rs → 0 < length rs → StartsAt now 0 (slice_get rs 0) next → next.reservations ≡ remove rs 0 →
    ((v : World) → StartsAll now.reservations now v → StartsAll first.reservations first v) → (v : World) → StartsAll next.reservations next v → StartsAll first.reservations first v
starts_more first now next [] e some starts rest on v h = absurd (omega (arith, some))
starts_more first now next (r ∷ others) e some starts rest on v h =
    let made : Starts r (record now { reservations = others }) next = subst (λ (l : List Reservation). Starts r (record now { reservations = remove l 0 }) next) e starts in
    on v (subst (λ (l : List Reservation). StartsAll l now v) (sym e) (next, made, subst (λ (l : List Reservation). StartsAll l next v) rest h))

pub starts_over : (first now : World) (rs : List Reservation) → now.reservations ≡ rs → rs ≡ [] → ((v : World) → StartsAll now.reservations now v → StartsAll first.reservations first v) → StartsAll first.reservations first now
starts_over first now rs e none on = on now (subst (λ (l : List Reservation). StartsAll l now now) (sym (e ∙ none)) refl)

-- ---- signs of life

numbers_last : (f n : ℕ) → numbers_from f (suc n) ≡ numbers_from f n ++ (f + n) ∷ []
numbers_last f zero = ap (λ (k : ℕ). k ∷ []) (omega arith)
numbers_last f (suc n) = ap (λ (ks : List ℕ). f ∷ ks) (numbers_last (f + 1) n ∙ ap (λ (k : ℕ). numbers_from (f + 1) n ++ k ∷ []) (omega arith))

beaten_last : (ns : List ℕ) (n : ℕ) (w : World) → beaten (ns ++ n ∷ []) w ≡ called (beaten ns w) (Call.beat n None)
unfolding beaten
beaten_last [] n w = refl
beaten_last (m ∷ ns) n w = beaten_last ns n (called w (Call.beat m None))

pub beaten_none : (w : World) → w ≡ beaten (numbers_from 1 0) w
unfolding beaten
beaten_none w = refl

pub beaten_more : (i : ℕ) (w now next : World) → now ≡ beaten (numbers_from 1 i) w → next ≡ called now (Call.beat (i + 1) None) → next ≡ beaten (numbers_from 1 (i + 1)) w
beaten_more i w now next e h =
    h ∙ ap (λ (u : World). called u (Call.beat (i + 1) None)) e
    ∙ ap (λ (k : ℕ). called (beaten (numbers_from 1 i) w) (Call.beat k None)) (omega arith)
    ∙ sym (beaten_last (numbers_from 1 i) (1 + i) w)
    ∙ ap (λ (ns : List ℕ). beaten ns w) (sym (numbers_last 1 i))
    ∙ ap (λ (k : ℕ). beaten (numbers_from 1 k) w) (sym (add-one i))

-- ---- polls at the end

-- only the history of the world matters
polled_history : (ts : List Ticket) (v w : World) → v.history ≡ w.history → v.moment ≡ w.moment → (polled_all ts v).history ≡ (polled_all ts w).history
polled_history [] v w e m = e
polled_history (t ∷ ts) v w e m =
    polled_history ts (called v (Call.poll t)) (called w (Call.poll t))
    (ap (λ (H : List Entry). (called (record v { history = H }) (Call.poll t)).history) e ∙ ap (λ (k : ℕ). (called (record w { moment = k }) (Call.poll t)).history) m) m

pub polls_more : (u : World) (now : World) (later : List Entry) (ts rest : List Ticket) (all : List Entry) → 0 < length ts → now.moment ≡ u.moment → PollsFirst ts now later → rest ≡ remove ts 0 →
    (polled_all ts (record u { history = now.history })).history ≡ all → (polled_all rest (record u { history = later })).history ≡ all
polls_more u now later [] rest all some m polls is h = absurd (omega (arith, some))
polls_more u now later (t ∷ ts) rest all some m polls is h =
    ap (λ (l : List Ticket). (polled_all l (record u { history = later })).history) is
    ∙ polled_history ts (record u { history = later }) (called (record u { history = now.history }) (Call.poll t))
    (polls ∙ ap (λ (k : ℕ). (called (record now { moment = k }) (Call.poll t)).history) m) refl
    ∙ h

pub polls_over : (u : World) (H all : List Entry) (ts : List Ticket) → ts ≡ [] → (polled_all ts (record u { history = H })).history ≡ all → H ≡ all
polls_over u H all ts none h = subst (λ (l : List Ticket). (polled_all l (record u { history = H })).history ≡ all) none h

-- ---- idle sessions

pub ends_one : (w next v : World) → Looked idle.Ended w next → Expires next v → Expires w v
ends_one w next v looked rest = one w next v looked.0 looked.1 looked.2 rest

pub ends_over : (w next : World) → Looked idle.Over w next → Expires w next
ends_over w next looked = subst (λ (u : World). Expires w u) (sym looked.1) (over w looked.0)

-- ---- of the loops that go on after want of memory

pub both_true : (a b : Bool) → (a && b) ≡ true → (a ≡ true) × (b ≡ true)
both_true true b h = (refl, h)
both_true false b h = absurd cc

pub ok_of : {P : Type 0} (r : Result Unit NoMemory) (b : Bool) → b ≡ is_ok r → b ≡ true → OnOk r P → P
ok_of (Ok u) b e t h = h
ok_of (Err x) b e t h = absurd (wrong b e t)
  where
    wrong : (b : Bool) → b ≡ false → b ≡ true → ⊥
    wrong true e t = cc
    wrong false e t = cc
