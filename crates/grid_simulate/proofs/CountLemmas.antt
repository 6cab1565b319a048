-- What one more entry does to the counts.
use Rattle.std.proofs.Common.{◌≡◌, ℕ, ◌+◌, ◌<◌, Bool, true, false, cond, ◌&&◌, ◌||◌, List, [], ◌∷◌, ◌++◌, length, get_or, take, refl, ap, sym, ◌∙◌, arith}
use Rattle.std.proofs.lemmas.List.{reverse-append, take_more}
use Rattle.std.specs.Prelude.{Option, None, Some, filter, nat_eq, unwrap_or, option_map, not}
use Rattle.grid_types.specs.declared.entry.Entry.{Entry}
use Rattle.grid_types.specs.declared.entry.Change.{Change}
use Rattle.grid_types.specs.declared.entry.Change.TheVariants as change
use Rattle.grid_types.specs.Lists.{when, kept, or_else, with_last}
use Rattle.grid_types.specs.History.{history_of, last_told}
use Rattle.grid_types.specs.Bindings.{Running, running_told, is_of_binding, bound_of, bound_slot, binding_told, bindings}
use Rattle.grid_types.specs.Sessions.{is_live, live_told, is_on_node}
use Rattle.grid_types.specs.Requests.{waiting_requests}
use Rattle.grid_types.specs.Sessions.{live_bindings}
use Rattle.grid_simulate.specs.declared.summary.Summary.{Summary}
use Rattle.grid_simulate.specs.Counts.{count, summary_of, is_queued, is_bound, is_timed_out, is_refused, is_cleared, is_retried, is_ended, is_lapsed}
use Rattle.grid_simulate.specs.Running.{live_by, slot_by, live_in}

-- a journal's first entries, as a history
history_step : (journal : List Entry) (i : ℕ) (e : Entry) → i < length journal → e ≡ get_or journal i e → history_of (take (i + 1) journal) ≡ e ∷ history_of (take i journal)
history_step journal i e below here =
    ap history_of (take_more journal i e below) ∙ reverse-append (take i journal) (get_or journal i e ∷ []) ∙ ap (λ (x : Entry). x ∷ history_of (take i journal)) (sym here)

pub count_more : (test : Change → Bool) (journal : List Entry) (i : ℕ) (e : Entry) → i < length journal → e ≡ get_or journal i e →
    count test (history_of (take (i + 1) journal)) ≡ cond (test e.change) 1 0 + count test (history_of (take i journal))
count_more test journal i e below here = ap (λ (H : List Entry). count test H) (history_step journal i e below here)

live_step : (H : List Entry) (e : Entry) (b : ℕ) → is_live (e ∷ H) b ≡ live_by e.change b (bound_slot H b) (is_live H b)
live_step H e b = by_change e.change
  where
    bound : (t : Bool) → unwrap_or (or_else (when t true) (last_told (λ before e. live_told b before e.change) H)) false ≡ (is_live H b || t)
    bound true = or_true (is_live H b)
      where
        or_true : (l : Bool) → true ≡ (l || true)
        or_true true = refl
        or_true false = refl
    bound false = or_false (is_live H b)
      where
        or_false : (l : Bool) → l ≡ (l || false)
        or_false true = refl
        or_false false = refl

    ended : (t : Bool) → unwrap_or (or_else (when t false) (last_told (λ before e. live_told b before e.change) H)) false ≡ (is_live H b && not t)
    ended true = and_false (is_live H b)
      where
        and_false : (l : Bool) → false ≡ (l && false)
        and_false true = refl
        and_false false = refl
    ended false = and_true (is_live H b)
      where
        and_true : (l : Bool) → l ≡ (l && true)
        and_true true = refl
        and_true false = refl

    by_change : (ch : Change) → unwrap_or (or_else (live_told b H ch) (last_told (λ before e. live_told b before e.change) H)) false ≡ live_by ch b (bound_slot H b) (is_live H b)
    by_change (change.Bound r s x cs at) = bound (nat_eq r b)
    by_change (change.Ended q c at) = ended (nat_eq q b)
    by_change (change.Lapsed n at) = ended (is_on_node n (bound_slot H b))
    by_change ch = refl

slot_step : (H : List Entry) (e : Entry) (b : ℕ) → bound_slot (e ∷ H) b ≡ slot_by e.change b (bound_slot H b)
slot_step H e b = by_change e.change
  where
    by_test : (t : Bool) (run : Running) → option_map (λ r. r.slot) (or_else (when t run) (bound_of H b)) ≡ cond t (Some run.slot) (bound_slot H b)
    by_test true run = refl
    by_test false run = refl

    by_change : (ch : Change) → option_map (λ r. r.slot) (or_else (kept (is_of_binding b) (running_told H ch)) (bound_of H b)) ≡ slot_by ch b (bound_slot H b)
    by_change (change.Bound r s x cs at) = by_test (nat_eq r b) _
    by_change ch = refl

pub live_more : (journal : List Entry) (i : ℕ) (e : Entry) (b : ℕ) → i < length journal → e ≡ get_or journal i e →
    is_live (history_of (take (i + 1) journal)) b ≡ live_by e.change b (bound_slot (history_of (take i journal)) b) (is_live (history_of (take i journal)) b)
live_more journal i e b below here = ap (λ (H : List Entry). is_live H b) (history_step journal i e below here) ∙ live_step (history_of (take i journal)) e b

pub slot_more : (journal : List Entry) (i : ℕ) (e : Entry) (b : ℕ) → i < length journal → e ≡ get_or journal i e →
    bound_slot (history_of (take (i + 1) journal)) b ≡ slot_by e.change b (bound_slot (history_of (take i journal)) b)
slot_more journal i e b below here = ap (λ (H : List Entry). bound_slot H b) (history_step journal i e below here) ∙ slot_step (history_of (take i journal)) e b

filter_last : (p : ℕ → Bool) (xs : List ℕ) (x : ℕ) → length (filter p (xs ++ x ∷ [])) ≡ length (filter p xs) + cond (p x) 1 0
filter_last p [] x = by_test (p x)
  where
    by_test : (b : Bool) → length (cond b (x ∷ []) []) ≡ 0 + cond b 1 0
    by_test true = refl
    by_test false = refl
filter_last p (y ∷ ys) x = by_test (p y) (filter_last p ys x)
  where
    by_test : (b : Bool) → length (filter p (ys ++ x ∷ [])) ≡ length (filter p ys) + cond (p x) 1 0 →
        length (cond b (y ∷ filter p (ys ++ x ∷ [])) (filter p (ys ++ x ∷ []))) ≡ length (cond b (y ∷ filter p ys) (filter p ys)) + cond (p x) 1 0
    by_test true h = omega (arith, h)
    by_test false h = h

-- one entry more adds its binding, where it is live
pub bindings_more : (G : List Entry) (journal : List Entry) (i : ℕ) (e : Entry) → i < length journal → e ≡ get_or journal i e →
    length (filter (is_live G) (bindings (history_of (take (i + 1) journal)))) ≡ length (filter (is_live G) (bindings (history_of (take i journal)))) + live_in G (binding_told e.change)
bindings_more G journal i e below here =
    ap (λ (H : List Entry). length (filter (is_live G) (bindings H))) (history_step journal i e below here) ∙ by_told (binding_told e.change)
  where
    by_told : (o : Option ℕ) → length (filter (is_live G) (with_last (bindings (history_of (take i journal))) o)) ≡ length (filter (is_live G) (bindings (history_of (take i journal)))) + live_in G o
    by_told None = omega arith
    by_told (Some b) = filter_last (is_live G) (bindings (history_of (take i journal))) b

-- the counts, one by one
pub summary_is : (H : List Entry) (q b t r k w a e l n : ℕ) → q ≡ count is_queued H → b ≡ count is_bound H → t ≡ count is_timed_out H → r ≡ count is_refused H → k ≡ count is_cleared H → w ≡ length (waiting_requests H) → a ≡ count is_retried H → e ≡ count is_ended H → l ≡ count is_lapsed H → n ≡ length (live_bindings H) →
    summary_of H ≡ record { queued = q; created = b; timed_out = t; refused = r; cleared = k; waiting = w; retried = a; ended = e; lapsed = l; live = n }
summary_is H q b t r k w a e l n hq hb ht hr hk hw ha he hl hn =
    let chain =
    ap {B = Summary} (λ (x : ℕ). record { queued = x; created = b; timed_out = t; refused = r; cleared = k; waiting = w; retried = a; ended = e; lapsed = l; live = n }) hq
    ∙ ap {B = Summary} (λ (x : ℕ). record { queued = count is_queued H; created = x; timed_out = t; refused = r; cleared = k; waiting = w; retried = a; ended = e; lapsed = l; live = n }) hb
    ∙ ap {B = Summary} (λ (x : ℕ). record { queued = count is_queued H; created = count is_bound H; timed_out = x; refused = r; cleared = k; waiting = w; retried = a; ended = e; lapsed = l; live = n }) ht
    ∙ ap {B = Summary} (λ (x : ℕ). record { queued = count is_queued H; created = count is_bound H; timed_out = count is_timed_out H; refused = x; cleared = k; waiting = w; retried = a; ended = e; lapsed = l; live = n }) hr
    ∙ ap {B = Summary} (λ (x : ℕ). record { queued = count is_queued H; created = count is_bound H; timed_out = count is_timed_out H; refused = count is_refused H; cleared = x; waiting = w; retried = a; ended = e; lapsed = l; live = n }) hk
    ∙ ap {B = Summary} (λ (x : ℕ). record { queued = count is_queued H; created = count is_bound H; timed_out = count is_timed_out H; refused = count is_refused H; cleared = count is_cleared H; waiting = x; retried = a; ended = e; lapsed = l; live = n }) hw
    ∙ ap {B = Summary} (λ (x : ℕ). record { queued = count is_queued H; created = count is_bound H; timed_out = count is_timed_out H; refused = count is_refused H; cleared = count is_cleared H; waiting = length (waiting_requests H); retried = x; ended = e; lapsed = l; live = n }) ha
    ∙ ap {B = Summary} (λ (x : ℕ). record { queued = count is_queued H; created = count is_bound H; timed_out = count is_timed_out H; refused = count is_refused H; cleared = count is_cleared H; waiting = length (waiting_requests H); retried = count is_retried H; ended = x; lapsed = l; live = n }) he
    ∙ ap {B = Summary} (λ (x : ℕ). record { queued = count is_queued H; created = count is_bound H; timed_out = count is_timed_out H; refused = count is_refused H; cleared = count is_cleared H; waiting = length (waiting_requests H); retried = count is_retried H; ended = count is_ended H; lapsed = x; live = n }) hl
    ∙ ap {B = Summary} (λ (x : ℕ). record { queued = count is_queued H; created = count is_bound H; timed_out = count is_timed_out H; refused = count is_refused H; cleared = count is_cleared H; waiting = length (waiting_requests H); retried = count is_retried H; ended = count is_ended H; lapsed = count is_lapsed H; live = x }) hn
    in sym chain
