-- What a draw makes of the world.
use Rattle.std.proofs.Common.{◌≡◌, ◌≢◌, ℕ, zero, suc, ◌+◌, ◌<◌, ◌==◌, Bool, false, if◌then◌else◌, List, [], ◌∷◌, length, refl, sym, ap, subst, ◌∙◌, arith}
use Rattle.std.specs.Prelude.{Result, Ok, Err, OnOk}
use Rattle.std.specs.List.{slice_get}
use Rattle.grid_types.specs.declared.text.NoMemory.{NoMemory}
use Rattle.grid_types.specs.Tokens.{Ticket, Reservation}
use Rattle.grid_simulate.specs.declared.simulation.Kept.{Kept}
use Rattle.grid_simulate.specs.Draws.{next_number, drawn_by}
use Rattle.grid_simulate.specs.World.{World, draw, drawn, called}
use Rattle.grid_types.specs.Calls.{Call}
use Rattle.grid_types.specs.Lists.{numbers_from}
use Rattle.grid_simulate.specs.declared.actions.Action.{Action}
use Rattle.grid_simulate.specs.Crew.{browser_of, joins_as, joined}
use Rattle.grid_simulate.specs.Simulates.{StepsOnce}
use Rattle.grid_simulate.specs.Actions.{Acts, action_of, cleared_or_beaten, beaten, polled_at, polled_of, StartsAt, StartsOf, EndsAt, EndsOf}

pub on_ok_more : {P Q : Type 0} (r : Result Unit NoMemory) → (P → Q) → OnOk r P → OnOk r Q
on_ok_more (Ok u) f h = f h
on_ok_more (Err e) f h = tt

-- the ticket that is drawn is polled
pub polls_member : (w v : World) (ts : List Ticket) (place x : ℕ) → 0 < length ts → x ≡ next_number w.number → place ≡ drawn_by (next_number w.number) (length ts) →
    v ≡ polled_at (record w { number = x }) place (slice_get ts place) → v ≡ polled_of w ts
polls_member w v [] place x some next is h = absurd (omega (arith, some))
polls_member w v (t ∷ ts) place x some next is h =
    h ∙ ap (λ (n : ℕ). polled_at (record w { number = n }) place (slice_get (t ∷ ts) place)) next
    ∙ ap (λ (p : ℕ). polled_at (drawn w) p (slice_get (t ∷ ts) p)) is

-- the reservation that is drawn is started
pub starts_member : (w v : World) (rs : List Reservation) (place x : ℕ) → 0 < length rs → x ≡ next_number w.number → place ≡ drawn_by (next_number w.number) (length rs) →
    StartsAt (record w { number = x }) place (slice_get rs place) v → StartsOf w rs v
starts_member w v [] place x some next is h = absurd (omega (arith, some))
starts_member w v (r ∷ rs) place x some next is h =
    subst (λ (p : ℕ). StartsAt (drawn w) p (slice_get (r ∷ rs) p) v) is
    (subst (λ (n : ℕ). StartsAt (record w { number = n }) place (slice_get (r ∷ rs) place) v) next h)

-- the session that is drawn is ended
pub ends_member : (w v : World) (ks : List Kept) (place x : ℕ) → 0 < length ks → x ≡ next_number w.number → place ≡ drawn_by (next_number w.number) (length ks) →
    EndsAt (record w { number = x }) place (slice_get ks place) v → EndsOf w ks v
ends_member w v [] place x some next is h = absurd (omega (arith, some))
ends_member w v (k ∷ ks) place x some next is h =
    subst (λ (p : ℕ). EndsAt (drawn w) p (slice_get (k ∷ ks) p) v) is
    (subst (λ (n : ℕ). EndsAt (record w { number = n }) place (slice_get (k ∷ ks) place) v) next h)

-- where there is none
pub polls_none : (w : World) (ts : List Ticket) → length ts ≡ 0 → w ≡ polled_of w ts
polls_none w [] h = refl
polls_none w (t ∷ ts) h = absurd (omega (arith, h))

pub starts_none : (w : World) (rs : List Reservation) → length rs ≡ 0 → StartsOf w rs w
starts_none w [] h = refl
starts_none w (r ∷ rs) h = absurd (omega (arith, h))

pub ends_none : (w : World) (ks : List Kept) → length ks ≡ 0 → EndsOf w ks w
ends_none w [] h = refl
ends_none w (k ∷ ks) h = absurd (omega (arith, h))

-- ---- a whole step

pub step_made : (w v : World) (x y m : ℕ) (a : Action) → x ≡ next_number w.number → m ≡ w.moment + drawn_by (next_number w.number) 2_000 → y ≡ next_number x → a ≡ action_of (drawn_by (next_number x) 12) →
    Acts a (record w { number = y; moment = m }) v → StepsOnce w v
step_made w v x y m a ex em ey ea h =
    let rise = w.moment + drawn_by (next_number w.number) 2_000 in
    let timed : Acts a (record w { number = y; moment = rise }) v = subst (λ (k : ℕ). Acts a (record w { number = y; moment = k }) v) em h in
    let numbered : Acts a (record w { number = next_number x; moment = rise }) v = subst (λ (n : ℕ). Acts a (record w { number = n; moment = rise }) v) ey timed in
    let told : Acts (action_of (drawn_by (next_number x) 12)) (record w { number = next_number x; moment = rise }) v = subst (λ (b : Action). Acts b (record w { number = next_number x; moment = rise }) v) ea numbered in
    subst (λ (n : ℕ). Acts (action_of (drawn_by (next_number n) 12)) (record w { number = next_number n; moment = rise }) v) ex told

-- ---- the queue is cleared, or the nodes give a sign of life

pub clears : (w v : World) (x k : ℕ) → x ≡ next_number w.number → k ≡ drawn_by (next_number w.number) 20 → k ≡ 0 → v ≡ called (record w { number = x }) Call.clear → v ≡ cleared_or_beaten (draw w 20) (drawn w)
clears w v x k ex ek none h =
    subst (λ (d : ℕ). v ≡ cleared_or_beaten d (drawn w)) (sym none ∙ ek) (h ∙ ap (λ (n : ℕ). called (record w { number = n }) Call.clear) ex)

not_zero : (d : ℕ) → d ≢ 0 → (d == 0) ≡ false
not_zero zero some = absurd (some refl)
not_zero (suc d) some = grind arith

beats_by : (d : ℕ) (v w : World) → d ≢ 0 → v ≡ beaten (numbers_from 1 8) w → v ≡ cleared_or_beaten d w
beats_by d v w some h = subst (λ (b : Bool). v ≡ (if b then called w Call.clear else beaten (numbers_from 1 8) w)) (sym (not_zero d some)) h

pub beats : (w v : World) (x k : ℕ) → x ≡ next_number w.number → k ≡ drawn_by (next_number w.number) 20 → k ≢ 0 → v ≡ beaten (numbers_from 1 8) (record w { number = x }) → v ≡ cleared_or_beaten (draw w 20) (drawn w)
beats w v x k ex ek some h =
    subst (λ (d : ℕ). v ≡ cleared_or_beaten d (drawn w)) ek (beats_by k v (drawn w) some (h ∙ ap (λ (n : ℕ). beaten (numbers_from 1 8) (record w { number = n })) ex))

-- ---- a node that comes

pub join_made : (w v : World) (i x y z : ℕ) (b : List ℕ) (slots refuses : ℕ) → x ≡ next_number w.number → b ≡ browser_of (drawn_by (next_number w.number) 3) → y ≡ next_number x → slots ≡ 1 + drawn_by (next_number x) 4 →
    z ≡ next_number y → refuses ≡ drawn_by (next_number y) 3 → v ≡ joins_as (record w { number = z }) i b slots refuses → v ≡ joined w i
join_made w v i x y z b slots refuses ex eb ey es ez er h =
    let two = ey ∙ ap next_number ex in
    let three = ez ∙ ap next_number two in
    h ∙ ap (λ (n : ℕ). joins_as (record w { number = n }) i b slots refuses) three
    ∙ ap (λ (c : List ℕ). joins_as (drawn (drawn (drawn w))) i c slots refuses) eb
    ∙ ap (λ (k : ℕ). joins_as (drawn (drawn (drawn w))) i (browser_of (draw w 3)) k refuses) (es ∙ ap (λ (n : ℕ). 1 + drawn_by (next_number n) 4) ex)
    ∙ ap (λ (k : ℕ). joins_as (drawn (drawn (drawn w))) i (browser_of (draw w 3)) (1 + draw (drawn w) 4) k) (er ∙ ap (λ (n : ℕ). drawn_by (next_number n) 3) two)
