-- What a start wants, once what it hands out was taken.
use Rattle.std.proofs.Common.{◌≡◌, List, ℕ, sym, ap, subst, ◌∙◌}
use Rattle.grid_types.specs.declared.capabilities.Cap.{Cap}
use Rattle.grid_types.specs.declared.entry.FailWhy.{FailWhy}
use Rattle.grid_types.specs.Tokens.{Reservation, Closing}
use Rattle.grid_types.specs.Calls.{Call}
use Rattle.hub_core.specs.declared.answers.Binding.{Binding}
use Rattle.hub_core.specs.declared.answers.Failing.{Failing}
use Rattle.hub_core.specs.Replies.{KeepsReservation}
use Rattle.node_client.specs.declared.wants.CarryAnswer.TheVariants as answers
use Rattle.node_client.specs.declared.carry.Carry.{Carry}
use Rattle.node_client.specs.Steps.{Step}
use Rattle.node_client.specs.Places.{Place, at_bind, at_fail, at_free, Wanted, to_call, wanted_at, Fits}
use Rattle.node_client.specs.Carrying.{Stands, Takes, Bind, Fail, Freed}

pub bind_wanted : (old : Carry) (q : Reservation) (session : List ℕ) (caps : List Cap) →
    ((r : Reservation) (place : Place) (steps : List Step) → Stands old r place steps → (r ≡ q) × (place ≡ at_bind session caps)) →
    (r : Reservation) (place : Place) (steps : List Step) → Stands old r place steps → wanted_at r place ≡ to_call (Call.bind q session caps)
bind_wanted old q session caps call r place steps st =
    let t = call r place steps st in
    ap (wanted_at r) t.1 ∙ ap (λ (k : Reservation). to_call (Call.bind k session caps)) t.0

pub fail_wanted : (old : Carry) (q : Reservation) (y : FailWhy) →
    ((r : Reservation) (place : Place) (steps : List Step) → Stands old r place steps → (r ≡ q) × (place ≡ at_fail y)) →
    (r : Reservation) (place : Place) (steps : List Step) → Stands old r place steps → wanted_at r place ≡ to_call (Call.fail q y)
fail_wanted old q y call r place steps st =
    let t = call r place steps st in
    ap (wanted_at r) t.1 ∙ ap (λ (k : Reservation). to_call (Call.fail k y)) t.0

pub free_wanted : (old : Carry) (c : Closing) →
    ((r : Reservation) (place : Place) (steps : List Step) → Stands old r place steps → place ≡ at_free c) →
    (r : Reservation) (place : Place) (steps : List Step) → Stands old r place steps → wanted_at r place ≡ to_call (Call.freed c)
free_wanted old c call r place steps st = ap (wanted_at r) (call r place steps st)

pub told_bind : (old mid : Carry) (q : Reservation) (session : List ℕ) (caps : List Cap) (b : Binding) → Takes old Bind mid →
    ((r : Reservation) (place : Place) (steps : List Step) → Stands old r place steps → (r ≡ q) × (place ≡ at_bind session caps)) → KeepsReservation q session b →
    (r : Reservation) (place : Place) (steps : List Step) → Stands old r place steps →
    Stands mid r place steps × (wanted_at r place ≡ to_call (Call.bind q session caps)) × Fits (answers.Bound b) (wanted_at r place)
told_bind old mid q session caps b takes call back r place steps st =
    let w = bind_wanted old q session caps call r place steps st in
    (takes.stands r place steps st, w, subst (λ (z : Wanted). Fits (answers.Bound b) z) (sym w) back)

pub told_fail : (old mid : Carry) (q : Reservation) (y : FailWhy) (f : Failing) → Takes old Fail mid →
    ((r : Reservation) (place : Place) (steps : List Step) → Stands old r place steps → (r ≡ q) × (place ≡ at_fail y)) →
    (r : Reservation) (place : Place) (steps : List Step) → Stands old r place steps →
    Stands mid r place steps × (wanted_at r place ≡ to_call (Call.fail q y)) × Fits (answers.Failed f) (wanted_at r place)
told_fail old mid q y f takes call r place steps st =
    let w = fail_wanted old q y call r place steps st in
    (takes.stands r place steps st, w, subst (λ (z : Wanted). Fits (answers.Failed f) z) (sym w) tt)

pub told_free : (old mid : Carry) (c : Closing) → Takes old Freed mid →
    ((r : Reservation) (place : Place) (steps : List Step) → Stands old r place steps → place ≡ at_free c) →
    (r : Reservation) (place : Place) (steps : List Step) → Stands old r place steps →
    Stands mid r place steps × (wanted_at r place ≡ to_call (Call.freed c)) × Fits answers.Freed (wanted_at r place)
told_free old mid c takes call r place steps st =
    let w = free_wanted old c call r place steps st in
    (takes.stands r place steps st, w, subst (λ (z : Wanted). Fits answers.Freed z) (sym w) tt)
