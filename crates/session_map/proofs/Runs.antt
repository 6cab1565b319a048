-- What is kept under a binding tells whether it is live.
use Rattle.std.proofs.Common.{◌≡◌, ℕ, Bool, true, false, List, refl, ap, subst, arith}
use Rattle.std.specs.Prelude.{Option, None, Some, is_some, option_map}
use Rattle.grid_types.specs.declared.entry.Entry.{Entry}
use Rattle.grid_types.specs.Lists.{kept}
use Rattle.grid_types.specs.Bindings.{Running, bound_of}
use Rattle.grid_types.specs.Sessions.{is_live, active}
use Rattle.grid_types.specs.HistoryLaws.{Known, laws}
use Rattle.session_map.specs.declared.live_map.LiveSession.{LiveSession}
use Rattle.session_map.specs.Table.{RunsSince, session_row}

-- the row of a binding, by whether it is live, its Bound and its last use
abbrev row_by : Bool → Option Running → ℕ → Option LiveSession
row_by v o used = option_map (λ x. record { session = x.session; slot = x.slot; active = record { 0 = used } }) (kept (λ x. v) o)

-- what the row tells of these
record RowSays (v : Bool) (o : Option Running) (used : ℕ) (x : LiveSession) : Type 0 where
  live_now : v ≡ true
  runs_in : option_map (λ r. r.slot) o ≡ Some x.slot
  used_at : x.active.0 ≡ used

says : (v : Bool) (o : Option Running) (used : ℕ) (x : LiveSession) → Some x ≡ row_by v o used → RowSays v o used x
says true None used x is = absurd (cc)
says true (Some y) used x is = record { live_now = refl; runs_in = grind arith; used_at = grind arith }
says false None used x is = absurd (cc)
says false (Some y) used x is = absurd (cc)

none_says : (v : Bool) (o : Option Running) (used : ℕ) → (v ≡ true → is_some o ≡ true) → None ≡ row_by v o used → v ≡ false
none_says true None used there is = absurd (let never : false ≡ true = there refl in cc)
none_says true (Some y) used there is = absurd (cc)
none_says false o used there is = refl

-- a live binding has its Bound
bound_there : Known → (H : List Entry) (b : ℕ) → is_live H b ≡ true → is_some (bound_of H b) ≡ true
bound_there proved H b live =
    let x = (laws proved).running-of H b live in
    ap is_some (subst (λ (n : ℕ). bound_of H n ≡ Some x.0) x.2 x.1.bound)

pub no_row : Known → (H : List Entry) (b : ℕ) → None ≡ session_row H b → is_live H b ≡ false
no_row proved H b is = none_says (is_live H b) (bound_of H b) (active H b) (bound_there proved H b) is

pub row_tells : (H : List Entry) (b : ℕ) (x : LiveSession) → Some x ≡ session_row H b → RunsSince H b x.slot x.active
row_tells H b x is =
    let tells = says (is_live H b) (bound_of H b) (active H b) x is in
    record { live_now = tells.live_now; runs_in = tells.runs_in; used_at = tells.used_at }
