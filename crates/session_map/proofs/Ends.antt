-- What an Ended does to what the table keeps under a session's id.
use Rattle.std.proofs.Common.{◌≡◌, ℕ, Bool, true, false, cond, List, ◌∷◌, refl, sym, subst, ◌∙◌, arith}
use Rattle.std.specs.Prelude.{Option, None, Some, nat_eq, bytes_eq, option_map}
use Rattle.grid_types.specs.declared.entry.Entry.{Entry}
use Rattle.grid_types.specs.declared.entry.Change.TheVariants as change
use Rattle.grid_types.specs.declared.entry.EndCause.{EndCause}
use Rattle.grid_types.specs.declared.names.Moment.{Moment}
use Rattle.grid_types.specs.declared.config.HubConfig.{HubConfig}
use Rattle.grid_types.specs.Bindings.{Running, bound_of}
use Rattle.grid_types.specs.Sessions.{IsRunning, is_live, live}
use Rattle.grid_types.specs.HubAnswers.{is_binding}
use Rattle.grid_types.specs.Legal.{legal}
use Rattle.session_map.specs.declared.live_map.LiveSession.{LiveSession}
use Rattle.grid_types.specs.Tables.{entry}
use Rattle.grid_types.specs.HistoryLaws.{Known, laws}
use Rattle.session_map.specs.Names.{session_eq}
use Rattle.session_map.specs.Table.{running, session_row, place_row, place_of}
use Rattle.session_map.proofs.SessionNames.{session_eq-is}

-- a binding that has a row runs
pub record RunsUnder (H : List Entry) (b : ℕ) (row : LiveSession) : Type 0 where
  pub which : Running
  pub bound : bound_of H b ≡ Some which
  pub live : is_live H b ≡ true
  pub session : which.session ≡ row.session
  pub runs : IsRunning H which

pub row-runs : Known → (H : List Entry) (b : ℕ) (row : LiveSession) → session_row H b ≡ Some row → RunsUnder H b row
row-runs proved H b row h = by_bound (bound_of H b) refl (is_live H b) refl
  where
    by_bound : (o : Option Running) → bound_of H b ≡ o → (v : Bool) → is_live H b ≡ v → RunsUnder H b row
    by_bound None d v e = absurd (grind arith)
    by_bound (Some x) d false e = absurd (grind arith)
    by_bound (Some x) d true e =
        let own : x.binding ≡ b = (laws proved).bound-binding H b x d in
        let At : ℕ → Type 0 = λ z. bound_of H z ≡ Some x in
        let bound : bound_of H x.binding ≡ Some x = subst At (sym own) d in
        let Lives : ℕ → Type 0 = λ z. is_live H z ≡ true in
        let lives : is_live H x.binding ≡ true = subst Lives (sym own) e in
        record { which = x; bound = d; live = e; session = grind arith; runs = record { bound = bound; live = lives } }

-- a session that is live under a binding has a row there
pub live-row : Known → (c : HubConfig) (H : List Entry) (s : List ℕ) (z : Running) → legal c H ≡ true → live H s ≡ Some z → running H z.binding ≡ Some z
live-row proved c H s z l e = let r : IsRunning H z × (z.session ≡ s) = (laws proved).running-live c H s z l e in rw (r.0.bound) (rw (r.0.live) refl)

pub place-Ended : Known → (c : HubConfig) (H : List Entry) (k q : ℕ) (cause : EndCause) (at : Moment) (s : List ℕ) (row : LiveSession) → legal c H ≡ true →
    session_row H q ≡ Some row → place_row (entry k (change.Ended q cause at) ∷ H) s ≡ cond (session_eq row.session s) None (place_row H s)
place-Ended proved c H k q cause at s row l h = rw ((laws proved).live-Ended H k q cause at s, session_eq-is row.session s, ← r.session) (by_live (live H s) refl (bytes_eq r.which.session s) refl)
  where
    r : RunsUnder H q row
    r = row-runs proved H q row h

    by_live : (o : Option Running) → live H s ≡ o → (v : Bool) → bytes_eq r.which.session s ≡ v →
        option_map place_of (cond (is_binding q (live H s)) None (live H s)) ≡ cond (bytes_eq r.which.session s) None (place_row H s)
    by_live None e true d = rw (e, d) refl
    by_live None e false d = rw (e, d) refl
    by_live (Some z) e v d =
        let there : IsRunning H z × (z.session ≡ s) = (laws proved).running-live c H s z l e in
        by_binding (nat_eq z.binding q) refl v d there
      where
        by_binding : (w : Bool) → nat_eq z.binding q ≡ w → (v : Bool) → bytes_eq r.which.session s ≡ v → IsRunning H z × (z.session ≡ s) →
            option_map place_of (cond (is_binding q (live H s)) None (live H s)) ≡ cond (bytes_eq r.which.session s) None (place_row H s)
        by_binding true f true d t = rw (e, d) (rw f refl)
        by_binding false f false d t = rw (e, d) (rw f refl)
        by_binding true f false d t =
            let same : z.binding ≡ q = grind arith in
            let At : ℕ → Type 0 = λ z'. bound_of H z' ≡ Some z in
            let one : Some z ≡ Some r.which = sym (subst At same t.0.bound) ∙ r.bound in
            let session : r.which.session ≡ s = grind (arith, t.1) in
            let hit : bytes_eq r.which.session s ≡ true = rw session ((laws proved).bytes_eq-same s) in
            absurd (grind arith)
        by_binding false f true d t =
            let session : r.which.session ≡ s = (laws proved).bytes_eq-is r.which.session s d in
            let here : live H s ≡ Some r.which = (laws proved).live-of c H s r.which l r.runs session in
            let one : Some z ≡ Some r.which = sym e ∙ here in
            let own : r.which.binding ≡ q = (laws proved).bound-binding H q r.which r.bound in
            let same : nat_eq z.binding q ≡ true = grind arith in
            absurd (grind arith)

pub place-Ended_none : Known → (c : HubConfig) (H : List Entry) (k q : ℕ) (cause : EndCause) (at : Moment) (s : List ℕ) → legal c H ≡ true →
    session_row H q ≡ None → place_row (entry k (change.Ended q cause at) ∷ H) s ≡ place_row H s
place-Ended_none proved c H k q cause at s l h = rw ((laws proved).live-Ended H k q cause at s) (by_live (live H s) refl)
  where
    by_live : (o : Option Running) → live H s ≡ o → option_map place_of (cond (is_binding q (live H s)) None (live H s)) ≡ place_row H s
    by_live None e = rw e refl
    by_live (Some z) e = by_binding (nat_eq z.binding q) refl (live-row proved c H s z l e)
      where
        by_binding : (w : Bool) → nat_eq z.binding q ≡ w → running H z.binding ≡ Some z → option_map place_of (cond (is_binding q (live H s)) None (live H s)) ≡ place_row H s
        by_binding false f t = rw e (rw f refl)
        by_binding true f t =
            let same : z.binding ≡ q = grind arith in
            let At : ℕ → Type 0 = λ z'. running H z' ≡ Some z in
            let there : running H q ≡ Some z = subst At same t in
            absurd (grind arith)
