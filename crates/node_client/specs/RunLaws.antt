-- What holds of steps and then of more steps holds of both together.
use Rattle.std.proofs.Common.{◌≡◌, ℕ, ◌≤◌, List, [], ◌∷◌, ◌++◌, refl, sym, ap, subst, ◌∙◌, arith}
use Rattle.std.specs.Prelude.{Option, None, Some, IfSome}
use Rattle.grid_outside.specs.Told.{later_by, Pauses, paused, ClockView, Tick}
use Rattle.grid_outside.specs.declared.exchange.Ask.{Ask}
use Rattle.grid_outside.specs.Exchanges.{Came}
use Rattle.grid_types.specs.declared.config.HubConfig.{HubConfig}
use Rattle.grid_types.specs.declared.entry.Entry.{Entry}
use Rattle.node_client.specs.Steps.{Step, Called, Spent, Exchanged, Paused}
use Rattle.node_client.specs.Runs.{Runs, Exchanges, Clocked, KeepsTime, Timed, Still, pauses_after}

pub runs_more : (c : HubConfig) (caller : ℕ) (H M later : List Entry) (steps more : List Step) →
    Runs c caller H steps M → Runs c caller M more later →
    Runs c caller H (steps ++ more) later
unfolding Runs
runs_more c caller H M later [] more p q =
    subst (λ (G : List Entry). Runs c caller G more later) p q
runs_more c caller H M later (Called call at reply ∷ steps) more p q =
    (p.0, p.1, runs_more c caller p.0 M later steps more p.2 q)
runs_more c caller H M later (Spent call at ∷ steps) more p q = absurd p
runs_more c caller H M later (Exchanged address ask came ∷ steps) more p q =
    runs_more c caller H M later steps more p q
runs_more c caller H M later (Paused ms ∷ steps) more p q =
    runs_more c caller H M later steps more p q

pub exchanges_more : {N : Type 0} (gives : N → List ℕ → Ask → Came → N → Type 0) (a b c : N)
    (steps more : List Step) →
    Exchanges gives a steps b → Exchanges gives b more c → Exchanges gives a (steps ++ more) c
unfolding Exchanges
exchanges_more {N} gives a b c [] more p q = subst (λ (n : N). Exchanges gives n more c) p q
exchanges_more gives a b c (Called call at reply ∷ steps) more p q =
    exchanges_more gives a b c steps more p q
exchanges_more gives a b c (Spent call at ∷ steps) more p q =
    exchanges_more gives a b c steps more p q
exchanges_more gives a b c (Exchanged address ask came ∷ steps) more p q =
    (p.0, p.1, exchanges_more gives p.0 b c steps more p.2 q)
exchanges_more gives a b c (Paused ms ∷ steps) more p q = exchanges_more gives a b c steps more p q

pub clocked_more : {C : Type 0} (ticks : C → Tick → ℕ → C → Type 0) (a b c : C) (steps more : List Step) →
    Clocked ticks a steps b → Clocked ticks b more c → Clocked ticks a (steps ++ more) c
unfolding Clocked
clocked_more {C} ticks a b c [] more p q = subst (λ (n : C). Clocked ticks n more c) p q
clocked_more ticks a b c (Called call at reply ∷ steps) more p q =
    (p.0, p.1, clocked_more ticks p.0 b c steps more p.2 q)
clocked_more ticks a b c (Spent call at ∷ steps) more p q =
    (p.0, p.1, clocked_more ticks p.0 b c steps more p.2 q)
clocked_more ticks a b c (Exchanged address ask came ∷ steps) more p q =
    clocked_more ticks a b c steps more p q
clocked_more ticks a b c (Paused ms ∷ steps) more p q =
    (p.0, p.1, p.2, clocked_more ticks p.1 b c steps more p.3 q)

timed_later : (a b c : ℕ) (steps : List Step) → a ≤ b → Timed b steps c → Timed a steps c
unfolding Timed
timed_later a b c [] h t = omega arith
timed_later a b c (Called call at reply ∷ steps) h t = (omega (arith, t.0), t.1)
timed_later a b c (Spent call at ∷ steps) h t = (omega (arith, t.0), t.1)
timed_later a b c (Exchanged address ask came ∷ steps) h t = timed_later a b c steps h t
timed_later a b c (Paused ms ∷ steps) h t = (t.0, omega (arith, t.1), t.2)

pub timed_more : (a b c : ℕ) (steps more : List Step) → Timed a steps b → Timed b more c →
    Timed a (steps ++ more) c
unfolding Timed
timed_more a b c [] more p q = timed_later a b c more p q
timed_more a b c (Called call at reply ∷ steps) more p q = (p.0, timed_more at b c steps more p.1 q)
timed_more a b c (Spent call at ∷ steps) more p q = (p.0, timed_more at b c steps more p.1 q)
timed_more a b c (Exchanged address ask came ∷ steps) more p q = timed_more a b c steps more p q
timed_more a b c (Paused ms ∷ steps) more p q = (p.0, p.1, timed_more p.0 b c steps more p.2 q)

pub still_more : (a b c : ℕ) (steps more : List Step) → Still a steps b → Still b more c →
    Still a (steps ++ more) c
unfolding Still
still_more a b c [] more p q = subst (λ (m : ℕ). Still m more c) p q
still_more a b c (Called call at reply ∷ steps) more p q = (p.0, still_more a b c steps more p.1 q)
still_more a b c (Spent call at ∷ steps) more p q = (p.0, still_more a b c steps more p.1 q)
still_more a b c (Exchanged address ask came ∷ steps) more p q = still_more a b c steps more p q
still_more a b c (Paused ms ∷ steps) more p q = still_more (later_by a ms) b c steps more p q

pub pauses_more : (p : Pauses) (steps more : List Step) →
    pauses_after p (steps ++ more) ≡ pauses_after (pauses_after p steps) more
unfolding pauses_after
pauses_more p [] more = refl
pauses_more p (Called call at reply ∷ steps) more = pauses_more p steps more
pauses_more p (Spent call at ∷ steps) more = pauses_more p steps more
pauses_more p (Exchanged address ask came ∷ steps) more = pauses_more p steps more
pauses_more p (Paused ms ∷ steps) more = pauses_more (paused ms p) steps more

pub keeps_time_more : (a b c : ClockView) (steps more : List Step) → KeepsTime a steps b → KeepsTime b more c →
    KeepsTime a (steps ++ more) c
keeps_time_more a b c steps more p q = record {
  timed = timed_more a.moment b.moment c.moment steps more p.timed q.timed;
  told = by_pauses a.pauses p.told;
}
  where
    by_pauses : (o : Option Pauses) →
        IfSome o (λ pauses. (b.pauses ≡ Some (pauses_after pauses steps)) × Still a.moment steps b.moment) →
        IfSome o (λ pauses. (c.pauses ≡ Some (pauses_after pauses (steps ++ more)))
        × Still a.moment (steps ++ more) c.moment)
    by_pauses None h = tt
    by_pauses (Some pauses) h =
        let next : IfSome (Some (pauses_after pauses steps))
        (λ t. (c.pauses ≡ Some (pauses_after t more)) × Still b.moment more c.moment) =
        subst (λ (o : Option Pauses). IfSome o
        (λ t. (c.pauses ≡ Some (pauses_after t more)) × Still b.moment more c.moment)) h.0 q.told in (
          next.0 ∙ ap Some (sym (pauses_more pauses steps more)),
          still_more a.moment b.moment c.moment steps more h.1 next.1,
        )
