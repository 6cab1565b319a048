-- What is remembered of a walk that found nothing.
use Rattle.std.proofs.Common.{◌≡◌, ℕ, ◌≤◌, ◌<◌, Bool, true, false, cond, ◌&&◌, ◌||◌, List, [], ◌∷◌, refl, sym, subst, ◌∙◌, arith}
use Rattle.std.specs.Prelude.{nat_eq, nat_lt, min}
use Rattle.grid_types.specs.declared.entry.Entry.{Entry}
use Rattle.grid_types.specs.declared.entry.Change.{Change}
use Rattle.grid_types.specs.declared.entry.Change.TheVariants as change
use Rattle.grid_types.specs.declared.names.SlotId.{SlotId}
use Rattle.grid_types.specs.Tables.{entry}
use Rattle.grid_types.specs.Nodes.{is_suspect}
use Rattle.grid_types.specs.Legal.{legal}
use Rattle.grid_types.specs.declared.config.HubConfig.{HubConfig}
use Rattle.grid_types.specs.Slots.{holder, is_free}
use Rattle.grid_types.specs.Requests.{place, is_waiting, deadline_of}
use Rattle.grid_types.specs.Fit.{fits}
use Rattle.grid_types.specs.HistoryLaws.{Known, laws}
use Rattle.request_laws.specs.Memory.{opens_node, opens_request, NothingFits, below_after, but_after, nobody, below_kept}
use Rattle.request_laws.proofs.NarrowLemmas.{entries-narrow, fits-is}

pub off : (b : Bool) → (b ≡ true → true ≡ false) → b ≡ false
off true h = h refl
off false h = refl

pub later-is-narrower : Known → (H : List Entry) (r k : ℕ) (s : SlotId) (early late : ℕ) → early ≤ late → fits H r k s late ≡ true → fits H r k s early ≡ true
later-is-narrower proved H r k s early late h f =
    let told = (laws proved).fits-tells H r k s late f in
    let in_time : nat_lt late (deadline_of H r) ≡ true = told.in_time in
    let waits : is_waiting (place H r) ≡ true = rw told.is_waiting refl in
    let unused : is_free (holder H s) ≡ true = rw told.is_free refl in
    fits-is H r k s early waits (grind arith) unused told.is_up told.not_barred told.below_max told.sessions_left told.matches

pub nothing-at-first : Known → (below from : ℕ) → NothingFits [] below from (λ n. false)
nothing-at-first proved below from = record { none = λ r k s m b f n. off (fits [] r k s m) (λ g. let told = (laws proved).fits-tells [] r k s m g in absurd (let w = told.is_waiting in cc)) }

-- the requests that the change opens are not below its number
closed-request : (ch : Change) (below r : ℕ) → r < below_after ch below → opens_request ch r ≡ false
closed-request (change.Queued q choices d at) below r h = grind arith
closed-request (change.Failed q t w o false at) below r h = grind arith
closed-request (change.Failed q t w o true at) below r h = grind arith
closed-request ch below r h = refl

still-below : (ch : Change) (below r : ℕ) → r < below_after ch below → r < below
still-below (change.Queued q choices d at) below r h = grind arith
still-below (change.Failed q t w o false at) below r h = grind arith
still-below ch below r h = h

pub nothing-stays : Known → (c : HubConfig) (H : List Entry) (caller : ℕ) (ch : Change) (below from : ℕ) (but : ℕ → Bool) → legal c (entry caller ch ∷ H) ≡ true →
    NothingFits H below from but → NothingFits (entry caller ch ∷ H) (below_after ch below) from (but_after H ch but)
nothing-stays proved c H caller ch below from but l before = record {
  none = λ r k s m b f n. off (fits (entry caller ch ∷ H) r k s m) (λ g.
      let named : but s.node ≡ false = first (but s.node) (opens_node H ch s.node) n in
      let closed : opens_node H ch s.node ≡ false = second (but s.node) (opens_node H ch s.node) n in
      let fitted : fits H r k s m ≡ true = entries-narrow proved c H caller ch r k s m l closed (closed-request ch below r b) g in
      sym fitted ∙ before.none r k s m (still-below ch below r b) f named);
}
  where
    first : (a b : Bool) → (a || b) ≡ false → a ≡ false
    first a b h = grind arith

    second : (a b : Bool) → (a || b) ≡ false → b ≡ false
    second a b h = grind arith

-- an entry that opens neither a node nor a request below the number
kept-where : Known → (c : HubConfig) (H : List Entry) (caller : ℕ) (ch : Change) (below less from : ℕ) → legal c (entry caller ch ∷ H) ≡ true → ((n : ℕ) → opens_node H ch n ≡ false) →
    ((r : ℕ) → r < less → opens_request ch r ≡ false) → ((r : ℕ) → r < less → r < below) →
    NothingFits H below from nobody → NothingFits (entry caller ch ∷ H) less from nobody
kept-where proved c H caller ch below less from l nodes requests within before = record {
  none = λ r k s m b f n. off (fits (entry caller ch ∷ H) r k s m) (λ g.
      let fitted : fits H r k s m ≡ true = entries-narrow proved c H caller ch r k s m l (nodes s.node) (requests r b) g in
      sym fitted ∙ before.none r k s m (within r b) f refl);
}

nothing-below : (H : List Entry) (from : ℕ) → NothingFits H 0 from nobody
nothing-below H from = record { none = λ r k s m b f n. absurd (omega arith) }

-- a beat of a node that is not suspect opens no node
quiet-beat : (H : List Entry) (m n : ℕ) (b : Bool) → nat_eq m n ≡ b → is_suspect H m ≡ false → (b && is_suspect H n) ≡ false
quiet-beat H m n true e calm = let same : m ≡ n = grind arith in subst (λ (z : ℕ). is_suspect H z ≡ false) same calm
quiet-beat H m n false e calm = refl

pub below-stays : Known → (c : HubConfig) (H : List Entry) (caller : ℕ) (ch : Change) (below from : ℕ) → legal c (entry caller ch ∷ H) ≡ true →
    NothingFits H below from nobody → NothingFits (entry caller ch ∷ H) (below_kept H ch below) from nobody
below-stays proved c H caller (change.Registered n r at) below from l before = nothing-below _ from
below-stays proved c H caller (change.Failed q t w o last at) below from l before = nothing-below _ from
below-stays proved c H caller (change.Freed t) below from l before = nothing-below _ from
below-stays proved c H caller (change.Beaten m at) below from l before = by_suspect (is_suspect H m) refl
  where
    by_suspect : (b : Bool) → is_suspect H m ≡ b → NothingFits (entry caller (change.Beaten m at) ∷ H) (cond b 0 below) from nobody
    by_suspect true e = nothing-below _ from
    by_suspect false e = kept-where proved c H caller (change.Beaten m at) below below from l (λ n. quiet-beat H m n (nat_eq m n) refl e) (λ r b. refl) (λ r b. b) before
below-stays proved c H caller (change.Queued q choices d at) below from l before =
    kept-where proved c H caller (change.Queued q choices d at) below (min below q) from l (λ n. refl) (λ r b. grind arith) (λ r b. grind arith) before
below-stays proved c H caller ch below from l before = kept-where proved c H caller ch below below from l (λ n. refl) (λ r b. refl) (λ r b. b) before
