-- What an entry that opens neither node nor request leaves of what fits.
use Rattle.std.proofs.Common.{◌≡◌, ℕ, ◌+◌, ◌≤◌, Bool, true, false, cond, not, ◌&&◌, ◌||◌, List, [], ◌∷◌, map, refl, sym, ap, ◌∙◌, subst, arith}
use Rattle.std.specs.Prelude.{Option, None, Some, nat_eq, nat_lt, is_some, unwrap_or}
use Rattle.grid_types.specs.declared.entry.Entry.{Entry}
use Rattle.grid_types.specs.declared.entry.Change.{Change}
use Rattle.grid_types.specs.declared.entry.Change.TheVariants as change
use Rattle.grid_types.specs.declared.entry.Outcome.{Outcome}
use Rattle.grid_types.specs.declared.names.SlotId.{SlotId}
use Rattle.grid_types.specs.declared.names.Moment.{Moment}
use Rattle.grid_types.specs.declared.capabilities.Cap.{Cap}
use Rattle.grid_types.specs.declared.config.HubConfig.{HubConfig}
use Rattle.grid_types.specs.declared.view.Standing.{Standing}
use Rattle.grid_types.specs.declared.view.Standing.TheVariants as standing
use Rattle.grid_types.specs.Lists.{when, or_else, earlier, how_many, numbers_from}
use Rattle.grid_types.specs.Tables.{entry}
use Rattle.grid_types.specs.Nodes.{is_up, is_base_up, stands_up, stands_registered, base_of, suspicion_told, is_suspected, max_of, registration_of, stereotypes_of, drain_after_of, bound_count}
use Rattle.grid_types.specs.Bindings.{bound_slot}
use Rattle.grid_types.specs.Slots.{Holder, free, held, busy, closing, holder, is_free, is_busy, is_held_slot, slot_eq, names_slot, load, held_count, slot_at, slots_of}
use Rattle.grid_types.specs.Requests.{place, place_by, is_waiting, is_taken, outcome_of, is_reserved, held_told, asked_of, deadline_of, is_barred}
use Rattle.grid_types.specs.History.{last_told}
use Rattle.grid_types.specs.Fit.{fits, matches_slot, is_below_limit, has_sessions_left}
use Rattle.grid_types.specs.Permitted.{permitted}
use Rattle.grid_types.specs.Legal.{legal}
use Rattle.grid_types.specs.HistoryLaws.{Known, laws}
use Rattle.request_laws.specs.Memory.{opens_node, opens_request}

-- places
taken-more : (b t : Bool) (o : Option Outcome) (v a : Bool) → is_waiting (place_by (b || t) o v a) ≡ true → is_waiting (place_by t o v a) ≡ true
taken-more true t o v a h = absurd (cc)
taken-more false t o v a h = h

settled-more : (b t : Bool) (x : Outcome) (o : Option Outcome) (v a : Bool) → is_waiting (place_by t (earlier o (when b x)) v a) ≡ true → is_waiting (place_by t o v a) ≡ true
settled-more false t x o v a h = h
settled-more true true x o v a h = absurd (cc)
settled-more true false x o v a h = absurd (cc)

held-never : (t : Bool) (o : Option Outcome) (a : Bool) → is_waiting (place_by t o true a) ≡ true → {X : Type 0} → X
held-never true o a h = absurd (cc)
held-never false (Some o) a h = absurd (cc)
held-never false None a h = absurd (cc)

held-more : (b t : Bool) (o : Option Outcome) (last : Option Bool) (a : Bool) → is_waiting (place_by t o (unwrap_or (or_else (when b true) last) false) a) ≡ true → is_waiting (place_by t o (unwrap_or last false) a) ≡ true
held-more true t o last a h = held-never t o a h
held-more false t o last a h = h

failed-more : (b last t : Bool) (x : Outcome) (o : Option Outcome) (told : Option Bool) (a : Bool) → (b && not last) ≡ false →
    is_waiting (place_by t (earlier o (when (b && last) x)) (unwrap_or (or_else (when b false) told) false) a) ≡ true → is_waiting (place_by t o (unwrap_or told false) a) ≡ true
failed-more false last t x o told a e h = h
failed-more true true true x o told a e h = absurd (cc)
failed-more true true false x o told a e h = absurd (cc)
failed-more true false t x o told a e h = absurd (cc)

pub waits-before : (H : List Entry) (k : ℕ) (ch : Change) (r : ℕ) → opens_request ch r ≡ false → is_waiting (place (entry k ch ∷ H) r) ≡ true → is_waiting (place H r) ≡ true
waits-before H k (change.Queued q choices d at) r off h = let other : nat_eq q r ≡ false = off in rw other at h
waits-before H k (change.Reserved q t choice at) r off h = held-more (nat_eq q r) (is_taken H r) (outcome_of H r) (last_told (λ _ e. held_told r e.change) H) (is_some (asked_of H r)) h
waits-before H k (change.Bound q t x caps at) r off h = settled-more (nat_eq q r) (is_taken H r) _ (outcome_of H r) (is_reserved H r) (is_some (asked_of H r)) h
waits-before H k (change.Failed q t w o last at) r off h = failed-more (nat_eq q r) last (is_taken H r) _ (outcome_of H r) (last_told (λ _ e. held_told r e.change) H) (is_some (asked_of H r)) off h
waits-before H k (change.TimedOut q at) r off h = settled-more (nat_eq q r) (is_taken H r) _ (outcome_of H r) (is_reserved H r) (is_some (asked_of H r)) h
waits-before H k (change.Cleared q at) r off h = settled-more (nat_eq q r) (is_taken H r) _ (outcome_of H r) (is_reserved H r) (is_some (asked_of H r)) h
waits-before H k (change.Taken q at) r off h = taken-more (nat_eq q r) (is_taken H r) (outcome_of H r) (is_reserved H r) (is_some (asked_of H r)) h
waits-before H k ch r off h = h

-- what was asked
pub asked-same : (H : List Entry) (k : ℕ) (ch : Change) (r : ℕ) → opens_request ch r ≡ false → asked_of (entry k ch ∷ H) r ≡ asked_of H r
asked-same H k (change.Queued q choices d at) r off = let other : nat_eq q r ≡ false = off in rw other refl
asked-same H k ch r off = refl

-- nodes
up-never : (x : Standing) (b : Bool) (o : Option Standing) → stands_up (Some x) ≡ false → stands_up (or_else (when b x) o) ≡ true → stands_up o ≡ true
up-never x true o e h = absurd (let both : true ≡ false = sym h ∙ e in cc)
up-never x false o e h = h

base_up-before : (H : List Entry) (k : ℕ) (ch : Change) (n : ℕ) → opens_node H ch n ≡ false → is_base_up (entry k ch ∷ H) n ≡ true → is_base_up H n ≡ true
base_up-before H k (change.Registered m r at) n off h = let other : nat_eq m n ≡ false = off in rw other at h
base_up-before H k (change.Draining m at) n off h = up-never standing.Draining (nat_eq m n) (base_of H n) refl h
base_up-before H k (change.Removed m at) n off h = up-never standing.Gone (nat_eq m n) (base_of H n) refl h
base_up-before H k (change.Lapsed m at) n off h = up-never standing.Down (nat_eq m n) (base_of H n) refl h
base_up-before H k ch n off h = h

-- a node is up where its base is and it is not suspected
up-parts : (o : Option Standing) (suspected : Bool) → stands_up (cond (stands_registered o && suspected) (Some standing.Suspect) o) ≡ true →
    (stands_up o ≡ true) × (suspected ≡ false)
up-parts (Some standing.Up) true h = absurd (cc)
up-parts (Some standing.Up) false h = (refl, refl)
up-parts (Some standing.Draining) true h = absurd (cc)
up-parts (Some standing.Draining) false h = absurd (cc)
up-parts (Some standing.Down) b h = absurd (cc)
up-parts (Some standing.Gone) b h = absurd (cc)
up-parts (Some standing.Suspect) b h = absurd (cc)
up-parts None b h = absurd (cc)

parts-up : (o : Option Standing) (suspected : Bool) → stands_up o ≡ true → suspected ≡ false →
    stands_up (cond (stands_registered o && suspected) (Some standing.Suspect) o) ≡ true
parts-up (Some standing.Up) false h e = refl
parts-up (Some standing.Up) true h e = absurd (cc)
parts-up (Some standing.Draining) b h e = absurd (cc)
parts-up (Some standing.Down) b h e = absurd (cc)
parts-up (Some standing.Gone) b h e = absurd (cc)
parts-up (Some standing.Suspect) b h e = absurd (cc)
parts-up None b h e = absurd (cc)

told-more : (b : Bool) (told : Option Bool) → unwrap_or (or_else (when b true) told) false ≡ false → unwrap_or told false ≡ false
told-more true told h = absurd (cc)
told-more false told h = h

not-suspected : (o : Option Standing) (suspected : Bool) → stands_up o ≡ true → (stands_registered o && suspected) ≡ false → suspected ≡ false
not-suspected (Some standing.Up) b h e = e
not-suspected (Some standing.Draining) b h e = e
not-suspected (Some standing.Down) b h e = absurd (cc)
not-suspected (Some standing.Gone) b h e = absurd (cc)
not-suspected (Some standing.Suspect) b h e = absurd (cc)
not-suspected None b h e = absurd (cc)

unsuspected-before : (H : List Entry) (k : ℕ) (ch : Change) (n : ℕ) → opens_node H ch n ≡ false → is_base_up H n ≡ true →
    is_suspected (entry k ch ∷ H) n ≡ false → is_suspected H n ≡ false
unsuspected-before H k (change.Suspected m at) n off up h = told-more (nat_eq m n) (last_told (λ _ e. suspicion_told n e.change) H) h
unsuspected-before H k (change.Beaten m at) n off up h = by_node (nat_eq m n) refl
  where
    by_node : (b : Bool) → nat_eq m n ≡ b → is_suspected H n ≡ false
    by_node true e = not-suspected (base_of H n) (is_suspected H n) up (rw e at off)
    by_node false e = rw e at h
unsuspected-before H k ch n off up h = h

pub up-before : (H : List Entry) (k : ℕ) (ch : Change) (n : ℕ) → opens_node H ch n ≡ false → is_up (entry k ch ∷ H) n ≡ true → is_up H n ≡ true
up-before H k ch n off h =
    let parts = up-parts (base_of (entry k ch ∷ H) n) (is_suspected (entry k ch ∷ H) n) h in
    let up : is_base_up H n ≡ true = base_up-before H k ch n off parts.0 in
    parts-up (base_of H n) (is_suspected H n) up (unsuspected-before H k ch n off up parts.1)

pub base_up-now : (G : List Entry) (n : ℕ) → is_up G n ≡ true → is_base_up G n ≡ true
base_up-now G n h = (up-parts (base_of G n) (is_suspected G n) h).0

pub registration-same : (H : List Entry) (k : ℕ) (ch : Change) (n : ℕ) → opens_node H ch n ≡ false → registration_of (entry k ch ∷ H) n ≡ registration_of H n
registration-same H k (change.Registered m r at) n off = let other : nat_eq m n ≡ false = off in rw other refl
registration-same H k ch n off = refl

-- slots
used-more : (x : Holder) (b : Bool) (before : Holder) → is_free x ≡ false → is_free (unwrap_or (when b x) before) ≡ true → is_free before ≡ true
used-more x true before e h = absurd (let both : true ≡ false = sym h ∙ e in cc)
used-more x false before e h = h

other-slot : (t s : SlotId) → nat_eq t.node s.node ≡ false → slot_eq t s ≡ false
other-slot t s e = rw e refl

lapsed-slot : (b : Bool) (before : Holder) (o : Option Standing) → stands_up (or_else (when b standing.Down) o) ≡ true → is_free (unwrap_or (when (b && is_busy before) free) before) ≡ true → is_free before ≡ true
lapsed-slot true before o u h = absurd (cc)
lapsed-slot false before o u h = h

pub free-before : (H : List Entry) (k : ℕ) (ch : Change) (s : SlotId) → opens_node H ch s.node ≡ false → is_base_up (entry k ch ∷ H) s.node ≡ true →
    is_free (holder (entry k ch ∷ H) s) ≡ true → is_free (holder H s) ≡ true
free-before H k (change.Reserved q t choice at) s off u h = used-more (held q) (slot_eq t s) (holder H s) refl h
free-before H k (change.Bound q t x caps at) s off u h = used-more (busy x) (slot_eq t s) (holder H s) refl h
free-before H k (change.Failed q t w o last at) s off u h = let other : slot_eq t s ≡ false = other-slot t s off in rw other at h
free-before H k (change.Freed t) s off u h = let other : slot_eq t s ≡ false = other-slot t s off in rw other at h
free-before H k (change.Ended b c at) s off u h = used-more closing (names_slot s (bound_slot H b)) (holder H s) refl h
free-before H k (change.Lapsed m at) s off u h = lapsed-slot (nat_eq m s.node) (holder H s) (base_of H s.node) u h
free-before H k ch s off u h = h

-- loads
fewer : (n : ℕ) (p q : SlotId → Bool) (is : List ℕ) → ((i : ℕ) → p (slot_at n i) ≡ true → q (slot_at n i) ≡ true) → how_many p (map (slot_at n) is) ≤ how_many q (map (slot_at n) is)
fewer n p q [] h = omega arith
fewer n p q (i ∷ is) h = by_test (p (slot_at n i)) (q (slot_at n i)) (h i) (fewer n p q is h)
  where
    by_test : (v w : Bool) → (v ≡ true → w ≡ true) → how_many p (map (slot_at n) is) ≤ how_many q (map (slot_at n) is) →
        cond v 1 0 + how_many p (map (slot_at n) is) ≤ cond w 1 0 + how_many q (map (slot_at n) is)
    by_test true true e rest = omega arith
    by_test true false e rest = absurd (let both : false ≡ true = e refl in cc)
    by_test false true e rest = omega arith
    by_test false false e rest = omega arith

used-after : (x y : Holder) → (is_free y ≡ true → is_free x ≡ true) → not (is_free x) ≡ true → not (is_free y) ≡ true
used-after x y h e = by_free (is_free y) refl
  where
    by_free : (v : Bool) → is_free y ≡ v → not v ≡ true
    by_free true f = absurd (let g : is_free x ≡ true = h f in grind arith)
    by_free false f = refl

pub load-before : (H : List Entry) (k : ℕ) (ch : Change) (n : ℕ) → opens_node H ch n ≡ false → is_base_up (entry k ch ∷ H) n ≡ true → load H n ≤ load (entry k ch ∷ H) n
load-before H k ch n off u =
    let same : registration_of (entry k ch ∷ H) n ≡ registration_of H n = registration-same H k ch n off in
    let slots : slots_of (entry k ch ∷ H) n ≡ slots_of H n = rw same refl in
    let more = fewer n (λ s. not (is_free (holder H s))) (λ s. not (is_free (holder (entry k ch ∷ H) s))) (numbers_from 0 (Rattle.std.specs.Prelude.length (stereotypes_of H n)))
    (λ i e. used-after (holder H (slot_at n i)) (holder (entry k ch ∷ H) (slot_at n i)) (free-before H k ch (slot_at n i) off u) e) in
    subst (λ (ss : List SlotId). load H n ≤ how_many (λ s. not (is_free (holder (entry k ch ∷ H) s))) ss) (sym slots) more

-- the sessions that were bound on the node with its held slots
held-after : (b : Bool) (q : ℕ) (before : Holder) → is_held_slot before ≡ true → is_held_slot (unwrap_or (when b (held q)) before) ≡ true
held-after true q before h = refl
held-after false q before h = h

same-sum : (H G : List Entry) (n : ℕ) → bound_count G n ≡ bound_count H n → held_count G n ≡ held_count H n →
    bound_count H n + held_count H n ≤ bound_count G n + held_count G n
same-sum H G n b h = omega (arith, b, h)

-- an entry that names a slot of another node
elsewhere : Known → (H G : List Entry) (t : SlotId) (n : ℕ) → stereotypes_of G n ≡ stereotypes_of H n → nat_eq t.node n ≡ false →
    ((s : SlotId) → slot_eq t s ≡ false → holder G s ≡ holder H s) → held_count G n ≡ held_count H n
elsewhere proved H G t n slots off same = (laws proved).held-same H G n slots
    (λ s on. let other : slot_eq t s ≡ false = other-slot t s (let At : ℕ → Type 0 = λ m. nat_eq t.node m ≡ false in subst At (sym on) off) in ap is_held_slot (same s other))

-- a bind makes one of the held slots one session more
bound-sum : Known → (c : HubConfig) (H : List Entry) (k q : ℕ) (t : SlotId) (x : List ℕ) (caps : List Cap) (at : Moment) → legal c H ≡ true →
    permitted c H k (change.Bound q t x caps at) ≡ true → bound_count H t.node + held_count H t.node
    ≤ bound_count (entry k (change.Bound q t x caps at) ∷ H) t.node + held_count (entry k (change.Bound q t x caps at) ∷ H) t.node
bound-sum proved c H k q t x caps at l p =
    let own : nat_eq t.node t.node ≡ true = grind arith in
    let one_more : bound_count (entry k (change.Bound q t x caps at) ∷ H) t.node ≡ bound_count H t.node + 1 =
    (laws proved).count-moves.bound H k q t.node t x caps at ∙ ap (λ (b : Bool). cond b (bound_count H t.node + 1) (bound_count H t.node)) own in
    let one_less = (laws proved).held-Bound c H k q t x caps at l p in
    omega (arith, one_more, one_less)

pub sum-before : Known → (c : HubConfig) (H : List Entry) (k : ℕ) (ch : Change) (n : ℕ) → legal c H ≡ true → permitted c H k ch ≡ true → opens_node H ch n ≡ false →
    bound_count H n + held_count H n ≤ bound_count (entry k ch ∷ H) n + held_count (entry k ch ∷ H) n
sum-before proved c H k (change.Registered m r at) n l p off = same-sum H (entry k (change.Registered m r at) ∷ H) n ((laws proved).count-moves.others H k n (change.Registered m r at) refl)
    ((laws proved).held-same H (entry k (change.Registered m r at) ∷ H) n (rw off refl) (λ s on. refl))
sum-before proved c H k (change.Reserved q t choice at) n l p off =
    let count : bound_count (entry k (change.Reserved q t choice at) ∷ H) n ≡ bound_count H n = (laws proved).count-moves.others H k n (change.Reserved q t choice at) refl in
    let more = fewer n (λ s. is_held_slot (holder H s)) (λ s. is_held_slot (holder (entry k (change.Reserved q t choice at) ∷ H) s)) (numbers_from 0 (Rattle.std.specs.Prelude.length (stereotypes_of H n)))
    (λ i e. held-after (slot_eq t (slot_at n i)) q (holder H (slot_at n i)) e) in
    let no_less : held_count H n ≤ held_count (entry k (change.Reserved q t choice at) ∷ H) n = more in
    omega (arith, count, no_less)
sum-before proved c H k (change.Bound q t x caps at) n l p off = by_node (nat_eq t.node n) refl
  where
    Grows : ℕ → Type 0
    Grows z = bound_count H z + held_count H z ≤ bound_count (entry k (change.Bound q t x caps at) ∷ H) z + held_count (entry k (change.Bound q t x caps at) ∷ H) z

    by_node : (b : Bool) → nat_eq t.node n ≡ b → Grows n
    by_node true e = let same : t.node ≡ n = grind arith in subst Grows same (bound-sum proved c H k q t x caps at l p)
    by_node false e = same-sum H (entry k (change.Bound q t x caps at) ∷ H) n ((laws proved).count-moves.others H k n (change.Bound q t x caps at) e)
        (elsewhere proved H (entry k (change.Bound q t x caps at) ∷ H) t n refl e (λ s other. rw other refl))
sum-before proved c H k (change.Failed q t w o last at) n l p off = same-sum H (entry k (change.Failed q t w o last at) ∷ H) n ((laws proved).count-moves.others H k n (change.Failed q t w o last at) refl)
    (elsewhere proved H (entry k (change.Failed q t w o last at) ∷ H) t n refl off (λ s other. rw other refl))
sum-before proved c H k (change.Freed t) n l p off = same-sum H (entry k (change.Freed t) ∷ H) n ((laws proved).count-moves.others H k n (change.Freed t) refl)
    (elsewhere proved H (entry k (change.Freed t) ∷ H) t n refl off (λ s other. rw other refl))
sum-before proved c H k (change.Ended b e at) n l p off = same-sum H (entry k (change.Ended b e at) ∷ H) n ((laws proved).count-moves.others H k n (change.Ended b e at) refl)
    ((laws proved).held-Ended c H k b n e at l p)
sum-before proved c H k (change.Lapsed m at) n l p off = same-sum H (entry k (change.Lapsed m at) ∷ H) n ((laws proved).count-moves.others H k n (change.Lapsed m at) refl)
    ((laws proved).held-Lapsed H k m n at)
sum-before proved c H k ch n l p off = omega arith

fewer-below : (o : Option ℕ) (x y : ℕ) → x ≤ y → is_below_limit o y ≡ true → is_below_limit o x ≡ true
fewer-below None x y h e = refl
fewer-below (Some most) x y h e = grind arith

-- bars
any-less : (b v : Bool) → (b || v) ≡ false → v ≡ false
any-less b v h = grind arith

pub fits-is : (H : List Entry) (r k : ℕ) (s : SlotId) (m : ℕ) → is_waiting (place H r) ≡ true → nat_lt m (deadline_of H r) ≡ true → is_free (holder H s) ≡ true → is_up H s.node ≡ true → is_barred H r s.node ≡ false →
    nat_lt (load H s.node) (max_of H s.node) ≡ true → has_sessions_left H s.node ≡ true → matches_slot H r k s ≡ true → fits H r k s m ≡ true
unfolding fits
fits-is H r k s m w t f u b l left e = rw (w, t, f, u, b, l, left, e) refl

pub entries-narrow : Known → (c : HubConfig) (H : List Entry) (caller : ℕ) (ch : Change) (r k : ℕ) (s : SlotId) (m : ℕ) → legal c (entry caller ch ∷ H) ≡ true → opens_node H ch s.node ≡ false → opens_request ch r ≡ false →
    fits (entry caller ch ∷ H) r k s m ≡ true → fits H r k s m ≡ true
entries-narrow proved c H caller ch r k s m l node request f =
    let told = (laws proved).fits-tells (entry caller ch ∷ H) r k s m f in
    let asked : asked_of (entry caller ch ∷ H) r ≡ asked_of H r = asked-same H caller ch r request in
    let registered : registration_of (entry caller ch ∷ H) s.node ≡ registration_of H s.node = registration-same H caller ch s.node node in
    let up : is_base_up (entry caller ch ∷ H) s.node ≡ true = base_up-now (entry caller ch ∷ H) s.node told.is_up in
    let waits_now : is_waiting (place (entry caller ch ∷ H) r) ≡ true = rw told.is_waiting refl in
    let free_now : is_free (holder (entry caller ch ∷ H) s) ≡ true = rw told.is_free refl in
    let in_time : nat_lt m (deadline_of (entry caller ch ∷ H) r) ≡ true = told.in_time in
    let below : nat_lt (load (entry caller ch ∷ H) s.node) (max_of (entry caller ch ∷ H) s.node) ≡ true = told.below_max in
    let left : has_sessions_left (entry caller ch ∷ H) s.node ≡ true = told.sessions_left in
    let matching : matches_slot (entry caller ch ∷ H) r k s ≡ true = told.matches in
    let deadline : deadline_of (entry caller ch ∷ H) r ≡ deadline_of H r = rw asked refl in
    let most : max_of (entry caller ch ∷ H) s.node ≡ max_of H s.node = rw registered refl in
    let limit : drain_after_of (entry caller ch ∷ H) s.node ≡ drain_after_of H s.node = rw registered refl in
    let match : matches_slot (entry caller ch ∷ H) r k s ≡ matches_slot H r k s = rw (asked, registered) refl in
    let more : load H s.node ≤ load (entry caller ch ∷ H) s.node = load-before H caller ch s.node node up in
    let sum = sum-before proved c H caller ch s.node ((laws proved).legal-before c (entry caller ch) H l) ((laws proved).legal-permitted c (entry caller ch) H l) node in
    let Below : Option ℕ → Type 0 = λ o. is_below_limit o (bound_count (entry caller ch ∷ H) s.node + held_count (entry caller ch ∷ H) s.node) ≡ true in
    fits-is H r k s m
    (waits-before H caller ch r request waits_now)
    (subst (λ (d : ℕ). nat_lt m d ≡ true) deadline in_time)
    (free-before H caller ch s node up free_now)
    (up-before H caller ch s.node node told.is_up)
    (any-less _ (is_barred H r s.node) told.not_barred)
    (less-load (load H s.node) (load (entry caller ch ∷ H) s.node) (max_of H s.node) more (subst (λ (d : ℕ). nat_lt (load (entry caller ch ∷ H) s.node) d ≡ true) most below))
    (fewer-below (drain_after_of H s.node) (bound_count H s.node + held_count H s.node) (bound_count (entry caller ch ∷ H) s.node + held_count (entry caller ch ∷ H) s.node) sum (subst Below limit left))
    (sym match ∙ matching)
  where
    less-load : (x y most : ℕ) → x ≤ y → nat_lt y most ≡ true → nat_lt x most ≡ true
    less-load x y most h e = grind arith
