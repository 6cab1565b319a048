-- Requests that were asked for: they are among those that were queued, and only for them nodes are barred.
use Rattle.std.proofs.Common.{◌≡◌, ℕ, ◌+◌, ◌≤◌, ◌<◌, Bool, true, false, cond, ◌&&◌, ◌||◌, List, [], ◌∷◌, ◌++◌, length, refl, subst, arith}
use Rattle.std.specs.Prelude.{Option, None, Some, nat_eq, is_some, filter}
use Rattle.std.specs.List.{list_any}
use Rattle.grid_types.specs.declared.names.Moment.{Moment}
use Rattle.grid_types.specs.declared.config.HubConfig.{HubConfig}
use Rattle.grid_types.specs.declared.capabilities.Cap.{Cap}
use Rattle.grid_types.specs.declared.entry.Entry.{Entry}
use Rattle.grid_types.specs.declared.entry.Change.{Change}
use Rattle.grid_types.specs.declared.entry.Change.TheVariants as change
use Rattle.grid_types.specs.declared.entry.Outcome.{Outcome}
use Rattle.grid_types.specs.Lists.{when, or_else, total}
use Rattle.grid_types.specs.Capabilities.{request_bytes, written_caps}
use Rattle.grid_types.specs.History.{requests}
use Rattle.grid_types.specs.Requests.{place, place_by, asked_of, is_barred, outcome_of, is_settled, is_taken, is_reserved, is_unsettled, unsettled, unsettled_bytes, bytes_of}
use Rattle.grid_types.specs.Permitted.{permitted}
use Rattle.grid_types.specs.Legal.{legal}
use Rattle.grid_types.proofs.SessionLemmas.{entry}
use Rattle.grid_types.proofs.LegalLemmas.{legal-before, legal-permitted}
use Rattle.grid_types.proofs.PermittedLemmas.{permitted-Failed}
use Rattle.grid_types.proofs.RequestLemmas.{reserved-asked}
use Rattle.grid_types.proofs.HeldLemmas.{holds-one}

any-before : (r q : ℕ) (xs : List ℕ) → list_any (nat_eq r) xs ≡ true → list_any (nat_eq r) (xs ++ q ∷ []) ≡ true
any-before r q [] h = absurd (cc)
any-before r q (x ∷ xs) h = grind (arith, any-before r q xs)

any-last : (r q : ℕ) (xs : List ℕ) → r ≡ q → list_any (nat_eq r) (xs ++ q ∷ []) ≡ true
any-last r q [] h = grind arith
any-last r q (x ∷ xs) h = grind (arith, any-last r q xs h)

-- a request that was asked for is one of those that were queued
pub asked-listed : (H : List Entry) (r : ℕ) → is_some (asked_of H r) ≡ true → list_any (nat_eq r) (requests H) ≡ true
asked-listed [] r h = absurd (cc)
asked-listed (e ∷ H) r h = by_change e.caller e.change h (asked-listed H r)
  where
    by_change : (k : ℕ) (ch : Change) → is_some (asked_of (entry k ch ∷ H) r) ≡ true → (is_some (asked_of H r) ≡ true → list_any (nat_eq r) (requests H) ≡ true) → list_any (nat_eq r) (requests (entry k ch ∷ H)) ≡ true
    by_change k (change.Queued q choices d at) h before = by_number (nat_eq q r) refl h
      where
        by_number : (b : Bool) → nat_eq q r ≡ b → is_some (or_else (when b (record { choices = choices; deadline = d.0; caller = k })) (asked_of H r)) ≡ true → list_any (nat_eq r) (requests H ++ q ∷ []) ≡ true
        by_number true e h = any-last r q (requests H) (grind arith)
        by_number false e h = any-before r q (requests H) (before h)
    by_change k ch h before = before h

pub any-kept : (p : ℕ → Bool) (r : ℕ) (xs : List ℕ) → p r ≡ true → list_any (nat_eq r) xs ≡ true → list_any (nat_eq r) (filter p xs) ≡ true
any-kept p r [] h e = absurd (cc)
any-kept p r (x ∷ xs) h e = by_here (nat_eq r x) refl (any-kept p r xs h) e
  where
    by_here : (b : Bool) → nat_eq r x ≡ b → (list_any (nat_eq r) xs ≡ true → list_any (nat_eq r) (filter p xs) ≡ true) → (b || list_any (nat_eq r) xs) ≡ true → list_any (nat_eq r) (filter p (x ∷ xs)) ≡ true
    by_here true d rest e = let same : r ≡ x = grind arith in let passes : p x ≡ true = subst (λ (n : ℕ). p n ≡ true) same h in rw (passes, d) refl
    by_here false d rest e = let further : list_any (nat_eq r) (filter p xs) ≡ true = rest e in by_test (p x) further
      where
        by_test : (b : Bool) → list_any (nat_eq r) (filter p xs) ≡ true → list_any (nat_eq r) (cond b (x ∷ filter p xs) (filter p xs)) ≡ true
        by_test true f = rw d f
        by_test false f = f

settled_closed : (t : Bool) (o : Option Outcome) (v a : Bool) → is_some o ≡ true → is_unsettled (place_by t o v a) ≡ false
settled_closed true o v a h = refl
settled_closed false (Some o) v a h = refl
settled_closed false None v a h = absurd (cc)

-- a settled request is closed
pub closed : (H : List Entry) (r : ℕ) → is_settled H r ≡ true → is_unsettled (place H r) ≡ false
closed H r h = settled_closed (is_taken H r) (outcome_of H r) (is_reserved H r) (is_some (asked_of H r)) h

-- what is barred for a request was asked for
pub barred-asked : (c : HubConfig) (H : List Entry) (r m : ℕ) → legal c H ≡ true → is_barred H r m ≡ true → is_some (asked_of H r) ≡ true
barred-asked c [] r m l h = absurd (cc)
barred-asked c (e ∷ H) r m l h = by_change e.caller e.change (legal-permitted c e H l) h (barred-asked c H r m (legal-before c e H l)) (legal-before c e H l)
  where
    by_change : (k : ℕ) (ch : Change) → permitted c H k ch ≡ true → is_barred (entry k ch ∷ H) r m ≡ true → (is_barred H r m ≡ true → is_some (asked_of H r) ≡ true) → legal c H ≡ true → is_some (asked_of (entry k ch ∷ H) r) ≡ true
    by_change k (change.Failed q s w o last at) p h before lh = by_number (nat_eq q r) refl h
      where
        by_number : (b : Bool) → nat_eq q r ≡ b → ((b && nat_eq s.node m) || is_barred H r m) ≡ true → is_some (asked_of H r) ≡ true
        by_number false e h = before h
        by_number true e h =
            let same : q ≡ r = grind arith in
            let reserved : is_reserved H q ≡ true = (holds-one c H lh).reserved s q (permitted-Failed c H k q s w o last at p).holder in
            subst (λ (n : ℕ). is_some (asked_of H n) ≡ true) same (reserved-asked c H q lh reserved)
    by_change k (change.Queued q choices d at) p h before lh = by_number (nat_eq q r)
      where
        by_number : (b : Bool) → is_some (or_else (when b (record { choices = choices; deadline = d.0; caller = k })) (asked_of H r)) ≡ true
        by_number true = refl
        by_number false = before h
    by_change k ch p h before lh = before h

-- a request is queued where there is room for it
pub permitted-Queued_room : (c : HubConfig) (H : List Entry) (k r : ℕ) (choices : List (List Cap)) (d at : Moment) → permitted c H k (change.Queued r choices d at) ≡ true → (length (unsettled H) < c.queue_requests) × (unsettled_bytes H + request_bytes choices ≤ 268_435_456)
unfolding permitted
permitted-Queued_room c H k r choices d at h = (grind arith, grind arith)

-- an unsettled request was asked for
open_asked : (t : Bool) (o : Option Outcome) (v a : Bool) → is_unsettled (place_by t o v a) ≡ true → (v ≡ true → a ≡ true) → a ≡ true
open_asked true o v a h reserved = absurd (cc)
open_asked false (Some o) v a h reserved = absurd (cc)
open_asked false None true a h reserved = reserved refl
open_asked false None false true h reserved = refl
open_asked false None false false h reserved = absurd (cc)

pub unsettled-asked : (c : HubConfig) (H : List Entry) (r : ℕ) → legal c H ≡ true → is_unsettled (place H r) ≡ true → is_some (asked_of H r) ≡ true
unsettled-asked c H r l h = open_asked (is_taken H r) (outcome_of H r) (is_reserved H r) (is_some (asked_of H r)) h (reserved-asked c H r l)

-- a request has some bytes
some_bytes : (choices : List (List Cap)) → 1 ≤ length choices → 1 ≤ request_bytes choices
unfolding request_bytes written_caps
some_bytes [] h = absurd (omega arith)
some_bytes (caps ∷ rest) h = grind arith

permitted-Queued_some : (c : HubConfig) (H : List Entry) (k r : ℕ) (choices : List (List Cap)) (d at : Moment) → permitted c H k (change.Queued r choices d at) ≡ true → 1 ≤ length choices
unfolding permitted
permitted-Queued_some c H k r choices d at h = grind arith

asked_bytes : (c : HubConfig) (H : List Entry) (r : ℕ) → legal c H ≡ true → is_some (asked_of H r) ≡ true → 1 ≤ bytes_of H r
asked_bytes c [] r l h = absurd (cc)
asked_bytes c (e ∷ H) r l h = by_change e.caller e.change (legal-permitted c e H l) h (asked_bytes c H r (legal-before c e H l))
  where
    by_change : (k : ℕ) (ch : Change) → permitted c H k ch ≡ true → is_some (asked_of (entry k ch ∷ H) r) ≡ true → (is_some (asked_of H r) ≡ true → 1 ≤ bytes_of H r) → 1 ≤ bytes_of (entry k ch ∷ H) r
    by_change k (change.Queued q choices d at) p h before = elim (nat_eq q r) as (λ v. nat_eq q r ≡ v → 1 ≤ bytes_of (entry k (change.Queued q choices d at) ∷ H) r) [
      | true ↦ λ e. rw e (some_bytes choices (permitted-Queued_some c H k q choices d at p))
      | false ↦ λ e. rw e (before (rw e at h))
    ] refl
    by_change k ch p h before = before h

at_least : (p : ℕ → Bool) (f : ℕ → ℕ) (xs : List ℕ) → ((x : ℕ) → p x ≡ true → 1 ≤ f x) → length (filter p xs) ≤ total f (filter p xs)
at_least p f [] each = omega arith
at_least p f (x ∷ xs) each = by_test (p x) refl (at_least p f xs each)
  where
    by_test : (v : Bool) → p x ≡ v → length (filter p xs) ≤ total f (filter p xs) → length (cond v (x ∷ filter p xs) (filter p xs)) ≤ total f (cond v (x ∷ filter p xs) (filter p xs))
    by_test true e rest = let one : 1 ≤ f x = each x e in grind (arith, one, rest)
    by_test false e rest = rest

-- there are no more unsettled requests than they have bytes
pub unsettled-few : (c : HubConfig) (H : List Entry) → legal c H ≡ true → length (unsettled H) ≤ unsettled_bytes H
unsettled-few c H l = at_least (λ r. is_unsettled (place H r)) (bytes_of H) (requests H) (λ r open_yet. asked_bytes c H r l (unsettled-asked c H r l open_yet))
