-- Of a node that never registered nothing else is told.
use Rattle.std.proofs.Common.{◌≡◌, ℕ, Bool, true, false, List, [], ◌∷◌, refl, arith}
use Rattle.std.specs.Prelude.{Option, None, nat_eq, is_some, unwrap_or}
use Rattle.grid_types.specs.declared.entry.Entry.{Entry}
use Rattle.grid_types.specs.declared.entry.Change.{Change}
use Rattle.grid_types.specs.declared.entry.Change.TheVariants as change
use Rattle.grid_types.specs.declared.names.Moment.{Moment}
use Rattle.grid_types.specs.declared.config.HubConfig.{HubConfig}
use Rattle.grid_types.specs.Lists.{when, or_else}
use Rattle.grid_types.specs.History.{last_told}
use Rattle.grid_types.specs.Nodes.{registration_of, is_registered, is_suspected, suspicion_told, bound_count}
use Rattle.grid_types.specs.Legal.{legal}
use Rattle.grid_types.specs.Permitted.{permitted}
use Rattle.grid_types.specs.Tables.{entry}
use Rattle.grid_types.specs.HistoryLaws.{Known, laws}

permitted-Suspected : (c : HubConfig) (H : List Entry) (k m : ℕ) (at : Moment) → permitted c H k (change.Suspected m at) ≡ true → is_registered H m ≡ true
unfolding permitted
permitted-Suspected c H k m at h = grind arith

-- a registered node is not one that never registered
other : Known → (c : HubConfig) (H : List Entry) (m n : ℕ) → legal c H ≡ true → is_registered H m ≡ true → registration_of H n ≡ None → nat_eq m n ≡ false
other proved c H m n l on none = elim (nat_eq m n) as (λ v. nat_eq m n ≡ v → v ≡ false) [
  | true ↦ λ e.
      let same : m ≡ n = grind arith in
      let known : is_some (registration_of H m) ≡ true = (laws proved).registered-known c H m l on in
      let unknown : is_some (registration_of H m) ≡ false = rw (same, none) refl in
      absurd (grind arith)
  | false ↦ λ e. refl
] refl

pub unregistered-unbound : Known → (c : HubConfig) (H : List Entry) (n : ℕ) → legal c H ≡ true → registration_of H n ≡ None → bound_count H n ≡ 0
unregistered-unbound proved c [] n l none = refl
unregistered-unbound proved c (e ∷ H) n l none =
    by_change e.caller e.change ((laws proved).legal-permitted c e H l) ((laws proved).legal-before c e H l) ((laws proved).registration-before H e.caller n e.change none)
    (unregistered-unbound proved c H n ((laws proved).legal-before c e H l) ((laws proved).registration-before H e.caller n e.change none))
  where
    by_change : (k : ℕ) (ch : Change) → permitted c H k ch ≡ true → legal c H ≡ true → registration_of H n ≡ None → bound_count H n ≡ 0 → bound_count (entry k ch ∷ H) n ≡ 0
    by_change k (change.Bound r s x cs at) p before unknown rest =
        let apart : nat_eq s.node n ≡ false = other proved c H s.node n before ((laws proved).permitted-Bound c H k r s x cs at p).registered unknown in
        rw (apart, rest) refl
    by_change k ch p before unknown rest = rw rest refl

pub unregistered-trusted : Known → (c : HubConfig) (H : List Entry) (n : ℕ) → legal c H ≡ true → registration_of H n ≡ None → is_suspected H n ≡ false
unregistered-trusted proved c [] n l none = refl
unregistered-trusted proved c (e ∷ H) n l none =
    by_change e.caller e.change ((laws proved).legal-permitted c e H l) ((laws proved).legal-before c e H l) ((laws proved).registration-before H e.caller n e.change none)
    (unregistered-trusted proved c H n ((laws proved).legal-before c e H l) ((laws proved).registration-before H e.caller n e.change none))
  where
    told : (b v : Bool) (o : Option Bool) → unwrap_or o false ≡ false → b ≡ false → unwrap_or (or_else (when b v) o) false ≡ false
    told true v o rest e = absurd (cc)
    told false v o rest e = rest

    calmed : (b : Bool) (o : Option Bool) → unwrap_or o false ≡ false → unwrap_or (or_else (when b false) o) false ≡ false
    calmed true o rest = refl
    calmed false o rest = rest

    by_change : (k : ℕ) (ch : Change) → permitted c H k ch ≡ true → legal c H ≡ true → registration_of H n ≡ None → is_suspected H n ≡ false → is_suspected (entry k ch ∷ H) n ≡ false
    by_change k (change.Suspected m at) p before unknown rest =
        told (nat_eq m n) true (last_told (λ _ e. suspicion_told n e.change) H) rest (other proved c H m n before (permitted-Suspected c H k m at p) unknown)
    by_change k (change.Beaten m at) p before unknown rest = calmed (nat_eq m n) (last_told (λ _ e. suspicion_told n e.change) H) rest
    by_change k ch p before unknown rest = rest
