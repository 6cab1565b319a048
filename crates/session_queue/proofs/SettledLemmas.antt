-- When a request that a slot is held for is settled, by where it stands.
use Rattle.std.proofs.Common.{◌≡◌, ℕ, Bool, true, false, not, List, refl, sym, ap}
use Rattle.std.specs.Prelude.{Option, None, Some, is_some}
use Rattle.grid_types.specs.declared.entry.Entry.{Entry}
use Rattle.grid_types.specs.declared.entry.Outcome.{Outcome}
use Rattle.grid_types.specs.declared.names.SlotId.{SlotId}
use Rattle.grid_types.specs.declared.config.HubConfig.{HubConfig}
use Rattle.grid_types.specs.Legal.{legal}
use Rattle.grid_types.specs.Slots.{holder, held}
use Rattle.grid_types.specs.Requests.{Place, unknown, waiting, held as held_place, settled, taken, place, place_by, is_unsettled, is_settled, is_taken, is_reserved, outcome_of, asked_of}
use Rattle.session_queue.specs.Laws.{Known, laws}
use Rattle.session_queue.specs.Table.{is_gone}

-- a request is settled or it stands as one that is not
place_tells : (v : Bool) (o : Option Outcome) (u w : Bool) → (v ≡ true → is_some o ≡ true) → (is_some o ≡ false → place_by v o u w ≡ held_place) →
    is_some o ≡ not (is_unsettled (place_by v o u w))
place_tells true o u w t h = t refl
place_tells false (Some o) u w t h = refl
place_tells false None u w t h = ap (λ (p : Place). not (is_unsettled p)) (sym (h refl))

pub settled_place : Known → (c : HubConfig) (H : List Entry) (s : SlotId) (r : ℕ) → legal c H ≡ true → holder H s ≡ held r → is_settled H r ≡ not (is_unsettled (place H r))
settled_place proved c H s r l h =
    place_tells (is_taken H r) (outcome_of H r) (is_reserved H r) (is_some (asked_of H r)) ((laws proved).history.taken-settled c H r l) (λ open_yet. (laws proved).history.place-held c H s r l h open_yet)

gone_place : (v : Bool) (o : Option Outcome) (u w : Bool) → (is_some o ≡ false → place_by v o u w ≡ held_place) → is_gone (place_by v o u w) ≡ true → is_some o ≡ true
gone_place v (Some o) u w h g = refl
gone_place v None u w h g = absurd (held_there (place_by v None u w) (h refl) g)
  where
    held_there : (p : Place) → p ≡ held_place → is_gone p ≡ true → ⊥
    held_there unknown e g = cc
    held_there taken e g = cc
    held_there waiting e g = cc
    held_there held_place e g = cc
    held_there (settled o) e g = cc

-- one of which the table has no row was taken
pub settled_gone : Known → (c : HubConfig) (H : List Entry) (s : SlotId) (r : ℕ) → legal c H ≡ true → holder H s ≡ held r → is_gone (place H r) ≡ true → is_settled H r ≡ true
settled_gone proved c H s r l h g =
    gone_place (is_taken H r) (outcome_of H r) (is_reserved H r) (is_some (asked_of H r)) (λ open_yet. (laws proved).history.place-held c H s r l h open_yet) g
