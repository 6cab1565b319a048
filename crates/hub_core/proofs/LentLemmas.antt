-- What is lent of a request, by its row in the table.
use Rattle.std.proofs.Common.{◌≡◌, ℕ, true, List, refl}
use Rattle.std.specs.Prelude.{None, Some}
use Rattle.grid_types.specs.declared.entry.Entry.{Entry}
use Rattle.grid_types.specs.Requests.{Place, unknown, waiting, held as held_place, settled, taken, Asked, asked_of, choices_of, is_unsettled}
use Rattle.session_queue.specs.Table.{is_gone}
use Rattle.hub_core.specs.Lent.{created_caps}

pub gone-open : (p : Place) → is_gone p ≡ true → is_unsettled p ≡ true → ⊥
gone-open unknown g open_yet = absurd (cc)
gone-open taken g open_yet = absurd (cc)
gone-open waiting g open_yet = absurd (cc)
gone-open held_place g open_yet = absurd (cc)
gone-open (settled o) g open_yet = absurd (cc)

pub gone-uncreated : (p : Place) → is_gone p ≡ true → None ≡ created_caps p
gone-uncreated unknown g = refl
gone-uncreated taken g = refl
gone-uncreated waiting g = absurd (cc)
gone-uncreated held_place g = absurd (cc)
gone-uncreated (settled o) g = absurd (cc)

pub asked-choices : (H : List Entry) (r : ℕ) (a : Asked) → asked_of H r ≡ Some a → a.choices ≡ choices_of H r
asked-choices H r a e = rw e refl
