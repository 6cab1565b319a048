-- Entries of other kinds leave what the table keeps.
use Rattle.std.proofs.Common.{◌≡◌, ℕ, false, List, ◌∷◌}
use Rattle.grid_types.specs.declared.entry.Entry.{Entry}
use Rattle.grid_types.specs.declared.entry.Change.{Change}
use Rattle.grid_types.specs.declared.entry.Change.TheVariants as change
use Rattle.grid_types.specs.Tables.{OthersKeep, entry, is_session_change}
use Rattle.session_map.specs.declared.live_map.LiveMap.{LiveMap}
use Rattle.session_map.specs.Table.{Stands}

stays : (t : LiveMap) (H : List Entry) (k : ℕ) (ch : Change) → is_session_change ch ≡ false → Stands t H → Stands t (entry k ch ∷ H)
stays t H k (change.Bound r s x cs at) o h = absurd (cc)
stays t H k (change.Touched b at) o h = absurd (cc)
stays t H k (change.Ended b cause at) o h = absurd (cc)
stays t H k (change.Lapsed n at) o h = absurd (cc)
stays t H k ch o h = record { sessions = h.sessions; places = h.places; quiet = h.quiet; bindings_differ = h.bindings_differ; in_order = h.in_order }

pub others-keep : OthersKeep Stands is_session_change
others-keep t k ch o = record { after = λ c H s l. stays t H k ch o s }
