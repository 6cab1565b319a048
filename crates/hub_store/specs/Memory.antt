-- What a store in memory tells.
use Rattle.std.specs.Prelude.{ℕ, List, take, Option, option_map}
use Rattle.hub_store.specs.declared.memory.MemStore.{MemStore}

-- the bytes that it has given
abbrev pub given_by : MemStore → List ℕ
given_by store = take store.at store.bytes

-- those that it put aside
abbrev pub aside_by : MemStore → Option (List ℕ)
aside_by store = option_map (λ bytes. bytes) store.aside
