-- The address of a hub or a driver, as it may be written: HOST:PORT, with `http://` in front or `/` behind.
use Rattle.std.specs.Prelude.{◌&&◌, ◌==◌, ◌-◌, ◌+◌, ◌*◌, ℕ, Bool, false, not, nat_le, nat_lt, List, [], ◌∷◌}
use Rattle.std.specs.Prelude.{length, take, slice_get, Option, None, Some, codes, if◌then◌else◌}
use Rattle.std.specs.Char.{is_ascii_digit}
use Rattle.std.specs.List.{list_all, list_any}
use Rattle.std.specs.Option.{option_map_or}
use Rattle.grid_types.specs.Names.{is_node_address}

-- what stands behind the front, where the text begins with it
abbrev pub behind : List ℕ → List ℕ → Option (List ℕ)
behind [] text = Some text
behind (f ∷ front) [] = None
behind (f ∷ front) (b ∷ text) = if b == f then behind front text else None

abbrev pub or_text : List ℕ → Option (List ℕ) → List ℕ
or_text text None = text
or_text text (Some rest) = rest

abbrev pub without_scheme : List ℕ → List ℕ
without_scheme text = or_text text (behind (codes "http://") text)

abbrev pub ends_in_slash : List ℕ → Bool
ends_in_slash text = option_map_or (λ b. b == 47) (slice_get text (length text - 1)) false

abbrev pub without_slash : List ℕ → List ℕ
without_slash text = if ends_in_slash text then take (length text - 1) text else text

-- the address that a text writes
abbrev pub bare_address : List ℕ → List ℕ
bare_address text = without_slash (without_scheme text)

-- what stands behind the last colon
abbrev pub port_text : List ℕ → Option (List ℕ)
port_text [] = None
port_text (b ∷ text) = later_or b text (port_text text)
  where
    later_or : ℕ → List ℕ → Option (List ℕ) → Option (List ℕ)
    later_or b text (Some port) = Some port
    later_or b text None = if b == 58 then Some text else None

-- what one to five digits write; 0 where there are others than so many
abbrev pub port_number : List ℕ → ℕ
port_number (a ∷ []) = a - 48
port_number (a ∷ b ∷ []) = (a - 48) * 10 + (b - 48)
port_number (a ∷ b ∷ c ∷ []) = ((a - 48) * 10 + (b - 48)) * 10 + (c - 48)
port_number (a ∷ b ∷ c ∷ d ∷ []) = (((a - 48) * 10 + (b - 48)) * 10 + (c - 48)) * 10 + (d - 48)
port_number (a ∷ b ∷ c ∷ d ∷ e ∷ []) = ((((a - 48) * 10 + (b - 48)) * 10 + (c - 48)) * 10 + (d - 48)) * 10 + (e - 48)
port_number other = 0

-- the digits of a port of TCP, 1 to 65535
abbrev pub is_port : List ℕ → Bool
is_port text = list_all is_ascii_digit text && nat_le 1 (port_number text) && nat_le (port_number text) 65_535

-- a port, and something before its colon
abbrev pub has_port : List ℕ → Option (List ℕ) → Bool
has_port text None = false
has_port text (Some port) = is_port port && nat_lt (length port) (length text - 1)

-- HOST:PORT, without a slash
abbrev pub is_host_and_port : List ℕ → Bool
is_host_and_port text = has_port text (port_text text) && not (list_any (λ b. b == 47) text)

-- an address of a node by host and port
abbrev pub is_reachable : List ℕ → Bool
is_reachable text = is_node_address text && is_host_and_port text
