-- The address that the hub's program listens at.
use Rattle.std.specs.Prelude.{◌≡◌, ◌⊎◌, ◌++◌, ℕ, List, codes}
use Rattle.std.specs.Net.Grammar.{IsIpv4Text, IsIpv6Text}
use Rattle.std.specs.declared.net.ip_addr.IpAddr.{IpAddr}
use Rattle.std.specs.declared.net.ip_addr.IpAddr.TheVariants as Ip
use Rattle.std.specs.declared.net.ipv6_addr.Ipv6Addr.{Ipv6Addr}
use Rattle.clap.specs.Words.{Row, Text, first_of, matches_of}
use Rattle.server_words.specs.HubOptions.{hub_command}
use Rattle.server_words.specs.Options.{IsTaken, text_or}

-- an IPv6 address in brackets
abbrev pub IsBracketed : List ℕ → Ipv6Addr → Type 0
IsBracketed text ip = (inner : List ℕ) × (text ≡ codes "[" ++ (inner ++ codes "]")) × IsIpv6Text inner ip

-- the text writes this address; one of IPv6 may stand in brackets
abbrev pub IsHostText : List ℕ → IpAddr → Type 0
IsHostText text (Ip.V4 ip) = IsIpv4Text text ip
IsHostText text (Ip.V6 ip) = IsIpv6Text text ip ⊎ IsBracketed text ip

-- what the words found write as the address; all IPv4 addresses where they write nothing
abbrev pub host_told : List Row → List ℕ
host_told rows = text_or (codes "0.0.0.0") (first_of (codes "host") rows)

abbrev pub host_said : List Text → List ℕ
host_said words = host_told (matches_of hub_command words)

-- the command takes the words, and what they write is an address
pub record TellsHost (words : List Text) : Type 0 where
  pub taken : IsTaken hub_command words
  pub ip : IpAddr
  pub written : IsHostText (host_said words) ip
