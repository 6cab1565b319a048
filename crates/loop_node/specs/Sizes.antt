-- How long the texts of a node are, and where a session stands among its sessions.
use Rattle.std.specs.Prelude.{◌≡◌, ℕ, Bool, true, false, ◌&&◌, nat_le, List, ◌∷◌, ◌++◌, length}
use Rattle.std.specs.List.{list_any}
use Rattle.grid_types.specs.Capabilities.{json_string}
use Rattle.loop_node.specs.declared.node.Session.{Session}
use Rattle.loop_node.specs.declared.reading.TheConstants.{MAX_URL_JSON}
use Rattle.loop_node.specs.Sessions.{Node, has_id}

-- a reply has room for the url
abbrev pub is_short : List ℕ → Bool
is_short url = nat_le (length (json_string url)) MAX_URL_JSON

abbrev pub has_short_url : Session → Bool
has_short_url session = is_short session.url

-- its browser and its version leave a reply as small as one that comes over a link
abbrev pub short_texts : Node → Bool
short_texts node = nat_le (length node.browser) 65536 && nat_le (length node.version) 65536

-- the first session with this id has this place
pub record IsFound (id : List ℕ) (sessions : List Session) (place : ℕ) : Type 0 where
  pub front : List Session
  pub session : Session
  pub rest : List Session
  pub are : sessions ≡ front ++ session ∷ rest
  pub place_is : place ≡ length front
  pub none_before : list_any (has_id id) front ≡ false
  pub has : has_id id session ≡ true
