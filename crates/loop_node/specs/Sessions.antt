-- A WebDriver endpoint in memory and its sessions.
use Rattle.std.specs.Prelude.{ℕ, ◌+◌, ◌*◌, ◌^◌, Bool, if◌then◌else◌, List, [], ◌∷◌, Option, option_map, find, bytes_eq, codes}
use Rattle.std.specs.Int.{to_be_bytes, w128}
use Rattle.uuid.specs.Text.{hyphenated_text, lower}
use Rattle.grid_types.specs.declared.capabilities.Cap.{Cap}
use Rattle.grid_types.specs.declared.capabilities.CapValue.TheVariants as value
use Rattle.loop_node.specs.declared.node.Session.{Session}

-- a node: its number, its browser and version, how many sessions it may have, how many first starts it
-- has yet to refuse, how many sessions it has created, and those that it has, oldest first
pub record Node : Type 0 where
  pub number : ℕ
  pub browser : List ℕ
  pub version : List ℕ
  pub slots : ℕ
  pub refuses : ℕ
  pub created : ℕ
  pub sessions : List Session

-- a node that has created nothing
abbrev pub new_node : ℕ → List ℕ → List ℕ → ℕ → ℕ → Node
new_node number browser version slots refuses = record {
  number = number;
  browser = browser;
  version = version;
  slots = slots;
  refuses = refuses;
  created = 0;
  sessions = [];
}

-- the id of a node's n-th session, from 1: the UUID with the node's number in its upper 64 bits and n in its
-- lower ones
unfoldable pub session_id : ℕ → ℕ → List ℕ
session_id number n = hyphenated_text lower (to_be_bytes w128 (number * 2 ^ 64 + n))

abbrev pub text_cap : List ℕ → List ℕ → Cap
text_cap name text = record { name = name; value = value.Text text }

-- the capabilities of a node's sessions
abbrev pub node_caps : List ℕ → List ℕ → List Cap
node_caps browser version =
    text_cap (codes "browserName") browser
    ∷ text_cap (codes "browserVersion") version
    ∷ text_cap (codes "platformName") (codes "linux")
    ∷ []

-- a session at its first url
abbrev pub new_session : List ℕ → Session
new_session id = record { id = id; url = codes "about:blank" }

abbrev pub has_id : List ℕ → Session → Bool
has_id id session = bytes_eq session.id id

-- the url that the session with this id is at
abbrev pub url_at : List ℕ → List Session → Option (List ℕ)
url_at id sessions = option_map (λ s. s.url) (find (has_id id) sessions)

-- the sessions without the one with this id
abbrev pub without : List ℕ → List Session → List Session
without id [] = []
without id (s ∷ sessions) = if has_id id s then sessions else s ∷ without id sessions

-- the sessions with the one with this id at another url
abbrev pub moved : List ℕ → List ℕ → List Session → List Session
moved id url [] = []
moved id url (s ∷ sessions) =
    if has_id id s then record s { url = url } ∷ sessions else s ∷ moved id url sessions
