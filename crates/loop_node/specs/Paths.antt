-- What a request to the node asks for, by its method and its target.
use Rattle.std.specs.Prelude.{ℕ, ◌==◌, if◌then◌else◌, List, [], ◌∷◌, Option, Some, None, bytes_eq, codes}
use Rattle.std.specs.Str.{is_utf8}
use Rattle.wd_bodies.specs.declared.paths.TheConstants.{BEFORE_SESSION, SESSIONS, STATUS}
use Rattle.loop_node.specs.declared.paths.Place.{Place}
use Rattle.loop_node.specs.declared.paths.Place.TheVariants as slice
use Rattle.loop_node.specs.declared.paths.Wanted.{Wanted}
use Rattle.loop_node.specs.declared.paths.Wanted.TheVariants as lent

-- the paths that the node knows, with the id of the session that they name
pub data Path : Type 0 where
  all_sessions : Path
  one_session : List ℕ → Path
  url_of_session : List ℕ → Path
  status : Path
  unknown : Path

-- what follows a text in a path that begins with it
abbrev pub behind : List ℕ → List ℕ → Option (List ℕ)
behind [] path = Some path
behind (w ∷ ws) [] = None
behind (w ∷ ws) (b ∷ path) = if b == w then behind ws path else None

-- a text up to the first byte c
abbrev pub up_to : ℕ → List ℕ → List ℕ
up_to c [] = []
up_to c (b ∷ bs) = if b == c then [] else b ∷ up_to c bs

-- a text from the first byte c on
abbrev pub from_first : ℕ → List ℕ → List ℕ
from_first c [] = []
from_first c (b ∷ bs) = if b == c then b ∷ bs else from_first c bs

-- a session's own path, or that of its url, by what stands behind its id
abbrev pub path_of_id : List ℕ → List ℕ → Path
path_of_id [] tail = unknown
path_of_id (b ∷ id) [] = one_session (b ∷ id)
path_of_id (b ∷ id) (c ∷ tail) =
    if bytes_eq (c ∷ tail) (codes "/url") then url_of_session (b ∷ id) else unknown

-- the path behind `/session/`, where it begins so: an id up to the next slash
abbrev pub path_behind : Option (List ℕ) → Path
path_behind None = unknown
path_behind (Some rest) = path_of_id (up_to 47 rest) (from_first 47 rest)

abbrev pub path_of_text : List ℕ → Path
path_of_text text =
    if bytes_eq text SESSIONS.now then all_sessions
    else if bytes_eq text STATUS.now then status
    else path_behind (behind BEFORE_SESSION.now text)

-- the path of a target: the text up to its query; one that is not UTF-8 is unknown
unfoldable pub path_of : List ℕ → Path
path_of target = if is_utf8 (up_to 63 target) then path_of_text (up_to 63 target) else unknown

-- what is asked for
pub data Asked : Type 0 where
  new_session : Asked
  delete_session : List ℕ → Asked
  set_url : List ℕ → Asked
  get_url : List ℕ → Asked
  get_status : Asked
  unknown_command : Asked
  unknown_method : Asked

-- what a method asks for at a path; methods are compared byte by byte (RFC 9110 §9.1)
abbrev pub asked_at : Path → List ℕ → Asked
asked_at all_sessions method = if bytes_eq method (codes "POST") then new_session else unknown_method
asked_at (one_session id) method =
    if bytes_eq method (codes "DELETE") then delete_session id else unknown_method
asked_at (url_of_session id) method =
    if bytes_eq method (codes "POST") then set_url id
    else if bytes_eq method (codes "GET") then get_url id
    else unknown_method
asked_at status method = if bytes_eq method (codes "GET") then get_status else unknown_method
asked_at unknown method = unknown_command

-- what a request asks for
abbrev pub asked_of : List ℕ → List ℕ → Asked
asked_of method target = asked_at (path_of target) method

-- by what the slices hold
abbrev pub path_told : Place → Path
path_told slice.Sessions = all_sessions
path_told (slice.Session id) = one_session id.now
path_told (slice.Url id) = url_of_session id.now
path_told slice.Status = status
path_told slice.Unknown = unknown

abbrev pub asked_told : Wanted → Asked
asked_told lent.NewSession = new_session
asked_told (lent.DeleteSession id) = delete_session id.now
asked_told (lent.SetUrl id) = set_url id.now
asked_told (lent.GetUrl id) = get_url id.now
asked_told lent.GetStatus = get_status
asked_told lent.UnknownCommand = unknown_command
asked_told lent.UnknownMethod = unknown_method
