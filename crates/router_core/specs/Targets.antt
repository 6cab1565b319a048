-- The target of a request, and its path.
use Rattle.std.specs.Prelude.{ℕ, List, [], ◌∷◌, drop, Option, Some, None, is_some, if◌then◌else◌, codes}
use Rattle.router_core.specs.Patterns.{behind, up_to, from_first}

-- a path, or the root where it is empty
abbrev pub path_or_root : List ℕ → List ℕ
path_or_root [] = 47 ∷ []
path_or_root (b ∷ path) = b ∷ path

abbrev pub behind_host : List ℕ → Option (List ℕ) → List ℕ
behind_host target None = target
behind_host target (Some r) = path_or_root (from_first 47 r)

-- a target without the scheme and the authority of its absolute form (RFC 9112 §3.2.2)
abbrev pub without_host : List ℕ → List ℕ
without_host target = behind_host target (behind (codes "http://") target)

-- a target without the prefix under which older clients know the hub
abbrev pub without_prefix : List ℕ → List ℕ
without_prefix target = if is_some (behind (codes "/wd/hub/") target) then drop 7 target else target

-- the target that is looked at and passed on
abbrev pub own_target : List ℕ → List ℕ
own_target target = without_prefix (without_host target)

-- a target without its query
abbrev pub path_of : List ℕ → List ℕ
path_of target = up_to 63 target
