-- When a slot's stereotype matches what is wanted, and when what a node returned meets it. Where a
-- name stands twice, which no JSON text brings, its first member is read, and an extension is
-- compared with each member of its name.
use Rattle.std.specs.Prelude.{ℕ, Bool, true, false, not, ◌&&◌, ◌||◌, ◌==◌, nat_le, List, [], ◌∷◌, ◌++◌, Option, None, Some, codes, bytes_eq, nat_eq}
use Rattle.std.specs.List.{list_any, list_all, starts_with}
use Rattle.std.specs.Str.{str_to_ascii_lowercase}
use Rattle.grid_types.specs.declared.capabilities.Cap.{Cap}
use Rattle.grid_types.specs.declared.capabilities.CapValue.{CapValue}
use Rattle.grid_types.specs.declared.capabilities.CapValue.TheVariants as value
use Rattle.grid_types.specs.Capabilities.{text_at}

-- nothing is wanted, or there is something and the two agree
abbrev pub agrees : (List ℕ → List ℕ → Bool) → Option (List ℕ) → Option (List ℕ) → Bool
agrees same None other = true
agrees same (Some wanted) None = false
agrees same (Some wanted) (Some other) = same wanted other

-- two texts are equal, with capital letters read as small ones
abbrev pub same_without_case : List ℕ → List ℕ → Bool
same_without_case one other = bytes_eq (str_to_ascii_lowercase one) (str_to_ascii_lowercase other)

-- the two are these names, in either order
abbrev pub are_pair : List ℕ → List ℕ → List ℕ → List ℕ → Bool
are_pair first second one other =
    (same_without_case one first && same_without_case other second)
    || (same_without_case one second && same_without_case other first)

-- two browsers are the same: one name, or two names of one browser
abbrev pub same_browser : List ℕ → List ℕ → Bool
same_browser one other =
    same_without_case one other || are_pair (codes "msedge") (codes "microsoftedge") one other
    || are_pair (codes "chrome") (codes "chrome-headless-shell") one other

-- a version is as wanted: equal, or more exact by further parts after dots
abbrev pub is_version_within : List ℕ → List ℕ → Bool
is_version_within wanted other =
    bytes_eq wanted other || starts_with nat_eq other (wanted ++ 46 ∷ [])

-- the wanted version is any: empty or `stable`
abbrev pub is_any_version : List ℕ → Bool
is_any_version [] = true
is_any_version (first ∷ rest) = bytes_eq (first ∷ rest) (codes "stable")

-- the wanted version begins with a byte that is no digit
abbrev pub is_version_word : List ℕ → Bool
is_version_word [] = false
is_version_word (first ∷ rest) = not (nat_le 48 first && nat_le first 57)

-- there is a text wanted, and it passes the test
abbrev pub where_wanted : (List ℕ → Bool) → Option (List ℕ) → Bool
where_wanted test None = false
where_wanted test (Some wanted) = test wanted

-- one of the texts, with capital letters read as small ones
abbrev pub is_one_of : List (List ℕ) → List ℕ → Bool
is_one_of names text = list_any (same_without_case text) names

-- begins with the text, with capital letters read as small ones
abbrev pub begins : List ℕ → List ℕ → Bool
begins start text = starts_with nat_eq (str_to_ascii_lowercase text) start

-- begins with `win`
abbrev pub is_windows : List ℕ → Bool
is_windows text = begins (codes "win") text

-- begins with `mac`, or is `darwin`
abbrev pub is_mac : List ℕ → Bool
is_mac text = begins (codes "mac") text || same_without_case text (codes "darwin")

-- begins with `linux`, or is `ubuntu` or `debian`
abbrev pub is_linux : List ℕ → Bool
is_linux text = begins (codes "linux") text || is_one_of (codes "ubuntu" ∷ codes "debian" ∷ []) text

-- two platforms are of one family
abbrev pub same_family : List ℕ → List ℕ → Bool
same_family one other =
    (is_windows one && is_windows other)
    || (is_mac one && is_mac other)
    || (is_linux one && is_linux other)

-- the name of a family
abbrev pub is_family_name : List ℕ → Bool
is_family_name = is_one_of
    (codes "windows" ∷ codes "win" ∷ codes "mac" ∷ codes "macos" ∷ codes "linux" ∷ [])

-- a platform is equal to the wanted one, or of the family that the wanted one names
abbrev pub is_platform_within : List ℕ → List ℕ → Bool
is_platform_within wanted other =
    same_without_case wanted other || (is_family_name wanted && same_family wanted other)

-- a platform is equal to the wanted one, or of its family
abbrev pub same_platform : List ℕ → List ℕ → Bool
same_platform wanted other = same_without_case wanted other || same_family wanted other

-- any platform is wanted
abbrev pub is_any_platform : List ℕ → Bool
is_any_platform wanted = same_without_case wanted (codes "any")

-- a name with a colon, of no vendor whose values are not compared
abbrev pub is_compared_extension : List ℕ → Bool
is_compared_extension name =
    list_any (λ byte. byte == 58) name
    && not (list_any (λ vendor. starts_with nat_eq name vendor)
    (codes "goog:" ∷ codes "moz:" ∷ codes "ms:" ∷ codes "safari:" ∷ codes "webkitgtk:" ∷ codes "se:"
    ∷ codes "wdio:" ∷ codes "grid:" ∷ []))

-- the same kind of value, and the same text or flag
abbrev pub same_value : CapValue → CapValue → Bool
same_value (value.Text one) (value.Text other) = bytes_eq one other
same_value (value.Flag true) (value.Flag other) = other
same_value (value.Flag false) (value.Flag other) = not other
same_value (value.Raw one) (value.Raw other) = bytes_eq one other
same_value one other = false

-- a member of this name stands there with the same value
abbrev pub has_same : Cap → List Cap → Bool
has_same member others =
    list_any
    (λ other. bytes_eq other.name member.name && same_value member.value other.value) others

-- every wanted extension that is compared stands there
abbrev pub has_extensions : List Cap → List Cap → Bool
has_extensions wanted others =
    list_all (λ member. not (is_compared_extension member.name) || has_same member others) wanted

-- the browser's name
abbrev pub browser : List Cap → Option (List ℕ)
browser = text_at (codes "browserName")

-- the browser's version
abbrev pub version : List Cap → Option (List ℕ)
version = text_at (codes "browserVersion")

-- the platform
abbrev pub platform : List Cap → Option (List ℕ)
platform = text_at (codes "platformName")

-- whether a slot of this stereotype may be given where these capabilities are wanted
unfoldable pub matches : List Cap → List Cap → Bool
matches wanted stereotype =
    agrees same_browser (browser wanted) (browser stereotype)
    && (where_wanted is_any_version (version wanted)
    || agrees is_version_within (version wanted) (version stereotype))
    && (where_wanted is_any_platform (platform wanted)
    || agrees is_platform_within (platform wanted) (platform stereotype))
    && has_extensions wanted stereotype

-- whether the capabilities that a node returned are what was wanted
unfoldable pub meets : List Cap → List Cap → Bool
meets wanted returned =
    agrees same_browser (browser wanted) (browser returned)
    && (where_wanted is_any_version (version wanted)
    || where_wanted is_version_word (version wanted)
    || agrees is_version_within (version wanted) (version returned))
    && (where_wanted is_any_platform (platform wanted)
    || agrees same_platform (platform wanted) (platform returned))
