-- A word that describes a node: BROWSER, then perhaps `@` and a version, then perhaps `!` and a count.
use Rattle.std.specs.Prelude.{◌≡◌, ℕ, ◌≤◌, Bool, true, false, ◌&&◌, ◌||◌, ◌==◌, not, nat_le, List, [], ◌∷◌, ◌++◌, length, codes, decimal}
use Rattle.std.specs.List.{list_all}
use Rattle.std.specs.Char.{is_ascii_alphabetic, is_ascii_alphanumeric}

-- 1 to 32 letters or '-', of which the first is a letter
abbrev pub is_name_byte : ℕ → Bool
is_name_byte b = is_ascii_alphabetic b || b == 45

abbrev pub begins_with_letter : List ℕ → Bool
begins_with_letter [] = false
begins_with_letter (b ∷ bs) = is_ascii_alphabetic b

abbrev pub is_browser : List ℕ → Bool
is_browser name = begins_with_letter name && nat_le (length name) 32 && list_all is_name_byte name

-- 1 to 32 letters, digits or dots
abbrev pub is_version_byte : ℕ → Bool
is_version_byte b = is_ascii_alphanumeric b || b == 46

abbrev pub is_version : List ℕ → Bool
is_version version = nat_le 1 (length version) && nat_le (length version) 32 && list_all is_version_byte version

-- the byte stands nowhere in the text
abbrev pub lacks : ℕ → List ℕ → Bool
lacks sign text = list_all (λ b. not (b == sign)) text

-- nothing, where the version is the usual one, or '@' and the version
abbrev pub SaysVersion : List ℕ → List ℕ → Type 0
SaysVersion [] version = version ≡ codes "126.0"
SaysVersion (sign ∷ text) version = (sign ≡ 64) × (text ≡ version) × (is_version version ≡ true)

-- nothing, where the count is 0, or '!' and a count from 1 to 999
abbrev pub SaysCount : List ℕ → ℕ → Type 0
SaysCount [] count = count ≡ 0
SaysCount (sign ∷ text) count = (sign ≡ 33) × (text ≡ decimal count) × (1 ≤ count) × (count ≤ 999)

-- the word describes a node with this browser of this version that refuses so many first starts
pub record IsNode (word browser version : List ℕ) (refuses : ℕ) : Type 0 where
  pub version_part : List ℕ
  pub count_part : List ℕ
  pub word_is : word ≡ (browser ++ version_part) ++ count_part
  pub browser_is : is_browser browser ≡ true
  pub version_is : SaysVersion version_part version
  pub count_is : SaysCount count_part refuses
