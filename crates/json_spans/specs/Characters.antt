-- The characters that a string stands for, as UTF-8 (RFC 8259, section 7).
use Rattle.std.specs.Prelude.{◌≡◌, ℕ, ◌+◌, ◌-◌, ◌*◌, List, [], ◌∷◌, ◌++◌, if◌then◌else◌, ◌==◌}
use Rattle.std.specs.Char.{digit_value, encode_utf8}
use Rattle.json_spans.specs.Grammar.{Char, plain, short, unit, pair, text}
use Rattle.json_spans.specs.Parts.{Part, Spells}

-- what a byte behind a backslash stands for
abbrev pub escaped : ℕ → ℕ
escaped x = if x == 98 then 8 else (if x == 102 then 12 else (if x == 110 then 10 else (if x == 114 then 13 else (if x == 116 then 9 else x))))

-- the number that four hex digits spell
abbrev pub code : ℕ → ℕ → ℕ → ℕ → ℕ
code a b c d = digit_value a * 4096 + digit_value b * 256 + digit_value c * 16 + digit_value d

-- the character that a pair of surrogates names
abbrev pub pair_code : ℕ → ℕ → ℕ
pair_code high low = 65536 + (high - 55296) * 1024 + (low - 56320)

abbrev pub meaning_of : Char → List ℕ
meaning_of (plain x) = x ∷ []
meaning_of (short x) = escaped x ∷ []
meaning_of (unit a b c d) = encode_utf8 (code a b c d)
meaning_of (pair a b c d e f g h) = encode_utf8 (pair_code (code a b c d) (code e f g h))

abbrev pub meaning : List Char → List ℕ
meaning [] = []
meaning (c ∷ cs) = meaning_of c ++ meaning cs

-- t is what the string stands for that the part spells
abbrev pub IsMeaning : Part → List ℕ → Type 0
IsMeaning p t = (cs : List Char) → Spells p (text cs) → t ≡ meaning cs
