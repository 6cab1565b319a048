-- What serde_json writes for a text is the JSON string of the definitions.
use Rattle.std.proofs.Common.{◌≡◌, ℕ, List, [], ◌∷◌, ◌++◌, flat_map, refl, ap, arith}
use Rattle.std.proofs.lemmas.Bool.Decides.{nat_tests}
use Rattle.json.specs.Print.{escape_letter, escape_byte, quoted}
use Rattle.grid_types.specs.Capabilities.{short_escape, escaped, json_string}

-- the letters of the short escapes are the same
letters : (x : ℕ) → escape_letter x ≡ short_escape x
letters x = grind (arith, nat_tests)

-- a byte is written the same
byte : (x : ℕ) → escape_byte x ≡ escaped x
unfolding escape_byte
byte x = rw (letters x) refl

bytes : (xs : List ℕ) → flat_map escape_byte xs ≡ flat_map escaped xs
bytes [] = refl
bytes (x ∷ xs) = rw (byte x, bytes xs) refl

pub quoted-json_string : (s : List ℕ) → quoted s ≡ json_string s
quoted-json_string s = ap (λ (xs : List ℕ). 34 ∷ (xs ++ 34 ∷ [])) (bytes s)
