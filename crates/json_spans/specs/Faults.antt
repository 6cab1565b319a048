-- Where a text is refused, in the grammar's words.
use Rattle.std.specs.Prelude.{◌≡◌, ◌⊎◌, ℕ, ◌≤◌, Bool, true, false, List, [], ◌∷◌, ◌++◌, length, drop, ◌&&◌, ◌||◌, not, ◌==◌}
use Rattle.json_spans.specs.Bytes.{is_hex, is_high, is_low}
use Rattle.json_spans.specs.Grammar.{Tree, IsJson, depth, is_d}
use Rattle.json_spans.specs.declared.machine.TheConstants.{MAX_DEPTH}

-- some JSON text of so many levels at most begins with these bytes
pub record Begins (levels : ℕ) (front : List ℕ) : Type 0 where
  pub more : List ℕ
  pub before : List ℕ
  pub v : Tree
  pub after : List ℕ
  pub json : IsJson (front ++ more) before v after
  pub within : depth v ≤ levels

-- ---- escapes that name half of a pair of surrogates

-- one test for each byte
abbrev pub Tests : Type 0
Tests = List (ℕ → Bool)

-- a backslash, `u` and four hex digits, of which the first two name a first half or a second half
abbrev pub first_half : Tests
first_half = (λ x. x == 92) ∷ (λ x. x == 117) ∷ is_d ∷ is_high ∷ is_hex ∷ is_hex ∷ []

abbrev pub second_half : Tests
second_half = (λ x. x == 92) ∷ (λ x. x == 117) ∷ is_d ∷ is_low ∷ is_hex ∷ is_hex ∷ []

-- bytes that pass all the tests stand here
abbrev pub passes : Tests → List ℕ → Bool
passes [] xs = true
passes (t ∷ ts) [] = false
passes (t ∷ ts) (x ∷ xs) = t x && passes ts xs

-- as far as the bytes go, they pass
abbrev pub fits : Tests → List ℕ → Bool
fits ts [] = true
fits [] (x ∷ xs) = false
fits (t ∷ ts) (x ∷ xs) = t x && fits ts xs

-- behind the front a backslash begins an escape: with `\n` there some text goes on, with `\q` none does
pub record Escapes (front : List ℕ) : Type 0 where
  pub good : Begins MAX_DEPTH (front ++ 92 ∷ 110 ∷ [])
  pub bad : (levels : ℕ) → Begins levels (front ++ 92 ∷ 113 ∷ []) → ⊥

-- an escape of a second half, or one of a first half with no escape of a second half at once behind it
abbrev pub is_alone : List ℕ → Bool
is_alone here = passes second_half here || (passes first_half here && not (passes second_half (drop 6 here)))

-- an escape at p names half of a pair alone
pub record LoneHalf (text : List ℕ) (p : ℕ) : Type 0 where
  pub front : List ℕ
  pub here : List ℕ
  pub is : text ≡ front ++ here
  pub at : p ≡ length front
  pub escapes : Escapes front
  pub alone : is_alone here ≡ true

-- the bytes end within an escape of a second half, whose first two digits stand there
pub record HalfNamed (bytes : List ℕ) : Type 0 where
  pub front : List ℕ
  pub part : List ℕ
  pub is : bytes ≡ front ++ part
  pub escapes : Escapes front
  pub names : fits second_half part ≡ true
  pub digits : 4 ≤ length part
  pub open_ : length part ≤ 5

-- ---- the faults

-- a text of so many levels at most goes on behind these bytes, or an escape does, of which it isn't yet told that it names half of a pair alone
abbrev pub GoesOn : ℕ → List ℕ → Type 0
GoesOn levels bytes = Begins levels bytes ⊎ HalfNamed bytes

-- with the next byte nothing goes on; where there is none, the bytes are no JSON text
abbrev pub Dead : List ℕ → List ℕ → Type 0
Dead front [] = (before : List ℕ) (v : Tree) (after : List ℕ) → IsJson front before v after → ⊥
Dead front (x ∷ rest) = (levels : ℕ) → GoesOn levels (front ++ x ∷ []) → ⊥

-- p is the first place where no JSON text goes on
pub record FirstDead (text : List ℕ) (p : ℕ) : Type 0 where
  pub front : List ℕ
  pub rest : List ℕ
  pub is : text ≡ front ++ rest
  pub at : p ≡ length front
  pub goes_on : GoesOn MAX_DEPTH front
  pub dead : Dead front rest

-- the backslash of half of a pair alone, or else the first place where no JSON text goes on
abbrev pub IsSyntaxFault : List ℕ → ℕ → Type 0
IsSyntaxFault text p = LoneHalf text p ⊎ (FirstDead text p × ((q : ℕ) → LoneHalf text q → ⊥))

-- the byte at p opens level 128: with it no text of 127 levels goes on, and one of 128 does
pub record IsDeepFault (text : List ℕ) (p : ℕ) : Type 0 where
  pub front : List ℕ
  pub x : ℕ
  pub rest : List ℕ
  pub is : text ≡ front ++ x ∷ rest
  pub at : p ≡ length front
  pub goes_on : Begins MAX_DEPTH front
  pub over : Begins MAX_DEPTH (front ++ x ∷ []) → ⊥
  pub deeper : Begins 128 (front ++ x ∷ [])
