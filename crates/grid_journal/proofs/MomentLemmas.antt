-- Numbers of 64 bits that are moments.
use Rattle.std.proofs.Common.{◌≡◌, ℕ, ◌/◌, ◌%◌, ◌<◌, ◌≤◌, nat_eq, nat_lt, Bool, true, false, ◌&&◌, List, [], ◌∷◌, ◌++◌, refl, sym, subst, arith}
use Rattle.std.proofs.lemmas.Bool.Decides.{nat_tests}
use Rattle.grid_types.specs.declared.limits.TheConstants.{LAST_MOMENT}
use Rattle.grid_journal.specs.declared.stop.Stop.{Stop}
use Rattle.grid_journal.specs.declared.stop.Stop.TheVariants as stop
use Rattle.grid_journal.specs.Forms.{agree, NoneBegins, IsShort, Stops}
use Rattle.grid_journal.specs.FormLemmas.{agree_cancel}
use Rattle.grid_journal.specs.NumberForms.{eight_form}
use Rattle.grid_journal.specs.CapForms.{moment_form, to_moment, fits_eight, is_past_moments}
use Rattle.grid_journal.specs.Spelled.{eight_bytes}
use Rattle.grid_journal.specs.Fits.{FitsEight}

same_head : (x y : ℕ) (b : Bool) → (nat_eq x y && b) ≡ true → x ≡ y
same_head x y b h = grind arith

-- the number of 64 bits that begins with such a byte is past the last moment, and no other is
past_byte : (n b : ℕ) → FitsEight n → n / 4_294_967_296 / 65_536 / 256 % 256 ≡ b → nat_lt 63 b ≡ true → n ≤ LAST_MOMENT → ⊥
past_byte n b fits is late f = let later : 63 < b = grind (arith, nat_tests, late) in omega (arith, is, later, f, fits)

early_byte : (n b : ℕ) → FitsEight n → n / 4_294_967_296 / 65_536 / 256 % 256 ≡ b → nat_lt 63 b ≡ false → n ≤ LAST_MOMENT
early_byte n b fits is early = let few : b ≤ 63 = grind (arith, nat_tests, early) in omega (arith, is, few, fits)

first_byte : (n b : ℕ) (rest : List ℕ) → agree (eight_bytes n) (b ∷ rest) ≡ true → n / 4_294_967_296 / 65_536 / 256 % 256 ≡ b
first_byte n b rest h = same_head (n / 4_294_967_296 / 65_536 / 256 % 256) b _ h

pub past_moments : (bytes : List ℕ) → is_past_moments bytes ≡ true → NoneBegins moment_form bytes
past_moments [] late m f h = absurd (cc late)
past_moments (b ∷ rest) late m f h = past_byte m.0 b (fits_eight m f) (first_byte m.0 b rest h) late f

-- the number that is read from other bytes is a moment
pub moment_read : (bytes rest : List ℕ) (n : ℕ) → is_past_moments bytes ≡ false → FitsEight n → bytes ≡ eight_bytes n ++ rest → n ≤ LAST_MOMENT
moment_read [] rest n early f is = absurd (cc is)
moment_read (b ∷ more) rest n early f is =
    early_byte n b f (first_byte n b more (subst (λ l. agree (eight_bytes n) l ≡ true) (sym is) (agree_cancel (eight_bytes n) [] rest))) early

-- other bytes that end inside a number end inside a moment
moment_short : (bytes : List ℕ) (k : ℕ) → is_past_moments bytes ≡ false → IsShort eight_form bytes k → IsShort moment_form bytes k
moment_short [] k early short = record {
  value = to_moment 0;
  fits = omega arith;
  agrees = refl;
  long = short.long;
  least = λ m f h. short.least m.0 (fits_eight m f) h;
  more = short.more;
}
moment_short (b ∷ more) k early short = record {
  value = to_moment short.value;
  fits = early_byte short.value b short.fits (first_byte short.value b more short.agrees) early;
  agrees = short.agrees;
  long = short.long;
  least = λ m f h. short.least m.0 (fits_eight m f) h;
  more = short.more;
}

pub moment_stops : (bytes : List ℕ) (s : Stop) → is_past_moments bytes ≡ false → Stops eight_form bytes s → Stops moment_form bytes s
moment_stops bytes (stop.Short missing) early (k, short, capped) = (k, moment_short bytes k early short, capped)
moment_stops bytes stop.Wrong early none = λ m f h. none m.0 (fits_eight m f) h
moment_stops bytes stop.Memory early h = tt
