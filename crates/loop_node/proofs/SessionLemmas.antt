-- The ids of a node's sessions.
use Rattle.std.proofs.Common.{◌≡◌, ℕ, zero, suc, ◌+◌, ◌*◌, ◌/◌, ◌%◌, ◌^◌, ◌<◌, List, [], ◌∷◌, length, refl, arith}
use Rattle.std.specs.Prelude.{Bool, true, false, cond, slice_index, ◌==◌}
use Rattle.std.specs.List.{list_all}
use Rattle.std.proofs.lemmas.Bool.Decides.{nat_tests}
use Rattle.std.proofs.lemmas.List.Folds.{list_all-append}
use Rattle.std.specs.Int.{to_be_bytes, w128}
use Rattle.uuid.specs.Text.{hyphenated_text, lower, by_index, hex_digit, nibble, is_hyphen_place, hyphen, digit_place}
use Rattle.uuid.proofs.TextLemmas.{by_index_length}
use Rattle.grid_types.specs.Names.{is_session_byte, is_session_name}
use Rattle.loop_node.specs.Sessions.{session_id}

all_by_index : (p : ℕ → Bool) (n : ℕ) (f : ℕ → ℕ) → ((k : ℕ) → p (f k) ≡ true) → list_all p (by_index n f) ≡ true
unfolding by_index
all_by_index p zero f h = refl
all_by_index p (suc n) f h = rw (list_all-append p (by_index n f) (f n ∷ []), all_by_index p n f h, h n) refl

digit_fits : (d : ℕ) → d < 16 → is_session_byte (hex_digit lower d) ≡ true
digit_fits d h = grind (arith, nat_tests)

remainder_small : (b : Bool) (x y : ℕ) → cond b (x % 16) (y % 16) < 16
remainder_small true x y = omega arith
remainder_small false x y = omega arith

digit_small : (xs : List ℕ) (k : ℕ) → nibble xs k < 16
digit_small xs k = remainder_small (k % 2 == 0) (slice_index xs (k / 2) / 16) (slice_index xs (k / 2))

byte_fits : (b : Bool) (d : ℕ) → d < 16 → is_session_byte (cond b hyphen (hex_digit lower d)) ≡ true
byte_fits true d h = refl
byte_fits false d h = digit_fits d h

named_by : (bytes : List ℕ) → length bytes ≡ 36 → list_all is_session_byte bytes ≡ true → is_session_name bytes ≡ true
named_by bytes l a = rw (l, a) refl

pub text_named : (xs : List ℕ) → is_session_name (hyphenated_text lower xs) ≡ true
text_named xs = named_by (hyphenated_text lower xs) (by_index_length 36 _)
    (all_by_index is_session_byte 36 _ (λ k. byte_fits (is_hyphen_place k) (nibble xs (digit_place k)) (digit_small xs (digit_place k))))

-- each is an id
pub session_id_named : (number n : ℕ) → is_session_name (session_id number n) ≡ true
unfolding session_id
session_id_named number n = text_named (to_be_bytes w128 (number * 2 ^ 64 + n))
