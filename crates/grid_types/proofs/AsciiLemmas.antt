-- Ids and addresses are ASCII, and so they are text.
use Rattle.std.proofs.Common.{◌≡◌, ℕ, zero, suc, ◌<◌, Bool, true, false, ◌&&◌, nat_le, List, [], ◌∷◌, length, refl, arith, IsTrue}
use Rattle.std.specs.Str.{IsUtf8, IsAscii}
use Rattle.std.specs.List.{list_all}
use Rattle.std.proofs.lemmas.Str.{IsUtf8-from_ascii}
use Rattle.std.proofs.lemmas.Bool.Decides.{nat_tests}
use Rattle.grid_types.proofs.ListLemmas.{and_left, and_right}
use Rattle.grid_types.specs.Names.{is_session_byte, is_session_name, is_address_byte, is_node_address}

IsAscii-all : (p : ℕ → Bool) → ((b : ℕ) → p b ≡ true → b < 128) → (bs : List ℕ) → list_all p bs ≡ true → IsAscii bs
IsAscii-all p below [] h i = omega arith
IsAscii-all p below (b ∷ bs) h zero = below b (and_left (p b) (list_all p bs) h)
IsAscii-all p below (b ∷ bs) h (suc i) = IsAscii-all p below bs (and_right (p b) (list_all p bs) h) i

session_byte : (b : ℕ) → is_session_byte b ≡ true → b < 128
session_byte b h = grind (arith, nat_tests)

address_byte : (b : ℕ) → is_address_byte b ≡ true → b < 128
address_byte b h = grind (arith, nat_tests)

true_of : (b : Bool) → IsTrue b → b ≡ true
true_of true h = refl
true_of false h = absurd cc

pub IsUtf8-session : (bs : List ℕ) → IsTrue (is_session_name bs) → IsUtf8 bs
IsUtf8-session bs h =
    IsUtf8-from_ascii bs (IsAscii-all is_session_byte session_byte bs
    (and_right (nat_le 1 (length bs) && nat_le (length bs) 128) (list_all is_session_byte bs) (true_of _ h)))

pub IsUtf8-address : (bs : List ℕ) → IsTrue (is_node_address bs) → IsUtf8 bs
IsUtf8-address bs h =
    IsUtf8-from_ascii bs (IsAscii-all is_address_byte address_byte bs
    (and_right (nat_le 1 (length bs) && nat_le (length bs) 255) (list_all is_address_byte bs) (true_of _ h)))
