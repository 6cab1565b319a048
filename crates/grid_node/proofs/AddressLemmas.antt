-- A port of this machine is a node's address.
use Rattle.std.proofs.Common.{◌≡◌, ℕ, ◌+◌, ◌%◌, ◌^◌, ◌<◌, ◌≤◌, Bool, true, false, ◌&&◌, nat_le, List, [], ◌∷◌, ◌++◌, length, codes, decimal, refl, ◌∙◌, length-append, arith}
use Rattle.std.specs.List.{list_all}
use Rattle.std.proofs.lemmas.List.Folds.{list_all-append}
use Rattle.std.proofs.lemmas.Fmt.{decimal_by_steps, length-decimal-le}
use Rattle.std.proofs.lemmas.Bool.Decides.{nat_tests}
use Rattle.grid_types.specs.Names.{is_address_byte, is_node_address}
use Rattle.grid_node.specs.Registration.{local_address}

digit : (n : ℕ) → n < 10 → is_address_byte (48 + n) ≡ true
digit n low = grind (arith, nat_tests)

one : (n : ℕ) → n < 10 → list_all is_address_byte ((48 + n) ∷ []) ≡ true
one n low = rw (digit n low) refl

one_more : (ds : List ℕ) (n : ℕ) → n < 10 → list_all is_address_byte ds ≡ true → list_all is_address_byte (ds ++ (48 + n) ∷ []) ≡ true
one_more ds n low before = rw (list_all-append is_address_byte ds ((48 + n) ∷ []), before) (one n low)

digits : (n : ℕ) → n < 2 ^ 64 → list_all is_address_byte (decimal n) ≡ true
digits n small =
    decimal_by_steps (λ n ds. list_all is_address_byte ds ≡ true) (λ n low. one n low) (λ n ds high before. one_more ds (n % 10) (grind arith) before) n small

three : (a b c : Bool) → a ≡ true → b ≡ true → c ≡ true → (a && b && c) ≡ true
three true true true p q r = refl
three true true false p q r = r
three true false c p q r = q
three false b c p q r = p

le_true : (n m : ℕ) → n ≤ m → nat_le n m ≡ true
le_true n m h = grind (arith, nat_tests)

behind_host : (ds : List ℕ) → length ds ≤ 5 → list_all is_address_byte ds ≡ true → is_node_address (codes "127.0.0.1:" ++ ds) ≡ true
behind_host ds short all =
    let text : List ℕ = codes "127.0.0.1:" ++ ds in
    three (nat_le 1 (length text)) (nat_le (length text) 255) (list_all is_address_byte text)
    (le_true 1 (length text) (omega (arith, length-append (codes "127.0.0.1:") ds)))
    (le_true (length text) 255 (omega (arith, short, length-append (codes "127.0.0.1:") ds)))
    (list_all-append is_address_byte (codes "127.0.0.1:") ds ∙ all)

pub local_is_address : (port : ℕ) → port < 2 ^ 16 → is_node_address (local_address port) ≡ true
local_is_address port small = behind_host (decimal port) (length-decimal-le 5 port (omega arith) (omega arith) (omega arith)) (digits port (omega arith))
