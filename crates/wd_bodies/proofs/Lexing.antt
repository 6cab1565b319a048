-- A text that is read as lexemes without a fault is read as these before what ends a word.
use Rattle.std.proofs.Common.{◌≡◌, ℕ, zero, suc, ◌+◌, ◌-◌, ◌≤◌, ◌<◌, min, Bool, true, false, cond, ◌||◌, ◌==◌, List, [], ◌∷◌, ◌++◌, length, take, drop, Option, Some, None, option_and_then, refl, sym, ap, ap₂, ◌∙◌, subst, arith, append_assoc}
use Rattle.std.proofs.lemmas.Bool.{and_parts}
use Rattle.std.proofs.lemmas.List.{drop-drop, drop_min, length-drop, length-append, take-append-drop}
use Rattle.std.proofs.lemmas.Slice.Eq.{bytes_eq-Decides}
use Rattle.std.specs.List.{prefix_len}
use Rattle.std.specs.Char.{is_ascii_digit}
use Rattle.json.specs.Token.{Token, boolean, null, bad, number, string}
use Rattle.json.specs.Text.{content, plain}
use Rattle.json.specs.Word.{head, ends_word, after_digits, after_minus, after_sign, after_fraction, after_exponent, after_number, number_before, literal, word}
use Rattle.json.specs.Lex.{Lexeme, token, Class, quote, backslash, operator, space, other, class, operator_lexeme, string_token, between, lex_byte, lex}
use Rattle.json.specs.Print.{IsNumber}
use Rattle.json.proofs.Printed.Numbers.{number_alone, lex-number, in_word-ended}
use Rattle.wd_bodies.proofs.Punctuation.{IsGood, AreGood}
use Rattle.wd_bodies.proofs.Strings.{Ends, content-ends}

-- ---- what a part of a number leaves is an end of the text

abbrev EndOf : List ℕ → List ℕ → Type 0
EndOf t r = (k : ℕ) × (r ≡ drop k t)

abbrev Leaves : List ℕ → Option (List ℕ) → Type 0
Leaves t None = Unit {0}
Leaves t (Some r) = EndOf t r

further : (t u : List ℕ) (o : Option (List ℕ)) → EndOf t u → Leaves u o → Leaves t o
further t u None e h = tt
further t u (Some r) e h = (e.0 + h.0, h.1 ∙ ap (drop h.0) e.1 ∙ drop-drop h.0 e.0 t)

either : (t : List ℕ) (b : Bool) (x y : Option (List ℕ)) → Leaves t x → Leaves t y → Leaves t (cond b x y)
either t true x y p q = p
either t false x y p q = q

optional : (t : List ℕ) (b : Bool) → EndOf t (cond b (drop 1 t) t)
optional t true = (1, refl)
optional t false = (0, refl)

digits : (t : List ℕ) → Leaves t (after_digits t)
digits t = either t (prefix_len is_ascii_digit t == 0) None _ tt (prefix_len is_ascii_digit t, refl)

then : (t : List ℕ) (f : List ℕ → Option (List ℕ)) → ((u : List ℕ) → Leaves u (f u)) → (o : Option (List ℕ)) → Leaves t o → Leaves t (option_and_then f o)
then t f g None h = tt
then t f g (Some r) h = further t r (f r) h (g r)

fraction : (t : List ℕ) → Leaves t (after_fraction t)
fraction t = either t (head t == 46) _ (Some t) (further t (drop 1 t) _ (1, refl) (digits (drop 1 t))) (0, refl)

exponent : (t : List ℕ) → Leaves t (after_exponent t)
exponent t =
    let u = drop 1 t in
    either t ((head t == 101) || (head t == 69)) _ (Some t) (further t u _ (1, refl) (further u (after_sign u) _ (optional u _) (digits (after_sign u)))) (0, refl)

Leaves-after_number : (t : List ℕ) → Leaves t (after_number t)
unfolding after_number
Leaves-after_number t =
    let u = after_minus t in
    then t after_exponent exponent _ (then t after_fraction fraction _ (further t u _ (optional t _) (either u (head u == 48) (Some (drop 1 u)) _ (1, refl) (digits u))))

front_and_rest : (t r : List ℕ) → EndOf t r → take (length t - length r) t ++ r ≡ t
front_and_rest t r e =
    let n : length t - length r ≡ min e.0 (length t) = omega (arith, ap length e.1, length-drop e.0 t) in
    ap (λ x. take (length t - length r) t ++ x) (e.1 ∙ sym (drop_min e.0 t) ∙ ap (λ k. drop k t) (sym n)) ∙ take-append-drop _ t

-- ---- the first lexeme

-- a front of the text is read as these lexemes, before what ends a word where that is asked
record First (t : List ℕ) : Type 0 where
  front : List ℕ
  more : List ℕ
  lexemes : List Lexeme
  asks : Bool
  is : t ≡ front ++ more
  some : 0 < length front
  ended : asks ≡ true → ends_word more ≡ true
  reads : (r : List ℕ) → (asks ≡ true → ends_word r ≡ true) → lex between (front ++ r) ≡ lexemes ++ lex between r

at_operator : (x : ℕ) (xs : List ℕ) → class x ≡ operator → First (x ∷ xs)
unfolding lex
at_operator x xs e = record {
  front = x ∷ [];
  more = xs;
  lexemes = operator_lexeme x ∷ [];
  asks = false;
  is = refl;
  some = omega arith;
  ended = λ a. cc;
  reads = λ r ok. ap (λ c. lex_byte between c x r (λ m. lex m r)) e;
}

at_space : (x : ℕ) (xs : List ℕ) → class x ≡ space → First (x ∷ xs)
unfolding lex
at_space x xs e = record {
  front = x ∷ [];
  more = xs;
  lexemes = [];
  asks = false;
  is = refl;
  some = omega arith;
  ended = λ a. cc;
  reads = λ r ok. ap (λ c. lex_byte between c x r (λ m. lex m r)) e;
}

at_quote : (x : ℕ) (xs : List ℕ) (o : Option (List ℕ)) → class x ≡ quote → IsGood (string_token o) → Ends plain xs o → First (x ∷ xs)
unfolding lex
at_quote x xs None e good s = absurd good
at_quote x xs (Some text) e good s = record {
  front = x ∷ s.front;
  more = s.more;
  lexemes = token (string text) ∷ [];
  asks = false;
  is = ap (λ (ys : List ℕ). x ∷ ys) s.is;
  some = omega arith;
  ended = λ a. cc;
  reads = λ r ok.
      let ys = s.front ++ r in
      ap (λ c. lex_byte between c x ys (λ m. lex m ys)) e ∙ ap₂ (λ o (ls : List Lexeme). token (string_token o) ∷ ls) (s.same r) (s.passes r);
}

-- ---- words

good_if : (b : Bool) (k : Token) → IsGood (cond b k bad) → b ≡ true
good_if true k h = refl
good_if false k h = absurd h

literal_first : (name : List ℕ) (k : Token) (t : List ℕ) → 0 < length name → ((r : List ℕ) → ends_word r ≡ true → lex between (name ++ r) ≡ token k ∷ lex between r)
    → IsGood (literal name k t) → First t
literal_first name k t some reads good =
    let both = and_parts _ _ (good_if _ k good) in
    let front : name ≡ take (length name) t = (bytes_eq-Decides name (take (length name) t)).0 both.0 in
    record {
      front = name;
      more = drop (length name) t;
      lexemes = token k ∷ [];
      asks = true;
      is = sym (take-append-drop (length name) t) ∙ ap (λ (ys : List ℕ). ys ++ drop (length name) t) (sym front);
      some = some;
      ended = λ a. both.1;
      reads = λ r ok. reads r (ok refl);
    }

some_byte : (s : List ℕ) → IsNumber s → 0 < length s
unfolding after_number
some_byte [] h = cc
some_byte (x ∷ xs) h = omega arith

number_first : (t : List ℕ) (o : Option (List ℕ)) → after_number t ≡ o → Leaves t o → IsGood (number_before t o) → First t
number_first t None e left good = absurd good
number_first t (Some rest) e left good =
    let s = take (length t - length rest) t in
    let is = front_and_rest t rest left in
    let ended = good_if (ends_word rest) (number s) good in
    let n : IsNumber s = number_alone s rest ended (ap after_number is ∙ e) in
    record {
      front = s;
      more = rest;
      lexemes = token (number s) ∷ [];
      asks = true;
      is = sym is;
      some = some_byte s n;
      ended = λ a. ended;
      reads = λ r ok. lex-number s r n (ok refl);
    }

reads_true : (r : List ℕ) → ends_word r ≡ true → lex between (116 ∷ 114 ∷ 117 ∷ 101 ∷ r) ≡ token (boolean true) ∷ lex between r
unfolding lex word
reads_true r e = ap₂ (λ b (ls : List Lexeme). token (cond b (boolean true) bad) ∷ ls) e (in_word-ended r e)

reads_false : (r : List ℕ) → ends_word r ≡ true → lex between (102 ∷ 97 ∷ 108 ∷ 115 ∷ 101 ∷ r) ≡ token (boolean false) ∷ lex between r
unfolding lex word
reads_false r e = ap₂ (λ b (ls : List Lexeme). token (cond b (boolean false) bad) ∷ ls) e (in_word-ended r e)

reads_null : (r : List ℕ) → ends_word r ≡ true → lex between (110 ∷ 117 ∷ 108 ∷ 108 ∷ r) ≡ token null ∷ lex between r
unfolding lex word
reads_null r e = ap₂ (λ b (ls : List Lexeme). token (cond b null bad) ∷ ls) e (in_word-ended r e)

choose : (b : Bool) (x y : Token) (P : Type 0) → (IsGood x → P) → (IsGood y → P) → IsGood (cond b x y) → P
choose true x y P f g = f
choose false x y P f g = g

word_first : (t : List ℕ) → IsGood (word t) → First t
unfolding word
word_first t =
    choose (head t == 116) _ _ (First t) (literal_first (116 ∷ 114 ∷ 117 ∷ 101 ∷ []) (boolean true) t (omega arith) reads_true)
    (choose (head t == 102) _ _ (First t) (literal_first (102 ∷ 97 ∷ 108 ∷ 115 ∷ 101 ∷ []) (boolean false) t (omega arith) reads_false)
    (choose (head t == 110) _ _ (First t) (literal_first (110 ∷ 117 ∷ 108 ∷ 108 ∷ []) null t (omega arith) reads_null) (number_first t (after_number t) refl (Leaves-after_number t))))

-- ---- all lexemes

by_class : (c : Class) (x : ℕ) (xs : List ℕ) → class x ≡ c → AreGood (lex_byte between c x xs (λ m. lex m xs)) → First (x ∷ xs)
by_class quote x xs e good = at_quote x xs (content plain xs) e good.0 (content-ends plain xs)
by_class backslash x xs e good = absurd good.0
by_class operator x xs e good = at_operator x xs e
by_class space x xs e good = at_space x xs e
by_class other x xs e good = word_first (x ∷ xs) good.0

first_of_text : (x : ℕ) (xs : List ℕ) → AreGood (lex between (x ∷ xs)) → First (x ∷ xs)
unfolding lex
first_of_text x xs = by_class (class x) x xs refl

good_rest : (ls more : List Lexeme) → AreGood (ls ++ more) → AreGood more
good_rest [] more h = h
good_rest (token t ∷ ls) more h = good_rest ls more h.1
good_rest (Lexeme.comma ∷ ls) more h = good_rest ls more h
good_rest (Lexeme.colon ∷ ls) more h = good_rest ls more h

still_ended : (a b : List ℕ) → ends_word a ≡ true → ends_word b ≡ true → ends_word (a ++ b) ≡ true
still_ended [] b p q = q
still_ended (x ∷ xs) b p q = p

step : (n : ℕ) (t rest : List ℕ) → ((u : List ℕ) → length u ≤ n → AreGood (lex between u) → lex between (u ++ rest) ≡ lex between u ++ lex between rest)
    → length t ≤ suc n → AreGood (lex between t) → ends_word rest ≡ true → First t → lex between (t ++ rest) ≡ lex between t ++ lex between rest
step n t rest again within good ended f =
    let alone = f.reads f.more f.ended in
    let shorter : length f.more ≤ n = omega (arith, f.some, length-append f.front f.more, ap length f.is) in
    let rest_good = good_rest f.lexemes (lex between f.more) (subst AreGood (ap (lex between) f.is ∙ alone) good) in
    ap (λ (u : List ℕ). lex between (u ++ rest)) f.is
    ∙ ap (lex between) (append_assoc f.front f.more rest)
    ∙ f.reads (f.more ++ rest) (λ a. still_ended f.more rest (f.ended a) ended)
    ∙ ap (λ (ls : List Lexeme). f.lexemes ++ ls) (again f.more shorter rest_good)
    ∙ sym (append_assoc f.lexemes (lex between f.more) (lex between rest))
    ∙ ap (λ (ls : List Lexeme). ls ++ lex between rest) (sym (ap (lex between) f.is ∙ alone))

lex_nil : (rest : List ℕ) → lex between ([] ++ rest) ≡ lex between [] ++ lex between rest
unfolding lex
lex_nil rest = refl

before : (n : ℕ) (t rest : List ℕ) → length t ≤ n → AreGood (lex between t) → ends_word rest ≡ true → lex between (t ++ rest) ≡ lex between t ++ lex between rest
before n [] rest within good ended = lex_nil rest
before zero (x ∷ xs) rest within good ended = absurd (omega arith)
before (suc n) (x ∷ xs) rest within good ended =
    step n (x ∷ xs) rest (λ u w g. before n u rest w g ended) within good ended (first_of_text x xs good)

pub lex-append : (t rest : List ℕ) → AreGood (lex between t) → ends_word rest ≡ true → lex between (t ++ rest) ≡ lex between t ++ lex between rest
lex-append t rest = before (length t) t rest (omega arith)
