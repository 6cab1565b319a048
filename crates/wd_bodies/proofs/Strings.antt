-- A string whose content is told ends at its quote, whatever stands behind that.
use Rattle.std.proofs.Common.{◌≡◌, ℕ, Bool, true, false, cond, ◌&&◌, ◌==◌, nat_lt, List, [], ◌∷◌, ◌++◌, Option, Some, None, option_and_then, refl, sym, ap, ap₂, ◌∙◌}
use Rattle.std.proofs.lemmas.Bool.{false≢true, eqb-true, and_parts}
use Rattle.std.specs.Char.{is_digit, encode_utf8}
use Rattle.json.specs.Text.{code_unit, short_escape, is_high_surrogate, is_low_surrogate, surrogate_pair, Within, plain, after_backslash, after_u, after_high, prepend, content}
use Rattle.json.specs.Word.{is_operator, is_space}
use Rattle.json.specs.Lex.{Lexeme, quote, backslash, operator, space, other, Mode, between, in_string, in_escape, lex_byte, lex}

abbrev mode : Within → Mode
mode plain = in_string
mode after_backslash = in_escape
mode after_u = in_string
mode (after_high h) = in_string

-- the content s ends within xs, and the lexer is behind the string then
pub record End (w : Within) (xs s : List ℕ) : Type 0 where
  pub front : List ℕ
  pub more : List ℕ
  pub is : xs ≡ front ++ more
  pub same : (r : List ℕ) → content w (front ++ r) ≡ Some s
  pub passes : (r : List ℕ) → lex (mode w) (front ++ r) ≡ lex between r

abbrev pub Ends : Within → List ℕ → Option (List ℕ) → Type 0
Ends w xs None = Unit {0}
Ends w xs (Some s) = End w xs s

-- ---- what the lexer passes over

stays : (o s : Bool) (k : Mode → List Lexeme) (x : ℕ) (r : List ℕ) → lex_byte in_string (cond o operator (cond s space other)) x r k ≡ k in_string
stays true s k x r = refl
stays false true k x r = refl
stays false false k x r = refl

pass_plain : (x : ℕ) (r : List ℕ) → (x == 34) ≡ false → (x == 92) ≡ false → lex in_string (x ∷ r) ≡ lex in_string r
unfolding lex
pass_plain x r q b =
    ap₂ (λ u v. lex_byte in_string (cond u quote (cond v backslash (cond (is_operator x) operator (cond (is_space x) space other)))) x r (λ n. lex n r)) q b
    ∙ stays (is_operator x) (is_space x) (λ n. lex n r) x r

pass_backslash : (x : ℕ) (r : List ℕ) → (x == 92) ≡ true → lex in_string (x ∷ r) ≡ lex in_escape r
unfolding lex
pass_backslash x r b = ap (λ y. lex in_string (y ∷ r)) (eqb-true x 92 b)

pass_escaped : (x : ℕ) (r : List ℕ) → lex in_escape (x ∷ r) ≡ lex in_string r
unfolding lex
pass_escaped x r = refl

not_this : (c x : ℕ) (t : Bool) → (t ≡ true → x ≡ c) → is_digit c 16 ≡ false → is_digit x 16 ≡ true → t ≡ false
not_this c x false e never h = refl
not_this c x true e never h = absurd (false≢true (sym never ∙ ap (λ y. is_digit y 16) (sym (e refl)) ∙ h))

pass_hex : (x : ℕ) (r : List ℕ) → is_digit x 16 ≡ true → lex in_string (x ∷ r) ≡ lex in_string r
pass_hex x r h = pass_plain x r (not_this 34 x (x == 34) (eqb-true x 34) refl h) (not_this 92 x (x == 92) (eqb-true x 92) refl h)

all_hex : (b : Bool) (u v : ℕ) → cond b (Some u) None ≡ Some v → b ≡ true
all_hex true u v e = refl
all_hex false u v e = cc

pass_unit : (a b c d u : ℕ) (r : List ℕ) → code_unit a b c d ≡ Some u → lex in_string (a ∷ b ∷ c ∷ d ∷ r) ≡ lex in_string r
unfolding code_unit
pass_unit a b c d u r h =
    let p = and_parts (is_digit a 16 && is_digit b 16 && is_digit c 16) (is_digit d 16) (all_hex _ _ u h) in
    let q = and_parts (is_digit a 16 && is_digit b 16) (is_digit c 16) p.0 in
    let o = and_parts (is_digit a 16) (is_digit b 16) q.0 in
    pass_hex a (b ∷ c ∷ d ∷ r) o.0 ∙ pass_hex b (c ∷ d ∷ r) o.1 ∙ pass_hex c (d ∷ r) q.1 ∙ pass_hex d r p.1

-- ---- one step

closes : (x : ℕ) (xs : List ℕ) → (x == 34) ≡ true → End plain (x ∷ xs) []
unfolding content lex
closes x xs q = record {
  front = x ∷ [];
  more = xs;
  is = refl;
  same = λ r. ap (λ y. content plain (y ∷ r)) (eqb-true x 34 q);
  passes = λ r. ap (λ y. lex in_string (y ∷ r)) (eqb-true x 34 q);
}

one_more : (x : ℕ) (xs s : List ℕ) → (x == 34) ≡ false → (x == 92) ≡ false → nat_lt x 32 ≡ false → End plain xs s → End plain (x ∷ xs) (x ∷ s)
unfolding content
one_more x xs s q b l e = record {
  front = x ∷ e.front;
  more = e.more;
  is = ap (λ (ys : List ℕ). x ∷ ys) e.is;
  same = λ r. rw (q, b, l) (ap (prepend (x ∷ [])) (e.same r));
  passes = λ r. pass_plain x (e.front ++ r) q b ∙ e.passes r;
}

escape : (x : ℕ) (xs s : List ℕ) → (x == 34) ≡ false → (x == 92) ≡ true → End after_backslash xs s → End plain (x ∷ xs) s
unfolding content
escape x xs s q b e = record {
  front = x ∷ e.front;
  more = e.more;
  is = ap (λ (ys : List ℕ). x ∷ ys) e.is;
  same = λ r. rw (q, b) (e.same r);
  passes = λ r. pass_backslash x (e.front ++ r) b ∙ e.passes r;
}

by_digits : (x : ℕ) (xs s : List ℕ) → (x == 117) ≡ true → End after_u xs s → End after_backslash (x ∷ xs) s
unfolding content
by_digits x xs s u e = record {
  front = x ∷ e.front;
  more = e.more;
  is = ap (λ (ys : List ℕ). x ∷ ys) e.is;
  same = λ r. rw u (e.same r);
  passes = λ r. pass_escaped x (e.front ++ r) ∙ e.passes r;
}

by_letter : (x c : ℕ) (xs s : List ℕ) → (x == 117) ≡ false → short_escape x ≡ Some c → End plain xs s → End after_backslash (x ∷ xs) (c ∷ s)
unfolding content
by_letter x c xs s u h e = record {
  front = x ∷ e.front;
  more = e.more;
  is = ap (λ (ys : List ℕ). x ∷ ys) e.is;
  same = λ r. rw (u, h) (ap (prepend (c ∷ [])) (e.same r));
  passes = λ r. pass_escaped x (e.front ++ r) ∙ e.passes r;
}

first_half : (a b c d u : ℕ) (xs s : List ℕ) → code_unit a b c d ≡ Some u → is_high_surrogate u ≡ true → End (after_high u) xs s → End after_u (a ∷ b ∷ c ∷ d ∷ xs) s
unfolding content
first_half a b c d u xs s h high e = record {
  front = a ∷ b ∷ c ∷ d ∷ e.front;
  more = e.more;
  is = ap (λ (ys : List ℕ). a ∷ b ∷ c ∷ d ∷ ys) e.is;
  same = λ r. rw (h, high) (e.same r);
  passes = λ r. pass_unit a b c d u (e.front ++ r) h ∙ e.passes r;
}

one_unit : (a b c d u : ℕ) (xs s : List ℕ) → code_unit a b c d ≡ Some u → is_high_surrogate u ≡ false → is_low_surrogate u ≡ false → End plain xs s
    → End after_u (a ∷ b ∷ c ∷ d ∷ xs) (encode_utf8 u ++ s)
unfolding content
one_unit a b c d u xs s h high low e = record {
  front = a ∷ b ∷ c ∷ d ∷ e.front;
  more = e.more;
  is = ap (λ (ys : List ℕ). a ∷ b ∷ c ∷ d ∷ ys) e.is;
  same = λ r. rw (h, high, low) (ap (prepend (encode_utf8 u)) (e.same r));
  passes = λ r. pass_unit a b c d u (e.front ++ r) h ∙ e.passes r;
}

second_half : (high x y a b c d l : ℕ) (xs s : List ℕ) → ((x == 92) && (y == 117)) ≡ true → code_unit a b c d ≡ Some l → is_low_surrogate l ≡ true → End plain xs s
    → End (after_high high) (x ∷ y ∷ a ∷ b ∷ c ∷ d ∷ xs) (encode_utf8 (surrogate_pair high l) ++ s)
unfolding content
second_half high x y a b c d l xs s t h low e = record {
  front = x ∷ y ∷ a ∷ b ∷ c ∷ d ∷ e.front;
  more = e.more;
  is = ap (λ (ys : List ℕ). x ∷ y ∷ a ∷ b ∷ c ∷ d ∷ ys) e.is;
  same = λ r. rw (t, h, low) (ap (prepend (encode_utf8 (surrogate_pair high l))) (e.same r));
  passes = λ r.
      let z = e.front ++ r in
      pass_backslash x (y ∷ a ∷ b ∷ c ∷ d ∷ z) (and_parts _ _ t).0 ∙ pass_escaped y (a ∷ b ∷ c ∷ d ∷ z) ∙ pass_unit a b c d l z h ∙ e.passes r;
}

-- ---- all steps

either : (w : Within) (xs : List ℕ) (b : Bool) (x y : Option (List ℕ)) → (b ≡ true → Ends w xs x) → (b ≡ false → Ends w xs y) → Ends w xs (cond b x y)
either w xs true x y f g = f refl
either w xs false x y f g = g refl

then : (w : Within) (xs : List ℕ) (f : ℕ → Option (List ℕ)) (o : Option ℕ) → ((u : ℕ) → o ≡ Some u → Ends w xs (f u)) → Ends w xs (option_and_then f o)
then w xs f None h = tt
then w xs f (Some u) h = h u refl

onward : (w v : Within) (xs ys : List ℕ) (o : Option (List ℕ)) → ((s : List ℕ) → End v ys s → End w xs s) → Ends v ys o → Ends w xs o
onward w v xs ys None f e = tt
onward w v xs ys (Some s) f e = f s e

onward_with : (w v : Within) (xs ys a : List ℕ) (o : Option (List ℕ)) → ((s : List ℕ) → End v ys s → End w xs (a ++ s)) → Ends v ys o → Ends w xs (prepend a o)
onward_with w v xs ys a None f e = tt
onward_with w v xs ys a (Some s) f e = f s e

pub content-ends : (w : Within) (xs : List ℕ) → Ends w xs (content w xs)
unfolding content
content-ends plain [] = tt
content-ends plain (x ∷ xs) =
    let all = x ∷ xs in
    either plain all (x == 34) _ _ (closes x xs) (λ q. either plain all (x == 92) _ _ (λ b. onward plain after_backslash all xs _ (λ s. escape x xs s q b) (content-ends after_backslash xs))
    (λ b. either plain all (nat_lt x 32) _ _ (λ l. tt) (λ l. onward_with plain plain all xs (x ∷ []) _ (λ s. one_more x xs s q b l) (content-ends plain xs))))
content-ends after_backslash [] = tt
content-ends after_backslash (x ∷ xs) =
    let all = x ∷ xs in
    either after_backslash all (x == 117) _ _ (λ u. onward after_backslash after_u all xs _ (λ s. by_digits x xs s u) (content-ends after_u xs))
    (λ u. then after_backslash all _ (short_escape x) (λ c h. onward_with after_backslash plain all xs (c ∷ []) _ (λ s. by_letter x c xs s u h) (content-ends plain xs)))
content-ends after_u [] = tt
content-ends after_u (a ∷ []) = tt
content-ends after_u (a ∷ b ∷ []) = tt
content-ends after_u (a ∷ b ∷ c ∷ []) = tt
content-ends after_u (a ∷ b ∷ c ∷ d ∷ xs) =
    let all = a ∷ b ∷ c ∷ d ∷ xs in
    then after_u all _ (code_unit a b c d) (λ u h. either after_u all (is_high_surrogate u) _ _
    (λ high. onward after_u (after_high u) all xs _ (λ s. first_half a b c d u xs s h high) (content-ends (after_high u) xs))
    (λ high. either after_u all (is_low_surrogate u) _ _ (λ low. tt)
    (λ low. onward_with after_u plain all xs (encode_utf8 u) _ (λ s. one_unit a b c d u xs s h high low) (content-ends plain xs))))
content-ends (after_high high) [] = tt
content-ends (after_high high) (x ∷ []) = tt
content-ends (after_high high) (x ∷ y ∷ []) = tt
content-ends (after_high high) (x ∷ y ∷ a ∷ []) = tt
content-ends (after_high high) (x ∷ y ∷ a ∷ b ∷ []) = tt
content-ends (after_high high) (x ∷ y ∷ a ∷ b ∷ c ∷ []) = tt
content-ends (after_high high) (x ∷ y ∷ a ∷ b ∷ c ∷ d ∷ xs) =
    let w = after_high high in
    let all = x ∷ y ∷ a ∷ b ∷ c ∷ d ∷ xs in
    either w all ((x == 92) && (y == 117)) _ _ (λ t. then w all _ (code_unit a b c d) (λ l h. either w all (is_low_surrogate l) _ _
    (λ low. onward_with w plain all xs (encode_utf8 (surrogate_pair high l)) _ (λ s. second_half high x y a b c d l xs s t h low) (content-ends plain xs)) (λ low. tt))) (λ t. tt)
