-- Lexemes that are punctuated without a fault are so before others too, at the place that they leave.
use Rattle.std.proofs.Common.{◌≡◌, Bool, true, false, List, [], ◌∷◌, ◌++◌, refl, sym, ap, ◌∙◌, subst, append_assoc, append-nil}
use Rattle.json.specs.Token.{Token, begin_object, end_object, begin_array, end_array, key, string, number, boolean, null, bad}
use Rattle.json.specs.Lex.{Lexeme, token, comma, colon, Place, fresh, after_value, after_comma, after_key, begins_colon, may_begin, may_close, if_allowed, place_token, punctuate}
use Rattle.json.specs.Json.{Json, null as null_json, boolean as boolean_json, number as number_json, string as string_json, array, object, Items, no_items, item, Members, no_members, member}
use Rattle.json.specs.Print.{ArePrintable}
use Rattle.json.specs.Tree.{json_tokens, items_tokens, members_tokens}

abbrev pub IsGood : Token → Type 0
IsGood begin_object = Unit {0}
IsGood end_object = Unit {0}
IsGood begin_array = Unit {0}
IsGood end_array = Unit {0}
IsGood (key s) = Unit {0}
IsGood (string s) = Unit {0}
IsGood (number s) = Unit {0}
IsGood (boolean b) = Unit {0}
IsGood null = Unit {0}
IsGood bad = ⊥

-- none of the lexemes is a fault
abbrev pub AreGood : List Lexeme → Type 0
AreGood [] = Unit {0}
AreGood (token t ∷ ls) = IsGood t × AreGood ls
AreGood (comma ∷ ls) = AreGood ls
AreGood (colon ∷ ls) = AreGood ls

-- ---- the place behind tokens

-- a comma or a colon stands before the next token
abbrev settled : Place → Place
settled fresh = fresh
settled after_value = after_value
settled after_comma = after_value
settled after_key = fresh

abbrev place_behind : Token → Place
place_behind begin_object = fresh
place_behind end_object = after_value
place_behind begin_array = fresh
place_behind end_array = after_value
place_behind (key s) = after_key
place_behind (string s) = after_value
place_behind (number s) = after_value
place_behind (boolean b) = after_value
place_behind null = after_value
place_behind bad = after_value

abbrev place_after : Place → List Token → Place
place_after p [] = settled p
place_after p (t ∷ ts) = place_after (place_behind t) ts

behind_comma : (ts : List Token) → place_after after_comma ts ≡ place_after after_value ts
behind_comma [] = refl
behind_comma (t ∷ ts) = refl

behind_colon : (ts : List Token) → place_after after_key ts ≡ place_after fresh ts
behind_colon [] = refl
behind_colon (t ∷ ts) = refl

mutual
  behind_value : (j : Json) (p : Place) (us : List Token) → place_after p (json_tokens j ++ us) ≡ place_after after_value us
  behind_value null_json p us = refl
  behind_value (boolean_json b) p us = refl
  behind_value (number_json s) p us = refl
  behind_value (string_json s) p us = refl
  behind_value (array js) p us = behind_items js fresh us
  behind_value (object ms) p us = behind_members ms fresh us

  behind_items : (js : Items) (p : Place) (us : List Token) → place_after p (items_tokens js ++ us) ≡ place_after after_value us
  behind_items no_items p us = refl
  behind_items (item j js) p us =
      ap (place_after p) (append_assoc (json_tokens j) (items_tokens js) us) ∙ behind_value j p (items_tokens js ++ us) ∙ behind_items js after_value us

  behind_members : (ms : Members) (p : Place) (us : List Token) → place_after p (members_tokens ms ++ us) ≡ place_after after_value us
  behind_members no_members p us = refl
  behind_members (member k j ms) p us =
      ap (place_after after_key) (append_assoc (json_tokens j) (members_tokens ms) us) ∙ behind_value j after_key (members_tokens ms ++ us) ∙ behind_members ms after_value us

-- ---- no fault is among them

good_if : (b : Bool) (t : Token) (k : Place → List Token) (next : Place) (ls : List Lexeme) → IsGood t → (ArePrintable (k next) → AreGood ls) → ArePrintable (if_allowed b t k next) → AreGood (token t ∷ ls)
unfolding ArePrintable
good_if true t k next ls good more h = (good, more h.1)
good_if false t k next ls good more h = absurd h.0

good_placed : (p : Place) (t : Token) (b : Bool) (k : Place → List Token) (ls : List Lexeme) → ((next : Place) → ArePrintable (k next) → AreGood ls) → ArePrintable (place_token p t b k) → AreGood (token t ∷ ls)
unfolding ArePrintable
good_placed p begin_object b k ls more h = good_if (may_begin p) begin_object k fresh ls tt (more fresh) h
good_placed p end_object b k ls more h = good_if (may_close p) end_object k after_value ls tt (more after_value) h
good_placed p begin_array b k ls more h = good_if (may_begin p) begin_array k fresh ls tt (more fresh) h
good_placed p end_array b k ls more h = good_if (may_close p) end_array k after_value ls tt (more after_value) h
good_placed p (key s) b k ls more h = absurd h.0
good_placed p (string s) true k ls more h = good_if (may_begin p) (key s) k after_key ls tt (more after_key) h
good_placed p (string s) false k ls more h = good_if (may_begin p) (string s) k after_value ls tt (more after_value) h
good_placed p (number s) b k ls more h = good_if (may_begin p) (number s) k after_value ls tt (more after_value) h
good_placed p (boolean v) b k ls more h = good_if (may_begin p) (boolean v) k after_value ls tt (more after_value) h
good_placed p null b k ls more h = good_if (may_begin p) null k after_value ls tt (more after_value) h
good_placed p bad b k ls more h = absurd h.0

pub good_lexemes : (ls : List Lexeme) (p : Place) → ArePrintable (punctuate p ls) → AreGood ls
unfolding punctuate ArePrintable
good_lexemes [] p h = tt
good_lexemes (token t ∷ ls) p h = good_placed p t (begins_colon ls) (λ next. punctuate next ls) ls (λ next. good_lexemes ls next) h
good_lexemes (comma ∷ ls) fresh h = absurd h.0
good_lexemes (comma ∷ ls) after_value h = good_lexemes ls after_comma h
good_lexemes (comma ∷ ls) after_comma h = absurd h.0
good_lexemes (comma ∷ ls) after_key h = absurd h.0
good_lexemes (colon ∷ ls) fresh h = absurd h.0
good_lexemes (colon ∷ ls) after_value h = absurd h.0
good_lexemes (colon ∷ ls) after_comma h = absurd h.0
good_lexemes (colon ∷ ls) after_key h = good_lexemes ls fresh h

-- ---- before others

same_colon : (ls more : List Lexeme) → begins_colon more ≡ false → begins_colon (ls ++ more) ≡ begins_colon ls
same_colon [] more h = h
same_colon (token t ∷ ls) more h = refl
same_colon (comma ∷ ls) more h = refl
same_colon (colon ∷ ls) more h = refl

module _ (more : List Lexeme) where
  -- what is punctuated as ts is punctuated as us before `more`
  abbrev Goes : Place → List Token → List Token → Type 0
  Goes p ts us = us ≡ ts ++ punctuate (place_after p ts) more

  goes_if : (b : Bool) (p : Place) (t : Token) (k l : Place → List Token) → (ArePrintable (k (place_behind t)) → Goes (place_behind t) (k (place_behind t)) (l (place_behind t)))
      → ArePrintable (if_allowed b t k (place_behind t)) → Goes p (if_allowed b t k (place_behind t)) (if_allowed b t l (place_behind t))
  unfolding ArePrintable
  goes_if true p t k l again h = ap (λ (ts : List Token). t ∷ ts) (again h.1)
  goes_if false p t k l again h = absurd h.0

  goes_placed : (p : Place) (t : Token) (b : Bool) (k l : Place → List Token) → ((next : Place) → ArePrintable (k next) → Goes next (k next) (l next))
      → ArePrintable (place_token p t b k) → Goes p (place_token p t b k) (place_token p t b l)
  unfolding ArePrintable
  goes_placed p begin_object b k l again h = goes_if (may_begin p) p begin_object k l (again fresh) h
  goes_placed p end_object b k l again h = goes_if (may_close p) p end_object k l (again after_value) h
  goes_placed p begin_array b k l again h = goes_if (may_begin p) p begin_array k l (again fresh) h
  goes_placed p end_array b k l again h = goes_if (may_close p) p end_array k l (again after_value) h
  goes_placed p (key s) b k l again h = absurd h.0
  goes_placed p (string s) true k l again h = goes_if (may_begin p) p (key s) k l (again after_key) h
  goes_placed p (string s) false k l again h = goes_if (may_begin p) p (string s) k l (again after_value) h
  goes_placed p (number s) b k l again h = goes_if (may_begin p) p (number s) k l (again after_value) h
  goes_placed p (boolean v) b k l again h = goes_if (may_begin p) p (boolean v) k l (again after_value) h
  goes_placed p null b k l again h = goes_if (may_begin p) p null k l (again after_value) h
  goes_placed p bad b k l again h = absurd h.0

  goes_on : (ls : List Lexeme) (p : Place) → begins_colon more ≡ false → ArePrintable (punctuate p ls) → Goes p (punctuate p ls) (punctuate p (ls ++ more))
  unfolding punctuate ArePrintable
  goes_on [] fresh c h = refl
  goes_on [] after_value c h = refl
  goes_on [] after_comma c h = absurd h.0
  goes_on [] after_key c h = absurd h.0
  goes_on (token t ∷ ls) p c h =
      ap (λ b. place_token p t b (λ next. punctuate next (ls ++ more))) (same_colon ls more c)
      ∙ goes_placed p t (begins_colon ls) (λ next. punctuate next ls) (λ next. punctuate next (ls ++ more)) (λ next. goes_on ls next c) h
  goes_on (comma ∷ ls) fresh c h = absurd h.0
  goes_on (comma ∷ ls) after_value c h =
      let ts = punctuate after_comma ls in goes_on ls after_comma c h ∙ ap (λ q. ts ++ punctuate q more) (behind_comma ts)
  goes_on (comma ∷ ls) after_comma c h = absurd h.0
  goes_on (comma ∷ ls) after_key c h = absurd h.0
  goes_on (colon ∷ ls) fresh c h = absurd h.0
  goes_on (colon ∷ ls) after_value c h = absurd h.0
  goes_on (colon ∷ ls) after_comma c h = absurd h.0
  goes_on (colon ∷ ls) after_key c h =
      let ts = punctuate fresh ls in goes_on ls fresh c h ∙ ap (λ q. ts ++ punctuate q more) (sym (behind_colon ts))

-- the lexemes of a value, before others
pub punctuate-value : (j : Json) (ls more : List Lexeme) → punctuate fresh ls ≡ json_tokens j → ArePrintable (json_tokens j) → begins_colon more ≡ false
    → punctuate fresh (ls ++ more) ≡ json_tokens j ++ punctuate after_value more
punctuate-value j ls more is printable c =
    goes_on more ls fresh c (subst ArePrintable (sym is) printable)
    ∙ ap (λ (ts : List Token). ts ++ punctuate (place_after fresh ts) more) is
    ∙ ap (λ q. json_tokens j ++ punctuate q more) (ap (place_after fresh) (sym (append-nil (json_tokens j))) ∙ behind_value j fresh [])
