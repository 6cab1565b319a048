-- Members as they are written are read again.
use Rattle.std.proofs.Common.{◌≡◌, ℕ, ◌≤◌, Bool, true, false, cond, List, [], ◌∷◌, ◌++◌, codes, map, Option, Some, None, option_map, option_and_then, refl, sym, ap, ap₂, ◌∙◌, subst, arith, append_assoc, append-nil}
use Rattle.std.specs.List.{join_with_byte}
use Rattle.json.specs.Token.{Token}
use Rattle.json.specs.Word.{ends_word, word}
use Rattle.json.specs.Lex.{Lexeme, token, string_token, between, lex, Place, fresh, after_value, after_comma, may_begin, begins_colon, punctuate, tokens}
use Rattle.json.specs.Json.{Json, string, object, Members, no_members, member, if_last, value, max_depth, document}
use Rattle.json.specs.Print.{escape, quoted, ArePrintable}
use Rattle.json.specs.Tree.{json_tokens, members_tokens, members_depth}
use Rattle.json.proofs.Printed.Strings.{content-escape, lex-escape}
use Rattle.json.proofs.Printed.Numbers.{in_word-ended}
use Rattle.json.proofs.Printed.Trees.{ArePrintable-json_tokens, value-json_tokens}
use Rattle.json.proofs.Numbered.{document-HasNumbers}
use Rattle.grid_types.specs.Capabilities.{json_string, written_value, written_member, written_caps}
use Rattle.grid_types.specs.declared.capabilities.Cap.{Cap}
use Rattle.grid_types.specs.declared.capabilities.CapValue.{CapValue}
use Rattle.grid_types.specs.declared.capabilities.CapValue.TheVariants as cap
use Rattle.wd_bodies.specs.ReadAgain.{cap_json, caps_members}
use Rattle.wd_bodies.proofs.Quoted.{quoted-json_string}
use Rattle.wd_bodies.proofs.Lexing.{lex-append}
use Rattle.wd_bodies.proofs.Parsed.{tokens-document}
use Rattle.wd_bodies.proofs.Punctuation.{punctuate-value, good_lexemes}

-- ---- one value, before what ends it

-- behind the value stands what ends a word, and no colon
record Stops (rest : List ℕ) : Type 0 where
  ended : ends_word rest ≡ true
  bare : begins_colon (lex between rest) ≡ false

lex-quoted : (s r : List ℕ) → lex between (quoted s ++ r) ≡ token (Token.string s) ∷ lex between r
unfolding lex
lex-quoted s r =
    let e = append_assoc (escape s) (34 ∷ []) r in
    ap (λ (l : List ℕ). lex between (34 ∷ l)) e ∙ ap₂ (λ o (l : List Lexeme). token (string_token o) ∷ l) (content-escape s r) (lex-escape s r)

lex-string : (s r : List ℕ) → lex between (json_string s ++ r) ≡ token (Token.string s) ∷ lex between r
lex-string s r = ap (λ (q : List ℕ). lex between (q ++ r)) (sym (quoted-json_string s)) ∙ lex-quoted s r

lex-flag : (b : Bool) (r : List ℕ) → ends_word r ≡ true → lex between (cond b (codes "true") (codes "false") ++ r) ≡ token (Token.boolean b) ∷ lex between r
unfolding lex word
lex-flag true r e = ap₂ (λ t (l : List Lexeme). token (cond t (Token.boolean true) Token.bad) ∷ l) e (in_word-ended r e)
lex-flag false r e = ap₂ (λ t (l : List Lexeme). token (cond t (Token.boolean false) Token.bad) ∷ l) e (in_word-ended r e)

abbrev Reads : List ℕ → Json → List ℕ → Type 0
Reads text j rest = punctuate fresh (lex between (text ++ rest)) ≡ json_tokens j ++ punctuate after_value (lex between rest)

text-read : (text : List ℕ) (j : Json) (rest : List ℕ) → document text ≡ Some j → Stops rest → Reads text j rest
text-read text j rest e stops =
    let is = tokens-document text j e in
    let printable = ArePrintable-json_tokens j (document-HasNumbers text j e) in
    let good = good_lexemes (lex between text) fresh (subst ArePrintable (sym is) printable) in
    ap (punctuate fresh) (lex-append text rest good stops.ended) ∙ punctuate-value j (lex between text) (lex between rest) is printable stops.bare

value-read : (v : CapValue) (j : Json) (rest : List ℕ) → cap_json v ≡ Some j → Stops rest → Reads (written_value v) j rest
unfolding punctuate
value-read (cap.Text t) j rest e stops =
    let is : string t ≡ j = cc in
    subst (λ i. Reads (json_string t) i rest) is (ap (punctuate fresh) (lex-string t rest) ∙ rw stops.bare refl)
value-read (cap.Flag b) j rest e stops =
    let is : Json.boolean b ≡ j = cc in
    subst (λ i. Reads (written_value (cap.Flag b)) i rest) is (ap (punctuate fresh) (lex-flag b rest stops.ended))
value-read (cap.Raw t) j rest e stops = text-read t j rest e stops

-- ---- members

member-read : (m : Cap) (j : Json) (p : Place) (rest : List ℕ) → cap_json m.value ≡ Some j → may_begin p ≡ true → Stops rest
    → punctuate p (lex between (written_member m ++ rest)) ≡ Token.key m.name ∷ (json_tokens j ++ punctuate after_value (lex between rest))
unfolding punctuate lex
member-read m j p rest e open_ stops =
    ap (λ (l : List ℕ). punctuate p (lex between l)) (append_assoc (json_string m.name) (58 ∷ written_value m.value) rest)
    ∙ ap (punctuate p) (lex-string m.name (58 ∷ (written_value m.value ++ rest)))
    ∙ rw open_ (ap (λ (l : List Token). Token.key m.name ∷ l) (value-read m.value j rest e stops))

record Parts (o : Option Json) (q : Option Members) (k : List ℕ) (ms : Members) : Type 0 where
  first : Json
  others : Members
  first_is : o ≡ Some first
  others_are : q ≡ Some others
  whole : member k first others ≡ ms

parts : (o : Option Json) (q : Option Members) (k : List ℕ) (ms : Members) → option_and_then (λ j. option_map (member k j) q) o ≡ Some ms → Parts o q k ms
parts None q k ms e = cc
parts (Some j) None k ms e = cc
parts (Some j) (Some r) k ms e = record { first = j; others = r; first_is = refl; others_are = refl; whole = cc }

abbrev joined : List Cap → List ℕ
joined caps = join_with_byte 44 (map written_member caps)

at_comma : (xs : List ℕ) → Stops (44 ∷ xs)
unfolding lex
at_comma xs = record { ended = refl; bare = refl }

at_brace : (xs : List ℕ) → Stops (125 ∷ xs)
unfolding lex
at_brace xs = record { ended = refl; bare = refl }

members-read : (c : Cap) (cs : List Cap) (ms : Members) (p : Place) (rest : List ℕ) → caps_members (c ∷ cs) ≡ Some ms → may_begin p ≡ true
    → punctuate p (lex between (joined (c ∷ cs) ++ 125 ∷ rest)) ≡ members_tokens ms ++ punctuate after_value (lex between rest)
unfolding punctuate lex
members-read c [] ms p rest e open_ =
    let a = parts (cap_json c.value) (Some no_members) c.name ms e in
    let none : no_members ≡ a.others = cc in
    member-read c a.first p (125 ∷ rest) a.first_is open_ (at_brace rest)
    ∙ ap (λ (l : List Token). Token.key c.name ∷ l) (sym (append_assoc (json_tokens a.first) (members_tokens no_members) (punctuate after_value (lex between rest))))
    ∙ ap (λ n. members_tokens (member c.name a.first n) ++ punctuate after_value (lex between rest)) none
    ∙ ap (λ n. members_tokens n ++ punctuate after_value (lex between rest)) a.whole
members-read c (d ∷ ds) ms p rest e open_ =
    let a = parts (cap_json c.value) (caps_members (d ∷ ds)) c.name ms e in
    let behind = joined (d ∷ ds) ++ 125 ∷ rest in
    ap (λ (l : List ℕ). punctuate p (lex between l)) (append_assoc (written_member c) (44 ∷ joined (d ∷ ds)) (125 ∷ rest))
    ∙ member-read c a.first p (44 ∷ behind) a.first_is open_ (at_comma behind)
    ∙ ap (λ (l : List Token). Token.key c.name ∷ (json_tokens a.first ++ l)) (members-read d ds a.others after_comma rest a.others_are refl)
    ∙ ap (λ (l : List Token). Token.key c.name ∷ l) (sym (append_assoc (json_tokens a.first) (members_tokens a.others) (punctuate after_value (lex between rest))))
    ∙ ap (λ n. members_tokens n ++ punctuate after_value (lex between rest)) a.whole

caps-tokens : (caps : List Cap) (ms : Members) → caps_members caps ≡ Some ms → tokens (written_caps caps) ≡ json_tokens (object ms)
unfolding written_caps punctuate lex
caps-tokens [] ms e =
    let is : no_members ≡ ms = cc in
    ap (λ n. json_tokens (object n)) is
caps-tokens (c ∷ cs) ms e =
    ap (λ (l : List Token). Token.begin_object ∷ l) (members-read c cs ms fresh [] e refl ∙ append-nil (members_tokens ms))

pub caps-read : (caps : List Cap) (ms : Members) → caps_members caps ≡ Some ms → members_depth ms ≤ 127 → document (written_caps caps) ≡ Some (object ms)
caps-read caps ms e within =
    ap (option_and_then (λ p. if_last p.0 p.1))
    (ap (value max_depth) (caps-tokens caps ms e ∙ sym (append-nil (json_tokens (object ms)))) ∙ value-json_tokens (object ms) max_depth [] (omega arith))
