-- What the grammar reads as a value are the tokens of that value.
use Rattle.std.proofs.Common.{◌≡◌, ℕ, zero, suc, List, [], ◌∷◌, ◌++◌, length, Option, Some, None, option_and_then, refl, sym, ap, ◌∙◌, subst, append_assoc, append-nil}
use Rattle.json.specs.Token.{Token}
use Rattle.json.specs.Lex.{tokens}
use Rattle.json.specs.Json.{Json, array, object, Items, item, Members, member, Parse, parse_map, after_end_array, read_key, items_step, members_step, items, members, value_with, value, if_last, max_depth, document}
use Rattle.json.specs.Tree.{json_tokens, items_tokens, members_tokens}
use Rattle.json.proofs.Grammar.{closed_array, read_key_is}

-- the tokens begin with those of what was read
abbrev Spells : {A : Type 0} → (A → List Token) → List Token → Option (A × List Token) → Type 0
Spells f ts None = Unit {0}
Spells f ts (Some p) = ts ≡ f p.0 ++ p.1

mapped : {A B : Type 0} (f : A → List Token) (g : B → List Token) (h : A → B) (ts us : List Token)
    → ((a : A) (rest : List Token) → ts ≡ f a ++ rest → us ≡ g (h a) ++ rest) → (o : Option (A × List Token)) → Spells f ts o → Spells g us (parse_map h o)
mapped f g h ts us then None s = tt
mapped f g h ts us then (Some p) s = then p.0 p.1 s

and_more : {B : Type 0} (g : B → List Token) (h : Json → B → B) (us ts : List Token) (more : Parse B)
    → ((j : Json) (b : B) (r rest : List Token) → ts ≡ json_tokens j ++ r → r ≡ g b ++ rest → us ≡ g (h j b) ++ rest) → ((r : List Token) → Spells g r (more r))
    → (o : Option (Json × List Token)) → Spells json_tokens ts o → Spells g us (option_and_then (λ q. parse_map (h q.0) (more q.1)) o)
and_more g h us ts more then again None s = tt
and_more g h us ts more then again (Some q) s = mapped g g (h q.0) q.1 us (λ b rest e. then q.0 b q.1 rest s e) (more q.1) (again q.1)

module _ (p : Parse Json) (spells : (ts : List Token) → Spells json_tokens ts (p ts)) where
  item_turn : (more : Parse Items) → ((ts : List Token) → Spells items_tokens ts (more ts)) → (ts : List Token) (o : Option (List Token)) → after_end_array ts ≡ o → Spells items_tokens ts (items_step p more ts o)
  item_turn more again ts (Some r) e = closed_array ts r e
  item_turn more again ts None e =
      and_more items_tokens item ts ts more (λ j js r rest a b. a ∙ ap (λ (us : List Token). json_tokens j ++ us) b ∙ sym (append_assoc (json_tokens j) (items_tokens js) rest)) again (p ts) (spells ts)

  spells_items : (n : ℕ) (ts : List Token) → Spells items_tokens ts (items p n ts)
  unfolding items
  spells_items zero ts = tt
  spells_items (suc n) ts = item_turn (items p n) (spells_items n) ts (after_end_array ts) refl

  member_turn : (more : Parse Members) → ((ts : List Token) → Spells members_tokens ts (more ts)) → (ts : List Token) (o : Option (Option (List ℕ) × List Token)) → read_key ts ≡ o
      → Spells members_tokens ts (option_and_then (λ q. members_step p more q.0 q.1) o)
  member_turn more again ts None e = tt
  member_turn more again ts (Some (None, s)) e = read_key_is ts None s e
  member_turn more again ts (Some (Some k, s)) e =
      and_more members_tokens (member k) ts s more
      (λ j ms r rest a b. read_key_is ts (Some k) s e ∙ ap (λ (us : List Token). Token.key k ∷ us) (a ∙ ap (λ (us : List Token). json_tokens j ++ us) b ∙ sym (append_assoc (json_tokens j) (members_tokens ms) rest)))
      again (p s) (spells s)

  spells_members : (n : ℕ) (ts : List Token) → Spells members_tokens ts (members p n ts)
  unfolding members
  spells_members zero ts = tt
  spells_members (suc n) ts = member_turn (members p n) (spells_members n) ts (read_key ts) refl

spells_with : (a : Parse Items) (o : Parse Members) → ((ts : List Token) → Spells items_tokens ts (a ts)) → ((ts : List Token) → Spells members_tokens ts (o ts))
    → (ts : List Token) → Spells json_tokens ts (value_with a o ts)
spells_with a o f g [] = tt
spells_with a o f g (Token.begin_object ∷ ts) = mapped members_tokens json_tokens object ts (Token.begin_object ∷ ts) (λ ms rest e. ap (λ (us : List Token). Token.begin_object ∷ us) e) (o ts) (g ts)
spells_with a o f g (Token.end_object ∷ ts) = tt
spells_with a o f g (Token.begin_array ∷ ts) = mapped items_tokens json_tokens array ts (Token.begin_array ∷ ts) (λ js rest e. ap (λ (us : List Token). Token.begin_array ∷ us) e) (a ts) (f ts)
spells_with a o f g (Token.end_array ∷ ts) = tt
spells_with a o f g (Token.key s ∷ ts) = tt
spells_with a o f g (Token.string s ∷ ts) = refl
spells_with a o f g (Token.number s ∷ ts) = refl
spells_with a o f g (Token.boolean b ∷ ts) = refl
spells_with a o f g (Token.null ∷ ts) = refl
spells_with a o f g (Token.bad ∷ ts) = tt

spells_value : (depth : ℕ) (ts : List Token) → Spells json_tokens ts (value depth ts)
unfolding value
spells_value zero = spells_with (λ ts. None) (λ ts. None) (λ ts. tt) (λ ts. tt)
spells_value (suc d) =
    spells_with (λ ts. items (value d) (length ts) ts) (λ ts. members (value d) (length ts) ts)
    (λ ts. spells_items (value d) (spells_value d) (length ts) ts) (λ ts. spells_members (value d) (spells_value d) (length ts) ts)

abbrev Whole : List Token → Option Json → Type 0
Whole ts None = Unit {0}
Whole ts (Some j) = ts ≡ json_tokens j

whole : (ts : List Token) (o : Option (Json × List Token)) → Spells json_tokens ts o → Whole ts (option_and_then (λ p. if_last p.0 p.1) o)
whole ts None s = tt
whole ts (Some (j, [])) s = s ∙ append-nil (json_tokens j)
whole ts (Some (j, t ∷ rest)) s = tt

-- a text is read as a value by that value's tokens
pub tokens-document : (text : List ℕ) (j : Json) → document text ≡ Some j → tokens text ≡ json_tokens j
tokens-document text j e = subst (Whole (tokens text)) e (whole (tokens text) (value max_depth (tokens text)) (spells_value max_depth (tokens text)))
