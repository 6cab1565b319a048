-- A value that begins as a string is a string, and serde_json reads it as one.
use Rattle.std.proofs.Common.{◌≡◌, ◌⊎◌, ℕ, zero, suc, ◌+◌, length, subst, Bool, true, false, cond, ◌==◌, List, [], ◌∷◌, Some, None, String, Global, refl, ap, ◌∙◌, sym, arith, rules, inl, inr}
use Rattle.std.proofs.lemmas.Bool.{eqb-true}
use Rattle.serde_json.specs.Read.{read}
use Rattle.serde_json.specs.Data as data_of
use Rattle.serde_json.specs.Data.{Data}
use Rattle.serde_json.specs.View.{view, view_step}
use Rattle.serde_json.specs.declared.value.Value as value
use Rattle.serde_json.specs.declared.value.Value.{Value, the_lemmas, out-Value, roll-Value, map-Value}
use Rattle.serde_json.specs.declared.value.Value.TheOpen as layer
use Rattle.serde_json.specs.declared.value.Value.TheOpen.{Value-F}
use Rattle.serde_json.specs.declared.value.Value.TheVariants.{rolls-String}
use Rattle.json_spans.specs.Grammar.{Char, Tree, word, number, text, empty_list, list, empty_object, object, Members, one_member, more_members, spelling, quoted, AreChars, IsTree, IsWord}
use Rattle.json_spans.specs.Parts.{part, is_value, kind_of}
use Rattle.json_spans.specs.Inside.{Pair, members_at, members_of, AreMembersOf}
use Rattle.json_spans.specs.Names.{HaveNames}
use Rattle.json_spans.specs.Characters.{meaning}
use Rattle.json_spans.specs.declared.kind.Kind.TheVariants as kind
use Rattle.json_spans.specs.Bytes.{is_digit}
use Rattle.json_spans.proofs.Forward.{digit_bounds}
use Rattle.json_spans.proofs.Texts.{value_of}
use Rattle.json_spans.proofs.Lists.{number_begins, spelled}
use Rattle.json_spans.proofs.Characters.{read_is}

view-out : (v : Value) → view v ≡ view_step (map-Value Value Data view (out-Value v))
view-out v = search (rules, the_lemmas)

rolled : (v : Value) → roll-Value (out-Value v) ≡ v
rolled v = search (rules, the_lemmas)

pub by_view : (v : Value) (s : List ℕ) → view v ≡ data_of.string s → ((x : String Global) → v ≡ value.String x → ⊥) → ⊥
by_view v s e ne = by_layer (out-Value v) refl
  where
    is : (o : Value-F Value) → out-Value v ≡ o → view_step (map-Value Value Data view o) ≡ data_of.string s
    is o f = ap (λ o. view_step (map-Value Value Data view o)) (sym f) ∙ sym (view-out v) ∙ e

    by_layer : (o : Value-F Value) → out-Value v ≡ o → ⊥
    by_layer (layer.String x) f = ne x (sym (rolled v) ∙ ap roll-Value f ∙ rolls-String x)
    by_layer layer.Null f = let g = is layer.Null f in absurd (cc)
    by_layer (layer.Bool b) f = let g = is (layer.Bool b) f in absurd (cc)
    by_layer (layer.Number n) f = let g = is (layer.Number n) f in absurd (cc)
    by_layer (layer.Array l) f = let g = is (layer.Array l) f in absurd (cc)
    by_layer (layer.Object m) f = let g = is (layer.Object m) f in absurd (cc)

-- ---- a part that begins as a string

kind_text : (x : ℕ) (xs : List ℕ) → kind_of (x ∷ xs) ≡ kind.Text → x ≡ 34
kind_text x xs h = eqb-true x 34 (by_tests _ _ _ _ _ _ refl refl refl refl refl refl h)
  where
    by_tests : (a b c d e f : Bool) → (x == 123) ≡ a → (x == 91) ≡ b → (x == 34) ≡ c → (x == 116) ≡ d → (x == 102) ≡ e → (x == 110) ≡ f
        → cond a kind.Object (cond b kind.List (cond c kind.Text (cond d kind.True (cond e kind.False (cond f kind.Null kind.Number))))) ≡ kind.Text → (x == 34) ≡ true
    by_tests true b c d e f ha hb hc hd he hf g = absurd (cc)
    by_tests false true c d e f ha hb hc hd he hf g = absurd (cc)
    by_tests false false true d e f ha hb hc hd he hf g = hc
    by_tests false false false true e f ha hb hc hd he hf g = absurd (cc)
    by_tests false false false false true f ha hb hc hd he hf g = absurd (cc)
    by_tests false false false false false true ha hb hc hd he hf g = absurd (cc)
    by_tests false false false false false false ha hb hc hd he hf g = absurd (cc)

no_quote : (x : ℕ) → ((x ≡ 45) ⊎ (is_digit x ≡ true)) → x ≡ 34 → ⊥
no_quote x (inl h) e = omega arith
no_quote x (inr h) e = let r = digit_bounds x h in omega arith

word_no_text : (w : List ℕ) → IsWord w → kind_of w ≡ kind.Text → ⊥
word_no_text w (inl h) g = let k = ap kind_of h in cc
word_no_text w (inr (inl h)) g = let k = ap kind_of h in cc
word_no_text w (inr (inr h)) g = let k = ap kind_of h in cc

-- the characters of such a value
text_tree : (v : Tree) → IsTree v → kind_of (spelling v) ≡ kind.Text → (cs : List Char) × (spelling v ≡ quoted cs) × AreChars cs
text_tree (word w) h g = absurd (word_no_text w h g)
text_tree (number s) h g = let t = number_begins s h in absurd (no_quote t.x t.can (kind_text t.x t.rest (ap kind_of (sym t.is) ∙ g)))
text_tree (text cs) h g = (cs, refl, h)
text_tree (empty_list w) h g = absurd (cc)
text_tree (list is) h g = absurd (cc)
text_tree (empty_object w) h g = absurd (cc)
text_tree (object ms) h g = absurd (cc)

-- serde_json reads it as a string
pub reads_text : (bytes : List ℕ) → is_value bytes ≡ true → kind_of bytes ≡ kind.Text → (s : List ℕ) × (read bytes ≡ Some (data_of.string s))
reads_text bytes h k =
    let t = value_of bytes h in
    let q = text_tree t.0 t.2 (ap kind_of (sym t.1) ∙ k) in
    (meaning q.0, ap read (t.1 ∙ q.1) ∙ read_is q.0 q.2)

pub not_none : (bytes : List ℕ) → is_value bytes ≡ true → kind_of bytes ≡ kind.Text → read bytes ≡ None → ⊥
not_none bytes h k e = let r = reads_text bytes h k in some_none r.0 (sym r.1 ∙ e)
  where
    some_none : (s : List ℕ) → Some (data_of.string s) ≡ None → ⊥
    some_none s e = cc

pub not_other : (bytes : List ℕ) → is_value bytes ≡ true → kind_of bytes ≡ kind.Text → (v : Value) → read bytes ≡ Some (view v) → ((x : String Global) → v ≡ value.String x → ⊥) → ⊥
not_other bytes h k v e ne = let r = reads_text bytes h k in by_view v r.0 (one_data (view v) (data_of.string r.0) (sym e ∙ r.1)) ne
  where
    one_data : (a b : Data) → Some a ≡ Some b → a ≡ b
    one_data a b e = cc

-- ---- the names of an object

names_at : (p : ℕ) (ms : Members) → HaveNames (members_at p ms)
names_at p (one_member a n b c v d) zero h = refl
names_at p (one_member a n b c v d) (suc k) h = absurd (omega arith)
names_at p (more_members a n b c v d ms) zero h = refl
names_at p (more_members a n b c v d ms) (suc k) h = names_at (p + length a + length (quoted n) + length b + 1 + length c + length (spelling v) + length d + 1) ms k (omega arith)

no_names : HaveNames []
no_names k h = absurd (omega arith)

names_of : (p : ℕ) (v : Tree) → HaveNames (members_of p v)
names_of p (word s) = no_names
names_of p (number s) = no_names
names_of p (text cs) = no_names
names_of p (empty_list w) = no_names
names_of p (list is) = no_names
names_of p (empty_object w) = no_names
names_of p (object ms) = names_at (p + 1) ms

pub have_names : (place : ℕ) (bytes : List ℕ) (pairs : List Pair) → is_value bytes ≡ true → AreMembersOf (part place bytes) pairs → HaveNames pairs
have_names place bytes pairs h are = let v = spelled place bytes h in subst HaveNames (sym (are v.0 v.1)) (names_of place v.0)
