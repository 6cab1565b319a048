use Rattle.std.proofs.Common.{◌≡◌, ℕ, List, ◌++◌, sym, ◌∙◌, ap}
use Rattle.std.specs.Prelude.{Option, None, Some, MatchOption, codes, ◌≢◌}
use Rattle.std.specs.Borrow.{Bor}
use Rattle.std.proofs.lemmas.List.{append_cancel_left}
use Rattle.std.proofs.lemmas.Bool.Decides.{Decides-eqb}
use Rattle.std.proofs.lemmas.Slice.Eq.{strip_prefix_is, strip_suffix_is}
use Rattle.server_words.proofs.host.in_brackets.Goals as goal

behind_is : (bytes before behind rest : List ℕ) (r : Option (Bor (List ℕ))) → bytes ≡ before ++ rest →
    MatchOption r ((front : List ℕ) → rest ≢ front ++ behind) (λ x. rest ≡ x.now ++ behind) →
    MatchOption r ((x : List ℕ) → bytes ≢ before ++ (x ++ behind)) (λ x. bytes ≡ before ++ (x.now ++ behind))
behind_is bytes before behind rest None p h = λ x e. h x (append_cancel_left before rest (x ++ behind) (sym p ∙ e))
behind_is bytes before behind rest (Some x) p h = p ∙ ap (λ t. before ++ t) h

pub returns-in-Some : goal.returns-in-Some
returns-in-Some c =
    let text = c.args.text.now in
    behind_is text (codes "[") (codes "]") c.in-Some.rest.now c.strip_suffix.result
    (rw c.in-Some.is at (strip_prefix_is Decides-eqb text (codes "[") c.strip_prefix.result c.strip_prefix.ensures.cases))
    (strip_suffix_is Decides-eqb c.in-Some.rest.now (codes "]") c.strip_suffix.result c.strip_suffix.ensures.cases)

pub returns-in-None : goal.returns-in-None
returns-in-None c = λ x e.
    let none = rw c.in-None.is at (strip_prefix_is Decides-eqb c.args.text.now (codes "[") c.strip_prefix.result c.strip_prefix.ensures.cases) in
    none (x ++ codes "]") e
