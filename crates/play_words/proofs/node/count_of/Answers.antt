use Rattle.std.proofs.Common.{List, ℕ, [], ◌∷◌, None, Some, refl, sym, ◌∙◌, subst, arith, append-nil}
use Rattle.std.proofs.lemmas.Str.Pattern.{split_parts}
use Rattle.play_words.specs.Node.{SaysCount}
use Rattle.play_words.proofs.NodeLemmas.{lacks_by, marked_one, count_begins}
use Rattle.play_words.proofs.node.count_of.Goals as goal

pub returns-in-Some-number_of-clause-some : goal.returns-in-Some-number_of-clause-some
returns-in-Some-number_of-clause-some c =
    let parts = split_parts 33 c.args.word.now (Some (c.in-Some.front, c.in-Some.text)) c.in-Some.ensures.cases (omega arith) in
    let n = c.in-Some-number_of.ensures.some in
    (33 ∷ c.in-Some.text.now, parts.0, lacks_by 33 c.in-Some.front.now parts.1, (refl, n.2, n.0, n.1))

pub returns-in-None-number_of-clause-none : goal.returns-in-None-number_of-clause-none
returns-in-None-number_of-clause-none c = λ front part count e l s.
    let parts = split_parts 33 c.args.word.now (Some (c.in-Some.front, c.in-Some.text)) c.in-Some.ensures.cases (omega arith) in
    let one = marked_one 33 c.in-Some.front.now front (33 ∷ c.in-Some.text.now) part (sym parts.0 ∙ e) (lacks_by 33 c.in-Some.front.now parts.1) l refl (count_begins part count s) in
    let said = subst (λ (p : List ℕ). SaysCount p count) (sym one.part) s in
    c.in-None-number_of.ensures.none count said.2 said.3 said.1

pub returns-in-None-clause-some : goal.returns-in-None-clause-some
returns-in-None-clause-some c =
    let nowhere = split_parts 33 c.args.word.now None c.in-None.ensures.cases (omega arith) in
    ([], sym (append-nil c.args.word.now), lacks_by 33 c.args.word.now nowhere, refl)
