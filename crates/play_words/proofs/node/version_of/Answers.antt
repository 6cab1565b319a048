use Rattle.std.proofs.Common.{◌≡◌, List, ℕ, [], ◌∷◌, true, false, None, Some, refl, sym, ap, ◌∙◌, subst, arith, append-nil}
use Rattle.std.proofs.lemmas.Bool.{false≢true}
use Rattle.std.proofs.lemmas.Str.Pattern.{split_parts}
use Rattle.play_words.specs.Node.{is_version, SaysVersion}
use Rattle.play_words.proofs.NodeLemmas.{lacks_by, marked_one, version_begins}
use Rattle.play_words.proofs.node.version_of.Goals as goal

pub returns-then-is_version-clause-some : goal.returns-then-is_version-clause-some
returns-then-is_version-clause-some c =
    let parts = split_parts 64 c.args.word.now (Some (c.in-Some.front, c.in-Some.version)) c.in-Some.ensures.cases (omega arith) in
    let right : is_version c.in-Some.version.now ≡ true = ap is_version (sym c.as_bytes.ensures.value) ∙ sym c.is_version.ensures ∙ c.if-is_version.true in
    (64 ∷ c.in-Some.version.now, parts.0, lacks_by 64 c.in-Some.front.now parts.1, (refl, refl, right))

pub returns-else-is_version-clause-none : goal.returns-else-is_version-clause-none
returns-else-is_version-clause-none c = λ front part version e l s.
    let parts = split_parts 64 c.args.word.now (Some (c.in-Some.front, c.in-Some.version)) c.in-Some.ensures.cases (omega arith) in
    let wrong : is_version c.in-Some.version.now ≡ false = ap is_version (sym c.as_bytes.ensures.value) ∙ sym c.is_version.ensures ∙ c.if-is_version.false in
    let one = marked_one 64 c.in-Some.front.now front (64 ∷ c.in-Some.version.now) part (sym parts.0 ∙ e) (lacks_by 64 c.in-Some.front.now parts.1) l refl (version_begins part version s) in
    let said = subst (λ (p : List ℕ). SaysVersion p version) (sym one.part) s in
    false≢true (sym wrong ∙ ap is_version said.1 ∙ said.2)

pub returns-in-None-clause-some : goal.returns-in-None-clause-some
returns-in-None-clause-some c =
    let nowhere = split_parts 64 c.args.word.now None c.in-None.ensures.cases (omega arith) in
    ([], sym (append-nil c.args.word.now), lacks_by 64 c.args.word.now nowhere, refl)
