use Rattle.std.proofs.Common.{◌≡◌, ◌++◌, false, refl, sym, ap, ◌∙◌}
use Rattle.std.proofs.lemmas.Bool.{false≢true}
use Rattle.play_words.specs.Node.{is_browser}
use Rattle.play_words.proofs.NodeLemmas.{browser_lacks, front_lacks, marked_one, count_begins, version_begins}
use Rattle.play_words.proofs.node.node_of.Goals as goal

pub returns-in_default-clause-none : goal.returns-in_default-clause-none
returns-in_default-clause-none c = λ b v r n.
    c.in_default.ensures.none (b ++ n.version_part) n.count_part r n.word_is (front_lacks c.args.word.now b v r n) n.count_is

pub returns-in_default-version_of-clause-none : goal.returns-in_default-version_of-clause-none
returns-in_default-version_of-clause-none c = λ b v r n.
    let s = c.in-Some.ensures.some in
    let one = marked_one 33 c.in-Some.front.now (b ++ n.version_part) s.0 n.count_part (sym s.1 ∙ n.word_is) s.2 (front_lacks c.args.word.now b v r n)
    (count_begins s.0 c.in-Some.refuses s.3) (count_begins n.count_part r n.count_is) in
    c.in_default-version_of.ensures.none b n.version_part v one.front (browser_lacks 64 refl b n.browser_is) n.version_is

pub returns-else-is_browser-clause-none : goal.returns-else-is_browser-clause-none
returns-else-is_browser-clause-none c = λ b v r n.
    let s = c.in-Some.ensures.some in
    let one = marked_one 33 c.in-Some.front.now (b ++ n.version_part) s.0 n.count_part (sym s.1 ∙ n.word_is) s.2 (front_lacks c.args.word.now b v r n)
    (count_begins s.0 c.in-Some.refuses s.3) (count_begins n.count_part r n.count_is) in
    let t = c.in-Some-version_of.ensures.some in
    let two = marked_one 64 c.in-Some-version_of.browser.now b t.0 n.version_part (sym t.1 ∙ one.front) t.2 (browser_lacks 64 refl b n.browser_is)
    (version_begins t.0 c.in-Some-version_of.version.now t.3) (version_begins n.version_part v n.version_is) in
    let wrong : is_browser c.in-Some-version_of.browser.now ≡ false = ap is_browser (sym c.as_bytes.ensures.value) ∙ sym c.is_browser.ensures ∙ c.if-is_browser.false in
    false≢true (sym wrong ∙ ap is_browser two.front ∙ n.browser_is)
