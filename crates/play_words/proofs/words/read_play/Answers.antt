use Rattle.std.proofs.Common.{subst, List, ℕ, Option}
use Rattle.std.specs.Option.{option_copied}
use Rattle.play_words.specs.Options.{SaysRefusal, SaysTimeout}
use Rattle.play_words.specs.Words.{SaysCrew}
use Rattle.play_words.proofs.OptionLemmas.{parts_one}
use Rattle.play_words.proofs.PlayLemmas.{plays_of, plays_parts}
use Rattle.play_words.proofs.words.read_play.Goals as goal

pub returns-in_default-refusal_of-clause-refused : goal.returns-in_default-refusal_of-clause-refused
returns-in_default-refusal_of-clause-refused c = λ _ config nodes p.
    let same = parts_one c.args.words.now p.node_words c.in-Some.parts.nodes.now p.refusal (option_copied c.in-Some.parts.refusal) p.timeout (option_copied c.in-Some.parts.timeout)
    (plays_parts c.args.words.now config nodes p) c.in-Some.ensures.some in
    c.in_default-refusal_of.ensures.none config.reject_unsupported (subst (λ (o : Option (List ℕ)). SaysRefusal o config.reject_unsupported) same.refusal p.refusal_is)

pub returns-in_default-timeout_of-clause-refused : goal.returns-in_default-timeout_of-clause-refused
returns-in_default-timeout_of-clause-refused c = λ _ config nodes p.
    let same = parts_one c.args.words.now p.node_words c.in-Some.parts.nodes.now p.refusal (option_copied c.in-Some.parts.refusal) p.timeout (option_copied c.in-Some.parts.timeout)
    (plays_parts c.args.words.now config nodes p) c.in-Some.ensures.some in
    c.in_default-timeout_of.ensures.none config.timeout_ms (subst (λ (o : Option (List ℕ)). SaysTimeout o config.timeout_ms) same.timeout p.timeout_is)

pub returns-in-Err-clause-refused : goal.returns-in-Err-clause-refused
returns-in-Err-clause-refused c = λ refused config nodes p.
    let same = parts_one c.args.words.now p.node_words c.in-Some.parts.nodes.now p.refusal (option_copied c.in-Some.parts.refusal) p.timeout (option_copied c.in-Some.parts.timeout)
    (plays_parts c.args.words.now config nodes p) c.in-Some.ensures.some in
    c.in-Err.ensures.refused refused nodes (subst (λ (ws : List (List ℕ)). SaysCrew ws nodes) same.nodes p.crew)

pub returns-in-Err-clause-memory : goal.returns-in-Err-clause-memory
returns-in-Err-clause-memory c = λ e.
    plays_of c.args.words.now c.in-Some.parts.nodes.now (option_copied c.in-Some.parts.refusal) (option_copied c.in-Some.parts.timeout) c.in-Some-refusal_of.reject_unsupported
    c.in-Some-timeout_of.timeout_ms c.in-Some.ensures.some c.in-Some-refusal_of.ensures.some c.in-Some-timeout_of.ensures.some (c.in-Err.ensures.memory e)
