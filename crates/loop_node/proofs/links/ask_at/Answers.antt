use Rattle.std.proofs.Common.{◌∙◌, arith}
use Rattle.grid_outside.specs.Exchanges.{ask_of}
use Rattle.loop_node.specs.Sizes.{short_texts}
use Rattle.loop_node.proofs.ReplyLemmas.{one_answers}
use Rattle.loop_node.proofs.SizeLemmas.{answer_keeps}
use Rattle.loop_node.proofs.ListLemmas.{all_set, all_at}
use Rattle.loop_node.proofs.links.ask_at.Goals as goal

pub returns-clause-answers : goal.returns-clause-answers
returns-clause-answers c = one_answers c.answer.result c.args.nodes.now.items c.args.place c.index_mut.result.now c.answer.new.self _ c.index_mut.ensures.value c.answer.ensures.answers

pub returns-clause-short : goal.returns-clause-short
returns-clause-short c = λ all.
    all_set short_texts c.args.nodes.now.items c.args.place c.answer.new.self all
    (answer_keeps c.answer.result c.index_mut.result.now c.answer.new.self (ask_of c.args.request.now) c.answer.ensures.answers c.answer.ensures.err ∙ all_at short_texts c.args.nodes.now.items c.args.place c.index_mut.result.now (omega (arith, c.args.nodes.now.ok.0)) c.index_mut.ensures.value all)
