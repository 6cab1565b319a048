use Rattle.std.proofs.Common.{ℕ, List, inr, refl, ap, subst, Err}
use Rattle.block_frames.specs.Blocks.{ReadsBlock}
use Rattle.block_frames.specs.Frames.{length_bytes}
use Rattle.block_frames.specs.declared.reading.NextBlock.{NextBlock}
use Rattle.grid_teams_run.specs.Steps.{AnswersSo, output_of}
use Rattle.grid_teams_run.proofs.RunLemmas.{answered_next, any_ok, frame_some}
use Rattle.grid_teams_run.proofs.blocks.serve_next.Goals as goal

pub returns-in-Ok-Block-clause-next : goal.returns-in-Ok-Block-clause-next
returns-in-Ok-Block-clause-next g c = λ said play.
    let r = subst (λ (n : NextBlock). ReadsBlock 16_777_216 n c.args.left.now c.read_block.new.left
    (g.S.Source.view c.args.input.now)
    (g.S.Source.view c.read_block.new.input))
    c.in-Ok-Block.field-0-is c.in-Ok-Block.ensures.reads in
    answered_next said c.args.teams.now c.args.left.now c.read_block.new.left c.answer.result c.answer.new.teams _ _ (record {
      bytes = c.in-Ok-Block.bytes;
      short = r.1;
      reads = r.0;
      answers = subst (λ (b : List ℕ). AnswersSo said c.args.teams.now b c.answer.result c.answer.new.teams
          (output_of (g.K.Sink.view c.args.output.now).taken (g.K.Sink.view c.args.output.now).faults)
          (output_of (g.K.Sink.view c.answer.new.output).taken (g.K.Sink.view c.answer.new.output).faults)) c.as_bytes.ensures (c.answer.ensures.answers said play);
    })

pub returns-in-Ok-Block-clause-fewer : goal.returns-in-Ok-Block-clause-fewer
returns-in-Ok-Block-clause-fewer g c =
    let r = subst (λ (n : NextBlock). ReadsBlock 16_777_216 n c.args.left.now c.read_block.new.left
    (g.S.Source.view c.args.input.now)
    (g.S.Source.view c.read_block.new.input))
    c.in-Ok-Block.field-0-is c.in-Ok-Block.ensures.reads in
    any_ok c.answer.result (frame_some c.in-Ok-Block.bytes c.args.left.now c.read_block.new.left r.0.count)

pub returns-in-Ok-Between-clause-next : goal.returns-in-Ok-Between-clause-next
returns-in-Ok-Between-clause-next g c = λ said play.
    let r = subst (λ (n : NextBlock). ReadsBlock 16_777_216 n c.args.left.now c.read_block.new.left
    (g.S.Source.view c.args.input.now)
    (g.S.Source.view c.read_block.new.input))
    c.in-Ok-Between.field-0-is c.in-Ok-Between.ensures.reads in
    inr (r, refl)

pub returns-in-Ok-Inside-clause-next : goal.returns-in-Ok-Inside-clause-next
returns-in-Ok-Inside-clause-next g c = λ said play.
    let r = subst (λ (n : NextBlock). ReadsBlock 16_777_216 n c.args.left.now c.read_block.new.left
    (g.S.Source.view c.args.input.now)
    (g.S.Source.view c.read_block.new.input))
    c.in-Ok-Inside.field-0-is c.in-Ok-Inside.ensures.reads in
    inr (r, refl)

pub returns-in-Ok-AtLimit-clause-next : goal.returns-in-Ok-AtLimit-clause-next
returns-in-Ok-AtLimit-clause-next g c = λ said play.
    let r = subst (λ (n : NextBlock). ReadsBlock 16_777_216 n c.args.left.now c.read_block.new.left
    (g.S.Source.view c.args.input.now)
    (g.S.Source.view c.read_block.new.input))
    c.in-Ok-AtLimit.field-0-is c.in-Ok-AtLimit.ensures.reads in
    inr (r, refl)

pub returns-in-Ok-TooLong-clause-next : goal.returns-in-Ok-TooLong-clause-next
returns-in-Ok-TooLong-clause-next g c = λ said play.
    let r = subst (λ (n : NextBlock). ReadsBlock 16_777_216 n c.args.left.now c.read_block.new.left
    (g.S.Source.view c.args.input.now)
    (g.S.Source.view c.read_block.new.input))
    c.in-Ok-TooLong.field-0-is c.in-Ok-TooLong.ensures.reads in
    inr ((length_bytes r.0, r.1, record { size = r.0; long = r.2; told = r.3; rest_is = refl }), refl)

pub returns-in-Err-Read-clause-next : goal.returns-in-Err-Read-clause-next
returns-in-Err-Read-clause-next g c = λ said play.
    inr ((c.in-Err-Read.ensures.broken, c.in-Err-Read.ensures.cause (ap Err c.in-Err-Read.field-0-is)), refl)

pub returns-in-Err-Memory-clause-next : goal.returns-in-Err-Memory-clause-next
returns-in-Err-Memory-clause-next g c = λ said play. inr (c.in-Err-Memory.ensures.broken, refl)
