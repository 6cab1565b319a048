use Rattle.std.proofs.Common.{sym, ◌∙◌}
use Rattle.block_frames.proofs.ReadLemmas.{on_err_map, sized_block, some_behind}
use Rattle.block_frames.proofs.reading.read_block.Goals as goal

pub returns-in-Some-clause-reads : goal.returns-in-Some-clause-reads
returns-in-Some-clause-reads g c =
    sized_block c.args.most c.in-Some.size c.args.left.now c.read_part.new.left c.read_sized.new.left _ _ _ c.read_sized.result c.read_part.new.bytes.items
    c.in-Ok-Whole.ensures.reads.reads (sym c.as_slice.ensures.value ∙ c.in-Some.ensures.some) c.in-Some.ensures.small c.read_sized.ensures.reads

pub returns-in-Some-clause-broken : goal.returns-in-Some-clause-broken
returns-in-Some-clause-broken g c =
    on_err_map c.read_sized.result
    (λ s. some_behind c.read_part.new.bytes.items c.args.left.now c.read_part.new.left _ _ _ c.in-Ok-Whole.ensures.reads.reads s) c.read_sized.ensures.broken
