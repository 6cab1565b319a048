use Rattle.turn_cell.specs.Cells.{view_of}
use Rattle.hub_cell.proofs.LentLemmas.{lent-knows}
use Rattle.hub_cell.proofs.hub.lending.see_too.Goals as goal

pub returns-else-follow-clause-reader : goal.returns-else-follow-clause-reader
returns-else-follow-clause-reader c =
    lent-knows c.args.reader.now c.follow.result (view_of c.args.lender.now.inner) (view_of c.args.pass.now) (view_of c.follow.new.pass) (view_of c.follow.new.other) c.if-follow.false c.follow.ensures.took c.follow.ensures.longer.1
    c.follow.ensures.other.2 c.requires.lender.1
