use Rattle.std.proofs.Common.{◌∙◌, arith}
use Rattle.journal_reader.proofs.ReadLemmas.{begun, found_none, found_one, less_none, stays_one}
use Rattle.journal_reader.proofs.StreamLemmas.{grew_on}
use Rattle.journal_reader.proofs.reader.JournalReader.next.Goals as goal

pub returns-in_err-found-clause-begun : goal.returns-in_err-found-clause-begun
returns-in_err-found-clause-begun g c = λ start H r. begun start _ _ c.args.self.now H r (grew_on _ _ _ c.pieces.invariant.grew c.look.ensures.grew)

pub returns-in-Some-clause-goes : goal.returns-in-Some-clause-goes
returns-in-Some-clause-goes g c = λ start H r.
    found_one start _ _ H c.in_ok-found.field-0 c.in-Some.found (c.in_ok-found.ensures.goes start H (c.pieces.invariant.goes start H r)) c.in-Some.is

pub returns-in-Some-clause-begun : goal.returns-in-Some-clause-begun
returns-in-Some-clause-begun g c = λ start H r. begun start _ _ c.args.self.now H r (grew_on _ _ _ c.pieces.invariant.grew c.look.ensures.grew)

pub pieces-preserved : goal.pieces-preserved
pieces-preserved g c = record {
  goes = λ start H r. found_none start _ _ H c.in_ok-found.field-0 (c.in_ok-found.ensures.goes start H (c.pieces.invariant.goes start H r)) c.in_default.is;
  grew = grew_on _ _ _ c.pieces.invariant.grew c.look.ensures.grew;
  less = omega (arith, c.pieces.invariant.less, less_none c.pieces.self.feed c.look.new.self.feed c.in_ok-found.field-0 c.in_ok-found.ensures.less c.in_default.is);
  config = c.look.ensures.config ∙ c.pieces.invariant.config;
  faults = omega (arith, c.pieces.invariant.faults, c.look.ensures.faults);
}

pub returns-in-Some-clause-stays : goal.returns-in-Some-clause-stays
returns-in-Some-clause-stays g c = λ start H r.
    stays_one start _ _ H c.in_ok-found.field-0 c.in-Some.found (c.in_ok-found.ensures.stays start H (c.pieces.invariant.goes start H r)) c.in-Some.is
