use Rattle.std.proofs.Common.{ap, sym, subst, ◌∙◌}
use Rattle.turn_cell.specs.Cells.{view_of}
use Rattle.trial_threads.specs.declared.counter.Counter.{Counter}
use Rattle.trial_threads.specs.Counts.{Counts}
use Rattle.trial_threads.proofs.CountLemmas.{counts_on}
use Rattle.trial_threads.proofs.adding.add_in.Goals as goal

pub leave-requires-clause-value : goal.leave-requires-clause-value
leave-requires-clause-value g c =
    let lent = c.value-value.ensures.value in (
      counts_on c.value-value.result.now.count (view_of c.args.pass.now).number (view_of c.args.pass.now).seen g.E.Made.entries
          (subst (λ (z : Counter). Counts z.count (view_of c.args.pass.now).seen) (sym lent) c.requires.value.0) c.requires.made,
      ap (λ (z : Counter). z.name) lent ∙ c.requires.value.1,
    )
