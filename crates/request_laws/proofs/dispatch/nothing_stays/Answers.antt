use Rattle.request_laws.proofs.NarrowLemmas.{entries-narrow}
use Rattle.request_laws.proofs.MemoryLemmas.{later-is-narrower, nothing-at-first, nothing-stays, below-stays}
use Rattle.request_laws.proofs.dispatch.nothing_stays.Goals as goal

pub returns-clause-narrow : goal.returns-clause-narrow
returns-clause-narrow c =
    let proved = c.history_laws.ensures in
    entries-narrow proved

pub returns-clause-later : goal.returns-clause-later
returns-clause-later c =
    let proved = c.history_laws.ensures in
    later-is-narrower proved

pub returns-clause-first : goal.returns-clause-first
returns-clause-first c =
    let proved = c.history_laws.ensures in
    nothing-at-first proved

pub returns-clause-stays : goal.returns-clause-stays
returns-clause-stays c =
    let proved = c.history_laws.ensures in
    nothing-stays proved

pub returns-clause-below : goal.returns-clause-below
returns-clause-below c =
    let proved = c.history_laws.ensures in
    below-stays proved
