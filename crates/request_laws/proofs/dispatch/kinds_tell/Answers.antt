use Rattle.request_laws.proofs.KindLemmas.{kinds-divide, alike-fit-alike, kinds-tell, few-kinds, choices-add}
use Rattle.request_laws.proofs.dispatch.kinds_tell.Goals as goal

pub returns-clause-divide : goal.returns-clause-divide
returns-clause-divide c =
    let proved = c.history_laws.ensures in
    kinds-divide proved

pub returns-clause-alike : goal.returns-clause-alike
returns-clause-alike c =
    let proved = c.history_laws.ensures in
    alike-fit-alike proved

pub returns-clause-tell : goal.returns-clause-tell
returns-clause-tell c =
    let proved = c.history_laws.ensures in
    kinds-tell proved

pub returns-clause-fewer : goal.returns-clause-fewer
returns-clause-fewer c =
    let proved = c.history_laws.ensures in
    few-kinds proved

pub returns-clause-add : goal.returns-clause-add
returns-clause-add c =
    let proved = c.history_laws.ensures in
    choices-add proved
