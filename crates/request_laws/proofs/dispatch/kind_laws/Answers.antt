use Rattle.request_laws.proofs.KindLemmas.{kinds-divide, alike-fit-alike, choices-add, choices-decide, alike-choices, bars-at, bars-of}
use Rattle.request_laws.proofs.LeadLemmas.{leads-are-few}
use Rattle.request_laws.proofs.dispatch.kind_laws.Goals as goal

pub returns : goal.returns
returns c =
    let proved = c.history_laws.ensures in
    record {
      kinds-divide = kinds-divide proved;
      alike-fit-alike = alike-fit-alike proved;
      choices-add = choices-add proved;
      leads-are-few = leads-are-few proved;
      choices-decide = choices-decide proved;
      alike-choices = alike-choices proved;
      bars-at = bars-at proved;
      bars-of = bars-of proved;
    }
