use Rattle.std.proofs.Common.{List, ap}
use Rattle.std.specs.Prelude.{Some}
use Rattle.grid_types.specs.declared.capabilities.Cap.{Cap}
use Rattle.grid_types.specs.Requests.{place}
use Rattle.hub_core.proofs.LentLemmas.{asked-choices, gone-open}
use Rattle.hub_core.proofs.hub.HubCore.choices.Goals as goal

pub returns-in-Some : goal.returns-in-Some
returns-in-Some c = record {
  of = λ H s open_yet. ap (λ (cs : List (List Cap)). Some cs) (asked-choices H c.args.request _ (c.in-Some.ensures.of c.args.self.now.config H s.tables_stand s.is_legal).asks);
}

pub returns-in-None : goal.returns-in-None
returns-in-None c = record {
  of = λ H s open_yet. absurd (gone-open (place H c.args.request) (c.in-None.ensures.of c.args.self.now.config H s.tables_stand s.is_legal) open_yet);
}
