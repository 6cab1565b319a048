use Rattle.std.proofs.Common.{◌≡◌, subst}
use Rattle.std.specs.Option.{option_copied}
use Rattle.grid_types.specs.Requests.{Place, place}
use Rattle.hub_core.specs.Lent.{created_caps}
use Rattle.hub_core.proofs.LentLemmas.{gone-uncreated}
use Rattle.hub_core.proofs.hub.HubCore.created_caps.Goals as goal

pub returns-in-Some : goal.returns-in-Some
returns-in-Some c = record {
  of = λ H s. subst (λ (p : Place). option_copied c.caps_in.result ≡ created_caps p) (c.in-Some.ensures.of c.args.self.now.config H s.tables_stand s.is_legal).stands_at c.caps_in.ensures;
}

pub returns-in-None : goal.returns-in-None
returns-in-None c = record {
  of = λ H s. gone-uncreated (place H c.args.request) (c.in-None.ensures.of c.args.self.now.config H s.tables_stand s.is_legal);
}
