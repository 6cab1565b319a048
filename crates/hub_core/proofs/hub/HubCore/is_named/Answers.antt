use Rattle.hub_core.proofs.NodeCallLemmas.{named-not, named-as}
use Rattle.hub_core.proofs.hub.HubCore.is_named.Goals as goal

pub returns-then-not-is_registered : goal.returns-then-not-is_registered
returns-then-not-is_registered c = named-not _ _ _ _ c.is_registered.ensures c.if-not-is_registered.true

pub returns : goal.returns
returns c = named-as _ _ _ _ c.is_registered.ensures c.if-not-is_registered.false _ c.registration.ensures.listed _ c.has_name.ensures
