use Rattle.hub_store.proofs.OpenLemmas.{found_of, says_of}
use Rattle.hub_store.proofs.opening.open_store.Goals as goal

pub by_found-requires-clause-says : goal.by_found-requires-clause-says
by_found-requires-clause-says g c =
    says_of (g.S.Source.view c.args.store.now).given (g.S.Source.view c.read_in.new.input).given c.in-Ok.found.verdict c.requires.unread (g.met.S.Store.untold c.args.store.now c.read_in.new.input) c.in-Ok.ensures.says

pub by_found-requires-clause-found : goal.by_found-requires-clause-found
by_found-requires-clause-found g c =
    found_of (g.S.Source.view c.args.store.now).given (g.S.Source.view c.read_in.new.input).given c.in-Ok.found.verdict c.in-Ok.found.journal c.requires.unread (g.met.S.Store.untold c.args.store.now c.read_in.new.input) c.in-Ok.ensures.journal
