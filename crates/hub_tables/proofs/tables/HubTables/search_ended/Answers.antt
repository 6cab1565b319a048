use Rattle.std.proofs.Common.{refl}
use Rattle.hub_tables.proofs.SearchLemmas.{search-kept}
use Rattle.hub_tables.proofs.tables.HubTables.search_ended.Goals as goal

pub returns : goal.returns
returns c = search-kept c.chosen_is_first.ensures.none c.nothing_stays.ensures.later _ _ c.args.now refl refl refl refl refl refl refl refl refl
