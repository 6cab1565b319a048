-- What is remembered of a search that found nothing.
use Rattle.std.proofs.Common.{◌≡◌, ℕ, Bool, true, false, List, refl, sym, ◌∙◌}
use Rattle.std.specs.Prelude.{None}
use Rattle.grid_types.specs.declared.entry.Entry.{Entry}
use Rattle.grid_types.specs.declared.names.Moment.{Moment}
use Rattle.grid_types.specs.Choice.{chosen}
use Rattle.grid_types.specs.Fit.{fits}
use Rattle.grid_types.specs.Laws.{NoneFits}
use Rattle.request_laws.specs.Memory.{NothingFits, LaterIsNarrower, nobody}
use Rattle.hub_tables.specs.declared.tables.HubTables.{HubTables}
use Rattle.hub_tables.specs.Tables.{Keeps, Tells}

-- a test that would make true false fails
off : (v : Bool) → (v ≡ true → true ≡ false) → v ≡ false
off true h = h refl
off false h = refl

-- none fits, so none will
search-over : (none_fits : NoneFits) (narrower : LaterIsNarrower) (H : List Entry) (below : ℕ) (now : Moment) → None ≡ chosen H now.0 → NothingFits H below now.0 nobody
search-over none_fits narrower H below now none = record {
  none = λ r k t m b f n. off (fits H r k t m) (λ g.
      let early : fits H r k t now.0 ≡ true = narrower H r k t now.0 m f g in
      sym early ∙ none_fits H now.0 (sym none) r k t);
}

-- tables that differ in what is remembered alone
pub search-kept : (none_fits : NoneFits) (narrower : LaterIsNarrower) (old new : HubTables) (now : Moment) → new.nodes ≡ old.nodes → new.slots ≡ old.slots → new.requests ≡ old.requests → new.sessions ≡ old.sessions →
    new.next_node ≡ old.next_node → new.next_request ≡ old.next_request → new.clock ≡ old.clock → new.searched_below ≡ old.next_request → new.searched_from ≡ now → Tells old (λ H. None ≡ chosen H now.0) → Keeps old new
search-kept none_fits narrower old new now nodes slots requests sessions next_node next_request time below from none = record {
  still = λ c H s l. record {
    nodes_stand = rw nodes s.nodes_stand;
    slots_stand = rw slots s.slots_stand;
    requests_stand = rw requests s.requests_stand;
    sessions_stand = rw sessions s.sessions_stand;
    counts_nodes = rw next_node s.counts_nodes;
    counts_requests = rw next_request s.counts_requests;
    tells_clock = rw time s.tells_clock;
    searched = rw (below, from) (search-over none_fits narrower H old.next_request now (none.of c H s l));
  };
}
