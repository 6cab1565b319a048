-- What the page of a history is.
use Rattle.std.specs.Prelude.{ℕ, List, ◌++◌, length, decimal}
use Rattle.grid_types.specs.declared.entry.Entry.{Entry}
use Rattle.text_sheet.specs.Numbers.{seconds}
use Rattle.grid_farm.specs.Farms.{Farm, farm_of}
use Rattle.grid_farm.specs.Gauges.{waiting_count}
use Rattle.grid_page.specs.declared.parts.TheConstants.{END, FRONT, NODES, SECONDS, SESSIONS, WAITING}
use Rattle.grid_page.specs.Hour.{with_picture}
use Rattle.grid_page.specs.Nodes.{with_node_table, with_wait_table}

-- how much there is, and how far the journal goes
abbrev pub front : Farm → List ℕ
front farm =
    FRONT.now ++ decimal (length farm.past.sessions) ++ SESSIONS.now
    ++ decimal (waiting_count farm) ++ WAITING.now ++ decimal (length farm.past.nodes)
    ++ NODES.now ++ seconds farm.at ++ SECONDS.now

-- the page of what is known of a farm
abbrev pub page : Farm → List ℕ
page farm =
    with_picture (with_wait_table (with_node_table (front farm) farm) farm) farm.hour ++ END.now

-- the page of a history
abbrev pub page_of : List Entry → List ℕ
page_of history = page (farm_of history)
