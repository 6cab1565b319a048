-- A connection that is served by a hub of one thread, turn after turn.
use Rattle.std.specs.Prelude.{◌≡◌, ℕ, ◌-◌, ◌<◌, ◌≤◌, true, false, List, [], ◌∷◌, length, Option, None, Some, Result}
use Rattle.grid_types.specs.declared.entry.Entry.{Entry}
use Rattle.grid_types.specs.Permitted.{last_moment}
use Rattle.grid_types.specs.Tokens.{is_good_closing, is_good_reservation, is_good_ticket, reservation_of, ticket_of}
use Rattle.grid_outside.specs.Told.{Tick}
use Rattle.grid_outside.specs.declared.exchange.Ask.{Ask}
use Rattle.grid_outside.specs.Exchanges.{Came}
use Rattle.request_laws.specs.Starts.{newest_request, starts_left}
use Rattle.hub_core.specs.HubView.{past}
use Rattle.node_client.specs.Held.{Token, of_ticket, of_reservation, of_closing}
use Rattle.node_client.specs.Steps.{Step}
use Rattle.conn_script.specs.declared.wants.ConnFault.{ConnFault}
use Rattle.conn_script.specs.declared.wants.Served.{Served}
use Rattle.conn_script.specs.declared.wants.TheConstants.{LIMIT}
use Rattle.conn_script.specs.Pauses.{ends_early}
use Rattle.conn_script.specs.Wanted.{Wanted}
use Rattle.conn_script.specs.Work.{Outlook}
use Rattle.hub_conn.specs.declared.talk.Talk.{Talk}
use Rattle.hub_conn.specs.Talk.{Stands, blamed, is_fresh, leaves, result_cause, tokens}
use Rattle.hub_links.specs.Links.{RoseFor}
use Rattle.local_driver.specs.Served.{HasServed, Onward, Outside}
use Rattle.local_driver.specs.World.{World}

-- the token is good and tells what is so, and a ticket is that of the request that was queued last
abbrev pub Has : List Entry → Token → Type 0
Has H (of_ticket t) = (is_good_ticket H 0 t.request ≡ true) × (t ≡ ticket_of H t.request) × (t.request ≡ newest_request H)
Has H (of_reservation r) = (is_good_reservation H 0 r.request r.slot ≡ true) × (r ≡ reservation_of H r.request r.slot)
Has H (of_closing c) = is_good_closing H 0 c.slot ≡ true

abbrev pub HasAll : List Entry → List Token → Type 0
HasAll H [] = Unit {0}
HasAll H (token ∷ tokens) = Has H token × HasAll H tokens

-- What may still be done for the request that was queued last, which is that of the connection if it waits for a session: the nodes
-- on which it may be started, and one pause for each millisecond up to the last moment.
abbrev pub outlook_of : {N C : Type 0} → World N C → Outlook
outlook_of w = record {
  starts = starts_left (past w.hub) (newest_request (past w.hub));
  pauses = last_moment - w.time.moment;
}

module _ {N C : Type 0} (gives : N → List ℕ → Ask → Came → N → Type 0) (tells : C → Tick → ℕ → C → Type 0) (own : List ℕ) where
  -- The connection stands for what was read, done and written since `old`. Each token that it holds is good, what it blames has happened,
  -- no more was read than is read on a connection, and behind a poll that was told to wait the last moment is ahead. Its client wasn't
  -- told to have left.
  pub record Serving (old : Outside N C) (talk : Talk) (new : Outside N C) : Type 0 where
    pub want : Wanted
    pub bytes : List ℕ
    pub steps : List Step
    pub written : List ℕ
    pub stands : Stands talk (Some own) want bytes steps written
    pub onward : Onward gives tells old bytes steps written new
    pub fresh : is_fresh talk ≡ true
    pub stays : leaves talk ≡ false
    pub has : HasAll (past new.world.hub) (tokens talk)
    pub early : ends_early steps ≡ true → new.world.time.moment < last_moment
    pub within : length bytes ≤ LIMIT
    pub caused : RoseFor (blamed talk) old.link new.link

  -- it ended so, and what the end blames has happened
  abbrev pub EndedSo : Outside N C → Result Served ConnFault → Outside N C → Type 0
  EndedSo old result new = HasServed gives tells own old result new × RoseFor (result_cause result) old.link new.link

  -- one turn: a connection that was served is served on, or has ended
  abbrev pub Turned : Talk → Outside N C → Option (Result Served ConnFault) → Talk → Outside N C → Type 0
  Turned talk before None next after = (old : Outside N C) → Serving old talk before → Serving old next after
  Turned talk before (Some result) next after = (old : Outside N C) → Serving old talk before → EndedSo old result after

-- less is left to do, where it is not over
abbrev pub FallsTo : Option (Result Served ConnFault) → (before after : ℕ) → Type 0
FallsTo None before after = after < before
FallsTo (Some result) before after = Unit {0}
