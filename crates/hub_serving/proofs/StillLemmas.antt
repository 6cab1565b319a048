-- That a connection stays where it was while a reader is lent to its pass, and while it gives memory back.
use Rattle.std.proofs.Common.{◌≡◌, ℕ, List, refl, sym, ap, subst, ◌∙◌}
use Rattle.std.specs.Prelude.{Option, None, Some, Result}
use Rattle.grid_outside.specs.Told.{ClockView, LinkView, Tick, untold}
use Rattle.grid_outside.specs.declared.exchange.Ask.{Ask}
use Rattle.grid_outside.specs.Exchanges.{Came}
use Rattle.hub_cell.specs.declared.hub.SharedHub.{SharedHub}
use Rattle.hub_cell.specs.declared.hub.Pass.{Pass}
use Rattle.hub_cell.specs.Passes.{IsOf, knows}
use Rattle.node_client.specs.Held.{Token}
use Rattle.conn_script.specs.declared.wants.ConnFault.{ConnFault}
use Rattle.conn_script.specs.declared.wants.Served.{Served}
use Rattle.hub_conn.specs.declared.talk.Talk.{Talk}
use Rattle.hub_conn.specs.Talk.{Cause, IsRested}
use Rattle.hub_links.specs.Links.{RoseFor}
use Rattle.hub_workers.specs.World.{Knowledge, world_of}
use Rattle.hub_serving.specs.declared.seats.Seat.{Seat}
use Rattle.hub_serving.specs.Calls.{HasAll}
use Rattle.hub_serving.specs.Outside.{Outside, outside_of}
use Rattle.hub_serving.specs.Seats.{Sits}
use Rattle.hub_serving.specs.Serving.{EndedSo, Serving}
use Rattle.hub_workers.specs.SharedClock.{SharedTells}
use Rattle.hub_serving.specs.Tables.{IsServed, IsStill, SitsOn, first_of, now_of}

module _ {L N S C : Type 0} (hub : SharedHub) (line_view : L → LinkView) (state : N → S) (gives : S → List ℕ → Ask → Came → S → Type 0)
    (asks : N → Option (List ℕ × Ask) → Type 0) (tells : C → Tick → ℕ → C → Type 0) (view : C → ClockView) where
  -- ---- another pass that knows the same

  served_by : (seat : Seat L N C) (p : Pass) → knows p ≡ knows seat.pass → (r : Option (Result Served ConnFault)) →
      IsServed hub line_view state gives asks tells view seat r → IsServed hub line_view state gives asks tells view (record seat { pass = p }) r
  served_by seat p same None x =
      subst
      (λ (v : Knowledge). Sits hub gives asks tells view (first_of line_view state view seat) seat.talk seat.nodes seat.asking
      (outside_of (world_of v (state seat.nodes) seat.last.value (untold (view seat.last.value).moment)) (line_view seat.line)))
      (sym same) x
  served_by seat p same (Some result) x =
      subst
      (λ (v : Knowledge). EndedSo hub gives (SharedTells tells view) (first_of line_view state view seat) result
      (outside_of (world_of v (state seat.nodes) seat.last.value (untold (view seat.last.value).moment)) (line_view seat.line)))
      (sym same) x

  pub with_pass : (seat : Seat L N C) (p : Pass) → knows p ≡ knows seat.pass → IsOf hub p →
      IsStill hub line_view state gives asks tells view seat (record seat { pass = p })
  with_pass seat p same own = record {
    same = refl;
    now = ap
        (λ (v : Knowledge). outside_of (world_of v (state seat.nodes) seat.last.value (untold (view seat.last.value).moment)) (line_view seat.line))
        same;
    ended = refl;
    seated = λ clock x. record { own = own; served = served_by seat p same seat.ended x.served; remembers = x.remembers };
  }

  -- ---- a connection that gave memory back

  rests_on : (first : Outside S C) (old new : Talk) (o : Outside S C) → IsRested old new →
      (s : Serving hub gives (SharedTells tells view) first old o) → Serving hub gives (SharedTells tells view) first new o
  rests_on first old new o r s = record {
    want = s.want;
    bytes = s.bytes;
    steps = s.steps;
    written = s.written;
    stands = r.stands None s.want s.bytes s.steps s.written s.stands;
    onward = s.onward;
    fresh = r.fresh ∙ s.fresh;
    has = subst (λ (held : List Token). HasAll o.world.view held) (sym r.keeps) s.has;
    within = s.within;
    caused = subst (λ (cause : Cause). RoseFor cause first.link o.link) (sym r.blames) s.caused;
  }

  rested_so : (seat : Seat L N C) (t : Talk) → IsRested seat.talk t → (r : Option (Result Served ConnFault)) →
      IsServed hub line_view state gives asks tells view seat r → IsServed hub line_view state gives asks tells view (record seat { talk = t }) r
  unfolding rests_on
  rested_so seat t rested None x = record {
    serving = rests_on (first_of line_view state view seat) seat.talk t (now_of line_view state view seat) rested x.serving;
    asked = x.asked;
    idle = x.idle;
  }
  rested_so seat t rested (Some result) x = x

  pub with_talk : (seat : Seat L N C) (t : Talk) → IsRested seat.talk t →
      IsStill hub line_view state gives asks tells view seat (record seat { talk = t })
  with_talk seat t rested = record {
    same = refl;
    now = refl;
    ended = refl;
    seated = λ clock x. record { own = x.own; served = rested_so seat t rested seat.ended x.served; remembers = x.remembers };
  }

  -- ---- around a step

  pub is_still : (seat : Seat L N C) → IsStill hub line_view state gives asks tells view seat seat
  is_still seat = record { same = refl; now = refl; ended = refl; seated = λ clock x. x }

  pub on_between : (clock : C) (a b c d : Seat L N C) → IsStill hub line_view state gives asks tells view a b →
      SitsOn hub line_view state gives asks tells view clock b c → IsStill hub line_view state gives asks tells view c d →
      SitsOn hub line_view state gives asks tells view clock a d
  on_between clock a b c d before on behind = record {
    same = behind.same ∙ (on.same ∙ before.same);
    seated = behind.seated clock on.seated;
  }
