-- From the first turn of the driver to the last.
use Rattle.std.proofs.Common.{◌≡◌, ℕ, Bool, true, false, ◌||◌, List, [], ◌∷◌, ◌++◌, refl, sym, ap, subst, ◌∙◌}
use Rattle.std.specs.Prelude.{Option, Some, None}
use Rattle.grid_types.specs.declared.config.HubConfig.{HubConfig}
use Rattle.grid_types.specs.declared.entry.Entry.{Entry}
use Rattle.grid_types.specs.declared.names.SlotId.{SlotId}
use Rattle.grid_types.specs.Lists.{or_else}
use Rattle.grid_types.specs.Tokens.{Reservation}
use Rattle.hub_core.specs.HubView.{past}
use Rattle.loop_node.specs.Links.{NodesGive}
use Rattle.node_client.specs.declared.wants.CarryEnd.{CarryEnd}
use Rattle.node_client.specs.declared.carry.Carry.{Carry}
use Rattle.node_client.specs.Steps.{Step, met_want}
use Rattle.node_client.specs.Runs.{Runs, Exchanges, Still}
use Rattle.node_client.specs.RunLaws.{runs_more, exchanges_more, still_more}
use Rattle.node_client.specs.Places.{Place, at_start, at_bind, at_return, at_fail, at_quit, at_free, at_end, IsGoodAt, gives_up_at}
use Rattle.node_client.specs.Carrying.{Stands, IsNew, IsFirst}
use Rattle.grid_simulate.specs.declared.simulation.Kept.{Kept}
use Rattle.grid_simulate.specs.Starts.{bound_in, bound_at}
use Rattle.grid_simulate.specs.Carrying.{Grid, Went, IsUnder, Turned, UnderWay, Carried}

went_none : (at : ℕ) (s : SlotId) (w : Grid) → Went at s w [] w
unfolding Runs Exchanges Still
went_none at s w = record { config = refl; answered = refl; asked = refl; still = refl; keeps_tickets = λ k t. (t, refl); keeps_reservations = λ k u t d. (t, refl) }

went_more : (at : ℕ) (s : SlotId) (u v w : Grid) (steps more : List Step) → Went at s u steps v → Went at s v more w → Went at s u (steps ++ more) w
went_more at s u v w steps more p q = record {
  config = q.config ∙ p.config;
  answered = runs_more u.hub.config 0 (past u.hub) (past v.hub) (past w.hub) steps more p.answered (subst (λ (c : HubConfig). Runs c 0 (past v.hub) more (past w.hub)) p.config q.answered);
  asked = exchanges_more NodesGive u.nodes v.nodes w.nodes steps more p.asked q.asked;
  still = still_more at at at steps more p.still q.still;
  keeps_tickets = λ k t. ((q.keeps_tickets k (p.keeps_tickets k t).0).0, (q.keeps_tickets k (p.keeps_tickets k t).0).1 ∙ (p.keeps_tickets k t).1);
  keeps_reservations = λ k x t d.
      let first = p.keeps_reservations k x t d in
      let second = q.keeps_reservations k x first.0 d in
      (second.0, second.1 ∙ first.1);
}

or_else_more : {X : Type 0} (a b c : Option X) → or_else a (or_else b c) ≡ or_else (or_else a b) c
or_else_more None b c = refl
or_else_more (Some x) b c = refl

or_else_none : {X : Type 0} (a : Option X) → or_else a None ≡ a
or_else_none None = refl
or_else_none (Some x) = refl

bound_more : (steps more : List Step) → bound_in (steps ++ more) ≡ or_else (bound_in more) (bound_in steps)
bound_more [] more = sym (or_else_none (bound_in more))
bound_more (s ∷ steps) more = ap (λ (o : Option Kept). or_else o (bound_at s)) (bound_more steps more) ∙ sym (or_else_more (bound_in more) (bound_in steps) (bound_at s))

first_good : (H : List Entry) (r : Reservation) (place : Place) → IsFirst place → IsGoodAt H 0 r at_start → IsGoodAt H 0 r place
first_good H r at_start f good = good
first_good H r (at_fail w) f good = good
first_good H r (at_bind x cs) f good = absurd f
first_good H r (at_return x) f good = absurd f
first_good H r (at_quit c) f good = absurd f
first_good H r (at_free c) f good = absurd f
first_good H r (at_end e) f good = absurd f

pub way_start : (at : ℕ) (r : Reservation) (w : Grid) (carry : Carry) → IsNew carry r → IsGoodAt (past w.hub) 0 r at_start → UnderWay at r w carry w None
way_start at r w carry new good = record { place = new.place; steps = []; stands = new.stands; good = first_good (past w.hub) r new.place new.begins good; went = went_none at r.slot w; notes = refl }

pub under : (at : ℕ) (r : Reservation) (u w : Grid) (carry : Carry) (kept : Option Kept) → UnderWay at r u carry w kept → IsUnder carry (past w.hub)
under at r u w carry kept way = record { r = r; place = way.place; steps = way.steps; stands = way.stands; good = way.good }

pub way_on : (at : ℕ) (r : Reservation) (u v w : Grid) (carry later : Carry) (kept noted : Option Kept) → UnderWay at r u carry v kept → Turned at carry v kept None later w noted → UnderWay at r u later w noted
way_on at r u v w carry later kept noted way turned =
    let o = turned r way.place way.steps way.stands way.good in
    record {
      place = o.to;
      steps = way.steps ++ o.more;
      stands = o.stands;
      good = o.good;
      went = went_more at r.slot u v w way.steps o.more way.went o.went;
      notes = o.notes ∙ ap (λ (k : Option Kept). or_else (bound_in o.more) k) way.notes ∙ sym (bound_more way.steps o.more);
    }

pub way_end : (at : ℕ) (r : Reservation) (u v w : Grid) (carry later : Carry) (kept noted : Option Kept) (e : CarryEnd) (short : Bool) → UnderWay at r u carry v kept → Turned at carry v kept (Some e) later w noted →
    ((r : Reservation) (place : Place) (steps : List Step) → Stands later r place steps → short ≡ (met_want steps || gives_up_at place)) → Carried at r u (noted, short) w
way_end at r u v w carry later kept noted e short way turned told =
    let over = turned.3 r way.place way.steps way.stands in
    let stands : Stands later r way.place way.steps = subst (λ (c : Carry). Stands c r way.place way.steps) (sym turned.0) way.stands in
    record {
      steps = way.steps;
      start = over.finished.start;
      notes = turned.2 ∙ way.notes;
      short_is = told r way.place way.steps stands ∙ ap (λ (p : Place). met_want way.steps || gives_up_at p) over.place_is ∙ or_none (met_want way.steps);
      went = subst (λ (x : Grid). Went at r.slot u way.steps x) (sym turned.1) way.went;
    }
  where
    or_none : (b : Bool) → (b || false) ≡ b
    or_none true = refl
    or_none false = refl
