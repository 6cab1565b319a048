-- From the first turn of the driver to the last.
use Rattle.std.proofs.Common.{◌≡◌, ℕ, Bool, true, false, ◌||◌, List, [], ◌++◌, refl, sym, ap, subst, ◌∙◌, arith}
use Rattle.std.specs.Prelude.{Some, None}
use Rattle.grid_types.specs.declared.config.HubConfig.{HubConfig}
use Rattle.grid_types.specs.declared.entry.Entry.{Entry}
use Rattle.grid_types.specs.Tokens.{Reservation}
use Rattle.hub_core.specs.HubView.{past}
use Rattle.grid_outside.specs.declared.exchange.Ask.{Ask}
use Rattle.grid_outside.specs.Exchanges.{Came}
use Rattle.node_client.specs.declared.wants.CarryEnd.{CarryEnd}
use Rattle.node_client.specs.declared.carry.Carry.{Carry}
use Rattle.node_client.specs.Steps.{Step, met_want}
use Rattle.node_client.specs.Runs.{Runs, Exchanges, Timed}
use Rattle.node_client.specs.RunLaws.{runs_more, exchanges_more, timed_more}
use Rattle.node_client.specs.Places.{Place, at_start, at_bind, at_return, at_fail, at_quit, at_free, at_end, IsGoodAt, gives_up_at}
use Rattle.node_client.specs.Carrying.{Stands, IsNew, IsFirst}
use Rattle.trial_core.specs.Carried.{World, IsSound, Went, IsUnder, Turned, UnderWay, Carried}

module _ {N : Type 0} (gives : N → List ℕ → Ask → Came → N → Type 0) where
  went_none : (w : World N) → Went gives w [] w
  unfolding Runs Exchanges Timed
  went_none w = record { config = refl; answered = refl; asked = refl; timed = omega arith; sound = λ s. s; keeps = λ k t. (t, refl) }

  went_more : (u v w : World N) (steps more : List Step) → Went gives u steps v → Went gives v more w → Went gives u (steps ++ more) w
  went_more u v w steps more p q = record {
    config = q.config ∙ p.config;
    answered = runs_more u.hub.config 0 (past u.hub) (past v.hub) (past w.hub) steps more p.answered (subst (λ (c : HubConfig). Runs c 0 (past v.hub) more (past w.hub)) p.config q.answered);
    asked = exchanges_more gives u.nodes v.nodes w.nodes steps more p.asked q.asked;
    timed = timed_more u.moment v.moment w.moment steps more p.timed q.timed;
    sound = λ s. subst (λ (c : HubConfig). IsSound c (past w.hub)) p.config (q.sound (subst (λ (c : HubConfig). IsSound c (past v.hub)) (sym p.config) (p.sound s)));
    keeps = λ k t. ((q.keeps k (p.keeps k t).0).0, (q.keeps k (p.keeps k t).0).1 ∙ (p.keeps k t).1);
  }

  first_good : (H : List Entry) (r : Reservation) (place : Place) → IsFirst place → IsGoodAt H 0 r at_start → IsGoodAt H 0 r place
  first_good H r at_start f good = good
  first_good H r (at_fail w) f good = good
  first_good H r (at_bind x cs) f good = absurd f
  first_good H r (at_return x) f good = absurd f
  first_good H r (at_quit c) f good = absurd f
  first_good H r (at_free c) f good = absurd f
  first_good H r (at_end e) f good = absurd f

  pub way_start : (r : Reservation) (w : World N) (carry : Carry) → IsNew carry r → IsGoodAt (past w.hub) 0 r at_start → UnderWay gives r w carry w
  way_start r w carry new good = record { place = new.place; steps = []; stands = new.stands; good = first_good (past w.hub) r new.place new.begins good; went = went_none w }

  pub under : (r : Reservation) (u w : World N) (carry : Carry) → UnderWay gives r u carry w → IsUnder carry (past w.hub)
  under r u w carry way = record { r = r; place = way.place; steps = way.steps; stands = way.stands; good = way.good }

  pub way_on : (r : Reservation) (u v w : World N) (carry later : Carry) → UnderWay gives r u carry v → Turned gives carry v None later w → UnderWay gives r u later w
  way_on r u v w carry later way turned =
      let o = turned r way.place way.steps way.stands way.good in
      record { place = o.to; steps = way.steps ++ o.more; stands = o.stands; good = o.good; went = went_more u v w way.steps o.more way.went o.went }

  pub way_end : (r : Reservation) (u v w : World N) (carry later : Carry) (e : CarryEnd) (short : Bool) → UnderWay gives r u carry v → Turned gives carry v (Some e) later w →
      ((r : Reservation) (place : Place) (steps : List Step) → Stands later r place steps → short ≡ (met_want steps || gives_up_at place)) → Carried gives r u (e, short) w
  way_end r u v w carry later e short way turned told =
      let over = turned.2 r way.place way.steps way.stands in
      let stands : Stands later r way.place way.steps = subst (λ (c : Carry). Stands c r way.place way.steps) (sym turned.0) way.stands in
      record {
        steps = way.steps;
        start = over.finished.start;
        bound_is = over.finished.bound_is;
        short_is = told r way.place way.steps stands ∙ ap (λ (p : Place). met_want way.steps || gives_up_at p) over.place_is ∙ or_none (met_want way.steps);
        went = subst (λ (x : World N). Went gives u way.steps x) (sym turned.1) way.went;
      }
    where
      or_none : (b : Bool) → (b || false) ≡ b
      or_none true = refl
      or_none false = refl
