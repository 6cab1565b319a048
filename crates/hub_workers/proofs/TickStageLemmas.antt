-- One step of a ticker that makes its turns step by step.
use Rattle.std.proofs.Common.{◌≡◌, inl, inr, ℕ, ◌<◌, Bool, true, false, not, List, [], ◌∷◌, ◌++◌, refl, sym, ap, subst, ◌∙◌, append-nil, append_assoc}
use Rattle.std.specs.Prelude.{Option, Some, None}
use Rattle.grid_types.specs.Tokens.{Closing}
use Rattle.grid_types.specs.Calls.{Call, Reply}
use Rattle.grid_types.specs.declared.spent.Spent as spent
use Rattle.grid_outside.specs.Told.{ClockView, Tick, later_by}
use Rattle.grid_outside.specs.declared.exchange.Ask.{Ask}
use Rattle.grid_outside.specs.Exchanges.{Came, CameSo}
use Rattle.hub_cell.specs.declared.hub.SharedHub.{SharedHub}
use Rattle.hub_cell.specs.declared.hub.CellFault.{CellFault}
use Rattle.hub_cell.specs.declared.hub.CellFault.TheVariants as fault
use Rattle.hub_cell.specs.Passes.{IsFault, IsSpent, config_of}
use Rattle.hub_cell.specs.Shared.{HasClosing, LooksOnce, SharedServes}
use Rattle.node_client.specs.ClockSteps.{PausesFor, Ticks}
use Rattle.node_client.specs.Asks.{quit_ask}
use Rattle.node_client.specs.Steps.{Step, Called, Spent, Exchanged, Paused, lacked}
use Rattle.hub_workers.specs.Amid.{Goes}
use Rattle.hub_workers.specs.TickStages.{BeginsToEnd, EndedAll, EndedSome, EndsOne, TickSays, Ticking, Unanswered}
use Rattle.node_client.specs.Quitting.{AsksToEnd, asked, not_asked}
use Rattle.hub_workers.specs.Turns.{TickerSpent, TickerTurn, ends_idle, ends_with_pause, expire_spent, freed_spent, later_spent, look_spent, looks_lack, none_yet, one_more, sweep_lacks, sweep_spent, swept, ticker_pause}
use Rattle.hub_workers.specs.World.{Knowledge, Went, World, world_of}
use Rattle.hub_workers.specs.WorldLaws.{went_call, went_exchange, went_none, went_pause, went_spent}
use Rattle.hub_workers.specs.declared.acts.WorkAct.{WorkAct}
use Rattle.hub_workers.specs.declared.acts.WorkAct.TheVariants as acts
use Rattle.hub_workers.specs.declared.tick_steps.TickStage.{TickStage}
use Rattle.hub_workers.specs.declared.tick_steps.TickStage.TheVariants as stages
use Rattle.hub_workers.proofs.WorkStageLemmas.{same_nodes}

-- steps after a sweep, with one more
swept_more : (at : ℕ) (reply : Reply) (own rest : List Step) (step : Step) → own ≡ Called Call.sweep at (Some reply) ∷ rest →
    own ++ step ∷ [] ≡ Called Call.sweep at (Some reply) ∷ (rest ++ step ∷ [])
swept_more at reply own rest step e = ap (λ (xs : List Step). xs ++ step ∷ []) e

-- the same, where a session was ended at the hub
ended_more : (at : ℕ) (reply : Reply) (own done since : List Step) (when : ℕ) (c : Closing) (step : Step) →
    own ≡ Called Call.sweep at (Some reply) ∷ (done ++ Called Call.expire when (Some (Reply.expired c)) ∷ since) →
    own ++ step ∷ [] ≡ Called Call.sweep at (Some reply) ∷ (done ++ Called Call.expire when (Some (Reply.expired c)) ∷ (since ++ step ∷ []))
ended_more at reply own done since when c step e =
    swept_more at reply own (done ++ Called Call.expire when (Some (Reply.expired c)) ∷ since) step e
    ∙ ap (λ (xs : List Step). Called Call.sweep at (Some reply) ∷ xs) (append_assoc done (Called Call.expire when (Some (Reply.expired c)) ∷ since) (step ∷ []))

same_end : (c : Closing) (since own more : List Step) → own ≡ more → EndsOne c since own → EndsOne c since more
same_end c since own more e h = subst (λ (xs : List Step). EndsOne c since xs) e h

module _ {N C : Type 0} (hub : SharedHub) (gives : N → List ℕ → Ask → Came → N → Type 0) (tells : C → Tick → ℕ → C → Type 0)
    (asks : Option (List ℕ × Ask) → Type 0) (moment now : ℕ) where
  -- ---- the sweep

  pub sweep_done : (v w : Knowledge) (n : N) (at : ℕ) (m m' : C) (time time' : ClockView) (reply : Reply) → SharedServes (config_of hub) v Call.sweep at (Some reply) w → Ticks tells m at m' time time' →
      Goes hub gives tells TickerTurn (Ticking hub asks stages.Between) (Ticking hub asks stages.Looking) (TickSays acts.GoesOn moment now stages.Between stages.Looking)
      (world_of v n m time) (world_of w n m' time')
  sweep_done v w n at m m' time time' reply serves ticks = λ own ticking. record {
    more = Called Call.sweep at (Some reply) ∷ [];
    went = went_call hub gives tells v w n Call.sweep at (Some reply) m m' time time' (inl serves) ticks;
    reaches = inl (
      record {
        at = at;
        reply = reply;
        done = [];
        ended = none_yet;
        own_are = ap (λ (xs : List Step). xs ++ Called Call.sweep at (Some reply) ∷ []) ticking.0;
      },
      ticking.1,
    );
    did = tt;
  }

  pub sweep_no_room : (v w : Knowledge) (n : N) (at : ℕ) (m m' : C) (time time' : ClockView) → LooksOnce v w → Ticks tells m at m' time time' →
      Goes hub gives tells TickerTurn (Ticking hub asks stages.Between) (Ticking hub asks stages.Between) (TickSays acts.GoesOn moment now stages.Between stages.Between)
      (world_of v n m time) (world_of w n m' time')
  sweep_no_room v w n at m m' time time' looks ticks = λ own ticking. record {
    more = Called Call.sweep at None ∷ [];
    went = went_call hub gives tells v w n Call.sweep at None m m' time time' (inr (refl, looks)) ticks;
    reaches = inr (subst (λ (xs : List Step). TickerTurn (xs ++ Called Call.sweep at None ∷ [])) (sym ticking.0) (sweep_lacks at), (refl, ticking.1));
    did = tt;
  }

  pub sweep_stops : (v w : Knowledge) (n : N) (at : ℕ) (m m' : C) (time time' : ClockView) (s : spent.Spent) → IsSpent hub v s w → Ticks tells m at m' time time' →
      Goes hub gives tells TickerTurn (Ticking hub asks stages.Between) (Ticking hub asks (stages.Over s)) (TickSays (acts.Over s) moment now stages.Between (stages.Over s))
      (world_of v n m time) (world_of w n m' time')
  sweep_stops v w n at m m' time time' s is ticks = λ own ticking. record {
    more = Spent Call.sweep at ∷ [];
    went = went_spent hub gives tells v w n Call.sweep at s m m' time time' is ticks;
    reaches = inl (subst (λ (xs : List Step). TickerSpent (xs ++ Spent Call.sweep at ∷ [])) (sym ticking.0) (sweep_spent at), is.0);
    did = refl;
  }

  -- ---- a look

  look_begins : (later : Option (List ℕ × Ask) → Type 0) (c : Closing) (at : ℕ) (w : Knowledge) (own : List Step) (next : TickStage) → EndedSome own → HasClosing w c → BeginsToEnd later c next →
      Ticking hub later next w (own ++ Called Call.expire at (Some (Reply.expired c)) ∷ [])
  look_begins later c at w own (stages.Asking d) some has b =
      subst (λ (e : Closing). Ticking hub later (stages.Asking e) w (own ++ Called Call.expire at (Some (Reply.expired c)) ∷ [])) (sym b.0) (
        record {
          at = some.at;
          reply = some.reply;
          done = some.done;
          ended = some.ended;
          when = at;
          own_are = swept_more some.at some.reply own some.done (Called Call.expire at (Some (Reply.expired c))) some.own_are;
        },
        b.1,
        has,
        b.2,
      )
  look_begins later c at w own (stages.Freeing d sent) some has b =
      subst (λ (e : Closing). Ticking hub later (stages.Freeing e sent) w (own ++ Called Call.expire at (Some (Reply.expired c)) ∷ [])) (sym b.0)
      (subst (λ (z : Bool). Ticking hub later (stages.Freeing c z) w (own ++ Called Call.expire at (Some (Reply.expired c)) ∷ [])) (sym b.1) (
        [],
        record {
          at = some.at;
          reply = some.reply;
          done = some.done;
          ended = some.ended;
          when = at;
          own_are = swept_more some.at some.reply own some.done (Called Call.expire at (Some (Reply.expired c))) some.own_are;
        },
        not_asked b.2,
        has,
        b.3,
      ))
  look_begins later c at w own stages.Between some has b = absurd b
  look_begins later c at w own stages.Looking some has b = absurd b
  look_begins later c at w own stages.Pausing some has b = absurd b
  look_begins later c at w own (stages.Over s) some has b = absurd b

  pub look_ends : (later : Option (List ℕ × Ask) → Type 0) (v w : Knowledge) (n n' : N) (at : ℕ) (m m' : C) (time time' : ClockView) (c : Closing) (next : TickStage) →
      SharedServes (config_of hub) v Call.expire at (Some (Reply.expired c)) w → Ticks tells m at m' time time' → BeginsToEnd later c next → n' ≡ n →
      Goes hub gives tells TickerTurn (Ticking hub asks stages.Looking) (Ticking hub later next) (TickSays acts.GoesOn moment now stages.Looking next)
      (world_of v n m time) (world_of w n' m' time')
  look_ends later v w n n' at m m' time time' c next serves ticks begins same = λ own ticking. record {
    more = Called Call.expire at (Some (Reply.expired c)) ∷ [];
    went = subst (λ (k : N). Went hub gives tells (world_of v n m time) (Called Call.expire at (Some (Reply.expired c)) ∷ []) (world_of w k m' time')) (sym same)
        (went_call hub gives tells v w n Call.expire at (Some (Reply.expired c)) m m' time time' (inl serves) ticks);
    reaches = inl (look_begins later c at w own next ticking.0 serves.gives begins);
    did = tt;
  }

  pub look_over : (v w : Knowledge) (n : N) (at : ℕ) (m m' : C) (time time' : ClockView) → SharedServes (config_of hub) v Call.expire at (Some Reply.nothing) w → Ticks tells m at m' time time' →
      Goes hub gives tells TickerTurn (Ticking hub asks stages.Looking) (Ticking hub asks stages.Pausing) (TickSays acts.GoesOn moment now stages.Looking stages.Pausing)
      (world_of v n m time) (world_of w n m' time')
  look_over v w n at m m' time time' serves ticks = λ own ticking.
      let some = ticking.0 in
      record {
        more = Called Call.expire at (Some Reply.nothing) ∷ [];
        went = went_call hub gives tells v w n Call.expire at (Some Reply.nothing) m m' time time' (inl serves) ticks;
        reaches = inl (
          record {
            at = some.at;
            reply = some.reply;
            looks = some.done ++ Called Call.expire at (Some Reply.nothing) ∷ [];
            looked = record { done = some.done; own = Called Call.expire at (Some Reply.nothing) ∷ []; ended = some.ended; last = (at, refl); steps_are = refl };
            own_are = swept_more some.at some.reply own some.done (Called Call.expire at (Some Reply.nothing)) some.own_are;
          },
          ticking.1,
        );
        did = tt;
      }

  look_no_room : (v w : Knowledge) (n : N) (at : ℕ) (m m' : C) (time time' : ClockView) → LooksOnce v w → Ticks tells m at m' time time' →
      Goes hub gives tells TickerTurn (Ticking hub asks stages.Looking) (Ticking hub asks stages.Between) (TickSays acts.GoesOn moment now stages.Looking stages.Between)
      (world_of v n m time) (world_of w n m' time')
  look_no_room v w n at m m' time time' looks ticks = λ own ticking.
      let some = ticking.0 in
      record {
        more = Called Call.expire at None ∷ [];
        went = went_call hub gives tells v w n Call.expire at None m m' time time' (inr (refl, looks)) ticks;
        reaches = inr (
          subst TickerTurn (sym (swept_more some.at some.reply own some.done (Called Call.expire at None) some.own_are))
              (swept some.at some.reply (looks_lack (record { done = some.done; own = Called Call.expire at None ∷ []; ended = some.ended; last = inl (at, refl); steps_are = refl }))),
          (refl, ticking.1),
        );
        did = tt;
      }

  look_stops : (v w : Knowledge) (n : N) (at : ℕ) (m m' : C) (time time' : ClockView) (s : spent.Spent) → IsSpent hub v s w → Ticks tells m at m' time time' →
      Goes hub gives tells TickerTurn (Ticking hub asks stages.Looking) (Ticking hub asks (stages.Over s)) (TickSays (acts.Over s) moment now stages.Looking (stages.Over s))
      (world_of v n m time) (world_of w n m' time')
  look_stops v w n at m m' time time' s is ticks = λ own ticking.
      let some = ticking.0 in
      record {
        more = Spent Call.expire at ∷ [];
        went = went_spent hub gives tells v w n Call.expire at s m m' time time' is ticks;
        reaches = inl (
          subst TickerSpent (sym (swept_more some.at some.reply own some.done (Spent Call.expire at) some.own_are))
              (later_spent some.at some.reply (look_spent s (record { done = some.done; own = Spent Call.expire at ∷ []; ended = some.ended; last = expire_spent at; steps_are = refl }))),
          is.0,
        );
        did = refl;
      }

  pub look_fails : (v w : Knowledge) (n : N) (at : ℕ) (m m' : C) (time time' : ClockView) (f : CellFault) (result : TickStage × WorkAct) → Unanswered f result → IsFault hub v w f → Ticks tells m at m' time time' →
      Goes hub gives tells TickerTurn (Ticking hub asks stages.Looking) (Ticking hub asks result.0) (TickSays result.1 moment now stages.Looking result.0)
      (world_of v n m time) (world_of w n m' time')
  look_fails v w n at m m' time time' fault.Memory result e is ticks =
      subst (λ (x : TickStage × WorkAct). Goes hub gives tells TickerTurn (Ticking hub asks stages.Looking) (Ticking hub asks x.0) (TickSays x.1 moment now stages.Looking x.0) (world_of v n m time) (world_of w n m' time'))
      (sym e) (look_no_room v w n at m m' time time' is ticks)
  look_fails v w n at m m' time time' (fault.Spent s) result e is ticks =
      subst (λ (x : TickStage × WorkAct). Goes hub gives tells TickerTurn (Ticking hub asks stages.Looking) (Ticking hub asks x.0) (TickSays x.1 moment now stages.Looking x.0) (world_of v n m time) (world_of w n m' time'))
      (sym e) (look_stops v w n at m m' time time' s is ticks)

  -- ---- its node

  pub end_heard : (later : Option (List ℕ × Ask) → Type 0) (c : Closing) (came : Came) (sent : Bool) (faults : N → ℕ) (v : Knowledge) (n n' : N) (m : C) (time : ClockView) →
      sent ≡ not (lacked came) → ((address : List ℕ) (ask : Ask) → asks (Some (address, ask)) → CameSo gives faults n address ask came n') → later None →
      Goes hub gives tells TickerTurn (Ticking hub asks (stages.Asking c)) (Ticking hub later (stages.Freeing c sent)) (TickSays acts.GoesOn moment now (stages.Asking c) (stages.Freeing c sent))
      (world_of v n m time) (world_of v n' m time)
  end_heard later c came sent faults v n n' m time is so idle = λ own ticking.
      let one = ticking.0 in
      record {
        more = Exchanged c.address (quit_ask c.session) came ∷ [];
        went = went_exchange hub gives tells v n n' c.address (quit_ask c.session) came m time (so c.address (quit_ask c.session) ticking.3).gave;
        reaches = inl (
          Exchanged c.address (quit_ask c.session) came ∷ [],
          record {
            at = one.at;
            reply = one.reply;
            done = one.done;
            ended = one.ended;
            when = one.when;
            own_are = ended_more one.at one.reply own one.done [] one.when c (Exchanged c.address (quit_ask c.session) came) one.own_are;
          },
          subst (λ (b : Bool). AsksToEnd c b (Exchanged c.address (quit_ask c.session) came ∷ [])) (sym is) (asked came ticking.1),
          ticking.2,
          idle,
        );
        did = tt;
      }

  pub end_awaited : (later : Option (List ℕ × Ask) → Type 0) (c : Closing) (v : Knowledge) (n n' : N) (m : C) (time : ClockView) →
      ((under : Option (List ℕ × Ask)) → asks under → later under) → n' ≡ n →
      Goes hub gives tells TickerTurn (Ticking hub asks (stages.Asking c)) (Ticking hub later (stages.Asking c)) (TickSays acts.AwaitsNode moment now (stages.Asking c) (stages.Asking c))
      (world_of v n m time) (world_of v n' m time)
  end_awaited later c v n n' m time keeps same = λ own ticking. record {
    more = [];
    went = same_nodes hub gives tells v n n' m time same;
    reaches = inl (same_end c [] own (own ++ []) (sym (append-nil own)) ticking.0, ticking.1, ticking.2, keeps (Some (c.address, quit_ask c.session)) ticking.3);
    did = (tt, refl, refl);
  }

  -- ---- its slot

  pub end_freed : (c : Closing) (v w : Knowledge) (n : N) (at : ℕ) (m m' : C) (time time' : ClockView) (sent : Bool) → sent ≡ true →
      SharedServes (config_of hub) v (Call.freed c) at (Some Reply.is_freed) w → Ticks tells m at m' time time' →
      Goes hub gives tells TickerTurn (Ticking hub asks (stages.Freeing c sent)) (Ticking hub asks stages.Looking) (TickSays acts.GoesOn moment now (stages.Freeing c sent) stages.Looking)
      (world_of v n m time) (world_of w n m' time')
  end_freed c v w n at m m' time time' sent was serves ticks = λ own ticking.
      let one = ticking.1 in
      let asks_so = subst (λ (b : Bool). AsksToEnd c b ticking.0) was ticking.2 in
      record {
        more = Called (Call.freed c) at (Some Reply.is_freed) ∷ [];
        went = went_call hub gives tells v w n (Call.freed c) at (Some Reply.is_freed) m m' time time' (inl serves) ticks;
        reaches = inl (
          record {
            at = one.at;
            reply = one.reply;
            done = one.done ++ Called Call.expire one.when (Some (Reply.expired c)) ∷ (ticking.0 ++ Called (Call.freed c) at (Some Reply.is_freed) ∷ []);
            ended = one_more one.ended (ends_idle one.when c (record { own = ticking.0; at = at; asks = asks_so; steps_are = refl }));
            own_are = ended_more one.at one.reply own one.done ticking.0 one.when c (Called (Call.freed c) at (Some Reply.is_freed)) one.own_are;
          },
          ticking.4,
        );
        did = tt;
      }

  pub end_lacks : (c : Closing) (v w : Knowledge) (n : N) (at : ℕ) (m m' : C) (time time' : ClockView) (sent : Bool) → sent ≡ false →
      SharedServes (config_of hub) v (Call.freed c) at (Some Reply.is_freed) w → Ticks tells m at m' time time' →
      Goes hub gives tells TickerTurn (Ticking hub asks (stages.Freeing c sent)) (Ticking hub asks stages.Between) (TickSays acts.GoesOn moment now (stages.Freeing c sent) stages.Between)
      (world_of v n m time) (world_of w n m' time')
  end_lacks c v w n at m m' time time' sent was serves ticks = λ own ticking.
      let one = ticking.1 in
      let asks_so = subst (λ (b : Bool). AsksToEnd c b ticking.0) was ticking.2 in
      let last = Called Call.expire one.when (Some (Reply.expired c)) ∷ (ticking.0 ++ Called (Call.freed c) at (Some Reply.is_freed) ∷ []) in
      record {
        more = Called (Call.freed c) at (Some Reply.is_freed) ∷ [];
        went = went_call hub gives tells v w n (Call.freed c) at (Some Reply.is_freed) m m' time time' (inl serves) ticks;
        reaches = inr (
          subst TickerTurn (sym (ended_more one.at one.reply own one.done ticking.0 one.when c (Called (Call.freed c) at (Some Reply.is_freed)) one.own_are))
              (swept one.at one.reply (looks_lack (record {
                done = one.done;
                own = last;
                ended = one.ended;
                last = inr (ends_idle one.when c (record { own = ticking.0; at = at; asks = asks_so; steps_are = refl }));
                steps_are = refl;
              }))),
          (refl, ticking.4),
        );
        did = tt;
      }

  pub end_stops : (c : Closing) (v w : Knowledge) (n : N) (at : ℕ) (m m' : C) (time time' : ClockView) (sent : Bool) (s : spent.Spent) → IsSpent hub v s w → Ticks tells m at m' time time' →
      Goes hub gives tells TickerTurn (Ticking hub asks (stages.Freeing c sent)) (Ticking hub asks (stages.Over s)) (TickSays (acts.Over s) moment now (stages.Freeing c sent) (stages.Over s))
      (world_of v n m time) (world_of w n m' time')
  end_stops c v w n at m m' time time' sent s is ticks = λ own ticking.
      let one = ticking.1 in
      let last = Called Call.expire one.when (Some (Reply.expired c)) ∷ (ticking.0 ++ Spent (Call.freed c) at ∷ []) in
      record {
        more = Spent (Call.freed c) at ∷ [];
        went = went_spent hub gives tells v w n (Call.freed c) at s m m' time time' is ticks;
        reaches = inl (
          subst TickerSpent (sym (ended_more one.at one.reply own one.done ticking.0 one.when c (Spent (Call.freed c) at) one.own_are))
              (later_spent one.at one.reply (look_spent s (record {
                done = one.done;
                own = last;
                ended = one.ended;
                last = freed_spent one.when c (record { sent = sent; own = ticking.0; at = at; asks = ticking.2; steps_are = refl });
                steps_are = refl;
              }))),
          is.0,
        );
        did = refl;
      }

  -- ---- a pause

  pub tick_paused : (v : Knowledge) (n : N) (m m' : C) (time time' : ClockView) → PausesFor tells ticker_pause m m' time time' →
      Goes hub gives tells TickerTurn (Ticking hub asks stages.Pausing) (Ticking hub asks stages.Between) (TickSays acts.GoesOn moment now stages.Pausing stages.Between)
      (world_of v n m time) (world_of v n m' time')
  tick_paused v n m m' time time' paused = λ own ticking.
      let all = ticking.0 in
      record {
        more = Paused ticker_pause ∷ [];
        went = went_pause hub gives tells v n ticker_pause m m' time time' paused;
        reaches = inr (
          subst TickerTurn (sym (swept_more all.at all.reply own all.looks (Paused ticker_pause) all.own_are)) (swept all.at all.reply (ends_with_pause all.looked)),
          (refl, ticking.1),
        );
        did = tt;
      }

  pub tick_pauses : (due : ℕ) (old new : World N C) → new ≡ old → due ≡ later_by moment ticker_pause → now < due →
      Goes hub gives tells TickerTurn (Ticking hub asks stages.Pausing) (Ticking hub asks stages.Pausing) (TickSays (acts.Until due) moment now stages.Pausing stages.Pausing) old new
  tick_pauses due old new same is below = λ own ticking. record {
    more = [];
    went = subst (λ (x : World N C). Went hub gives tells old [] x) (sym same) (went_none hub gives tells old);
    reaches = inl (subst EndedAll (sym (append-nil own)) ticking.0, ticking.1);
    did = (refl, refl, refl, is, below);
  }

  pub over_again : (s : spent.Spent) (world : World N C) →
      Goes hub gives tells TickerTurn (Ticking hub asks (stages.Over s)) (Ticking hub asks (stages.Over s)) (TickSays (acts.Over s) moment now (stages.Over s) (stages.Over s)) world world
  over_again s world = λ own ticking. record {
    more = [];
    went = went_none hub gives tells world;
    reaches = inl (subst TickerSpent (sym (append-nil own)) ticking.0, ticking.1);
    did = refl;
  }
