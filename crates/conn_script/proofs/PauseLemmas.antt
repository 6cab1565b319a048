-- A script pauses only where a call was told to wait.
use Rattle.std.proofs.Common.{◌≡◌, ℕ, Bool, true, false, ◌&&◌, List, [], ◌∷◌, ◌++◌, refl, ap}
use Rattle.std.specs.Prelude.{Option, Some, Result, Ok, Err}
use Rattle.http_frames.specs.Frames.{Request}
use Rattle.grid_types.specs.declared.capabilities.Cap.{Cap}
use Rattle.grid_types.specs.Calls.{Call, Reply}
use Rattle.grid_types.specs.Tokens.{Ticket, Reservation, Closing}
use Rattle.grid_outside.specs.declared.exchange.Ask.{Ask}
use Rattle.hub_core.specs.declared.answers.Failing.TheVariants as failing
use Rattle.hub_core.specs.Replies.{failing_reply}
use Rattle.router_core.specs.declared.routed.RouteFault.{RouteFault}
use Rattle.router_core.specs.declared.routed.RouteFault.TheVariants as fault
use Rattle.router_core.specs.Routes as routes
use Rattle.router_core.specs.Routes.{Route}
use Rattle.node_client.specs.Held.{Token, of_reservation}
use Rattle.node_client.specs.Steps.{Step, Called, Spent, Exchanged, Paused}
use Rattle.node_client.specs.Places.{Place, at_start, at_bind, at_return, at_fail, at_quit, at_free, at_end, Leads, wanted_at, to_call}
use Rattle.node_client.specs.Spending as spending
use Rattle.node_client.specs.Spending.{Spends, StartsSpendAll}
use Rattle.node_client.specs.Start as starting
use Rattle.node_client.specs.Start.{Start}
use Rattle.conn_script.specs.Responses.{Response}
use Rattle.conn_script.specs.OneCall as one
use Rattle.conn_script.specs.OneCall.{OneCall, NodeCall, Beats, Registers}
use Rattle.conn_script.specs.DeleteSession as deleting
use Rattle.conn_script.specs.DeleteSession.{AfterQuit, AfterEnd, AfterLookup, AsksWhere, DeleteSession, FreesLast}
use Rattle.conn_script.specs.Relay as relaying
use Rattle.conn_script.specs.Relay.{AfterTouch, AfterFound, FindsNode, Relay}
use Rattle.conn_script.specs.NewSession as creating
use Rattle.conn_script.specs.NewSession.{SpentStart, Withdraws, Rounds, Asks, NewSession}
use Rattle.conn_script.specs.Ends as ending
use Rattle.conn_script.specs.Ends.{EndsAtNode, EndsCreated}
use Rattle.conn_script.specs.Script.{ByRoute, Script, route}
use Rattle.conn_script.specs.Pauses.{ends_early_behind, is_early_call, PausesBehindEarlyCalls}

never : false ≡ true → ⊥
never e = cc

and_first : (a b : Bool) → (a && b) ≡ true → a ≡ true
and_first true b e = refl
and_first false b e = e

and_second : (a b : Bool) → (a && b) ≡ true → b ≡ true
and_second true b e = e
and_second false b e = absurd (never e)

-- ---- each pause is behind such a call; the first step may be behind one too

abbrev rightly : Bool → List Step → Bool
rightly early [] = true
rightly early (Called call at reply ∷ steps) = rightly (is_early_call (Called call at reply)) steps
rightly early (Spent call at ∷ steps) = rightly false steps
rightly early (Exchanged address ask came ∷ steps) = rightly false steps
rightly early (Paused ms ∷ steps) = early && rightly false steps

-- up to a pause
up_to : (early : Bool) (steps more : List Step) (ms : ℕ) → rightly early (steps ++ Paused ms ∷ more) ≡ true → ends_early_behind early steps ≡ true
up_to early [] more ms h = and_first early (rightly false more) h
up_to early (Called call at reply ∷ steps) more ms h = up_to (is_early_call (Called call at reply)) steps more ms h
up_to early (Spent call at ∷ steps) more ms h = up_to false steps more ms h
up_to early (Exchanged address ask came ∷ steps) more ms h = up_to false steps more ms h
up_to early (Paused m ∷ steps) more ms h = up_to false steps more ms (and_second early (rightly false (steps ++ Paused ms ∷ more)) h)

-- ---- steps without a pause

abbrev unpaused : List Step → Bool
unpaused [] = true
unpaused (Called call at reply ∷ steps) = unpaused steps
unpaused (Spent call at ∷ steps) = unpaused steps
unpaused (Exchanged address ask came ∷ steps) = unpaused steps
unpaused (Paused ms ∷ steps) = false

more_rightly : (early : Bool) (steps : List Step) → rightly false steps ≡ true → rightly early steps ≡ true
more_rightly early [] h = refl
more_rightly early (Called call at reply ∷ steps) h = h
more_rightly early (Spent call at ∷ steps) h = h
more_rightly early (Exchanged address ask came ∷ steps) h = h
more_rightly early (Paused ms ∷ steps) h = absurd (never h)

behind : (early : Bool) (own steps : List Step) → unpaused own ≡ true → rightly false steps ≡ true → rightly early (own ++ steps) ≡ true
behind early [] steps none h = more_rightly early steps h
behind early (Called call at reply ∷ own) steps none h = behind (is_early_call (Called call at reply)) own steps none h
behind early (Spent call at ∷ own) steps none h = behind false own steps none h
behind early (Exchanged address ask came ∷ own) steps none h = behind false own steps none h
behind early (Paused ms ∷ own) steps none h = absurd (never none)

calm : (early : Bool) (own : List Step) → unpaused own ≡ true → rightly early own ≡ true
calm early [] none = refl
calm early (Called call at reply ∷ own) none = calm (is_early_call (Called call at reply)) own none
calm early (Spent call at ∷ own) none = calm false own none
calm early (Exchanged address ask came ∷ own) none = calm false own none
calm early (Paused ms ∷ own) none = absurd (never none)

joined : (own more : List Step) → unpaused own ≡ true → unpaused more ≡ true → unpaused (own ++ more) ≡ true
joined [] more a b = b
joined (Called call at reply ∷ own) more a b = joined own more a b
joined (Spent call at ∷ own) more a b = joined own more a b
joined (Exchanged address ask came ∷ own) more a b = joined own more a b
joined (Paused ms ∷ own) more a b = absurd (never a)

front : (own more : List Step) → unpaused (own ++ more) ≡ true → unpaused own ≡ true
front [] more h = refl
front (Called call at reply ∷ own) more h = front own more h
front (Spent call at ∷ own) more h = front own more h
front (Exchanged address ask came ∷ own) more h = front own more h
front (Paused ms ∷ own) more h = absurd (never h)

one_call : (call : Call) (respond : Reply → Option Response) (steps : List Step) (response : Response) → OneCall call respond steps response → unpaused steps ≡ true
one_call call respond _ _ (one.answered at reply response e) = refl
one_call call respond _ _ (one.call_spent at) = refl

node_call : (call : ℕ → Call) (id : List ℕ) (steps : List Step) (response : Response) → NodeCall call id steps response → unpaused steps ≡ true
node_call call id _ _ (one.no_number n) = refl
node_call call id _ _ (one.asks_node {steps} {response} n names o) = one_call (call n) _ steps response o

beats : (id body : List ℕ) (steps : List Step) (response : Response) → Beats id body steps response → unpaused steps ≡ true
beats id body _ _ (one.no_path none) = refl
beats id body _ _ (one.no_beat node f names gives) = refl
beats id body _ _ (one.beats_node {steps} {response} node name names gives o) = one_call (Call.beat node name) _ steps response o

registers : (body : List ℕ) (steps : List Step) (response : Response) → Registers body steps response → unpaused steps ≡ true
registers body _ _ (one.no_registration f gives) = refl
registers body _ _ (one.asks_hub {steps} {response} node gives o) = one_call (Call.register node) _ steps response o

after_quit : (c : Closing) (o : Option Response) (steps : List Step) (response : Response) → AfterQuit c o steps response → unpaused steps ≡ true
after_quit c _ _ _ (deleting.freed response at) = refl
after_quit c _ _ _ (deleting.freed_spent response at) = refl

after_end : (path : List ℕ) (c : Closing) (steps : List Step) (response : Response) → AfterEnd path c steps response → unpaused steps ≡ true
after_end path c _ _ (deleting.asked came steps response a) = after_quit c _ steps response a

after_lookup : (id : List ℕ) (binding : ℕ) (steps : List Step) (response : Response) → AfterLookup id binding steps response → unpaused steps ≡ true
after_lookup id binding _ _ (deleting.ended at c steps response a) = after_end _ c steps response a
after_lookup id binding _ _ (deleting.not_ended at) = refl
after_lookup id binding _ _ (deleting.end_spent at) = refl

asks_where : (id : List ℕ) (steps : List Step) (response : Response) → AsksWhere id steps response → unpaused steps ≡ true
asks_where id _ _ (deleting.found_at at slot address binding steps response a) = after_lookup id binding steps response a
asks_where id _ _ (deleting.not_found at) = refl
asks_where id _ _ (deleting.lookup_spent at) = refl

deletes : (id : List ℕ) (steps : List Step) (response : Response) → DeleteSession id steps response → unpaused steps ≡ true
deletes id _ _ (deleting.no_name n) = refl
deletes id _ _ (deleting.named steps response n a) = asks_where id steps response a

frees_last : (c : Closing) (steps : List Step) → FreesLast c steps → unpaused steps ≡ true
frees_last c _ (deleting.frees at) = refl
frees_last c _ (deleting.finds_spent at) = refl

at_node : (path : List ℕ) (c : Closing) (steps : List Step) → EndsAtNode path c steps → unpaused steps ≡ true
at_node path c _ (ending.quits {steps} what f) = frees_last c steps f

ends_created : (id : List ℕ) (binding : ℕ) (steps : List Step) → EndsCreated id binding steps → unpaused steps ≡ true
ends_created id binding _ (ending.ends {steps} at c e) = at_node _ c steps e
ends_created id binding _ (ending.is_gone at) = refl
ends_created id binding _ (ending.stays at) = refl
ends_created id binding _ (ending.end_spent at) = refl

withdraws : (early : Bool) (t : Ticket) (steps : List Step) → Withdraws t steps → rightly early steps ≡ true
withdraws early _ _ (creating.is_withdrawn {t} at) = refl
withdraws early _ _ (creating.is_held {t} {steps} at u w) = withdraws false u steps w
withdraws early _ _ (creating.was_created {t} {steps} at session caps slot address binding e) = calm false steps (ends_created session binding steps e)
withdraws early _ _ (creating.was_settled {t} at o n) = refl
withdraws early _ _ (creating.withdraw_spent {t} at) = refl

after_touch : (ask : Ask) (address : List ℕ) (steps : List Step) (response : Response) → AfterTouch ask address steps response → unpaused steps ≡ true
after_touch ask address _ _ (relaying.asked came response e) = refl

after_found : (ask : Ask) (id address : List ℕ) (binding : ℕ) (steps : List Step) (response : Response) → AfterFound ask id address binding steps response → unpaused steps ≡ true
after_found ask id address binding _ _ (relaying.touched at steps response a) = after_touch ask address steps response a
after_found ask id address binding _ _ (relaying.not_touched at) = refl
after_found ask id address binding _ _ (relaying.touch_spent at) = refl

finds_node : (ask : Ask) (id : List ℕ) (steps : List Step) (response : Response) → FindsNode ask id steps response → unpaused steps ≡ true
finds_node ask id _ _ (relaying.found_at at slot address binding steps response a) = after_found ask id address binding steps response a
finds_node ask id _ _ (relaying.not_found at) = refl
finds_node ask id _ _ (relaying.lookup_spent at) = refl

relays : (ask : Ask) (id : List ℕ) (steps : List Step) (response : Response) → Relay ask id steps response → unpaused steps ≡ true
relays ask id _ _ (relaying.no_name n) = refl
relays ask id _ _ (relaying.named steps response n a) = finds_node ask id steps response a

-- ---- a start

spends_unpaused : (held : List Token) (steps : List Step) → Spends held steps → unpaused steps ≡ true
spends_unpaused _ _ spending.over = refl
spends_unpaused _ _ (spending.asks {held} {steps} address ask came s) = spends_unpaused held steps s
spends_unpaused _ _ (spending.binds session caps at binding s) = spends_unpaused [] _ s
spends_unpaused _ _ (spending.keeps session caps at s) = spends_unpaused _ _ s
spends_unpaused _ _ (spending.closes session caps at reply c h s) = spends_unpaused _ _ s
spends_unpaused _ _ (spending.gives_up w at reply s) = spends_unpaused [] _ s
spends_unpaused _ _ (spending.frees at reply s) = spends_unpaused [] _ s

module _ (spend : StartsSpendAll) where
  start_unpaused : (r : Reservation) (steps : List Step) → Start r steps → unpaused steps ≡ true
  start_unpaused r steps s = spends_unpaused (of_reservation r ∷ []) steps (spend r steps s)

  -- before a call that is wanted
  front_of_start : (r : Reservation) (place : Place) (call : Call) (steps : List Step) → Leads r place steps → wanted_at r place ≡ to_call call → unpaused steps ≡ true
  front_of_start r (at_bind session caps) call steps leads e =
      let more = Called (Call.bind r session caps) 0 (Some (Reply.bound 0)) ∷ [] in
      front steps more (start_unpaused r (steps ++ more) (leads more (starting.bound 0 0)))
  front_of_start r (at_fail w) call steps leads e =
      let more = Called (Call.fail r w) 0 (failing_reply failing.Again) ∷ [] in
      front steps more (start_unpaused r (steps ++ more) (leads more (starting.failed 0 failing.Again)))
  front_of_start r (at_free c) call steps leads e =
      let more = Called (Call.freed c) 0 (Some Reply.is_freed) ∷ [] in
      front steps more (start_unpaused r (steps ++ more) (leads more (starting.freed 0)))
  front_of_start r at_start call steps leads e = absurd cc
  front_of_start r (at_return session) call steps leads e = absurd cc
  front_of_start r (at_quit c) call steps leads e = absurd cc
  front_of_start r (at_end end) call steps leads e = absurd cc

  start_spent : (r : Reservation) (steps : List Step) → SpentStart r steps → unpaused steps ≡ true
  start_spent r _ (creating.spent_at steps place call at leads e) = joined steps (Spent call at ∷ []) (front_of_start r place call steps leads e) refl

  -- ---- a New Session

  rounds : (t : Ticket) (steps : List Step) (response : Response) → Rounds t steps response → rightly false steps ≡ true
  rounds _ _ _ (creating.not_yet {t} {steps} {response} at u r) = rounds u steps response r
  rounds _ _ _ (creating.poll_lacks {t} {steps} {response} at r) = rounds t steps response r
  rounds _ _ _ (creating.left_waiting {t} {steps} at u w) = withdraws true u steps w
  rounds _ _ _ (creating.left_lacking {t} {steps} at w) = withdraws true t steps w
  rounds _ _ _ (creating.yours {t} {own} {steps} {response} at u r s rest) = behind false own steps (start_unpaused r own s) (rounds u steps response rest)
  rounds _ _ _ (creating.start_spent {t} {own} at u r s) = calm false own (start_spent r own s)
  rounds _ _ _ (creating.settled {t} at o) = refl
  rounds _ _ _ (creating.poll_spent {t} at) = refl

  asks : (choices : List (List Cap)) (steps : List Step) (response : Response) → Asks choices steps response → rightly false steps ≡ true
  asks choices _ _ (creating.queued {steps} {response} at t r) = rounds t steps response r
  asks choices _ _ (creating.not_queued at reply response e) = refl
  asks choices _ _ (creating.enqueue_spent at) = refl

  creates : (body : List ℕ) (steps : List Step) (response : Response) → NewSession body steps response → rightly false steps ≡ true
  creates body _ _ (creating.no_choices f gives) = refl
  creates body _ _ (creating.asks {steps} {response} choices gives a) = asks choices steps response a

  by_route : (r : Result Route RouteFault) (f : Request) (steps : List Step) (response : Response) → ByRoute r f steps response → rightly false steps ≡ true
  by_route (Err fault.UnknownCommand) f steps response x = ap (rightly false) x.0
  by_route (Err fault.UnknownMethod) f steps response x = ap (rightly false) x.0
  by_route (Err fault.Memory) f steps response x = absurd x
  by_route (Ok routes.new_session) f steps response x = creates _ steps response x
  by_route (Ok (routes.delete_session id)) f steps response x = calm false steps (deletes id steps response x)
  by_route (Ok (routes.relay id target)) f steps response x = calm false steps (relays _ id steps response x)
  by_route (Ok routes.status) f steps response x = calm false steps (one_call Call.view _ steps response x)
  by_route (Ok routes.queue) f steps response x = calm false steps (one_call Call.view _ steps response x)
  by_route (Ok routes.clear_queue) f steps response x = calm false steps (one_call Call.clear _ steps response x)
  by_route (Ok routes.register) f steps response x = calm false steps (registers _ steps response x)
  by_route (Ok (routes.remove id)) f steps response x = calm false steps (node_call Call.remove id steps response x)
  by_route (Ok (routes.drain id)) f steps response x = calm false steps (node_call Call.drain id steps response x)
  by_route (Ok (routes.beat id)) f steps response x = calm false steps (beats id _ steps response x)

  pub behind_early_calls : PausesBehindEarlyCalls
  unfolding Script
  behind_early_calls f steps more ms response s = up_to false steps more ms (by_route (route f) f (steps ++ Paused ms ∷ more) response s)
