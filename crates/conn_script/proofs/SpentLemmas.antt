-- Which of the steps of a request found the hub spent.
use Rattle.std.proofs.Common.{◌≡◌, ◌≢◌, ℕ, ◌+◌, Bool, true, false, List, [], ◌∷◌, ◌++◌, refl, sym, ◌∙◌, ap, subst, append_assoc, append-nil, arith}
use Rattle.std.specs.Prelude.{Option, None, Some, Result, Ok, Err}
use Rattle.http_frames.specs.Frames.{Request}
use Rattle.grid_types.specs.declared.capabilities.Cap.{Cap}
use Rattle.grid_types.specs.declared.entry.Outcome.{Outcome}
use Rattle.grid_types.specs.declared.entry.Outcome.TheVariants as outcome
use Rattle.grid_types.specs.Calls.{Call, Reply}
use Rattle.grid_types.specs.Tokens.{Ticket, Reservation, Closing}
use Rattle.grid_outside.specs.Exchanges.{Came}
use Rattle.grid_outside.specs.declared.exchange.Ask.{Ask}
use Rattle.grid_outside.specs.declared.exchange.Reply.TheVariants.{Http, NotHttp}
use Rattle.grid_outside.specs.declared.exchange.ExchangeFault.TheVariants.{Unreachable, Memory}
use Rattle.hub_core.specs.declared.answers.Failing.TheVariants as failing
use Rattle.hub_core.specs.Replies.{failing_reply}
use Rattle.router_core.specs.declared.routed.RouteFault.{RouteFault}
use Rattle.router_core.specs.declared.routed.RouteFault.TheVariants as fault
use Rattle.router_core.specs.Routes as routes
use Rattle.router_core.specs.Routes.{Route}
use Rattle.node_client.specs.Held.{Token, of_reservation}
use Rattle.node_client.specs.Steps.{Step, Called, Spent, Exchanged, Paused, spent_looks}
use Rattle.node_client.specs.Places.{Place, at_start, at_bind, at_return, at_fail, at_quit, at_free, at_end, Leads, wanted_at, to_call}
use Rattle.node_client.specs.Spending as spending
use Rattle.node_client.specs.Spending.{Spends, StartsSpendAll}
use Rattle.node_client.specs.Start as starting
use Rattle.node_client.specs.Start.{Start}
use Rattle.conn_script.specs.Responses as said
use Rattle.conn_script.specs.Responses.{Response, created, passed_on, hub_spent, left, is_last}
use Rattle.conn_script.specs.Messages.{register_response, node_response, clear_response, status_response, queue_response, enqueue_refusal, outcome_response}
use Rattle.conn_script.specs.Begin as begin
use Rattle.conn_script.specs.Begin.{AsksToEnd, Expires, Begins, Begun, ExpireLacks, BeginLacks, BegunLacks}
use Rattle.conn_script.specs.OneCall as one
use Rattle.conn_script.specs.OneCall.{OneCall, CallLacks, NodeCall, Beats, Registers}
use Rattle.conn_script.specs.DeleteSession as deleting
use Rattle.conn_script.specs.DeleteSession.{AfterQuit, AfterEnd, AfterLookup, AsksWhere, DeleteSession, FreesLast, QuitLacks, EndLacks, DeleteLacks, quit_response}
use Rattle.conn_script.specs.Relay as relaying
use Rattle.conn_script.specs.Relay.{AfterTouch, AfterFound, FindsNode, Relay, ExchangeLacks, TouchLacks, RelayLacks, relay_response}
use Rattle.conn_script.specs.NewSession as creating
use Rattle.conn_script.specs.NewSession.{poll_pause, SpentStart, Withdraws, Rounds, Asks, NewSession, AskLacks}
use Rattle.conn_script.specs.Ends as ending
use Rattle.conn_script.specs.Ends.{EndsAtNode, EndsCreated}
use Rattle.conn_script.specs.Undo.{Undoes}
use Rattle.conn_script.specs.Script as script
use Rattle.conn_script.specs.Script.{ByRoute, StepLacks, Script, Lacks, route}
use Rattle.conn_script.specs.SpentLooks.{SpentLast, FindsSpent, FindsSpentOrNot}

-- ---- steps one after the other

pub looks_append : (steps more : List Step) → spent_looks (steps ++ more) ≡ spent_looks steps + spent_looks more
looks_append [] more = omega arith
looks_append (Called call at reply ∷ steps) more = looks_append steps more
looks_append (Spent call at ∷ steps) more = omega (arith, looks_append steps more)
looks_append (Exchanged address ask came ∷ steps) more = looks_append steps more
looks_append (Paused ms ∷ steps) more = looks_append steps more

last_one : (before : List Step) (call : Call) (at : ℕ) → spent_looks before ≡ 0 → SpentLast (before ++ Spent call at ∷ [])
last_one before call at none = record {
  before = before;
  call = call;
  at = at;
  steps_are = refl;
  none_before = none;
  count = omega (arith, looks_append before (Spent call at ∷ []), none);
}

pub behind : (spent : Bool) (steps more : List Step) → spent_looks steps ≡ 0 → FindsSpent spent more → FindsSpent spent (steps ++ more)
behind false steps more none f = omega (arith, looks_append steps more, none, f)
behind true steps more none f = record {
  before = steps ++ f.before;
  call = f.call;
  at = f.at;
  steps_are = ap (λ (s : List Step). steps ++ s) f.steps_are ∙ sym (append_assoc steps f.before (Spent f.call f.at ∷ []));
  none_before = omega (arith, looks_append steps f.before, none, f.none_before);
  count = omega (arith, looks_append steps more, none, f.count);
}

or_behind : (steps more : List Step) → spent_looks steps ≡ 0 → FindsSpentOrNot more → FindsSpentOrNot (steps ++ more)
or_behind steps more none f = (f.0, behind f.0 steps more none f.1)

finds : (a b : Bool) (steps : List Step) → a ≡ b → FindsSpent b steps → FindsSpent a steps
finds a b steps e f = subst (λ (z : Bool). FindsSpent z steps) (sym e) f

-- ---- a start

spends_none : (held : List Token) (steps : List Step) → Spends held steps → spent_looks steps ≡ 0
spends_none _ _ spending.over = refl
spends_none _ _ (spending.asks {held} {steps} address ask came s) = spends_none held steps s
spends_none _ _ (spending.binds session caps at binding s) = spends_none [] _ s
spends_none _ _ (spending.keeps session caps at s) = spends_none _ _ s
spends_none _ _ (spending.closes session caps at reply c h s) = spends_none _ _ s
spends_none _ _ (spending.gives_up w at reply s) = spends_none [] _ s
spends_none _ _ (spending.frees at reply s) = spends_none [] _ s

front_none : (steps more : List Step) → spent_looks (steps ++ more) ≡ 0 → spent_looks steps ≡ 0
front_none steps more e = omega (arith, looks_append steps more, e)

-- ---- responses that are not the last

outcome_goes_on : (request : ℕ) (o : Outcome) → is_last (outcome_response request o) ≡ false
outcome_goes_on request (outcome.Created session caps slot address binding) = refl
outcome_goes_on request (outcome.TimedOut deadline) = refl
outcome_goes_on request (outcome.StartFailed why) = refl
outcome_goes_on request outcome.Cleared = refl

-- whatever it responds, it is not the last response
abbrev GoesOn : (Reply → Option Response) → Type 0
GoesOn respond = (reply : Reply) (response : Response) → respond reply ≡ Some response → is_last response ≡ false

own_goes_on : (status : ℕ) (body : List ℕ) (response : Response) → Some (said.own status body) ≡ Some response → is_last response ≡ false
own_goes_on status body response e = let is : said.own status body ≡ response = cc in ap is_last (sym is)

refusal_goes_on : GoesOn enqueue_refusal
refusal_goes_on Reply.numbers_spent response e = own_goes_on _ _ response e
refusal_goes_on Reply.unsupported response e = own_goes_on _ _ response e
refusal_goes_on (Reply.queue_full count bytes) response e = own_goes_on _ _ response e
refusal_goes_on reply response e = absurd cc

register_goes_on : GoesOn register_response
register_goes_on (Reply.registered n) response e = own_goes_on _ _ response e
register_goes_on (Reply.name_taken n) response e = own_goes_on _ _ response e
register_goes_on (Reply.nodes_full listed) response e = own_goes_on _ _ response e
register_goes_on Reply.numbers_spent response e = own_goes_on _ _ response e
register_goes_on reply response e = absurd cc

node_goes_on : GoesOn node_response
node_goes_on Reply.beaten response e = own_goes_on _ _ response e
node_goes_on Reply.draining response e = own_goes_on _ _ response e
node_goes_on Reply.removed response e = own_goes_on _ _ response e
node_goes_on Reply.no_node response e = own_goes_on _ _ response e
node_goes_on reply response e = absurd cc

clear_goes_on : GoesOn clear_response
clear_goes_on (Reply.cleared count) response e = own_goes_on _ _ response e
clear_goes_on reply response e = absurd cc

status_goes_on : GoesOn status_response
status_goes_on (Reply.viewed v) response e = own_goes_on _ _ response e
status_goes_on reply response e = absurd cc

queue_goes_on : GoesOn queue_response
queue_goes_on (Reply.viewed v) response e = own_goes_on _ _ response e
queue_goes_on reply response e = absurd cc

relay_goes_on : (came : Came) (response : Response) → relay_response came ≡ Some response → is_last response ≡ false
relay_goes_on (Ok (Http reply)) response e = let is : passed_on reply ≡ response = cc in ap is_last (sym is)
relay_goes_on (Ok (NotHttp bytes)) response e = own_goes_on _ _ response e
relay_goes_on (Err Unreachable) response e = own_goes_on _ _ response e
relay_goes_on (Err Memory) response e = absurd cc

quit_goes_on : (came : Came) (response : Response) → quit_response came ≡ Some response → is_last response ≡ false
quit_goes_on (Ok (Http reply)) response e = own_goes_on _ _ response e
quit_goes_on (Ok (NotHttp bytes)) response e = own_goes_on _ _ response e
quit_goes_on (Err Unreachable) response e = own_goes_on _ _ response e
quit_goes_on (Err Memory) response e = absurd cc

-- ---- one call

one_call : (call : Call) (respond : Reply → Option Response) → GoesOn respond → (steps : List Step) (response : Response) → OneCall call respond steps response →
    FindsSpent (is_last response) steps
one_call call respond on _ _ (one.answered at reply response e) = finds (is_last response) false _ (on reply response e) refl
one_call call respond on _ _ (one.call_spent at) = last_one [] call at refl

call_lacks : (call : Call) (steps : List Step) → CallLacks call steps → spent_looks steps ≡ 0
call_lacks call _ (one.call_lacks at) = refl

node_call : (call : ℕ → Call) (id : List ℕ) (steps : List Step) (response : Response) → NodeCall call id steps response → FindsSpent (is_last response) steps
node_call call id _ _ (one.no_number n) = refl
node_call call id _ _ (one.asks_node {steps} {response} n names o) = one_call (call n) node_response node_goes_on steps response o

beats : (id body : List ℕ) (steps : List Step) (response : Response) → Beats id body steps response → FindsSpent (is_last response) steps
beats id body _ _ (one.no_path none) = refl
beats id body _ _ (one.no_beat node f names gives) = refl
beats id body _ _ (one.beats_node {steps} {response} node name names gives o) = one_call (Call.beat node name) node_response node_goes_on steps response o

registers : (body : List ℕ) (steps : List Step) (response : Response) → Registers body steps response → FindsSpent (is_last response) steps
registers body _ _ (one.no_registration f gives) = refl
registers body _ _ (one.asks_hub {steps} {response} node gives o) = one_call (Call.register node) register_response register_goes_on steps response o

-- ---- the end of a session

after_quit : (c : Closing) (o : Option Response) (steps : List Step) (response : Response) →
    ((r : Response) → o ≡ Some r → is_last r ≡ false) → AfterQuit c o steps response → FindsSpent (is_last response) steps
after_quit c _ _ _ on (deleting.freed response at) = finds (is_last response) false _ (on response refl) refl
after_quit c _ _ _ on (deleting.freed_spent response at) = last_one [] (Call.freed c) at refl

after_end : (path : List ℕ) (c : Closing) (steps : List Step) (response : Response) → AfterEnd path c steps response → FindsSpent (is_last response) steps
after_end path c _ _ (deleting.asked came steps response a) =
    behind (is_last response) (Exchanged c.address _ came ∷ []) steps refl (after_quit c (quit_response came) steps response (quit_goes_on came) a)

after_lookup : (id : List ℕ) (binding : ℕ) (steps : List Step) (response : Response) → AfterLookup id binding steps response → FindsSpent (is_last response) steps
after_lookup id binding _ _ (deleting.ended at c steps response a) =
    behind (is_last response) (Called (Call.end id binding) at (Some (Reply.ended c)) ∷ []) steps refl (after_end _ c steps response a)
after_lookup id binding _ _ (deleting.not_ended at) = refl
after_lookup id binding _ _ (deleting.end_spent at) = last_one [] (Call.end id binding) at refl

asks_where : (id : List ℕ) (steps : List Step) (response : Response) → AsksWhere id steps response → FindsSpent (is_last response) steps
asks_where id _ _ (deleting.found_at at slot address binding steps response a) =
    behind (is_last response) (Called (Call.lookup id) at _ ∷ []) steps refl (after_lookup id binding steps response a)
asks_where id _ _ (deleting.not_found at) = refl
asks_where id _ _ (deleting.lookup_spent at) = last_one [] (Call.lookup id) at refl

deletes : (id : List ℕ) (steps : List Step) (response : Response) → DeleteSession id steps response → FindsSpent (is_last response) steps
deletes id _ _ (deleting.no_name n) = refl
deletes id _ _ (deleting.named steps response n a) = asks_where id steps response a

frees_last : (c : Closing) (steps : List Step) → FreesLast c steps → FindsSpentOrNot steps
frees_last c _ (deleting.frees at) = (false, refl)
frees_last c _ (deleting.finds_spent at) = (true, last_one [] (Call.freed c) at refl)

quit_lacks : (path : List ℕ) (c : Closing) (steps : List Step) → QuitLacks path c steps → FindsSpentOrNot steps
quit_lacks path c _ (deleting.not_sent steps f) = or_behind (Exchanged c.address _ _ ∷ []) steps refl (frees_last c steps f)

end_lacks : (id : List ℕ) (binding : ℕ) (steps : List Step) → EndLacks id binding steps → FindsSpentOrNot steps
end_lacks id binding _ (deleting.end_lacks at) = (false, refl)
end_lacks id binding _ (deleting.behind_end at c steps q) =
    or_behind (Called (Call.end id binding) at (Some (Reply.ended c)) ∷ []) steps refl (quit_lacks _ c steps q)

delete_lacks : (id : List ℕ) (steps : List Step) → DeleteLacks id steps → FindsSpentOrNot steps
delete_lacks id _ (deleting.behind_lookup at slot address binding steps e) =
    or_behind (Called (Call.lookup id) at _ ∷ []) steps refl (end_lacks id binding steps e)

at_node : (path : List ℕ) (c : Closing) (steps : List Step) → EndsAtNode path c steps → FindsSpentOrNot steps
at_node path c _ (ending.quits {steps} what f) = or_behind (Exchanged c.address _ what ∷ []) steps refl (frees_last c steps f)

ends_created : (id : List ℕ) (binding : ℕ) (steps : List Step) → EndsCreated id binding steps → FindsSpentOrNot steps
ends_created id binding _ (ending.ends {steps} at c e) =
    or_behind (Called (Call.end id binding) at (Some (Reply.ended c)) ∷ []) steps refl (at_node _ c steps e)
ends_created id binding _ (ending.is_gone at) = (false, refl)
ends_created id binding _ (ending.stays at) = (false, refl)
ends_created id binding _ (ending.end_spent at) = (true, last_one [] (Call.end id binding) at refl)

nothing_done : (steps : List Step) → steps ≡ [] → FindsSpentOrNot steps
nothing_done steps e = (false, ap spent_looks e)

undoes : (response : Response) (steps : List Step) → Undoes response steps → FindsSpentOrNot steps
undoes (created session caps binding) steps u = ends_created session binding steps u
undoes (said.own status body) steps u = nothing_done steps u
undoes (passed_on reply) steps u = nothing_done steps u
undoes hub_spent steps u = nothing_done steps u
undoes left steps u = absurd u

-- behind a script whose response is the last nothing is undone
pub behind_script : (response : Response) (steps undone : List Step) → FindsSpent (is_last response) steps → Undoes response undone → FindsSpentOrNot (steps ++ undone)
behind_script (created session caps binding) steps undone f u = or_behind steps undone f (undoes (created session caps binding) undone u)
behind_script (said.own status body) steps undone f u = or_behind steps undone f (undoes (said.own status body) undone u)
behind_script (passed_on reply) steps undone f u = or_behind steps undone f (undoes (passed_on reply) undone u)
behind_script left steps undone f u = absurd u
behind_script hub_spent steps undone f u = (true, subst SpentLast (sym (ap (λ (s : List Step). steps ++ s) u ∙ append-nil steps)) f)

-- where something can be undone there is a response
is_there : (response : Response) (undone : List Step) → Undoes response undone → response ≢ left
is_there response undone u e = subst (λ (r : Response). Undoes r undone) e u

-- ---- a withdrawal

withdraws : (t : Ticket) (steps : List Step) → Withdraws t steps → FindsSpentOrNot steps
withdraws _ _ (creating.is_withdrawn {t} at) = (false, refl)
withdraws _ _ (creating.is_held {t} {steps} at u w) =
    or_behind (Called (Call.withdraw t) at (Some (Reply.not_yet u)) ∷ Paused poll_pause ∷ []) steps refl (withdraws u steps w)
withdraws _ _ (creating.was_created {t} {steps} at session caps slot address binding e) =
    or_behind (Called (Call.withdraw t) at (Some (Reply.settled (outcome.Created session caps slot address binding))) ∷ []) steps refl
    (ends_created session binding steps e)
withdraws _ _ (creating.was_settled {t} at o n) = (false, refl)
withdraws _ _ (creating.withdraw_spent {t} at) = (true, last_one [] (Call.withdraw t) at refl)

-- ---- a relay

after_touch : (ask : Ask) (address : List ℕ) (steps : List Step) (response : Response) → AfterTouch ask address steps response → FindsSpent (is_last response) steps
after_touch ask address _ _ (relaying.asked came response e) = finds (is_last response) false _ (relay_goes_on came response e) refl

after_found : (ask : Ask) (id address : List ℕ) (binding : ℕ) (steps : List Step) (response : Response) → AfterFound ask id address binding steps response →
    FindsSpent (is_last response) steps
after_found ask id address binding _ _ (relaying.touched at steps response a) =
    behind (is_last response) (Called (Call.touch id binding) at (Some Reply.touched) ∷ []) steps refl (after_touch ask address steps response a)
after_found ask id address binding _ _ (relaying.not_touched at) = refl
after_found ask id address binding _ _ (relaying.touch_spent at) = last_one [] (Call.touch id binding) at refl

finds_node : (ask : Ask) (id : List ℕ) (steps : List Step) (response : Response) → FindsNode ask id steps response → FindsSpent (is_last response) steps
finds_node ask id _ _ (relaying.found_at at slot address binding steps response a) =
    behind (is_last response) (Called (Call.lookup id) at _ ∷ []) steps refl (after_found ask id address binding steps response a)
finds_node ask id _ _ (relaying.not_found at) = refl
finds_node ask id _ _ (relaying.lookup_spent at) = last_one [] (Call.lookup id) at refl

relays : (ask : Ask) (id : List ℕ) (steps : List Step) (response : Response) → Relay ask id steps response → FindsSpent (is_last response) steps
relays ask id _ _ (relaying.no_name n) = refl
relays ask id _ _ (relaying.named steps response n a) = finds_node ask id steps response a

exchange_lacks : (ask : Ask) (address : List ℕ) (steps : List Step) → ExchangeLacks ask address steps → spent_looks steps ≡ 0
exchange_lacks ask address _ relaying.not_sent = refl

touch_lacks : (ask : Ask) (id address : List ℕ) (binding : ℕ) (steps : List Step) → TouchLacks ask id address binding steps → spent_looks steps ≡ 0
touch_lacks ask id address binding _ (relaying.touch_lacks at) = refl
touch_lacks ask id address binding _ (relaying.behind_touch at steps e) = exchange_lacks ask address steps e

relay_lacks : (ask : Ask) (id : List ℕ) (steps : List Step) → RelayLacks ask id steps → spent_looks steps ≡ 0
relay_lacks ask id _ (relaying.behind_lookup at slot address binding steps e) = touch_lacks ask id address binding steps e

enqueue_lacks : (choices : List (List Cap)) (steps : List Step) → AskLacks choices steps → spent_looks steps ≡ 0
enqueue_lacks choices _ (creating.ask_lacks at) = refl

-- ---- what goes before a request

asks_to_end : (c : Closing) (steps : List Step) → AsksToEnd c steps → spent_looks steps ≡ 0
asks_to_end c _ (begin.asked came n q) = refl
asks_to_end c _ (begin.not_asked q) = refl

idle_ended : (own more : List Step) (c : Closing) (at : ℕ) → spent_looks own ≡ 0 → spent_looks more ≡ 0 →
    spent_looks (own ++ Called (Call.freed c) at (Some Reply.is_freed) ∷ more) ≡ 0
idle_ended own more c at a b = omega (arith, looks_append own (Called (Call.freed c) at (Some Reply.is_freed) ∷ more), a, b)

expires : (steps : List Step) → Expires steps → spent_looks steps ≡ 0
expires _ (begin.none_idle at) = refl
expires _ (begin.one_idle {own} {more} at free c a rest) = idle_ended own more c free (asks_to_end c own a) (expires more rest)

begins : (nodes : List ℕ) (steps : List Step) → Begins nodes steps → spent_looks steps ≡ 0
begins _ _ (begin.swept {more} at reply e) = expires more e
begins _ _ (begin.beaten {nodes} {more} node at reply b) = begins nodes more b

pub begun : (own : Option (List ℕ)) (steps : List Step) → Begun own steps → spent_looks steps ≡ 0
begun None steps e = ap spent_looks e
begun (Some nodes) steps b = begins nodes steps b

expire_lacks : (steps : List Step) → ExpireLacks steps → spent_looks steps ≡ 0
expire_lacks _ (begin.expire_lacks at) = refl
expire_lacks _ (begin.not_sent at free c q) = refl
expire_lacks _ (begin.later {own} {more} at free c a rest) = idle_ended own more c free (asks_to_end c own a) (expire_lacks more rest)

begin_lacks : (nodes : List ℕ) (steps : List Step) → BeginLacks nodes steps → spent_looks steps ≡ 0
begin_lacks _ _ (begin.sweep_lacks at) = refl
begin_lacks _ _ (begin.behind_sweep {more} at reply e) = expire_lacks more e
begin_lacks _ _ (begin.beat_lacks node at) = refl
begin_lacks _ _ (begin.behind_beat {nodes} {more} node at reply b) = begin_lacks nodes more b

pub begun_lacks : (own : Option (List ℕ)) (steps : List Step) → BegunLacks own steps → spent_looks steps ≡ 0
begun_lacks None steps b = absurd b
begun_lacks (Some nodes) steps b = begin_lacks nodes steps b

-- ---- any request

module _ (spend : StartsSpendAll) where
  start_none : (r : Reservation) (steps : List Step) → Start r steps → spent_looks steps ≡ 0
  start_none r steps s = spends_none (of_reservation r ∷ []) steps (spend r steps s)

  -- before a call that is wanted
  front_of_start : (r : Reservation) (place : Place) (call : Call) (steps : List Step) → Leads r place steps → wanted_at r place ≡ to_call call → spent_looks steps ≡ 0
  front_of_start r (at_bind session caps) call steps leads e =
      let more = Called (Call.bind r session caps) 0 (Some (Reply.bound 0)) ∷ [] in
      front_none steps more (start_none r (steps ++ more) (leads more (starting.bound 0 0)))
  front_of_start r (at_fail w) call steps leads e =
      let more = Called (Call.fail r w) 0 (failing_reply failing.Again) ∷ [] in
      front_none steps more (start_none r (steps ++ more) (leads more (starting.failed 0 failing.Again)))
  front_of_start r (at_free c) call steps leads e =
      let more = Called (Call.freed c) 0 (Some Reply.is_freed) ∷ [] in
      front_none steps more (start_none r (steps ++ more) (leads more (starting.freed 0)))
  front_of_start r at_start call steps leads e = absurd cc
  front_of_start r (at_return session) call steps leads e = absurd cc
  front_of_start r (at_quit c) call steps leads e = absurd cc
  front_of_start r (at_end end) call steps leads e = absurd cc

  start_spent : (r : Reservation) (steps : List Step) → SpentStart r steps → SpentLast steps
  start_spent r _ (creating.spent_at steps place call at leads e) = last_one steps call at (front_of_start r place call steps leads e)

  -- ---- a New Session

  rounds : (t : Ticket) (steps : List Step) (response : Response) → Rounds t steps response → response ≢ left → FindsSpent (is_last response) steps
  rounds _ _ _ (creating.not_yet {t} {steps} {response} at u r) n =
      behind (is_last response) (Called (Call.poll t) at (Some (Reply.not_yet u)) ∷ Paused poll_pause ∷ []) steps refl (rounds u steps response r n)
  rounds _ _ _ (creating.poll_lacks {t} {steps} {response} at r) n =
      behind (is_last response) (Called (Call.poll t) at None ∷ Paused poll_pause ∷ []) steps refl (rounds t steps response r n)
  rounds _ _ _ (creating.left_waiting at u w) n = absurd (n refl)
  rounds _ _ _ (creating.left_lacking at w) n = absurd (n refl)
  rounds _ _ _ (creating.yours {t} {own} {steps} {response} at u r s rest) n =
      behind (is_last response) (Called (Call.poll t) at (Some (Reply.yours u r)) ∷ own) steps (start_none r own s) (rounds u steps response rest n)
  rounds _ _ _ (creating.start_spent {t} {own} at u r s) n = behind true (Called (Call.poll t) at (Some (Reply.yours u r)) ∷ []) own refl (start_spent r own s)
  rounds _ _ _ (creating.settled {t} at o) n = finds (is_last (outcome_response t.request o)) false _ (outcome_goes_on t.request o) refl
  rounds _ _ _ (creating.poll_spent {t} at) n = last_one [] (Call.poll t) at refl

  asks : (choices : List (List Cap)) (steps : List Step) (response : Response) → Asks choices steps response → response ≢ left → FindsSpent (is_last response) steps
  asks choices _ _ (creating.queued {steps} {response} at t r) n =
      behind (is_last response) (Called (Call.enqueue choices) at (Some (Reply.queued t)) ∷ []) steps refl (rounds t steps response r n)
  asks choices _ _ (creating.not_queued at reply response e) n = finds (is_last response) false _ (refusal_goes_on reply response e) refl
  asks choices _ _ (creating.enqueue_spent at) n = last_one [] (Call.enqueue choices) at refl

  creates : (body : List ℕ) (steps : List Step) (response : Response) → NewSession body steps response → response ≢ left → FindsSpent (is_last response) steps
  creates body _ _ (creating.no_choices f gives) n = refl
  creates body _ _ (creating.asks {steps} {response} choices gives a) n = asks choices steps response a n

  -- whether its client has left or not
  rounds_any : (t : Ticket) (steps : List Step) (response : Response) → Rounds t steps response → FindsSpentOrNot steps
  rounds_any _ _ _ (creating.not_yet {t} {steps} {response} at u r) =
      or_behind (Called (Call.poll t) at (Some (Reply.not_yet u)) ∷ Paused poll_pause ∷ []) steps refl (rounds_any u steps response r)
  rounds_any _ _ _ (creating.poll_lacks {t} {steps} {response} at r) =
      or_behind (Called (Call.poll t) at None ∷ Paused poll_pause ∷ []) steps refl (rounds_any t steps response r)
  rounds_any _ _ _ (creating.left_waiting {t} {steps} at u w) = or_behind (Called (Call.poll t) at (Some (Reply.not_yet u)) ∷ []) steps refl (withdraws u steps w)
  rounds_any _ _ _ (creating.left_lacking {t} {steps} at w) = or_behind (Called (Call.poll t) at None ∷ []) steps refl (withdraws t steps w)
  rounds_any _ _ _ (creating.yours {t} {own} {steps} {response} at u r s rest) =
      or_behind (Called (Call.poll t) at (Some (Reply.yours u r)) ∷ own) steps (start_none r own s) (rounds_any u steps response rest)
  rounds_any _ _ _ (creating.start_spent {t} {own} at u r s) =
      (true, behind true (Called (Call.poll t) at (Some (Reply.yours u r)) ∷ []) own refl (start_spent r own s))
  rounds_any _ _ _ (creating.settled {t} at o) = (false, refl)
  rounds_any _ _ _ (creating.poll_spent {t} at) = (true, last_one [] (Call.poll t) at refl)

  asks_any : (choices : List (List Cap)) (steps : List Step) (response : Response) → Asks choices steps response → FindsSpentOrNot steps
  asks_any choices _ _ (creating.queued {steps} {response} at t r) =
      or_behind (Called (Call.enqueue choices) at (Some (Reply.queued t)) ∷ []) steps refl (rounds_any t steps response r)
  asks_any choices _ _ (creating.not_queued at reply response e) = (false, refl)
  asks_any choices _ _ (creating.enqueue_spent at) = (true, last_one [] (Call.enqueue choices) at refl)

  creates_any : (body : List ℕ) (steps : List Step) (response : Response) → NewSession body steps response → FindsSpentOrNot steps
  creates_any body _ _ (creating.no_choices f gives) = (false, refl)
  creates_any body _ _ (creating.asks {steps} {response} choices gives a) = asks_any choices steps response a

  -- what holds of a New Session, and of each script that is no New Session
  by_route : (P : List Step → Response → Type 0) → ((body : List ℕ) (steps : List Step) (response : Response) → NewSession body steps response → P steps response) →
      ((steps : List Step) (response : Response) → FindsSpent (is_last response) steps → P steps response) →
      (r : Result Route RouteFault) (f : Request) (steps : List Step) (response : Response) → ByRoute r f steps response → P steps response
  by_route P new other (Err fault.UnknownCommand) f steps response x = other steps response (finds (is_last response) false steps (ap is_last x.1) (ap spent_looks x.0))
  by_route P new other (Err fault.UnknownMethod) f steps response x = other steps response (finds (is_last response) false steps (ap is_last x.1) (ap spent_looks x.0))
  by_route P new other (Err fault.Memory) f steps response x = absurd x
  by_route P new other (Ok routes.new_session) f steps response x = new _ steps response x
  by_route P new other (Ok (routes.delete_session id)) f steps response x = other steps response (deletes id steps response x)
  by_route P new other (Ok (routes.relay id target)) f steps response x = other steps response (relays _ id steps response x)
  by_route P new other (Ok routes.status) f steps response x = other steps response (one_call Call.view status_response status_goes_on steps response x)
  by_route P new other (Ok routes.queue) f steps response x = other steps response (one_call Call.view queue_response queue_goes_on steps response x)
  by_route P new other (Ok routes.clear_queue) f steps response x = other steps response (one_call Call.clear clear_response clear_goes_on steps response x)
  by_route P new other (Ok routes.register) f steps response x = other steps response (registers _ steps response x)
  by_route P new other (Ok (routes.remove id)) f steps response x = other steps response (node_call Call.remove id steps response x)
  by_route P new other (Ok (routes.drain id)) f steps response x = other steps response (node_call Call.drain id steps response x)
  by_route P new other (Ok (routes.beat id)) f steps response x = other steps response (beats id _ steps response x)

  pub in_script : (f : Request) (steps : List Step) (response : Response) → Script f steps response → response ≢ left → FindsSpent (is_last response) steps
  unfolding Script
  in_script f steps response s n =
      by_route (λ own said. said ≢ left → FindsSpent (is_last said) own) creates (λ own said x m. x) (route f) f steps response s n

  pub in_left : (f : Request) (steps : List Step) → Script f steps left → FindsSpentOrNot steps
  unfolding Script
  in_left f steps s = by_route (λ own said. FindsSpentOrNot own) creates_any (λ own said x. (is_last said, x)) (route f) f steps left s

  step_lacks : (r : Result Route RouteFault) (f : Request) (steps : List Step) → StepLacks r f steps → FindsSpentOrNot steps
  step_lacks (Err e) f steps x = absurd x
  step_lacks (Ok routes.new_session) f steps x = (false, enqueue_lacks x.0 steps x.2)
  step_lacks (Ok (routes.delete_session id)) f steps x = delete_lacks id steps x
  step_lacks (Ok (routes.relay id target)) f steps x = (false, relay_lacks _ id steps x)
  step_lacks (Ok routes.status) f steps x = (false, call_lacks Call.view steps x)
  step_lacks (Ok routes.queue) f steps x = (false, call_lacks Call.view steps x)
  step_lacks (Ok routes.clear_queue) f steps x = (false, call_lacks Call.clear steps x)
  step_lacks (Ok routes.register) f steps x = (false, call_lacks (Call.register x.0) steps x.2)
  step_lacks (Ok (routes.remove id)) f steps x = (false, call_lacks (Call.remove x.0) steps x.2)
  step_lacks (Ok (routes.drain id)) f steps x = (false, call_lacks (Call.drain x.0) steps x.2)
  step_lacks (Ok (routes.beat id)) f steps x = (false, call_lacks (Call.beat x.0 x.1) steps x.4)

  pub in_lacks : (f : Request) (steps : List Step) → Lacks f steps → FindsSpentOrNot steps
  in_lacks f _ script.before_all = (false, refl)
  in_lacks f _ (script.at_step {steps} x) = step_lacks (route f) f steps x
  in_lacks f _ (script.behind_all steps undone response s u) =
      behind_script response steps undone (in_script f steps response s (is_there response undone u)) u
