-- The first turn of a request, by its route.
use Rattle.std.proofs.Common.{◌≡◌, ◌≢◌, ℕ, ◌<◌, ◌^◌, Bool, true, false, List, [], refl, sym, ◌∙◌, ap, subst, inl, inr}
use Rattle.std.specs.Prelude.{Result, Ok, Err, Option, None, Some, IfOk, IfSome, is_some, decimal}
use Rattle.http_frames.specs.Frames.{Request}
use Rattle.grid_types.specs.declared.text.NoMemory.{NoMemory}
use Rattle.grid_types.specs.declared.capabilities.Cap.{Cap}
use Rattle.grid_types.specs.declared.capabilities.Registration.{Registration}
use Rattle.grid_types.specs.Names.{is_session_name}
use Rattle.grid_types.specs.Permitted.{is_well_sized}
use Rattle.grid_types.specs.Calls.{Call, Reply}
use Rattle.caps_merge.specs.declared.fault.CapsFault.{CapsFault}
use Rattle.caps_merge.specs.declared.registering.fault.RegFault.{RegFault}
use Rattle.caps_merge.specs.Beats.{BeatGives}
use Rattle.caps_merge.specs.Merging.{BodyGives}
use Rattle.caps_merge.specs.Registering.{RegistrationGives}
use Rattle.router_core.specs.declared.routed.Routed.{Routed}
use Rattle.router_core.specs.declared.routed.RouteFault.{RouteFault}
use Rattle.router_core.specs.Routes.{Route, route_of, route_told}
use Rattle.node_client.specs.Steps.{Step, gives_up}
use Rattle.conn_script.specs.declared.calling.Asked.{Asked}
use Rattle.conn_script.specs.declared.calling.Asked.TheVariants as asked
use Rattle.conn_script.specs.declared.calling.Calling.TheVariants as calling
use Rattle.conn_script.specs.declared.creating.Creating.TheVariants as creating
use Rattle.conn_script.specs.declared.deleting.Deleting.TheVariants as deleting
use Rattle.conn_script.specs.declared.relaying.Relaying.TheVariants as relaying
use Rattle.conn_script.specs.declared.request.Whole.{Whole}
use Rattle.conn_script.specs.declared.turn.Run.{Run}
use Rattle.conn_script.specs.declared.turn.Run.TheVariants as run
use Rattle.conn_script.specs.declared.turn.Turn.{Turn}
use Rattle.conn_script.specs.declared.turn.Turn.TheVariants as turn
use Rattle.conn_script.specs.declared.wants.HubCall.{HubCall}
use Rattle.conn_script.specs.declared.wants.HubCall.TheVariants as calls
use Rattle.conn_script.specs.Asking.{IsOf}
use Rattle.conn_script.specs.Responses.{Response, own, bytes_of}
use Rattle.conn_script.specs.Messages.{beat_refusal, no_such_node, no_such_session, node_response, caps_refusal, reg_refusal}
use Rattle.conn_script.specs.OneCall.{OneCall, CallLacks, NamesNode, NamesNoNode, NodeCall, NodeCallLacks, no_number, asks_node, Beats, BeatsLack, no_path, no_beat, beats_node, Registers, RegisterLacks, no_registration, asks_hub}
use Rattle.conn_script.specs.DeleteSession as ending
use Rattle.conn_script.specs.DeleteSession.{DeleteSession, DeleteLacks}
use Rattle.conn_script.specs.Relay as passing
use Rattle.conn_script.specs.Relay.{Relay, RelayLacks, relayed}
use Rattle.conn_script.specs.NewSession as starting
use Rattle.conn_script.specs.NewSession.{NewSession, EnqueueLacks}
use Rattle.conn_script.specs.Script.{Script, Lacks, ByRoute, StepLacks, body_of, route, before_all, at_step}
use Rattle.conn_script.specs.Wanted.{Wanted, to_call, call_of, is_rightful, kind_of}
use Rattle.conn_script.specs.Calling.{kind_asked, respond_of}
use Rattle.conn_script.specs.Creating.{no_start}
use Rattle.conn_script.specs.Turns.{Turns, Completes, Stops, responded}
use Rattle.conn_script.specs.Running.{RunWants, RunFollows, RunStops, RunsOn}
use Rattle.conn_script.specs.Routing.{FirstTurn, OrNone, none, at, node_call, IsNodeAsked, AsksNode, AsksToBeat, AsksToRegister, AsksToCreate, AsksToDelete, AsksToRelay}
use Rattle.conn_script.proofs.TurnLemmas.{own_turns}

-- ---- the first run of a script

goes : (f : Request) (C : Completes) (S : Stops) (close : Bool) (r : Run) (w : Wanted) → RunWants f r no_start w →
    ((more : List Step) (response : Response) → RunFollows f r no_start w more response → C more response) →
    ((more : List Step) → RunStops f r w more → S more) → Turns (RunsOn f) C S [] close (turn.Go r false)
goes f C S close r w wants leads stops = ((no_start, w, wants, refl, leads, stops), refl)

call_first : (f : Request) (C : Completes) (S : Stops) (close : Bool) (call : HubCall) (a : Asked) →
    kind_of (call_of call) ≡ kind_asked a → gives_up (call_of call) ≡ false → is_rightful (call_of call) ≡ true →
    ((more : List Step) (response : Response) → OneCall (call_of call) (respond_of a) more response → C more response) →
    ((more : List Step) → CallLacks (call_of call) more → S more) →
    Turns (RunsOn f) C S [] close (turn.Go (run.Calling (calling.Ask call a)) false)
call_first f C S close call a kind keeps right leads stops =
    goes f C S close (run.Calling (calling.Ask call a)) (to_call (call_of call)) (refl, (refl, kind, keeps, right)) leads stops

-- ---- a node of a number

node_kind : (a : Asked) (n : ℕ) → IsNodeAsked a → kind_of (node_call a n) ≡ kind_asked a
node_kind asked.Remove n h = refl
node_kind asked.Drain n h = refl
node_kind asked.Register n h = absurd h
node_kind asked.Beat n h = absurd h
node_kind asked.Clear n h = absurd h
node_kind asked.Status n h = absurd h
node_kind asked.Queue n h = absurd h

node_keeps : (a : Asked) (n : ℕ) → gives_up (node_call a n) ≡ false
node_keeps asked.Remove n = refl
node_keeps asked.Drain n = refl
node_keeps asked.Beat n = refl
node_keeps asked.Register n = refl
node_keeps asked.Clear n = refl
node_keeps asked.Status n = refl
node_keeps asked.Queue n = refl

node_right : (a : Asked) (n : ℕ) → is_rightful (node_call a n) ≡ true
node_right asked.Remove n = refl
node_right asked.Drain n = refl
node_right asked.Beat n = refl
node_right asked.Register n = refl
node_right asked.Clear n = refl
node_right asked.Status n = refl
node_right asked.Queue n = refl

node_respond : (a : Asked) → IsNodeAsked a → respond_of a ≡ node_response
node_respond asked.Remove h = refl
node_respond asked.Drain h = refl
node_respond asked.Register h = absurd h
node_respond asked.Beat h = absurd h
node_respond asked.Clear h = absurd h
node_respond asked.Status h = absurd h
node_respond asked.Queue h = absurd h

pub node_asked : (a : Asked) (id : List ℕ) (n : ℕ) (call : HubCall) (close : Bool) → IsNodeAsked a → n < 2 ^ 32 → id ≡ decimal n →
    call_of call ≡ node_call a n → AsksNode a id (turn.Go (run.Calling (calling.Ask call a)) false) close
node_asked a id n call close h small is same f =
    call_first f (NodeCall (node_call a) id) (OrNone (NodeCallLacks (node_call a) id)) close call a
    (ap kind_of same ∙ node_kind a n h) (ap gives_up same ∙ node_keeps a n) (ap is_rightful same ∙ node_right a n)
    (λ more response p. asks_node n (small, is)
    (subst (λ (c : Call). OneCall c node_response more response) same
    (subst (λ (respond : Reply → Option Response). OneCall (call_of call) respond more response) (node_respond a h) p)))
    (λ more p. at more (n, (small, is), subst (λ (c : Call). CallLacks c more) same p))

pub no_node_asked : (a : Asked) (id : List ℕ) (close : Bool) (r : Result (List ℕ) NoMemory) → NamesNoNode id →
    IfOk r (λ bytes. bytes ≡ bytes_of no_such_node close) → AsksNode a id (responded r) close
no_node_asked a id close r h built f =
    own_turns (RunsOn f) (NodeCall (node_call a) id) (OrNone (NodeCallLacks (node_call a) id)) [] close r _ _ (no_number h) refl built

-- ---- a beat

pub beat_asked : (id body : List ℕ) (node : ℕ) (name : Option (List ℕ)) (call : HubCall) (close : Bool) → NamesNode id node → BeatGives body (Ok name) →
    call_of call ≡ Call.beat node name → AsksToBeat id body (turn.Go (run.Calling (calling.Ask call asked.Beat)) false) close
beat_asked id body node name call close names gives same f =
    call_first f (Beats id body) (OrNone (BeatsLack id body)) close call asked.Beat (ap kind_of same) (ap gives_up same) (ap is_rightful same)
    (λ more response p. beats_node node name names gives (subst (λ (c : Call). OneCall c node_response more response) same p))
    (λ more p. at more (node, name, names, gives, subst (λ (c : Call). CallLacks c more) same p))

pub beat_unnamed : (id body : List ℕ) (close : Bool) (r : Result (List ℕ) NoMemory) → NamesNoNode id →
    IfOk r (λ bytes. bytes ≡ bytes_of no_such_node close) → AsksToBeat id body (responded r) close
beat_unnamed id body close r unnamed built f =
    own_turns (RunsOn f) (Beats id body) (OrNone (BeatsLack id body)) [] close r _ _ (no_path unnamed) refl built

pub beat_wrong : (id body : List ℕ) (node : ℕ) (fault : RegFault) (close : Bool) (r : Result (List ℕ) NoMemory) → NamesNode id node → BeatGives body (Err fault) →
    IfOk r (λ bytes. bytes ≡ bytes_of (beat_refusal fault) close) → AsksToBeat id body (responded r) close
beat_wrong id body node fault close r names gives built f =
    own_turns (RunsOn f) (Beats id body) (OrNone (BeatsLack id body)) [] close r _ _ (no_beat node fault names gives) refl built

-- ---- a registration

pub register_asked : (body : List ℕ) (node : Registration) (close : Bool) → RegistrationGives body (Ok node) → is_well_sized node ≡ true →
    AsksToRegister body (turn.Go (run.Calling (calling.Ask (calls.Register node) asked.Register)) false) close
register_asked body node close gives sized f =
    call_first f (Registers body) (OrNone (RegisterLacks body)) close (calls.Register node) asked.Register refl refl sized
    (λ more response p. asks_hub node gives p) (λ more p. at more (node, gives, p))

pub register_refused : (body : List ℕ) (fault : RegFault) (close : Bool) (r : Result (List ℕ) NoMemory) → RegistrationGives body (Err fault) →
    IfOk r (λ bytes. bytes ≡ bytes_of (reg_refusal fault) close) → AsksToRegister body (responded r) close
register_refused body fault close r gives built f =
    own_turns (RunsOn f) (Registers body) (OrNone (RegisterLacks body)) [] close r _ _ (no_registration fault gives) refl built

-- ---- a New Session

pub create_asked : (body : List ℕ) (choices : List (List Cap)) (close : Bool) → BodyGives body (Ok choices) →
    AsksToCreate body (turn.Go (run.Creating (creating.Enqueue choices)) false) close
create_asked body choices close gives f =
    goes f (NewSession body) (OrNone (EnqueueLacks body)) close (run.Creating (creating.Enqueue choices)) (to_call (Call.enqueue choices)) (refl, refl)
    (λ more response p. starting.asks choices gives p) (λ more p. at more (choices, gives, p))

pub create_refused : (body : List ℕ) (fault : CapsFault) (close : Bool) (r : Result (List ℕ) NoMemory) → BodyGives body (Err fault) →
    IfOk r (λ bytes. bytes ≡ bytes_of (caps_refusal fault) close) → AsksToCreate body (responded r) close
create_refused body fault close r gives built f =
    own_turns (RunsOn f) (NewSession body) (OrNone (EnqueueLacks body)) [] close r _ _ (starting.no_choices fault gives) refl built

-- ---- a session of an id

named_there : (o : Option (List ℕ)) (id session : List ℕ) → o ≡ Some session → is_some o ≡ is_session_name id → IfSome o (λ s. s ≡ id) →
    (is_session_name id ≡ true) × (session ≡ id)
named_there o id session e known same =
    (sym known ∙ ap is_some e, subst (λ (x : Option (List ℕ)). IfSome x (λ s. s ≡ id)) e same)

pub delete_asked : (o : Option (List ℕ)) (id session : List ℕ) (close : Bool) → o ≡ Some session → is_some o ≡ is_session_name id →
    IfSome o (λ s. s ≡ id) → AsksToDelete id (turn.Go (run.Deleting (deleting.Lookup session)) false) close
delete_asked o id session close e known same f =
    let n = named_there o id session e known same in
    goes f (DeleteSession id) (OrNone (DeleteLacks id)) close (run.Deleting (deleting.Lookup session)) (to_call (Call.lookup session)) (refl, refl)
    (λ more response p. ending.named more response n.0 (subst (λ (x : List ℕ). ending.AsksWhere x more response) n.1 p))
    (λ more p. at more (subst (λ (x : List ℕ). DeleteLacks x more) n.1 p))

pub delete_unnamed : (o : Option (List ℕ)) (id : List ℕ) (close : Bool) (r : Result (List ℕ) NoMemory) → o ≡ None → is_some o ≡ is_session_name id →
    IfOk r (λ bytes. bytes ≡ bytes_of no_such_session close) → AsksToDelete id (responded r) close
delete_unnamed o id close r e known built f =
    own_turns (RunsOn f) (DeleteSession id) (OrNone (DeleteLacks id)) [] close r _ _ (ending.no_name (sym known ∙ ap is_some e)) refl built

pub not_there : (o : Option (List ℕ)) → ((x : List ℕ) → o ≢ Some x) → o ≡ None
not_there None n = refl
not_there (Some x) n = absurd (n x refl)

named_relay : (o : Option (List ℕ)) (id session target : List ℕ) (close : Bool) → o ≡ Some session → is_some o ≡ is_session_name id →
    IfSome o (λ s. s ≡ id) → AsksToRelay id target (turn.Go (run.Relaying (relaying.Lookup session target)) false) close
named_relay o id session target close e known same f =
    let n = named_there o id session e known same in
    goes f (Relay (relayed f target) id) (OrNone (RelayLacks (relayed f target) id)) close (run.Relaying (relaying.Lookup session target))
    (to_call (Call.lookup session)) (refl, refl)
    (λ more response p. passing.named more response n.0 (subst (λ (x : List ℕ). passing.FindsNode (relayed f target) x more response) n.1 p))
    (λ more p. at more (subst (λ (x : List ℕ). RelayLacks (relayed f target) x more) n.1 p))

pub relay_asked : (o : Option (List ℕ)) (id session target kept : List ℕ) (close : Bool) → o ≡ Some session → is_some o ≡ is_session_name id →
    IfSome o (λ s. s ≡ id) → kept ≡ target → AsksToRelay id target (turn.Go (run.Relaying (relaying.Lookup session kept)) false) close
relay_asked o id session target kept close e known same copied =
    subst (λ (x : List ℕ). AsksToRelay id target (turn.Go (run.Relaying (relaying.Lookup session x)) false) close) (sym copied) (named_relay o id session target close e known same)

pub relay_unnamed : (o : Option (List ℕ)) (id target : List ℕ) (close : Bool) (r : Result (List ℕ) NoMemory) → o ≡ None → is_some o ≡ is_session_name id →
    IfOk r (λ bytes. bytes ≡ bytes_of no_such_session close) → AsksToRelay id target (responded r) close
relay_unnamed o id target close r e known built f =
    own_turns (RunsOn f) (Relay (relayed f target) id) (OrNone (RelayLacks (relayed f target) id)) [] close r _ _ (passing.no_name (sym known ∙ ap is_some e)) refl built

-- ---- any route

-- the script of the route is that of the request
turns_on : (f : Request) (C D : Completes) (S U : Stops) (close : Bool) (t : Turn) →
    ((steps : List Step) (response : Response) → C steps response → D steps response) → ((steps : List Step) → S steps → U steps) →
    Turns (RunsOn f) C S [] close t → Turns (RunsOn f) D U [] close t
turns_on f C D S U close (turn.Go next short) on off x =
    let y = x.0 in
    ((y.0, y.1, y.2, y.3, (λ more response p. on more response (y.4 more response p)), (λ more p. off more (y.5 more p))), x.1)
turns_on f C D S U close (turn.Respond bytes) on off x = (x.0, on [] x.0 x.1, x.2, x.3, x.4, x.5)
turns_on f C D S U close (turn.RespondLast bytes short) on off x = (on [] _ x.0, x.1, x.2)
turns_on f C D S U close (turn.Created bytes session binding) on off x = (x.0, on [] _ x.1, x.2, x.3)
turns_on f C D S U close (turn.Undo session binding) on off x = (x.0, on [] _ x.1)
turns_on f C D S U close turn.Lacks on off (inl s) = inl (off [] s)
turns_on f C D S U close turn.Lacks on off (inr x) = inr (x.0, on [] x.0 x.1, x.2)

pub by_route : (f : Request) (r : Result Route RouteFault) (C : Completes) (S : Stops) (close : Bool) (t : Turn) → route f ≡ r →
    ((steps : List Step) (response : Response) → C steps response → ByRoute r f steps response) →
    ((steps : List Step) → S steps → StepLacks r f steps) → Turns (RunsOn f) C (OrNone S) [] close t → FirstTurn f t close
unfolding Script
by_route f r C S close t is on off x = turns_on f C (Script f) (OrNone S) (Lacks f) close t
    (λ steps response p. subst (λ (z : Result Route RouteFault). ByRoute z f steps response) (sym is) (on steps response p))
    (λ steps p. stops steps p) x
  where
    stops : (steps : List Step) → OrNone S steps → Lacks f steps
    stops _ none = before_all
    stops _ (at steps s) = at_step (subst (λ (z : Result Route RouteFault). StepLacks z f steps) (sym is) (off steps s))

-- the route of the request is that of its parts
pub route_is : (whole : Whole) (f : Request) (r : Result Route RouteFault) → IsOf whole f → route_of whole.method.now whole.target.now ≡ r → route f ≡ r
route_is whole f r parts is =
    sym (ap (λ (m : List ℕ). route_of m whole.target.now) parts.method ∙ ap (λ (x : List ℕ). route_of f.0.method x) parts.target) ∙ is

pub whole_of : (whole : Whole) (f : Request) → IsOf whole f → whole.body.now ≡ body_of f
whole_of whole f parts = parts.body_is

-- a call that the path alone decides
pub path_asked : (f : Request) (r : Result Route RouteFault) (call : HubCall) (a : Asked) (close : Bool) → route f ≡ r →
    kind_of (call_of call) ≡ kind_asked a → gives_up (call_of call) ≡ false → is_rightful (call_of call) ≡ true →
    ((steps : List Step) (response : Response) → OneCall (call_of call) (respond_of a) steps response → ByRoute r f steps response) →
    ((steps : List Step) → CallLacks (call_of call) steps → StepLacks r f steps) →
    FirstTurn f (turn.Go (run.Calling (calling.Ask call a)) false) close
path_asked f r call a close is kind keeps right on off =
    by_route f r (OneCall (call_of call) (respond_of a)) (CallLacks (call_of call)) close (turn.Go (run.Calling (calling.Ask call a)) false) is on off
    (call_first f (OneCall (call_of call) (respond_of a)) (OrNone (CallLacks (call_of call))) close call a kind keeps right (λ more response p. p) (λ more p. at more p))

-- no route
pub none_asked : (f : Request) (e : RouteFault) (close : Bool) (r : Result (List ℕ) NoMemory) (status : ℕ) (body : List ℕ) → route f ≡ Err e →
    ByRoute (Err e) f [] (own status body) → IfOk r (λ bytes. bytes ≡ bytes_of (own status body) close) → FirstTurn f (responded r) close
unfolding Script
none_asked f e close r status body is script built =
    own_turns (RunsOn f) (Script f) (Lacks f) [] close r status body
    (subst (λ (z : Result Route RouteFault). ByRoute z f [] (own status body)) (sym is) script) refl built

pub lacks_first : (f : Request) (close : Bool) → FirstTurn f turn.Lacks close
lacks_first f close = inl before_all

-- what was told of the route is told of the request's
pub route_told_is : (whole : Whole) (f : Request) (x y : Routed) → IsOf whole f → route_of whole.method.now whole.target.now ≡ Ok (route_told x) →
    x ≡ y → route f ≡ Ok (route_told y)
route_told_is whole f x y parts told same =
    route_is whole f (Ok (route_told y)) parts (told ∙ ap (λ (z : Routed). Ok (route_told z)) same)

pub no_route_is : (whole : Whole) (f : Request) (x y : RouteFault) → IsOf whole f → route_of whole.method.now whole.target.now ≡ Err x →
    x ≡ y → route f ≡ Err y
no_route_is whole f x y parts told same =
    route_is whole f (Err y) parts (told ∙ ap (λ (z : RouteFault). Err z) same)
