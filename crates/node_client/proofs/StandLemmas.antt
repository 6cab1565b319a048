-- What a value stands for, from state to state.
use Rattle.std.proofs.Common.{◌≡◌, ℕ, ◌<◌, Bool, true, false, ◌||◌, List, [], ◌∷◌, ◌++◌, refl, sym, ap, subst, ◌∙◌, arith}
use Rattle.std.specs.Prelude.{Option, Some}
use Rattle.grid_types.specs.declared.capabilities.Cap.{Cap}
use Rattle.grid_types.specs.declared.entry.FailWhy.{FailWhy}
use Rattle.grid_types.specs.declared.entry.FailWhy.TheVariants as why
use Rattle.grid_types.specs.Tokens.{Reservation, Closing}
use Rattle.grid_types.specs.Calls.{Call, Reply}
use Rattle.hub_core.specs.declared.answers.Binding.{Binding}
use Rattle.hub_core.specs.declared.answers.Binding.TheVariants as binding
use Rattle.hub_core.specs.declared.answers.Failing.{Failing}
use Rattle.hub_core.specs.declared.answers.Failing.TheVariants as failing
use Rattle.hub_core.specs.Replies.{binding_reply}
use Rattle.grid_outside.specs.Exchanges.{Came}
use Rattle.node_client.specs.declared.path.SessionPath.{SessionPath}
use Rattle.node_client.specs.declared.wants.CarryAnswer.{CarryAnswer}
use Rattle.node_client.specs.declared.wants.CarryAnswer.TheVariants as answers
use Rattle.node_client.specs.declared.wants.CarryEnd.TheVariants as ends
use Rattle.node_client.specs.declared.carry.Carry.{Carry}
use Rattle.node_client.specs.declared.carry.State.{State}
use Rattle.node_client.specs.declared.carry.State.TheVariants as states
use Rattle.node_client.specs.Asks.{session_path}
use Rattle.node_client.specs.Held.{tokens_in}
use Rattle.node_client.specs.Paths.{path_text}
use Rattle.node_client.specs.Steps.{Step, Called, met_want, is_lack, lacked}
use Rattle.node_client.specs.Start.{Refuses, FailsAfter, unreachable, not_asked, not_http, tells, tells_nothing, unread}
use Rattle.node_client.specs.Places.{Place, at_start, at_bind, at_return, at_fail, at_quit, at_free, at_end, Fits, wanted_at, made, Moves, named, failed_at_node, was_bound, to_quit, to_free, found_no_memory, was_returned, was_quit, gave_up, was_freed, gives_up_at}
use Rattle.node_client.specs.Carrying.{Standing, Stands, IsIn, Moved, NamedBy, named_by, Answered, Closed, ClosesAt, by_quit, at_once, Bind, Fail, Freed, awaited_in, is_fresh_in, work_in}
use Rattle.node_client.proofs.MoveLemmas.{standing_on}

or_false : (b : Bool) → b ≡ (b || false)
or_false true = refl
or_false false = refl

or_true : (b : Bool) → true ≡ (b || true)
or_true true = refl
or_true false = refl

-- the state goes on with the place
pub moved : (old new : Carry) (r : Reservation) (place to : Place) (answer : CarryAnswer) (steps : List Step) (at : ℕ) → Standing old.short r place steps →
    Moves r place answer to → IsIn new.state r to → new.short ≡ (old.short || (met_want (made answer (wanted_at r place) at) || gives_up_at to)) →
    Moved r place answer new (steps ++ made answer (wanted_at r place) at)
unfolding Stands
moved old new r place to answer steps at st m is_in short_is = record {
  to = to;
  moves = m;
  stands = (is_in, subst (λ (b : Bool). Standing b r to (steps ++ made answer (wanted_at r place) at)) (sym short_is) (standing_on old.short r place to answer steps at m st));
}

-- ---- exchanges

failed_want : (came : Came) (w : FailWhy) → FailsAfter came w → is_lack w ≡ ((lacked came || false) || is_lack w)
failed_want _ _ unreachable = refl
failed_want _ _ not_asked = refl
failed_want _ _ (not_http bytes) = refl
failed_want _ _ (tells r message words says cut) = refl
failed_want _ _ (tells_nothing r says) = refl
failed_want _ _ (unread r) = refl

start_want : (r : Reservation) (to : Place) (answer : CarryAnswer) (at : ℕ) → Moves r at_start answer to → gives_up_at to ≡ (met_want (made answer (wanted_at r at_start) at) || gives_up_at to)
start_want r _ _ at (named answer session caps says) = refl
start_want r _ _ at (failed_at_node came w h) = failed_want came w h

pub asked_on : (old new : Carry) (q : Reservation) (body : List ℕ) (came : Came) → old.state ≡ states.Asking q body → Answered old.short q came new →
    (r : Reservation) (place : Place) (steps : List Step) (at : ℕ) → Stands old r place steps → Moved r place (answers.Node came) new (steps ++ made (answers.Node came) (wanted_at r place) at)
unfolding Stands
asked_on old new q body came was a r place steps at st =
    let i : IsIn (states.Asking q body) r place = subst (λ (s : State). IsIn s r place) was st.0 in
    let m : Moves r at_start (answers.Node came) a.to = subst (λ (k : Reservation). Moves k at_start (answers.Node came) a.to) i.0 a.moves in
    let goes : (p : Place) → p ≡ at_start → Standing old.short r p steps → Moved r p (answers.Node came) new (steps ++ made (answers.Node came) (wanted_at r p) at) =
    λ p e s. subst (λ (x : Place). Standing old.short r x steps → Moved r x (answers.Node came) new (steps ++ made (answers.Node came) (wanted_at r x) at)) (sym e)
    (λ t. moved old new r at_start a.to (answers.Node came) steps at t m (subst (λ (k : Reservation). IsIn new.state k a.to) i.0 a.is_in)
    (a.short_is ∙ ap (λ (b : Bool). old.short || b) (start_want r a.to (answers.Node came) at m))) s in
    goes place i.1 st.1

or_lack : (s a : Bool) → (s || true) ≡ (s || ((a || false) || true))
or_lack true a = refl
or_lack false true = refl
or_lack false false = refl

-- one place for another
at_place : (r : Reservation) (p q : Place) (answer : CarryAnswer) (new : Carry) (short : Bool) (steps : List Step) (at : ℕ) → p ≡ q → Standing short r p steps →
    (Standing short r q steps → Moved r q answer new (steps ++ made answer (wanted_at r q) at)) → Moved r p answer new (steps ++ made answer (wanted_at r p) at)
at_place r p q answer new short steps at e st h =
    subst (λ (x : Place). Standing short r x steps → Moved r x answer new (steps ++ made answer (wanted_at r x) at)) (sym e) h st

pub returned_on : (old new : Carry) (q : Reservation) (path : SessionPath) (came : Came) → old.state ≡ states.Returning q path →
    new.state ≡ states.ToFail q why.NoMemory → new.short ≡ (old.short || true) →
    (r : Reservation) (place : Place) (steps : List Step) (at : ℕ) → Stands old r place steps → Moved r place (answers.Node came) new (steps ++ made (answers.Node came) (wanted_at r place) at)
unfolding Stands
returned_on old new q path came was is short_is r place steps at st =
    let i : IsIn (states.Returning q path) r place = subst (λ (s : State). IsIn s r place) was st.0 in
    at_place r place (at_return i.1) (answers.Node came) new old.short steps at i.2 st.1
    (λ t. moved old new r (at_return i.1) (at_fail why.NoMemory) (answers.Node came) steps at t (was_returned i.1 came)
    (subst (λ (s : State). IsIn s r (at_fail why.NoMemory)) (sym is) (i.0, refl)) (short_is ∙ or_lack old.short (lacked came)))

or_falses : (s a : Bool) → (s || a) ≡ (s || ((a || false) || false))
or_falses true a = refl
or_falses false true = refl
or_falses false false = refl

-- a test that is made only where the first is not met
pub or_then : (b s l : Bool) → b ≡ s → s ≡ true → b ≡ (s || l)
or_then b true l e h = e
or_then b false l e h = absurd cc

pub or_else : (b s l : Bool) → b ≡ l → s ≡ false → b ≡ (s || l)
or_else b true l e h = absurd cc
or_else b false l e h = e

pub quit_on : (old new : Carry) (c : Closing) (path : SessionPath) (came : Came) → old.state ≡ states.Quitting c path →
    new.state ≡ states.ToFree c → new.short ≡ (old.short || lacked came) →
    (r : Reservation) (place : Place) (steps : List Step) (at : ℕ) → Stands old r place steps → Moved r place (answers.Node came) new (steps ++ made (answers.Node came) (wanted_at r place) at)
unfolding Stands
quit_on old new c path came was is short_is r place steps at st =
    let i : IsIn (states.Quitting c path) r place = subst (λ (s : State). IsIn s r place) was st.0 in
    at_place r place (at_quit c) (answers.Node came) new old.short steps at i.0 st.1
    (λ t. moved old new r (at_quit c) (at_free c) (answers.Node came) steps at t (was_quit c came)
    (subst (λ (s : State). IsIn s r (at_free c)) (sym is) refl) (short_is ∙ or_falses old.short (lacked came)))

-- ---- what came of the request for a session

named_on : (r : Reservation) (came : Came) (session : List ℕ) (caps : List Cap) → NamedBy came session caps → Moves r at_start (answers.Node came) (at_bind session caps)
named_on r _ _ _ (named_by answer session caps says) = named answer session caps says

pub answered_named : (short : Bool) (r : Reservation) (came : Came) (session : List ℕ) (caps : List Cap) (new : Carry) → NamedBy came session caps →
    new.state ≡ states.ToBind r session caps → new.short ≡ short → Answered short r came new
answered_named short r came session caps new h is short_is = record {
  to = at_bind session caps;
  moves = named_on r came session caps h;
  is_in = subst (λ (s : State). IsIn s r (at_bind session caps)) (sym is) (refl, refl);
  fresh = ap is_fresh_in is;
  less = subst (λ (s : State). work_in s < 4) (sym is) (omega arith);
  tokens = ap tokens_in is;
  short_is = short_is ∙ or_false short;
}

pub answered_fails : (short : Bool) (r : Reservation) (came : Came) (w : FailWhy) (new : Carry) → FailsAfter came w →
    new.state ≡ states.ToFail r w → new.short ≡ (short || is_lack w) → Answered short r came new
answered_fails short r came w new h is short_is = record {
  to = at_fail w;
  moves = failed_at_node came w h;
  is_in = subst (λ (s : State). IsIn s r (at_fail w)) (sym is) (refl, refl);
  fresh = ap is_fresh_in is;
  less = subst (λ (s : State). work_in s < 4) (sym is) (omega arith);
  tokens = ap tokens_in is;
  short_is = short_is;
}

-- ---- calls of the hub

pub bound_on : (old new : Carry) (number : ℕ) → old.state ≡ states.Binding → new.state ≡ states.Done ends.Bound → new.short ≡ old.short →
    (r : Reservation) (place : Place) (steps : List Step) (at : ℕ) → Stands old r place steps →
    Moved r place (answers.Bound (binding.Bound number)) new (steps ++ made (answers.Bound (binding.Bound number)) (wanted_at r place) at)
unfolding Stands
bound_on old new number was is short_is r place steps at st =
    let i : IsIn states.Binding r place = subst (λ (s : State). IsIn s r place) was st.0 in
    at_place r place (at_bind i.0 i.1) (answers.Bound (binding.Bound number)) new old.short steps at i.2 st.1
    (λ t. moved old new r (at_bind i.0 i.1) (at_end ends.Bound) (answers.Bound (binding.Bound number)) steps at t (was_bound i.0 i.1 number)
    (subst (λ (s : State). IsIn s r (at_end ends.Bound)) (sym is) refl) (short_is ∙ or_false old.short))

refused_want : (r : Reservation) (session : List ℕ) (caps : List Cap) (b : Binding) (answer : Reply) (c : Closing) (at : ℕ) → binding_reply b ≡ Some answer → Refuses answer c →
    met_want (made (answers.Bound b) (wanted_at r (at_bind session caps)) at) ≡ false
refused_want r session caps b answer c at e h = ap (λ (o : Option Reply). met_want (Called (Call.bind r session caps) at o ∷ [])) e

pub closed_on : (old new : Carry) (b : Binding) (answer : Reply) (c : Closing) → old.state ≡ states.Binding → binding_reply b ≡ Some answer → Refuses answer c → Closed old.short c new →
    (r : Reservation) (place : Place) (steps : List Step) (at : ℕ) → Stands old r place steps →
    Moved r place (answers.Bound b) new (steps ++ made (answers.Bound b) (wanted_at r place) at)
unfolding Stands
closed_on old new b answer c was e h closed r place steps at st =
    let i : IsIn states.Binding r place = subst (λ (s : State). IsIn s r place) was st.0 in
    at_place r place (at_bind i.0 i.1) (answers.Bound b) new old.short steps at i.2 st.1 (λ t. by_end i.0 i.1 t closed.to closed.closes (closed.is_in r))
  where
    by_end : (session : List ℕ) (caps : List Cap) → Standing old.short r (at_bind session caps) steps → (to : Place) → ClosesAt c to → IsIn new.state r to →
        Moved r (at_bind session caps) (answers.Bound b) new (steps ++ made (answers.Bound b) (wanted_at r (at_bind session caps)) at)
    by_end session caps t _ (by_quit quit) is_in = moved old new r (at_bind session caps) (at_quit c) (answers.Bound b) steps at t (to_quit session caps b answer c e h quit) is_in
        (closed.short_is ∙ or_false old.short ∙ ap (λ (m : Bool). old.short || (m || false)) (sym (refused_want r session caps b answer c at e h)))
    by_end session caps t _ (at_once quit) is_in = moved old new r (at_bind session caps) (at_free c) (answers.Bound b) steps at t (to_free session caps b answer c e h quit) is_in
        (closed.short_is ∙ or_false old.short ∙ ap (λ (m : Bool). old.short || (m || false)) (sym (refused_want r session caps b answer c at e h)))

pub lacked_on : (old new : Carry) (q : Reservation) (x : List ℕ) (path : SessionPath) → old.state ≡ states.Binding → new.state ≡ states.Returning q path → path_text path ≡ session_path x → new.short ≡ true →
    (r : Reservation) (place : Place) (steps : List Step) (at : ℕ) → Stands old r place steps → Fits (answers.Bound (binding.Memory q x)) (wanted_at r place) →
    Moved r place (answers.Bound (binding.Memory q x)) new (steps ++ made (answers.Bound (binding.Memory q x)) (wanted_at r place) at)
unfolding Stands
lacked_on old new q x path was is path_is short_is r place steps at st fits =
    let i : IsIn states.Binding r place = subst (λ (s : State). IsIn s r place) was st.0 in
    let back = subst (λ (p : Place). Fits (answers.Bound (binding.Memory q x)) (wanted_at r p)) i.2 fits in
    at_place r place (at_bind i.0 i.1) (answers.Bound (binding.Memory q x)) new old.short steps at i.2 st.1
    (λ t. moved old new r (at_bind i.0 i.1) (at_return i.0) (answers.Bound (binding.Memory q x)) steps at t (found_no_memory i.0 i.1 (binding.Memory q x) refl)
    (subst (λ (s : State). IsIn s r (at_return i.0)) (sym is) (back.0, i.0, refl, path_is ∙ ap session_path back.1)) (short_is ∙ or_true old.short))

or_again : (m l : Bool) → (m || l) ≡ ((m || l) || ((l || false) || false))
or_again true l = refl
or_again false true = refl
or_again false false = refl

failing_want : (r : Reservation) (w : FailWhy) (f : Failing) (at : ℕ) → met_want (made (answers.Failed f) (wanted_at r (at_fail w)) at) ≡ (is_lack w || false)
failing_want r w failing.Again at = refl
failing_want r w failing.Refused at = refl
failing_want r w failing.Late at = refl

pub failed_on : (old new : Carry) (f : Failing) → old.state ≡ states.Failing → new.state ≡ states.Done ends.NotBound → new.short ≡ old.short →
    (r : Reservation) (place : Place) (steps : List Step) (at : ℕ) → Stands old r place steps →
    Moved r place (answers.Failed f) new (steps ++ made (answers.Failed f) (wanted_at r place) at)
unfolding Stands
failed_on old new f was is short_is r place steps at st =
    let i : IsIn states.Failing r place = subst (λ (s : State). IsIn s r place) was st.0 in
    at_place r place (at_fail i.0) (answers.Failed f) new old.short steps at i.1 st.1
    (λ t. moved old new r (at_fail i.0) (at_end ends.NotBound) (answers.Failed f) steps at t (gave_up i.0 f)
    (subst (λ (s : State). IsIn s r (at_end ends.NotBound)) (sym is) refl)
    (short_is ∙ t.short_is ∙ or_again (met_want steps) (is_lack i.0) ∙ ap (λ (b : Bool). b || ((is_lack i.0 || false) || false)) (sym t.short_is)
    ∙ ap (λ (m : Bool). old.short || (m || false)) (sym (failing_want r i.0 f at))))

pub freed_on : (old new : Carry) → old.state ≡ states.Freeing → new.state ≡ states.Done ends.NotBound → new.short ≡ old.short →
    (r : Reservation) (place : Place) (steps : List Step) (at : ℕ) → Stands old r place steps →
    Moved r place answers.Freed new (steps ++ made answers.Freed (wanted_at r place) at)
unfolding Stands
freed_on old new was is short_is r place steps at st =
    let i : IsIn states.Freeing r place = subst (λ (s : State). IsIn s r place) was st.0 in
    at_place r place (at_free i.0) answers.Freed new old.short steps at i.1 st.1
    (λ t. moved old new r (at_free i.0) (at_end ends.NotBound) answers.Freed steps at t (was_freed i.0)
    (subst (λ (s : State). IsIn s r (at_end ends.NotBound)) (sym is) refl) (short_is ∙ or_false old.short))

-- ---- which state awaits an answer of a kind

pub binding_is : (s : State) → awaited_in s ≡ Some Bind → s ≡ states.Binding
binding_is states.Binding e = refl
binding_is (states.Asking r body) e = absurd cc
binding_is (states.ToBind r session caps) e = absurd cc
binding_is (states.Returning r path) e = absurd cc
binding_is (states.ToFail r w) e = absurd cc
binding_is states.Failing e = absurd cc
binding_is (states.Quitting c path) e = absurd cc
binding_is (states.ToFree c) e = absurd cc
binding_is states.Freeing e = absurd cc
binding_is (states.Done end) e = absurd cc

pub failing_is : (s : State) → awaited_in s ≡ Some Fail → s ≡ states.Failing
failing_is states.Binding e = absurd cc
failing_is (states.Asking r body) e = absurd cc
failing_is (states.ToBind r session caps) e = absurd cc
failing_is (states.Returning r path) e = absurd cc
failing_is (states.ToFail r w) e = absurd cc
failing_is states.Failing e = refl
failing_is (states.Quitting c path) e = absurd cc
failing_is (states.ToFree c) e = absurd cc
failing_is states.Freeing e = absurd cc
failing_is (states.Done end) e = absurd cc

pub freeing_is : (s : State) → awaited_in s ≡ Some Freed → s ≡ states.Freeing
freeing_is states.Binding e = absurd cc
freeing_is (states.Asking r body) e = absurd cc
freeing_is (states.ToBind r session caps) e = absurd cc
freeing_is (states.Returning r path) e = absurd cc
freeing_is (states.ToFail r w) e = absurd cc
freeing_is states.Failing e = absurd cc
freeing_is (states.Quitting c path) e = absurd cc
freeing_is (states.ToFree c) e = absurd cc
freeing_is states.Freeing e = refl
freeing_is (states.Done end) e = absurd cc
