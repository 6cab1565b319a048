-- What is told and handed out, by state.
use Rattle.std.proofs.Common.{◌≡◌, ℕ, ◌<◌, Bool, true, false, ◌||◌, List, [], ◌++◌, refl, sym, ap, subst, ◌∙◌, append-nil}
use Rattle.std.specs.Prelude.{Some, is_some}
use Rattle.grid_types.specs.declared.capabilities.Cap.{Cap}
use Rattle.grid_types.specs.declared.entry.FailWhy.{FailWhy}
use Rattle.grid_types.specs.declared.entry.FailWhy.TheVariants as why
use Rattle.grid_types.specs.Permitted.{is_start_failure}
use Rattle.grid_types.specs.Tokens.{Reservation, Closing}
use Rattle.http_frames.specs.declared.writing.NodeRequest.{NodeRequest}
use Rattle.grid_outside.specs.Exchanges.{ask_of}
use Rattle.wd_bodies.specs.Bodies.{start_bytes}
use Rattle.node_client.specs.declared.path.SessionPath.{SessionPath}
use Rattle.node_client.specs.declared.wants.CarryAnswer.{CarryAnswer}
use Rattle.node_client.specs.declared.wants.CarryEnd.{CarryEnd}
use Rattle.node_client.specs.declared.wants.CarryWant.{CarryWant}
use Rattle.node_client.specs.declared.wants.CarryWant.TheVariants as wants
use Rattle.node_client.specs.declared.carry.Carry.{Carry}
use Rattle.node_client.specs.declared.carry.State.{State}
use Rattle.node_client.specs.declared.carry.State.TheVariants as states
use Rattle.node_client.specs.Asks.{with_body, with_path}
use Rattle.node_client.specs.Held.{tokens_in, carry_tokens, told_tokens}
use Rattle.node_client.specs.Paths.{path_text}
use Rattle.node_client.specs.Steps.{Step}
use Rattle.node_client.specs.Start.{Start, unwritten}
use Rattle.node_client.specs.Places.{Place, at_start, at_bind, at_return, at_fail, at_quit, at_free, wanted_at, to_ask, Shows, IsBind, IsFail, IsFreed, made, Fits}
use Rattle.node_client.specs.Carrying.{FailsRightly, Kind, Standing, Stands, IsIn, IsNew, HandsOut, Readies, FinishedAt, Takes, Feeds, Moved, awaited, held, is_fresh, work, awaited_in, held_in, is_fresh_in, work_in}

-- ---- the beginning

pub new_start : (c : Carry) (r : Reservation) (body : List ℕ) → c.state ≡ states.Asking r body → body ≡ start_bytes r.wanted → c.short ≡ false → IsNew c r
unfolding Stands is_fresh carry_tokens awaited held
new_start c r body is body_is short_is = record {
  tokens = ap tokens_in is;
  is_open = ap (λ (s : State). is_some (awaited_in s) || is_some (held_in s)) is;
  fresh = ap is_fresh_in is;
  place = at_start;
  stands = (subst (λ (s : State). IsIn s r at_start) (sym is) (refl, refl, body_is), record { leads = λ more f. f; short_is = short_is; bound_is = refl; cause = tt });
  begins = tt;
}

pub new_lack : (c : Carry) (r : Reservation) → c.state ≡ states.ToFail r why.NoMemory → c.short ≡ true → IsNew c r
unfolding Stands is_fresh carry_tokens awaited held
new_lack c r is short_is = record {
  tokens = ap tokens_in is;
  is_open = ap (λ (s : State). is_some (awaited_in s) || is_some (held_in s)) is;
  fresh = ap is_fresh_in is;
  place = at_fail why.NoMemory;
  stands = (subst (λ (s : State). IsIn s r (at_fail why.NoMemory)) (sym is) (refl, refl), record { leads = λ more f. unwritten f; short_is = short_is; bound_is = refl; cause = refl });
  begins = tt;
}

-- ---- wants

hands : (c : Carry) (want : CarryWant) (s : State) → c.state ≡ s → Readies c want → ((r : Reservation) (place : Place) → IsIn s r place → Shows want (wanted_at r place)) →
    ((r : Reservation) (place : Place) (steps : List Step) → IsIn s r place → Standing c.short r place steps → FinishedAt place r steps) → HandsOut c want
unfolding Stands
hands c want s is readies shows finished = record {
  readies = readies;
  tells = λ r place steps st.
      let i : IsIn s r place = subst (λ (z : State). IsIn z r place) is st.0 in
      record { shows = shows r place i; finished = finished r place steps i st.1 };
}

goes_on : (place p : Place) (r : Reservation) (steps : List Step) → place ≡ p → FinishedAt p r steps → FinishedAt place r steps
goes_on place p r steps e f = subst (λ (x : Place). FinishedAt x r steps) (sym e) f

pub hands_asking : (c : Carry) (q : Reservation) (body address : List ℕ) (request : NodeRequest) → c.state ≡ states.Asking q body → address ≡ q.address → ask_of request ≡ with_body body →
    HandsOut c (wants.Node address request)
unfolding awaited held
hands_asking c q body address request is a k = hands c (wants.Node address request) (states.Asking q body) is (ap awaited_in is, ap held_in is)
    (λ r place i.
    let same = subst (λ (x : Reservation). wanted_at x at_start ≡ to_ask address (ask_of request)) i.0
    (sym (ap (λ (x : List ℕ). to_ask x (ask_of request)) a ∙ ap (to_ask q.address) (k ∙ ap with_body i.2))) in
    ap (wanted_at r) i.1 ∙ same)
    (λ r place steps i st. goes_on place at_start r steps i.1 tt)

pub hands_returning : (c : Carry) (q : Reservation) (path : SessionPath) (address : List ℕ) (request : NodeRequest) → c.state ≡ states.Returning q path → address ≡ q.address →
    ask_of request ≡ with_path (path_text path) → HandsOut c (wants.Node address request)
unfolding awaited held
hands_returning c q path address request is a k = hands c (wants.Node address request) (states.Returning q path) is (ap awaited_in is, ap held_in is)
    (λ r place i.
    let same = subst (λ (x : Reservation). wanted_at x (at_return i.1) ≡ to_ask address (ask_of request)) i.0
    (sym (ap (λ (x : List ℕ). to_ask x (ask_of request)) a ∙ ap (to_ask q.address) (k ∙ ap with_path i.3))) in
    ap (wanted_at r) i.2 ∙ same)
    (λ r place steps i st. goes_on place (at_return i.1) r steps i.2 tt)

pub hands_quitting : (c : Carry) (t : Closing) (path : SessionPath) (address : List ℕ) (request : NodeRequest) → c.state ≡ states.Quitting t path → address ≡ t.address →
    ask_of request ≡ with_path (path_text path) → HandsOut c (wants.Node address request)
unfolding awaited held
hands_quitting c t path address request is a k = hands c (wants.Node address request) (states.Quitting t path) is (ap awaited_in is, ap held_in is)
    (λ r place i. ap (wanted_at r) i.0 ∙ sym (ap (λ (x : List ℕ). to_ask x (ask_of request)) a ∙ ap (to_ask t.address) (k ∙ ap with_path i.1)))
    (λ r place steps i st. goes_on place (at_quit t) r steps i.0 tt)

pub hands_bind : (c : Carry) (q : Reservation) (x : List ℕ) (cs : List Cap) → c.state ≡ states.ToBind q x cs → HandsOut c wants.Bind
unfolding awaited held
hands_bind c q x cs is = hands c wants.Bind (states.ToBind q x cs) is (ap held_in is, ap awaited_in is)
    (λ r place i. subst (λ (p : Place). IsBind (wanted_at r p)) (sym i.1) tt) (λ r place steps i st. goes_on place (at_bind x cs) r steps i.1 tt)

pub hands_fail : (c : Carry) (q : Reservation) (w : FailWhy) → c.state ≡ states.ToFail q w → HandsOut c wants.Fail
unfolding awaited held
hands_fail c q w is = hands c wants.Fail (states.ToFail q w) is (ap held_in is, ap awaited_in is)
    (λ r place i. subst (λ (p : Place). IsFail (wanted_at r p)) (sym i.1) tt) (λ r place steps i st. goes_on place (at_fail w) r steps i.1 tt)

pub hands_freed : (c : Carry) (t : Closing) → c.state ≡ states.ToFree t → HandsOut c wants.Freed
unfolding awaited held
hands_freed c t is = hands c wants.Freed (states.ToFree t) is (ap held_in is, ap awaited_in is)
    (λ r place i. subst (λ (p : Place). IsFreed (wanted_at r p)) (sym i) tt) (λ r place steps i st. goes_on place (at_free t) r steps i tt)

pub hands_end : (c : Carry) (e : CarryEnd) → c.state ≡ states.Done e → HandsOut c (wants.Done e)
unfolding awaited held carry_tokens
hands_end c e is = hands c (wants.Done e) (states.Done e) is (ap awaited_in is, ap held_in is, ap tokens_in is) (λ r place i. ap (wanted_at r) i)
    (λ r place steps i st. subst (λ (p : Place). Standing c.short r p steps → FinishedAt p r steps) (sym i)
    (λ t. record { start = subst (λ (xs : List Step). Start r xs) (append-nil steps) (t.leads [] refl); bound_is = t.bound_is }) st)

-- ---- calls

pub takes : (old new : Carry) (s t : State) (k : Kind) → old.state ≡ s → new.state ≡ t → new.short ≡ old.short → awaited_in t ≡ Some k → work_in t ≡ work_in s →
    ((r : Reservation) (place : Place) → IsIn s r place → IsIn t r place) → Takes old k new
unfolding Stands awaited work
takes old new s t k was is short_is waits same moves = record {
  waits = ap awaited_in is ∙ waits;
  work_is = ap work_in is ∙ same ∙ sym (ap work_in was);
  stands = λ r place steps st.
      (subst (λ (z : State). IsIn z r place) (sym is) (moves r place (subst (λ (z : State). IsIn z r place) was st.0)), subst (λ (b : Bool). Standing b r place steps) (sym short_is) st.1);
}

pub known : (c : Carry) (s : State) (r : Reservation) (place : Place) (steps : List Step) → c.state ≡ s → Stands c r place steps → IsIn s r place
unfolding Stands
known c s r place steps is st = subst (λ (z : State). IsIn z r place) is st.0

-- ---- answers

pub feeds : (old new : Carry) (answer : CarryAnswer) (s t : State) → old.state ≡ s → new.state ≡ t → is_fresh_in t ≡ true → work_in t < work_in s →
    tokens_in t ≡ told_tokens answer ++ tokens_in s →
    ((r : Reservation) (place : Place) (steps : List Step) (at : ℕ) → Stands old r place steps → Fits answer (wanted_at r place) → Moved r place answer new (steps ++ made answer (wanted_at r place) at)) →
    Feeds old answer new
unfolding is_fresh work carry_tokens
feeds old new answer s t was is fresh less tokens moved = record {
  fresh = ap is_fresh_in is ∙ fresh;
  less = subst (λ (n : ℕ). work_in new.state < n) (sym (ap work_in was)) (subst (λ (n : ℕ). n < work_in s) (sym (ap work_in is)) less);
  tokens = ap tokens_in is ∙ tokens ∙ ap (λ (x : State). told_tokens answer ++ tokens_in x) (sym was);
  moved = moved;
}

pub fail_cause : (c : Carry) (q : Reservation) (w : FailWhy) → c.state ≡ states.ToFail q w → (r : Reservation) (place : Place) (steps : List Step) → Stands c r place steps → is_start_failure w ≡ true
unfolding Stands
fail_cause c q w is r place steps st =
    let i : IsIn (states.ToFail q w) r place = subst (λ (z : State). IsIn z r place) is st.0 in
    subst (λ (p : Place). FailsRightly p) i.1 st.1.cause
