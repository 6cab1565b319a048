-- What a step of a seat does, by what was wanted.
use Rattle.std.proofs.Common.{◌≡◌, ℕ, Bool, true, false, List, refl, sym, ap, subst, ◌∙◌}
use Rattle.std.specs.Prelude.{Option, None, Some, Result}
use Rattle.grid_outside.specs.Told.{ClockView, LinkView, Tick}
use Rattle.grid_outside.specs.declared.exchange.Ask.{Ask}
use Rattle.grid_outside.specs.Exchanges.{Came, CameSo, ask_of}
use Rattle.http_frames.specs.declared.writing.NodeRequest.{NodeRequest}
use Rattle.hub_cell.specs.declared.hub.SharedHub.{SharedHub}
use Rattle.hub_cell.specs.declared.hub.Pass.{Pass}
use Rattle.conn_script.specs.declared.wants.Answer.TheVariants as told
use Rattle.conn_script.specs.declared.wants.ConnFault.{ConnFault}
use Rattle.conn_script.specs.declared.wants.Served.{Served}
use Rattle.conn_script.specs.declared.wants.Want.{Want}
use Rattle.conn_script.specs.declared.wants.Want.TheVariants as wants
use Rattle.conn_script.specs.Wanted.{IsCall, Shows, Wanted, to_read, to_write, to_begin, to_call, to_ask, to_pause, over}
use Rattle.hub_conn.specs.declared.talk.Talk.{Talk}
use Rattle.hub_conn.specs.Talk.{Feeds, HandsOut, IsNew}
use Rattle.hub_conn.specs.WantLaws.{WantLaws}
use Rattle.hub_workers.specs.World.{Knowledge, World, world_of}
use Rattle.hub_serving.specs.Outside.{Outside, outside_of}
use Rattle.hub_serving.specs.Serving.{EndedSo, Serving, Turned}
use Rattle.hub_serving.specs.declared.stepping.Act.{Act}
use Rattle.hub_serving.specs.declared.stepping.Act.TheVariants as acts
use Rattle.hub_serving.specs.Seats.{AsksFor, GoesSo, Sits, TakesPiece, TakesReply, seen_by}
use Rattle.hub_workers.specs.SharedClock.{SharedTells}
use Rattle.hub_serving.proofs.TurnLemmas.{asked_turn, begin_turn, read_turn}
use Rattle.hub_serving.proofs.ServedLemmas.{serving_start}

-- a want that is no exchange
abbrev pub IsNoAsk : Want → Type 0
IsNoAsk (wants.Node address request) = ⊥
IsNoAsk (wants.Read most) = Unit {0}
IsNoAsk (wants.Write unsent) = Unit {0}
IsNoAsk wants.Begin = Unit {0}
IsNoAsk wants.Hub = Unit {0}
IsNoAsk (wants.Pause ms) = Unit {0}
IsNoAsk (wants.Done result) = Unit {0}

pub seen_same : {S C : Type 0} (view : C → ClockView) (p q : Pass) (st su : S) (m n : C) (l k : LinkView) → p ≡ q → st ≡ su → m ≡ n → l ≡ k →
    seen_by view p st m l ≡ seen_by view q su n k
seen_same {S} {C} view p q st su m n l k pass state clock line =
    ap (λ (x : Pass). seen_by view x st m l) pass ∙ (ap (λ (x : S). seen_by view q x m l) state ∙ (ap (λ (x : C). seen_by view q su x l) clock ∙ ap (λ (x : LinkView). seen_by view q su n x) line))

module _ (asks : Option (List ℕ × Ask) → Type 0) where
  keeps_asks : (later : Option (List ℕ × Ask) → Type 0) → ((under : Option (List ℕ × Ask)) → asks under → later under) → (w : Wanted) → AsksFor asks w → AsksFor later w
  keeps_asks later keeps (to_ask address ask) h = keeps (Some (address, ask)) h
  keeps_asks later keeps (to_read most) h = absurd h
  keeps_asks later keeps (to_write unsent) h = absurd h
  keeps_asks later keeps to_begin h = absurd h
  keeps_asks later keeps (to_call call) h = absurd h
  keeps_asks later keeps (to_pause ms) h = absurd h
  keeps_asks later keeps (over result) h = absurd h

  no_call : (w : Wanted) → IsCall w → AsksFor asks w → ⊥
  no_call (to_ask address ask) is h = is
  no_call (to_read most) is h = is
  no_call (to_write unsent) is h = is
  no_call to_begin is h = is
  no_call (to_call call) is h = h
  no_call (to_pause ms) is h = is
  no_call (over result) is h = is

  no_ask : (want : Want) (w : Wanted) → IsNoAsk want → Shows want w → AsksFor asks w → ⊥
  no_ask (wants.Node address request) w plain shows h = plain
  no_ask (wants.Read most) w plain shows h = subst (λ (x : Wanted). AsksFor asks x) shows h
  no_ask (wants.Write unsent) w plain shows h = subst (λ (x : Wanted). AsksFor asks x) shows h
  no_ask wants.Begin w plain shows h = subst (λ (x : Wanted). AsksFor asks x) shows h
  no_ask wants.Hub w plain shows h = no_call w shows h
  no_ask (wants.Pause ms) w plain shows h = subst (λ (x : Wanted). AsksFor asks x) shows h
  no_ask (wants.Done result) w plain shows h = subst (λ (x : Wanted). AsksFor asks x) shows h

  asked_for : (w : Wanted) → AsksFor asks w → (address : List ℕ) × (ask : Ask) × (w ≡ to_ask address ask) × asks (Some (address, ask))
  asked_for (to_ask address ask) h = (address, ask, refl, h)
  asked_for (to_read most) h = absurd h
  asked_for (to_write unsent) h = absurd h
  asked_for to_begin h = absurd h
  asked_for (to_call call) h = absurd h
  asked_for (to_pause ms) h = absurd h
  asked_for (over result) h = absurd h

  is_idle : (asking : Bool) → (asking ≡ true → ⊥) → (asking ≡ false → asks None) → asks None
  is_idle true never idle = absurd (never refl)
  is_idle false never idle = idle refl

module _ {S N C : Type 0} (hub : SharedHub) (gives : S → List ℕ → Ask → Came → S → Type 0) (asks : N → Option (List ℕ × Ask) → Type 0)
    (tells : C → Tick → ℕ → C → Type 0) (view : C → ClockView) where
  asks_so : (first : Outside S C) (talk : Talk) (o : Outside S C) (want : Want) (address : List ℕ) (request : NodeRequest) → (s : Serving hub gives (SharedTells tells view) first talk o) →
      HandsOut talk want → want ≡ wants.Node address request → s.want ≡ to_ask address (ask_of request)
  asks_so first talk o want address request s hands is = subst (λ (y : Want). Shows y s.want) is (hands.tells None s.want s.bytes s.steps s.written s.stands).shows

  -- where nothing outside has changed
  pub stays : (first : Outside S C) (talk : Talk) (nodes : N) (asking : Bool) (before after : Outside S C) → after ≡ before →
      Sits hub gives asks tells view first talk nodes asking before → Sits hub gives asks tells view first talk nodes asking after
  stays first talk nodes asking before after e s = subst (λ (o : Outside S C). Sits hub gives asks tells view first talk nodes asking o) (sym e) s

  pub rests : (talk : Talk) (nodes : N) (asking : Bool) (before after : Outside S C) → after ≡ before →
      (after ≡ before) × ((first : Outside S C) → Sits hub gives asks tells view first talk nodes asking before → Sits hub gives asks tells view first talk nodes asking after)
  rests talk nodes asking before after e = (e, λ first s. stays first talk nodes asking before after e s)

  -- a connection that begins
  pub begins_seated : (talk : Talk) (nodes : N) (first o : Outside S C) → first ≡ o → IsNew talk → asks nodes None → Sits hub gives asks tells view first talk nodes false o
  begins_seated talk nodes first o e new idle = subst (λ (f : Outside S C). Sits hub gives asks tells view f talk nodes false o) (sym e)
      (record { serving = serving_start hub gives (SharedTells tells view) talk o new; asked = λ e. absurd cc; idle = λ e. idle })

  -- a want that is no exchange was done
  pub goes_on : (talk new : Talk) (want : Want) (nodes : N) (asking : Bool) (before after : Outside S C) → HandsOut talk want → IsNoAsk want →
      Turned hub gives (SharedTells tells view) talk before None new after →
      (first : Outside S C) → Sits hub gives asks tells view first talk nodes asking before → Sits hub gives asks tells view first new nodes false after
  goes_on talk new want nodes asking before after hands plain turned first s = record {
    serving = turned first s.serving;
    asked = λ e. absurd cc;
    idle = λ e. is_idle (asks nodes) asking
        (λ was. no_ask (asks nodes) want s.serving.want plain (hands.tells None s.serving.want s.serving.bytes s.serving.steps s.serving.written s.serving.stands).shows (s.asked was)) s.idle;
  }

  -- a piece was read and taken in, or there is none
  pub took_piece : (laws : WantLaws) (act : Act) (talk new : Talk) (want : Want) (most : ℕ) (nodes : N) (asking asking' : Bool) (w : World S C) (l m : LinkView) → HandsOut talk want → want ≡ wants.Read most →
      TakesPiece act most talk l asking new m asking' →
      GoesSo hub gives asks tells view act talk nodes asking (outside_of w l) new nodes asking' (outside_of w m)
  took_piece laws acts.GoesOn talk new want most nodes asking asking' w l m hands is taken = λ first s.
      subst (λ (b : Bool). Sits hub gives asks tells view first new nodes b (outside_of w m)) (sym taken.3)
      (goes_on talk new want nodes asking (outside_of w l) (outside_of w m) hands (subst IsNoAsk (sym is) tt)
      (read_turn hub gives (SharedTells tells view) laws talk new want most taken.0 w l m hands is taken.1 taken.2) first s)
  took_piece laws (acts.Rests rest) talk new want most nodes asking asking' w l m hands is taken =
      let same = ap (λ (x : LinkView). outside_of w x) taken.1 in (
        same,
        λ first s.
            subst (λ (b : Bool). Sits hub gives asks tells view first new nodes b (outside_of w m)) (sym taken.2)
            (subst (λ (t : Talk). Sits hub gives asks tells view first t nodes asking (outside_of w m)) (sym taken.0)
            (stays first talk nodes asking (outside_of w l) (outside_of w m) same s)),
      )
  took_piece laws (acts.Over result) talk new want most nodes asking asking' w l m hands is taken = absurd taken

  -- what goes before a request was done
  pub begun : (talk new : Talk) (want : Want) (nodes : N) (asking asking' : Bool) (o : Outside S C) → HandsOut talk want → want ≡ wants.Begin → Feeds talk told.Begun new → asking' ≡ false →
      (first : Outside S C) → Sits hub gives asks tells view first talk nodes asking o → Sits hub gives asks tells view first new nodes asking' o
  begun talk new want nodes asking asking' o hands is feeds off first s =
      subst (λ (b : Bool). Sits hub gives asks tells view first new nodes b o) (sym off)
      (goes_on talk new want nodes asking o o hands (subst IsNoAsk (sym is) tt) (begin_turn hub gives (SharedTells tells view) talk new want o hands is feeds) first s)

  pub ends : (talk later : Talk) (nodes : N) (asking : Bool) (result : Result Served ConnFault) (o : Outside S C) → Turned hub gives (SharedTells tells view) talk o (Some result) later o →
      (first : Outside S C) → Sits hub gives asks tells view first talk nodes asking o → EndedSo hub gives (SharedTells tells view) first result o
  ends talk later nodes asking result o turned first s = turned first s.serving

  -- an exchange is begun, goes on, or has given this
  begun_from : (talk : Talk) (want : Want) (address : List ℕ) (request : NodeRequest) (nodes later : N) (asking : Bool) (o : Outside S C) → HandsOut talk want →
      want ≡ wants.Node address request → asks later (Some (address, ask_of request)) →
      (first : Outside S C) → Sits hub gives asks tells view first talk nodes asking o → Sits hub gives asks tells view first talk later true o
  begun_from talk want address request nodes later asking o hands is begun first s = record {
    serving = s.serving;
    asked = λ was. subst (λ (w : Wanted). AsksFor (asks later) w) (sym (asks_so first talk o want address request s.serving hands is)) begun;
    idle = λ e. absurd cc;
  }

  pub begins : (talk : Talk) (want : Want) (address : List ℕ) (request : NodeRequest) (nodes later : N) (asking : Bool) (before after : Outside S C) → HandsOut talk want →
      want ≡ wants.Node address request → asks later (Some (address, ask_of request)) → after ≡ before →
      (first : Outside S C) → Sits hub gives asks tells view first talk nodes asking before → Sits hub gives asks tells view first talk later true after
  begins talk want address request nodes later asking before after hands is begun e first s =
      stays first talk later true before after e (begun_from talk want address request nodes later asking before hands is begun first s)

  waits_from : (talk : Talk) (nodes later : N) (asking : Bool) (o : Outside S C) → ((under : Option (List ℕ × Ask)) → asks nodes under → asks later under) →
      (first : Outside S C) → Sits hub gives asks tells view first talk nodes asking o → Sits hub gives asks tells view first talk later asking o
  waits_from talk nodes later asking o keeps first s = record {
    serving = s.serving;
    asked = λ was. keeps_asks (asks nodes) (asks later) keeps s.serving.want (s.asked was);
    idle = λ none. keeps None (s.idle none);
  }

  pub waits : (talk : Talk) (nodes later : N) (asking : Bool) (before after : Outside S C) → ((under : Option (List ℕ × Ask)) → asks nodes under → asks later under) →
      after ≡ before → (first : Outside S C) → Sits hub gives asks tells view first talk nodes asking before → Sits hub gives asks tells view first talk later asking after
  waits talk nodes later asking before after keeps e first s =
      stays first talk later asking before after e (waits_from talk nodes later asking before keeps first s)

  has_answered : (talk new : Talk) (came : Came) (v : Knowledge) (nodes later : N) (asking : Bool) (faults : S → ℕ) (st st' : S) (m : C) (time : ClockView) (l : LinkView) →
      Feeds talk (told.Node came) new → asking ≡ true →
      ((a : List ℕ) (k : Ask) → asks nodes (Some (a, k)) → CameSo gives faults st a k came st') → asks later None →
      (first : Outside S C) → Sits hub gives asks tells view first talk nodes asking (outside_of (world_of v st m time) l) →
      Sits hub gives asks tells view first new later false (outside_of (world_of v st' m time) l)
  has_answered talk new came v nodes later asking faults st st' m time l feeds was gave idle first s =
      let x = asked_for (asks nodes) s.serving.want (s.asked was) in
      record {
        serving = asked_turn hub gives (SharedTells tells view) first talk new x.0 x.1 came v st st' m time l s.serving x.2 feeds (gave x.0 x.1 x.3).gave;
        asked = λ e. absurd cc;
        idle = λ e. idle;
      }

  -- what has come of the exchange under way was taken in, or nothing has come
  pub replied : (act : Act) (talk new : Talk) (v : Knowledge) (nodes later : N) (asking asking' : Bool) (faults : S → ℕ) (st st' : S) (m : C) (time : ClockView) (l : LinkView) → asking ≡ true →
      TakesReply gives asks faults act talk st nodes asking new st' later asking' →
      GoesSo hub gives asks tells view act talk nodes asking (outside_of (world_of v st m time) l) new later asking' (outside_of (world_of v st' m time) l)
  replied acts.GoesOn talk new v nodes later asking asking' faults st st' m time l was taken = λ first s.
      subst (λ (b : Bool). Sits hub gives asks tells view first new later b (outside_of (world_of v st' m time) l)) (sym taken.4)
      (has_answered talk new taken.0 v nodes later asking faults st st' m time l taken.1 was taken.2 taken.3 first s)
  replied (acts.Rests rest) talk new v nodes later asking asking' faults st st' m time l was taken =
      let same = ap (λ (x : S). outside_of (world_of v x m time) l) taken.1 in (
        same,
        λ first s.
            subst (λ (b : Bool). Sits hub gives asks tells view first new later b (outside_of (world_of v st' m time) l)) (sym taken.3)
            (subst (λ (t : Talk). Sits hub gives asks tells view first t later asking (outside_of (world_of v st' m time) l)) (sym taken.0)
            (waits talk nodes later asking (outside_of (world_of v st m time) l) (outside_of (world_of v st' m time) l) taken.2 same first s)),
      )
  replied (acts.Over result) talk new v nodes later asking asking' faults st st' m time l was taken = absurd taken
