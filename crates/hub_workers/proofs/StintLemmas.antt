-- The stints of a crew, from what its workers did.
use Rattle.std.proofs.Common.{◌≡◌, inl, inr, ℕ, List, [], ◌∷◌, ◌++◌, map, All, refl, sym, ap, ◌∙◌, arith}
use Rattle.std.specs.Prelude.{Option, None, Some, Result, Ok, Err}
use Rattle.std.specs.List.{AllZip}
use Rattle.std.proofs.lemmas.List.Elements.{All-cons, All-nil}
use mathlib.Core.List.{IsPrefix}
use Rattle.grid_types.specs.declared.spent.Spent.{Spent}
use Rattle.grid_outside.specs.Told.{ClockView, Tick}
use Rattle.grid_outside.specs.declared.exchange.Ask.{Ask}
use Rattle.grid_outside.specs.Exchanges.{Came}
use Rattle.turn_cell.specs.declared.views.Ended.{Ended}
use Rattle.turn_cell.specs.Steps.{ended_of}
use Rattle.hub_cell.specs.declared.hub.SharedHub.{SharedHub}
use Rattle.hub_cell.specs.Passes.{knows}
use Rattle.hub_workers.specs.Turns.{spent_after}
use Rattle.hub_workers.specs.World.{Knowledge}
use Rattle.hub_workers.specs.declared.hands.Hand.{Hand}
use Rattle.hub_workers.specs.declared.tools.CrewFault.{CrewFault}
use Rattle.hub_workers.specs.declared.tools.CrewFault.TheVariants as fault
use Rattle.hub_workers.specs.declared.tools.Tool.{Tool}
use Rattle.hub_workers.specs.Crews.{AllWorked, CrewDid, IsStint, NoneWorked, Stint}
use Rattle.hub_workers.specs.Hands.{HandDid, IsBack, IsBehind, IsFresh, IsHired, IsReady, MayEnd, backwards, left_by, spends, tool_of}
use Rattle.hub_workers.proofs.GoesLemmas.{goes_both}
use Rattle.hub_workers.proofs.ListLemmas.{all_head, all_tail}

module _ {N C : Type 0} (hub : SharedHub) (gives : N → List ℕ → Ask → Came → N → Type 0) (tells : C → Tick → ℕ → C → Type 0) (shows : C → ClockView) (turns : ℕ) (before : Knowledge) where
  -- what a worker did as a stint
  abbrev stint_of : Hand N C → Hand N C → Stint (Tool N C)
  stint_of h k = record { known = knows h.pass; tool = h.tool; end = k.end; known_after = knows k.pass; tool_after = k.tool }

  is_stint : (h k : Hand N C) → HandDid hub gives tells shows turns h k → IsBehind before.seen h → IsStint hub gives tells shows turns before (stint_of h k)
  is_stint h k did behind = record { fresh = did.fresh; behind = behind; worked = did.worked; is_legal = did.is_legal; is_safe = did.is_safe }

  -- the stints, in the order of the tools
  pub record Collected (tools tools_after : List (Tool N C)) (left : List Ended) : Type 0 where
    pub stints : List (Stint (Tool N C))
    pub each : All (IsStint hub gives tells shows turns before) stints
    pub tools_are : map (λ s. s.tool) stints ≡ tools
    pub tools_after_are : map (λ s. s.tool_after) stints ≡ tools_after
    pub left_are : map (λ s. ended_of s.known_after) stints ≡ left

  collect : (hs ks : List (Hand N C)) → AllZip (HandDid hub gives tells shows turns) hs ks → All (IsBehind before.seen) hs →
      (done : List (Stint (Tool N C))) → All (IsStint hub gives tells shows turns before) done →
      Collected (backwards tool_of hs (map (λ s. s.tool) done)) (backwards tool_of ks (map (λ s. s.tool_after) done)) (backwards left_by ks (map (λ s. ended_of s.known_after) done))
  collect [] [] did behind done all = record { stints = done; each = all; tools_are = refl; tools_after_are = refl; left_are = refl }
  collect [] (k ∷ ks) did behind done all = absurd did
  collect (h ∷ hs) [] did behind done all = absurd did
  collect (h ∷ hs) (k ∷ ks) did behind done all =
      collect hs ks did.1 (all_tail (IsBehind before.seen) h hs behind) (stint_of h k ∷ done)
      (All-cons (IsStint hub gives tells shows turns before) (stint_of h k) done (is_stint h k did.0 (all_head (IsBehind before.seen) h hs behind)) all)

  pub collected : (hs ks : List (Hand N C)) → AllZip (HandDid hub gives tells shows turns) hs ks → All (IsBehind before.seen) hs →
      Collected (backwards tool_of hs []) (backwards tool_of ks []) (backwards left_by ks [])
  collected hs ks did behind = collect hs ks did behind [] (All-nil (IsStint hub gives tells shows turns before))

abbrev Waits : Knowledge → Knowledge → Type 0
Waits before v = IsFresh v × IsPrefix before.seen v.seen

-- the passes of workers that have not begun
pub record Waited (before : Knowledge) (left : List Ended) : Type 0 where
  pub passes : List Knowledge
  pub each : All (λ v. IsFresh v × IsPrefix before.seen v.seen) passes
  pub left_are : map ended_of passes ≡ left

module _ {N C : Type 0} (hub : SharedHub) (before : Knowledge) where
  wait : (hs : List (Hand N C)) → All (IsReady hub) hs → All (IsBehind before.seen) hs → (done : List Knowledge) → All (Waits before) done → Waited before (backwards left_by hs (map ended_of done))
  wait [] ready behind done all = record { passes = done; each = all; left_are = refl }
  wait (h ∷ hs) ready behind done all =
      wait hs (all_tail (IsReady hub) h hs ready) (all_tail (IsBehind before.seen) h hs behind) (knows h.pass ∷ done)
      (All-cons (Waits before) (knows h.pass) done ((all_head (IsReady hub) h hs ready).fresh, all_head (IsBehind before.seen) h hs behind) all)

  pub waited : (hs : List (Hand N C)) → All (IsReady hub) hs → All (IsBehind before.seen) hs → Waited before (backwards left_by hs [])
  waited hs ready behind = wait hs ready behind [] (All-nil (Waits before))

  pub unspent : (hs : List (Hand N C)) → All (IsReady hub) hs → spends hs ≡ 0
  unspent [] ready = refl
  unspent (h ∷ hs) ready =
      let rest = unspent hs (all_tail (IsReady hub) h hs ready) in
      let own = (all_head (IsReady hub) h hs ready).fresh.spent in
      omega (arith, rest, own)

  -- they may be joined
  pub ready_ends : (h : Hand N C) → IsReady hub h → MayEnd hub h
  ready_ends h r = record { own = r.own; ended = r.fresh.ended; spent = r.fresh.spent ∙ sym (ap (spent_after 0) r.unbegun) }

-- workers that worked may be joined too
pub did_end : {N C : Type 0} (hub : SharedHub) (gives : N → List ℕ → Ask → Came → N → Type 0) (tells : C → Tick → ℕ → C → Type 0) (shows : C → ClockView) (turns : ℕ)
    (hs ks : List (Hand N C)) → AllZip (HandDid hub gives tells shows turns) hs ks → All (MayEnd hub) ks
did_end hub gives tells shows turns [] [] did = All-nil (MayEnd hub)
did_end hub gives tells shows turns [] (k ∷ ks) did = absurd did
did_end hub gives tells shows turns (h ∷ hs) [] did = absurd did
did_end hub gives tells shows turns (h ∷ hs) (k ∷ ks) did = All-cons (MayEnd hub) k ks did.0.ends (did_end hub gives tells shows turns hs ks did.1)

module _ {N C : Type 0} (hub : SharedHub) (gives : N → List ℕ → Ask → Came → N → Type 0) (tells : C → Tick → ℕ → C → Type 0) (shows : C → ClockView) (turns : ℕ)
    (old hired new : Knowledge) (tools left after : List (Tool N C)) where
  none_worked : (hs : List (Hand N C)) (result : Result (Unit {0}) CrewFault) (o : Option Spent) → IsHired hub old tools result hired left hs → IsBack hired left hs o new after →
      NoneWorked hub gives tells shows turns old tools new after
  none_worked hs result o h b =
      let w = waited hub old hs h.ready h.behind in record {
        idlers = record {
          passes = w.passes;
          each = w.each;
          ended = b.ended ∙ (ap (λ es. es ++ backwards left_by hs []) h.ended ∙ ap (λ es. old.ended ++ es) (sym w.left_are));
        };
        tools_are = b.tools_are ∙ h.tools_are;
      }

  -- a pass could not be split off
  pub crew_lacks : (hs : List (Hand N C)) (e : CrewFault) (o : Option Spent) → IsHired hub old tools (Err e) hired left hs → IsBack hired left hs o new after →
      CrewDid hub gives tells shows turns old tools (Err e) new after
  crew_lacks hs fault.Memory o h b =
      let none = unspent hub old hs h.ready in
      let total_is = b.spends_are in
      let spent = h.spent in record {
        goes = goes_both old hired new h.goes b.goes;
        worked = none_worked hs (Err fault.Memory) o h b;
        spent = omega (arith, none, total_is, spent);
      }
  crew_lacks hs (fault.Spent s) o h b =
      let total_is = b.spends_are in
      let spent = h.spent in record {
        goes = goes_both old hired new h.goes b.goes;
        worked = inr (none_worked hs (Err (fault.Spent s)) o h b);
        spent = omega (arith, total_is, spent);
      }

  all_worked : (hs ks : List (Hand N C)) (o : Option Spent) → left ≡ [] → IsHired hub old tools (Ok tt) hired left hs → AllZip (HandDid hub gives tells shows turns) hs ks →
      IsBack hired left ks o new after → AllWorked hub gives tells shows turns old tools new after
  all_worked hs ks o none h did b =
      let w = collected hub gives tells shows turns old hs ks did h.behind in record {
        stints = w.stints;
        each = w.each;
        tools_are = w.tools_are ∙ (sym (ap (λ ts. ts ++ backwards tool_of hs []) none) ∙ h.tools_are);
        tools_after_are = w.tools_after_are ∙ (sym (ap (λ ts. ts ++ backwards tool_of ks []) none) ∙ sym b.tools_are);
        ended = b.ended ∙ (ap (λ es. es ++ backwards left_by ks []) h.ended ∙ ap (λ es. old.ended ++ es) (sym w.left_are));
      }

  pub crew_done : (hs ks : List (Hand N C)) → left ≡ [] → IsHired hub old tools (Ok tt) hired left hs → AllZip (HandDid hub gives tells shows turns) hs ks →
      IsBack hired left ks None new after → CrewDid hub gives tells shows turns old tools (Ok tt) new after
  crew_done hs ks none h did b = record {
    goes = goes_both old hired new h.goes b.goes;
    worked = all_worked hs ks None none h did b;
    spent = b.spent_is ∙ h.spent;
  }

  pub crew_spent : (hs ks : List (Hand N C)) (s : Spent) → left ≡ [] → IsHired hub old tools (Ok tt) hired left hs → AllZip (HandDid hub gives tells shows turns) hs ks →
      IsBack hired left ks (Some s) new after → CrewDid hub gives tells shows turns old tools (Err (fault.Spent s)) new after
  crew_spent hs ks s none h did b =
      let rose = b.spent_is in
      let level = h.spent in record {
        goes = goes_both old hired new h.goes b.goes;
        worked = inl (all_worked hs ks (Some s) none h did b);
        spent = omega (arith, rose, level);
      }
