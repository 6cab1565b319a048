-- Workers that are taken on one after the other, and whose passes are joined so.
use Rattle.std.proofs.Common.{◌≡◌, ℕ, ◌+◌, List, [], ◌∷◌, ◌++◌, All, sym, ap, subst, ◌∙◌, append-nil, arith}
use Rattle.std.specs.Prelude.{Option, Err}
use Rattle.grid_types.specs.declared.spent.Spent.{Spent}
use Rattle.turn_cell.specs.declared.views.Ended.{Ended}
use Rattle.turn_cell.specs.Steps.{ended_of, merged}
use Rattle.hub_cell.specs.declared.hub.SharedHub.{SharedHub}
use Rattle.hub_cell.specs.Passes.{knows}
use Rattle.hub_workers.specs.World.{Knowledge}
use Rattle.hub_workers.specs.declared.hands.Hand.{Hand}
use Rattle.hub_workers.specs.declared.tools.CrewFault.{CrewFault}
use Rattle.hub_workers.specs.declared.tools.CrewFault.TheVariants as fault
use Rattle.hub_workers.specs.declared.tools.Tool.{Tool}
use Rattle.hub_workers.specs.Hands.{CountsSpent, CountsSplit, GoesOn, IsBack, IsBehind, IsHired, IsReady, IsSplitOff, MayRise, backwards, left_by, spends, tool_of}
use Rattle.hub_workers.proofs.GoesLemmas.{goes_both}
use Rattle.hub_workers.proofs.ListLemmas.{given_back, total_last}

counts : (e : CrewFault) (start before after : ℕ) → before ≡ start → CountsSplit before (Err e) after → CountsSpent start (Err e) after
counts fault.Memory start before after level is = is ∙ level
counts (fault.Spent s) start before after level rose = omega (arith, level, rose)

-- no further pass could be split off
pub hired_so_far : {N C : Type 0} (hub : SharedHub) (old mid new : Knowledge) (tools left : List (Tool N C)) (hands : List (Hand N C)) (e : CrewFault) →
    GoesOn old mid → mid.ended ≡ old.ended → mid.spent ≡ old.spent → left ++ backwards tool_of hands [] ≡ tools → All (IsReady hub) hands → All (IsBehind old.seen) hands →
    IsSplitOff hub mid (Err e) new → IsHired hub old tools (Err e) new left hands
hired_so_far hub old mid new tools left hands e goes ended spent tools_are ready behind s = record {
  goes = goes_both old mid new goes s.goes;
  ended = s.ended ∙ ended;
  spent = counts e old.spent mid.spent new.spent spent s.spent;
  tools_are = tools_are;
  ready = ready;
  behind = behind;
}

-- a pass that has joined none is one more that ended
pub ended_more : {N C : Type 0} (old other new : Knowledge) (h : Hand N C) (hands hands' : List (Hand N C)) (whole : List Ended) → new ≡ merged old other → other ≡ knows h.pass → other.ended ≡ [] →
    old.ended ++ backwards left_by hands [] ≡ whole → hands ≡ hands' ++ h ∷ [] → new.ended ++ backwards left_by hands' [] ≡ whole
ended_more old other new h hands hands' whole is own none before shorter =
    given_back left_by old.ended new.ended whole hands hands' h (ended_of other) before shorter
    (ap (λ (v : Knowledge). v.ended) is ∙ ap (λ es. old.ended ++ ended_of other ∷ es) none) (ap ended_of (sym own))

-- and its count goes over
pub spends_more : {N C : Type 0} (old other new : Knowledge) (h : Hand N C) (hands hands' : List (Hand N C)) (whole : ℕ) → new ≡ merged old other → other ≡ knows h.pass →
    old.spent + spends hands ≡ whole → hands ≡ hands' ++ h ∷ [] → new.spent + spends hands' ≡ whole
spends_more old other new h hands hands' whole is own before shorter =
    let sum = ap (λ (v : Knowledge). v.spent) is in
    let last = ap spends shorter ∙ total_last (λ k. (knows k.pass).spent) hands' h in
    let same = ap (λ (v : Knowledge). v.spent) own in
    omega (arith, sum, last, before, same)

-- what the counts of spent looks tell
pub rises_more : (start : ℕ) (spent told : Option Spent) (old other new : Knowledge) (own : ℕ) → ((start count : ℕ) → MayRise start spent count → MayRise start told (count + own)) →
    new ≡ merged old other → other.spent ≡ own → MayRise start spent old.spent → MayRise start told new.spent
rises_more start spent told old other new own tells is one before =
    let sum : new.spent ≡ old.spent + own = ap (λ (v : Knowledge). v.spent) is ∙ ap (λ n. old.spent + n) one in
    subst (λ n. MayRise start told n) (sym sum) (tells start old.spent before)

-- all passes are joined
pub all_back : {N C : Type 0} (old new : Knowledge) (tools after : List (Tool N C)) (hands left : List (Hand N C)) (spent : Option Spent) → left ≡ [] → GoesOn old new →
    new.ended ++ backwards left_by left [] ≡ old.ended ++ backwards left_by hands [] → new.spent + spends left ≡ old.spent + spends hands → MayRise old.spent spent new.spent →
    after ++ backwards tool_of left [] ≡ tools ++ backwards tool_of hands [] → IsBack old tools hands spent new after
all_back old new tools after hands left spent none goes ended spends_are spent_is tools_are =
    let nothing = ap spends none in record {
      goes = goes;
      ended = sym (append-nil new.ended) ∙ (ap (λ hs. new.ended ++ backwards left_by hs []) (sym none) ∙ ended);
      spends_are = omega (arith, nothing, spends_are);
      spent_is = spent_is;
      tools_are = sym (append-nil after) ∙ (ap (λ hs. after ++ backwards tool_of hs []) (sym none) ∙ tools_are);
    }
