use Rattle.std.proofs.Common.{◌≡◌, ℕ, ◌+◌, ◌-◌, ◌^◌, ◌≤◌, [], ◌++◌, All, vec_len, vec_capacity}
use Rattle.hub_cell.specs.Passes.{IsOf, knows, spares_of}
use Rattle.hub_workers.specs.Hands.{GoesOn, MayEnd, MayRise, backwards, left_by, spends, tool_of}
use Rattle.hub_workers.proofs.hands.take_back.Given as goal

-- so many passes were joined, and their tools are back
abbrev pub invariant-loop : goal.invariant-loop
invariant-loop g l = record {
  own : IsOf l.hub l.pass;
  goes : GoesOn (knows l.fn.pass) (knows l.pass);
  ended : (knows l.pass).ended ++ backwards left_by l.hands.items [] ≡ (knows l.fn.pass).ended ++ backwards left_by l.fn.hands.items [];
  spends_are : (knows l.pass).spent + spends l.hands.items ≡ (knows l.fn.pass).spent + spends l.fn.hands.items;
  spent_is : MayRise (knows l.fn.pass).spent l.spent (knows l.pass).spent;
  tools_are : l.tools.items ++ backwards tool_of l.hands.items [] ≡ l.fn.tools.items ++ backwards tool_of l.fn.hands.items [];
  each : All (MayEnd l.hub) l.hands.items;
  left : vec_len l.hands + l.counter ≡ vec_len l.fn.hands;
  count : vec_len l.tools ≡ vec_len l.fn.tools + l.counter;
  room : vec_capacity l.tools ≡ vec_capacity l.fn.tools;
  spares : (s : ℕ) → s ≤ 2 ^ 32 - 1 → s ≤ spares_of l.fn.pass + l.counter → s ≤ spares_of l.pass;
}
