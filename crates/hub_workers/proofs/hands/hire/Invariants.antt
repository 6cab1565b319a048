use Rattle.std.proofs.Common.{◌≡◌, ◌+◌, ◌≤◌, [], ◌++◌, All, vec_len, vec_capacity}
use Rattle.hub_cell.specs.Passes.{IsOf, knows, spares_of}
use Rattle.hub_workers.specs.Hands.{GoesOn, IsBehind, IsReady, backwards, tool_of}
use Rattle.hub_workers.proofs.hands.hire.Given as goal

-- so many workers have a pass and a tool
abbrev pub invariant-loop : goal.invariant-loop
invariant-loop g l = record {
  own : IsOf l.hub l.pass;
  goes : GoesOn (knows l.fn.pass) (knows l.pass);
  ended : (knows l.pass).ended ≡ (knows l.fn.pass).ended;
  spent : (knows l.pass).spent ≡ (knows l.fn.pass).spent;
  spares : spares_of l.fn.pass ≤ spares_of l.pass + l.counter;
  hired : vec_len l.hands ≡ l.counter;
  left : vec_len l.tools + l.counter ≡ vec_len l.fn.tools;
  hands_room : vec_capacity l.hands ≡ vec_capacity l.fn.hands;
  tools_room : vec_capacity l.tools ≡ vec_capacity l.fn.tools;
  tools_are : l.tools.items ++ backwards tool_of l.hands.items [] ≡ l.fn.tools.items;
  ready : All (IsReady l.hub) l.hands.items;
  behind : All (IsBehind (knows l.fn.pass).seen) l.hands.items;
}
