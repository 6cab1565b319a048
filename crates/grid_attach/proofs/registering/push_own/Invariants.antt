use Rattle.std.proofs.Common.{◌≡◌, ◌++◌, take}
use Rattle.grid_attach.proofs.registering.push_own.Given as goal

abbrev pub invariant-own : goal.invariant-own
invariant-own l = l.caps ≡ l.initial.caps ++ take l.item-index l.items
