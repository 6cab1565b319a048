use Rattle.std.proofs.Common.{◌-◌, ◌≤◌, ℕ, List, ◌++◌, length, take}
use Rattle.http_frames.specs.declared.frames.FrameLimits.{FrameLimits}
use Rattle.http_frames.specs.Feeding.{Fed, StandsForSome}
use Rattle.grid_teams_top.proofs.heads.feed_head.Given as goal

-- the reader was fed so many of the bytes
abbrev pub invariant-parts : goal.invariant-parts
invariant-parts l = record {
  stands : StandsForSome l.reader;
  within : l.at ≤ length l.bytes;
  fed : (limits : FrameLimits) (before : List ℕ) → Fed limits l.fn.reader before → Fed limits l.reader (before ++ take l.at l.bytes);
}

abbrev pub decreases-parts : goal.decreases-parts
decreases-parts l = length l.bytes - l.at
