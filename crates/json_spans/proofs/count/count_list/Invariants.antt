use Rattle.std.proofs.Common.{length, ◌-◌, ◌≡◌, ◌≤◌, ◌<◌}
use Rattle.json_spans.specs.Grammar.{Tree}
use Rattle.json_spans.specs.Parts.{Spells}
use Rattle.json_spans.specs.Span.{part_of}
use Rattle.json_spans.proofs.Counting.{Counted}
use Rattle.json_spans.proofs.count.count_list.Given as goal

abbrev pub invariant-loop-at : goal.invariant-loop-at
invariant-loop-at l = record {
  bound : l.at ≤ length l.bytes;
  few : l.count < l.at;
  same : l.bytes ≡ l.span.bytes.now;
  left : (v : Tree) → Spells (part_of l.span) v → Counted l.bytes l.span.place l.at l.count v;
}

abbrev pub decreases-loop-at : goal.decreases-loop-at
decreases-loop-at l = length l.bytes - l.at
