-- The text of a summary.
use Rattle.std.specs.Prelude.{ℕ, List, ◌++◌, codes, decimal}
use Rattle.grid_simulate.specs.declared.summary.Summary.{Summary}

-- a line: a name, a space and a decimal number
abbrev pub line : List ℕ → ℕ → List ℕ
line name number = name ++ codes " " ++ decimal number ++ codes "\n"

-- the eleven lines
abbrev pub summary_text : ℕ → Summary → List ℕ
summary_text number s =
    line (codes "simulate") number
    ++ line (codes "queued") s.queued
    ++ line (codes "created") s.created
    ++ line (codes "timed out") s.timed_out
    ++ line (codes "refused") s.refused
    ++ line (codes "cleared") s.cleared
    ++ line (codes "waiting") s.waiting
    ++ line (codes "retried") s.retried
    ++ line (codes "ended") s.ended
    ++ line (codes "lapsed") s.lapsed
    ++ line (codes "live") s.live
