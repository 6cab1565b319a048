-- What the words of the program ask for.
use Rattle.std.specs.Prelude.{ℕ, List, [], ◌∷◌, Option, None, Some, codes, bytes_eq, if◌then◌else◌}
use Rattle.grid_report.specs.declared.words.Report.{Report}
use Rattle.grid_report.specs.declared.words.Report.TheVariants as report

-- the report that one word asks for
abbrev pub report_named : List ℕ → Option Report
report_named word =
    if bytes_eq word (codes "--metrics")
    then Some report.Metrics
    else if bytes_eq word (codes "--page") then Some report.Page else None

-- the report that the words ask for
abbrev pub report_of : List (List ℕ) → Option Report
report_of (word ∷ []) = report_named word
report_of words = None
