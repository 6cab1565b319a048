-- How the rows that a hub keeps are spelled in bytes, and which rows can be spelled.
use Rattle.std.specs.Prelude.{ℕ, List, ◌∷◌, ◌++◌}
use Rattle.grid_journal.specs.declared.rows.Row.{Row}
use Rattle.grid_journal.specs.declared.rows.Row.TheVariants as row
use Rattle.grid_journal.specs.Spelled.{four_bytes, eight_bytes, slot_bytes, short_bytes, caps_bytes, choices_bytes, registration_bytes, why_bytes}
use Rattle.grid_journal.specs.Fits.{FitsFour, FitsEight, SlotFits, SessionFits, CapsFit, ChoicesFit, RegistrationFits, WhyFits}

abbrev pub row_bytes : Row → List ℕ
row_bytes (row.Register node at) = 1 ∷ registration_bytes node ++ eight_bytes at.0
row_bytes (row.Beat n at) = 2 ∷ four_bytes n ++ eight_bytes at.0
row_bytes (row.Drain n at) = 3 ∷ four_bytes n ++ eight_bytes at.0
row_bytes (row.Remove n at) = 4 ∷ four_bytes n ++ eight_bytes at.0
row_bytes (row.Enqueue choices at) = 5 ∷ choices_bytes choices ++ eight_bytes at.0
row_bytes (row.Poll r at) = 6 ∷ eight_bytes r ++ eight_bytes at.0
row_bytes (row.Dispatch at) = 7 ∷ eight_bytes at.0
row_bytes (row.Bind r x caps at) = 8 ∷ eight_bytes r ++ (short_bytes x ++ (caps_bytes caps ++ eight_bytes at.0))
row_bytes (row.Fail r w at) = 9 ∷ eight_bytes r ++ (why_bytes w ++ eight_bytes at.0)
row_bytes (row.Touch x b at) = 10 ∷ short_bytes x ++ (eight_bytes b ++ eight_bytes at.0)
row_bytes (row.End x b at) = 11 ∷ short_bytes x ++ (eight_bytes b ++ eight_bytes at.0)
row_bytes (row.Freed s) = 12 ∷ slot_bytes s
row_bytes (row.Sweep at) = 13 ∷ eight_bytes at.0
row_bytes (row.Expire at) = 14 ∷ eight_bytes at.0
row_bytes (row.Clear at) = 15 ∷ eight_bytes at.0

abbrev pub RowFits : Row → Type 0
RowFits (row.Register node at) = RegistrationFits node × FitsEight at.0
RowFits (row.Beat n at) = FitsFour n × FitsEight at.0
RowFits (row.Drain n at) = FitsFour n × FitsEight at.0
RowFits (row.Remove n at) = FitsFour n × FitsEight at.0
RowFits (row.Enqueue choices at) = ChoicesFit choices × FitsEight at.0
RowFits (row.Poll r at) = FitsEight r × FitsEight at.0
RowFits (row.Dispatch at) = FitsEight at.0
RowFits (row.Bind r x caps at) = FitsEight r × (SessionFits x × (CapsFit caps × FitsEight at.0))
RowFits (row.Fail r w at) = FitsEight r × (WhyFits w × FitsEight at.0)
RowFits (row.Touch x b at) = SessionFits x × (FitsEight b × FitsEight at.0)
RowFits (row.End x b at) = SessionFits x × (FitsEight b × FitsEight at.0)
RowFits (row.Freed s) = SlotFits s
RowFits (row.Sweep at) = FitsEight at.0
RowFits (row.Expire at) = FitsEight at.0
RowFits (row.Clear at) = FitsEight at.0
