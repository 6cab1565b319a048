-- How the reading of a farm goes on by one entry, and to its end.
use Rattle.std.proofs.Common.{◌≡◌, ℕ, ◌≤◌, List, [], ◌∷◌, inl, inr, refl, sym, ◌∙◌, ap, subst, arith}
use Rattle.grid_types.specs.declared.entry.Entry.{Entry}
use Rattle.grid_outside.specs.Counts.{Rose}
use Rattle.journal_reader.specs.declared.feed.ReadFault.{ReadFault}
use Rattle.journal_reader.specs.declared.feed.ReadFault.TheVariants as read_fault
use Rattle.journal_reader.specs.declared.reader.Ending.{Ending}
use Rattle.journal_reader.specs.declared.reader.JournalReader.{JournalReader}
use Rattle.journal_reader.specs.declared.reader.Next.{Next}
use Rattle.journal_reader.specs.declared.reader.Next.TheVariants as next
use Rattle.journal_reader.specs.declared.reader.Opened.TheVariants as opened
use Rattle.journal_reader.specs.Readings.{Told, Goes, HasRead}
use Rattle.grid_log.specs.Logging.{Begins}
use Rattle.grid_log.specs.Logs.{Input, reading_of}
use Rattle.grid_farm.specs.declared.farm.KnownFarm.{KnownFarm}
use Rattle.grid_farm.specs.declared.reading.Reading.{Reading}
use Rattle.grid_farm.specs.Farms.{Farm, farm_after, no_farm}
use Rattle.grid_farm.specs.Known.{known}
use Rattle.grid_farm.specs.Reads.{FaultEnds, HasNext, IsRead, ReadSoFar}

rose_later : (a b c : ℕ) → a ≤ b → Rose b c → Rose a c
rose_later a b c l (inl h) = inl (omega arith)
rose_later a b c l (inr h) = inr h

-- what the journal has next was read
pub next_read : (old mid now : Input) (before after : Reading) (n : Next) → ReadSoFar old mid before →
    ((start : Told) (H : List Entry) → HasRead start (reading_of mid) before.reader H → Goes start (reading_of now) after.reader H n) →
    after.farm ≡ before.farm → mid.faults ≤ now.faults → HasNext old now after n
next_read old mid now before after n s goes same faults = record {
  history = s.history;
  goes = goes (reading_of old) s.history s.has_read;
  farm_is = ap (λ (f : KnownFarm). known f) same ∙ s.farm_is;
  faults = omega (arith, s.faults, faults);
}

-- a read failed, or memory was wanted
pub read_stopped : (old mid now : Input) (reading : Reading) (why : ReadFault) → ReadSoFar old mid reading → (why ≡ read_fault.Read → Rose mid.faults now.faults) → FaultEnds old now why
read_stopped old mid now reading read_fault.Read s cause = rose_later old.faults mid.faults now.faults s.faults (cause refl)
read_stopped old mid now reading read_fault.Memory s cause = tt

-- the same, before the head was read
pub open_stopped : (old now : Input) (why : ReadFault) → (why ≡ read_fault.Read → Rose old.faults now.faults) → FaultEnds old now why
open_stopped old now read_fault.Read cause = cause refl
open_stopped old now read_fault.Memory cause = tt

-- an entry was taken note of
pub entry_noted : (old now : Input) (reading new : Reading) (n : Next) (entry : Entry) → HasNext old now reading n → n ≡ next.Entry entry →
    known new.farm ≡ farm_after (known reading.farm) entry → new.reader ≡ reading.reader → ReadSoFar old now new
entry_noted old now reading new n entry has is noted reader =
    let h : HasNext old now reading (next.Entry entry) = subst (λ (m : Next). HasNext old now reading m) is has in
    record {
      history = entry ∷ h.history;
      has_read = subst (λ (r : JournalReader). HasRead (reading_of old) (reading_of now) r (entry ∷ h.history)) (sym reader) h.goes;
      farm_is = noted ∙ ap (λ (f : Farm). farm_after f entry) h.farm_is;
      faults = h.faults;
    }

-- the journal has ended
pub journal_read : (old now : Input) (reading : Reading) (n : Next) (e : Ending) → HasNext old now reading n → n ≡ next.Ends e → IsRead old now (known reading.farm) e
journal_read old now reading n e has is =
    let h : HasNext old now reading (next.Ends e) = subst (λ (m : Next). HasNext old now reading m) is has in
    record { config = reading.reader.config; history = h.history; ended = h.goes; farm_is = h.farm_is }

-- nothing was read yet
pub read_none : (old now : Input) (reading : Reading) → Begins old now (opened.Journal reading.reader) → known reading.farm ≡ no_farm → ReadSoFar old now reading
read_none old now reading b none = record { history = []; has_read = b.opens; farm_is = none; faults = b.read_faults }
