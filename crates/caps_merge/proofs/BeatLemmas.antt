-- The body of a beat.
use Rattle.std.proofs.Common.{◌≡◌, ◌≢◌, ℕ, ◌<◌, ◌≤◌, ◌==◌, Bool, true, false, List, length, Option, Some, Result, Ok, Err, IsUtf8, ap, subst, ◌∙◌, arith}
use Rattle.std.proofs.lemmas.Bool.Decides.{nat_tests}
use Rattle.json_spans.specs.Parts.{Part, IsCut}
use Rattle.json_spans.specs.Cut.{Refuses}
use Rattle.json_spans.specs.Inside.{Pair}
use Rattle.json_spans.specs.declared.fault.JsonFault.{JsonFault}
use Rattle.json_spans.specs.declared.fault.JsonFault.TheVariants as json_fault
use Rattle.caps_merge.specs.declared.registering.fault.RegField.TheVariants as field
use Rattle.caps_merge.specs.declared.registering.fault.RegFault.{RegFault}
use Rattle.caps_merge.specs.declared.registering.fault.RegFault.TheVariants as fault
use Rattle.caps_merge.specs.Placed.{placed, Member}
use Rattle.caps_merge.specs.Reading.{and_then}
use Rattle.caps_merge.specs.Registering.{read_fields}
use Rattle.caps_merge.specs.RegFaults.{reg_fault}
use Rattle.caps_merge.specs.RegShown.{FieldsRead}
use Rattle.caps_merge.specs.Beats.{BeatGives, name_by, name_of, not_json, json}
use Rattle.caps_merge.proofs.RegLemmas.{named}

-- whether there are bytes, as their number tells
pub no_byte : (n : ℕ) (b : Bool) → b ≡ (n == 0) → b ≡ true → n ≡ 0
no_byte n b e none = grind (arith, nat_tests)

pub some_bytes : (n : ℕ) (b : Bool) → b ≡ (n == 0) → b ≡ false → n ≢ 0
some_bytes n b e some none = let more : 0 < n = grind (arith, nat_tests) in omega (arith, more, none)

abbrev by_name : Result (List ℕ) RegFault → Result (Option (List ℕ)) RegFault
by_name r = and_then r (λ name. Ok (Some name))

pub name_told : (ms : List Member) (name : List ℕ) → named ms ≡ Ok name → name_by ms ≡ Ok (Some name)
name_told ms name e = ap by_name e

pub name_wrong : (ms : List Member) (f : RegFault) → named ms ≡ Err f → name_by ms ≡ Err f
name_wrong ms f e = ap by_name e

abbrev by_fields : Result (List Member) RegFault → Result (Option (List ℕ)) RegFault
by_fields r = and_then r name_by

module _ (body : List ℕ) (some : length body ≢ 0) (few : length body ≤ 16384) where
  gives : (p : Part) (r : Result (Option (List ℕ)) RegFault) → IsUtf8 body → (h : IsCut body p) → name_of (placed (length h.0) h.1) ≡ r → BeatGives body r
  gives p r utf8 h e = subst (BeatGives body) e (json h.0 h.1 h.2 some few utf8 h.3)

  pub beat_gives_name : (p : Part) (ps : List Pair) (r : Result (Option (List ℕ)) RegFault) → IsUtf8 body → (h : IsCut body p) →
      (a : FieldsRead (placed (length h.0) h.1) field.Body ps) → name_by a.ms ≡ r → BeatGives body r
  beat_gives_name p ps r utf8 h a e = gives p r utf8 h (ap by_fields a.are ∙ e)

  pub beat_gives_no_fields : (p : Part) (f : RegFault) → IsUtf8 body → (h : IsCut body p) → read_fields (placed (length h.0) h.1) field.Body ≡ Err f → BeatGives body (Err f)
  beat_gives_no_fields p f utf8 h e = gives p (Err f) utf8 h (ap by_fields e)

  pub beat_gives_no_json : (f : JsonFault) → Refuses body f → reg_fault f ≢ fault.Memory → BeatGives body (Err (reg_fault f))
  beat_gives_no_json json_fault.NotUtf8 h ne = not_json json_fault.NotUtf8 some few h
  beat_gives_no_json (json_fault.Syntax at) h ne = not_json (json_fault.Syntax at) some few h
  beat_gives_no_json (json_fault.Deep at) h ne = not_json (json_fault.Deep at) some few h
  beat_gives_no_json (json_fault.Repeated first again) h ne = absurd h
  beat_gives_no_json (json_fault.Many at) h ne = absurd h
  beat_gives_no_json json_fault.Memory h ne = absurd h
