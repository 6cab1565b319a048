use Rattle.std.proofs.Common.{◌≡◌, ℕ, List, length, Option, Result, Err, refl, ap, ◌∙◌, arith}
use Rattle.json_spans.specs.Grammar.{Tree}
use Rattle.json_spans.specs.OneWay.{ReadOneWay, RefusedOneWay, NotBoth}
use Rattle.json_spans.specs.declared.fault.JsonFault.{JsonFault}
use Rattle.caps_merge.specs.declared.registering.fault.RegFault.{RegFault}
use Rattle.caps_merge.specs.declared.registering.fault.RegFault.TheVariants as fault
use Rattle.caps_merge.specs.Placed.{placed}
use Rattle.caps_merge.specs.Beats.{BeatGives, no_bytes, too_large, not_json, json, name_of}
use Rattle.caps_merge.proofs.laws.beats_give_one_answer.Goals as goal

one : (body : List ℕ) → ReadOneWay body → RefusedOneWay body → NotBoth body → (r s : Result (Option (List ℕ)) RegFault) → BeatGives body r → BeatGives body s → r ≡ s
one body read refused both _ _ (no_bytes none) (no_bytes same) = refl
one body read refused both _ _ (no_bytes none) (too_large many) = absurd (omega arith)
one body read refused both _ _ (no_bytes none) (not_json f some few h) = absurd (some none)
one body read refused both _ _ (no_bytes none) (json before v after some few u h) = absurd (some none)
one body read refused both _ _ (too_large many) (no_bytes none) = absurd (omega arith)
one body read refused both _ _ (too_large many) (too_large more) = refl
one body read refused both _ _ (too_large many) (not_json f some few h) = absurd (omega arith)
one body read refused both _ _ (too_large many) (json before v after some few u h) = absurd (omega arith)
one body read refused both _ _ (not_json f some few h) (no_bytes none) = absurd (some none)
one body read refused both _ _ (not_json f some few h) (too_large many) = absurd (omega arith)
one body read refused both _ _ (not_json f some few h) (not_json g more less k) = ap (λ (j : JsonFault). Err (fault.NotJson j)) (refused f g h k)
one body read refused both _ _ (not_json f some few h) (json before v after more less u k) = absurd (both f before v after h u k)
one body read refused both _ _ (json before v after some few u h) (no_bytes none) = absurd (some none)
one body read refused both _ _ (json before v after some few u h) (too_large many) = absurd (omega arith)
one body read refused both _ _ (json before v after some few u h) (not_json f more less k) = absurd (both f before v after k u h)
one body read refused both _ _ (json before v after some few u h) (json space w left more less t k) =
    let o = read before space v w after left h.json k.json in
    ap (λ (x : List ℕ). name_of (placed (length x) v)) o.0 ∙ ap (λ (x : Tree). name_of (placed (length space) x)) o.1

pub returns : goal.returns
returns c = λ body. one body (c.a_text_is_read_one_way.ensures body) (c.a_text_is_refused_one_way.ensures.fault body) (c.a_text_is_refused_one_way.ensures.read body)
