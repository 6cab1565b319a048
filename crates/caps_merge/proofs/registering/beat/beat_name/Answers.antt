use Rattle.std.proofs.Common.{◌≢◌, List, Err, subst, sym}
use Rattle.json_spans.specs.Inside.{Pair}
use Rattle.json_spans.specs.Span.{part_of}
use Rattle.caps_merge.specs.declared.registering.fault.RegFault.{RegFault}
use Rattle.caps_merge.specs.declared.registering.fault.RegFault.TheVariants as fault
use Rattle.caps_merge.specs.Beats.{BeatGives, no_bytes, too_large}
use Rattle.caps_merge.specs.Shown.{ShowMembers}
use Rattle.caps_merge.proofs.EntryLemmas.{if_ok, if_err}
use Rattle.caps_merge.proofs.GivenLemmas.{value_of, shown}
use Rattle.caps_merge.proofs.BeatLemmas.{no_byte, some_bytes, beat_gives_name, beat_gives_no_fields, beat_gives_no_json}
use Rattle.caps_merge.proofs.registering.beat.beat_name.Goals as goal

pub returns-then-is_empty-clause-ok : goal.returns-then-is_empty-clause-ok
returns-then-is_empty-clause-ok c = no_bytes (no_byte _ _ c.is_empty.ensures c.if-is_empty.true)

pub returns-then-body-gt-MAX_BODY-clause-err : goal.returns-then-body-gt-MAX_BODY-clause-err
returns-then-body-gt-MAX_BODY-clause-err c = λ ne. too_large c.if-body-gt-MAX_BODY.true

pub fields_of-requires : goal.fields_of-requires
fields_of-requires c =
    let cut = c.in-Ok.ensures.ok.1 in
    (value_of c.args.body.now (part_of c.in-Ok.span) cut, shown c.args.body.now (part_of c.in-Ok.span) cut)

pub name_by-requires : goal.name_by-requires
name_by-requires c =
    let cut = c.in-Ok.ensures.ok.1 in
    let a = c.in-Ok-fields_of.ensures.ok (value_of c.args.body.now (part_of c.in-Ok.span) cut) (shown c.args.body.now (part_of c.in-Ok.span) cut) in
    (a.ms, subst (λ (ps : List Pair). ShowMembers ps a.ms) (sym c.items.ensures) a.shown)

pub returns-in-Ok-fields_of-clause-ok : goal.returns-in-Ok-fields_of-clause-ok
returns-in-Ok-fields_of-clause-ok c =
    let cut = c.in-Ok.ensures.ok.1 in
    let a = c.in-Ok-fields_of.ensures.ok (value_of c.args.body.now (part_of c.in-Ok.span) cut) (shown c.args.body.now (part_of c.in-Ok.span) cut) in
    if_ok c.name_by.result _ _
    (λ r by. beat_gives_name c.args.body.now (some_bytes _ _ c.is_empty.ensures c.if-is_empty.false) c.if-body-gt-MAX_BODY.false (part_of c.in-Ok.span) c.in-Ok-fields_of.list _ c.in-Ok.ensures.ok.0 cut a
    (by a.ms (subst (λ (ps : List Pair). ShowMembers ps a.ms) (sym c.items.ensures) a.shown)))
    c.name_by.ensures.ok

pub returns-in-Ok-fields_of-clause-err : goal.returns-in-Ok-fields_of-clause-err
returns-in-Ok-fields_of-clause-err c =
    let cut = c.in-Ok.ensures.ok.1 in
    let a = c.in-Ok-fields_of.ensures.ok (value_of c.args.body.now (part_of c.in-Ok.span) cut) (shown c.args.body.now (part_of c.in-Ok.span) cut) in
    if_err c.name_by.result _ _
    (λ f by ne. beat_gives_name c.args.body.now (some_bytes _ _ c.is_empty.ensures c.if-is_empty.false) c.if-body-gt-MAX_BODY.false (part_of c.in-Ok.span) c.in-Ok-fields_of.list _ c.in-Ok.ensures.ok.0 cut a
    (by ne a.ms (subst (λ (ps : List Pair). ShowMembers ps a.ms) (sym c.items.ensures) a.shown)))
    c.name_by.ensures.err

pub returns-in-Err-fields_of-clause-err : goal.returns-in-Err-fields_of-clause-err
returns-in-Err-fields_of-clause-err c = λ ne.
    let cut = c.in-Ok.ensures.ok.1 in
    beat_gives_no_fields c.args.body.now (some_bytes _ _ c.is_empty.ensures c.if-is_empty.false) c.if-body-gt-MAX_BODY.false (part_of c.in-Ok.span) c.in-Err-fields_of.fault c.in-Ok.ensures.ok.0 cut
    (c.in-Err-fields_of.ensures.err ne (value_of c.args.body.now (part_of c.in-Ok.span) cut) (shown c.args.body.now (part_of c.in-Ok.span) cut))

pub returns-in-Err-clause-err : goal.returns-in-Err-clause-err
returns-in-Err-clause-err c =
    subst (λ (f : RegFault). f ≢ fault.Memory → BeatGives c.args.body.now (Err f)) (sym c.from.ensures)
    (beat_gives_no_json c.args.body.now (some_bytes _ _ c.is_empty.ensures c.if-is_empty.false) c.if-body-gt-MAX_BODY.false c.in-Err.fault c.in-Err.ensures.refused)
