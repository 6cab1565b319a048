use Rattle.std.proofs.Common.{◌≡◌, ◌-◌, [], length, drop, arith, ap, ◌∙◌, refl, map, length-take, length-append}
use Rattle.std.proofs.lemmas.List.{length-map}
use Rattle.json_spans.specs.Span.{pair_of}
use Rattle.json_spans.proofs.Lists.{spelled}
use Rattle.json_spans.proofs.Objects.{first_within, empty_members, first_members, name_read, member_read, name_there, member_there, members_within}
use Rattle.json_spans.proofs.Utf8.{slice_utf8}
use Rattle.json_spans.proofs.object.all_members.Goals as goal

pub bounds-bytes-first : goal.bounds-bytes-first
bounds-bytes-first c = let w = first_within c.args.span.bytes.now c.args.span.place c.args.span.valid c.requires in omega (arith, w.0, c.spaces_end-first.ensures.value)

pub spaces_end-first-requires : goal.spaces_end-first-requires
spaces_end-first-requires c = (first_within c.args.span.bytes.now c.args.span.place c.args.span.valid c.requires).1

pub returns-then-bytes-first-eq125-clause-ok : goal.returns-then-bytes-first-eq125-clause-ok
returns-then-bytes-first-eq125-clause-ok c = λ v h.
    ap (map pair_of) c.new-found.ensures.items ∙ empty_members c.args.span.bytes.now c.args.span.place c.spaces_end-first.result c.spaces_end-first.ensures.value c.if-bytes-first-eq125.true v h

pub loop-at-init : goal.loop-at-init
loop-at-init c =
    let w = first_within c.args.span.bytes.now c.args.span.place c.args.span.valid c.requires in
    let none : map pair_of c.new-found.result.items ≡ [] = ap (map pair_of) c.new-found.ensures.items in
    record {
      bound = w.1;
      few = rw none (omega arith);
      same = refl;
      left = λ v h. rw none (first_members c.args.span.bytes.now c.args.span.place c.spaces_end-first.result c.requires c.spaces_end-first.ensures.value c.if-bytes-first-eq125.false v h);
    }

pub overflow_add-behind : goal.overflow_add-behind
overflow_add-behind c =
    let done = map pair_of c.loop-at.found.items in
    let v = spelled c.args.span.place c.args.span.bytes.now c.args.span.valid in
    let r = name_read c.args.span.bytes.now c.args.span.place c.loop-at.at done v.0 (c.loop-at.invariant.left v.0 v.1) c.in-Ok.name.from c.in-Ok.name.to c.in-Ok.name.end c.in-Ok.ensures.from c.in-Ok.ensures.to c.in-Ok.ensures.end in
    omega (arith, r.inside, c.ranges.span.0)

pub places_at-requires-in-loop-at : goal.places_at-requires-in-loop-at
places_at-requires-in-loop-at c =
    let done = map pair_of c.loop-at.found.items in
    let v = spelled c.args.span.place c.args.span.bytes.now c.args.span.valid in
    let r = name_read c.args.span.bytes.now c.args.span.place c.loop-at.at done v.0 (c.loop-at.invariant.left v.0 v.1) c.in-Ok.name.from c.in-Ok.name.to c.in-Ok.name.end c.in-Ok.ensures.from c.in-Ok.ensures.to c.in-Ok.ensures.end in
    omega (arith, r.inside)

pub returns-then-len-eq-MAX_MEMBERS-clause-refused : goal.returns-then-len-eq-MAX_MEMBERS-clause-refused
returns-then-len-eq-MAX_MEMBERS-clause-refused c = (
  refl,
  λ v h.
      let done = map pair_of c.loop-at.found.items in
      let r = member_read c.args.span.bytes.now c.args.span.place c.loop-at.at done v (c.loop-at.invariant.left v h) c.in-Ok.name.from c.in-Ok.name.to c.in-Ok.name.end c.in-Ok.ensures.from c.in-Ok.ensures.to c.in-Ok.ensures.end c.in-Ok-places_at.value.from c.in-Ok-places_at.value.to c.in-Ok-places_at.value.end c.in-Ok-places_at.ensures.from c.in-Ok-places_at.ensures.to c.in-Ok-places_at.ensures.end in
      omega (arith, r.some, length-map c.loop-at.found.items pair_of, c.len.ensures, c.if-len-eq-MAX_MEMBERS.true, c.loop-at.found.ok.0),
)

pub invariant_of-name_span : goal.invariant_of-name_span
invariant_of-name_span c =
    let done = map pair_of c.loop-at.found.items in
    let v = spelled c.args.span.place c.args.span.bytes.now c.args.span.valid in
    let r = name_read c.args.span.bytes.now c.args.span.place c.loop-at.at done v.0 (c.loop-at.invariant.left v.0 v.1) c.in-Ok.name.from c.in-Ok.name.to c.in-Ok.name.end c.in-Ok.ensures.from c.in-Ok.ensures.to c.in-Ok.ensures.end in
    let b = c.in-Ok.ensures.bounds in
    record { valid = r.valid; utf8 = slice_utf8 c.args.span.bytes.now c.in-Ok.name.from c.in-Ok.name.to c.args.span.utf8 (omega (arith, b.2, b.3)) r.valid; fits = omega (arith, length-take (c.in-Ok.name.to - c.in-Ok.name.from) (drop c.in-Ok.name.from c.args.span.bytes.now), b.1, b.2, b.3, c.args.span.fits) }

pub invariant_of-value_span : goal.invariant_of-value_span
invariant_of-value_span c =
    let done = map pair_of c.loop-at.found.items in
    let v = spelled c.args.span.place c.args.span.bytes.now c.args.span.valid in
    let r = member_read c.args.span.bytes.now c.args.span.place c.loop-at.at done v.0 (c.loop-at.invariant.left v.0 v.1) c.in-Ok.name.from c.in-Ok.name.to c.in-Ok.name.end c.in-Ok.ensures.from c.in-Ok.ensures.to c.in-Ok.ensures.end c.in-Ok-places_at.value.from c.in-Ok-places_at.value.to c.in-Ok-places_at.value.end c.in-Ok-places_at.ensures.from c.in-Ok-places_at.ensures.to c.in-Ok-places_at.ensures.end in
    let b = c.in-Ok-places_at.ensures.bounds in
    record { valid = r.valid; utf8 = slice_utf8 c.args.span.bytes.now c.in-Ok-places_at.value.from c.in-Ok-places_at.value.to c.args.span.utf8 (omega (arith, b.2, b.3)) r.valid; fits = omega (arith, length-take (c.in-Ok-places_at.value.to - c.in-Ok-places_at.value.from) (drop c.in-Ok-places_at.value.from c.args.span.bytes.now), b.1, b.2, b.3, c.args.span.fits) }

pub bounds-bytes-value : goal.bounds-bytes-value
bounds-bytes-value c =
    let done = map pair_of c.loop-at.found.items in
    let v = spelled c.args.span.place c.args.span.bytes.now c.args.span.valid in
    (member_read c.args.span.bytes.now c.args.span.place c.loop-at.at done v.0 (c.loop-at.invariant.left v.0 v.1) c.in-Ok.name.from c.in-Ok.name.to c.in-Ok.name.end c.in-Ok.ensures.from c.in-Ok.ensures.to c.in-Ok.ensures.end c.in-Ok-places_at.value.from c.in-Ok-places_at.value.to c.in-Ok-places_at.value.end c.in-Ok-places_at.ensures.from c.in-Ok-places_at.ensures.to c.in-Ok-places_at.ensures.end).inside

pub returns-then-bytes-value-ne44-clause-ok : goal.returns-then-bytes-value-ne44-clause-ok
returns-then-bytes-value-ne44-clause-ok c = λ v h.
    let done = map pair_of c.loop-at.found.items in
    let r = member_read c.args.span.bytes.now c.args.span.place c.loop-at.at done v (c.loop-at.invariant.left v h) c.in-Ok.name.from c.in-Ok.name.to c.in-Ok.name.end c.in-Ok.ensures.from c.in-Ok.ensures.to c.in-Ok.ensures.end c.in-Ok-places_at.value.from c.in-Ok-places_at.value.to c.in-Ok-places_at.value.end c.in-Ok-places_at.ensures.from c.in-Ok-places_at.ensures.to c.in-Ok-places_at.ensures.end in
    c.in-Ok-keep_pair.ensures ∙ r.last c.if-bytes-value-ne44.true

pub loop-at-preserved : goal.loop-at-preserved
loop-at-preserved c =
    let done = map pair_of c.loop-at.found.items in
    let v = spelled c.args.span.place c.args.span.bytes.now c.args.span.valid in
    let w = (member_read c.args.span.bytes.now c.args.span.place c.loop-at.at done v.0 (c.loop-at.invariant.left v.0 v.1) c.in-Ok.name.from c.in-Ok.name.to c.in-Ok.name.end c.in-Ok.ensures.from c.in-Ok.ensures.to c.in-Ok.ensures.end c.in-Ok-places_at.value.from c.in-Ok-places_at.value.to c.in-Ok-places_at.value.end c.in-Ok-places_at.ensures.from c.in-Ok-places_at.ensures.to c.in-Ok-places_at.ensures.end).inside in
    record {
      bound = omega (arith, w);
      few = omega (arith, simp length-append at (ap length c.in-Ok-keep_pair.ensures), length-map c.loop-at.found.items pair_of, c.len.ensures, c.if-len-eq-MAX_MEMBERS.false, c.loop-at.found.ok.0);
      same = refl;
      left = λ v h.
          let r = member_read c.args.span.bytes.now c.args.span.place c.loop-at.at done v (c.loop-at.invariant.left v h) c.in-Ok.name.from c.in-Ok.name.to c.in-Ok.name.end c.in-Ok.ensures.from c.in-Ok.ensures.to c.in-Ok.ensures.end c.in-Ok-places_at.value.from c.in-Ok-places_at.value.to c.in-Ok-places_at.value.end c.in-Ok-places_at.ensures.from c.in-Ok-places_at.ensures.to c.in-Ok-places_at.ensures.end in
          rw c.in-Ok-keep_pair.ensures (r.more c.if-bytes-value-ne44.false);
    }

pub unreachable-requires : goal.unreachable-requires
unreachable-requires c =
    let v = spelled c.args.span.place c.args.span.bytes.now c.args.span.valid in
    name_there c.args.span.bytes.now c.args.span.place c.loop-at.at (map pair_of c.loop-at.found.items) v.0 (c.loop-at.invariant.left v.0 v.1) c.in_default.field-0 c.in_default.ensures.err

pub unreachable-requires-in_default-places_at : goal.unreachable-requires-in_default-places_at
unreachable-requires-in_default-places_at c =
    let v = spelled c.args.span.place c.args.span.bytes.now c.args.span.valid in
    member_there c.args.span.bytes.now c.args.span.place c.loop-at.at (map pair_of c.loop-at.found.items) v.0 (c.loop-at.invariant.left v.0 v.1)
    c.in-Ok.name.from c.in-Ok.name.to c.in-Ok.name.end c.in-Ok.ensures.from c.in-Ok.ensures.to c.in-Ok.ensures.end c.in_default-places_at.field-0 c.in_default-places_at.ensures.err

pub unreachable-requires-2 : goal.unreachable-requires-2
unreachable-requires-2 c =
    let v = spelled c.args.span.place c.args.span.bytes.now c.args.span.valid in
    let inside = members_within c.args.span.bytes.now c.args.span.place c.loop-at.at (map pair_of c.loop-at.found.items) v.0 (c.loop-at.invariant.left v.0 v.1) in
    omega (arith, inside, c.loop-at-test.false)

pub returns-in_default-keep_pair-clause-refused : goal.returns-in_default-keep_pair-clause-refused
returns-in_default-keep_pair-clause-refused c = λ v h.
    let done = map pair_of c.loop-at.found.items in
    let r = member_read c.args.span.bytes.now c.args.span.place c.loop-at.at done v (c.loop-at.invariant.left v h) c.in-Ok.name.from c.in-Ok.name.to c.in-Ok.name.end c.in-Ok.ensures.from c.in-Ok.ensures.to c.in-Ok.ensures.end c.in-Ok-places_at.value.from c.in-Ok-places_at.value.to c.in-Ok-places_at.value.end c.in-Ok-places_at.ensures.from c.in-Ok-places_at.ensures.to c.in-Ok-places_at.ensures.end in
    omega (arith, r.some)
