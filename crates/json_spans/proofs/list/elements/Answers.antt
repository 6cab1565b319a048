use Rattle.std.proofs.Common.{◌≡◌, ◌-◌, [], length, drop, arith, ap, ◌∙◌, refl, map, length-take, length-append}
use Rattle.std.proofs.lemmas.List.{length-map}
use Rattle.json_spans.specs.Span.{part_of}
use Rattle.json_spans.proofs.Lists.{first_within, empty_items, first_items, item_read, item_there, items_within, spelled}
use Rattle.json_spans.proofs.Utf8.{slice_utf8}
use Rattle.json_spans.proofs.list.elements.Goals as goal

pub bounds-bytes-first : goal.bounds-bytes-first
bounds-bytes-first c = let w = first_within c.args.span.bytes.now c.args.span.place c.args.span.valid c.requires in omega (arith, w.0, c.spaces_end-first.ensures.value)

pub spaces_end-first-requires : goal.spaces_end-first-requires
spaces_end-first-requires c = (first_within c.args.span.bytes.now c.args.span.place c.args.span.valid c.requires).1

pub returns-then-bytes-first-eq93-clause-ok : goal.returns-then-bytes-first-eq93-clause-ok
returns-then-bytes-first-eq93-clause-ok c = λ v h.
    ap (map part_of) c.new-found.ensures.items ∙ empty_items c.args.span.bytes.now c.args.span.place c.spaces_end-first.result c.spaces_end-first.ensures.value c.if-bytes-first-eq93.true v h

pub loop-at-init : goal.loop-at-init
loop-at-init c =
    let w = first_within c.args.span.bytes.now c.args.span.place c.args.span.valid c.requires in
    let none : map part_of c.new-found.result.items ≡ [] = ap (map part_of) c.new-found.ensures.items in
    record {
      bound = w.1;
      few = rw none (omega arith);
      same = refl;
      left = λ v h. rw none (first_items c.args.span.bytes.now c.args.span.place c.spaces_end-first.result c.requires c.spaces_end-first.ensures.value c.if-bytes-first-eq93.false v h);
    }

pub returns-then-len-limit-clause-refused : goal.returns-then-len-limit-clause-refused
returns-then-len-limit-clause-refused c = (
  refl,
  λ v h.
      let done = map part_of c.loop-at.found.items in
      let r = item_read c.args.span.bytes.now c.args.span.place c.loop-at.at done v (c.loop-at.invariant.left v h) c.in-Ok.places.from c.in-Ok.places.to c.in-Ok.places.end c.in-Ok.ensures.from c.in-Ok.ensures.to c.in-Ok.ensures.end in
      omega (arith, r.some, length-map c.loop-at.found.items part_of, c.len.ensures, c.if-len-limit.true, c.loop-at.found.ok.0),
)

pub invariant_of-item : goal.invariant_of-item
invariant_of-item c =
    let done = map part_of c.loop-at.found.items in
    let v = spelled c.args.span.place c.args.span.bytes.now c.args.span.valid in
    let r = item_read c.args.span.bytes.now c.args.span.place c.loop-at.at done v.0 (c.loop-at.invariant.left v.0 v.1) c.in-Ok.places.from c.in-Ok.places.to c.in-Ok.places.end c.in-Ok.ensures.from c.in-Ok.ensures.to c.in-Ok.ensures.end in
    let b = c.in-Ok.ensures.bounds in
    record { valid = r.valid; utf8 = slice_utf8 c.args.span.bytes.now c.in-Ok.places.from c.in-Ok.places.to c.args.span.utf8 (omega (arith, b.2, b.3)) r.valid; fits = omega (arith, length-take (c.in-Ok.places.to - c.in-Ok.places.from) (drop c.in-Ok.places.from c.args.span.bytes.now), b.1, b.2, b.3, c.args.span.fits) }

pub bounds-bytes-places : goal.bounds-bytes-places
bounds-bytes-places c =
    let done = map part_of c.loop-at.found.items in
    let v = spelled c.args.span.place c.args.span.bytes.now c.args.span.valid in
    (item_read c.args.span.bytes.now c.args.span.place c.loop-at.at done v.0 (c.loop-at.invariant.left v.0 v.1) c.in-Ok.places.from c.in-Ok.places.to c.in-Ok.places.end c.in-Ok.ensures.from c.in-Ok.ensures.to c.in-Ok.ensures.end).within

-- what was read, for each value that the span spells
pub returns-then-bytes-places-ne44-clause-ok : goal.returns-then-bytes-places-ne44-clause-ok
returns-then-bytes-places-ne44-clause-ok c = λ v h.
    let done = map part_of c.loop-at.found.items in
    let r = item_read c.args.span.bytes.now c.args.span.place c.loop-at.at done v (c.loop-at.invariant.left v h) c.in-Ok.places.from c.in-Ok.places.to c.in-Ok.places.end c.in-Ok.ensures.from c.in-Ok.ensures.to c.in-Ok.ensures.end in
    c.in-Ok-keep.ensures ∙ r.last c.if-bytes-places-ne44.true

pub loop-at-preserved : goal.loop-at-preserved
loop-at-preserved c =
    let done = map part_of c.loop-at.found.items in
    let v = spelled c.args.span.place c.args.span.bytes.now c.args.span.valid in
    let w = (item_read c.args.span.bytes.now c.args.span.place c.loop-at.at done v.0 (c.loop-at.invariant.left v.0 v.1) c.in-Ok.places.from c.in-Ok.places.to c.in-Ok.places.end c.in-Ok.ensures.from c.in-Ok.ensures.to c.in-Ok.ensures.end).within in
    record {
      bound = omega (arith, w);
      few = omega (arith, simp length-append at (ap length c.in-Ok-keep.ensures), length-map c.loop-at.found.items part_of, c.len.ensures, c.if-len-limit.false, c.loop-at.found.ok.0);
      same = refl;
      left = λ v h.
          let r = item_read c.args.span.bytes.now c.args.span.place c.loop-at.at done v (c.loop-at.invariant.left v h) c.in-Ok.places.from c.in-Ok.places.to c.in-Ok.places.end c.in-Ok.ensures.from c.in-Ok.ensures.to c.in-Ok.ensures.end in
          rw c.in-Ok-keep.ensures (r.more c.if-bytes-places-ne44.false);
    }

pub unreachable-requires : goal.unreachable-requires
unreachable-requires c =
    let v = spelled c.args.span.place c.args.span.bytes.now c.args.span.valid in
    item_there c.args.span.bytes.now c.args.span.place c.loop-at.at (map part_of c.loop-at.found.items) v.0 (c.loop-at.invariant.left v.0 v.1) c.in_default.field-0 c.in_default.ensures.err

pub unreachable-requires-2 : goal.unreachable-requires-2
unreachable-requires-2 c =
    let v = spelled c.args.span.place c.args.span.bytes.now c.args.span.valid in
    let inside = items_within c.args.span.bytes.now c.args.span.place c.loop-at.at (map part_of c.loop-at.found.items) v.0 (c.loop-at.invariant.left v.0 v.1) in
    omega (arith, inside, c.loop-at-test.false)

pub returns-in_default-keep-clause-refused : goal.returns-in_default-keep-clause-refused
returns-in_default-keep-clause-refused c = λ v h.
    let done = map part_of c.loop-at.found.items in
    let r = item_read c.args.span.bytes.now c.args.span.place c.loop-at.at done v (c.loop-at.invariant.left v h) c.in-Ok.places.from c.in-Ok.places.to c.in-Ok.places.end c.in-Ok.ensures.from c.in-Ok.ensures.to c.in-Ok.ensures.end in
    omega (arith, r.some)
