use Rattle.std.proofs.Common.{refl, arith}
use Rattle.json_spans.proofs.Lists.{first_within, spelled}
use Rattle.json_spans.proofs.Counting.{first_counted, none_counted, count_read, count_there, count_within}
use Rattle.json_spans.proofs.count.count_list.Goals as goal

pub bounds-bytes-first : goal.bounds-bytes-first
bounds-bytes-first c = let w = first_within c.args.span.bytes.now c.args.span.place c.args.span.valid c.requires in omega (arith, w.0, c.spaces_end-first.ensures.value)

pub spaces_end-first-requires : goal.spaces_end-first-requires
spaces_end-first-requires c = (first_within c.args.span.bytes.now c.args.span.place c.args.span.valid c.requires).1

pub returns-then-bytes-first-eq93 : goal.returns-then-bytes-first-eq93
returns-then-bytes-first-eq93 c = none_counted c.args.span.bytes.now c.args.span.place c.spaces_end-first.result c.spaces_end-first.ensures.value c.if-bytes-first-eq93.true

pub loop-at-init : goal.loop-at-init
loop-at-init c =
    let w = first_within c.args.span.bytes.now c.args.span.place c.args.span.valid c.requires in
    record {
      bound = w.1;
      few = omega arith;
      same = refl;
      left = λ v h. first_counted c.args.span.bytes.now c.args.span.place c.spaces_end-first.result c.requires c.spaces_end-first.ensures.value c.if-bytes-first-eq93.false v h;
    }

pub bounds-bytes-places : goal.bounds-bytes-places
bounds-bytes-places c =
    let v = spelled c.args.span.place c.args.span.bytes.now c.args.span.valid in
    (count_read c.args.span.bytes.now c.args.span.place c.loop-at.at c.loop-at.count v.0 (c.loop-at.invariant.left v.0 v.1) c.in-Ok.places.from c.in-Ok.places.to c.in-Ok.places.end c.in-Ok.ensures.from c.in-Ok.ensures.to c.in-Ok.ensures.end).within

pub returns-then-bytes-places-ne44 : goal.returns-then-bytes-places-ne44
returns-then-bytes-places-ne44 c = λ v h.
    (count_read c.args.span.bytes.now c.args.span.place c.loop-at.at c.loop-at.count v (c.loop-at.invariant.left v h) c.in-Ok.places.from c.in-Ok.places.to c.in-Ok.places.end c.in-Ok.ensures.from c.in-Ok.ensures.to c.in-Ok.ensures.end).last c.if-bytes-places-ne44.true

pub loop-at-preserved : goal.loop-at-preserved
loop-at-preserved c =
    let v = spelled c.args.span.place c.args.span.bytes.now c.args.span.valid in
    let w = (count_read c.args.span.bytes.now c.args.span.place c.loop-at.at c.loop-at.count v.0 (c.loop-at.invariant.left v.0 v.1) c.in-Ok.places.from c.in-Ok.places.to c.in-Ok.places.end c.in-Ok.ensures.from c.in-Ok.ensures.to c.in-Ok.ensures.end).within in
    let b = c.in-Ok.ensures.bounds in
    record {
      bound = omega (arith, w);
      few = omega (arith, c.loop-at.invariant.few, b.0, b.1, b.2);
      same = refl;
      left = λ v h.
          (count_read c.args.span.bytes.now c.args.span.place c.loop-at.at c.loop-at.count v (c.loop-at.invariant.left v h) c.in-Ok.places.from c.in-Ok.places.to c.in-Ok.places.end c.in-Ok.ensures.from c.in-Ok.ensures.to c.in-Ok.ensures.end).more c.if-bytes-places-ne44.false;
    }

pub unreachable-requires : goal.unreachable-requires
unreachable-requires c =
    let v = spelled c.args.span.place c.args.span.bytes.now c.args.span.valid in
    count_there c.args.span.bytes.now c.args.span.place c.loop-at.at c.loop-at.count v.0 (c.loop-at.invariant.left v.0 v.1) c.in_default.field-0 c.in_default.ensures.err

pub unreachable-requires-2 : goal.unreachable-requires-2
unreachable-requires-2 c =
    let v = spelled c.args.span.place c.args.span.bytes.now c.args.span.valid in
    let inside = count_within c.args.span.bytes.now c.args.span.place c.loop-at.at c.loop-at.count v.0 (c.loop-at.invariant.left v.0 v.1) in
    omega (arith, inside, c.loop-at-test.false)
