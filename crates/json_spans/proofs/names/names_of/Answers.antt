use Rattle.std.proofs.Common.{◌≡◌, ◌∙◌, sym, ap, arith, get_or, map}
use Rattle.std.proofs.lemmas.List.{get_or-map, length-map}
use Rattle.json_spans.specs.Parts.{kind_of}
use Rattle.json_spans.specs.Inside.{Pair, no_pair}
use Rattle.json_spans.specs.Span.{pair_of}
use Rattle.json_spans.proofs.names.names_of.Goals as goal

pub read_text-requires : goal.read_text-requires
read_text-requires c =
    let i = c.loop-pair.pair-index in
    let here : get_or (map pair_of c.args.pairs.now) i no_pair ≡ pair_of c.pair-item.result = get_or-map pair_of c.args.pairs.now i c.pair-item.result no_pair c.loop-pair-test.true ∙ ap pair_of (sym c.pair-item.is) in
    ap (λ (p : Pair). kind_of p.0.bytes) (sym here) ∙ c.requires i (omega (arith, length-map c.args.pairs.now pair_of, c.loop-pair-test.true))
