use Rattle.std.proofs.Common.{rules, ◌∷◌, ◌-◌, ◌∙◌, List, length, take, drop, sym, ap, subst}
use Rattle.std.proofs.lemmas.List.{take_rest}
use Rattle.std.specs.Prelude.{IfOk}
use Rattle.hub_core.specs.HubView.{past}
use Rattle.play_words.specs.declared.play.PlayNode.{PlayNode}
use Rattle.kept_play.specs.Placing.{PlacedAll}
use Rattle.kept_play.proofs.PlaceLemmas.{first_node, placed_empty, placed_on}
use Rattle.kept_play.proofs.places.+place_all.Goals as goal

pub returns-in-empty-clause-placed : goal.returns-in-empty-clause-placed
returns-in-empty-clause-placed g t c =
    let h = g.H.OwnHub.own.shown c.args.hub.now in
    let s = placed_empty h.config c.args.first c.args.played.now (past h) c.args.own.now.items in
    search (rules, s)

pub returns-else-not-note-clause-placed : goal.returns-else-not-note-clause-placed
returns-else-not-note-clause-placed g t c =
    let e = c.in_ok-place-in-len1-up.ensures in
    let played = c.args.played.now in
    let node = c.node-item.result in
    let others = take (length played - 1) (drop 1 played) in
    let spelled = first_node played node c.in-len1-up.len_at_least c.node-item.is ∙ ap (λ (ns : List PlayNode). node ∷ ns) (sym (take_rest played 1)) in
    let h = g.H.OwnHub.own.shown c.args.hub.now in
    let k = g.H.OwnHub.own.shown c.place_all.new.hub in
    subst (λ (ns : List PlayNode). IfOk c.place_all.result (λ all. PlacedAll all h.config c.args.first ns (past h) c.args.own.now.items c.place_all.new.own.items (past k))) (sym spelled)
    (placed_on g.H.OwnHub.own c.args.hub.now c.place_one.new.hub c.place_all.new.hub c.args.first node others c.args.own.now.items c.note.new.own.items c.place_all.new.own.items
    c.in_ok-place-in-len1-up.place c.place_all.result e.config e.came c.if-not-note.ensures c.place_all.ensures.placed)
