use Rattle.std.proofs.Common.{List, ℕ, ap, rules}
use Rattle.std.specs.Borrow.{Bor, MutBor}
use Rattle.grid_teams_shared.proofs.HandingLemmas.{serves_again}
use Rattle.grid_teams_shared.proofs.serving.serve_again.Goals as goal

pub returns-clause-serves : goal.returns-clause-serves
returns-clause-serves g c =
    let made = c.new-handing.ensures in
    let same = c.serve_shared.ensures.same in
    let behind = c.serve_shared.new.link in
    serves_again g.N.NodeLink.gives g.C.Clock.gives c.args.hub.now _ _ c.serve_shared.result c.args.again.now c.new-handing.result.again.now behind.again.now
    (g.L.Link.view c.args.link.now) (g.L.Link.view c.new-handing.result.inner.now) _ (g.L.Link.view behind.inner.now)
    (ap (λ (b : Bor (List ℕ)). b.now) made.again) (ap (λ (b : MutBor g.row.L.Denot). g.L.Link.view b.now) made.inner) (search rules) same.3 same.2 same.4
    c.serve_shared.ensures.serves
