use Rattle.std.proofs.Common.{◌≡◌, ◌<◌, ◌∙◌, ℕ, Some, ap, arith, refl, slice_get, subst, sym}
use Rattle.std.proofs.lemmas.Option.{slice_get-get_or}
use Rattle.hub_cell.specs.declared.hub.SharedHub.{SharedHub}
use Rattle.hub_cell.specs.Passes.{IsOf, knows}
use Rattle.again_link.specs.Again.{view_without}
use Rattle.hub_workers.specs.World.{world_of}
use Rattle.hub_serving.specs.Outside.{outside_of}
use Rattle.hub_serving.specs.Served.{ServesConnection}
use Rattle.grid_teams_shared.proofs.TeamLemmas.{pass_at, passes_set, same_count}
use Rattle.grid_teams_shared.proofs.serving.serve_at.Goals as goal

pub index_mut-requires : goal.index_mut-requires
index_mut-requires g c =
    let same = same_count c.args.teams.now.teams.items c.args.passes.now.passes.items c.requires.own in
    omega (arith, c.requires.place, same, c.args.passes.now.passes.ok.0)

pub serve_again-requires : goal.serve_again-requires
serve_again-requires g c =
    let passes = c.args.passes.now.passes.items in
    let pass = c.index_mut.result.now in
    let at = c.hub.ensures in
    let there : slice_get passes c.args.place ≡ Some pass =
    slice_get-get_or passes c.args.place pass
    (subst (λ (n : ℕ). c.args.place < n) (sym (same_count c.args.teams.now.teams.items passes c.requires.own)) c.requires.place)
    ∙ ap Some (sym c.index_mut.ensures.value) in
    subst (λ (h : SharedHub). IsOf h pass) (sym at.2) (pass_at c.args.teams.now.teams.items passes c.args.place at.0 pass c.requires.own at.1 there)

pub returns-clause-own : goal.returns-clause-own
returns-clause-own g c =
    let pass = c.serve_again.new.pass in
    let at = c.hub.ensures in
    passes_set c.args.teams.now.teams.items c.args.passes.now.passes.items c.args.place at.0 pass c.requires.own at.1
    (subst (λ (h : SharedHub). IsOf h pass) at.2 c.serve_again.ensures.own)

pub returns-clause-served : goal.returns-clause-served
returns-clause-served g c =
    let passes = c.args.passes.now.passes.items in
    let pass = c.index_mut.result.now in
    let at = c.hub.ensures in
    let below = subst (λ (n : ℕ). c.args.place < n) (sym (same_count c.args.teams.now.teams.items passes c.requires.own)) c.requires.place in
    let served = c.serve_again.ensures.serves in (
      served.0,
      record {
        chosen = at.0;
        before = pass;
        behind = c.serve_again.new.pass;
        stands = at.1;
        stood = slice_get-get_or passes c.args.place pass below ∙ ap Some (sym c.index_mut.ensures.value);
        passes_are = refl;
        serves = subst (λ (h : SharedHub). ServesConnection h g.N.NodeLink.gives g.C.Clock.gives
            (outside_of (world_of (knows pass) c.args.nodes.now c.args.clock.now (g.C.Clock.view c.args.clock.now))
            (view_without c.args.again.now (g.L.Link.view c.args.link.now))) c.serve_again.result
            (outside_of (world_of (knows c.serve_again.new.pass) c.serve_again.new.nodes c.serve_again.new.clock
            (g.C.Clock.view c.serve_again.new.clock)) (view_without served.0.left (g.L.Link.view c.serve_again.new.link)))) at.2 served.1;
      },
    )
