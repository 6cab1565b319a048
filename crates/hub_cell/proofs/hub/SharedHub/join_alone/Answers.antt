use Rattle.std.proofs.Common.{◌≡◌, true, sym, subst}
use Rattle.std.specs.Prelude.{Some}
use Rattle.turn_cell.specs.Cells.{view_of, origin_of}
use Rattle.turn_cell.specs.declared.cell.Pass as cell
use Rattle.hub_cell.specs.declared.grid.Grid.{Grid}
use Rattle.hub_cell.specs.Legality.{is_legal}
use Rattle.hub_cell.specs.Passes.{knows, config_of}
use Rattle.hub_cell.specs.Shared.{HasNoneOf}
use Rattle.hub_cell.proofs.JoinLemmas.{joined-legal, joined-keeps, joined-loses}
use Rattle.hub_cell.proofs.hub.SharedHub.join_alone.Goals as goal

pub returns-clause-keeps : goal.returns-clause-keeps
returns-clause-keeps c =
    let inner : cell.Pass Grid = c.into_parts-inner.result.0 in
    let is : inner ≡ c.args.other.inner = c.into_parts-inner.ensures.0 in
    let own = subst (λ (p : cell.Pass Grid). (view_of p).origin ≡ Some (origin_of c.args.self.now.cell)) (sym is) c.requires.own.1.0.1 in
    let legal = subst (λ (p : cell.Pass Grid). is_legal (view_of p).origin (view_of p).seen ≡ true) (sym is) c.args.other.legal in
    let is_legal_there = joined-legal (origin_of c.args.self.now.cell) (knows c.args.pass.now) (view_of inner) (view_of c.join.new.pass) c.join.result c.requires.own.0.0.1 own c.args.pass.now.legal legal c.join.ensures.took in
    joined-keeps c.token_laws.ensures (config_of c.args.self.now) (knows c.args.pass.now) (view_of inner) (view_of c.join.new.pass) is_legal_there c.join.ensures.view c.join.ensures.longer.0 c.args.pass.now.inner.exact
    c.join.ensures.longer.2

pub returns-clause-loses : goal.returns-clause-loses
returns-clause-loses c =
    let inner : cell.Pass Grid = c.into_parts-inner.result.0 in
    let is : inner ≡ c.args.other.inner = c.into_parts-inner.ensures.0 in
    let own = subst (λ (p : cell.Pass Grid). (view_of p).origin ≡ Some (origin_of c.args.self.now.cell)) (sym is) c.requires.own.1.0.1 in
    let legal = subst (λ (p : cell.Pass Grid). is_legal (view_of p).origin (view_of p).seen ≡ true) (sym is) c.args.other.legal in
    let is_legal_there = joined-legal (origin_of c.args.self.now.cell) (knows c.args.pass.now) (view_of inner) (view_of c.join.new.pass) c.join.result c.requires.own.0.0.1 own c.args.pass.now.legal legal c.join.ensures.took in
    subst (λ (p : cell.Pass Grid). HasNoneOf (view_of p) (view_of c.join.new.pass)) is
    (joined-loses c.token_laws.ensures (config_of c.args.self.now) (knows c.args.pass.now) (view_of inner) (view_of c.join.new.pass) is_legal_there c.join.ensures.view c.join.ensures.longer.1 inner.exact c.join.ensures.longer.2)
