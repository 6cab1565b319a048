use Rattle.std.proofs.Common.{◌≡◌, ℕ, ◌++◌, List, drop, length, take, refl, sym, arith, subst, take-append-drop}
use Rattle.grid_outside.specs.Told.{Gains}
use Rattle.again_link.specs.Again.{awaits_none, without, gives_none}
use Rattle.again_link.proofs.AgainLemmas.{again, ok_gains}
use Rattle.again_link.proofs.link.AgainLinkLink.read.Goals as goal

pub returns-clause-given : goal.returns-clause-given
returns-clause-given g c =
    let given = (g.L.Link.view c.args.self.now.inner.now).given in
    let again_bytes = c.args.self.now.again.now in
    let n = c.copy_front-count.result in
    subst (λ (r : List ℕ). Gains (without again_bytes given) (without r given) (take n c.copy_front-count.new.into)) (sym c.behind-self.ensures)
    (subst (λ (t : List ℕ). Gains (without again_bytes given) (without (drop n again_bytes) given) t) (sym c.copy_front-count.ensures.front)
    (again given again_bytes n))

pub returns-clause-same : goal.returns-clause-same
returns-clause-same g c =
    let again_bytes = c.args.self.now.again.now in
    let n = c.copy_front-count.result in (
      refl,
      g.met.L.Link.same_refl c.args.self.now.inner.now,
      gives_none (g.L.Link.view c.args.self.now.inner.now).given,
      (take n again_bytes, subst (λ (r : List ℕ). again_bytes ≡ take n again_bytes ++ r) (sym c.behind-self.ensures) (sym (take-append-drop n again_bytes))),
      awaits_none c.behind-self.result.now (g.L.Link.view c.args.self.now.inner.now),
    )

pub returns-then-is_empty-clause-given : goal.returns-then-is_empty-clause-given
returns-then-is_empty-clause-given g c =
    let none : length c.args.self.now.again.now ≡ 0 = grind (arith, c.if-is_empty.true, c.if-is_empty.ensures) in
    ok_gains c.read.result (g.L.Link.view c.args.self.now.inner.now).given (g.L.Link.view c.read.new.self).given c.args.self.now.again.now c.read.new.into none c.read.ensures.given
