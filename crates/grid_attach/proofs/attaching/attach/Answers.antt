use Rattle.std.proofs.Common.{◌≡◌, ℕ, subst, sym, ◌∙◌, arith}
use Rattle.grid_attach.specs.Looks.{Attached, Waits}
use Rattle.grid_attach.proofs.LookLemmas.{all, ended, more, none}
use Rattle.grid_attach.proofs.attaching.attach.Goals as goal

pub loop-init : goal.loop-init
loop-init g c = none g.N.NodeLink.gives g.C.Clock.gives g.C.Clock.view c.args.said.now c.args.nodes.now c.args.clock.now

pub loop-preserved : goal.loop-preserved
loop-preserved g c =
    more g.N.NodeLink.gives g.C.Clock.gives g.C.Clock.view c.args.said.now c.loop.counter c.args.nodes.now c.args.clock.now
    c.loop.known c.loop.nodes c.loop.clock c.in_ok-now.now c.look.new.nodes c.pause.new.self
    c.loop.invariant c.in_ok-now.ensures
    (subst (λ (ms : ℕ). Waits g.C.Clock.gives g.C.Clock.view ms c.loop.clock c.pause.new.self) c.wait_after.ensures
    (record { at = c.pause.result.0; asked = c.pause.ensures.gives; long_enough = c.pause.ensures.long_enough }))
    (sym c.is_over.ensures ∙ c.if-is_over.false)

pub returns : goal.returns
returns g c =
    let so_far : c.loop.counter ≡ c.args.looks = omega arith in
    subst (λ (k : ℕ). Attached g.N.NodeLink.gives g.C.Clock.gives g.C.Clock.view c.args.said.now k c.args.nodes.now c.args.clock.now
    c.loop.known c.loop.nodes c.loop.clock) so_far
    (all g.N.NodeLink.gives g.C.Clock.gives g.C.Clock.view c.args.said.now c.loop.counter c.args.nodes.now c.args.clock.now
    c.loop.known c.loop.nodes c.loop.clock c.loop.invariant)

pub returns-then-is_over : goal.returns-then-is_over
returns-then-is_over g c =
    ended g.N.NodeLink.gives g.C.Clock.gives g.C.Clock.view c.args.said.now c.loop.counter c.args.looks c.args.nodes.now c.args.clock.now
    c.loop.known c.loop.nodes c.loop.clock c.in_ok-now.now c.look.new.nodes
    c.loop.invariant (omega arith) c.in_ok-now.ensures
    (sym c.is_over.ensures ∙ c.if-is_over.true)
