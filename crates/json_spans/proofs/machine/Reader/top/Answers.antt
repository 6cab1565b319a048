use Rattle.std.proofs.Common.{◌≡◌, ℕ, zero, suc, ◌<◌, ◌-◌, Bool, List, ◌∷◌, get_or, ap, ◌∙◌, arith, true, false, sym}
use Rattle.json_spans.specs.Machine.{top_of, stack_of}
use Rattle.json_spans.proofs.machine.Reader.top.Goals as goal

top_is : (brackets : List Bool) (n : ℕ) (b : Bool) → 0 < n → get_or brackets (n - 1) false ≡ b → top_of (b ∷ stack_of brackets (n - 1)) ≡ top_of (stack_of brackets n)
unfolding stack_of
top_is brackets zero b h e = absurd (omega arith)
top_is brackets (suc n) b h e =
    let less : suc n - 1 ≡ n = omega arith in
    ap (λ k. top_of (b ∷ stack_of brackets k)) less ∙ ap (λ b. top_of (b ∷ stack_of brackets n)) (sym e ∙ ap (λ k. get_or brackets k false) less)

pub returns-then-self-eq0 : goal.returns-then-self-eq0
unfolding stack_of
returns-then-self-eq0 c = rw c.if-self-eq0.true

pub returns-then-self : goal.returns-then-self
returns-then-self c = top_is c.args.self.now.brackets c.args.self.now.depth true (omega arith) c.if-self.true

pub returns-else-self : goal.returns-else-self
returns-else-self c = top_is c.args.self.now.brackets c.args.self.now.depth false (omega arith) c.if-self.false
