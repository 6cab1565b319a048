use Rattle.std.proofs.Common.{◌≡◌, ℕ, ◌<◌, ◌^◌, List, ◌++◌, sym, ◌∙◌, ap}
use Rattle.std.specs.Prelude.{Option, None, Some, MatchOption, decimal, codes}
use Rattle.std.proofs.lemmas.List.{append_cancel_left, append_cancel_right}
use Rattle.node_signs.specs.Signs.{registered_bytes}
use Rattle.node_signs.proofs.number.number_told.Goals as goal

told : (body before digits behind : List ℕ) (r : Option ℕ) → body ≡ before ++ (digits ++ behind) →
    MatchOption r ((n : ℕ) → n < 2 ^ 32 → ¬ (digits ≡ decimal n)) (λ n. digits ≡ decimal n) →
    MatchOption r ((n : ℕ) → n < 2 ^ 32 → ¬ (body ≡ before ++ (decimal n ++ behind))) (λ n. body ≡ before ++ (decimal n ++ behind))
told body before digits behind None p h = λ n small e. h n small (append_cancel_right digits (decimal n) behind (append_cancel_left before (digits ++ behind) (decimal n ++ behind) (sym p ∙ e)))
told body before digits behind (Some n) p h = p ∙ ap (λ (t : List ℕ). before ++ (t ++ behind)) h

pub returns-in-Some : goal.returns-in-Some
unfolding registered_bytes
returns-in-Some c = told c.args.body.now (codes "{\"value\":{\"node\":") c.in-Some.digits.now (codes "}}") c.node_number.result c.in-Some.ensures c.node_number.ensures

pub returns-in-None : goal.returns-in-None
unfolding registered_bytes
returns-in-None c = λ n small e. c.in-None.ensures (decimal n) e
