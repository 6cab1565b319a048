use Rattle.std.proofs.Common.{◌≤◌, ◌∙◌, refl, sym, ap, length, arith, length-drop}
use Rattle.std.proofs.lemmas.List.{drop_all}
use Rattle.hub_conn.proofs.RestLemmas.{holds_same}
use Rattle.hub_conn.proofs.inbox.Inbox.rest.Goals as goal

pub returns-then-self-len-clause-same : goal.returns-then-self-len-clause-same
returns-then-self-len-clause-same c =
    let old = c.args.self.now in
    let none = c.shrink_to_fit.ensures.items ∙ c.clear.ensures.items in
    let few = ap length none in
    let all : length old.piece.items ≤ old.fed = omega (arith, c.if-self-len.true, c.len.ensures, old.piece.ok.0) in
    holds_same old _ c.shrink.ensures.stays (none ∙ sym (drop_all old.fed old.piece.items all)) (omega arith) (omega (arith, few))

pub returns-else-self-len-clause-same : goal.returns-else-self-len-clause-same
returns-else-self-len-clause-same c =
    let old = c.args.self.now in
    holds_same old _ c.shrink.ensures.stays refl (omega (arith, c.if-self-len.false, c.len.ensures, old.piece.ok.0)) (omega arith)

pub returns-else-self-len-clause-gives : goal.returns-else-self-len-clause-gives
returns-else-self-len-clause-gives c =
    let old = c.args.self.now in
    record {
      piece = λ none.
          omega (arith, ap length none, length-drop old.fed old.piece.items, c.if-self-len.false, c.len.ensures, old.piece.ok.0);
      reader = c.shrink.ensures.gives;
    }
