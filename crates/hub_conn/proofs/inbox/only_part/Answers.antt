use Rattle.std.proofs.Common.{[], ◌∷◌}
use Rattle.hub_conn.proofs.InboxLemmas.{same_first, not_none}
use Rattle.hub_conn.proofs.inbox.only_part.Goals as goal

pub returns-in-Some : goal.returns-in-Some
returns-in-Some c = λ part has.
    let g = c.in-Some.ensures.steps (part ∷ []) (c.parts.ensures (part ∷ []) has) in
    same_first part c.in-Some.part.now g.0 g.1

pub returns-in-None : goal.returns-in-None
returns-in-None c = λ part has.
    let g = c.in-None.ensures.steps (part ∷ []) (c.parts.ensures (part ∷ []) has) in
    absurd (not_none part g.0)
