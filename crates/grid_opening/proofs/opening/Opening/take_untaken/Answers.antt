use Rattle.std.proofs.Common.{◌≡◌, ℕ, true, subst, sym}
use Rattle.grid_types.specs.Requests.{place}
use Rattle.session_queue.specs.Table.{is_gone}
use Rattle.grid_opening.specs.Settling.{Always, IsRequest, IsSettledOrGone, IsUntakenOf, TakesGiven}
use Rattle.grid_opening.proofs.GoesLemmas.{went_none, went_with}
use Rattle.grid_opening.proofs.ReadLemmas.{gone_of}
use Rattle.grid_opening.proofs.SlotLemmas.{takes_given, takes_nothing}
use Rattle.grid_opening.proofs.opening.Opening.take_untaken.Goals as goal

pub returns-in-Some : goal.returns-in-Some
returns-in-Some g c =
    let a = c.args in let given = IsUntakenOf c.in-Some.caller a.request in
    went_with g.K.Keeper.kept g.L.Listener.heard g.K.Keeper.faults given Always a.at.0 (TakesGiven a.at.0 given (IsRequest a.request)) (TakesGiven a.at.0 (IsSettledOrGone a.request) (IsRequest a.request)) a.self.now c.take.new.self c.take.result c.take.ensures
    (λ H h t. c.in-Some.ensures.of H h.stands)
    (λ H G has did. takes_given a.request a.at.0 given H G has did)

pub returns-in-None : goal.returns-in-None
returns-in-None g c =
    let a = c.args in
    went_none g.K.Keeper.kept g.L.Listener.heard g.K.Keeper.faults Always a.at.0 (TakesGiven a.at.0 (IsSettledOrGone a.request) (IsRequest a.request)) a.self.now
    (λ H h t. takes_nothing a.at.0 (IsSettledOrGone a.request) (IsRequest a.request) H
    (λ r settled_or is. subst (λ (n : ℕ). is_gone (place H n) ≡ true) (sym is) (gone_of H a.request (c.in-None.ensures.of H h.stands) settled_or)))
