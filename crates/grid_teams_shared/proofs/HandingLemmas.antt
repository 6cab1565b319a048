-- A connection that is served over a link that hands bytes out again.
use Rattle.std.proofs.Common.{◌≡◌, ℕ, List, subst}
use Rattle.std.specs.Prelude.{Result}
use Rattle.grid_outside.specs.Told.{LinkView, Tick}
use Rattle.grid_outside.specs.declared.exchange.Ask.{Ask}
use Rattle.grid_outside.specs.Exchanges.{Came}
use Rattle.again_link.specs.Again.{Awaits, GivesOn, HandsOn, view_without}
use Rattle.hub_cell.specs.declared.hub.SharedHub.{SharedHub}
use Rattle.conn_script.specs.declared.wants.ConnFault.{ConnFault}
use Rattle.conn_script.specs.declared.wants.Served.{Served}
use Rattle.hub_workers.specs.World.{World}
use Rattle.hub_serving.specs.Outside.{outside_of}
use Rattle.hub_serving.specs.Served.{ServesConnection}
use Rattle.grid_teams_shared.specs.Serving.{HandedOut}

module _ {N C : Type 0} (gives : N → List ℕ → Ask → Came → N → Type 0) (tells : C → Tick → ℕ → C → Type 0) (hub : SharedHub) (old_world new_world : World N C)
    (result : Result Served ConnFault) where
  -- what was handed out again, and the conversation
  abbrev pub ServesAgain : List ℕ → LinkView → LinkView → Type 0
  ServesAgain again old new = (handed : HandedOut again old new)
      × ServesConnection hub gives tells (outside_of old_world (view_without again old)) result (outside_of new_world (view_without handed.left new))

  -- of the bytes and the link that it was made of, and of the link that it left
  pub serves_again : (again made left : List ℕ) (old inner new behind : LinkView) → made ≡ again → inner ≡ old → behind ≡ new → HandsOn made left →
      GivesOn inner.given behind.given → Awaits left inner behind →
      ServesConnection hub gives tells (outside_of old_world (view_without made inner)) result (outside_of new_world (view_without left behind)) → ServesAgain again old new
  serves_again again made left old inner new behind bytes_are old_is new_is hands gives_on awaits serves =
      subst (λ (v : LinkView). ServesAgain again old v) new_is
      (subst (λ (v : LinkView). ServesAgain again v behind) old_is
      (subst (λ (b : List ℕ). ServesAgain b inner behind) bytes_are
      (record { left = left; hands = hands; gives = gives_on; awaits = awaits }, serves)))
