-- What holds of the call that is wanted, and of the tokens that are held beside it.
use Rattle.std.specs.Prelude.{◌≡◌, ℕ, true, false, List, [], ◌∷◌, ◌++◌, Option}
use Rattle.grid_types.specs.Calls.{Call}
use Rattle.grid_types.specs.HandedIn.{hands_ticket, hands_reservation, hands_closing}
use Rattle.node_client.specs.Held.{Token, of_ticket, of_reservation, of_closing}
use Rattle.node_client.specs.Steps.{Step}
use Rattle.conn_script.specs.Wanted.{Wanted, to_read, to_write, to_begin, to_call, over, call_tokens, is_rightful}
use Rattle.hub_conn.specs.declared.talk.Talk.{Talk}
use Rattle.hub_conn.specs.Talk.{Stands, tokens}

-- the call does not spend the token
abbrev pub IsBeside : Call → Token → Type 0
IsBeside call (of_ticket t) = hands_ticket call t.request ≡ false
IsBeside call (of_reservation t) = hands_reservation call t.request t.slot ≡ false
IsBeside call (of_closing t) = hands_closing call t.slot ≡ false

abbrev pub AreBeside : Call → List Token → Type 0
AreBeside call [] = Unit {0}
AreBeside call (t ∷ ts) = IsBeside call t × AreBeside call ts

-- between scripts, before the first step of one, and at the end there is no token
abbrev pub HoldsNoneAt : Wanted → List Token → Type 0
HoldsNoneAt (to_read most) held = held ≡ []
HoldsNoneAt (to_write unsent) held = held ≡ []
HoldsNoneAt to_begin held = held ≡ []
HoldsNoneAt (over result) held = held ≡ []
HoldsNoneAt w held = Unit {0}

-- The call that is wanted spends none of the tokens that are left when its own are handed out, and brings what the hub asks
-- of a call beside good tokens; and where nothing of a script is wanted, no token is held.
pub record CallLaws : Type 0 where
  pub left_beside : (talk : Talk) (own : Option (List ℕ)) (call : Call) (bytes : List ℕ) (steps : List Step) (written : List ℕ) (left : List Token) →
      Stands talk own (to_call call) bytes steps written → tokens talk ≡ call_tokens call ++ left → AreBeside call left
  pub rightful : (talk : Talk) (own : Option (List ℕ)) (call : Call) (bytes : List ℕ) (steps : List Step) (written : List ℕ) →
      Stands talk own (to_call call) bytes steps written → is_rightful call ≡ true
  pub none_held : (talk : Talk) (own : Option (List ℕ)) (w : Wanted) (bytes : List ℕ) (steps : List Step) (written : List ℕ) →
      Stands talk own w bytes steps written → HoldsNoneAt w (tokens talk)
