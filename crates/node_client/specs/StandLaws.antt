-- What holds of a start wherever it stands.
use Rattle.std.proofs.Common.{◌≡◌, ◌≤◌, true, refl, sym, subst, List, length, arith}
use Rattle.std.specs.Prelude.{Some}
use Rattle.grid_types.specs.Tokens.{Reservation}
use Rattle.node_client.specs.declared.carry.Carry.{Carry}
use Rattle.node_client.specs.declared.carry.State.{State}
use Rattle.node_client.specs.declared.carry.State.TheVariants as states
use Rattle.node_client.specs.Held.{tokens_in, carry_tokens}
use Rattle.node_client.specs.Steps.{Step}
use Rattle.node_client.specs.Places.{Place, at_start, at_bind, at_return, at_fail, at_quit, at_free, Wanted, IsAsk, IsBind, IsFail, IsFreed, Leads, wanted_at}
use Rattle.node_client.specs.Carrying.{Kind, Exchange, Bind, Fail, Freed, Stands, FailsRightly, IsIn, awaited, held, is_fresh, awaited_in, held_in, is_fresh_in}

-- a call of it that is there to be taken leaves it free to be asked what it wants
pub held_is_fresh : (carry : Carry) (kind : Kind) → held carry ≡ Some kind → is_fresh carry ≡ true
unfolding held is_fresh
held_is_fresh carry kind e = by_state carry.state e
  where
    by_state : (s : State) → held_in s ≡ Some kind → is_fresh_in s ≡ true
    by_state (states.Asking r body) h = refl
    by_state (states.ToBind r session caps) h = refl
    by_state (states.Returning r path) h = refl
    by_state (states.ToFail r w) h = refl
    by_state (states.Quitting c path) h = refl
    by_state (states.ToFree c) h = refl
    by_state (states.Done end) h = refl
    by_state states.Binding h = absurd cc
    by_state states.Failing h = absurd cc
    by_state states.Freeing h = absurd cc

-- and so does the exchange that it waits for
pub asking_is_fresh : (carry : Carry) → awaited carry ≡ Some Exchange → is_fresh carry ≡ true
unfolding awaited is_fresh
asking_is_fresh carry e = by_state carry.state e
  where
    by_state : (s : State) → awaited_in s ≡ Some Exchange → is_fresh_in s ≡ true
    by_state (states.Asking r body) h = refl
    by_state (states.ToBind r session caps) h = refl
    by_state (states.Returning r path) h = refl
    by_state (states.ToFail r w) h = refl
    by_state (states.Quitting c path) h = refl
    by_state (states.ToFree c) h = refl
    by_state (states.Done end) h = refl
    by_state states.Binding h = absurd cc
    by_state states.Failing h = absurd cc
    by_state states.Freeing h = absurd cc

-- what is wanted is an exchange, or a call of that kind
abbrev pub IsOfKind : Kind → Wanted → Type 0
IsOfKind Exchange w = IsAsk w
IsOfKind Bind w = IsBind w
IsOfKind Fail w = IsFail w
IsOfKind Freed w = IsFreed w

-- the answer that it waits for is that to its want
pub awaits_its_want : (carry : Carry) (r : Reservation) (place : Place) (steps : List Step)
    (kind : Kind) →
    Stands carry r place steps → awaited carry ≡ Some kind → IsOfKind kind (wanted_at r place)
unfolding Stands awaited
awaits_its_want carry r place steps kind stands e = by_state carry.state stands.0 e
  where
    of_kind : (p : Place) (k : Kind) → place ≡ p → Some k ≡ Some kind → IsOfKind k (wanted_at r p) →
        IsOfKind kind (wanted_at r place)
    of_kind p k is h o =
        let same : k ≡ kind = cc in
        subst (λ (z : Kind). IsOfKind z (wanted_at r place)) same (subst (λ (z : Place). IsOfKind k (wanted_at r z)) (sym is) o)

    by_state : (s : State) → IsIn s r place → awaited_in s ≡ Some kind →
        IsOfKind kind (wanted_at r place)
    by_state (states.Asking q body) i h = of_kind at_start Exchange i.1 h tt
    by_state (states.Returning q path) i h = of_kind (at_return i.1) Exchange i.2 h tt
    by_state (states.Quitting c path) i h = of_kind (at_quit c) Exchange i.0 h tt
    by_state states.Binding i h = of_kind (at_bind i.0 i.1) Bind i.2 h tt
    by_state states.Failing i h = of_kind (at_fail i.0) Fail i.1 h tt
    by_state states.Freeing i h = of_kind (at_free i.0) Freed i.1 h tt
    by_state (states.ToBind q session caps) i h = absurd cc
    by_state (states.ToFail q w) i h = absurd cc
    by_state (states.ToFree c) i h = absurd cc
    by_state (states.Done end) i h = absurd cc

-- the call that is there to be taken is what it wants
pub holds_its_want : (carry : Carry) (r : Reservation) (place : Place) (steps : List Step)
    (kind : Kind) →
    Stands carry r place steps → held carry ≡ Some kind → IsOfKind kind (wanted_at r place)
unfolding Stands held
holds_its_want carry r place steps kind stands e = by_state carry.state stands.0 e
  where
    of_kind : (p : Place) (k : Kind) → place ≡ p → Some k ≡ Some kind → IsOfKind k (wanted_at r p) →
        IsOfKind kind (wanted_at r place)
    of_kind p k is h o =
        let same : k ≡ kind = cc in
        subst (λ (z : Kind). IsOfKind z (wanted_at r place)) same (subst (λ (z : Place). IsOfKind k (wanted_at r z)) (sym is) o)

    by_state : (s : State) → IsIn s r place → held_in s ≡ Some kind →
        IsOfKind kind (wanted_at r place)
    by_state (states.ToBind q session caps) i h = of_kind (at_bind session caps) Bind i.1 h tt
    by_state (states.ToFail q w) i h = of_kind (at_fail w) Fail i.1 h tt
    by_state (states.ToFree c) i h = of_kind (at_free c) Freed i h tt
    by_state (states.Asking q body) i h = absurd cc
    by_state (states.Returning q path) i h = absurd cc
    by_state (states.Quitting c path) i h = absurd cc
    by_state states.Binding i h = absurd cc
    by_state states.Failing i h = absurd cc
    by_state states.Freeing i h = absurd cc
    by_state (states.Done end) i h = absurd cc

-- whatever goes on from its place completes the start
pub stands_leads : (carry : Carry) (r : Reservation) (place : Place) (steps : List Step) →
    Stands carry r place steps → Leads r place steps
unfolding Stands
stands_leads carry r place steps stands = stands.1.leads

-- it is given up for a cause of its own only
pub fails_rightly : (carry : Carry) (r : Reservation) (place : Place) (steps : List Step) →
    Stands carry r place steps → FailsRightly place
unfolding Stands
fails_rightly carry r place steps stands = stands.1.cause

-- it holds one token at most
pub holds_one : (carry : Carry) → length (carry_tokens carry) ≤ 1
unfolding carry_tokens
holds_one carry = by_state carry.state
  where
    by_state : (s : State) → length (tokens_in s) ≤ 1
    by_state (states.Asking r body) = omega arith
    by_state (states.ToBind r session caps) = omega arith
    by_state (states.Returning r path) = omega arith
    by_state (states.ToFail r w) = omega arith
    by_state (states.Quitting c path) = omega arith
    by_state (states.ToFree c) = omega arith
    by_state states.Binding = omega arith
    by_state states.Failing = omega arith
    by_state states.Freeing = omega arith
    by_state (states.Done e) = omega arith

-- The laws in one: a start whose call may be taken, or that asks a node, may be asked what it
-- wants; the call that may be taken and the answer that is awaited are those of its want; what goes
-- on from its place completes it; it is given up for a cause of its own only; and it holds one
-- token at most.
pub record StandLaws : Type 0 where
  pub held_are_fresh : (carry : Carry) (kind : Kind) → held carry ≡ Some kind →
      is_fresh carry ≡ true
  pub asking_are_fresh : (carry : Carry) → awaited carry ≡ Some Exchange → is_fresh carry ≡ true
  pub await_their_want : (carry : Carry) (r : Reservation) (place : Place) (steps : List Step)
      (kind : Kind) →
      Stands carry r place steps → awaited carry ≡ Some kind → IsOfKind kind (wanted_at r place)
  pub hold_their_want : (carry : Carry) (r : Reservation) (place : Place) (steps : List Step)
      (kind : Kind) →
      Stands carry r place steps → held carry ≡ Some kind → IsOfKind kind (wanted_at r place)
  pub lead : (carry : Carry) (r : Reservation) (place : Place) (steps : List Step) →
      Stands carry r place steps → Leads r place steps
  pub fail_rightly : (carry : Carry) (r : Reservation) (place : Place) (steps : List Step) →
      Stands carry r place steps → FailsRightly place
  pub hold_one : (carry : Carry) → length (carry_tokens carry) ≤ 1
