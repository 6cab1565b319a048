-- The tokens that a start holds.
use Rattle.std.specs.Prelude.{List, [], ◌∷◌}
use Rattle.grid_types.specs.Tokens as tokens
use Rattle.hub_core.specs.declared.answers.Binding.{Binding}
use Rattle.hub_core.specs.declared.answers.Binding.TheVariants as binding
use Rattle.node_client.specs.declared.carry.Carry.{Carry}
use Rattle.node_client.specs.declared.carry.State.{State}
use Rattle.node_client.specs.declared.carry.State.TheVariants as states
use Rattle.node_client.specs.declared.wants.CarryAnswer.{CarryAnswer}
use Rattle.node_client.specs.declared.wants.CarryAnswer.TheVariants as answers

-- tokens as one kind of thing
pub data Token : Type 0 where
  of_ticket : tokens.Ticket → Token
  of_reservation : tokens.Reservation → Token
  of_closing : tokens.Closing → Token

abbrev pub tokens_in : State → List Token
tokens_in (states.Asking r body) = of_reservation r ∷ []
tokens_in (states.ToBind r session caps) = of_reservation r ∷ []
tokens_in (states.Returning r path) = of_reservation r ∷ []
tokens_in (states.ToFail r w) = of_reservation r ∷ []
tokens_in (states.Quitting c path) = of_closing c ∷ []
tokens_in (states.ToFree c) = of_closing c ∷ []
tokens_in states.Binding = []
tokens_in states.Failing = []
tokens_in states.Freeing = []
tokens_in (states.Done e) = []

-- the tokens that it holds, that of a call that is to be taken among them
unfoldable pub carry_tokens : Carry → List Token
carry_tokens carry = tokens_in carry.state

-- the tokens that come back from a bind
abbrev pub binding_tokens : Binding → List Token
binding_tokens (binding.Bound b) = []
binding_tokens (binding.Late c) = of_closing c ∷ []
binding_tokens (binding.NodeGone c) = of_closing c ∷ []
binding_tokens (binding.Duplicate c) = of_closing c ∷ []
binding_tokens (binding.Mismatch c) = of_closing c ∷ []
binding_tokens (binding.Memory r session) = of_reservation r ∷ []

-- the tokens that an answer brings
abbrev pub told_tokens : CarryAnswer → List Token
told_tokens (answers.Node came) = []
told_tokens (answers.Bound b) = binding_tokens b
told_tokens (answers.Failed f) = []
told_tokens answers.Freed = []
