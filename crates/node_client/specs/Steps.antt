-- The steps of a connection beside reading and writing.
use Rattle.std.specs.Prelude.{ℕ, ◌+◌, Bool, true, false, List, [], ◌∷◌, Option, None, Some, Ok, Err}
use Rattle.std.specs.List.{list_any}
use Rattle.grid_types.specs.declared.entry.FailWhy.{FailWhy}
use Rattle.grid_types.specs.declared.entry.FailWhy.TheVariants as why
use Rattle.grid_types.specs.Calls.{Call, Reply}
use Rattle.grid_outside.specs.declared.exchange.Ask.{Ask}
use Rattle.grid_outside.specs.declared.exchange.ExchangeFault.TheVariants as fault
use Rattle.grid_outside.specs.Exchanges.{Came}

-- a call of the hub at a moment, with its reply or, out of memory, none; one that found the
-- hub spent; an exchange with the node at an address; a pause of so many milliseconds
pub data Step : Type 0 where
  Called : (call : Call) (at : ℕ) (reply : Option Reply) → Step
  Spent : (call : Call) (at : ℕ) → Step
  Exchanged : (address : List ℕ) (ask : Ask) (came : Came) → Step
  Paused : (ms : ℕ) → Step

abbrev pub is_lack : FailWhy → Bool
is_lack why.NoMemory = true
is_lack w = false

-- a call that gives up a start as out of memory
abbrev pub gives_up : Call → Bool
gives_up (Call.fail r w) = is_lack w
gives_up call = false

abbrev pub lacked : Came → Bool
lacked (Ok reply) = false
lacked (Err fault.Unreachable) = false
lacked (Err fault.Memory) = true

-- a call found no memory, or gives up a start for want of it
abbrev pub call_lacks : Call → Option Reply → Bool
call_lacks call None = true
call_lacks call (Some reply) = gives_up call

-- a step that was out of memory; a start that is given up as out of it goes on after that also
-- where the hub is spent
abbrev pub step_lacks : Step → Bool
step_lacks (Called call at reply) = call_lacks call reply
step_lacks (Spent call at) = gives_up call
step_lacks (Exchanged address ask came) = lacked came
step_lacks (Paused ms) = false

-- some step was out of memory
abbrev pub met_want : List Step → Bool
met_want steps = list_any step_lacks steps

abbrev pub is_bound_reply : Option Reply → Bool
is_bound_reply (Some (Reply.bound b)) = true
is_bound_reply reply = false

-- the hub answered that a session is bound
abbrev pub step_binds : Step → Bool
step_binds (Called call at reply) = is_bound_reply reply
step_binds (Spent call at) = false
step_binds (Exchanged address ask came) = false
step_binds (Paused ms) = false

-- some step bound a session
abbrev pub bound_one : List Step → Bool
bound_one steps = list_any step_binds steps

-- how many of the steps found the hub spent
abbrev pub spent_looks : List Step → ℕ
spent_looks [] = 0
spent_looks (Called call at reply ∷ steps) = spent_looks steps
spent_looks (Spent call at ∷ steps) = spent_looks steps + 1
spent_looks (Exchanged address ask came ∷ steps) = spent_looks steps
spent_looks (Paused ms ∷ steps) = spent_looks steps
