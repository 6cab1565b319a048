-- Where a request finds the hub spent: at the last of its steps or not at all.
use Rattle.std.specs.Prelude.{◌≡◌, ◌≢◌, ℕ, Bool, true, false, List, [], ◌∷◌, ◌++◌, Option}
use Rattle.http_frames.specs.Frames.{Request}
use Rattle.grid_types.specs.Calls.{Call}
use Rattle.node_client.specs.Steps.{Step, Spent, spent_looks}
use Rattle.conn_script.specs.Responses.{Response, is_last, left}
use Rattle.conn_script.specs.Begin.{Begun, BegunLacks}
use Rattle.conn_script.specs.Script.{Script, Lacks}
use Rattle.conn_script.specs.Undo.{Undoes}

-- the last step found the hub spent, and no other
pub record SpentLast (steps : List Step) : Type 0 where
  pub before : List Step
  pub call : Call
  pub at : ℕ
  pub steps_are : steps ≡ before ++ Spent call at ∷ []
  pub none_before : spent_looks before ≡ 0
  pub count : spent_looks steps ≡ 1

-- no step found the hub spent, or the last alone
abbrev pub FindsSpent : Bool → List Step → Type 0
FindsSpent false steps = spent_looks steps ≡ 0
FindsSpent true steps = SpentLast steps

abbrev pub FindsSpentOrNot : List Step → Type 0
FindsSpentOrNot steps = (spent : Bool) × FindsSpent spent steps

-- What goes before a request finds no spent hub. A script whose response is the last finds the hub spent at its last step, any
-- other not at all. Steps that ended out of memory find it at the last or not at all, and so does a script whose client left, and
-- one with the end of a session of which its client could not be told.
pub record SpentLaws : Type 0 where
  pub begun : (own : Option (List ℕ)) (steps : List Step) → Begun own steps → spent_looks steps ≡ 0
  pub begun_lacks : (own : Option (List ℕ)) (steps : List Step) → BegunLacks own steps → spent_looks steps ≡ 0
  pub script : (f : Request) (steps : List Step) (response : Response) → Script f steps response → response ≢ left →
      FindsSpent (is_last response) steps
  pub leaves : (f : Request) (steps : List Step) → Script f steps left → FindsSpentOrNot steps
  pub lacks : (f : Request) (steps : List Step) → Lacks f steps → FindsSpentOrNot steps
  pub undone : (response : Response) (steps undone : List Step) → FindsSpent (is_last response) steps → Undoes response undone →
      FindsSpentOrNot (steps ++ undone)
  pub behind : (spent : Bool) (steps more : List Step) → spent_looks steps ≡ 0 → FindsSpent spent more → FindsSpent spent (steps ++ more)
