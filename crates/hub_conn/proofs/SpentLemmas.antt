-- Whether a conversation that is over found the hub spent.
use Rattle.std.proofs.Common.{◌≡◌, ◌≢◌, ℕ, Bool, true, false, List, ◌++◌, refl, sym, ap, ◌∙◌, subst, inl, inr}
use Rattle.std.specs.Prelude.{Option, Ok, Err}
use Rattle.http_frames.specs.Frames.{Request}
use Rattle.node_client.specs.Steps.{Step, spent_looks}
use Rattle.conn_script.specs.declared.wants.End.{End}
use Rattle.conn_script.specs.declared.wants.ConnFault.TheVariants as faults
use Rattle.conn_script.specs.Responses as said
use Rattle.conn_script.specs.Responses.{Response, is_last, left}
use Rattle.conn_script.specs.Undo.{Undoes}
use Rattle.conn_script.specs.SpentLooks as scripts
use Rattle.conn_script.specs.SpentLooks.{FindsSpent, FindsSpentOrNot}
use Rattle.hub_conn.specs.Conversation.{Answers, Scripts, none, last_spent, next, EndsSo, closed, asked, refused, cut, closed_at_limit, cut_at_limit, hub_spent, Breaks, in_words, in_response, LacksBehind, no_request, before_request, in_request}
use Rattle.hub_conn.specs.SpentLaws.{is_hub_spent, SpentLaws}

finds_as : (a b : Bool) (steps : List Step) → a ≡ b → FindsSpent a steps → FindsSpent b steps
finds_as a b steps e f = subst (λ (z : Bool). FindsSpent z steps) e f

steps_as : (spent : Bool) (steps more : List Step) → steps ≡ more → FindsSpent spent more → FindsSpent spent steps
steps_as spent steps more e f = subst (FindsSpent spent) (sym e) f

or_as : (steps more : List Step) → steps ≡ more → FindsSpentOrNot more → FindsSpentOrNot steps
or_as steps more e f = (f.0, steps_as f.0 steps more e f.1)

-- how it ends tells whether the hub was spent
ends_so : (bytes : List ℕ) (requests : List Request) (rest : List ℕ) (end : End) (spent : Bool) (words : List ℕ) → EndsSo bytes requests rest end spent words → spent ≡ is_hub_spent end
ends_so bytes requests rest _ _ _ (closed f few) = refl
ends_so bytes requests rest _ _ _ (asked f) = refl
ends_so bytes requests rest _ _ _ (refused why at waits f w) = refl
ends_so bytes requests rest _ _ _ (cut at waits f few w) = refl
ends_so bytes requests rest _ _ _ (closed_at_limit f all) = refl
ends_so bytes requests rest _ _ _ (cut_at_limit at waits f all w) = refl
ends_so bytes requests rest _ _ _ hub_spent = refl

-- where there is a response
of_spent : (response : Response) → response ≡ said.hub_spent → response ≢ left
of_spent response is e = let never : said.hub_spent ≡ left = sym is ∙ e in cc

goes_there : (response : Response) → is_last response ≡ false → response ≢ left
goes_there response goes_on e = let never : true ≡ false = sym (ap is_last e) ∙ goes_on in cc

is_there : (response : Response) (undone : List Step) → Undoes response undone → response ≢ left
is_there response undone u e = subst (λ (r : Response). Undoes r undone) e u

module _ (laws : scripts.SpentLaws) where
  or_behind : (steps more : List Step) → spent_looks steps ≡ 0 → FindsSpentOrNot more → FindsSpentOrNot (steps ++ more)
  or_behind steps more unspent f = (f.0, laws.behind f.0 steps more unspent f.1)

  answers : (own : Option (List ℕ)) (f : Request) (steps : List Step) (response : Response) → Answers own f steps response → response ≢ left → FindsSpent (is_last response) steps
  answers own f steps response a n =
      steps_as (is_last response) steps (a.begun ++ a.script_steps) a.steps_are
      (laws.behind (is_last response) a.begun a.script_steps (laws.begun own a.begun a.begins) (laws.script f a.script_steps response a.script n))

  -- a client left
  answers_none : (own : Option (List ℕ)) (f : Request) (steps : List Step) → Answers own f steps left → FindsSpentOrNot steps
  answers_none own f steps a =
      or_as steps (a.begun ++ a.script_steps) a.steps_are (or_behind a.begun a.script_steps (laws.begun own a.begun a.begins) (laws.leaves f a.script_steps a.script))

  in_scripts : (own : Option (List ℕ)) (requests : List Request) (steps : List Step) (written : List ℕ) (spent : Bool) → Scripts own requests steps written spent → FindsSpent spent steps
  in_scripts own _ _ _ _ none = refl
  in_scripts own _ _ _ _ (last_spent f steps response last a) =
      finds_as (is_last response) true steps (ap is_last last) (answers own f steps response a (of_spent response last))
  in_scripts own _ _ _ _ (next f requests steps more response written spent goes_on a others) =
      laws.behind spent steps more (finds_as (is_last response) false steps goes_on (answers own f steps response a (goes_there response goes_on))) (in_scripts own requests more written spent others)

  -- behind whole requests
  behind_scripts : (own : Option (List ℕ)) (requests : List Request) (before : List Step) (written : List ℕ) (steps behind : List Step) → Scripts own requests before written false →
      steps ≡ before ++ behind → FindsSpentOrNot behind → FindsSpentOrNot steps
  behind_scripts own requests before written steps behind s e f =
      or_as steps (before ++ behind) e (or_behind before behind (in_scripts own requests before written false s) f)

  breaks : (own : Option (List ℕ)) (rest : List ℕ) (steps : List Step) (taken : List ℕ) → Breaks own rest steps taken → FindsSpentOrNot steps
  breaks own rest _ _ (in_words taken unwritten words some) = (false, refl)
  breaks own rest _ _ (in_response mine undone f behind response taken unwritten whole a text some u) =
      laws.undone response mine undone (answers own f mine response a (is_there response undone u)) u

  lacks : (own : Option (List ℕ)) (rest : List ℕ) (steps : List Step) → LacksBehind own rest steps → FindsSpentOrNot steps
  lacks own rest _ no_request = (false, refl)
  lacks own rest _ (before_request steps b) = (false, laws.begun_lacks own steps b)
  lacks own rest _ (in_request f behind begun steps whole b l) = or_behind begun steps (laws.begun own begun b) (laws.lacks f steps l)

  pub finished : SpentLaws
  finished own (Ok served) bytes steps written x = record {
    spent = x.spent;
    told = ends_so bytes x.requests x.rest served.end x.spent x.last_words x.ends;
    finds = in_scripts own x.requests steps x.responses x.spent x.scripts;
  }
  finished own (Err faults.Read) bytes steps written (inl (served, still, x)) = record {
    spent = x.spent;
    told = tt;
    finds = in_scripts own x.requests steps x.responses x.spent x.scripts;
  }
  finished own (Err faults.Read) bytes steps written (inr x) =
      let f = behind_scripts own x.requests x.before x.responses steps x.mine x.scripts x.steps_are (answers_none own x.f x.mine x.answers) in
      record { spent = f.0; told = tt; finds = f.1 }
  finished own (Err faults.Write) bytes steps written x =
      let f = behind_scripts own x.requests x.before x.responses steps x.behind x.scripts x.steps_are (breaks own x.rest x.behind x.taken x.breaks) in
      record { spent = f.0; told = tt; finds = f.1 }
  finished own (Err faults.Memory) bytes steps written x =
      let f = behind_scripts own x.requests x.before x.responses steps x.behind x.scripts x.steps_are (lacks own x.rest x.behind x.lacks) in
      record { spent = f.0; told = tt; finds = f.1 }
