-- The steps of requests one after the other, and what is written for them.
use Rattle.std.proofs.Common.{◌≡◌, ◌≢◌, ℕ, ◌<◌, Bool, true, false, ◌||◌, List, [], ◌∷◌, ◌++◌, length, refl, sym, ap, ◌∙◌, subst, arith, append-nil, append_assoc}
use Rattle.std.specs.Prelude.{Option, None, Some, Ok, Err}
use Rattle.http_frames.specs.Frames.{Request}
use Rattle.grid_types.specs.Tokens.{Closing}
use Rattle.grid_outside.specs.declared.exchange.ExchangeFault.TheVariants as fault
use Rattle.grid_outside.specs.Exchanges.{Came}
use Rattle.node_client.specs.Steps.{Step, step_lacks, met_want, lacked}
use Rattle.conn_script.specs.Responses as said
use Rattle.conn_script.specs.Responses.{Response, created, passed_on, hub_spent, left, bytes_of, is_last, response_text}
use Rattle.conn_script.specs.Begin.{Begun, Begins, swept, beaten, Expires, none_idle, one_idle, AsksToEnd, asked, not_asked}
use Rattle.hub_conn.specs.Conversation.{Answers, Scripts, none, last_spent, next, answer_text}

pub scripts_more : (own : Option (List ℕ)) (requests : List Request) (steps : List Step) (written : List ℕ) (spent : Bool) (f : Request) (mine : List Step) (response : Response) →
    Scripts own requests steps written spent → spent ≡ false → is_last response ≡ false → Answers own f mine response →
    Scripts own (requests ++ f ∷ []) (steps ++ mine) (written ++ answer_text f response) false
scripts_more own _ _ _ _ f mine response none e last x =
    subst (λ (w : List ℕ). Scripts own (f ∷ []) mine w false) (append-nil (answer_text f response))
    (subst (λ (s : List Step). Scripts own (f ∷ []) s (answer_text f response ++ []) false) (append-nil mine)
    (next f [] mine [] response [] false last x none))
scripts_more own _ _ _ _ f mine response (last_spent g steps answer is y) e last x = absurd (no e)
  where
    no : true ≡ false → ⊥
    no z = cc
scripts_more own _ _ _ _ f mine response (next g requests steps more answer written spent is y others) e last x =
    subst (λ (w : List ℕ). Scripts own (g ∷ (requests ++ f ∷ [])) ((steps ++ more) ++ mine) w false) (sym (append_assoc (answer_text g answer) written (answer_text f response)))
    (subst (λ (s : List Step). Scripts own (g ∷ (requests ++ f ∷ [])) s (answer_text g answer ++ (written ++ answer_text f response)) false) (sym (append_assoc steps more mine))
    (next g (requests ++ f ∷ []) steps (more ++ mine) answer (written ++ answer_text f response) false is y
    (scripts_more own requests more written spent f mine response others e last x)))

pub scripts_last : (own : Option (List ℕ)) (requests : List Request) (steps : List Step) (written : List ℕ) (spent : Bool) (f : Request) (mine : List Step) (response : Response) →
    Scripts own requests steps written spent → spent ≡ false → response ≡ hub_spent → Answers own f mine response →
    Scripts own (requests ++ f ∷ []) (steps ++ mine) (written ++ answer_text f response) true
scripts_last own _ _ _ _ f mine response none e last x = last_spent f mine response last x
scripts_last own _ _ _ _ f mine response (last_spent g steps answer is y) e last x = absurd (no e)
  where
    no : true ≡ false → ⊥
    no z = cc
scripts_last own _ _ _ _ f mine response (next g requests steps more answer written spent is y others) e last x =
    subst (λ (w : List ℕ). Scripts own (g ∷ (requests ++ f ∷ [])) ((steps ++ more) ++ mine) w true) (sym (append_assoc (answer_text g answer) written (answer_text f response)))
    (subst (λ (s : List Step). Scripts own (g ∷ (requests ++ f ∷ [])) s (answer_text g answer ++ (written ++ answer_text f response)) true) (sym (append_assoc steps more mine))
    (next g (requests ++ f ∷ []) steps (more ++ mine) answer (written ++ answer_text f response) true is y
    (scripts_last own requests more written spent f mine response others e last x)))

-- ---- want of memory

pub met_more : (a b : List Step) → met_want (a ++ b) ≡ (met_want a || met_want b)
met_more [] b = refl
met_more (s ∷ a) b = either (step_lacks s) (met_want (a ++ b)) (met_want a) (met_want b) (met_more a b)
  where
    either : (x whole p q : Bool) → whole ≡ (p || q) → (x || whole) ≡ ((x || p) || q)
    either true whole p q e = refl
    either false whole p q e = e

pub met_none : (a b : List Step) → met_want b ≡ false → met_want (a ++ b) ≡ met_want a
met_none a b e = met_more a b ∙ or_none (met_want a) (met_want b) e
  where
    or_none : (x y : Bool) → y ≡ false → (x || y) ≡ x
    or_none true y f = refl
    or_none false y f = f

-- no step before a request meets want of memory
asks_meet_none : (c : Closing) (steps : List Step) → AsksToEnd c steps → met_want steps ≡ false
asks_meet_none c _ (asked came other quit) = not_lacked came other
  where
    not_lacked : (what : Came) → what ≢ Err fault.Memory → (lacked what || false) ≡ false
    not_lacked (Ok reply) n = refl
    not_lacked (Err fault.Unreachable) n = refl
    not_lacked (Err fault.Memory) n = absurd (n refl)
asks_meet_none c _ (not_asked quit) = refl

expires_meet_none : (steps : List Step) → Expires steps → met_want steps ≡ false
expires_meet_none _ (none_idle at) = refl
expires_meet_none _ (one_idle {own} {more} at at' c asks others) = met_none own _ (expires_meet_none more others) ∙ asks_meet_none c own asks

begins_meet_none : (nodes : List ℕ) (steps : List Step) → Begins nodes steps → met_want steps ≡ false
begins_meet_none _ _ (swept at reply others) = expires_meet_none _ others
begins_meet_none _ _ (beaten node at reply others) = begins_meet_none _ _ others

pub begun_meets_none : (own : Option (List ℕ)) (steps : List Step) → Begun own steps → met_want steps ≡ false
begun_meets_none None steps x = ap met_want x
begun_meets_none (Some nodes) steps x = begins_meet_none nodes steps x

-- ---- responses

-- no response is empty, where there is one
pub response_some : (response : Response) (close : Bool) → response ≢ left → 0 < length (bytes_of response close)
unfolding response_text
response_some (created session caps binding) close n = omega arith
response_some (said.own status body) close n = omega arith
response_some (passed_on r) close n = omega arith
response_some hub_spent close n = omega arith
response_some left close n = absurd (n refl)

-- a last response is that of a spent hub
pub is_of_spent_hub : (response : Response) → is_last response ≡ true → response ≢ left → response ≡ hub_spent
is_of_spent_hub (created session caps binding) e n = absurd cc
is_of_spent_hub (said.own status body) e n = absurd cc
is_of_spent_hub (passed_on r) e n = absurd cc
is_of_spent_hub hub_spent e n = refl
is_of_spent_hub left e n = absurd (n refl)
