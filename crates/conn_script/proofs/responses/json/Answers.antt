use Rattle.std.proofs.Common.{◌≡◌, ◌∙◌, subst, ℕ, List, []}
use Rattle.std.specs.Prelude.{IfOk, codes, Some, None, unwrap_or}
use Rattle.http.specs.StatusCode.{reason_phrase}
use Rattle.conn_script.specs.Responses.{response_text}
use Rattle.conn_script.proofs.responses.json.Goals as goal

pub returns : goal.returns
unfolding response_text
returns c =
    let e : c.as_bytes-reason.result.now ≡ unwrap_or (reason_phrase c.args.status) [] = c.as_bytes-reason.ensures.value ∙ c.phrase_of.ensures c.requires.status in
    subst (λ (r : List ℕ). IfOk c.write_response.result (λ b. b ≡ response_text c.args.status r (Some (codes "application/json; charset=utf-8")) None (Some (codes "no-cache")) c.args.body.now c.args.close)) e c.write_response.ensures
