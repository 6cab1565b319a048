use Rattle.std.proofs.Common.{◌≡◌, ℕ, List, ◌++◌, append_assoc, ap, ◌∙◌}
use Rattle.std.specs.Prelude.{codes, decimal, string_bytes}
use Rattle.grid_types.specs.Capabilities.{json_string}
use Rattle.node_signs.specs.Signs.{written_names}
use Rattle.node_signs.proofs.body.push_names.Goals as goal

regroup : (t n a d x m : List ℕ) → (((t ++ n) ++ a) ++ d) ++ (x ++ m) ≡ t ++ ((((n ++ a) ++ d) ++ x) ++ m)
regroup t n a d x m = simp append_assoc

pub returns : goal.returns
unfolding written_names
returns c =
    let name : c.as_str.result.now ≡ c.args.node.now.name = c.as_str.ensures.bytes in
    let most : string_bytes c.write.new.self ≡ string_bytes c.push_json-2.new.text ++ (codes ",\"maxSessions\":" ++ decimal c.args.node.now.max_sessions) = c.in_ok-write.ensures.bytes in
    let address : string_bytes c.push_json-2.new.text ≡ string_bytes c.push_str.new.self ++ json_string c.args.node.now.address =
    c.in_ok-push_json-2.ensures ∙ ap (λ (t : List ℕ). string_bytes c.push_str.new.self ++ json_string t) c.as_str-2.ensures in
    let comma : string_bytes c.push_str.new.self ≡ string_bytes c.push_json.new.text ++ codes ",\"address\":" = c.in_ok-push_str.ensures.bytes in
    let first : string_bytes c.push_json.new.text ≡ string_bytes c.args.text.now ++ json_string c.args.node.now.name =
    c.in_ok-push_json.ensures ∙ ap (λ (t : List ℕ). string_bytes c.args.text.now ++ json_string t) name in
    most ∙ ap (λ (t : List ℕ). t ++ (codes ",\"maxSessions\":" ++ decimal c.args.node.now.max_sessions))
    (address ∙ ap (λ (t : List ℕ). t ++ json_string c.args.node.now.address) (comma ∙ ap (λ (t : List ℕ). t ++ codes ",\"address\":") first))
    ∙ regroup (string_bytes c.args.text.now) (json_string c.args.node.now.name) (codes ",\"address\":") (json_string c.args.node.now.address) (codes ",\"maxSessions\":") (decimal c.args.node.now.max_sessions)
