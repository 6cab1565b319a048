-- What a ledger tells of single facts.
use Rattle.std.proofs.Common.{◌≡◌, ℕ, Bool, true, false, List, [], ◌∷◌, refl, sym, ◌∙◌, ap}
use Rattle.std.specs.Prelude.{Option, None, is_some, option_map, unwrap_or, find}
use Rattle.std.specs.List.{list_any, slice_get}
use Rattle.grid_types.specs.declared.entry.Entry.{Entry}
use Rattle.grid_types.specs.declared.capabilities.Cap.{Cap}
use Rattle.grid_types.specs.Matching.{meets}
use Rattle.grid_types.specs.Requests.{Asked, choices_of, choice_of}
use Rattle.session_queue.specs.declared.request.Request.{Request}
use Rattle.session_queue.specs.Table.{RowTells}

-- something passes exactly where a first one is found
pub any_found : {X : Type 0} (p : X → Bool) (xs : List X) → is_some (find p xs) ≡ list_any p xs
any_found p [] = refl
any_found p (x ∷ xs) = elim (p x) as (λ v. p x ≡ v → is_some (find p (x ∷ xs)) ≡ list_any p (x ∷ xs)) [
  | true ↦ λ e. rw e refl
  | false ↦ λ e. rw e (any_found p xs)
] refl

row_choices : (q : Request) (H : List Entry) (r : ℕ) → RowTells q H r → choices_of H r ≡ q.choices
row_choices q H r t = ap (λ (o : Option Asked). unwrap_or (option_map (λ a. a.choices) o) []) t.asks

nothing_wanted : (caps : List Cap) → meets [] caps ≡ true
unfolding meets
nothing_wanted caps = refl

-- a choice that isn't there wants nothing, and all meet it
pub absent_met : (q : Request) (H : List Entry) (r k : ℕ) (caps : List Cap) → RowTells q H r → slice_get q.choices k ≡ None → true ≡ meets (choice_of H r k) caps
absent_met q H r k caps t none =
    let empty : choice_of H r k ≡ [] = ap (λ (cs : List (List Cap)). unwrap_or (slice_get cs k) []) (row_choices q H r t) ∙ ap (λ (o : Option (List Cap)). unwrap_or o []) none in
    sym (ap (λ (wanted : List Cap). meets wanted caps) empty ∙ nothing_wanted caps)
