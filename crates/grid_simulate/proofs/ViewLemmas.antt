-- The requests that wait are those that a hub shows.
use Rattle.std.proofs.Common.{◌≡◌, ℕ, inl, inr, List, length, ap, ◌∙◌}
use Rattle.std.specs.Prelude.{Some}
use Rattle.std.proofs.lemmas.List.{length-map}
use Rattle.grid_types.specs.declared.config.HubConfig.{HubConfig}
use Rattle.grid_types.specs.declared.entry.Entry.{Entry}
use Rattle.grid_types.specs.declared.view.View.{View}
use Rattle.grid_types.specs.Requests.{waiting_requests}
use Rattle.grid_types.specs.Overview.{view_of, wait_view}
use Rattle.grid_types.specs.Calls.{Call, Reply}
use Rattle.grid_types.specs.HubAnswers.{hub}
use Rattle.hub_core.specs.Answers.{Answers}

some_viewed : (v u : View) → Some (Reply.viewed v) ≡ Some (Reply.viewed u) → v ≡ u
some_viewed v u h = cc

viewed_is : (c : HubConfig) (H later : List Entry) (at : ℕ) (v : View) → Answers c H 0 Call.view at (Some (Reply.viewed v)) later → v ≡ view_of H
unfolding hub
viewed_is c H later at v (inl exact) = some_viewed v (view_of H) exact.replies
viewed_is c H later at v (inr lack) = let e = lack.silent in absurd cc

pub view_waiting : (c : HubConfig) (H later : List Entry) (at : ℕ) (v : View) → Answers c H 0 Call.view at (Some (Reply.viewed v)) later → length v.waiting ≡ length (waiting_requests H)
unfolding view_of
view_waiting c H later at v answers =
    ap (λ (u : View). length u.waiting) (viewed_is c H later at v answers) ∙ length-map (waiting_requests H) (wait_view H)
