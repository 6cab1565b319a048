-- That words name one program at most, and how a node may end.
use Rattle.std.proofs.Common.{◌≡◌, ◌⊎◌, ℕ, List, [], length, get_or, refl, sym, ap, ◌∙◌, arith, inl, inr}
use Rattle.grid_config.specs.declared.rows.Mode.{Mode}
use Rattle.grid_config.specs.declared.rows.Mode.TheVariants as mode
use Rattle.hub_server.specs.Statuses.{MayEnd}
use Rattle.hub_server.specs.declared.begins.Unbegun.{Unbegun}
use Rattle.grid_config.specs.Servers.{IsNamed}

-- how many bytes the first word has
abbrev first_length : List (List ℕ) → ℕ
first_length words = length (get_or words 0 [])

pub one_name : (words : List (List ℕ)) (m k : Mode) → IsNamed words m → IsNamed words k → m ≡ k
one_name words mode.Hub mode.Hub p q = refl
one_name words mode.Node mode.Node p q = refl
one_name words mode.Hub mode.Node p q = let e : 3 ≡ 4 = ap first_length (sym p ∙ q) in absurd (omega (arith, e))
one_name words mode.Node mode.Hub p q = let e : 4 ≡ 3 = ap first_length (sym p ∙ q) in absurd (omega (arith, e))

-- a node ends as a hub whose links ended may
pub node_ends : (may : Unbegun → Type 0) (status : ℕ) → (status ≡ 0) ⊎ ((status ≡ 2) ⊎ ((status ≡ 3) ⊎ (status ≡ 5))) → (status ≡ 2) ⊎ MayEnd may status
node_ends may status (inl e) = inr (inl e)
node_ends may status (inr (inl e)) = inl e
node_ends may status (inr (inr (inl e))) = inr (inr (inl e))
node_ends may status (inr (inr (inr e))) = inr (inr (inr (inl e)))
