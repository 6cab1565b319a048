-- The page is its parts, one behind the other.
use Rattle.std.proofs.Common.{◌≡◌, ℕ, List, ◌++◌, ◌∙◌, ap}
use Rattle.grid_farm.specs.Farms.{Farm}
use Rattle.grid_page.specs.declared.parts.TheConstants.{END}
use Rattle.grid_page.specs.Hour.{with_picture}
use Rattle.grid_page.specs.Nodes.{with_node_table, with_wait_table}
use Rattle.grid_page.specs.Page.{front, page}

pub page_is : (farm : Farm) (first nodes waits picture whole : List ℕ) → first ≡ front farm → nodes ≡ with_node_table first farm → waits ≡ with_wait_table nodes farm →
    picture ≡ with_picture waits farm.hour → whole ≡ picture ++ END.now → whole ≡ page farm
page_is farm first nodes waits picture whole a b c d e =
    e ∙ ap (λ (bytes : List ℕ). bytes ++ END.now) (d ∙ ap (λ (bytes : List ℕ). with_picture bytes farm.hour) (c ∙ ap (λ (bytes : List ℕ). with_wait_table bytes farm)
    (b ∙ ap (λ (bytes : List ℕ). with_node_table bytes farm) a)))
