-- One exchange that has a session ended.
use Rattle.std.proofs.Common.{◌≡◌, ℕ, true, List, subst}
use Rattle.grid_types.specs.Tokens.{Closing}
use Rattle.grid_outside.specs.declared.exchange.Ask.{Ask}
use Rattle.grid_outside.specs.Exchanges.{Came}
use Rattle.node_client.specs.Asks.{quit_ask}
use Rattle.grid_keeper.specs.Settling.{asked_one, QuitsOn}

pub quits_one : {N : Type 0} (gives : N → List ℕ → Ask → Came → N → Type 0) (t : Closing) (address : List ℕ) (ask : Ask) (came : Came) (old new : N) → t.quit ≡ true → address ≡ t.address → ask ≡ quit_ask t.session
    → gives old address ask came new → QuitsOn gives old new
quits_one {N} gives t address ask came old new quits there asks gave = λ first so_far.
    asked_one first old new t came so_far quits (subst (λ (a : Ask). gives old t.address a came new) asks (subst (λ (a : List ℕ). gives old a ask came new) there gave))
