-- A log goes on behind the front of a history.
use Rattle.std.proofs.Common.{◌≡◌, ℕ, List, [], ◌∷◌, ◌++◌, refl, ◌∙◌, ap}
use Rattle.grid_types.specs.declared.config.HubConfig.{HubConfig}
use Rattle.grid_types.specs.declared.entry.Entry.{Entry}
use Rattle.grid_log.specs.declared.form.Form.{Form}
use Rattle.grid_log.specs.Past.{Past, past_after, past_of, past_on}
use Rattle.grid_log.specs.Facts.{lines}
use Rattle.grid_log.specs.Events.{entry_events, log_of, told_behind}

past_joins : (rest front : List Entry) → past_of (rest ++ front) ≡ past_on (past_of front) rest
past_joins [] front = refl
past_joins (entry ∷ rest) front = ap (λ (p : Past). past_after p entry) (past_joins rest front)

pub log_joins : (form : Form) (c : HubConfig) (front rest : List Entry) → log_of form c (rest ++ front) ≡ told_behind (log_of form c front) form c (past_of front) rest
log_joins form c front [] = refl
log_joins form c front (entry ∷ rest) =
    ap (λ (p : Past). log_of form c (rest ++ front) ++ lines form (entry_events c p entry)) (past_joins rest front)
    ∙ ap (λ (bytes : List ℕ). bytes ++ lines form (entry_events c (past_on (past_of front) rest) entry)) (log_joins form c front rest)
