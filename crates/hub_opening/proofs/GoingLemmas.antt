-- From a history to the entries of a cell, the oldest first.
use Rattle.std.proofs.Common.{◌≡◌, ℕ, ◌<◌, ◌≤◌, false, List, [], ◌∷◌, ◌++◌, refl, sym, ap, ◌∙◌, subst, append-nil, arith}
use Rattle.std.specs.Prelude.{Option, None, Some, option_map, reverse, nat_eq, ◌==◌, IfSome, IfOk, OnOk, is_err, Result, Ok, Err}
use Rattle.std.proofs.lemmas.List.{reverse-reverse, reverse-append}
use Rattle.std.proofs.lemmas.List.Elements.{filter-append}
use Rattle.grid_types.specs.declared.config.HubConfig.{HubConfig}
use Rattle.grid_types.specs.declared.entry.Entry.{Entry}
use Rattle.grid_types.specs.History.{history_of}
use Rattle.grid_journal.specs.Fits.{AllFit}
use Rattle.grid_journal.specs.Spelled.{head_bytes, journal_bytes}
use Rattle.journal_keeper.specs.Images.{WrittenIsJournal}
use Rattle.journal_keeper.specs.Keeps.{Adds, Holds}
use Rattle.grid_opening.specs.Openings.{Keeps}
use Rattle.grid_ledger.specs.declared.ledger.GridLedger.{GridLedger}
use Rattle.grid_ledger.specs.LedgerStands as of_ledger
use Rattle.hub_core.specs.declared.hub.HubCore.{HubCore}
use Rattle.hub_core.specs.CoreStands.{Stands}
use Rattle.journal_keeper.specs.declared.keeping.Keeping.{Keeping}
use Rattle.hub_cell.specs.declared.hub.SharedHub.{SharedHub}
use Rattle.hub_cell.specs.declared.hub.Pass.{Pass}
use Rattle.hub_cell.specs.Passes.{core_of, keeping_of}
use Rattle.turn_cell.specs.Rule.{GoesOnFrom, entries_of}
use Rattle.hub_opening.specs.Handed.{IsBefore}

pub log_of : List Entry → List Entry
log_of history = reverse history

pub same_history : (history : List Entry) → history_of (reverse history) ≡ history
same_history history = reverse-reverse history

other_caller : (n m first : ℕ) → first ≤ n → m < first → nat_eq m n ≡ false
other_caller n m first far low = grind arith

none_of : (n first : ℕ) (history : List Entry) → first ≤ n → AllFit (IsBefore first) history → entries_of n (reverse history) ≡ []
none_of n first [] far low = refl
none_of n first (e ∷ es) far low =
    let one : entries_of n (e ∷ []) ≡ [] = rw (other_caller n e.caller first far low.0) refl in
    ap (entries_of n) (reverse-append (e ∷ []) es) ∙ (filter-append (λ (x : Entry). x.caller == n) (reverse es) (e ∷ []) ∙ rw (none_of n first es far low.1, one) refl)

pub goes_on_from : (first : ℕ) (history : List Entry) → AllFit (IsBefore first) history → GoesOnFrom first first (reverse history)
goes_on_from first history low = record {
  low = omega arith;
  own = none_of first first history (omega arith) low;
  later = λ n far. none_of n first history (omega arith) low;
}

pub held : WrittenIsJournal → (config : HubConfig) (history : List Entry) (kept : Option (List ℕ)) → Keeps config history kept → Holds config (reverse history) kept
held law config history None keeps = tt
held law config history (Some bytes) keeps =
    keeps.spelled ∙ (ap (λ (h : List Entry). journal_bytes config h) (sym (same_history history)) ∙ sym (law config (reverse history)))

-- a head behind nothing
pub head_kept : (head : List ℕ) (old new : Option (List ℕ)) → IfSome old (λ bytes. bytes ≡ []) → Adds old new head → new ≡ option_map (λ _. head) old
head_kept head None new empty adds = adds
head_kept head (Some bytes) new empty adds = adds ∙ ap (λ (l : List ℕ). Some (l ++ head)) empty

pub head_held : (config : HubConfig) (old new : Option (List ℕ)) → IfSome old (λ bytes. bytes ≡ []) → Adds old new (head_bytes config) → Holds config [] new
head_held config None new empty adds = subst (Holds config []) (sym adds) tt
head_held config (Some bytes) new empty adds = subst (Holds config []) (sym (head_kept (head_bytes config) (Some bytes) new empty adds)) (sym (append-nil (head_bytes config)))

pub on_ok : {U E P : Type 0} (r : Result U E) → is_err r ≡ false → OnOk r P → P
on_ok (Ok u) e h = h
on_ok (Err x) e h = absurd (cc)

-- the hub's core stands for what the core stood for that it was made with
pub stands_on : {E : Type 0} (core : HubCore) (ledger : GridLedger) (keeping : Keeping) (r : Result (SharedHub × Pass) E) → IfOk r (λ x. (core_of x.0 ≡ core) × (keeping_of x.0 ≡ keeping))
    → ((H : List Entry) → of_ledger.Stands ledger H → Stands core H) → IfOk r (λ x. (H : List Entry) → of_ledger.Stands ledger H → Stands (core_of x.0) H)
stands_on core ledger keeping (Ok x) same stands = λ H s. subst (λ (z : HubCore). Stands z H) (sym same.0) (stands H s)
stands_on core ledger keeping (Err e) same stands = tt
