-- A journal has its entries in order, a history the newest first.
use Rattle.std.proofs.Common.{◌≡◌, ℕ, List, [], ◌∷◌, ◌++◌, map, ap, sym, ◌∙◌, append_assoc, append-nil}
use Rattle.std.proofs.lemmas.List.{reverse-append}
use Rattle.grid_types.specs.declared.entry.Entry.{Entry}
use Rattle.grid_types.specs.declared.entry.Change.{Change}
use Rattle.grid_types.specs.History.{history_of, after}
use Rattle.grid_types.specs.Tables.{entry}

-- more entries behind the journal
pub history-append : (journal more : List Entry) → history_of (journal ++ more) ≡ history_of more ++ history_of journal
history-append journal more = reverse-append journal more

-- the changes of a call behind the journal
pub history-after : (journal : List Entry) (k : ℕ) (changes : List Change) → history_of (journal ++ map (entry k) changes) ≡ after (history_of journal) k changes
history-after journal k [] = ap history_of (append-nil journal)
history-after journal k (c ∷ cs) =
    ap history_of (sym (append_assoc journal (entry k c ∷ []) (map (entry k) cs)))
    ∙ (history-after (journal ++ entry k c ∷ []) k cs
    ∙ ap (λ (H : List Entry). after H k cs) (history-append journal (entry k c ∷ [])))
