-- A journal grows at its end.
use Rattle.std.proofs.Common.{◌≡◌, ℕ, List, [], ◌∷◌, ◌++◌, ◌+◌, length, reverse, take, refl, sym, ap, ◌∙◌, append_assoc}
use Rattle.std.proofs.lemmas.List.{reverse-append, reverse-reverse, length-reverse, take_at}
use Rattle.grid_types.specs.declared.entry.Entry.{Entry}
use Rattle.grid_types.specs.declared.entry.Change.{Change}
use Rattle.grid_types.specs.History.{after}
use Rattle.grid_types.specs.Tokens.{Ticket}
use Rattle.grid_types.specs.Calls.{Call}
use Rattle.grid_types.specs.HubAnswers.{hub}
use Rattle.hub_core.specs.HubView.{HubView, past}
use Rattle.grid_simulate.specs.declared.summary.Summary.{Summary}
use Rattle.grid_simulate.specs.World.{World, simulated_config, called}
use Rattle.grid_simulate.specs.Crew.{crew}
use Rattle.grid_simulate.specs.Starts.{StartsAll}
use Rattle.grid_simulate.specs.Counts.{summary_of}
use Rattle.grid_simulate.specs.Simulates.{Steps, IsSimulated, polled_all, settled}

after_more : (H : List Entry) (k : ℕ) (cs : List Change) → (newer : List Entry) × (newer ++ H ≡ after H k cs)
after_more H k [] = ([], refl)
after_more H k (c ∷ cs) = more (after_more (record { caller = k; change = c } ∷ H) k cs)
  where
    more : (newer : List Entry) × (newer ++ (record { caller = k; change = c } ∷ H) ≡ after (record { caller = k; change = c } ∷ H) k cs) →
        (newer : List Entry) × (newer ++ H ≡ after (record { caller = k; change = c } ∷ H) k cs)
    more t = (t.0 ++ (record { caller = k; change = c } ∷ []), append_assoc t.0 (record { caller = k; change = c } ∷ []) H ∙ t.1)

called_more : (w : World) (call : Call) → (newer : List Entry) × (newer ++ w.history ≡ (called w call).history)
called_more w call = after_more w.history 0 (hub simulated_config w.history 0 call w.moment).changes

polled_more : (ts : List Ticket) (w : World) → (newer : List Entry) × (newer ++ w.history ≡ (polled_all ts w).history)
polled_more [] w = ([], refl)
polled_more (t ∷ ts) w = both (called_more w (Call.poll t)) (polled_more ts (called w (Call.poll t)))
  where
    both : (newer : List Entry) × (newer ++ w.history ≡ (called w (Call.poll t)).history) →
        (newer : List Entry) × (newer ++ (called w (Call.poll t)).history ≡ (polled_all ts (called w (Call.poll t))).history) →
        (newer : List Entry) × (newer ++ w.history ≡ (polled_all ts (called w (Call.poll t))).history)
    both a b = (b.0 ++ a.0, append_assoc b.0 a.0 w.history ∙ ap (λ (H : List Entry). b.0 ++ H) a.1 ∙ b.1)

-- what a history begins with, its journal begins with
front : (first whole newer : List Entry) → newer ++ reverse first ≡ reverse whole → take (length first) whole ≡ first
front first whole newer e =
    ap (λ (l : List Entry). take (length first) l) (sym (reverse-reverse whole) ∙ ap (λ (l : List Entry). reverse l) (sym e) ∙ reverse-append newer (reverse first) ∙ ap (λ (l : List Entry). l ++ reverse newer) (reverse-reverse first))
    ∙ take_at first (reverse newer) (length first) refl

pub simulated_is : (number at : ℕ) (last end : World) (summary : Summary) (mid final : HubView) → Steps 2_000 (crew number 8) last → StartsAll last.reservations last end → end.history ≡ past mid →
    at ≡ length mid.journal → summary ≡ summary_of (past mid) → past final ≡ (settled end).history → final.config ≡ simulated_config → IsSimulated number final at summary
simulated_is number at last end summary mid final steps starts same len counted rest config = record {
  end = end;
  simulated = record { last = last; steps = steps; starts = starts };
  first = first_is;
  all_of_them = len ∙ sym (length-reverse mid.journal) ∙ ap (λ (H : List Entry). length H) (sym same);
  counted = counted ∙ ap summary_of (sym same);
  rest = rest;
  config = config;
}
  where
    first_is : take at final.journal ≡ reverse end.history
    first_is =
        let more = polled_more end.tickets (record end { moment = end.moment + 60_000 }) in
        ap (λ (n : ℕ). take n final.journal) len
        ∙ front mid.journal final.journal more.0 (ap (λ (H : List Entry). more.0 ++ H) (sym same) ∙ more.1 ∙ sym rest)
        ∙ sym (ap (λ (H : List Entry). reverse H) same ∙ reverse-reverse mid.journal)
