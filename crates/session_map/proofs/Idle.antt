-- The idle bindings of the table are those of the history.
use Rattle.std.proofs.Common.{◌≡◌, ℕ, suc, ◌-◌, ◌≤◌, Bool, true, false, cond, ◌&&◌, ◌||◌, List, [], ◌∷◌, map, filter, min, refl, sym, ap, ◌∙◌, arith}
use Rattle.std.specs.Prelude.{Option, None, Some, nat_eq, nat_lt, nat_le, is_some, slice_get}
use Rattle.std.specs.Map.{lookup}
use Rattle.indexmap.specs.IndexMap.{get}
use Rattle.std.specs.Cmp.{nat_eq_equiv}
use Rattle.std.specs.List.{reduce}
use Rattle.std.proofs.lemmas.Map.Entries.{option_filter, lookup-filter-values, hash_map_get_place}
use Rattle.std.proofs.lemmas.Map.Made.{is_some-lookup}
use Rattle.grid_types.specs.declared.entry.Entry.{Entry}
use Rattle.grid_types.specs.Lists.{least, has}
use Rattle.grid_types.specs.Bindings.{Running, bindings, bound_of}
use Rattle.grid_types.specs.Sessions.{is_live, active, live_bindings}
use Rattle.grid_types.specs.HistoryLaws.{Known, laws}
use Rattle.session_map.specs.declared.live_map.LiveSession.{LiveSession}
use Rattle.session_map.specs.declared.live_map.LiveMap.{LiveMap}
use Rattle.session_map.specs.Table.{Stands, is_quiet, session_row, idle_bindings}

abbrev is_idle : ℕ → ℕ → LiveSession → Bool
is_idle idle_ms at x = nat_le idle_ms (at - x.active.0)

row-idle : (H : List Entry) (idle_ms at b : ℕ) → is_some (option_filter (is_idle idle_ms at) (session_row H b)) ≡ (nat_le idle_ms (at - active H b) && (is_live H b && is_some (bound_of H b)))
row-idle H idle_ms at b = by_bound (bound_of H b) refl (is_live H b) refl
  where
    by_bound : (o : Option Running) → bound_of H b ≡ o → (v : Bool) → is_live H b ≡ v →
        is_some (option_filter (is_idle idle_ms at) (session_row H b)) ≡ (nat_le idle_ms (at - active H b) && (is_live H b && is_some (bound_of H b)))
    by_bound None d true e = rw (d, e) (grind arith)
    by_bound None d false e = rw (d, e) (grind arith)
    by_bound (Some x) d true e = rw (d, e) (grind arith)
    by_bound (Some x) d false e = rw (d, e) (grind arith)

pub least-idle : Known → (t : LiveMap) (H : List Entry) (idle_ms at : ℕ) → Stands t H →
    reduce min (map (λ e. e.0) (filter (λ e. nat_le idle_ms (at - e.1.active.0)) t.sessions.entries)) ≡ least nat_lt (idle_bindings H idle_ms at)
least-idle proved t H idle_ms at s = (laws proved).least-same _ _ (λ b.
    sym (is_some-lookup (nat_eq b) (filter (λ e. is_idle idle_ms at e.1) t.sessions.entries))
    ∙ ap is_some (lookup-filter-values nat_eq_equiv (is_idle idle_ms at) b t.sessions.entries s.bindings_differ)
    ∙ ap (λ o. is_some (option_filter (is_idle idle_ms at) o)) (s.sessions b)
    ∙ row-idle H idle_ms at b
    ∙ sym ((laws proved).has-filter (λ q. nat_le idle_ms (at - active H q)) b (live_bindings H)
    ∙ ap (λ v. nat_le idle_ms (at - active H b) && v) ((laws proved).has-filter (is_live H) b (bindings H) ∙ ap (λ v. is_live H b && v) ((laws proved).has-bindings H b))))

-- nothing passes a test that no entry passes
filter-none : {K X : Type 0} (p : K × X → Bool) (es : List (K × X)) → ((i : ℕ) (e : K × X) → slice_get es i ≡ Some e → p e ≡ false) → filter p es ≡ []
filter-none p [] none = refl
filter-none p (e ∷ es) none = rw (none 0 e refl) (filter-none p es (λ i d at. none (suc i) d at))

-- no session is idle where none was used last before a moment that is not long ago
pub none-idle : Known → (t : LiveMap) (H : List Entry) (idle_ms at : ℕ) → Stands t H → is_quiet t at idle_ms ≡ true → None ≡ least nat_lt (idle_bindings H idle_ms at)
none-idle proved t H idle_ms at s h =
    ap (λ es. reduce min (map (λ e. e.0) es)) (sym (filter-none (λ e. is_idle idle_ms at e.1) t.sessions.entries (λ i e there. busy e.1 (s.quiet e.0 e.1 (hash_map_get_place nat_eq_equiv t.sessions i e.0 e.1 s.bindings_differ there)))))
    ∙ least-idle proved t H idle_ms at s
  where
    busy : (x : LiveSession) → t.quiet_since.0 ≤ x.active.0 → is_idle idle_ms at x ≡ false
    busy x low = grind arith

has-found : (f : LiveSession → ℕ) (test : ℕ → Bool) (es : List (ℕ × LiveSession)) (x : LiveSession) → lookup test es ≡ Some x → has (f x) (map (λ e. f e.1) es) ≡ true
has-found f test [] x h = absurd (cc)
has-found f test (e ∷ es) x h = by_test (test e.0) h (has-found f test es x)
  where
    by_test : (v : Bool) → cond v (Some e.1) (lookup test es) ≡ Some x → (lookup test es ≡ Some x → has (f x) (map (λ e. f e.1) es) ≡ true) → (nat_eq (f x) (f e.1) || has (f x) (map (λ e. f e.1) es)) ≡ true
    by_test true g rest = let same : e.1 ≡ x = cc in let own : nat_eq (f x) (f e.1) ≡ true = grind arith in rw own refl
    by_test false g rest = let there : has (f x) (map (λ e. f e.1) es) ≡ true = rest g in grind arith

-- the earliest use is not after any session's
pub earliest-quiet : Known → (t : LiveMap) (earliest b : ℕ) (x : LiveSession) → Some earliest ≡ reduce min (map (λ e. e.1.active.0) t.sessions.entries) → get nat_eq t.sessions b ≡ Some x → earliest ≤ x.active.0
earliest-quiet proved t earliest b x h there =
    (laws proved).least-below (map (λ e. e.1.active.0) t.sessions.entries) earliest x.active.0 (sym (h ∙ (laws proved).reduce-least (map (λ e. e.1.active.0) t.sessions.entries))) (has-found (λ z. z.active.0) (nat_eq b) t.sessions.entries x there)
