-- What is told of a call change by change.
use Rattle.std.proofs.Common.{◌≡◌, ℕ, suc, ◌+◌, List, [], ◌∷◌, ◌++◌, length, refl, sym, ap, ◌∙◌, subst, arith, append_assoc, append-nil, Result, Ok, Err}
use Rattle.std.specs.Prelude.{Some, map, flat_map, IsOk}
use Rattle.std.proofs.lemmas.List.Concat.{flat_map-append}
use Rattle.grid_types.specs.declared.entry.Entry.{Entry}
use Rattle.grid_types.specs.declared.entry.Change.{Change}
use Rattle.grid_types.specs.History.{after}
use Rattle.grid_types.specs.HubAnswers.{hub}
use Rattle.grid_types.specs.Tables.{entry}
use Rattle.grid_types.specs.Calls.{Call, Reply}
use Rattle.grid_journal.specs.declared.piece.PieceFault.{PieceFault}
use Rattle.grid_journal.specs.declared.piece.PieceFault.TheVariants as fault
use Rattle.grid_journal.specs.EntryReads.{IsEntry}
use Rattle.grid_journal.specs.Fits.{AllFit}
use Rattle.grid_journal.specs.Spelled.{entry_bytes}
use Rattle.grid_journal.specs.Pieces.{Told}
use Rattle.hub_core.specs.declared.hub.HubCore.{HubCore}
use Rattle.hub_core.specs.CoreStands.{Stands, CoreServes}
use Rattle.hub_core.specs.Recorded.{StandsHeld, RecordsCall}
use Rattle.hub_tellers.specs.Tells.{ToldAll}
use Rattle.hub_tellers.specs.Records.{Since, ToldSince, TellsCall}

-- one more change at the end
after-last : (H : List Entry) (k : ℕ) (cs : List Change) (c : Change) → entry k c ∷ after H k cs ≡ after H k (cs ++ c ∷ [])
after-last H k [] c = refl
after-last H k (d ∷ ds) c = after-last (entry k d ∷ H) k ds c

map-last : (k : ℕ) (cs : List Change) (c : Change) → map (entry k) cs ++ entry k c ∷ [] ≡ map (entry k) (cs ++ c ∷ [])
map-last k [] c = refl
map-last k (d ∷ ds) c = ap (λ (l : List Entry). entry k d ∷ l) (map-last k ds c)

fit-last : (es : List Entry) (e : Entry) → AllFit IsEntry es → IsEntry e → AllFit IsEntry (es ++ e ∷ [])
fit-last [] e all is = (is, tt)
fit-last (f ∷ es) e all is = (all.0, fit-last es e all.1 is)

fit-front : (es : List Entry) (e : Entry) → AllFit IsEntry (es ++ e ∷ []) → AllFit IsEntry es
fit-front [] e all = tt
fit-front (f ∷ es) e all = (all.0, fit-front es e all.1)

fit-end : (es : List Entry) (e : Entry) → AllFit IsEntry (es ++ e ∷ []) → IsEntry e
fit-end [] e all = all.0
fit-end (f ∷ es) e all = fit-end es e all.1

told_more : (es : List Entry) (e : Entry) (old mid new : List ℕ) (done : Unit {0}) (r : Result (Unit {0}) PieceFault) → ToldAll old mid es (Ok done) → Told mid new e r → ToldAll old new (es ++ e ∷ []) r
told_more es e old mid new done (Ok also) all one = (
  one.0 ∙ (ap (λ (l : List ℕ). l ++ entry_bytes e) all.0 ∙ (append_assoc old (flat_map entry_bytes es) (entry_bytes e)
      ∙ ap (λ (l : List ℕ). old ++ l) (ap (λ (l : List ℕ). flat_map entry_bytes es ++ l) (sym (append-nil (entry_bytes e))) ∙ sym (flat_map-append entry_bytes es (e ∷ []))))),
  fit-last es e all.1 one.1,
)
told_more es e old mid new done (Err fault.Memory) all one = one
told_more es e old mid new done (Err fault.Unreadable) all one = (one.0, λ fits. one.1 (fit-end es e fits))

told_stopped : (es : List Entry) (e : Entry) (old new : List ℕ) (f : PieceFault) → ToldAll old new es (Err f) → ToldAll old new (es ++ e ∷ []) (Err f)
told_stopped es e old new fault.Memory all = all
told_stopped es e old new fault.Unreadable all = (all.0, λ fits. all.1 (fit-front es e fits))

module _ (since : Since) (past : List Entry) (ch : Change) where
  pub next_told : (k : ℕ) (old new : List ℕ) (t r : Result (Unit {0}) PieceFault) (done : Unit {0}) → t ≡ Ok done → ToldSince k old t since past → Told old new (entry k ch) r →
      ToldSince k new r since (entry since.caller ch ∷ past)
  next_told k old new t r done ok held told = record {
    same_caller = held.same_caller;
    changes = held.changes ++ ch ∷ [];
    goes_on = ap (λ (l : List Entry). entry since.caller ch ∷ l) held.goes_on ∙ after-last since.before since.caller held.changes ch;
    tells = subst (λ (l : List Entry). ToldAll since.bytes new l r) (map-last since.caller held.changes ch)
        (told_more (map (entry since.caller) held.changes) (entry since.caller ch) since.bytes old new done r
        (subst (λ (z : Result (Unit {0}) PieceFault). ToldAll since.bytes old (map (entry since.caller) held.changes) z) ok held.tells)
        (subst (λ (n : ℕ). Told old new (entry n ch) r) held.same_caller told));
  }

  pub next_stopped : (k : ℕ) (old : List ℕ) (t : Result (Unit {0}) PieceFault) (f : PieceFault) → t ≡ Err f → ToldSince k old t since past → ToldSince k old (Err f) since (entry since.caller ch ∷ past)
  next_stopped k old t f stopped held = record {
    same_caller = held.same_caller;
    changes = held.changes ++ ch ∷ [];
    goes_on = ap (λ (l : List Entry). entry since.caller ch ∷ l) held.goes_on ∙ after-last since.before since.caller held.changes ch;
    tells = subst (λ (l : List Entry). ToldAll since.bytes old l (Err f)) (map-last since.caller held.changes ch)
        (told_stopped (map (entry since.caller) held.changes) (entry since.caller ch) since.bytes old f
        (subst (λ (z : Result (Unit {0}) PieceFault). ToldAll since.bytes old (map (entry since.caller) held.changes) z) stopped held.tells));
  }

-- the changes are known by the history after them
longer : (H : List Entry) (k : ℕ) (cs : List Change) → length (after H k cs) ≡ length H + length cs
longer H k [] = omega arith
longer H k (c ∷ cs) = let e = longer (entry k c ∷ H) k cs in omega (arith, e)

changes-same : (H G : List Entry) (k : ℕ) (cs ds : List Change) → length H ≡ length G → after H k cs ≡ after G k ds → (H ≡ G) × (cs ≡ ds)
changes-same H G k [] [] long e = (e, refl)
changes-same H G k [] (d ∷ ds) long e = let m = longer (entry k d ∷ G) k ds in let l = ap length e in absurd (omega (arith, long, m, l))
changes-same H G k (c ∷ cs) [] long e = let m = longer (entry k c ∷ H) k cs in let l = ap length e in absurd (omega (arith, long, m, l))
changes-same H G k (c ∷ cs) (d ∷ ds) long e =
    let rest = changes-same (entry k c ∷ H) (entry k d ∷ G) k cs ds (ap suc long) e in
    let heads : entry k c ∷ H ≡ entry k d ∷ G = rest.0 in
    let same : cs ≡ ds = rest.1 in
    let one : entry k c ≡ entry k d = cc in
    let first : c ≡ d = ap (λ (z : Entry). z.change) one in
    let tails : H ≡ G = cc in
    (tails, cc)

-- nothing was told yet
started : (k k0 : ℕ) (bytes p0 : List ℕ) (t0 : Result (Unit {0}) PieceFault) (H : List Entry) → k0 ≡ k → p0 ≡ bytes → IsOk t0 → ToldSince k0 p0 t0 (record { caller = k; before = H; bytes = bytes }) H
started k k0 bytes p0 (Ok done) H same there ok = record { same_caller = same; changes = []; goes_on = refl; tells = (there ∙ sym (append-nil bytes), tt) }
started k k0 bytes p0 (Err f) H same there ok = absurd (cc)

module _ (old new : HubCore) (k at : ℕ) (call : Call) (reply : Reply) (bytes p0 p1 : List ℕ) (k0 k1 : ℕ) (t0 t1 : Result (Unit {0}) PieceFault) (same : k0 ≡ k) (there : p0 ≡ bytes) (ok : IsOk t0)
    (records : (since : Since) → RecordsCall old (ToldSince k0 p0 t0 since) new (ToldSince k1 p1 t1 since) since.caller call at (Some reply)) where
  abbrev since : List Entry → Since
  since H = record { caller = k; before = H; bytes = bytes }

  held : (H : List Entry) → Stands old H → StandsHeld old (ToldSince k0 p0 t0 (since H)) H
  held H s = record { stands = s; held = started k k0 bytes p0 t0 H same there ok }

  pub records_serve : CoreServes old new k call at (Some reply)
  records_serve = record {
    same_config = (records (since [])).same_config;
    serves = λ H s may. (records (since H)).serves H (held H s) may;
    stands = λ H s may. ((records (since H)).stands H (held H s) may).stands;
  }

  pub records_tell : TellsCall old k call at (Some reply) bytes p1 t1
  records_tell = record {
    of = λ H s may.
        let then = ((records (since H)).stands H (held H s) may).held in
        let made : (hub old.config H k call at).changes ≡ then.changes = (changes-same H H k (hub old.config H k call at).changes then.changes refl then.goes_on).1 in
        subst (λ (l : List Change). ToldAll bytes p1 (map (entry k) l) t1) (sym made) then.tells;
  }
