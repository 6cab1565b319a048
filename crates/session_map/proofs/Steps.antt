-- What the table stands for after each call.
use Rattle.std.proofs.Common.{◌≡◌, ℕ, ◌≤◌, Bool, true, false, cond, List, ◌∷◌, sym, ap, ◌∙◌, arith}
use Rattle.std.specs.Prelude.{Option, None, Some, nat_eq}
use Rattle.std.proofs.lemmas.Map.Entries.{option_filter}
use Rattle.indexmap.specs.IndexMap.{get, IsUnique}
use Rattle.std.specs.BTreeMap as tree
use Rattle.grid_types.specs.declared.entry.Entry.{Entry}
use Rattle.grid_types.specs.declared.entry.Change.TheVariants as change
use Rattle.grid_types.specs.declared.entry.EndCause.{EndCause}
use Rattle.grid_types.specs.declared.names.SlotId.{SlotId}
use Rattle.grid_types.specs.declared.names.Moment.{Moment}
use Rattle.grid_types.specs.declared.capabilities.Cap.{Cap}
use Rattle.grid_types.specs.declared.config.HubConfig.{HubConfig}
use Rattle.grid_types.specs.Nodes.{address_of}
use Rattle.grid_types.specs.Legal.{legal}
use Rattle.session_map.specs.declared.live_map.LiveSession.{LiveSession}
use Rattle.session_map.specs.declared.live_map.LiveMap.{LiveMap}
use Rattle.grid_types.specs.Tables.{entry}
use Rattle.grid_types.specs.HistoryLaws.{Known, laws}
use Rattle.session_map.specs.Names.{session_cmp, session_eq}
use Rattle.session_map.specs.Table.{Stands, Quiet, place_in}
use Rattle.session_map.proofs.Rows.{session-Bound, session-Touched, session-Ended, session-Lapsed, place-Bound, place-Lapsed, touch_row, stays, place_stays}
use Rattle.session_map.proofs.Ends.{place-Ended, place-Ended_none}

-- no session was used last before `quiet_since`, where the row of one binding is written
pub quiet-write : (old new : LiveMap) (r : ℕ) (w : ℕ → Option LiveSession) → Quiet old → ((b : ℕ) → get nat_eq new.sessions b ≡ cond (nat_eq r b) (w b) (get nat_eq old.sessions b)) →
    new.quiet_since.0 ≤ old.quiet_since.0 → ((b : ℕ) (x : LiveSession) → w b ≡ Some x → new.quiet_since.0 ≤ x.active.0) → Quiet new
quiet-write old new r w q rows low own b x h = by_binding (nat_eq r b) (sym (rows b) ∙ h)
  where
    by_binding : (v : Bool) → cond v (w b) (get nat_eq old.sessions b) ≡ Some x → new.quiet_since.0 ≤ x.active.0
    by_binding true g = own b x g
    by_binding false g = let was : old.quiet_since.0 ≤ x.active.0 = q b x g in omega arith

touched_at : (at : Moment) (o : Option LiveSession) (x : LiveSession) → touch_row at o ≡ Some x → at ≡ x.active
touched_at at None x h = absurd (cc)
touched_at at (Some z) x h = cc

filtered_there : (p : LiveSession → Bool) (o : Option LiveSession) (x : LiveSession) → option_filter p o ≡ Some x → o ≡ Some x
filtered_there p None x h = absurd (cc)
filtered_there p (Some z) x h = by_test (p z) h
  where
    by_test : (v : Bool) → cond v (Some z) None ≡ Some x → Some z ≡ Some x
    by_test true g = g
    by_test false g = absurd (cc)

pub quiet-touched : (old new : LiveMap) (q : ℕ) (at : Moment) → Quiet old → ((b : ℕ) → get nat_eq new.sessions b ≡ cond (nat_eq q b) (touch_row at (get nat_eq old.sessions b)) (get nat_eq old.sessions b)) →
    new.quiet_since.0 ≤ old.quiet_since.0 → new.quiet_since.0 ≤ at.0 → Quiet new
quiet-touched old new q at before rows low noted = quiet-write old new q (λ b. touch_row at (get nat_eq old.sessions b)) before rows low
    (λ b x h. let same : at ≡ x.active = touched_at at (get nat_eq old.sessions b) x h in let number : at.0 ≡ x.active.0 = ap (λ (m : Moment). m.0) same in omega arith)

pub quiet-filter : (old new : LiveMap) (p : LiveSession → Bool) → Quiet old → ((b : ℕ) → get nat_eq new.sessions b ≡ option_filter p (get nat_eq old.sessions b)) → new.quiet_since ≡ old.quiet_since → Quiet new
quiet-filter old new p before rows same b x h =
    let was : old.quiet_since.0 ≤ x.active.0 = before b x (filtered_there p (get nat_eq old.sessions b) x (sym (rows b) ∙ h)) in
    let number : new.quiet_since.0 ≡ old.quiet_since.0 = ap (λ (m : Moment). m.0) same in omega arith

pub stands-Bound : Known → (c : HubConfig) (H : List Entry) (k r : ℕ) (t : SlotId) (y : List ℕ) (cs : List Cap) (at : Moment) (address : List ℕ) (old new : LiveMap) →
    Stands old H → address ≡ address_of H t.node → legal c (entry k (change.Bound r t y cs at) ∷ H) ≡ true →
    ((b : ℕ) → get nat_eq new.sessions b ≡ cond (nat_eq r b) (Some (record { session = y; slot = t; active = at })) (get nat_eq old.sessions b)) →
    ((s : List ℕ) → place_in new s ≡ cond (session_eq y s) (Some (record { slot = t; address = address; binding = r })) (place_in old s)) →
    Quiet new → IsUnique nat_eq new.sessions → tree.IsOrdered session_cmp new.places → Stands new (entry k (change.Bound r t y cs at) ∷ H)
stands-Bound proved c H k r t y cs at address old new s where_it_is l sessions places quiet u v = record {
  sessions = λ b. sessions b ∙ (rw (s.sessions b) (sym (session-Bound H k r t y cs at b)));
  places = λ x. places x ∙ (rw (s.places x, where_it_is) (sym (place-Bound proved c H k r t y cs at x l)));
  quiet = quiet;
  bindings_differ = u;
  in_order = v;
}

pub stands-Touched : (H : List Entry) (k q : ℕ) (at : Moment) (old new : LiveMap) → Stands old H →
    ((b : ℕ) → get nat_eq new.sessions b ≡ cond (nat_eq q b) (touch_row at (get nat_eq old.sessions b)) (get nat_eq old.sessions b)) →
    ((s : List ℕ) → place_in new s ≡ place_in old s) →
    Quiet new → IsUnique nat_eq new.sessions → tree.IsOrdered session_cmp new.places → Stands new (entry k (change.Touched q at) ∷ H)
stands-Touched H k q at old new s sessions places quiet u v = record {
  sessions = λ b. sessions b ∙ (rw (s.sessions b) (sym (session-Touched H k q at b)));
  places = λ x. places x ∙ s.places x;
  quiet = quiet;
  bindings_differ = u;
  in_order = v;
}

pub stands-Ended : Known → (c : HubConfig) (H : List Entry) (k q : ℕ) (cause : EndCause) (at : Moment) (row : LiveSession) (old new : LiveMap) → Stands old H →
    legal c (entry k (change.Ended q cause at) ∷ H) ≡ true → get nat_eq old.sessions q ≡ Some row →
    ((b : ℕ) → get nat_eq new.sessions b ≡ cond (nat_eq q b) None (get nat_eq old.sessions b)) →
    ((s : List ℕ) → place_in new s ≡ cond (session_eq row.session s) None (place_in old s)) →
    Quiet new → IsUnique nat_eq new.sessions → tree.IsOrdered session_cmp new.places → Stands new (entry k (change.Ended q cause at) ∷ H)
stands-Ended proved c H k q cause at row old new s l there sessions places quiet u v = record {
  sessions = λ b. sessions b ∙ (rw (s.sessions b) (sym (session-Ended H k q cause at b)));
  places = λ x. places x ∙ (rw (s.places x) (sym (place-Ended proved c H k q cause at x row ((laws proved).legal-before c (entry k (change.Ended q cause at)) H l) (sym (s.sessions q) ∙ there))));
  quiet = quiet;
  bindings_differ = u;
  in_order = v;
}

pub stands-Ended_none : Known → (c : HubConfig) (H : List Entry) (k q : ℕ) (cause : EndCause) (at : Moment) (old new : LiveMap) → Stands old H →
    legal c (entry k (change.Ended q cause at) ∷ H) ≡ true → get nat_eq old.sessions q ≡ None →
    ((b : ℕ) → get nat_eq new.sessions b ≡ cond (nat_eq q b) None (get nat_eq old.sessions b)) →
    ((s : List ℕ) → place_in new s ≡ place_in old s) →
    Quiet new → IsUnique nat_eq new.sessions → tree.IsOrdered session_cmp new.places → Stands new (entry k (change.Ended q cause at) ∷ H)
stands-Ended_none proved c H k q cause at old new s l there sessions places quiet u v = record {
  sessions = λ b. sessions b ∙ (rw (s.sessions b) (sym (session-Ended H k q cause at b)));
  places = λ x. places x ∙ (rw (s.places x) (sym (place-Ended_none proved c H k q cause at x ((laws proved).legal-before c (entry k (change.Ended q cause at)) H l) (sym (s.sessions q) ∙ there))));
  quiet = quiet;
  bindings_differ = u;
  in_order = v;
}

pub stands-Lapsed : Known → (c : HubConfig) (H : List Entry) (k n : ℕ) (at : Moment) (old new : LiveMap) → Stands old H →
    legal c (entry k (change.Lapsed n at) ∷ H) ≡ true →
    ((b : ℕ) → get nat_eq new.sessions b ≡ option_filter (stays n) (get nat_eq old.sessions b)) →
    ((s : List ℕ) → place_in new s ≡ option_filter (place_stays n) (place_in old s)) →
    Quiet new → IsUnique nat_eq new.sessions → tree.IsOrdered session_cmp new.places → Stands new (entry k (change.Lapsed n at) ∷ H)
stands-Lapsed proved c H k n at old new s l sessions places quiet u v = record {
  sessions = λ b. sessions b ∙ (rw (s.sessions b) (sym (session-Lapsed H k n at b)));
  places = λ x. places x ∙ (rw (s.places x) (sym (place-Lapsed proved c H k n at x ((laws proved).legal-before c (entry k (change.Lapsed n at)) H l))));
  quiet = quiet;
  bindings_differ = u;
  in_order = v;
}
