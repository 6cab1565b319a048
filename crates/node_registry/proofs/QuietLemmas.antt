-- What is noted of signs and of draining: it stays true after each call, and tells of the history.
use Rattle.std.proofs.Common.{◌≡◌, ℕ, zero, suc, ◌-◌, ◌≤◌, Bool, true, false, cond, not, ◌&&◌, ◌||◌, List, [], ◌∷◌, map, min, refl, sym, ap, subst, ◌∙◌, arith}
use Rattle.std.specs.Prelude.{Option, None, Some, nat_eq, nat_le, nat_lt, option_map, unwrap_or, slice_get}
use Rattle.std.specs.List.{list_any, reduce}
use Rattle.std.specs.Map.{lookup, keys_of}
use Rattle.std.specs.Cmp.{nat_eq_equiv}
use Rattle.std.proofs.lemmas.Map.Entries.{hash_map_get_place}
use Rattle.indexmap.specs.IndexMap.{get}
use Rattle.grid_types.specs.declared.entry.Entry.{Entry}
use Rattle.grid_types.specs.declared.entry.Change.TheVariants as change
use Rattle.grid_types.specs.declared.names.Moment.{Moment}
use Rattle.grid_types.specs.declared.view.Standing.{Standing}
use Rattle.grid_types.specs.declared.view.Standing.TheVariants as standing
use Rattle.grid_types.specs.declared.capabilities.Registration.{Registration}
use Rattle.grid_types.specs.declared.config.HubConfig.{HubConfig}
use Rattle.grid_types.specs.Legal.{legal}
use Rattle.grid_types.specs.Lists.{kept, has}
use Rattle.grid_types.specs.Nodes.{is_registered, is_suspect, is_draining, stands_draining, stands_registered, stands_up}
use Rattle.grid_types.specs.Tables.{entry}
use Rattle.grid_types.specs.HistoryLaws.{Known, laws}
use Rattle.node_registry.specs.declared.node_table.NodeRow.{NodeRow}
use Rattle.node_registry.specs.declared.node_table.NodeTable.{NodeTable}
use Rattle.node_registry.specs.Table.{IsWithin, Quiet, Stands, NoneDrains, NoneSilent, NoneUnheard, is_heard, is_quiet, is_trusted, heard_in, heard_of, known, noted_drain, noted_heard, noted_sign, sign_in, signed, signs_of}
use Rattle.node_registry.specs.Rows.{RowTells}
use Rattle.node_registry.proofs.Queries.{row-tells, row-registered, row-suspect, row-draining, absent-unregistered, draining-registered}
use Rattle.node_registry.proofs.Rows.{new_row, with_base, with_beat, with_suspicion, with_bind, with_turn}

-- the row is within the bounds of the table
abbrev pub RowWithin : NodeTable → NodeRow → Type 0
RowWithin t row = IsWithin t.quiet_since.0 t.heard_since.0 t.some_drain row

-- the new table's bounds are no stricter than the old one's
pub record Loosens (old new : NodeTable) : Type 0 where
  pub signs : new.quiet_since.0 ≤ old.quiet_since.0
  pub heard : new.heard_since.0 ≤ old.heard_since.0
  pub drains : old.some_drain ≡ true → new.some_drain ≡ true

pub same-bounds : (old new : NodeTable) → new.quiet_since.0 ≡ old.quiet_since.0 → new.heard_since.0 ≡ old.heard_since.0 → new.some_drain ≡ old.some_drain → Loosens old new
same-bounds old new signs heard drains = record { signs = omega arith; heard = omega arith; drains = λ h. drains ∙ h }

pub loosened : (old new : NodeTable) (row : NodeRow) → Loosens old new → RowWithin old row → RowWithin new row
loosened old new row looser within = record {
  signs = λ on. let low : old.quiet_since.0 ≤ row.beat.0 = within.signs on in omega (arith, looser.signs);
  heard = λ on trusted. let low : old.heard_since.0 ≤ row.beat.0 = within.heard on trusted in omega (arith, looser.heard);
  drains = λ on. looser.drains (within.drains on);
}

-- one row is written, or taken away
pub quiet-put : (old new : NodeTable) (m : ℕ) (w : ℕ → Option NodeRow) → Quiet old → Loosens old new → ((n : ℕ) → get nat_eq new.nodes n ≡ cond (nat_eq m n) (w n) (get nat_eq old.nodes n)) →
    ((n : ℕ) (row : NodeRow) → nat_eq m n ≡ true → w n ≡ Some row → RowWithin new row) → Quiet new
quiet-put old new m w q looser rows own n row h = by_node (nat_eq m n) refl (sym (rows n) ∙ h)
  where
    by_node : (v : Bool) → nat_eq m n ≡ v → cond v (w n) (get nat_eq old.nodes n) ≡ Some row → RowWithin new row
    by_node true e g = own n row e g
    by_node false e g = loosened old new row looser (q n row g)

-- the row of a node is written anew from what it was
pub quiet-mapped : (old new : NodeTable) (m : ℕ) (f : NodeRow → NodeRow) → Quiet old → Loosens old new →
    ((n : ℕ) → get nat_eq new.nodes n ≡ cond (nat_eq m n) (option_map f (get nat_eq old.nodes n)) (get nat_eq old.nodes n)) →
    ((row : NodeRow) → get nat_eq old.nodes m ≡ Some row → RowWithin old row → RowWithin new (f row)) → Quiet new
quiet-mapped old new m f q looser rows keeps = quiet-put old new m (λ n. option_map f (get nat_eq old.nodes n)) q looser rows
    (λ n row e g. let same : m ≡ n = grind arith in by_row n row same (get nat_eq old.nodes n) refl g)
  where
    by_row : (n : ℕ) (row : NodeRow) → m ≡ n → (o : Option NodeRow) → get nat_eq old.nodes n ≡ o → option_map f o ≡ Some row → RowWithin new row
    by_row n row same None d g = absurd (cc)
    by_row n row same (Some x) d g =
        let made : f x ≡ row = cc in
        subst (λ (z : NodeRow). RowWithin new z) made (keeps x (subst (λ (z : ℕ). get nat_eq old.nodes z ≡ Some x) (sym same) d) (q n x d))

-- rows that are not registered any more, or as before
pub gone-within : {quiet heard : ℕ} {drain : Bool} (row : NodeRow) → IsWithin quiet heard drain (with_base standing.Gone row)
gone-within row = record { signs = λ on. absurd (cc); heard = λ on trusted. absurd (cc); drains = λ on. absurd (cc) }

pub down-within : {quiet heard : ℕ} {drain : Bool} (row : NodeRow) → IsWithin quiet heard drain (with_base standing.Down row)
down-within row = record { signs = λ on. absurd (cc); heard = λ on trusted. absurd (cc); drains = λ on. absurd (cc) }

pub suspected-within : {quiet heard : ℕ} {drain : Bool} (row : NodeRow) → IsWithin quiet heard drain row → IsWithin quiet heard drain (with_suspicion row)
suspected-within row within = record { signs = within.signs; heard = λ on trusted. absurd (cc); drains = within.drains }

pub bound-within : {quiet heard : ℕ} {drain : Bool} (row : NodeRow) → IsWithin quiet heard drain row → IsWithin quiet heard drain (with_bind row)
bound-within row within = record { signs = within.signs; heard = within.heard; drains = within.drains }

-- a sign at a moment that no bound is after
pub sign-within : {quiet heard was since : ℕ} {drain : Bool} (row : NodeRow) (at : Moment) → quiet ≤ at.0 → heard ≤ at.0 → IsWithin was since drain row → IsWithin quiet heard drain (with_beat at row)
sign-within row at signs heard within = record { signs = λ on. signs; heard = λ on trusted. heard; drains = within.drains }

pub turn-within : {quiet heard : ℕ} {drain : Bool} (turn : ℕ) (row : NodeRow) → IsWithin quiet heard drain row → IsWithin quiet heard drain (with_turn turn row)
turn-within turn row within = record { signs = within.signs; heard = within.heard; drains = within.drains }

pub new-within : {quiet heard : ℕ} {drain : Bool} (r : Registration) (at : Moment) (turn : ℕ) → quiet ≤ at.0 → heard ≤ at.0 → IsWithin quiet heard drain (new_row r at turn)
new-within r at turn signs heard = record { signs = λ on. signs; heard = λ on trusted. heard; drains = λ on. absurd (cc) }

up_registered : (o : Option Standing) → stands_up o ≡ true → stands_registered o ≡ true
up_registered (Some standing.Up) h = refl
up_registered (Some standing.Draining) h = absurd (cc)
up_registered (Some standing.Down) h = absurd (cc)
up_registered (Some standing.Gone) h = absurd (cc)
up_registered (Some standing.Suspect) h = absurd (cc)
up_registered None h = absurd (cc)

-- a node that drains was registered
pub draining-within : Known → (c : HubConfig) (H : List Entry) (k m : ℕ) (at : Moment) (old : NodeTable) → Stands old H → legal c (entry k (change.Draining m at) ∷ H) ≡ true →
    (row : NodeRow) → get nat_eq old.nodes m ≡ Some row → RowWithin old row → IsWithin old.quiet_since.0 old.heard_since.0 true (with_base standing.Draining row)
draining-within proved c H k m at old s l row there within =
    let before : legal c H ≡ true = (laws proved).legal-before c (entry k (change.Draining m at)) H l in
    let tells = row-tells proved c H old m row s before (sym there) in
    let up : stands_up (Some row.base) ≡ true = ap stands_up (sym tells.base) ∙ (laws proved).permitted-Draining c H k m at ((laws proved).legal-permitted c (entry k (change.Draining m at)) H l) in
    let on : stands_registered (Some row.base) ≡ true = up_registered (Some row.base) up in
    record { signs = λ o. within.signs on; heard = λ o trusted. within.heard on trusted; drains = λ o. refl }

-- the earlier of a bound and a moment is after neither
pub earlier-before : (new old at : ℕ) → new ≡ min old at → new ≤ old
earlier-before new old at e = omega arith

pub earlier-sign : (new old at : ℕ) → new ≡ min old at → new ≤ at
earlier-sign new old at e = omega arith

-- a row that counts is among those that were looked at
or-later : (a b : Bool) → b ≡ true → (a || b) ≡ true
or-later true b h = refl
or-later false b h = h

found-has : (f : NodeRow → ℕ) (test : ℕ → Bool) (es : List (ℕ × NodeRow)) (x : NodeRow) → lookup test es ≡ Some x → has (f x) (map (λ e. f e.1) es) ≡ true
found-has f test [] x h = absurd (cc)
found-has f test (e ∷ es) x h = by_test (test e.0) h (found-has f test es x)
  where
    by_test : (v : Bool) → cond v (Some e.1) (lookup test es) ≡ Some x → (lookup test es ≡ Some x → has (f x) (map (λ d. f d.1) es) ≡ true) → (nat_eq (f x) (f e.1) || has (f x) (map (λ d. f d.1) es)) ≡ true
    by_test true g rest = let same : e.1 ≡ x = cc in let own : nat_eq (f x) (f e.1) ≡ true = grind arith in rw own refl
    by_test false g rest = or-later (nat_eq (f x) (f e.1)) _ (rest g)

found-any : (q : NodeRow → Bool) (test : ℕ → Bool) (es : List (ℕ × NodeRow)) (x : NodeRow) → lookup test es ≡ Some x → q x ≡ true → list_any (λ e. q e.1) es ≡ true
found-any q test [] x h on = absurd (cc)
found-any q test (e ∷ es) x h on = by_test (test e.0) h (found-any q test es x)
  where
    by_test : (v : Bool) → cond v (Some e.1) (lookup test es) ≡ Some x → (lookup test es ≡ Some x → q x ≡ true → list_any (λ d. q d.1) es ≡ true) → (q e.1 || list_any (λ d. q d.1) es) ≡ true
    by_test true g rest = let same : e.1 ≡ x = cc in let own : q e.1 ≡ true = ap q same ∙ on in rw own refl
    by_test false g rest = or-later (q e.1) _ (rest g on)

none-has : {X : Type 0} (xs : List ℕ) (b : ℕ) → reduce min xs ≡ None → has b xs ≡ true → X
none-has [] b e h = absurd (cc)
none-has (x ∷ xs) b e h = absurd (cc)

-- what is noted is after no sign that counts
noted-low : Known → (v : Bool) (since at b : ℕ) (xs : List ℕ) → since ≤ b → has b xs ≡ true → cond v since (unwrap_or (reduce min xs) at) ≤ b
noted-low proved true since at b xs low there = low
noted-low proved false since at b xs low there = by_least (reduce min xs) refl
  where
    by_least : (o : Option ℕ) → reduce min xs ≡ o → unwrap_or o at ≤ b
    by_least None e = none-has xs b e there
    by_least (Some m) e = (laws proved).least-below xs m b (sym ((laws proved).reduce-least xs) ∙ e) there

both-true : (a b : Bool) → a ≡ true → b ≡ true → (a && b) ≡ true
both-true true b p q = q
both-true false b p q = absurd (cc)

heard-row : (row : NodeRow) → stands_registered (Some row.base) ≡ true → row.suspected ≡ false → (stands_registered (Some row.base) && not row.suspected) ≡ true
heard-row row on trusted = both-true (stands_registered (Some row.base)) (not row.suspected) on (ap not trusted)

-- what is noted after a look is true of each row
pub quiet-noted : Known → (old : NodeTable) (quiet heard : ℕ) (drain : Bool) (at lapse_ms down_ms : ℕ) → Quiet old → quiet ≡ noted_sign old at down_ms → heard ≡ noted_heard old at lapse_ms → drain ≡ noted_drain old →
    (n : ℕ) (row : NodeRow) → get nat_eq old.nodes n ≡ Some row → IsWithin quiet heard drain row
quiet-noted proved old quiet heard drain at lapse_ms down_ms q signs_so heard_so drains_so n row there =
    let was = q n row there in
    record {
      signs = λ on.
          let own : sign_in row ≡ row.beat.0 = rw on refl in
          let low : old.quiet_since.0 ≤ sign_in row = subst (λ (z : ℕ). old.quiet_since.0 ≤ z) (sym own) (was.signs on) in
          let new_low : noted_sign old at down_ms ≤ sign_in row = noted-low proved (is_quiet old at down_ms) old.quiet_since.0 at (sign_in row) (signs_of old) low (found-has sign_in (nat_eq n) old.nodes.entries row there) in
          omega (arith, signs_so);
      heard = λ on trusted.
          let own : heard_in row ≡ row.beat.0 = rw (heard-row row on trusted) refl in
          let low : old.heard_since.0 ≤ heard_in row = subst (λ (z : ℕ). old.heard_since.0 ≤ z) (sym own) (was.heard on trusted) in
          let new_low : noted_heard old at lapse_ms ≤ heard_in row = noted-low proved (is_heard old at lapse_ms) old.heard_since.0 at (heard_in row) (heard_of old) low (found-has heard_in (nat_eq n) old.nodes.entries row there) in
          omega (arith, heard_so);
      drains = λ on. drains_so ∙ both-true old.some_drain _ (was.drains on) (found-any (λ x. stands_draining (Some x.base)) (nat_eq n) old.nodes.entries row there on);
    }

-- by whether the rows had to be looked at, and whether one counted
pub since-kept : (v : Bool) (since : ℕ) (o : Option ℕ) (at : ℕ) → v ≡ true → since ≡ cond v since (unwrap_or o at)
since-kept v since o at e = rw e refl

pub since-found : (v : Bool) (since : ℕ) (o : Option ℕ) (at m : ℕ) → v ≡ false → Some m ≡ o → m ≡ cond v since (unwrap_or o at)
since-found v since o at m e f = ap (λ (z : Option ℕ). unwrap_or z at) f ∙ (rw e refl)

pub since-none : (v : Bool) (since : ℕ) (o : Option ℕ) (at : ℕ) → v ≡ false → None ≡ o → at ≡ cond v since (unwrap_or o at)
since-none v since o at e f = ap (λ (z : Option ℕ). unwrap_or z at) f ∙ (rw e refl)

-- a registered node has its row
pub row-there : Known → {P : Type 0} (c : HubConfig) (H : List Entry) (t : NodeTable) (n : ℕ) → Stands t H → legal c H ≡ true → is_registered H n ≡ true → ((row : NodeRow) → get nat_eq t.nodes n ≡ Some row → RowTells H n row → P) → P
row-there proved {P = P} c H t n s l on go = by_row (get nat_eq t.nodes n) refl
  where
    by_row : (o : Option NodeRow) → get nat_eq t.nodes n ≡ o → P
    by_row None e = let never : true ≡ false = sym on ∙ absent-unregistered proved c H t n s l (sym e) in absurd (cc)
    by_row (Some row) e = go row e (row-tells proved c H t n row s l (sym e))

lately : (at since beat silent_ms : ℕ) → nat_lt (at - since) silent_ms ≡ true → since ≤ beat → nat_le silent_ms (at - beat) ≡ false
lately at since beat silent_ms h low = grind arith

-- what is noted tells of the history
pub none-silent : Known → (c : HubConfig) (H : List Entry) (t : NodeTable) (at silent_ms : ℕ) → Stands t H → legal c H ≡ true → is_quiet t at silent_ms ≡ true → NoneSilent H at silent_ms
none-silent proved c H t at silent_ms s l h n on = row-there proved c H t n s l on (λ row there tells.
    let low : t.quiet_since.0 ≤ row.beat.0 = (s.quiet n row there).signs (row-registered H n row tells ∙ on) in
    subst (λ (z : Moment). nat_le silent_ms (at - z.0) ≡ false) tells.beat (lately at t.quiet_since.0 row.beat.0 silent_ms h low))

not_suspected : (a b : Bool) → a ≡ true → (a && b) ≡ false → b ≡ false
not_suspected true b p q = q
not_suspected false b p q = absurd (cc)

pub none-unheard : Known → (c : HubConfig) (H : List Entry) (t : NodeTable) (at silent_ms : ℕ) → Stands t H → legal c H ≡ true → is_heard t at silent_ms ≡ true → NoneUnheard H at silent_ms
none-unheard proved c H t at silent_ms s l h n on trusted = row-there proved c H t n s l on (λ row there tells.
    let stands : stands_registered (Some row.base) ≡ true = row-registered H n row tells ∙ on in
    let low : t.heard_since.0 ≤ row.beat.0 = (s.quiet n row there).heard stands (not_suspected (stands_registered (Some row.base)) row.suspected stands (row-suspect H n row tells ∙ trusted)) in
    subst (λ (z : Moment). nat_le silent_ms (at - z.0) ≡ false) tells.beat (lately at t.heard_since.0 row.beat.0 silent_ms h low))

pub none-drains : Known → (c : HubConfig) (H : List Entry) (t : NodeTable) → Stands t H → legal c H ≡ true → t.some_drain ≡ false → NoneDrains H
none-drains proved c H t s l h n = by_drain (is_draining H n) refl
  where
    by_drain : (v : Bool) → is_draining H n ≡ v → v ≡ false
    by_drain false e = refl
    by_drain true e = row-there proved c H t n s l (draining-registered H n e) (λ row there tells.
        let set : t.some_drain ≡ true = (s.quiet n row there).drains (row-draining H n row tells ∙ e) in
        let never : true ≡ false = sym set ∙ h in absurd (cc))

-- the row at a place is that of its node
pub place-tells : Known → (c : HubConfig) (H : List Entry) (t : NodeTable) (i n : ℕ) (row : NodeRow) → Stands t H → legal c H ≡ true → slice_get t.nodes.entries i ≡ Some (n, row) → RowTells H n row
place-tells proved c H t i n row s l at = row-tells proved c H t n row s l (sym (hash_map_get_place nat_eq_equiv t.nodes i n row s.nodes_differ at))

place-key : (es : List (ℕ × NodeRow)) (i : ℕ) → slice_get (keys_of es) i ≡ option_map (λ e. e.0) (slice_get es i)
place-key [] i = refl
place-key (e ∷ es) zero = refl
place-key (e ∷ es) (suc i) = place-key es i

pub kept-there : {X : Type 0} (p : X → Bool) (o : Option X) (x : X) → o ≡ Some x → p x ≡ true → Some x ≡ kept p o
kept-there p o x e h = rw (e, h) refl

pub kept-fails : {X : Type 0} (p : X → Bool) (o : Option X) (x : X) → o ≡ Some x → p x ≡ false → None ≡ kept p o
kept-fails p o x e h = rw (e, h) refl

pub known-there : (t : NodeTable) (i n : ℕ) (row : NodeRow) → slice_get t.nodes.entries i ≡ Some (n, row) → slice_get (known t) i ≡ Some n
known-there t i n row at = place-key t.nodes.entries i ∙ ap (option_map (λ e. e.0)) at

pub known-past : (t : NodeTable) (i : ℕ) → slice_get t.nodes.entries i ≡ None → slice_get (known t) i ≡ None
known-past t i at = place-key t.nodes.entries i ∙ ap (option_map (λ e. e.0)) at

-- the sign of a registered node, and that of one that is not suspect
pub row-trusted : (H : List Entry) (n : ℕ) (row : NodeRow) → RowTells H n row → (stands_registered (Some row.base) && not row.suspected) ≡ is_trusted H n
row-trusted H n row tells = by_base (stands_registered (Some row.base)) row.suspected ∙ ap (λ b. stands_registered (Some row.base) && not b) (row-suspect H n row tells) ∙ ap (λ b. b && not (is_suspect H n)) (row-registered H n row tells)
  where
    by_base : (a b : Bool) → (a && not b) ≡ (a && not (a && b))
    by_base true b = refl
    by_base false b = refl

pub sign-told : (H : List Entry) (p : ℕ → Bool) (o : Option ℕ) (n : ℕ) (row : NodeRow) → o ≡ Some n → p n ≡ true → RowTells H n row → Some (n, row.beat) ≡ option_map (signed H) (kept p o)
sign-told H p o n row e h tells = ap (λ (z : Moment). Some (n, z)) tells.beat ∙ ap (option_map (signed H)) (kept-there p o n e h)

pub sign-untold : (H : List Entry) (p : ℕ → Bool) (o : Option ℕ) (n : ℕ) → o ≡ Some n → p n ≡ false → None ≡ option_map (signed H) (kept p o)
sign-untold H p o n e h = ap (option_map (signed H)) (kept-fails p o n e h)

pub kept-past : {X : Type 0} (p : X → Bool) (o : Option X) → o ≡ None → None ≡ kept p o
kept-past p o e = rw e refl

pub sign-past : (H : List Entry) (p : ℕ → Bool) (o : Option ℕ) → o ≡ None → None ≡ option_map (signed H) (kept p o)
sign-past H p o e = ap (option_map (signed H)) (kept-past p o e)
