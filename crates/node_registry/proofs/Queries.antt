-- What the table's rows tell of the history.
use Rattle.std.proofs.Common.{◌≡◌, ℕ, suc, Bool, true, false, cond, ◌&&◌, ◌||◌, List, [], ◌∷◌, filter, refl, sym, ap, ◌∙◌, arith}
use Rattle.std.specs.Prelude.{Option, None, Some, nat_eq, is_some, option_map, option_and_then, find}
use Rattle.std.specs.Cmp.{nat_eq_equiv}
use Rattle.std.specs.Map.{keys_of}
use Rattle.std.specs.Prelude.{slice_get}
use Rattle.std.proofs.lemmas.Map.Entries.{hash_map_get_place}
use Rattle.indexmap.specs.IndexMap.{get}
use Rattle.grid_types.specs.declared.entry.Entry.{Entry}
use Rattle.grid_types.specs.declared.view.Standing.{Standing}
use Rattle.grid_types.specs.declared.capabilities.Registration.{Registration}
use Rattle.grid_types.specs.declared.config.HubConfig.{HubConfig}
use Rattle.grid_types.specs.History.{nodes}
use Rattle.grid_types.specs.declared.view.Standing.TheVariants as standing
use Rattle.grid_types.specs.Nodes.{registration_of, base_of, standing_of, is_registered, is_base_up, is_draining, is_suspected, is_suspect, is_spent, is_at_limit, bound_count, stands_up, stands_draining, stands_registered}
use Rattle.grid_types.specs.Slots.{has_slot_in_use, is_listed}
use Rattle.grid_types.specs.Legal.{legal}
use Rattle.grid_types.specs.Permitted.{is_named}
use Rattle.node_registry.specs.declared.node_table.NodeRow.{NodeRow}
use Rattle.node_registry.specs.declared.node_table.NodeTable.{NodeTable}
use Rattle.node_registry.specs.Rows.{RowTells}
use Rattle.node_registry.specs.Table.{Stands, row_of, row_with, last_turn, is_row_named, NodesInOrder}
use Rattle.grid_types.specs.declared.entry.Change.TheVariants as change
use Rattle.grid_types.specs.declared.names.SlotId.{SlotId}
use Rattle.grid_types.specs.declared.names.Moment.{Moment}
use Rattle.grid_types.specs.Tables.{entry}
use Rattle.grid_types.specs.HistoryLaws.{Known, laws}

pub row-tells : Known → (c : HubConfig) (H : List Entry) (t : NodeTable) (n : ℕ) (row : NodeRow) → Stands t H → legal c H ≡ true → Some row ≡ get nat_eq t.nodes n → RowTells H n row
row-tells proved c H t n row s l e = by_known (s.kept n) (registration_of H n) refl (base_of H n) refl (e ∙ s.rows n)
  where
    by_known : (v : Bool) (o : Option Registration) → registration_of H n ≡ o → (b : Option Standing) → base_of H n ≡ b → Some row ≡ cond v (row_of H n (last_turn t n)) None → RowTells H n row
    by_known false o d b g h = absurd (cc)
    by_known true None d b g h = let none : Some row ≡ None = h ∙ (rw d refl) in absurd (cc)
    by_known true (Some r) d None g h = let both : is_some (base_of H n) ≡ is_some (registration_of H n) = (laws proved).base-registration c H n l in absurd (grind (arith, both))
    by_known true (Some r) d (Some base) g h =
        let there : Some row ≡ Some (row_with H n (last_turn t n) r) = h ∙ (rw d refl) in
        let same : row ≡ row_with H n (last_turn t n) r = cc in
        let own : row.base ≡ base = ap (λ (z : NodeRow). z.base) same ∙ (rw g refl) in
        record {
          registration = d ∙ ap (λ (z : NodeRow). Some z.registration) (sym same);
          base = g ∙ ap Some (sym own);
          suspected = ap (λ (z : NodeRow). z.suspected) (sym same);
          bound = ap (λ (z : NodeRow). z.bound) same;
          beat = ap (λ (z : NodeRow). z.beat) same;
        }

pub absent-unlisted : Known → (c : HubConfig) (H : List Entry) (t : NodeTable) (n : ℕ) → Stands t H → legal c H ≡ true → None ≡ get nat_eq t.nodes n → is_listed H n ≡ false
absent-unlisted proved c H t n s l none = by_listed (is_listed H n) refl
  where
    by_listed : (v : Bool) → is_listed H n ≡ v → is_listed H n ≡ false
    by_listed false e = e
    by_listed true e =
        let r = (laws proved).listed-registered c H n l e in
        let there : None ≡ Some (row_with H n (last_turn t n) r.0) = none ∙ s.rows n ∙ (rw (s.listed n e, r.1) refl) in
        absurd (cc)

-- a listed node is in the table
pub listed-there : Known → {X : Type 0} (c : HubConfig) (H : List Entry) (t : NodeTable) (n : ℕ) → Stands t H → legal c H ≡ true → None ≡ get nat_eq t.nodes n → is_listed H n ≡ true → X
listed-there proved c H t n s l none on = let e : true ≡ false = sym on ∙ absent-unlisted proved c H t n s l none in absurd (cc)

-- a node that is chosen is in the table
pub chosen-there : Known → {X : Type 0} (c : HubConfig) (H : List Entry) (k r : ℕ) (slot : SlotId) (choice : ℕ) (at : Moment) (t : NodeTable) → Stands t H →
    legal c (entry k (change.Reserved r slot choice at) ∷ H) ≡ true → None ≡ get nat_eq t.nodes slot.node → X
chosen-there proved c H k r slot choice at t s l none =
    let fits = (laws proved).permitted-Reserved c H k r slot choice at ((laws proved).legal-permitted c (entry k (change.Reserved r slot choice at)) H l) in
    let on : is_listed H slot.node ≡ true = rw ((laws proved).up-registered H slot.node fits.is_up) refl in
    listed-there proved c H t slot.node s ((laws proved).legal-before c (entry k (change.Reserved r slot choice at)) H l) none on

pub absent-unregistered : Known → (c : HubConfig) (H : List Entry) (t : NodeTable) (n : ℕ) → Stands t H → legal c H ≡ true → None ≡ get nat_eq t.nodes n → is_registered H n ≡ false
absent-unregistered proved c H t n s l none = first (is_registered H n) (has_slot_in_use H n) (absent-unlisted proved c H t n s l none)
  where
    first : (a b : Bool) → (a || b) ≡ false → a ≡ false
    first true b h = cc
    first false b h = refl

-- what holds only of registered nodes doesn't hold of one that isn't there
pub absent-fails : Known → (c : HubConfig) (H : List Entry) (t : NodeTable) (n : ℕ) (fact : Bool) → Stands t H → legal c H ≡ true → None ≡ get nat_eq t.nodes n → (fact ≡ true → is_registered H n ≡ true) → false ≡ fact
absent-fails proved c H t n fact s l none needs = by_fact fact needs
  where
    by_fact : (v : Bool) → (v ≡ true → is_registered H n ≡ true) → false ≡ v
    by_fact false h = refl
    by_fact true h = let e : true ≡ false = sym (h refl) ∙ absent-unregistered proved c H t n s l none in absurd (cc)

draining_registered : (o : Option Standing) → stands_draining o ≡ true → stands_registered o ≡ true
draining_registered (Some standing.Draining) h = refl
draining_registered (Some standing.Up) h = cc
draining_registered (Some standing.Down) h = cc
draining_registered (Some standing.Gone) h = cc
draining_registered (Some standing.Suspect) h = cc
draining_registered None h = cc

pub draining-registered : (H : List Entry) (n : ℕ) → is_draining H n ≡ true → is_registered H n ≡ true
draining-registered H n h = draining_registered (base_of H n) h

pub suspect-registered : (H : List Entry) (n : ℕ) → is_suspect H n ≡ true → is_registered H n ≡ true
suspect-registered H n h = first (is_registered H n) (is_suspected H n) h
  where
    first : (a b : Bool) → (a && b) ≡ true → a ≡ true
    first true b h = refl
    first false b h = cc

-- the base of a row and its suspicion tell how the node stands
pub row-registered : (H : List Entry) (n : ℕ) (row : NodeRow) → RowTells H n row → stands_registered (Some row.base) ≡ is_registered H n
row-registered H n row tells = ap stands_registered (sym tells.base)

pub row-base_up : (H : List Entry) (n : ℕ) (row : NodeRow) → RowTells H n row → stands_up (Some row.base) ≡ is_base_up H n
row-base_up H n row tells = ap stands_up (sym tells.base)

pub row-draining : (H : List Entry) (n : ℕ) (row : NodeRow) → RowTells H n row → stands_draining (Some row.base) ≡ is_draining H n
row-draining H n row tells = ap stands_draining (sym tells.base)

pub row-suspect : (H : List Entry) (n : ℕ) (row : NodeRow) → RowTells H n row → (stands_registered (Some row.base) && row.suspected) ≡ is_suspect H n
row-suspect H n row tells = ap (λ b. b && row.suspected) (row-registered H n row tells) ∙ ap (λ b. is_registered H n && b) (sym tells.suspected)

pub row-standing : (H : List Entry) (n : ℕ) (row : NodeRow) → RowTells H n row →
    Some (cond (stands_registered (Some row.base) && row.suspected) standing.Suspect row.base) ≡ standing_of H n
row-standing H n row tells =
    both (stands_registered (Some row.base) && row.suspected) row.base
    ∙ ap (λ (o : Option Standing). cond (stands_registered (Some row.base) && row.suspected) (Some standing.Suspect) o) (sym tells.base)
    ∙ ap (λ b. cond b (Some standing.Suspect) (base_of H n)) (row-suspect H n row tells)
  where
    both : (b : Bool) (base : Standing) → Some (cond b standing.Suspect base) ≡ cond b (Some standing.Suspect) (Some base)
    both true base = refl
    both false base = refl

pub row-spent : (H : List Entry) (n : ℕ) (row : NodeRow) → RowTells H n row → is_at_limit row.registration.drain_after (bound_count H n) ≡ is_spent H n
row-spent H n row tells = ap (λ (o : Option Registration). is_at_limit (option_and_then (λ (r : Registration). r.drain_after) o) (bound_count H n)) (sym tells.registration)

filter-within : (p kept : ℕ → Bool) (xs : List ℕ) → ((n : ℕ) → p n ≡ true → kept n ≡ true) → filter p (filter kept xs) ≡ filter p xs
filter-within p kept [] h = refl
filter-within p kept (x ∷ xs) h = by_test (p x) refl (kept x) refl (filter-within p kept xs h)
  where
    by_test : (v : Bool) → p x ≡ v → (w : Bool) → kept x ≡ w → filter p (filter kept xs) ≡ filter p xs → filter p (filter kept (x ∷ xs)) ≡ filter p (x ∷ xs)
    by_test true d true e rest = rw (e, d) (ap (λ l. x ∷ l) rest)
    by_test false d true e rest = rw (e, d) rest
    by_test true d false e rest = let there : kept x ≡ true = h x d in absurd (grind arith)
    by_test false d false e rest = rw (e, d) rest

pub nodes-in-order : NodesInOrder
nodes-in-order t H p s h = ap (filter p) s.order ∙ filter-within p s.kept (nodes H) (λ n q. s.listed n (h n q))

-- the first entry that passes is at the first key that passes
find-key : (q : ℕ × NodeRow → Bool) (p : ℕ → Bool) (es : List (ℕ × NodeRow)) → ((i n : ℕ) (row : NodeRow) → slice_get es i ≡ Some (n, row) → q (n, row) ≡ p n) → option_map (λ e. e.0) (find q es) ≡ find p (keys_of es)
find-key q p [] same = refl
find-key q p (e ∷ es) same = by_test (q e) refl (find-key q p es (λ i n row at. same (suc i) n row at))
  where
    by_test : (v : Bool) → q e ≡ v → option_map (λ e. e.0) (find q es) ≡ find p (keys_of es) → option_map (λ e. e.0) (find q (e ∷ es)) ≡ find p (keys_of (e ∷ es))
    by_test true d rest = let here : p e.0 ≡ true = sym (same 0 e.0 e.1 refl) ∙ d in rw (d, here) refl
    by_test false d rest = let here : p e.0 ≡ false = sym (same 0 e.0 e.1 refl) ∙ d in rw (d, here) rest

find-within : (p kept : ℕ → Bool) (xs : List ℕ) → ((n : ℕ) → p n ≡ true → kept n ≡ true) → find p (filter kept xs) ≡ find p xs
find-within p kept [] h = refl
find-within p kept (x ∷ xs) h = by_test (p x) refl (kept x) refl (find-within p kept xs h)
  where
    by_test : (v : Bool) → p x ≡ v → (w : Bool) → kept x ≡ w → find p (filter kept xs) ≡ find p xs → find p (filter kept (x ∷ xs)) ≡ find p (x ∷ xs)
    by_test true d true e rest = rw (e, d) refl
    by_test false d true e rest = rw (e, d) rest
    by_test true d false e rest = let there : kept x ≡ true = h x d in absurd (grind arith)
    by_test false d false e rest = rw (e, d) rest

named-listed : (H : List Entry) (name : List ℕ) (n : ℕ) → is_named H name n ≡ true → is_listed H n ≡ true
named-listed H name n h = let on : is_registered H n ≡ true = grind arith in rw on refl

-- a row that is there tells whether its node has the name
row-named : (H : List Entry) (name : List ℕ) (n turn : ℕ) (row : NodeRow) → row_of H n turn ≡ Some row → is_row_named name (n, row) ≡ is_named H name n
row-named H name n turn row h = by_registration (registration_of H n) refl (base_of H n) refl
  where
    by_registration : (o : Option Registration) → registration_of H n ≡ o → (x : Option Standing) → base_of H n ≡ x → is_row_named name (n, row) ≡ is_named H name n
    by_registration None d x e = absurd (grind arith)
    by_registration (Some r) d None e = grind arith
    by_registration (Some r) d (Some x) e = grind arith

pub named-node : (t : NodeTable) (H : List Entry) (name : List ℕ) → Stands t H → option_map (λ e. e.0) (find (is_row_named name) t.nodes.entries) ≡ find (is_named H name) (nodes H)
named-node t H name s =
    find-key (is_row_named name) (is_named H name) t.nodes.entries (λ i n row at. row-named H name n (last_turn t n) row (row_there n row (hash_map_get_place nat_eq_equiv t.nodes i n row s.nodes_differ at)))
    ∙ ap (find (is_named H name)) s.order ∙ find-within (is_named H name) s.kept (nodes H) (λ n h. s.listed n (named-listed H name n h))
  where
    row_there : (n : ℕ) (row : NodeRow) → get nat_eq t.nodes n ≡ Some row → row_of H n (last_turn t n) ≡ Some row
    row_there n row h = by_kept (s.kept n) (sym (s.rows n) ∙ h)
      where
        by_kept : (v : Bool) → cond v (row_of H n (last_turn t n)) None ≡ Some row → row_of H n (last_turn t n) ≡ Some row
        by_kept true e = e
        by_kept false e = absurd (grind arith)
