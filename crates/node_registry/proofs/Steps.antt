-- What the table stands for after each call.
use Rattle.std.proofs.Common.{◌≡◌, ℕ, ◌⊎◌, ◌+◌, ◌≤◌, ◌<◌, Bool, true, false, cond, not, ◌&&◌, List, [], ◌∷◌, ◌++◌, filter, length, refl, sym, ap, subst, ◌∙◌, inl, inr, arith}
use Rattle.std.specs.Prelude.{Option, None, Some, nat_eq, nat_lt, option_map}
use Rattle.indexmap.specs.IndexMap.{get, keys, IsUnique}
use Rattle.indexmap.specs.IndexSet.{remove_key}
use Rattle.grid_types.specs.declared.entry.Entry.{Entry}
use Rattle.grid_types.specs.declared.entry.Change.{Change}
use Rattle.grid_types.specs.declared.entry.Change.TheVariants as change
use Rattle.grid_types.specs.declared.names.SlotId.{SlotId}
use Rattle.grid_types.specs.declared.names.Moment.{Moment}
use Rattle.grid_types.specs.declared.capabilities.Registration.{Registration}
use Rattle.grid_types.specs.declared.config.HubConfig.{HubConfig}
use Rattle.grid_types.specs.History.{nodes}
use Rattle.grid_types.specs.Nodes.{registration_of, turned}
use Rattle.grid_types.specs.Slots.{is_listed}
use Rattle.grid_types.specs.Legal.{legal}
use Rattle.node_registry.specs.declared.node_table.NodeRow.{NodeRow}
use Rattle.node_registry.specs.declared.node_table.NodeTable.{NodeTable}
use Rattle.grid_types.specs.Tables.{OthersKeep, entry, is_node_change}
use Rattle.grid_types.specs.HistoryLaws.{Known, laws}
use Rattle.node_registry.specs.Table.{Quiet, Stands, row_of, row_with, turn_in, last_turn}
use Rattle.node_registry.proofs.Rows.{new_row, with_turn, Rewrites, row-uncounted, row-Registered}
use Rattle.node_registry.proofs.QuietLemmas.{Loosens, RowWithin, loosened, quiet-put, quiet-mapped, turn-within}
use Rattle.node_registry.proofs.Fresh.{unregistered-unbound, unregistered-trusted}
use Rattle.node_registry.proofs.Keys.{filter-last, filter-both, remove-filter}

kept-listed : Known → (c : HubConfig) (H : List Entry) (k n : ℕ) (ch : Change) (t : NodeTable) → (s : Stands t H) → legal c (entry k ch ∷ H) ≡ true → is_listed (entry k ch ∷ H) n ≡ true → s.kept n ≡ true
kept-listed proved c H k n ch t s l h = by_either ((laws proved).listed-before c H k n ch l h)
  where
    by_either : (registration_of H n ≡ None) ⊎ (is_listed H n ≡ true) → s.kept n ≡ true
    by_either (inl none) = s.unregistered n none
    by_either (inr there) = s.listed n there

-- an entry that changes no node's last reservation leaves the number in the row
same-turn : (H G : List Entry) (n : ℕ) (v : Bool) (old new : Option NodeRow) → (registration_of G n ≡ None → registration_of H n ≡ None) →
    old ≡ cond v (row_of H n (turn_in old)) None → new ≡ cond v (row_of G n (turn_in old)) None → turn_in new ≡ turn_in old
same-turn H G n false old new before was now = ap turn_in now ∙ sym (ap turn_in was)
same-turn H G n true old new before was now = by_registration (registration_of G n) refl
  where
    by_registration : (o : Option Registration) → registration_of G n ≡ o → turn_in new ≡ turn_in old
    by_registration (Some r) e = ap turn_in now ∙ (rw e refl)
    by_registration None e =
        let gone : turn_in (row_of G n (turn_in old)) ≡ 0 = rw e refl in
        let none : turn_in (row_of H n (turn_in old)) ≡ 0 = rw (before e) refl in
        ap turn_in now ∙ gone ∙ sym (ap turn_in was ∙ none)

-- a step that drops no node, where no node's last reservation changes
pub stands-step : Known → (c : HubConfig) (H : List Entry) (k : ℕ) (ch : Change) (old new : NodeTable) → (s : Stands old H) → legal c (entry k ch ∷ H) ≡ true →
    ((n : ℕ) → get nat_eq new.nodes n ≡ cond (s.kept n) (row_of (entry k ch ∷ H) n (last_turn old n)) None) →
    keys new.nodes ≡ filter s.kept (nodes (entry k ch ∷ H)) →
    new.newest_turn ≡ old.newest_turn → ((n : ℕ) → turned (entry k ch ∷ H) n ≡ turned H n) →
    IsUnique nat_eq new.nodes → Quiet new → Stands new (entry k ch ∷ H)
stands-step proved c H k ch old new s l rows order same_newest same_turned u quiet = record {
  kept = s.kept;
  unregistered = λ n none. s.unregistered n ((laws proved).registration-before H k n ch none);
  listed = λ n there. kept-listed proved c H k n ch old s l there;
  rows = λ n. rows n ∙ ap (λ (turn : ℕ). cond (s.kept n) (row_of (entry k ch ∷ H) n turn) None) (sym (same_turn n));
  order = order;
  turns = λ n m p q. rw (same_turn n, same_turn m, same_turned n, same_turned m) (s.turns n m p q);
  never = λ n p. rw (same_turn n, same_turned n) (s.never n p);
  newest = λ n. rw (same_turn n, same_newest) (s.newest n);
  nodes_differ = u;
  quiet = quiet;
}
  where
    same_turn : (n : ℕ) → last_turn new n ≡ last_turn old n
    same_turn n = same-turn H (entry k ch ∷ H) n (s.kept n) (get nat_eq old.nodes n) (get nat_eq new.nodes n) ((laws proved).registration-before H k n ch) (s.rows n) (rows n)

-- the rows after a write to one of them, or to none where it is not there
pub rows-write : (H G : List Entry) (m : ℕ) (f : NodeRow → NodeRow) (kept : ℕ → Bool) (turn : ℕ → ℕ) (old new : ℕ → Option NodeRow) →
    ((n x : ℕ) → row_of G n x ≡ cond (nat_eq m n) (option_map f (row_of H n x)) (row_of H n x)) →
    ((n : ℕ) → old n ≡ cond (kept n) (row_of H n (turn n)) None) →
    ((n : ℕ) → new n ≡ cond (nat_eq m n) (option_map f (old n)) (old n)) → (n : ℕ) → new n ≡ cond (kept n) (row_of G n (turn n)) None
rows-write H G m f kept turn old new row was now n = now n ∙ (rw (was n, row n (turn n)) (by_kept (kept n) (nat_eq m n) (row_of H n (turn n))))
  where
    by_kept : (v w : Bool) (o : Option NodeRow) → cond w (option_map f (cond v o None)) (cond v o None) ≡ cond v (cond w (option_map f o) o) None
    by_kept true true o = refl
    by_kept true false o = refl
    by_kept false true o = refl
    by_kept false false o = refl

pub rows-none : (m : ℕ) (f : NodeRow → NodeRow) (old : ℕ → Option NodeRow) → old m ≡ None → (n : ℕ) → old n ≡ cond (nat_eq m n) (option_map f (old n)) (old n)
rows-none m f old none n = by_node (nat_eq m n) refl
  where
    by_node : (w : Bool) → nat_eq m n ≡ w → old n ≡ cond w (option_map f (old n)) (old n)
    by_node true e = let same : m ≡ n = grind arith in let At : ℕ → Type 0 = λ z. old z ≡ None in let here : old n ≡ None = subst At same none in rw here refl
    by_node false e = refl

pub rows-some : (m : ℕ) (f : NodeRow → NodeRow) (old new : ℕ → Option NodeRow) (row : NodeRow) → old m ≡ Some row →
    ((n : ℕ) → new n ≡ cond (nat_eq m n) (Some (f row)) (old n)) → (n : ℕ) → new n ≡ cond (nat_eq m n) (option_map f (old n)) (old n)
rows-some m f old new row there write n = write n ∙ by_node (nat_eq m n) refl
  where
    by_node : (w : Bool) → nat_eq m n ≡ w → cond w (Some (f row)) (old n) ≡ cond w (option_map f (old n)) (old n)
    by_node true e = let same : m ≡ n = grind arith in let At : ℕ → Type 0 = λ z. old z ≡ Some row in let here : old n ≡ Some row = subst At same there in rw here refl
    by_node false e = refl

stays : Known → (t : NodeTable) (c : HubConfig) (H : List Entry) (k : ℕ) (ch : Change) → is_node_change ch ≡ false → Stands t H → legal c (entry k ch ∷ H) ≡ true → Stands t (entry k ch ∷ H)
stays proved t c H k (change.Registered n r at) o s l = absurd (cc)
stays proved t c H k (change.Beaten n at) o s l = absurd (cc)
stays proved t c H k (change.Draining n at) o s l = absurd (cc)
stays proved t c H k (change.Removed n at) o s l = absurd (cc)
stays proved t c H k (change.Lapsed n at) o s l = absurd (cc)
stays proved t c H k (change.Suspected n at) o s l = absurd (cc)
stays proved t c H k (change.Bound r x y cs at) o s l = absurd (cc)
stays proved t c H k (change.Reserved r x choice at) o s l = absurd (cc)
stays proved t c H k ch o s l = stands-step proved c H k ch t t s l (λ n. s.rows n ∙ ap (λ (o : Option NodeRow). cond (s.kept n) o None) (sym (row-uncounted H n (last_turn t n)))) s.order refl (λ n. refl) s.nodes_differ s.quiet

-- an entry of another kind leaves what the table keeps
pub others-keep : Known → OthersKeep Stands is_node_change
others-keep proved t k ch o = record { after = λ c H s l. stays proved t c H k ch o s l }

pub stands-Registered : Known → (c : HubConfig) (H : List Entry) (k m : ℕ) (r : Registration) (at : Moment) (old new : NodeTable) → (s : Stands old H) →
    legal c (entry k (change.Registered m r at) ∷ H) ≡ true →
    ((n : ℕ) → get nat_eq new.nodes n ≡ cond (nat_eq m n) (Some (new_row r at 0)) (get nat_eq old.nodes n)) →
    (get nat_eq old.nodes m ≡ None → keys new.nodes ≡ keys old.nodes ++ m ∷ []) →
    new.newest_turn ≡ old.newest_turn →
    IsUnique nat_eq new.nodes → Loosens old new → RowWithin new (new_row r at 0) → Stands new (entry k (change.Registered m r at) ∷ H)
stands-Registered proved c H k m r at old new s l rows order same_newest u looser within =
    stands-step proved c H k (change.Registered m r at) old new s l
    (λ n. rows n ∙ ap (λ (o : Option NodeRow). cond (nat_eq m n) (Some (new_row r at 0)) o) (s.rows n) ∙ by_node n (nat_eq m n) refl
    ∙ ap (λ (o : Option NodeRow). cond (s.kept n) o None) (sym (row-Registered H k m r at (unregistered-trusted proved c H m before fresh) (unregistered-unbound proved c H m before fresh) n (last_turn old n))))
    (order absent ∙ (rw s.order (sym (filter-last s.kept m (nodes H) here))))
    same_newest (λ n. refl) u
    (quiet-put old new m (λ n. Some (new_row r at 0)) s.quiet looser rows (λ n row e g. let same : new_row r at 0 ≡ row = cc in subst (λ (z : NodeRow). RowWithin new z) same within))
  where
    before : legal c H ≡ true
    before = (laws proved).legal-before c (entry k (change.Registered m r at)) H l

    fresh : registration_of H m ≡ None
    fresh = (laws proved).new-node c H k m r at before ((laws proved).legal-permitted c (entry k (change.Registered m r at)) H l)

    here : s.kept m ≡ true
    here = s.unregistered m fresh

    absent : get nat_eq old.nodes m ≡ None
    absent = s.rows m ∙ (rw (here, fresh) refl)

    by_node : (n : ℕ) (w : Bool) → nat_eq m n ≡ w →
        cond w (Some (new_row r at 0)) (cond (s.kept n) (row_of H n (last_turn old n)) None) ≡ cond (s.kept n) (cond w (Some (new_row r at (last_turn old n))) (row_of H n (last_turn old n))) None
    by_node n true e =
        let same : m ≡ n = grind arith in
        let there : s.kept n ≡ true = rw (← same) here in
        let never : last_turn old n ≡ 0 = (let At : ℕ → Type 0 = λ z. get nat_eq old.nodes z ≡ None in ap turn_in (subst At same absent)) in
        rw there (ap (λ (turn : ℕ). Some (new_row r at turn)) (sym never))
    by_node n false e = refl

-- a write to one node's row
pub stands-write : Known → (c : HubConfig) (H : List Entry) (k m : ℕ) (ch : Change) (f : NodeRow → NodeRow) (old new : NodeTable) → (s : Stands old H) → legal c (entry k ch ∷ H) ≡ true →
    Rewrites H (entry k ch) m f → nodes (entry k ch ∷ H) ≡ nodes H → ((n : ℕ) → turned (entry k ch ∷ H) n ≡ turned H n) →
    ((n : ℕ) → get nat_eq new.nodes n ≡ cond (nat_eq m n) (option_map f (get nat_eq old.nodes n)) (get nat_eq old.nodes n)) →
    keys new.nodes ≡ keys old.nodes → new.newest_turn ≡ old.newest_turn → IsUnique nat_eq new.nodes →
    Loosens old new → ((row : NodeRow) → get nat_eq old.nodes m ≡ Some row → RowWithin old row → RowWithin new (f row)) → Stands new (entry k ch ∷ H)
stands-write proved c H k m ch f old new s l writes same same_turned rows order same_newest u looser within =
    stands-step proved c H k ch old new s l
    (rows-write H (entry k ch ∷ H) m f s.kept (last_turn old) (get nat_eq old.nodes) (get nat_eq new.nodes) writes s.rows rows)
    (order ∙ s.order ∙ ap (filter s.kept) (sym same)) same_newest same_turned u
    (quiet-mapped old new m f s.quiet looser rows within)

less : (a b : ℕ) → a < b → nat_lt a b ≡ true
less a b h = grind arith

not-less : (a b : ℕ) → a ≤ b → nat_lt b a ≡ false
not-less a b h = grind arith

-- the reservation has the next number, which the node's row keeps
pub stands-Reserved : Known → (c : HubConfig) (H : List Entry) (k r : ℕ) (t : SlotId) (choice : ℕ) (at : Moment) (row : NodeRow) (old new : NodeTable) → (s : Stands old H) →
    legal c (entry k (change.Reserved r t choice at) ∷ H) ≡ true → get nat_eq old.nodes t.node ≡ Some row →
    ((n : ℕ) → get nat_eq new.nodes n ≡ cond (nat_eq t.node n) (option_map (with_turn new.newest_turn) (get nat_eq old.nodes n)) (get nat_eq old.nodes n)) →
    keys new.nodes ≡ keys old.nodes → new.newest_turn ≡ old.newest_turn + 1 → IsUnique nat_eq new.nodes → Loosens old new → Stands new (entry k (change.Reserved r t choice at) ∷ H)
stands-Reserved proved c H k r t choice at row old new s l there rows order counted u looser = record {
  kept = s.kept;
  unregistered = λ n none. s.unregistered n none;
  listed = λ n on. kept-listed proved c H k n (change.Reserved r t choice at) old s l on;
  rows = λ n. rows n ∙ by_row n (nat_eq t.node n) refl;
  order = order ∙ s.order;
  turns = λ a b p q. by_nodes a b (nat_eq t.node a) refl (nat_eq t.node b) refl (s.turns a b p q);
  never = λ a p. by_node a (nat_eq t.node a) refl (s.never a p);
  newest = λ a. by_newest a (nat_eq t.node a) refl;
  nodes_differ = u;
  quiet = quiet-mapped old new t.node (with_turn new.newest_turn) s.quiet looser rows (λ x here within. turn-within new.newest_turn x (loosened old new x looser within));
}
  where
    numbered : (n x : ℕ) (v : Bool) → option_map (with_turn new.newest_turn) (cond v (row_of H n x) None) ≡ cond v (row_of H n new.newest_turn) None
    numbered n x true = by_registration (registration_of H n)
      where
        by_registration : (o : Option Registration) → option_map (with_turn new.newest_turn) (option_map (row_with H n x) o) ≡ option_map (row_with H n new.newest_turn) o
        by_registration None = refl
        by_registration (Some q) = refl
    numbered n x false = refl

    own_row : (a : ℕ) → nat_eq t.node a ≡ true → get nat_eq old.nodes a ≡ Some row
    own_row a e = let same : t.node ≡ a = grind arith in let At : ℕ → Type 0 = λ z. get nat_eq old.nodes z ≡ Some row in subst At same there

    own : (a : ℕ) → nat_eq t.node a ≡ true → last_turn new a ≡ new.newest_turn
    own a e = ap turn_in (rows a) ∙ (rw (e, own_row a e) refl)

    other : (a : ℕ) → nat_eq t.node a ≡ false → last_turn new a ≡ last_turn old a
    other a e = ap turn_in (rows a) ∙ (rw e refl)

    below : (a : ℕ) → nat_eq t.node a ≡ false → last_turn new a < new.newest_turn
    below a e = let same : last_turn new a ≡ last_turn old a = other a e in let low : last_turn old a ≤ old.newest_turn = s.newest a in let more : new.newest_turn ≡ old.newest_turn + 1 = counted in omega arith

    now : (a : ℕ) → nat_eq t.node a ≡ true → turned (entry k (change.Reserved r t choice at) ∷ H) a ≡ length H + 1
    now a e = rw e refl

    was : (a : ℕ) → nat_eq t.node a ≡ false → turned (entry k (change.Reserved r t choice at) ∷ H) a ≡ turned H a
    was a e = rw e refl

    by_row : (n : ℕ) (w : Bool) → nat_eq t.node n ≡ w →
        cond w (option_map (with_turn new.newest_turn) (get nat_eq old.nodes n)) (get nat_eq old.nodes n) ≡ cond (s.kept n) (row_of (entry k (change.Reserved r t choice at) ∷ H) n (last_turn new n)) None
    by_row n true e =
        ap (option_map (with_turn new.newest_turn)) (s.rows n) ∙ numbered n (last_turn old n) (s.kept n)
        ∙ ap (λ (o : Option NodeRow). cond (s.kept n) o None) (sym (row-uncounted H n new.newest_turn))
        ∙ ap (λ (turn : ℕ). cond (s.kept n) (row_of (entry k (change.Reserved r t choice at) ∷ H) n turn) None) (sym (own n e))
    by_row n false e =
        s.rows n ∙ ap (λ (o : Option NodeRow). cond (s.kept n) o None) (sym (row-uncounted H n (last_turn old n)))
        ∙ ap (λ (turn : ℕ). cond (s.kept n) (row_of (entry k (change.Reserved r t choice at) ∷ H) n turn) None) (sym (other n e))

    by_nodes : (a b : ℕ) (w : Bool) → nat_eq t.node a ≡ w → (x : Bool) → nat_eq t.node b ≡ x → nat_lt (last_turn old a) (last_turn old b) ≡ nat_lt (turned H a) (turned H b) →
        nat_lt (last_turn new a) (last_turn new b) ≡ nat_lt (turned (entry k (change.Reserved r t choice at) ∷ H) a) (turned (entry k (change.Reserved r t choice at) ∷ H) b)
    by_nodes a b true d true e before =
        rw (own a d, own b e, now a d, now b e) (not-less new.newest_turn new.newest_turn (omega arith) ∙ sym (not-less (length H + 1) (length H + 1) (omega arith)))
    by_nodes a b true d false e before =
        let low : last_turn new b ≤ new.newest_turn = (let under : last_turn new b < new.newest_turn = below b e in omega arith) in
        let past : turned H b ≤ length H + 1 = (let within : turned H b ≤ length H = (laws proved).turned-within H b in omega arith) in
        rw (own a d, now a d, was b e) (not-less (last_turn new b) new.newest_turn low ∙ sym (not-less (turned H b) (length H + 1) past))
    by_nodes a b false d true e before =
        let past : turned H a < length H + 1 = (let within : turned H a ≤ length H = (laws proved).turned-within H a in omega arith) in
        rw (own b e, now b e, was a d) (less (last_turn new a) new.newest_turn (below a d) ∙ sym (less (turned H a) (length H + 1) past))
    by_nodes a b false d false e before = rw (other a d, other b e, was a d, was b e) before

    by_node : (a : ℕ) (w : Bool) → nat_eq t.node a ≡ w → nat_eq (last_turn old a) 0 ≡ nat_eq (turned H a) 0 →
        nat_eq (last_turn new a) 0 ≡ nat_eq (turned (entry k (change.Reserved r t choice at) ∷ H) a) 0
    by_node a true d before = let more : new.newest_turn ≡ old.newest_turn + 1 = counted in rw (own a d, now a d) (grind arith)
    by_node a false d before = rw (other a d, was a d) before

    by_newest : (a : ℕ) (w : Bool) → nat_eq t.node a ≡ w → last_turn new a ≤ new.newest_turn
    by_newest a true e = let same : last_turn new a ≡ new.newest_turn = own a e in omega arith
    by_newest a false e = let low : last_turn new a < new.newest_turn = below a e in omega arith

same-number : (m n : ℕ) → nat_eq m n ≡ true → m ≡ n
same-number m n e = grind arith

-- nothing changes
pub stands-same : (H : List Entry) (old new : NodeTable) → (s : Stands old H) → ((n : ℕ) → get nat_eq new.nodes n ≡ get nat_eq old.nodes n) →
    keys new.nodes ≡ keys old.nodes → new.newest_turn ≡ old.newest_turn → IsUnique nat_eq new.nodes → Loosens old new → Stands new H
stands-same H old new s rows order same_newest u looser = record {
  kept = s.kept;
  unregistered = s.unregistered;
  listed = s.listed;
  rows = λ n. rows n ∙ s.rows n ∙ ap (λ (turn : ℕ). cond (s.kept n) (row_of H n turn) None) (sym (same_turn n));
  order = order ∙ s.order;
  turns = λ n m p q. rw (same_turn n, same_turn m) (s.turns n m p q);
  never = λ n p. rw (same_turn n) (s.never n p);
  newest = λ n. rw (same_turn n, same_newest) (s.newest n);
  nodes_differ = u;
  quiet = λ n row h. loosened old new row looser (s.quiet n row (sym (rows n) ∙ h));
}
  where
    same_turn : (n : ℕ) → last_turn new n ≡ last_turn old n
    same_turn n = ap turn_in (rows n)

-- a node that is not listed is dropped
pub stands-forget : (H : List Entry) (m : ℕ) (row : NodeRow) (old new : NodeTable) → (s : Stands old H) → is_listed H m ≡ false → get nat_eq old.nodes m ≡ Some row →
    ((n : ℕ) → get nat_eq new.nodes n ≡ cond (nat_eq m n) None (get nat_eq old.nodes n)) →
    keys new.nodes ≡ remove_key (nat_eq m) (keys old.nodes) → new.newest_turn ≡ old.newest_turn →
    IsUnique nat_eq new.nodes → Loosens old new → Stands new H
stands-forget H m row old new s off there rows order same_newest u looser = record {
  kept = λ n. s.kept n && not (nat_eq m n);
  unregistered = λ n none. by_new n none (nat_eq m n) refl;
  listed = λ n on. by_listed n on (nat_eq m n) refl;
  rows = λ n. rows n ∙ by_row n (nat_eq m n) refl;
  order = order ∙ remove-filter m (keys old.nodes) s.nodes_differ ∙ ap (λ ns. filter (λ n. not (nat_eq m n)) ns) s.order ∙ filter-both s.kept (λ n. not (nat_eq m n)) (nodes H);
  turns = λ a b p q. by_turns a b (kept_old a p) (kept_old b q);
  never = λ a p. by_never a (kept_old a p);
  newest = λ a. by_newest a (nat_eq m a) refl;
  nodes_differ = u;
  quiet = quiet-put old new m (λ n. None) s.quiet looser rows (λ n row e g. absurd (cc));
}
  where
    by_new : (n : ℕ) → registration_of H n ≡ None → (w : Bool) → nat_eq m n ≡ w → (s.kept n && not (nat_eq m n)) ≡ true
    by_new n none true e =
        let same : m ≡ n = grind arith in
        let row_there : cond (s.kept n) (row_of H n (last_turn old n)) None ≡ Some row = sym (s.rows n) ∙ (let At : ℕ → Type 0 = λ z. get nat_eq old.nodes z ≡ Some row in subst At same there) in
        let no_row : row_of H n (last_turn old n) ≡ None = rw none refl in
        absurd (grind arith)
    by_new n none false e = rw (s.unregistered n none, e) refl

    by_listed : (n : ℕ) → is_listed H n ≡ true → (w : Bool) → nat_eq m n ≡ w → (s.kept n && not (nat_eq m n)) ≡ true
    by_listed n on true e = let same : m ≡ n = same-number m n e in let Off : ℕ → Type 0 = λ z. is_listed H z ≡ false in let not_on : is_listed H n ≡ false = subst Off same off in let e : true ≡ false = sym on ∙ not_on in absurd (cc)
    by_listed n on false e = rw (s.listed n on, e) refl

    other : (a : ℕ) → nat_eq m a ≡ false → last_turn new a ≡ last_turn old a
    other a e = ap turn_in (rows a) ∙ (rw e refl)

    dropped : (v : Bool) (o : Option NodeRow) → None ≡ cond (v && false) o None
    dropped true o = refl
    dropped false o = refl

    left : (v : Bool) (o : Option NodeRow) → cond v o None ≡ cond (v && true) o None
    left true o = refl
    left false o = refl

    by_row : (n : ℕ) (w : Bool) → nat_eq m n ≡ w → cond w None (get nat_eq old.nodes n) ≡ cond (s.kept n && not w) (row_of H n (last_turn new n)) None
    by_row n true e = dropped (s.kept n) (row_of H n (last_turn new n))
    by_row n false e = s.rows n ∙ ap (λ (turn : ℕ). cond (s.kept n) (row_of H n turn) None) (sym (other n e)) ∙ left (s.kept n) (row_of H n (last_turn new n))

    kept_old : (a : ℕ) → (s.kept a && not (nat_eq m a)) ≡ true → (s.kept a ≡ true) × (nat_eq m a ≡ false)
    kept_old a p = (grind arith, grind arith)

    by_turns : (a b : ℕ) → (s.kept a ≡ true) × (nat_eq m a ≡ false) → (s.kept b ≡ true) × (nat_eq m b ≡ false) → nat_lt (last_turn new a) (last_turn new b) ≡ nat_lt (turned H a) (turned H b)
    by_turns a b p q = rw (other a p.1, other b q.1) (s.turns a b p.0 q.0)

    by_never : (a : ℕ) → (s.kept a ≡ true) × (nat_eq m a ≡ false) → nat_eq (last_turn new a) 0 ≡ nat_eq (turned H a) 0
    by_never a p = rw (other a p.1) (s.never a p.0)

    by_newest : (a : ℕ) (w : Bool) → nat_eq m a ≡ w → last_turn new a ≤ new.newest_turn
    by_newest a true e = let gone : last_turn new a ≡ 0 = ap turn_in (rows a) ∙ (rw e refl) in omega arith
    by_newest a false e = let same : last_turn new a ≡ last_turn old a = other a e in let low : last_turn old a ≤ old.newest_turn = s.newest a in let newest : new.newest_turn ≡ old.newest_turn = same_newest in omega arith
