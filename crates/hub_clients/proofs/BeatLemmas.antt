-- What calls make of what a pass knows.
use Rattle.std.proofs.Common.{◌≡◌, ℕ, ◌+◌, Bool, true, false, cond, List, [], ◌∷◌, ◌++◌, map, length, ap, sym, subst, ◌∙◌, arith, inl, inr, append_assoc, length-append}
use Rattle.std.specs.Prelude.{Option, None, Some, reverse, max, find, nat_le, ◌-◌, ◌^◌}
use Rattle.std.proofs.lemmas.List.{append-nil, append_cancel_left, reverse-append, reverse-reverse}
use Rattle.grid_types.specs.declared.config.HubConfig.{HubConfig}
use Rattle.grid_types.specs.declared.entry.Entry.{Entry}
use Rattle.grid_types.specs.History.{history_of, after, clock, nodes, next_node}
use Rattle.grid_types.specs.declared.entry.Change.{Change}
use Rattle.grid_types.specs.declared.entry.Change.TheVariants as change
use Rattle.grid_types.specs.declared.capabilities.Registration.{Registration}
use Rattle.grid_types.specs.declared.names.Moment.{Moment}
use Rattle.grid_types.specs.Tables.{entry}
use Rattle.grid_types.specs.Slots.{listed}
use Rattle.grid_types.specs.Permitted.{is_named}
use Rattle.grid_types.specs.Calls.{Call, Reply}
use Rattle.grid_types.specs.HubAnswers.{hub, register_by, says, makes, moment}
use Rattle.hub_core.specs.Answers.{Answers}
use Rattle.turn_cell.specs.declared.views.View.{View}
use Rattle.turn_cell.specs.declared.views.Ended.{Ended}
use Rattle.turn_cell.specs.Steps.{looked_once}
use Rattle.hub_cell.specs.declared.grid.Grid.{Grid}
use Rattle.hub_cell.specs.Shared.{past, made_by, KeepsAll, SharedServes, LooksOnce}
use Rattle.hub_clients.specs.Beats.{EachHas, IsListing}

pub keeps-self : (v : View Grid) → KeepsAll v v
keeps-self v = record { tickets = λ t h u. h; reservations = λ t h u. h; closings = λ t h u. h }

pub keeps-on : (u v w : View Grid) → KeepsAll u v → KeepsAll v w → KeepsAll u w
keeps-on u v w f g = record {
  tickets = λ t h n. g.tickets t (f.tickets t h n) n;
  reservations = λ t h n. g.reservations t (f.reservations t h n) n;
  closings = λ t h n. g.closings t (f.closings t h n) n;
}

-- the changes of a call behind the journal
history-after : (journal : List Entry) (k : ℕ) (changes : List Change) → history_of (journal ++ map (entry k) changes) ≡ after (history_of journal) k changes
history-after journal k [] = ap history_of (append-nil journal)
history-after journal k (c ∷ cs) =
    ap history_of (sym (append_assoc journal (entry k c ∷ []) (map (entry k) cs)))
    ∙ (history-after (journal ++ entry k c ∷ []) k cs
    ∙ ap (λ (H : List Entry). after H k cs) (reverse-append journal (entry k c ∷ [])))

-- the entries of a call that was answered
made-is : (c : HubConfig) (old new : View Grid) (call : Call) (at : ℕ) (r : Reply) (s : SharedServes c old call at (Some r) new) → s.made ≡ made_by c (history_of s.point) old.number call at
made-is c old new call at r s = by_answer s.serves.answers
  where
    by_answer : Answers c (history_of s.point) old.number call at (Some r) (past new) → s.made ≡ made_by c (history_of s.point) old.number call at
    by_answer (inr x) = absurd (cc (x.silent))
    by_answer (inl x) =
        let turned : reverse (s.point ++ s.made) ≡ reverse (s.point ++ made_by c (history_of s.point) old.number call at) =
        ap (λ (v : View Grid). history_of v.seen) (sym s.turn.goes) ∙ (x.goes_on ∙ sym (history-after s.point old.number (hub c (history_of s.point) old.number call at).changes)) in
        append_cancel_left s.point s.made (made_by c (history_of s.point) old.number call at)
        (sym (reverse-reverse (s.point ++ s.made)) ∙ (ap (λ (l : List Entry). reverse l) turned ∙ reverse-reverse (s.point ++ made_by c (history_of s.point) old.number call at)))

beaten-one : (c : HubConfig) (H : List Entry) (k n at : ℕ) → Reply.beaten ≡ (hub c H k (Call.beat n None) at).reply → length (made_by c H k (Call.beat n None) at) ≡ 1
unfolding hub
beaten-one c H k n at h = grind (arith, h)

-- a beat that was taken is one entry more
pub beaten-more : (c : HubConfig) (old new : View Grid) (n at : ℕ) → SharedServes c old (Call.beat n None) at (Some Reply.beaten) new → length new.mine ≡ length old.mine + 1
beaten-more c old new n at s = by_answer s.serves.answers
  where
    by_answer : Answers c (history_of s.point) old.number (Call.beat n None) at (Some Reply.beaten) (past new) → length new.mine ≡ length old.mine + 1
    by_answer (inr x) = absurd (cc (x.silent))
    by_answer (inl x) =
        let one : length (made_by c (history_of s.point) old.number (Call.beat n None) at) ≡ 1 = beaten-one c (history_of s.point) old.number n at (cc (x.replies)) in
        let is : length s.made ≡ 1 = ap (λ (l : List Entry). length l) (made-is c old new (Call.beat n None) at Reply.beaten s) ∙ one in
        ap (λ (v : View Grid). length v.mine) s.turn.goes ∙ (length-append old.mine s.made ∙ ap (λ (z : ℕ). length old.mine + z) is)

pub same-ended : (c : HubConfig) (old new : View Grid) (call : Call) (at : ℕ) (reply : Option Reply) → SharedServes c old call at reply new → new.ended ≡ old.ended
same-ended c old new call at reply s = ap (λ (v : View Grid). v.ended) s.turn.goes

pub each_has_more : (n : ℕ) (es : List Ended) (e : Ended) → EachHas n es → length e.mine ≡ n → EachHas n (es ++ e ∷ [])
each_has_more n [] e h is = (is, tt)
each_has_more n (x ∷ xs) e h is = (h.0, each_has_more n xs e h.1 is)

-- a node that was listed as number 1 is the entry
listed-one : (c : HubConfig) (H : List Entry) (k at : ℕ) (r : Registration) → Reply.registered 1 ≡ (hub c H k (Call.register r) at).reply → made_by c H k (Call.register r) at ≡ entry k (change.Registered 1 r (moment (max at (clock H)))) ∷ []
unfolding hub
listed-one c H k at r h = by_name (find (is_named H r.name) (nodes H)) h
  where
    m : ℕ
    m = max at (clock H)

    by_number : (n : ℕ) (b d : Bool) →
        Reply.registered 1 ≡ (cond b (says (Reply.nodes_full 1_024)) (cond d (says Reply.numbers_spent) (makes (change.Registered n r (moment m)) (Reply.registered n)))).reply →
        map (entry k) (cond b (says (Reply.nodes_full 1_024)) (cond d (says Reply.numbers_spent) (makes (change.Registered n r (moment m)) (Reply.registered n)))).changes ≡ entry k (change.Registered 1 r (moment m)) ∷ []
    by_number n true d e = absurd (cc (e))
    by_number n false true e = absurd (cc (e))
    by_number n false false e = cc (e)

    by_name : (o : Option ℕ) → Reply.registered 1 ≡ (register_by c H r m o).reply → map (entry k) (register_by c H r m o).changes ≡ entry k (change.Registered 1 r (moment m)) ∷ []
    by_name (Some n) e = absurd (cc (e))
    by_name None e = by_number (next_node c H) (nat_le 1_024 (length (listed H))) (nat_le (2 ^ 32 - 1) (next_node c H)) e

pub listed-first : (c : HubConfig) (old new : View Grid) (r : Registration) (at : ℕ) → SharedServes c old (Call.register r) at (Some (Reply.registered 1)) new → old.mine ≡ [] → IsListing old.number r new.mine
listed-first c old new r at s none = by_answer s.serves.answers
  where
    m : Moment
    m = moment (max at (clock (history_of s.point)))

    by_answer : Answers c (history_of s.point) old.number (Call.register r) at (Some (Reply.registered 1)) (past new) → IsListing old.number r new.mine
    by_answer (inr x) = absurd (cc (x.silent))
    by_answer (inl x) =
        let one : made_by c (history_of s.point) old.number (Call.register r) at ≡ entry old.number (change.Registered 1 r m) ∷ [] = listed-one c (history_of s.point) old.number at r (cc (x.replies)) in
        (m, ap (λ (v : View Grid). v.mine) s.turn.goes ∙ (ap (λ (l : List Entry). l ++ s.made) none ∙ (made-is c old new (Call.register r) at (Reply.registered 1) s ∙ one)))

-- a turn without entries
pub looks-mine : (old new : View Grid) → LooksOnce old new → new.mine ≡ old.mine
looks-mine old new s = ap (λ (v : View Grid). v.mine) s.turn.goes ∙ append-nil old.mine

pub looks-ended : (old new : View Grid) → LooksOnce old new → new.ended ≡ old.ended
looks-ended old new s = ap (λ (v : View Grid). v.ended) s.turn.goes

-- a spent look loses no token
pub keeps-spent : (old new : View Grid) → new ≡ looked_once old → KeepsAll old new
keeps-spent old new e = subst (λ (z : View Grid). KeepsAll old z) (sym e) (record { tickets = λ t h u. h; reservations = λ t h u. h; closings = λ t h u. h })

pub one-more : (a b : ℕ) → (a + b) + 1 ≡ a + (b + 1)
one-more a b = grind arith
