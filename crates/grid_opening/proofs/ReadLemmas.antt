-- What the ledger's look-ups tell of whose a slot and a request is, and which entries can be read again.
use Rattle.std.proofs.Common.{◌≡◌, ℕ, ◌≤◌, Bool, true, false, nat_eq, List, [], ◌∷◌, refl, sym, ◌∙◌, subst, arith}
use Rattle.std.specs.Prelude.{Option, None, Some, is_some}
use Rattle.std.proofs.lemmas.Bool.Decides.{nat_tests}
use Rattle.grid_types.specs.declared.entry.Change.{Change}
use Rattle.grid_types.specs.declared.entry.Change.TheVariants as change
use Rattle.grid_types.specs.declared.entry.EndCause.TheVariants as cause
use Rattle.grid_types.specs.declared.entry.Entry.{Entry}
use Rattle.grid_types.specs.declared.entry.FailWhy.TheVariants as why
use Rattle.grid_types.specs.declared.names.Moment.{Moment}
use Rattle.grid_types.specs.declared.names.SlotId.{SlotId}
use Rattle.grid_types.specs.Lists.{or_else, when}
use Rattle.grid_types.specs.Permitted.{is_asker}
use Rattle.grid_types.specs.Requests.{Asked, Place, settled, asked_of, asked_told, is_unsettled, place}
use Rattle.grid_types.specs.Slots.{Holder, holder, holder_told, owner}
use Rattle.grid_types.specs.Tables.{entry}
use Rattle.grid_types.specs.Told.{HasSlot}
use Rattle.grid_journal.specs.EntryReads.{IsEntry}
use Rattle.grid_journal.specs.Fits.{AllFit, FitsEight, FitsFour, MomentFits, SlotFits}
use Rattle.grid_ledger.specs.LedgerStands.{AtMost}
use Rattle.reservation.specs.declared.slot_use.SlotUse.{SlotUse}
use Rattle.reservation.specs.declared.slot_use.SlotUse.TheVariants.{Held, Closing}
use Rattle.reservation.specs.Table.{IsUseOf, holder_of}
use Rattle.session_queue.specs.declared.request.Request.{Request}
use Rattle.session_queue.specs.declared.request.Stage.TheVariants.{Settled}
use Rattle.session_queue.specs.Table.{RowTells, is_gone, place_of}
use Rattle.grid_opening.specs.declared.settling.SlotWork.TheVariants as work
use Rattle.grid_opening.specs.Settling.{IsClosingOf, IsSettledOrGone, IsSlot, IsUntakenOf, is_untaken, wants}

-- ---- whose a slot is

pub held_for : (H : List Entry) (s : SlotId) (u : SlotUse) (r k : ℕ) (c : _) → IsUseOf H s u → u ≡ Held r c k → HasSlot H k r s
held_for H s (Held q d j) r k c tells is = record {
  holder = sym tells.held_as ∙ cc;
  owner = sym (tells.owned_by (rw (sym tells.held_as) refl)) ∙ cc;
}
held_for H s u r k c tells is = absurd (cc)

pub closing_of : (H : List Entry) (s : SlotId) (u : SlotUse) (k : ℕ) → IsUseOf H s u → u ≡ Closing k → IsClosingOf k s H
closing_of H s (Closing j) k tells is = record {
  holder = sym tells.held_as;
  owner = sym (tells.owned_by (rw (sym tells.held_as) refl)) ∙ cc;
}
closing_of H s u k tells is = absurd (cc)

pub wants_not : (H : List Entry) (s : SlotId) (u : SlotUse) (w : _) → IsUseOf H s u → wants w (holder_of u) ≡ false → wants w (holder H s) ≡ false
wants_not H s u w tells none = subst (λ (h : Holder). wants w h ≡ false) tells.held_as none

-- the slot wants no such work
pub slot_not : (H : List Entry) (s : SlotId) (u : SlotUse) (w : _) → IsUseOf H s u → wants w (holder_of u) ≡ false → (t : SlotId) → IsSlot s t → wants w (holder H t) ≡ false
slot_not H s u w tells none t same = subst (λ (v : SlotId). wants w (holder H v) ≡ false) (sym same) (wants_not H s u w tells none)

-- ---- whose number is no new one

owned_few : (most : ℕ) (b : Bool) (k j : ℕ) (rest : Option ℕ) → j ≤ most → (rest ≡ Some k → k ≤ most) → or_else (when b j) rest ≡ Some k → k ≤ most
owned_few most true k j rest few more is = let same : j ≡ k = cc in omega (arith, few, same)
owned_few most false k j rest few more is = more is

pub owner_few : (most : ℕ) (H : List Entry) (s : SlotId) (k : ℕ) → AllFit (AtMost most) H → owner H s ≡ Some k → k ≤ most
owner_few most [] s k few is = absurd (cc)
owner_few most (e ∷ H) s k (here, there) is =
    owned_few most (is_some (holder_told H s (holder H s) e.change)) k e.caller (owner H s) here (owner_few most H s k there) is

asked_of_entry : (most : ℕ) (H : List Entry) (r k : ℕ) (a : Asked) (ch : Change) → k ≤ most → (asked_of H r ≡ Some a → a.caller ≤ most) → or_else (asked_told r k ch) (asked_of H r) ≡ Some a → a.caller ≤ most
asked_of_entry most H r k a (change.Queued q choices d at) here before told = by_test (nat_eq q r) refl
  where
    by_test : (b : Bool) → nat_eq q r ≡ b → a.caller ≤ most
    by_test true g = let same : k ≡ a.caller = grind (arith, told, g) in omega (arith, here, same)
    by_test false g = before (grind (arith, told, g))
asked_of_entry most H r k a ch here before told = before told

asked_few : (most : ℕ) (H : List Entry) (r : ℕ) (a : Asked) → AllFit (AtMost most) H → asked_of H r ≡ Some a → a.caller ≤ most
asked_few most [] r a few is = absurd (cc)
asked_few most (e ∷ H) r a (here, there) is = asked_of_entry most H r e.caller a e.change here (asked_few most H r a there) is

pub asker_few : (most : ℕ) (H : List Entry) (r k : ℕ) → AllFit (AtMost most) H → is_asker H k r ≡ true → k ≤ most
asker_few most H r k few is = by_asked (asked_of H r) refl
  where
    by_asked : (o : Option Asked) → asked_of H r ≡ o → k ≤ most
    by_asked None e = absurd (grind (arith, is, e))
    by_asked (Some a) e =
        let same : a.caller ≡ k = grind (arith, nat_tests, is, e) in
        let less = asked_few most H r a few e in
        omega (arith, same, less)

-- ---- whose outcome it is

asked_by_row : (H : List Entry) (r : ℕ) (q : Request) → RowTells q H r → is_asker H q.caller r ≡ true
asked_by_row H r q tells = rw tells.asks (same q.caller)
  where
    same : (n : ℕ) → nat_eq n n ≡ true
    same n = grind (arith, nat_tests)

pub untaken_by : (H : List Entry) (r : ℕ) (q : Request) (o : _) → RowTells q H r → q.stage ≡ Settled o → IsUntakenOf q.caller r H
untaken_by H r q o tells is = record {
  stands = rw (sym tells.stands_at, is) refl;
  asker = asked_by_row H r q tells;
}

pub untaken_none : (H : List Entry) (r : ℕ) → is_gone (place H r) ≡ true → is_untaken (place H r) ≡ false
untaken_none H r gone = by_place (place H r) gone
  where
    by_place : (p : Place) → is_gone p ≡ true → is_untaken p ≡ false
    by_place (settled o) e = absurd (cc)
    by_place p e = refl

pub untaken_not : (H : List Entry) (r : ℕ) (q : Request) → RowTells q H r → is_untaken (place_of q.stage) ≡ false → is_untaken (place H r) ≡ false
untaken_not H r q tells none = subst (λ (p : Place). is_untaken p ≡ false) tells.stands_at none

pub gone_of : (H : List Entry) (r : ℕ) → is_untaken (place H r) ≡ false → IsSettledOrGone r H → is_gone (place H r) ≡ true
gone_of H r untaken settled_or = by_place (place H r) untaken settled_or
  where
    by_place : (p : Place) → is_untaken p ≡ false → is_unsettled p ≡ false → is_gone p ≡ true
    by_place (settled o) e f = absurd (cc)
    by_place p e f = cc

-- ---- entries that can be read again

pub failed_fits : (k r : ℕ) (s : SlotId) (last : Bool) (at : Moment) → FitsEight k → FitsEight r → SlotFits s → MomentFits at → IsEntry (entry k (change.Failed r s why.Unreachable None last at))
failed_fits k r s true at fk fr fs fa = ((fk, (fr, (fs, (tt, (tt, (tt, fa)))))), omega arith)
failed_fits k r s false at fk fr fs fa = ((fk, (fr, (fs, (tt, (tt, (tt, fa)))))), omega arith)

pub freed_fits : (k : ℕ) (s : SlotId) → FitsEight k → SlotFits s → IsEntry (entry k (change.Freed s))
freed_fits k s fk fs = ((fk, fs), omega arith)

pub ended_fits : (k r : ℕ) (at : Moment) → FitsEight k → FitsEight r → MomentFits at → IsEntry (entry k (change.Ended r cause.Quit at))
ended_fits k r at fk fr fa = ((fk, (fr, (tt, fa))), omega arith)

pub taken_fits : (k r : ℕ) (at : Moment) → FitsEight k → FitsEight r → MomentFits at → IsEntry (entry k (change.Taken r at))
taken_fits k r at fk fr fa = ((fk, (fr, fa)), omega arith)

pub cleared_fits : (k r : ℕ) (at : Moment) → FitsEight k → FitsEight r → MomentFits at → IsEntry (entry k (change.Cleared r at))
cleared_fits k r at fk fr fa = ((fk, (fr, fa)), omega arith)

pub touched_fits : (k r : ℕ) (at : Moment) → FitsEight k → FitsEight r → MomentFits at → IsEntry (entry k (change.Touched r at))
touched_fits k r at fk fr fa = ((fk, (fr, fa)), omega arith)

pub draining_fits : (k n : ℕ) (at : Moment) → FitsEight k → FitsFour n → MomentFits at → IsEntry (entry k (change.Draining n at))
draining_fits k n at fk fn fa = ((fk, (fn, fa)), omega arith)

pub beaten_fits : (k n : ℕ) (at : Moment) → FitsEight k → FitsFour n → MomentFits at → IsEntry (entry k (change.Beaten n at))
beaten_fits k n at fk fn fa = ((fk, (fn, fa)), omega arith)
