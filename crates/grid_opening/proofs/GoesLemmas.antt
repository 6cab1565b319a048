-- How what an opening has goes on by one entry, and by several.
use Rattle.std.proofs.Common.{◌≡◌, inl, inr, ℕ, ◌+◌, ◌-◌, ◌^◌, ◌<◌, ◌≤◌, max, Bool, true, false, cond, ◌&&◌, nat_le, List, [], ◌∷◌, ◌++◌, reverse, flat_map, refl, sym, ◌∙◌, ap, subst, arith, append_assoc, append-nil}
use Rattle.std.specs.Prelude.{Option, None, Some, Result, Ok, Err, is_err, IfErr, IfOk, OnOk}
use Rattle.std.proofs.lemmas.Bool.Decides.{nat_tests}
use Rattle.std.proofs.lemmas.List.{reverse-append}
use Rattle.std.proofs.lemmas.Grind.{flat_map-append}
use Rattle.std.proofs.lemmas.List.Concat.{flat_map-cons}
use Rattle.grid_types.specs.declared.config.HubConfig.{HubConfig}
use Rattle.grid_types.specs.declared.entry.Entry.{Entry}
use Rattle.grid_types.specs.declared.entry.Change.{Change}
use Rattle.grid_types.specs.declared.limits.TheConstants.{LAST_MOMENT}
use Rattle.grid_types.specs.History.{clock}
use Rattle.grid_types.specs.Legal.{legal}
use Rattle.grid_types.specs.Permitted.{permitted}
use Rattle.grid_types.specs.Tables.{entry}
use Rattle.grid_journal.specs.EntryReads.{IsEntry}
use Rattle.grid_journal.specs.Fits.{AllFit}
use Rattle.grid_journal.specs.declared.piece.PieceFault.{PieceFault}
use Rattle.grid_journal.specs.declared.piece.PieceFault.TheVariants as piece_fault
use Rattle.grid_journal.specs.Pieces.{Told}
use Rattle.grid_journal.specs.Spelled.{entry_bytes, head_bytes, journal_bytes}
use Rattle.grid_outside.specs.Counts.{HasCause, Rose}
use Rattle.journal_keeper.specs.Keeps.{Adds}
use Rattle.grid_ledger.specs.declared.ledger.GridLedger.{GridLedger}
use Rattle.grid_ledger.specs.LedgerStands.{AtMost, Hears, LedgerTells, Notes, Stands}
use Rattle.grid_ledger.specs.Open.{NoRequest, NoSlot}
use Rattle.grid_opening.specs.declared.fault.OpeningFault.{OpeningFault}
use Rattle.grid_opening.specs.declared.fault.OpeningFault.TheVariants as fault
use Rattle.grid_opening.specs.declared.fault.Unsettled.{Unsettled}
use Rattle.grid_opening.specs.declared.opening.Opening.{Opening}
use Rattle.grid_opening.specs.declared.finishing.Settled.{Settled}
use Rattle.grid_opening.specs.Openings.{Entered, Enters, Hands, HandsOver, Holds, Keeps, LeadsTo, Reason, SettlesTo, Went, WentGiven}
use Rattle.grid_opening.specs.Settling.{Always, Closes, with_change}

-- ---- the journal with one entry more

more_behind : (head : List ℕ) (f : Entry → List ℕ) (H : List Entry) (e : Entry) → head ++ flat_map f (reverse (e ∷ H)) ≡ (head ++ flat_map f (reverse H)) ++ f e
more_behind head f H e =
    let last : flat_map f (e ∷ []) ≡ f e = flat_map-cons f e [] ∙ append-nil (f e) in
    let order : reverse (e ∷ H) ≡ reverse H ++ e ∷ [] = reverse-append (e ∷ []) H in
    let entries : flat_map f (reverse (e ∷ H)) ≡ flat_map f (reverse H) ++ f e =
    ap (flat_map f) order ∙ flat_map-append f (reverse H) (e ∷ []) ∙ ap (λ (b : List ℕ). flat_map f (reverse H) ++ b) last in
    ap (λ (b : List ℕ). head ++ b) entries ∙ sym (append_assoc head (flat_map f (reverse H)) (f e))

pub done : Unit {0}
done = tt

keeps_more : (c : HubConfig) (H : List Entry) (e : Entry) (piece : List ℕ) (old new : Option (List ℕ)) → Keeps c H old → Adds old new piece → piece ≡ entry_bytes e → IsEntry e → Keeps c (e ∷ H) new
keeps_more c H e piece None new keeps adds is fits = subst (Keeps c (e ∷ H)) (sym adds) done
keeps_more c H e piece (Some bytes) new keeps adds is fits = subst (Keeps c (e ∷ H)) (sym adds) (record {
  entries_fit = (fits, keeps.entries_fit);
  spelled = ap (λ (b : List ℕ). b ++ piece) keeps.spelled ∙ ap (λ (b : List ℕ). journal_bytes c H ++ b) is ∙ sym (more_behind (head_bytes c) entry_bytes H e);
})

all_at_most : (old new : ℕ) (H : List Entry) → old ≤ new → AllFit (AtMost old) H → AllFit (AtMost new) H
all_at_most old new [] less all = all
all_at_most old new (e ∷ H) less (here, there) = (omega (arith, here, less), all_at_most old new H less there)

and_true : (a b : Bool) → a ≡ true → b ≡ true → (a && b) ≡ true
and_true true b h g = g
and_true false b h g = h

-- what is promised where there was no error
pub ok_of : {A E : Type 0} {P : Type 0} (r : Result A E) → is_err r ≡ false → OnOk r P → P
ok_of (Ok x) e h = h
ok_of (Err x) e h = absurd (cc)

-- what a piece has that had no entry before this one
pub told_alone : (before now : List ℕ) (e : Entry) (r : Result (Unit {0}) PieceFault) (done : Unit {0}) → Told before now e r → r ≡ Ok done → before ≡ [] → (now ≡ entry_bytes e) × IsEntry e
told_alone before now e (Ok x) done told is none = (told.0 ∙ ap (λ (b : List ℕ). b ++ entry_bytes e) none, told.1)
told_alone before now e (Err x) done told is none = absurd (cc)

-- what could not be told could not be read again
pub not_told : (before now : List ℕ) (e : Entry) (r : Result (Unit {0}) PieceFault) → Told before now e r → r ≡ Err piece_fault.Unreadable → IsEntry e → ⊥
not_told before now e (Err piece_fault.Unreadable) told is = told.1
not_told before now e (Err piece_fault.Memory) told is = absurd (cc)
not_told before now e (Ok x) told is = absurd (cc)

-- what a ledger tells, where it is told of another name of it
pub tells_at : {first second : GridLedger} {fact : List Entry → Type 0} → first ≡ second → LedgerTells first fact → LedgerTells second fact
tells_at {fact = fact} same tells = subst (λ (l : GridLedger). LedgerTells l fact) same tells

-- ---- one entry

pub enters_none : {K L : Type 0} (kept : K → Option (List ℕ)) (heard : L → List Entry → Type 0) (opening : Opening K L) (caller : ℕ) (change : Change) (b : Bool) →
    LedgerTells opening.ledger (λ H. b ≡ permitted opening.ledger.config H caller change) → b ≡ false → Enters kept heard opening opening caller change
enters_none kept heard opening caller change b tells is = record {
  same_config = refl;
  same_most = λ less. refl;
  after = λ H h. subst (λ (v : Bool). Holds kept heard opening (cond v (entry caller change ∷ H) H)) (sym is ∙ tells.of H h.stands) h;
}

pub enters_one : {K L : Type 0} (kept : K → Option (List ℕ)) (heard : L → List Entry → Type 0) (old new : Opening K L) (caller : ℕ) (change : Change) (b : Bool) (piece : List ℕ) →
    LedgerTells old.ledger (λ H. b ≡ permitted old.ledger.config H caller change) → b ≡ true →
    piece ≡ entry_bytes (entry caller change) → IsEntry (entry caller change) →
    Hears heard old.listener new.listener old.ledger caller change → Adds (kept old.keeper) (kept new.keeper) piece →
    new.most_caller ≡ max old.most_caller caller → Notes old.ledger new.ledger caller change → Enters kept heard old new caller change
enters_one kept heard old new caller change b piece tells is spelled fits hears adds most notes = record {
  same_config = notes.same_config;
  same_most = λ less. omega (arith, most, less);
  after = λ H h.
      let c = old.ledger.config in
      let allowed : permitted c H caller change ≡ true = sym (tells.of H h.stands) ∙ is in
      let lawful : legal c (entry caller change ∷ H) ≡ true = and_true _ _ h.stands.is_legal allowed in
      let goes : Holds kept heard new (entry caller change ∷ H) = record {
        stands = notes.after H h.stands lawful;
        was_heard = hears.goes H h.stands lawful h.was_heard;
        callers = (omega (arith, most), all_at_most old.most_caller new.most_caller H (omega (arith, most)) h.callers);
        keeps = subst (λ (d : HubConfig). Keeps d (entry caller change ∷ H) (kept new.keeper)) (sym notes.same_config)
            (keeps_more c H (entry caller change) piece (kept old.keeper) (kept new.keeper) h.keeps adds spelled fits);
      } in
      subst (λ (v : Bool). Holds kept heard new (cond v (entry caller change ∷ H) H)) (sym allowed) goes;
}

-- what a failed append tells
pub append_failed : {A E : Type 0} (before after : ℕ) (r : Result A E) → HasCause before after r → is_err r ≡ true → Rose before after
append_failed before after (Err x) why is = why.failed refl
append_failed before after (Ok x) why is = absurd (cc)

-- ---- several

leads_to : {K L : Type 0} (kept : K → Option (List ℕ)) (heard : L → List Entry → Type 0) (did : List Entry → List Entry → Type 0) (old new : Opening K L) (H : List Entry) (e : Entry) (b : Bool) →
    new.most_caller ≡ old.most_caller → Holds kept heard new (cond b (e ∷ H) H) → did H (cond b (e ∷ H) H) → LeadsTo kept heard did old new H
leads_to kept heard did old new H e true most holds done = record { made = e ∷ []; holds = holds; same_most = most; done = done }
leads_to kept heard did old new H e false most holds done = record { made = []; holds = holds; same_most = most; done = done }

-- a moment with which an entry can't be read again
late_at : (at : ℕ) (P : Type 0) → (at ≤ LAST_MOMENT → P) → (P → ⊥) → LAST_MOMENT < at
late_at at P fits not_fits = by_test (nat_le at LAST_MOMENT) refl
  where
    by_test : (b : Bool) → nat_le at LAST_MOMENT ≡ b → LAST_MOMENT < at
    by_test true e = absurd (not_fits (fits (grind (arith, nat_tests))))
    by_test false e = grind (arith, nat_tests)

pub went_by_entry : {K L : Type 0} (kept : K → Option (List ℕ)) (heard : L → List Entry → Type 0) (faults : K → ℕ) (given : List Entry → Type 0) (at : ℕ) (did : List Entry → List Entry → Type 0) (old new : Opening K L) (caller : ℕ) (change : Change) (r : Result (Unit {0}) OpeningFault) →
    Entered kept heard faults old new caller change r → (at ≤ LAST_MOMENT → IsEntry (entry caller change)) →
    ((H : List Entry) → Holds kept heard old H → given H → caller ≤ old.most_caller) →
    ((H : List Entry) → Holds kept heard old H → given H → did H (with_change old.ledger.config H caller change)) →
    WentGiven kept heard faults given at did old new r
went_by_entry kept heard faults given at did old new caller change (Ok x) entered fits few does = (
  record {
    same_config = entered.0.same_config;
    after = λ H h g. leads_to kept heard did old new H (entry caller change) (permitted old.ledger.config H caller change)
        (entered.0.same_most (few H h g)) (entered.0.after H h) (does H h g);
  },
  entered.1,
)
went_by_entry kept heard faults given at did old new caller change (Err fault.Unkept) entered fits few does = entered
went_by_entry kept heard faults given at did old new caller change (Err fault.Late) entered fits few does = late_at at _ fits entered
went_by_entry kept heard faults given at did old new caller change (Err fault.Memory) entered fits few does = tt
went_by_entry kept heard faults given at did old new caller change (Err fault.Numbers) entered fits few does = entered

pub went_none : {K L : Type 0} (kept : K → Option (List ℕ)) (heard : L → List Entry → Type 0) (faults : K → ℕ) (given : List Entry → Type 0) (at : ℕ) (did : List Entry → List Entry → Type 0) (opening : Opening K L) →
    ((H : List Entry) → Holds kept heard opening H → given H → did H H) → WentGiven kept heard faults given at did opening opening (Ok done)
went_none kept heard faults given at did opening does =
    (record { same_config = refl; after = λ H h g. record { made = []; holds = h; same_most = refl; done = does H h g } }, omega arith)

rose_since : (first between last : ℕ) → first ≤ between → Rose between last → Rose first last
rose_since first between last less (inl more) = inl (omega (arith, less, more))
rose_since first between last less (inr most) = inr most

pub went_then : {K L : Type 0} (kept : K → Option (List ℕ)) (heard : L → List Entry → Type 0) (faults : K → ℕ) (given given_then : List Entry → Type 0) (at : ℕ) (did did_then did_both : List Entry → List Entry → Type 0)
    (first between last : Opening K L) (d : Unit {0}) (r : Result (Unit {0}) OpeningFault) →
    WentGiven kept heard faults given at did first between (Ok d) → WentGiven kept heard faults given_then at did_then between last r →
    ((H G : List Entry) → given H → did H G → given_then G) →
    ((H G F : List Entry) → did H G → did_then G F → did_both H F) → WentGiven kept heard faults given at did_both first last r
went_then kept heard faults given given_then at did did_then did_both first between last d (Ok x) p q still both = (
  record {
    same_config = q.0.same_config ∙ p.0.same_config;
    after = λ H h g.
        let one = p.0.after H h g in
        let two = q.0.after (one.made ++ H) one.holds (still H (one.made ++ H) g one.done) in
        let order : (two.made ++ one.made) ++ H ≡ two.made ++ (one.made ++ H) = append_assoc two.made one.made H in
        record {
          made = two.made ++ one.made;
          holds = subst (λ (G : List Entry). Holds kept heard last G) (sym order) two.holds;
          same_most = two.same_most ∙ one.same_most;
          done = subst (λ (G : List Entry). did_both H G) (sym order) (both H (one.made ++ H) _ one.done two.done);
        };
  },
  omega (arith, p.1, q.1),
)
went_then kept heard faults given given_then at did did_then did_both first between last d (Err fault.Unkept) p q still both = rose_since _ _ _ p.1 q
went_then kept heard faults given given_then at did did_then did_both first between last d (Err fault.Late) p q still both = q
went_then kept heard faults given given_then at did did_then did_both first between last d (Err fault.Memory) p q still both = tt
went_then kept heard faults given given_then at did did_then did_both first between last d (Err fault.Numbers) p q still both = q

-- the same where nothing is asked for of the histories
pub went_both : {K L : Type 0} (kept : K → Option (List ℕ)) (heard : L → List Entry → Type 0) (faults : K → ℕ) (at : ℕ) (did did_then did_both : List Entry → List Entry → Type 0)
    (first between last : Opening K L) (d : Unit {0}) (r : Result (Unit {0}) OpeningFault) →
    Went kept heard faults at did first between (Ok d) → Went kept heard faults at did_then between last r →
    ((H G F : List Entry) → did H G → did_then G F → did_both H F) → Went kept heard faults at did_both first last r
went_both kept heard faults at did did_then did_both first between last d r p q both =
    went_then kept heard faults Always Always at did did_then did_both first between last d r p q (λ H G g e. tt) both

-- what broke off breaks off what it is a part of
pub went_err : {K L : Type 0} (kept : K → Option (List ℕ)) (heard : L → List Entry → Type 0) (faults : K → ℕ) (given given_then : List Entry → Type 0) (at : ℕ) (did did_then did_both : List Entry → List Entry → Type 0)
    (first between last : Opening K L) (d : Unit {0}) (e : OpeningFault) →
    WentGiven kept heard faults given at did first between (Ok d) → WentGiven kept heard faults given_then at did_then between last (Err e) →
    WentGiven kept heard faults given at did_both first last (Err e)
went_err kept heard faults given given_then at did did_then did_both first between last d fault.Unkept p q = rose_since _ _ _ p.1 q
went_err kept heard faults given given_then at did did_then did_both first between last d fault.Late p q = q
went_err kept heard faults given given_then at did did_then did_both first between last d fault.Memory p q = tt
went_err kept heard faults given given_then at did did_then did_both first between last d fault.Numbers p q = q

-- what broke off at once
pub went_off : {K L : Type 0} (kept : K → Option (List ℕ)) (heard : L → List Entry → Type 0) (faults : K → ℕ) (given given_whole : List Entry → Type 0) (at : ℕ) (did did_whole : List Entry → List Entry → Type 0)
    (old new : Opening K L) (e : OpeningFault) → WentGiven kept heard faults given at did old new (Err e) → WentGiven kept heard faults given_whole at did_whole old new (Err e)
went_off kept heard faults given given_whole at did did_whole old new fault.Unkept q = q
went_off kept heard faults given given_whole at did did_whole old new fault.Late q = q
went_off kept heard faults given given_whole at did did_whole old new fault.Memory q = tt
went_off kept heard faults given given_whole at did did_whole old new fault.Numbers q = q

-- what was done comes to this
pub went_so : {K L : Type 0} (kept : K → Option (List ℕ)) (heard : L → List Entry → Type 0) (faults : K → ℕ) (given given_so : List Entry → Type 0) (at : ℕ) (did did_so : List Entry → List Entry → Type 0) (old new : Opening K L) (r : Result (Unit {0}) OpeningFault) →
    WentGiven kept heard faults given at did old new r → ((H : List Entry) → Holds kept heard old H → given_so H → given H) →
    ((H G : List Entry) → Holds kept heard old H → Holds kept heard new G → new.ledger.config ≡ old.ledger.config → did H G → did_so H G) → WentGiven kept heard faults given_so at did_so old new r
went_so kept heard faults given given_so at did did_so old new (Ok x) p has so = (
  record {
    same_config = p.0.same_config;
    after = λ H h g. let one = p.0.after H h (has H h g) in record { made = one.made; holds = one.holds; same_most = one.same_most; done = so H (one.made ++ H) h one.holds p.0.same_config one.done };
  },
  p.1,
)
went_so kept heard faults given given_so at did did_so old new (Err fault.Unkept) p has so = p
went_so kept heard faults given given_so at did did_so old new (Err fault.Late) p has so = p
went_so kept heard faults given given_so at did did_so old new (Err fault.Memory) p has so = tt
went_so kept heard faults given given_so at did did_so old new (Err fault.Numbers) p has so = p

-- what was done comes to this where this holds of the history before
pub went_with : {K L : Type 0} (kept : K → Option (List ℕ)) (heard : L → List Entry → Type 0) (faults : K → ℕ) (given given_so : List Entry → Type 0) (at : ℕ) (did did_so : List Entry → List Entry → Type 0) (old new : Opening K L) (r : Result (Unit {0}) OpeningFault) →
    WentGiven kept heard faults given at did old new r → ((H : List Entry) → Holds kept heard old H → given_so H → given H) →
    ((H G : List Entry) → given H → did H G → did_so H G) → WentGiven kept heard faults given_so at did_so old new r
went_with kept heard faults given given_so at did did_so old new (Ok x) p has so = (
  record {
    same_config = p.0.same_config;
    after = λ H h g. let one = p.0.after H h (has H h g) in record { made = one.made; holds = one.holds; same_most = one.same_most; done = so H (one.made ++ H) (has H h g) one.done };
  },
  p.1,
)
went_with kept heard faults given given_so at did did_so old new (Err fault.Unkept) p has so = p
went_with kept heard faults given given_so at did did_so old new (Err fault.Late) p has so = p
went_with kept heard faults given given_so at did did_so old new (Err fault.Memory) p has so = tt
went_with kept heard faults given given_so at did did_so old new (Err fault.Numbers) p has so = p

-- ---- the end

all_below : (most first : ℕ) (H : List Entry) → first ≡ most + 1 → AllFit (AtMost most) H → AllFit (λ e. e.caller < first) H
all_below most first [] is all = all
all_below most first (e ∷ H) is (here, there) = (omega (arith, here, is), all_below most first H is there)

hands_over : {K L : Type 0} (kept : K → Option (List ℕ)) (heard : L → List Entry → Type 0) (opening : Opening K L) (settled : Settled K L) (H : List Entry) →
    Hands opening settled → NoSlot H → NoRequest H → Holds kept heard opening H → HandsOver kept heard opening settled H
hands_over kept heard opening settled H hands no_slot no_request h = record {
  same_config = ap (λ (l : GridLedger). l.config) hands.same_ledger;
  stands = subst (λ (l : GridLedger). Stands l H) (sym hands.same_ledger) h.stands;
  was_heard = subst (λ l. heard l H) (sym hands.same_listener) h.was_heard;
  keeps = subst (λ (l : GridLedger). Keeps l.config H (kept settled.keeper)) (sym hands.same_ledger) (subst (λ k. Keeps opening.ledger.config H (kept k)) (sym hands.same_keeper) h.keeps);
  callers = all_below opening.most_caller settled.first_caller H hands.next h.callers;
  no_slot = no_slot;
  no_request = no_request;
}

pub settles_to : {K L : Type 0} (kept : K → Option (List ℕ)) (heard : L → List Entry → Type 0) (faults : K → ℕ) (at : ℕ) (old new : Opening K L) (settled : Settled K L) (d : Unit {0}) →
    LedgerTells old.ledger (λ H. clock H ≤ at) → Went kept heard faults at (Closes at) old new (Ok d) → Hands new settled →
    (H : List Entry) → Holds kept heard old H → SettlesTo kept heard old settled H
settles_to kept heard faults at old new settled d early went hands H h =
    let one = went.0.after H h tt in
    let none = one.done (early.of H h.stands) in
    let over = hands_over kept heard new settled (one.made ++ H) hands none.0 none.1 one.holds in
    record {
      made = one.made;
      hands_over = record {
        same_config = over.same_config ∙ went.0.same_config;
        stands = over.stands;
        was_heard = over.was_heard;
        keeps = over.keeps;
        callers = over.callers;
        no_slot = over.no_slot;
        no_request = over.no_request;
      };
      next = hands.next ∙ ap (λ (n : ℕ). n + 1) one.same_most;
    }

-- why it broke off
pub reason_of : {K L : Type 0} (kept : K → Option (List ℕ)) (heard : L → List Entry → Type 0) (faults : K → ℕ) (at raised : ℕ) (old new : Opening K L) (e : OpeningFault) →
    LedgerTells old.ledger (λ H. raised ≡ max at (clock H)) → Went kept heard faults raised (Closes raised) old new (Err e) → Reason kept heard faults old at new.keeper e
reason_of kept heard faults at raised old new fault.Unkept tells went = went
reason_of kept heard faults at raised old new fault.Late tells went = λ H h. omega (arith, went, tells.of H h.stands)
reason_of kept heard faults at raised old new fault.Memory tells went = tt
reason_of kept heard faults at raised old new fault.Numbers tells went = absurd went

-- no caller is new, so that one had the greatest number already
pub reason_numbers : {K L : Type 0} (kept : K → Option (List ℕ)) (heard : L → List Entry → Type 0) (faults : K → ℕ) (at raised : ℕ) (old new : Opening K L) (keeper : K) (d : Unit {0}) (e : OpeningFault) →
    Went kept heard faults raised (Closes raised) old new (Ok d) → e ≡ fault.Numbers → new.most_caller ≡ 2 ^ 64 - 1 → Reason kept heard faults old at keeper e
reason_numbers kept heard faults at raised old new keeper d fault.Numbers went is most = λ H h. omega (arith, (went.0.after H h tt).same_most, most)
reason_numbers kept heard faults at raised old new keeper d fault.Unkept went is most = absurd (cc)
reason_numbers kept heard faults at raised old new keeper d fault.Late went is most = absurd (cc)
reason_numbers kept heard faults at raised old new keeper d fault.Memory went is most = absurd (cc)

-- by what the end gave
pub not_later : (ledger : GridLedger) (at raised : ℕ) → LedgerTells ledger (λ H. raised ≡ max at (clock H)) → LedgerTells ledger (λ H. clock H ≤ raised)
not_later ledger at raised tells = record { of = λ H s. omega (arith, tells.of H s) }

pub settled_so : {K L : Type 0} (kept : K → Option (List ℕ)) (heard : L → List Entry → Type 0) (faults : K → ℕ) (at : ℕ) (old new : Opening K L) (r : Result (Settled K L) (Unsettled K)) (d : Unit {0}) →
    LedgerTells old.ledger (λ H. clock H ≤ at) → Went kept heard faults at (Closes at) old new (Ok d) → IfOk r (Hands new) →
    IfOk r (λ settled. (H : List Entry) → Holds kept heard old H → SettlesTo kept heard old settled H)
settled_so kept heard faults at old new (Ok settled) d early went hands = settles_to kept heard faults at old new settled d early went hands
settled_so kept heard faults at old new (Err e) d early went hands = tt

pub reasons : {K L : Type 0} (kept : K → Option (List ℕ)) (heard : L → List Entry → Type 0) (faults : K → ℕ) (at raised : ℕ) (old new : Opening K L) (r : Result (Settled K L) (Unsettled K)) (d : Unit {0}) →
    Went kept heard faults raised (Closes raised) old new (Ok d) → IfErr r (λ e. (e.fault ≡ fault.Numbers) × (new.most_caller ≡ 2 ^ 64 - 1)) →
    IfErr r (λ e. Reason kept heard faults old at e.keeper e.fault)
reasons kept heard faults at raised old new (Ok settled) d went why = tt
reasons kept heard faults at raised old new (Err e) d went why = reason_numbers kept heard faults at raised old new e.keeper d e.fault went why.0 why.1
