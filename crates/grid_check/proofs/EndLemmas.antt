-- What a status tells, and that words say one thing.
use Rattle.std.proofs.Common.{◌≡◌, ◌⊎◌, inl, inr, ℕ, ◌^◌, ◌<◌, ◌≤◌, List, [], ◌∷◌, length, get_or, sym, ap, subst, refl, ◌∙◌, arith}
use Rattle.std.specs.Prelude.{codes, decimal}
use Rattle.std.proofs.lemmas.Fmt.{decimal_injective}
use Rattle.grid_types.specs.declared.config.HubConfig.{HubConfig}
use Rattle.grid_types.specs.declared.entry.Entry.{Entry}
use Rattle.grid_types.specs.History.{history_of}
use Rattle.grid_outside.specs.Counts.{Rose}
use Rattle.grid_outside.specs.Told.{SinkView, SourceView}
use Rattle.journal_verdicts.specs.declared.verdict.Verdict.{Verdict}
use Rattle.journal_verdicts.specs.declared.verdict.Verdict.TheVariants as verdict
use Rattle.grid_check.specs.Running.{CheckEnds, TellEnds, verdict_status}
use Rattle.hub_core.specs.HubView.{HubView, past}
use Rattle.grid_simulate.specs.declared.summary.Summary.{Summary}
use Rattle.grid_simulate.specs.World.{simulated_config}
use Rattle.grid_simulate.specs.Simulates.{IsSimulated}
use Rattle.grid_check.specs.Writes.{WriteEnds}
use Rattle.grid_check.specs.Making.{MakeEnds}
use Rattle.grid_check.specs.Words.{IsCheck, IsMake, Fit}

-- ---- the statuses of a check

verdict_status_is : (v : Verdict) → (verdict_status v < 5) ⊎ (verdict_status v ≡ 9)
verdict_status_is (verdict.Legal entries) = inl (omega arith)
verdict_status_is (verdict.Illegal entry) = inl (omega arith)
verdict_status_is (verdict.Bad at) = inl (omega arith)
verdict_status_is (verdict.Cut at) = inl (omega arith)
verdict_status_is verdict.NotJournal = inl (omega arith)
verdict_status_is verdict.Limit = inr refl

verdict_is_not : (v : Verdict) (n : ℕ) → 4 < n → n < 9 → n ≡ verdict_status v → ⊥
verdict_is_not v n least most e = by_class (verdict_status_is v)
  where
    by_class : (verdict_status v < 5) ⊎ (verdict_status v ≡ 9) → ⊥
    by_class (inl h) = omega (arith, h, e, least)
    by_class (inr h) = omega (arith, h, e, most)

tell_not_eight : (old new : SinkView) (v : Verdict) (s : ℕ) → TellEnds old new v s → s ≡ 8 → ⊥
tell_not_eight old new v s (TellEnds.was_told e g) is = verdict_is_not v 8 (omega arith) (omega arith) (sym is ∙ e)
tell_not_eight old new v s (TellEnds.broke_off e r t) is = omega (arith, e, is)
tell_not_eight old new v s (TellEnds.no_line e t) is = omega (arith, e, is)

tell_not_five : (old new : SinkView) (v : Verdict) (s : ℕ) → TellEnds old new v s → s ≡ 5 → ⊥
tell_not_five old new v s (TellEnds.was_told e g) is = verdict_is_not v 5 (omega arith) (omega arith) (sym is ∙ e)
tell_not_five old new v s (TellEnds.broke_off e r t) is = omega (arith, e, is)
tell_not_five old new v s (TellEnds.no_line e t) is = omega (arith, e, is)

tell_six : (old new : SinkView) (v : Verdict) (s : ℕ) → TellEnds old new v s → s ≡ 6 → Rose old.faults new.faults
tell_six old new v s (TellEnds.was_told e g) is = absurd (verdict_is_not v 6 (omega arith) (omega arith) (sym is ∙ e))
tell_six old new v s (TellEnds.broke_off e r t) is = r
tell_six old new v s (TellEnds.no_line e t) is = absurd (omega (arith, e, is))

pub check_not_eight : (old new : SourceView) (before after : SinkView) (s : ℕ) → CheckEnds old new before after s → s ≡ 8 → ⊥
check_not_eight old new before after s (CheckEnds.verdict_found v says end told) is = tell_not_eight before after v s told is
check_not_eight old new before after s (CheckEnds.read_failed e r t) is = omega (arith, e, is)
check_not_eight old new before after s (CheckEnds.no_verdict e t) is = omega (arith, e, is)

pub check_five : (old new : SourceView) (before after : SinkView) (s : ℕ) → CheckEnds old new before after s → s ≡ 5 → Rose old.faults new.faults
check_five old new before after s (CheckEnds.verdict_found v says end told) is = absurd (tell_not_five before after v s told is)
check_five old new before after s (CheckEnds.read_failed e r t) is = r
check_five old new before after s (CheckEnds.no_verdict e t) is = absurd (omega (arith, e, is))

pub check_six : (old new : SourceView) (before after : SinkView) (s : ℕ) → CheckEnds old new before after s → s ≡ 6 → Rose before.faults after.faults
check_six old new before after s (CheckEnds.verdict_found v says end told) is = tell_six before after v s told is
check_six old new before after s (CheckEnds.read_failed e r t) is = absurd (omega (arith, e, is))
check_six old new before after s (CheckEnds.no_verdict e t) is = absurd (omega (arith, e, is))

-- ---- those of a journal that is made

write_not_eight : (c : HubConfig) (H : List Entry) (old new : SinkView) (s : ℕ) → WriteEnds c H old new s → s ≡ 8 → ⊥
write_not_eight c H old new s (WriteEnds.all_written e short g) is = omega (arith, e, is)
write_not_eight c H old new s (WriteEnds.broke_off e r t) is = omega (arith, e, is)
write_not_eight c H old new s (WriteEnds.none_written e t) is = omega (arith, e, is)
write_not_eight c H old new s (WriteEnds.first_written P e b g) is = omega (arith, e, is)
write_not_eight c H old new s (WriteEnds.too_long x P e b long short g) is = omega (arith, e, is)

write_not_five : (c : HubConfig) (H : List Entry) (old new : SinkView) (s : ℕ) → WriteEnds c H old new s → s ≡ 5 → ⊥
write_not_five c H old new s (WriteEnds.all_written e short g) is = omega (arith, e, is)
write_not_five c H old new s (WriteEnds.broke_off e r t) is = omega (arith, e, is)
write_not_five c H old new s (WriteEnds.none_written e t) is = omega (arith, e, is)
write_not_five c H old new s (WriteEnds.first_written P e b g) is = omega (arith, e, is)
write_not_five c H old new s (WriteEnds.too_long x P e b long short g) is = omega (arith, e, is)

write_six : (c : HubConfig) (H : List Entry) (old new : SinkView) (s : ℕ) → WriteEnds c H old new s → s ≡ 6 → Rose old.faults new.faults
write_six c H old new s (WriteEnds.all_written e short g) is = absurd (omega (arith, e, is))
write_six c H old new s (WriteEnds.broke_off e r t) is = r
write_six c H old new s (WriteEnds.none_written e t) is = absurd (omega (arith, e, is))
write_six c H old new s (WriteEnds.first_written P e b g) is = absurd (omega (arith, e, is))
write_six c H old new s (WriteEnds.too_long x P e b long short g) is = absurd (omega (arith, e, is))

pub make_not_eight : (n : ℕ) (old new : SinkView) (s : ℕ) → MakeEnds n old new s → s ≡ 8 → ⊥
make_not_eight n old new s (MakeEnds.simulated hub at summary i w) is = write_not_eight hub.config (past hub) old new s w is
make_not_eight n old new s (MakeEnds.no_simulation e t) is = omega (arith, e, is)

pub make_not_five : (n : ℕ) (old new : SinkView) (s : ℕ) → MakeEnds n old new s → s ≡ 5 → ⊥
make_not_five n old new s (MakeEnds.simulated hub at summary i w) is = write_not_five hub.config (past hub) old new s w is
make_not_five n old new s (MakeEnds.no_simulation e t) is = omega (arith, e, is)

pub make_six : (n : ℕ) (old new : SinkView) (s : ℕ) → MakeEnds n old new s → s ≡ 6 → Rose old.faults new.faults
make_six n old new s (MakeEnds.simulated hub at summary i w) is = write_six hub.config (past hub) old new s w is
make_six n old new s (MakeEnds.no_simulation e t) is = absurd (omega (arith, e, is))

-- the journal that was written is that of the simulation's hub
pub makes : (number : ℕ) (hub : HubView) (at : ℕ) (summary : Summary) (c : HubConfig) (entries : List Entry) (old new : SinkView) (s : ℕ) →
    IsSimulated number hub at summary → c ≡ simulated_config → entries ≡ hub.journal → WriteEnds c (history_of entries) old new s → MakeEnds number old new s
makes number hub at summary c entries old new s i same_config same_journal w =
    MakeEnds.simulated hub at summary i
    (subst (λ (d : HubConfig). WriteEnds d (past hub) old new s) (same_config ∙ sym i.config)
    (subst (λ (j : List Entry). WriteEnds c (history_of j) old new s) same_journal w))

-- ---- the words

pub one_word : (words : List (List ℕ)) (w : List ℕ) → 1 ≤ length words → length words < 2 → w ≡ get_or words 0 w → words ≡ w ∷ []
one_word [] w least most p = absurd (omega (arith, least))
one_word (x ∷ []) w least most p = ap (λ (y : List ℕ). y ∷ []) (sym p)
one_word (x ∷ y ∷ words) w least most p = absurd (omega (arith, most))

pub not_both : (words : List (List ℕ)) (n : ℕ) → IsCheck words → IsMake words n → ⊥
not_both words n p q = differ (ap (λ (ws : List (List ℕ)). head ws) (sym p ∙ q))
  where
    head : List (List ℕ) → List ℕ
    head [] = []
    head (w ∷ ws) = w

    differ : codes "check" ≡ codes "make" → ⊥
    differ e = cc

pub one_number : (words : List (List ℕ)) (n m : ℕ) → n < 2 ^ 64 → m < 2 ^ 64 → IsMake words n → IsMake words m → n ≡ m
one_number words n m small less p q = decimal_injective n m small less (second (sym p ∙ q))
  where
    second : codes "make" ∷ decimal n ∷ [] ≡ codes "make" ∷ decimal m ∷ [] → decimal n ≡ decimal m
    second e = cc

pub neither : (words : List (List ℕ)) → (IsCheck words → ⊥) → ((n : ℕ) → n < 2 ^ 64 → IsMake words n → ⊥) → Fit words → ⊥
neither words no_check no_make (inl p) = no_check p
neither words no_check no_make (inr s) = no_make s.0 s.1 s.2
