-- How a run of the links goes on from what came before it.
use Rattle.std.proofs.Common.{◌≡◌, ℕ, ◌⊎◌, ◌∙◌, ap, arith, inl, inr}
use Rattle.grid_outside.specs.Told.{DoorView, NoneFell}
use Rattle.grid_outside.specs.StreamLaws.{rose_later}
use Rattle.hub_server.specs.declared.begins.Unbegun.{Unbegun}
use Rattle.hub_server.specs.Statuses.{HasRun, HasRunOr, MayEnd, MayNotBeNew, status_of}

pub run_later : (old mid new : DoorView) (status : ℕ) → NoneFell old mid → HasRun mid new status → HasRun old new status
run_later old mid new status n r = record {
  closed = λ (e : status ≡ 0). rose_later old.ends mid.ends new.ends n.ends (r.closed e);
  failed = λ (e : status ≡ 3). rose_later old.faults mid.faults new.faults n.faults (r.failed e);
  later = record {
    ends = let f = n.ends in let g = r.later.ends in omega (arith, f, g);
    faults = let f = n.faults in let g = r.later.faults in omega (arith, f, g);
    bound = r.later.bound ∙ n.bound;
    host = r.later.host ∙ n.host;
  };
  statuses = r.statuses;
}

may_end : (may : Unbegun → Type 0) (status : ℕ) → (status ≡ 0) ⊎ ((status ≡ 3) ⊎ (status ≡ 5)) → MayEnd may status
may_end may status (inl e) = inl e
may_end may status (inr (inl e)) = inr (inl e)
may_end may status (inr (inr e)) = inr (inr (inl e))

pub run_or : (may : Unbegun → Type 0) (old new : DoorView) (status : ℕ) → HasRun old new status → HasRunOr may old new status
run_or may old new status r = record { closed = r.closed; failed = r.failed; later = r.later; statuses = may_end may status r.statuses }

pub run_or_later : (may : Unbegun → Type 0) (old mid new : DoorView) (status : ℕ) → NoneFell old mid → HasRunOr may mid new status → HasRunOr may old new status
run_or_later may old mid new status n r = record {
  closed = λ (e : status ≡ 0). rose_later old.ends mid.ends new.ends n.ends (r.closed e);
  failed = λ (e : status ≡ 3). rose_later old.faults mid.faults new.faults n.faults (r.failed e);
  later = record {
    ends = let f = n.ends in let g = r.later.ends in omega (arith, f, g);
    faults = let f = n.faults in let g = r.later.faults in omega (arith, f, g);
    bound = r.later.bound ∙ n.bound;
    host = r.later.host ∙ n.host;
  };
  statuses = r.statuses;
}

-- the hub has not begun
pub not_begun : (may : Unbegun → Type 0) (old new : DoorView) (why : Unbegun) (status : ℕ) → NoneFell old new → may why → status ≡ status_of why → (status ≡ 0 → ⊥) → (status ≡ 3 → ⊥) → HasRunOr may old new status
not_begun may old new why status n m e zero three = record {
  closed = λ (z : status ≡ 0). absurd (zero z);
  failed = λ (z : status ≡ 3). absurd (three z);
  later = n;
  statuses = inr (inr (inr (why, m, e)));
}

-- where it begins anew, want of memory and a journal that is asked for are the reasons
pub begun_anew : (status : ℕ) → (status ≡ 2) ⊎ MayEnd MayNotBeNew status
    → (status ≡ 0) ⊎ ((status ≡ 2) ⊎ ((status ≡ 3) ⊎ ((status ≡ 5) ⊎ (status ≡ 6))))
begun_anew status (inl e) = inr (inl e)
begun_anew status (inr (inl e)) = inl e
begun_anew status (inr (inr (inl e))) = inr (inr (inl e))
begun_anew status (inr (inr (inr (inl e)))) = inr (inr (inr (inl e)))
begun_anew status (inr (inr (inr (inr (why, inl e, is))))) = inr (inr (inr (inl (is ∙ ap status_of e))))
begun_anew status (inr (inr (inr (inr (why, inr e, is))))) = inr (inr (inr (inr (is ∙ ap status_of e))))
