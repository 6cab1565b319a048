-- What a status tells.
use Rattle.std.proofs.Common.{◌≡◌, ◌⊎◌, ◌<◌, ◌≤◌, ℕ, refl, sym, subst, inl, inr, arith}
use Rattle.std.specs.Prelude.{Option, None, Some, IfSome, Result}
use Rattle.grid_types.specs.declared.config.HubConfig.{HubConfig}
use Rattle.grid_outside.specs.Counts.{Rose}
use Rattle.grid_outside.specs.Told.{LinkView}
use Rattle.conn_script.specs.declared.wants.ConnFault.{ConnFault}
use Rattle.conn_script.specs.declared.wants.Served.{Served}
use Rattle.hub_conn.specs.Talk.{result_cause}
use Rattle.hub_links.specs.Links.{RoseFor}
use Rattle.grid_play.specs.Ran.{status_of as conn_status}
use Rattle.grid_play.specs.ServedTalks.{StatusesTell, TellsStatus}
use Rattle.row_keeper.specs.Disks.{Disk}
use Rattle.grid_keeper.specs.Opening.{BadAny, IsBadAt}
use Rattle.grid_keeper.specs.declared.kept_hub.KeptFault.{KeptFault}
use Rattle.grid_keeper.specs.declared.kept_hub.KeptFault.TheVariants as faults
use Rattle.grid_keeper.specs.declared.opening.OpenFault.{OpenFault}
use Rattle.grid_keeper.specs.declared.opening.OpenFault.TheVariants as opens
use Rattle.kept_play.specs.Kept.{IsBad, IsStop, TellsKept, fault_status, open_status}

rose_since : (a b c : ℕ) → a ≤ b → Rose b c → Rose a c
rose_since a b c le (inl more) = inl (omega (arith, le, more))
rose_since a b c le (inr most) = inr most

-- ---- faults

pub stop_of : (fault : KeptFault) (s : ℕ) → s ≡ fault_status fault → IsStop s
stop_of faults.Keeper s e = inr e
stop_of faults.Memory s e = inl e

pub not_both : (s : ℕ) → s ≡ 5 → s ≡ 8 → ⊥
not_both s five eight = omega (arith, five, eight)

pub blames_keeper : (R : Type 0) (fault : KeptFault) (s : ℕ) → s ≡ fault_status fault → (fault ≡ faults.Keeper → R) → s ≡ 8 → R
blames_keeper R faults.Keeper s e cause is = cause refl
blames_keeper R faults.Memory s e cause is = absurd (not_both s e is)

bad_some : (c : HubConfig) (disk : Option Disk) (i : ℕ) → IfSome disk (λ d. IsBadAt c d.rows i) → IsBad c disk
bad_some c None i bad = tt
bad_some c (Some d) i bad = (i, bad)

pub why_of : (c : HubConfig) (disk : Option Disk) (fault : OpenFault) (s : ℕ) → s ≡ open_status fault → BadAny c disk fault → IsStop s ⊎ ((s ≡ 9) × IsBad c disk)
why_of c disk opens.Read s e bad = inl (inr e)
why_of c disk (opens.BadRow i) s e bad = inr (e, bad_some c disk i bad)
why_of c disk opens.Memory s e bad = inl (inl e)

-- ---- what is told

not_eight : (n : ℕ) → (n ≡ 0) ⊎ ((2 < n) × (n < 7)) → n ≡ 8 → ⊥
not_eight n (inl z) e = omega (arith, z, e)
not_eight n (inr h) e = omega (arith, h.1, e)

few_of : (n : ℕ) → (n ≡ 0) ⊎ ((2 < n) × (n < 7)) → (n ≡ 0) ⊎ (((2 < n) × (n < 7)) ⊎ ((7 < n) × (n < 10)))
few_of n (inl z) = inl z
few_of n (inr h) = inr (inl h)

pub tells_conn : (f g : ℕ) (e : Result Served ConnFault) (status : ℕ) (before after : LinkView) → StatusesTell → status ≡ conn_status e → RoseFor (result_cause e) before after → TellsKept status f g before after
tells_conn f g e status before after law is blames = subst (λ (s : ℕ). TellsKept s f g before after) (sym is) (by_status (law e before after blames))
  where
    by_status : TellsStatus (conn_status e) before after → TellsKept (conn_status e) f g before after
    by_status t = record {
      read = t.read;
      write = t.write;
      keeper = λ eight. absurd (not_eight (conn_status e) t.few eight);
      few = few_of (conn_status e) t.few;
    }

pub tells_stop : (f g status : ℕ) (before after : LinkView) → IsStop status → (status ≡ 8 → Rose f g) → TellsKept status f g before after
tells_stop f g status before after (inl e) cause = record {
  read = λ x. absurd (omega (arith, e, x));
  write = λ x. absurd (omega (arith, e, x));
  keeper = cause;
  few = inr (inl (omega (arith, e), omega (arith, e)));
}
tells_stop f g status before after (inr e) cause = record {
  read = λ x. absurd (omega (arith, e, x));
  write = λ x. absurd (omega (arith, e, x));
  keeper = cause;
  few = inr (inr (omega (arith, e), omega (arith, e)));
}

pub tells_since : (a f g status : ℕ) (before after : LinkView) → a ≤ f → TellsKept status f g before after → TellsKept status a g before after
tells_since a f g status before after le t = record { read = t.read; write = t.write; keeper = λ e. rose_since a f g le (t.keeper e); few = t.few }

pub tells_back : {K : Type 0} (count : K → ℕ) (old first last back : K) (status : ℕ) (before after : LinkView) → back ≡ last → count old ≤ count first →
    TellsKept status (count first) (count last) before after → TellsKept status (count old) (count back) before after
tells_back count old first last back status before after is le t =
    subst (λ k. TellsKept status (count old) (count k) before after) (sym is) (tells_since (count old) (count first) (count last) status before after le t)

pub stop_since : (a f g status : ℕ) (before after : LinkView) → a ≤ f → IsStop status → (status ≡ 8 → Rose f g) → TellsKept status a g before after
stop_since a f g status before after le stop cause = tells_since a f g status before after le (tells_stop f g status before after stop cause)

tells_nine : (f g status : ℕ) (before after : LinkView) → status ≡ 9 → TellsKept status f g before after
tells_nine f g status before after is = record {
  read = λ x. absurd (omega (arith, is, x));
  write = λ x. absurd (omega (arith, is, x));
  keeper = λ x. absurd (omega (arith, is, x));
  few = inr (inr (omega (arith, is), omega (arith, is)));
}

pub tells_open : (f g : ℕ) (fault : OpenFault) (status : ℕ) (before after : LinkView) → status ≡ open_status fault → (fault ≡ opens.Read → Rose f g) → TellsKept status f g before after
tells_open f g opens.Read status before after is cause = tells_stop f g status before after (inr is) (λ e. cause refl)
tells_open f g (opens.BadRow i) status before after is cause = tells_nine f g status before after is
tells_open f g opens.Memory status before after is cause = tells_stop f g status before after (inl is) (λ e. absurd (not_both status is e))

pub not_two : (f g status : ℕ) (before after : LinkView) → TellsKept status f g before after → status ≡ 2 → ⊥
not_two f g status before after t e = by_class t.few
  where
    by_class : (status ≡ 0) ⊎ (((2 < status) × (status < 7)) ⊎ ((7 < status) × (status < 10))) → ⊥
    by_class (inl z) = omega (arith, z, e)
    by_class (inr (inl h)) = omega (arith, h.0, e)
    by_class (inr (inr h)) = omega (arith, h.0, e)

pub any_status : (f g status : ℕ) (before after : LinkView) → TellsKept status f g before after → (status ≡ 0) ⊎ (((2 ≤ status) × (status < 7)) ⊎ ((7 < status) × (status < 10)))
any_status f g status before after t = by_class t.few
  where
    by_class : (status ≡ 0) ⊎ (((2 < status) × (status < 7)) ⊎ ((7 < status) × (status < 10))) → (status ≡ 0) ⊎ (((2 ≤ status) × (status < 7)) ⊎ ((7 < status) × (status < 10)))
    by_class (inl z) = inl z
    by_class (inr (inl h)) = inr (inl (omega (arith, h.0), h.1))
    by_class (inr (inr h)) = inr (inr h)
