-- The forms of rows.
use Rattle.std.proofs.Common.{◌≡◌, ℕ, true, List, ◌∷◌, refl, ap, arith}
use Rattle.grid_types.specs.declared.names.SlotId.{SlotId}
use Rattle.grid_types.specs.declared.capabilities.Cap.{Cap}
use Rattle.grid_types.specs.declared.capabilities.Registration.{Registration}
use Rattle.grid_types.specs.declared.entry.FailWhy.{FailWhy}
use Rattle.grid_journal.specs.declared.rows.Row.{Row}
use Rattle.grid_journal.specs.declared.rows.Row.TheVariants as row
use Rattle.grid_journal.specs.Forms.{agree, Form, both}
use Rattle.grid_journal.specs.FormLemmas.{Only, AtLeast, Shortest, both_only, both_at_least}
use Rattle.grid_journal.specs.NumberForms.{four_form, four_only, four_at_least, eight_form, eight_only, eight_at_least}
use Rattle.grid_journal.specs.NameForms.{session_form, session_only, session_at_least}
use Rattle.grid_journal.specs.CapForms.{Tagged, to_moment, slot_form, slot_only, slot_at_least, slot_shortest, caps_form, caps_only, caps_at_least, choices_form, choices_only, choices_at_least, registration_form, registration_only, registration_at_least}
use Rattle.grid_journal.specs.ChangeForms.{why_form, why_only, why_at_least}
use Rattle.grid_journal.specs.RowSpelled.{row_bytes, RowFits}

abbrev pub row_form : Form Row
row_form = record { fits = RowFits; spelled = row_bytes }

-- the fields of each kind, the row that they make, and that no other row has the kind's number
abbrev pub register_fields : Form (Registration × ℕ)
register_fields = both registration_form eight_form

abbrev pub to_register : Registration × ℕ → Row
to_register p = row.Register p.0 (to_moment p.1)

only_register : (c : Row) (rest : List ℕ) → RowFits c → agree (row_bytes c) (1 ∷ rest) ≡ true → (p : Registration × ℕ) × register_fields.fits p × (to_register p ≡ c)
only_register (row.Register node at) rest f h = ((node, at.0), f, refl)
only_register c rest f h = absurd (cc h)

pub register_tagged : Tagged register_fields row_form 1 to_register
register_tagged = record { to_fits = λ p f. f; to_spelled = λ p f. refl; only_so = only_register }

abbrev pub beat_fields : Form (ℕ × ℕ)
beat_fields = both four_form eight_form

abbrev pub to_beat : ℕ × ℕ → Row
to_beat p = row.Beat p.0 (to_moment p.1)

only_beat : (c : Row) (rest : List ℕ) → RowFits c → agree (row_bytes c) (2 ∷ rest) ≡ true → (p : ℕ × ℕ) × beat_fields.fits p × (to_beat p ≡ c)
only_beat (row.Beat n at) rest f h = ((n, at.0), f, refl)
only_beat c rest f h = absurd (cc h)

pub beat_tagged : Tagged beat_fields row_form 2 to_beat
beat_tagged = record { to_fits = λ p f. f; to_spelled = λ p f. refl; only_so = only_beat }

abbrev pub drain_fields : Form (ℕ × ℕ)
drain_fields = both four_form eight_form

abbrev pub to_drain : ℕ × ℕ → Row
to_drain p = row.Drain p.0 (to_moment p.1)

only_drain : (c : Row) (rest : List ℕ) → RowFits c → agree (row_bytes c) (3 ∷ rest) ≡ true → (p : ℕ × ℕ) × drain_fields.fits p × (to_drain p ≡ c)
only_drain (row.Drain n at) rest f h = ((n, at.0), f, refl)
only_drain c rest f h = absurd (cc h)

pub drain_tagged : Tagged drain_fields row_form 3 to_drain
drain_tagged = record { to_fits = λ p f. f; to_spelled = λ p f. refl; only_so = only_drain }

abbrev pub remove_fields : Form (ℕ × ℕ)
remove_fields = both four_form eight_form

abbrev pub to_remove : ℕ × ℕ → Row
to_remove p = row.Remove p.0 (to_moment p.1)

only_remove : (c : Row) (rest : List ℕ) → RowFits c → agree (row_bytes c) (4 ∷ rest) ≡ true → (p : ℕ × ℕ) × remove_fields.fits p × (to_remove p ≡ c)
only_remove (row.Remove n at) rest f h = ((n, at.0), f, refl)
only_remove c rest f h = absurd (cc h)

pub remove_tagged : Tagged remove_fields row_form 4 to_remove
remove_tagged = record { to_fits = λ p f. f; to_spelled = λ p f. refl; only_so = only_remove }

abbrev pub enqueue_fields : Form (List (List Cap) × ℕ)
enqueue_fields = both choices_form eight_form

abbrev pub to_enqueue : List (List Cap) × ℕ → Row
to_enqueue p = row.Enqueue p.0 (to_moment p.1)

only_enqueue : (c : Row) (rest : List ℕ) → RowFits c → agree (row_bytes c) (5 ∷ rest) ≡ true → (p : List (List Cap) × ℕ) × enqueue_fields.fits p × (to_enqueue p ≡ c)
only_enqueue (row.Enqueue choices at) rest f h = ((choices, at.0), f, refl)
only_enqueue c rest f h = absurd (cc h)

pub enqueue_tagged : Tagged enqueue_fields row_form 5 to_enqueue
enqueue_tagged = record { to_fits = λ p f. f; to_spelled = λ p f. refl; only_so = only_enqueue }

abbrev pub poll_fields : Form (ℕ × ℕ)
poll_fields = both eight_form eight_form

abbrev pub to_poll : ℕ × ℕ → Row
to_poll p = row.Poll p.0 (to_moment p.1)

only_poll : (c : Row) (rest : List ℕ) → RowFits c → agree (row_bytes c) (6 ∷ rest) ≡ true → (p : ℕ × ℕ) × poll_fields.fits p × (to_poll p ≡ c)
only_poll (row.Poll r at) rest f h = ((r, at.0), f, refl)
only_poll c rest f h = absurd (cc h)

pub poll_tagged : Tagged poll_fields row_form 6 to_poll
poll_tagged = record { to_fits = λ p f. f; to_spelled = λ p f. refl; only_so = only_poll }

abbrev pub dispatch_fields : Form (ℕ)
dispatch_fields = eight_form

abbrev pub to_dispatch : ℕ → Row
to_dispatch p = row.Dispatch (to_moment p)

only_dispatch : (c : Row) (rest : List ℕ) → RowFits c → agree (row_bytes c) (7 ∷ rest) ≡ true → (p : ℕ) × dispatch_fields.fits p × (to_dispatch p ≡ c)
only_dispatch (row.Dispatch at) rest f h = (at.0, f, refl)
only_dispatch c rest f h = absurd (cc h)

pub dispatch_tagged : Tagged dispatch_fields row_form 7 to_dispatch
dispatch_tagged = record { to_fits = λ p f. f; to_spelled = λ p f. refl; only_so = only_dispatch }

abbrev pub bind_fields : Form (ℕ × (List ℕ × (List Cap × ℕ)))
bind_fields = both eight_form (both session_form (both caps_form eight_form))

abbrev pub to_bind : ℕ × (List ℕ × (List Cap × ℕ)) → Row
to_bind p = row.Bind p.0 p.1.0 p.1.1.0 (to_moment p.1.1.1)

only_bind : (c : Row) (rest : List ℕ) → RowFits c → agree (row_bytes c) (8 ∷ rest) ≡ true → (p : ℕ × (List ℕ × (List Cap × ℕ))) × bind_fields.fits p × (to_bind p ≡ c)
only_bind (row.Bind r x caps at) rest f h = ((r, (x, (caps, at.0))), f, refl)
only_bind c rest f h = absurd (cc h)

pub bind_tagged : Tagged bind_fields row_form 8 to_bind
bind_tagged = record { to_fits = λ p f. f; to_spelled = λ p f. refl; only_so = only_bind }

abbrev pub fail_fields : Form (ℕ × (FailWhy × ℕ))
fail_fields = both eight_form (both why_form eight_form)

abbrev pub to_fail : ℕ × (FailWhy × ℕ) → Row
to_fail p = row.Fail p.0 p.1.0 (to_moment p.1.1)

only_fail : (c : Row) (rest : List ℕ) → RowFits c → agree (row_bytes c) (9 ∷ rest) ≡ true → (p : ℕ × (FailWhy × ℕ)) × fail_fields.fits p × (to_fail p ≡ c)
only_fail (row.Fail r w at) rest f h = ((r, (w, at.0)), f, refl)
only_fail c rest f h = absurd (cc h)

pub fail_tagged : Tagged fail_fields row_form 9 to_fail
fail_tagged = record { to_fits = λ p f. f; to_spelled = λ p f. refl; only_so = only_fail }

abbrev pub touch_fields : Form (List ℕ × (ℕ × ℕ))
touch_fields = both session_form (both eight_form eight_form)

abbrev pub to_touch : List ℕ × (ℕ × ℕ) → Row
to_touch p = row.Touch p.0 p.1.0 (to_moment p.1.1)

only_touch : (c : Row) (rest : List ℕ) → RowFits c → agree (row_bytes c) (10 ∷ rest) ≡ true → (p : List ℕ × (ℕ × ℕ)) × touch_fields.fits p × (to_touch p ≡ c)
only_touch (row.Touch x b at) rest f h = ((x, (b, at.0)), f, refl)
only_touch c rest f h = absurd (cc h)

pub touch_tagged : Tagged touch_fields row_form 10 to_touch
touch_tagged = record { to_fits = λ p f. f; to_spelled = λ p f. refl; only_so = only_touch }

abbrev pub end_fields : Form (List ℕ × (ℕ × ℕ))
end_fields = both session_form (both eight_form eight_form)

abbrev pub to_end : List ℕ × (ℕ × ℕ) → Row
to_end p = row.End p.0 p.1.0 (to_moment p.1.1)

only_end : (c : Row) (rest : List ℕ) → RowFits c → agree (row_bytes c) (11 ∷ rest) ≡ true → (p : List ℕ × (ℕ × ℕ)) × end_fields.fits p × (to_end p ≡ c)
only_end (row.End x b at) rest f h = ((x, (b, at.0)), f, refl)
only_end c rest f h = absurd (cc h)

pub end_tagged : Tagged end_fields row_form 11 to_end
end_tagged = record { to_fits = λ p f. f; to_spelled = λ p f. refl; only_so = only_end }

abbrev pub freed_fields : Form (SlotId)
freed_fields = slot_form

abbrev pub to_freed : SlotId → Row
to_freed p = row.Freed p

only_freed : (c : Row) (rest : List ℕ) → RowFits c → agree (row_bytes c) (12 ∷ rest) ≡ true → (p : SlotId) × freed_fields.fits p × (to_freed p ≡ c)
only_freed (row.Freed s) rest f h = (s, f, refl)
only_freed c rest f h = absurd (cc h)

pub freed_tagged : Tagged freed_fields row_form 12 to_freed
freed_tagged = record { to_fits = λ p f. f; to_spelled = λ p f. refl; only_so = only_freed }

abbrev pub sweep_fields : Form (ℕ)
sweep_fields = eight_form

abbrev pub to_sweep : ℕ → Row
to_sweep p = row.Sweep (to_moment p)

only_sweep : (c : Row) (rest : List ℕ) → RowFits c → agree (row_bytes c) (13 ∷ rest) ≡ true → (p : ℕ) × sweep_fields.fits p × (to_sweep p ≡ c)
only_sweep (row.Sweep at) rest f h = (at.0, f, refl)
only_sweep c rest f h = absurd (cc h)

pub sweep_tagged : Tagged sweep_fields row_form 13 to_sweep
sweep_tagged = record { to_fits = λ p f. f; to_spelled = λ p f. refl; only_so = only_sweep }

abbrev pub expire_fields : Form (ℕ)
expire_fields = eight_form

abbrev pub to_expire : ℕ → Row
to_expire p = row.Expire (to_moment p)

only_expire : (c : Row) (rest : List ℕ) → RowFits c → agree (row_bytes c) (14 ∷ rest) ≡ true → (p : ℕ) × expire_fields.fits p × (to_expire p ≡ c)
only_expire (row.Expire at) rest f h = (at.0, f, refl)
only_expire c rest f h = absurd (cc h)

pub expire_tagged : Tagged expire_fields row_form 14 to_expire
expire_tagged = record { to_fits = λ p f. f; to_spelled = λ p f. refl; only_so = only_expire }

abbrev pub clear_fields : Form (ℕ)
clear_fields = eight_form

abbrev pub to_clear : ℕ → Row
to_clear p = row.Clear (to_moment p)

only_clear : (c : Row) (rest : List ℕ) → RowFits c → agree (row_bytes c) (15 ∷ rest) ≡ true → (p : ℕ) × clear_fields.fits p × (to_clear p ≡ c)
only_clear (row.Clear at) rest f h = (at.0, f, refl)
only_clear c rest f h = absurd (cc h)

pub clear_tagged : Tagged clear_fields row_form 15 to_clear
clear_tagged = record { to_fits = λ p f. f; to_spelled = λ p f. refl; only_so = only_clear }

pub row_only : Only row_form
row_only (row.Register node1 at1) (row.Register node2 at2) rest f g h = ap to_register ((both_only registration_form eight_form registration_only eight_only) (node1, at1.0) (node2, at2.0) rest f g h)
row_only (row.Beat n1 at1) (row.Beat n2 at2) rest f g h = ap to_beat ((both_only four_form eight_form four_only eight_only) (n1, at1.0) (n2, at2.0) rest f g h)
row_only (row.Drain n1 at1) (row.Drain n2 at2) rest f g h = ap to_drain ((both_only four_form eight_form four_only eight_only) (n1, at1.0) (n2, at2.0) rest f g h)
row_only (row.Remove n1 at1) (row.Remove n2 at2) rest f g h = ap to_remove ((both_only four_form eight_form four_only eight_only) (n1, at1.0) (n2, at2.0) rest f g h)
row_only (row.Enqueue choices1 at1) (row.Enqueue choices2 at2) rest f g h = ap to_enqueue ((both_only choices_form eight_form choices_only eight_only) (choices1, at1.0) (choices2, at2.0) rest f g h)
row_only (row.Poll r1 at1) (row.Poll r2 at2) rest f g h = ap to_poll ((both_only eight_form eight_form eight_only eight_only) (r1, at1.0) (r2, at2.0) rest f g h)
row_only (row.Dispatch at1) (row.Dispatch at2) rest f g h = ap to_dispatch (eight_only at1.0 at2.0 rest f g h)
row_only (row.Bind r1 x1 caps1 at1) (row.Bind r2 x2 caps2 at2) rest f g h = ap to_bind ((both_only eight_form (both session_form (both caps_form eight_form)) eight_only (both_only session_form (both caps_form eight_form) session_only (both_only caps_form eight_form caps_only eight_only))) (r1, (x1, (caps1, at1.0))) (r2, (x2, (caps2, at2.0))) rest f g h)
row_only (row.Fail r1 w1 at1) (row.Fail r2 w2 at2) rest f g h = ap to_fail ((both_only eight_form (both why_form eight_form) eight_only (both_only why_form eight_form why_only eight_only)) (r1, (w1, at1.0)) (r2, (w2, at2.0)) rest f g h)
row_only (row.Touch x1 b1 at1) (row.Touch x2 b2 at2) rest f g h = ap to_touch ((both_only session_form (both eight_form eight_form) session_only (both_only eight_form eight_form eight_only eight_only)) (x1, (b1, at1.0)) (x2, (b2, at2.0)) rest f g h)
row_only (row.End x1 b1 at1) (row.End x2 b2 at2) rest f g h = ap to_end ((both_only session_form (both eight_form eight_form) session_only (both_only eight_form eight_form eight_only eight_only)) (x1, (b1, at1.0)) (x2, (b2, at2.0)) rest f g h)
row_only (row.Freed s1) (row.Freed s2) rest f g h = ap to_freed (slot_only s1 s2 rest f g h)
row_only (row.Sweep at1) (row.Sweep at2) rest f g h = ap to_sweep (eight_only at1.0 at2.0 rest f g h)
row_only (row.Expire at1) (row.Expire at2) rest f g h = ap to_expire (eight_only at1.0 at2.0 rest f g h)
row_only (row.Clear at1) (row.Clear at2) rest f g h = ap to_clear (eight_only at1.0 at2.0 rest f g h)
row_only c d rest f g h = absurd (cc h)

pub row_at_least : AtLeast row_form 7
row_at_least (row.Register node at) f = omega (arith, (both_at_least registration_form eight_form registration_at_least eight_at_least) (node, at.0) f)
row_at_least (row.Beat n at) f = omega (arith, (both_at_least four_form eight_form four_at_least eight_at_least) (n, at.0) f)
row_at_least (row.Drain n at) f = omega (arith, (both_at_least four_form eight_form four_at_least eight_at_least) (n, at.0) f)
row_at_least (row.Remove n at) f = omega (arith, (both_at_least four_form eight_form four_at_least eight_at_least) (n, at.0) f)
row_at_least (row.Enqueue choices at) f = omega (arith, (both_at_least choices_form eight_form choices_at_least eight_at_least) (choices, at.0) f)
row_at_least (row.Poll r at) f = omega (arith, (both_at_least eight_form eight_form eight_at_least eight_at_least) (r, at.0) f)
row_at_least (row.Dispatch at) f = omega (arith, eight_at_least at.0 f)
row_at_least (row.Bind r x caps at) f = omega (arith, (both_at_least eight_form (both session_form (both caps_form eight_form)) eight_at_least (both_at_least session_form (both caps_form eight_form) session_at_least (both_at_least caps_form eight_form caps_at_least eight_at_least))) (r, (x, (caps, at.0))) f)
row_at_least (row.Fail r w at) f = omega (arith, (both_at_least eight_form (both why_form eight_form) eight_at_least (both_at_least why_form eight_form why_at_least eight_at_least)) (r, (w, at.0)) f)
row_at_least (row.Touch x b at) f = omega (arith, (both_at_least session_form (both eight_form eight_form) session_at_least (both_at_least eight_form eight_form eight_at_least eight_at_least)) (x, (b, at.0)) f)
row_at_least (row.End x b at) f = omega (arith, (both_at_least session_form (both eight_form eight_form) session_at_least (both_at_least eight_form eight_form eight_at_least eight_at_least)) (x, (b, at.0)) f)
row_at_least (row.Freed s) f = omega (arith, slot_at_least s f)
row_at_least (row.Sweep at) f = omega (arith, eight_at_least at.0 f)
row_at_least (row.Expire at) f = omega (arith, eight_at_least at.0 f)
row_at_least (row.Clear at) f = omega (arith, eight_at_least at.0 f)

pub row_shortest : Shortest row_form 7
row_shortest = (row.Freed slot_shortest.0, slot_shortest.1, refl)
