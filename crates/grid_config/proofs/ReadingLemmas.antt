-- That a text says one thing, and that nothing in it is left out.
use Rattle.std.proofs.Common.{◌≡◌, ◌<◌, ◌≤◌, ℕ, Bool, true, false, List, [], Option, Some, None, Ok, Err, Ordering, Less, Equal, Greater, length, refl, sym, ap, ◌∙◌, subst, arith, cond}
use Rattle.std.proofs.lemmas.Bool.{false≢true}
use Rattle.std.proofs.lemmas.Map.Lookups.{exact_bytes}
use Rattle.std.specs.Cmp.Lexicographic.{slice_cmp}
use Rattle.std.specs.Ordering.{nat_cmp, match_ordering}
use Rattle.std.specs.Prelude.{option_and_then}
use Rattle.toml.specs.Data.{Data, string, integer, float, boolean, datetime, array, table, as_table, get, get_member, Members, no_members, member}
use Rattle.grid_config.specs.declared.fault.ConfigFault.{ConfigFault}
use Rattle.grid_config.specs.declared.fault.ConfigFault.TheVariants as fault
use Rattle.grid_config.specs.declared.reading.TheConstants.{MOST_TEXT_BYTES}
use Rattle.grid_config.specs.declared.rows.Kind.{Kind}
use Rattle.grid_config.specs.Rows.{Row, has_section, kind_at}
use Rattle.grid_config.specs.Values.{word_for}
use Rattle.grid_config.specs.Words.{value_at, words_in}
use Rattle.grid_config.specs.Configured.{first, misfit, value_fault, keys_fault, table_fault, section_fault, fault_in, Spells, HasFault, HasWords, OneReading, IsTaken}

-- ---- one reading

same_document : (text : List ℕ) (a b : Members) → Spells text a → Spells text b → a ≡ b
same_document text a b p q = let both : Some a ≡ Some b = sym p.parsed ∙ q.parsed in cc

words_one : (rows : List Row) (text : List ℕ) (a b : List (List ℕ)) → HasWords rows text a → HasWords rows text b → a ≡ b
words_one rows text a b p q = p.words_are ∙ ap (words_in rows) (same_document text p.document q.document p.spells q.spells) ∙ sym q.words_are

faults_one : (rows : List Row) (text : List ℕ) (f g : ConfigFault) → HasFault rows text f → HasFault rows text g → f ≡ g
faults_one rows text f g p q =
    let both : Some f ≡ Some g = sym p.fault_is ∙ ap (fault_in rows) (same_document text p.document q.document p.spells q.spells) ∙ q.fault_is in
    cc

words_or_fault : (rows : List Row) (text : List ℕ) (a : List (List ℕ)) (f : ConfigFault) → HasWords rows text a → HasFault rows text f → ⊥
words_or_fault rows text a f p q =
    let both : None ≡ Some f = sym p.faultless ∙ ap (fault_in rows) (same_document text p.document q.document p.spells q.spells) ∙ q.fault_is in
    absurd cc

long_or_short : (text : List ℕ) → MOST_TEXT_BYTES < length text → length text ≤ MOST_TEXT_BYTES → ⊥
long_or_short text a b = omega arith

pub one_reading : OneReading
one_reading rows text (Ok a) (Ok b) p q h k = ap Ok (words_one rows text a b p.1 q.1)
one_reading rows text (Ok a) (Err fault.TooLong) p q h k = absurd (long_or_short text q p.0)
one_reading rows text (Ok a) (Err fault.NotToml) p q h k = absurd (q.1 p.1.document p.1.spells)
one_reading rows text (Ok a) (Err (fault.UnknownKey s t)) p q h k = absurd (words_or_fault rows text a (fault.UnknownKey s t) p.1 q.1)
one_reading rows text (Ok a) (Err (fault.WrongValue s t)) p q h k = absurd (words_or_fault rows text a (fault.WrongValue s t) p.1 q.1)
one_reading rows text (Ok a) (Err fault.Memory) p q h k = absurd (false≢true k)
one_reading rows text (Err fault.Memory) s p q h k = absurd (false≢true h)
one_reading rows text (Err fault.TooLong) (Ok b) p q h k = absurd (long_or_short text p q.0)
one_reading rows text (Err fault.TooLong) (Err fault.TooLong) p q h k = refl
one_reading rows text (Err fault.TooLong) (Err fault.NotToml) p q h k = absurd (long_or_short text p q.0)
one_reading rows text (Err fault.TooLong) (Err (fault.UnknownKey s t)) p q h k = absurd (long_or_short text p q.0)
one_reading rows text (Err fault.TooLong) (Err (fault.WrongValue s t)) p q h k = absurd (long_or_short text p q.0)
one_reading rows text (Err fault.TooLong) (Err fault.Memory) p q h k = absurd (false≢true k)
one_reading rows text (Err fault.NotToml) (Ok b) p q h k = absurd (p.1 q.1.document q.1.spells)
one_reading rows text (Err fault.NotToml) (Err fault.TooLong) p q h k = absurd (long_or_short text q p.0)
one_reading rows text (Err fault.NotToml) (Err fault.NotToml) p q h k = refl
one_reading rows text (Err fault.NotToml) (Err (fault.UnknownKey s t)) p q h k = absurd (p.1 q.1.document q.1.spells)
one_reading rows text (Err fault.NotToml) (Err (fault.WrongValue s t)) p q h k = absurd (p.1 q.1.document q.1.spells)
one_reading rows text (Err fault.NotToml) (Err fault.Memory) p q h k = absurd (false≢true k)
one_reading rows text (Err (fault.UnknownKey a b)) (Ok w) p q h k = absurd (words_or_fault rows text w (fault.UnknownKey a b) q.1 p.1)
one_reading rows text (Err (fault.UnknownKey a b)) (Err fault.TooLong) p q h k = absurd (long_or_short text q p.0)
one_reading rows text (Err (fault.UnknownKey a b)) (Err fault.NotToml) p q h k = absurd (q.1 p.1.document p.1.spells)
one_reading rows text (Err (fault.UnknownKey a b)) (Err (fault.UnknownKey s t)) p q h k = ap Err (faults_one rows text (fault.UnknownKey a b) (fault.UnknownKey s t) p.1 q.1)
one_reading rows text (Err (fault.UnknownKey a b)) (Err (fault.WrongValue s t)) p q h k = ap Err (faults_one rows text (fault.UnknownKey a b) (fault.WrongValue s t) p.1 q.1)
one_reading rows text (Err (fault.UnknownKey a b)) (Err fault.Memory) p q h k = absurd (false≢true k)
one_reading rows text (Err (fault.WrongValue a b)) (Ok w) p q h k = absurd (words_or_fault rows text w (fault.WrongValue a b) q.1 p.1)
one_reading rows text (Err (fault.WrongValue a b)) (Err fault.TooLong) p q h k = absurd (long_or_short text q p.0)
one_reading rows text (Err (fault.WrongValue a b)) (Err fault.NotToml) p q h k = absurd (q.1 p.1.document p.1.spells)
one_reading rows text (Err (fault.WrongValue a b)) (Err (fault.UnknownKey s t)) p q h k = ap Err (faults_one rows text (fault.WrongValue a b) (fault.UnknownKey s t) p.1 q.1)
one_reading rows text (Err (fault.WrongValue a b)) (Err (fault.WrongValue s t)) p q h k = ap Err (faults_one rows text (fault.WrongValue a b) (fault.WrongValue s t) p.1 q.1)
one_reading rows text (Err (fault.WrongValue a b)) (Err fault.Memory) p q h k = absurd (false≢true k)

-- ---- nothing is left out

first_none : {A : Type 0} (a b : Option A) → first a b ≡ None → (a ≡ None) × (b ≡ None)
first_none None b h = (refl, h)
first_none (Some x) b h = absurd cc

taken_word : (rows : List Row) (section key : List ℕ) (d : Data) (k : Kind) (word : Option (List ℕ)) → kind_at rows section key ≡ Some k → word_for k d ≡ word
    → misfit section key word ≡ None → IsTaken rows section key d
taken_word rows section key d k None e w h = absurd cc
taken_word rows section key d k (Some word) e w h = (k, word, e, w)

taken_kind : (rows : List Row) (section key : List ℕ) (d : Data) (k : Option Kind) → kind_at rows section key ≡ k
    → value_fault section key k d ≡ None → IsTaken rows section key d
taken_kind rows section key d None e h = absurd cc
taken_kind rows section key d (Some k) e h = taken_word rows section key d k (word_for k d) e refl h

taken_at : (rows : List Row) (section key l : List ℕ) (x d : Data) (rest : Option Data) (o : Ordering) → slice_cmp nat_cmp key l ≡ o
    → value_fault section l (kind_at rows section l) x ≡ None → (rest ≡ Some d → IsTaken rows section key d)
    → match_ordering o rest (Some x) rest ≡ Some d → IsTaken rows section key d
taken_at rows section key l x d rest Less is none more e = more e
taken_at rows section key l x d rest Greater is none more e = more e
taken_at rows section key l x d rest Equal is none more e =
    let same : x ≡ d = cc in
    subst (λ (z : List ℕ). IsTaken rows section z d) (sym (exact_bytes key l is))
    (subst (λ (y : Data). IsTaken rows section l y) same (taken_kind rows section l x (kind_at rows section l) refl none))

taken_key : (rows : List Row) (section key : List ℕ) (keys : Members) (d : Data) → keys_fault rows section keys ≡ None → get_member key keys ≡ Some d → IsTaken rows section key d
taken_key rows section key no_members d h e = absurd cc
taken_key rows section key (member l x keys) d h e =
    let both = first_none (value_fault section l (kind_at rows section l) x) (keys_fault rows section keys) h in
    taken_at rows section key l x d (get_member key keys) (slice_cmp nat_cmp key l) refl both.0 (taken_key rows section key keys d both.1) e

taken_data : (rows : List Row) (section key : List ℕ) (x d : Data) (b : Bool) → cond b (table_fault rows section (as_table x)) (Some (fault.UnknownKey section [])) ≡ None
    → get key x ≡ Some d → IsTaken rows section key d
taken_data rows section key x d false h e = absurd cc
taken_data rows section key (string s) d true h e = absurd cc
taken_data rows section key (integer z) d true h e = absurd cc
taken_data rows section key (float f) d true h e = absurd cc
taken_data rows section key (boolean b) d true h e = absurd cc
taken_data rows section key (datetime t) d true h e = absurd cc
taken_data rows section key (array i) d true h e = absurd cc
taken_data rows section key (table keys) d true h e = taken_key rows section key keys d h e

taken_section : (rows : List Row) (section key l : List ℕ) (x d : Data) (rest : Option Data) (o : Ordering) → slice_cmp nat_cmp section l ≡ o
    → section_fault rows l x ≡ None → (option_and_then (get key) rest ≡ Some d → IsTaken rows section key d)
    → option_and_then (get key) (match_ordering o rest (Some x) rest) ≡ Some d → IsTaken rows section key d
taken_section rows section key l x d rest Less is none more e = more e
taken_section rows section key l x d rest Greater is none more e = more e
taken_section rows section key l x d rest Equal is none more e =
    subst (λ (z : List ℕ). IsTaken rows z key d) (sym (exact_bytes section l is)) (taken_data rows l key x d (has_section rows l) none e)

pub taken_in : (rows : List Row) (document : Members) (section key : List ℕ) (d : Data) → fault_in rows document ≡ None → value_at document section key ≡ Some d → IsTaken rows section key d
taken_in rows no_members section key d h e = absurd cc
taken_in rows (member l x members) section key d h e =
    let both = first_none (section_fault rows l x) (fault_in rows members) h in
    taken_section rows section key l x d (get_member section members) (slice_cmp nat_cmp section l) refl both.0 (taken_in rows members section key d both.1) e
