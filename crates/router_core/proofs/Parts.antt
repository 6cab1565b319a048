-- How the router reads one part of a path, and then an end or a slash and more.
use Rattle.std.proofs.Common.{◌≡◌, ◌⊎◌, inl, inr, ℕ, ◌-◌, ◌<◌, ◌==◌, cond, Bool, true, false, ◌&&◌, nat_lt as ltb, List, [], ◌∷◌, ◌++◌, length, drop, nat_eq, Option, Some, None, option_and_then, refl, sym, ap, ◌∙◌, subst, arith, length-append}
use Rattle.std.proofs.Math.Seq.{drop-append_seam}
use Rattle.std.specs.Cmp.Lexicographic.{pointwise}
use Rattle.std.proofs.lemmas.Bool.Decides.{nat_tests}
use Rattle.matchit.specs.Rows.{RowsOf, param_token, catch_all_token}
use Rattle.matchit.specs.Seek.{seek, step, own, or_else, param_step, has_slash, segment, cuts, better, longest_from, with_suffix}
use Rattle.router_core.specs.Patterns.{behind, up_to, from_first, unless_empty}
use Rattle.router_core.proofs.Seeking.{AreBytes, nothing, under, under-nil, at_end, or_else-None, seek-nothing, seek-under, seek-skip, seek-to_end, step-under, step-other, own-under}

-- ---- a path is one part, or one part, a slash and more

abbrev pub Splits : List ℕ → Type 0
Splits path = (f r : List ℕ) × (has_slash f ≡ false) × (path ≡ f ++ 47 ∷ r)

pub split : (path : List ℕ) → (has_slash path ≡ false) ⊎ Splits path
split [] = inl refl
split (b ∷ path) = by (b == 47) refl (split path)
  where
    by : (t : Bool) → (b == 47) ≡ t → (has_slash path ≡ false) ⊎ Splits path → (has_slash (b ∷ path) ≡ false) ⊎ Splits (b ∷ path)
    by true same more = let is : b ≡ 47 = grind (arith, nat_tests) in inr ([], path, refl, ap (λ (c : ℕ). c ∷ path) is)
    by false other (inl plain) = inl (rw (other, plain) refl)
    by false other (inr s) = inr (b ∷ s.0, s.1, rw (other, s.2) refl, ap (λ (p : List ℕ). b ∷ p) s.3)

-- a text with no slash is one segment and one part
abbrev IsPlain : List ℕ → Type 0
IsPlain f = (segment f ≡ f) × (up_to 47 f ≡ f) × (from_first 47 f ≡ [])

segment-plain : (f : List ℕ) → has_slash f ≡ false → IsPlain f
segment-plain [] plain = (refl, refl, refl)
segment-plain (b ∷ f) plain = by (b == 47) refl (segment-plain f)
  where
    by : (t : Bool) → (b == 47) ≡ t → (has_slash f ≡ false → IsPlain f) → IsPlain (b ∷ f)
    by true same more = let e : true ≡ false = rw same at plain in cc
    by false other more =
        let p : has_slash f ≡ false = rw other at plain in
        let h = more p in
        (rw (other, h.0) refl, rw (other, h.1) refl, rw (other, h.2) refl)

-- before a slash it is one segment with the slash
abbrev IsCut : List ℕ → List ℕ → Type 0
IsCut f r = (segment (f ++ 47 ∷ r) ≡ f ++ 47 ∷ []) × (up_to 47 (f ++ 47 ∷ r) ≡ f) × (from_first 47 (f ++ 47 ∷ r) ≡ 47 ∷ r) × (has_slash (f ++ 47 ∷ r) ≡ true)

segment-cut : (f r : List ℕ) → has_slash f ≡ false → IsCut f r
segment-cut [] r plain = (refl, refl, refl, refl)
segment-cut (b ∷ f) r plain = by (b == 47) refl (segment-cut f r)
  where
    by : (t : Bool) → (b == 47) ≡ t → (has_slash f ≡ false → IsCut f r) → IsCut (b ∷ f) r
    by true same more = let e : true ≡ false = rw same at plain in cc
    by false other more =
        let p : has_slash f ≡ false = rw other at plain in
        let h = more p in
        (rw (other, h.0) refl, rw (other, h.1) refl, rw (other, h.2) refl, rw (other, h.3) refl)

-- ---- the suffix that a parameter leaves

slash_list : List ℕ
slash_list = 47 ∷ []

last-plain : (b : ℕ) (f : List ℕ) → has_slash (b ∷ f) ≡ false → pointwise nat_eq (47 ∷ []) (drop (length f) (b ∷ f)) ≡ false
last-plain b [] plain = by (b == 47) refl
  where
    by : (t : Bool) → (b == 47) ≡ t → pointwise nat_eq (47 ∷ []) (b ∷ []) ≡ false
    by true same = let e : true ≡ false = rw same at plain in cc
    by false other = grind (arith, nat_tests)
last-plain b (d ∷ f) plain = by (b == 47) refl (last-plain d f)
  where
    by : (t : Bool) → (b == 47) ≡ t → (has_slash (d ∷ f) ≡ false → pointwise nat_eq (47 ∷ []) (drop (length f) (d ∷ f)) ≡ false)
        → pointwise nat_eq (47 ∷ []) (drop (length f) (d ∷ f)) ≡ false
    by true same more = let e : true ≡ false = rw same at plain in cc
    by false other more = more (rw other at plain)

both_false : (t : Bool) → (t && false) ≡ false
both_false true = refl
both_false false = refl

cuts-plain : (f : List ℕ) → has_slash f ≡ false → cuts f (47 ∷ []) ≡ false
cuts-plain [] plain = refl
cuts-plain (b ∷ f) plain =
    let n : length (b ∷ f) - 1 ≡ length f = omega arith in
    rw (n, last-plain b f plain) (both_false (ltb 1 (length (b ∷ f))))

slash-last : (f : List ℕ) → drop (length (f ++ 47 ∷ []) - 1) (f ++ 47 ∷ []) ≡ 47 ∷ []
slash-last f =
    let n : length (f ++ 47 ∷ []) - 1 ≡ length f = omega (arith, length-append f (47 ∷ [])) in
    rw n (drop-append_seam f (47 ∷ []))

cuts-slash : (b : ℕ) (f : List ℕ) → cuts ((b ∷ f) ++ 47 ∷ []) (47 ∷ []) ≡ true
cuts-slash b f =
    let n : 1 < length ((b ∷ f) ++ 47 ∷ []) = omega (arith, length-append f (47 ∷ [])) in
    let longer : ltb 1 (length ((b ∷ f) ++ 47 ∷ [])) ≡ true = grind (arith, nat_tests) in
    rw (longer, slash-last (b ∷ f)) refl

better-none : (seg : List ℕ) → cuts seg (47 ∷ []) ≡ false → better seg [] (47 ∷ []) ≡ []
better-none seg none = rw none refl

better-some : (seg : List ℕ) → cuts seg (47 ∷ []) ≡ true → better seg [] (47 ∷ []) ≡ 47 ∷ []
better-some seg some = rw some refl

module _ {K : Type 0} where
  -- the rows behind a parameter: a slash and more, or the end
  abbrev pub tails : RowsOf K → K → RowsOf K
  tails more key = under (47 ∷ []) more ++ ([], key) ∷ []

  longest_from-slash : (seg : List ℕ) (more : RowsOf K) (key : K) → longest_from seg (47 ∷ []) (tails more key) ≡ 47 ∷ []
  longest_from-slash seg [] key = refl
  longest_from-slash seg ((t, k) ∷ more) key = longest_from-slash seg more key

  longest_from-none : (seg : List ℕ) (more : RowsOf K) (key : K) → cuts seg (47 ∷ []) ≡ false → longest_from seg [] (tails more key) ≡ []
  longest_from-none seg [] key none = refl
  longest_from-none seg ((t, k) ∷ more) key none =
      ap (λ (best : List ℕ). longest_from seg best (tails more key)) (better-none seg none) ∙ longest_from-none seg more key none

  longest_from-some : (seg : List ℕ) (t : List ℕ) (k : K) (more : RowsOf K) (key : K) → cuts seg (47 ∷ []) ≡ true
      → longest_from seg [] (tails ((t, k) ∷ more) key) ≡ 47 ∷ []
  longest_from-some seg t k more key some =
      ap (λ (best : List ℕ). longest_from seg best (tails more key)) (better-some seg some) ∙ longest_from-slash seg more key

  with_suffix-slash : (more : RowsOf K) (key : K) → with_suffix (47 ∷ []) (tails more key) ≡ under (47 ∷ []) more
  with_suffix-slash [] key = refl
  with_suffix-slash ((t, k) ∷ more) key = ap (λ (r : RowsOf K). (47 ∷ t, k) ∷ r) (with_suffix-slash more key)

  own-tails : (more : RowsOf K) (key : K) → own (tails more key) ≡ Some key
  own-tails [] key = refl
  own-tails ((t, k) ∷ more) key = own-tails more key

  -- what a parameter takes, by the suffix that it leaves
  abbrev stepped : List ℕ → RowsOf K → List ℕ → ℕ × RowsOf K
  stepped s rs path = cond (ltb 0 (length s)) (length (segment path) - length s, with_suffix s rs) (cond (has_slash path) (0, nothing) (length path, rs))

  -- where a parameter may not stop before a slash, it takes a path with no slash whole, and no other
  param_step-none : (more : RowsOf K) (key : K) (path : List ℕ) → cuts (segment path) (47 ∷ []) ≡ false
      → param_step (tails more key) path ≡ cond (has_slash path) (0, nothing) (length path, tails more key)
  unfolding param_step
  param_step-none more key path none = rw (longest_from-none (segment path) more key none) refl

  -- else it takes what stands before the slash
  param_step-some : (t : List ℕ) (k : K) (more : RowsOf K) (key : K) (path : List ℕ) → cuts (segment path) (47 ∷ []) ≡ true
      → param_step (tails ((t, k) ∷ more) key) path ≡ (length (segment path) - 1, under (47 ∷ []) ((t, k) ∷ more))
  unfolding param_step
  param_step-some t k more key path some =
      ap (λ (s : List ℕ). stepped s (tails ((t, k) ∷ more) key) path) (longest_from-some (segment path) t k more key some)
      ∙ ap (λ (r : RowsOf K). (length (segment path) - 1, r)) (with_suffix-slash ((t, k) ∷ more) key)

  -- rows that all begin with a parameter: the walk goes on behind it
  param_only : (rs : RowsOf K) (b : ℕ) (path : List ℕ) → b < 256
      → seek 0 (under (param_token ∷ []) rs) (b ∷ path) ≡ seek ((param_step rs (b ∷ path)).0 - 1) (param_step rs (b ∷ path)).1 path
  unfolding seek
  param_only rs b path byte =
      let here : step param_token (under (param_token ∷ []) rs) ≡ rs = step-under param_token param_token [] rs ∙ under-nil rs in
      rw (step-other b param_token [] rs (omega arith), step-other catch_all_token param_token [] rs (omega arith), here, seek-nothing 0 path)
      (or_else-None _)

  -- what rows with one part and then a slash or an end find
  abbrev pub part_then : List ℕ → Option K → K → Option K
  part_then path more key = unless_empty (up_to 47 path) (or_else more (at_end (from_first 47 path) key))

  seek-part_plain : (t : List ℕ) (k : K) (more : RowsOf K) (key : K) (b : ℕ) (f : List ℕ) → b < 256 → has_slash (b ∷ f) ≡ false
      → seek 0 (under (param_token ∷ []) (tails ((t, k) ∷ more) key)) (b ∷ f) ≡ Some key
  seek-part_plain t k more key b f byte plain =
      let h = segment-plain (b ∷ f) plain in
      let none : cuts (segment (b ∷ f)) (47 ∷ []) ≡ false = ap (λ (s : List ℕ). cuts s (47 ∷ [])) h.0 ∙ cuts-plain (b ∷ f) plain in
      let here : param_step (tails ((t, k) ∷ more) key) (b ∷ f) ≡ (length (b ∷ f), tails ((t, k) ∷ more) key) =
      param_step-none ((t, k) ∷ more) key (b ∷ f) none ∙ rw plain refl in
      let n : length (b ∷ f) - 1 ≡ length f = omega arith in
      param_only (tails ((t, k) ∷ more) key) b f byte
      ∙ rw (here, n) (seek-to_end (tails ((t, k) ∷ more) key) f)
      ∙ own-tails ((t, k) ∷ more) key

  seek-part_none : (t : List ℕ) (k : K) (more : RowsOf K) (key : K) (r : List ℕ)
      → seek 0 (under (param_token ∷ []) (tails ((t, k) ∷ more) key)) (47 ∷ r) ≡ None
  seek-part_none t k more key r =
      let here : param_step (tails ((t, k) ∷ more) key) (47 ∷ r) ≡ (0, nothing) = param_step-none ((t, k) ∷ more) key (47 ∷ r) refl in
      param_only (tails ((t, k) ∷ more) key) 47 r (omega arith) ∙ rw here (seek-nothing (0 - 1) r)

  seek-part_cut : (t : List ℕ) (k : K) (more : RowsOf K) (key : K) (b : ℕ) (f r : List ℕ) → b < 256 → has_slash (b ∷ f) ≡ false
      → seek 0 (under (param_token ∷ []) (tails ((t, k) ∷ more) key)) (b ∷ (f ++ 47 ∷ r)) ≡ seek 0 ((t, k) ∷ more) r
  seek-part_cut t k more key b f r byte plain =
      let h = segment-cut (b ∷ f) r plain in
      let some : cuts (segment (b ∷ (f ++ 47 ∷ r))) (47 ∷ []) ≡ true = ap (λ (s : List ℕ). cuts s (47 ∷ [])) h.0 ∙ cuts-slash b f in
      let size : length (segment (b ∷ (f ++ 47 ∷ r))) - 1 - 1 ≡ length f = rw h.0 (omega (arith, length-append f (47 ∷ []))) in
      let here = param_step-some t k more key (b ∷ (f ++ 47 ∷ r)) some in
      param_only (tails ((t, k) ∷ more) key) b (f ++ 47 ∷ r) byte
      ∙ rw (here, size) (seek-skip (under (47 ∷ []) ((t, k) ∷ more)) f (47 ∷ r))
      ∙ seek-under (47 ∷ []) ((t, k) ∷ more) (47 ∷ r) (omega arith, tt)

  -- one part, and then a slash and more, or the end
  pub seek-part : (t : List ℕ) (k : K) (more : RowsOf K) (key : K) (path : List ℕ) → AreBytes path
      → seek 0 (under (param_token ∷ []) (tails ((t, k) ∷ more) key)) path
      ≡ part_then path (option_and_then (λ r. seek 0 ((t, k) ∷ more) r) (behind (47 ∷ []) (from_first 47 path))) key
  unfolding seek
  seek-part t k more key [] bytes = own-under param_token [] (tails ((t, k) ∷ more) key)
  seek-part t k more key (b ∷ path) bytes = by (split (b ∷ path))
    where
      whole : List ℕ → Type 0
      whole p = seek 0 (under (param_token ∷ []) (tails ((t, k) ∷ more) key)) p
          ≡ part_then p (option_and_then (λ r. seek 0 ((t, k) ∷ more) r) (behind (47 ∷ []) (from_first 47 p))) key

      cut : (f r : List ℕ) → has_slash f ≡ false → AreBytes (f ++ 47 ∷ r) → whole (f ++ 47 ∷ r)
      cut [] r plain all = seek-part_none t k more key r
      cut (c ∷ f) r plain all =
          let h = segment-cut (c ∷ f) r plain in
          seek-part_cut t k more key c f r all.0 plain
          ∙ sym (or_else-None (seek 0 ((t, k) ∷ more) r))
          ∙ sym (rw (h.1, h.2) refl)

      by : (has_slash (b ∷ path) ≡ false) ⊎ Splits (b ∷ path) → whole (b ∷ path)
      by (inl plain) =
          let h = segment-plain (b ∷ path) plain in
          seek-part_plain t k more key b path bytes.0 plain ∙ sym (rw (h.1, h.2) refl)
      by (inr s) = subst whole (sym s.3) (cut s.0 s.1 s.2 (subst AreBytes s.3 bytes))
