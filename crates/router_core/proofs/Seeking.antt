-- How the router reads a path over rows of literal texts: one text, a choice by its first byte, and an end.
use Rattle.std.proofs.Common.{◌≡◌, ◌≢◌, ℕ, zero, suc, ◌-◌, ◌<◌, ◌==◌, cond, Bool, true, false, List, [], ◌∷◌, ◌++◌, length, Option, Some, None, option_and_then, refl, sym, ap, ◌∙◌, arith, append-nil}
use Rattle.std.proofs.lemmas.Bool.Decides.{nat_tests}
use Rattle.matchit.specs.Rows.{RowsOf, param_token, catch_all_token}
use Rattle.matchit.specs.Seek.{seek, step, own, or_else, param_step, has_slash}
use Rattle.router_core.specs.Patterns.{behind}

-- each of these is a byte
abbrev pub AreBytes : List ℕ → Type 0
AreBytes [] = Unit {0}
AreBytes (b ∷ bs) = (b < 256) × AreBytes bs

module _ {K : Type 0} where
  pub or_else-None : (a : Option K) → or_else a None ≡ a
  or_else-None None = refl
  or_else-None (Some a) = refl

  -- rows with a text in front of each
  abbrev pub under : List ℕ → RowsOf K → RowsOf K
  under w [] = []
  under w ((t, key) ∷ rest) = (w ++ t, key) ∷ under w rest

  -- no rows
  abbrev pub nothing : RowsOf K
  nothing = []

  past_slash : (b : Bool) (n : ℕ) → (cond {A = ℕ × RowsOf K} b (0, nothing) (n, nothing)).1 ≡ nothing
  past_slash true n = refl
  past_slash false n = refl

  -- with no rows a parameter leads to none
  pub param_step-nothing : (path : List ℕ) → (param_step nothing path).1 ≡ nothing
  unfolding param_step
  param_step-nothing path = past_slash (has_slash path) (length path)

  pub seek-nothing : (n : ℕ) (path : List ℕ) → seek n nothing path ≡ None
  unfolding seek
  seek-nothing n [] = refl
  seek-nothing (suc n) (b ∷ path) = seek-nothing n path
  seek-nothing zero (b ∷ path) =
      rw (seek-nothing 0 path, param_step-nothing (b ∷ path), seek-nothing ((param_step nothing (b ∷ path)).0 - 1) path) refl

  -- where every row goes on with a byte, so does the walk
  pub seek-byte : (rs : RowsOf K) (b : ℕ) (path : List ℕ) → step param_token rs ≡ [] → step catch_all_token rs ≡ []
      → seek 0 rs (b ∷ path) ≡ seek 0 (step b rs) path
  unfolding seek
  seek-byte rs b path no_param no_rest =
      rw (no_param, no_rest, param_step-nothing (b ∷ path), seek-nothing ((param_step nothing (b ∷ path)).0 - 1) path)
      (or_else-None (seek 0 (step b rs) path))

  pub step-under : (c x : ℕ) (w : List ℕ) (rs : RowsOf K) → step c (under (x ∷ w) rs) ≡ cond (x == c) (under w rs) []
  step-under c x w [] = grind (arith, nat_tests)
  step-under c x w ((t, key) ∷ rest) = rw (step-under c x w rest) (grind (arith, nat_tests))

  pub own-under : (x : ℕ) (w : List ℕ) (rs : RowsOf K) → own (under (x ∷ w) rs) ≡ None
  own-under x w [] = refl
  own-under x w ((t, key) ∷ rest) = own-under x w rest

  pub under-nil : (rs : RowsOf K) → under [] rs ≡ rs
  under-nil [] = refl
  under-nil ((t, key) ∷ rest) = ap (λ (r : RowsOf K). (t, key) ∷ r) (under-nil rest)

  -- rows behind one text: the path has to begin with it
  pub seek-under : (w : List ℕ) (rs : RowsOf K) (path : List ℕ) → AreBytes w → seek 0 (under w rs) path ≡ option_and_then (λ r. seek 0 rs r) (behind w path)
  unfolding seek
  seek-under [] rs path bytes = ap (λ (r : RowsOf K). seek 0 r path) (under-nil rs)
  seek-under (x ∷ w) rs [] bytes = own-under x w rs
  seek-under (x ∷ w) rs (b ∷ path) bytes =
      let byte : x < 256 = bytes.0 in
      let no_param : step param_token (under (x ∷ w) rs) ≡ [] = step-under param_token x w rs ∙ other x param_token (omega arith) in
      let no_rest : step catch_all_token (under (x ∷ w) rs) ≡ [] = step-under catch_all_token x w rs ∙ other x catch_all_token (omega arith) in
      seek-byte (under (x ∷ w) rs) b path no_param no_rest
      ∙ ap (λ (r : RowsOf K). seek 0 r path) (step-under b x w rs)
      ∙ by_head (x == b) (b == x) (swap x b) (seek-under w rs path bytes.1)
    where
      other : (x c : ℕ) → x ≢ c → cond (x == c) (under w rs) [] ≡ []
      other x c ne = grind (arith, nat_tests)

      swap : (x b : ℕ) → (x == b) ≡ (b == x)
      swap x b = grind (arith, nat_tests)

      by_head : (p q : Bool) → p ≡ q → seek 0 (under w rs) path ≡ option_and_then (λ r. seek 0 rs r) (behind w path)
          → seek 0 (cond p (under w rs) []) path ≡ option_and_then (λ r. seek 0 rs r) (cond q (behind w path) None)
      by_head true true e ih = ih
      by_head false false e ih = seek-nothing 0 path
      by_head true false e ih = absurd cc
      by_head false true e ih = absurd cc

  step-append : (c : ℕ) (xs ys : RowsOf K) → step c (xs ++ ys) ≡ step c xs ++ step c ys
  step-append c [] ys = refl
  step-append c (([], key) ∷ xs) ys = step-append c xs ys
  step-append c ((x ∷ t, key) ∷ xs) ys = rw (step-append c xs ys) (by (x == c))
    where
      by : (b : Bool) → cond b ((t, key) ∷ (step c xs ++ step c ys)) (step c xs ++ step c ys) ≡ cond b ((t, key) ∷ step c xs) (step c xs) ++ step c ys
      by true = refl
      by false = refl

  -- no row behind a byte begins with another token
  pub step-other : (c x : ℕ) (w : List ℕ) (rs : RowsOf K) → x ≢ c → step c (under (x ∷ w) rs) ≡ []
  step-other c x w rs differ = step-under c x w rs ∙ by (x == c) refl
    where
      by : (b : Bool) → (x == c) ≡ b → cond b (under w rs) [] ≡ []
      by true same = absurd (grind (arith, nat_tests))
      by false same = refl

  own-append : (xs ys : RowsOf K) → own (xs ++ ys) ≡ or_else (own xs) (own ys)
  own-append [] ys = refl
  own-append (([], key) ∷ xs) ys = refl
  own-append ((x ∷ t, key) ∷ xs) ys = own-append xs ys

  -- one of two lists of rows, where the other has none that goes on
  beside : (p q : Bool) (xs ys : RowsOf K) (path : List ℕ) → (p ≡ true → q ≡ true → ⊥)
      → seek 0 (cond p xs [] ++ cond q ys []) path ≡ or_else (seek 0 (cond p xs []) path) (seek 0 (cond q ys []) path)
  beside true true xs ys path apart = absurd (apart refl refl)
  beside true false xs ys path apart =
      rw (append-nil xs, seek-nothing 0 path) (sym (or_else-None (seek 0 xs path)))
  beside false true xs ys path apart = rw (seek-nothing 0 path) refl
  beside false false xs ys path apart = rw (seek-nothing 0 path) refl

  -- a choice between two texts with different first bytes
  pub seek-either : (x y : ℕ) (w v : List ℕ) (xs ys : RowsOf K) (path : List ℕ) → x < 256 → y < 256 → x ≢ y
      → seek 0 (under (x ∷ w) xs ++ under (y ∷ v) ys) path ≡ or_else (seek 0 (under (x ∷ w) xs) path) (seek 0 (under (y ∷ v) ys) path)
  unfolding seek
  seek-either x y w v xs ys [] x_byte y_byte differ = own-append (under (x ∷ w) xs) (under (y ∷ v) ys)
  seek-either x y w v xs ys (b ∷ path) x_byte y_byte differ =
      let both : (c : ℕ) → x ≢ c → y ≢ c → step c (under (x ∷ w) xs ++ under (y ∷ v) ys) ≡ [] =
      λ c nx ny. step-append c (under (x ∷ w) xs) (under (y ∷ v) ys) ∙ rw (step-other c x w xs nx, step-other c y v ys ny) refl in
      seek-byte (under (x ∷ w) xs ++ under (y ∷ v) ys) b path (both param_token (omega arith) (omega arith)) (both catch_all_token (omega arith) (omega arith))
      ∙ ap (λ (r : RowsOf K). seek 0 r path) (step-append b (under (x ∷ w) xs) (under (y ∷ v) ys) ∙ rw (step-under b x w xs, step-under b y v ys) refl)
      ∙ beside (x == b) (y == b) (under w xs) (under v ys) path (λ p q. apart b p q)
      ∙ sym (rw (
        seek-byte (under (x ∷ w) xs) b path (step-other param_token x w xs (omega arith)) (step-other catch_all_token x w xs (omega arith)),
        seek-byte (under (y ∷ v) ys) b path (step-other param_token y v ys (omega arith)) (step-other catch_all_token y v ys (omega arith)),
        step-under b x w xs,
        step-under b y v ys,
      ) refl)
    where
      apart : (b : ℕ) → (x == b) ≡ true → (y == b) ≡ true → ⊥
      apart b p q = grind (arith, nat_tests)

  -- the key at the end of a path
  abbrev pub at_end : List ℕ → K → Option K
  at_end [] key = Some key
  at_end (b ∷ path) key = None

  pub seek-key : (key : K) (path : List ℕ) → seek 0 (([], key) ∷ []) path ≡ at_end path key
  unfolding seek
  seek-key key [] = refl
  seek-key key (b ∷ path) = seek-byte (([], key) ∷ []) b path refl refl ∙ seek-nothing 0 path

  -- a text, or the end
  pub seek-or_end : (x : ℕ) (w : List ℕ) (xs : RowsOf K) (key : K) (path : List ℕ) → x < 256
      → seek 0 (under (x ∷ w) xs ++ ([], key) ∷ []) path ≡ or_else (seek 0 (under (x ∷ w) xs) path) (at_end path key)
  unfolding seek
  seek-or_end x w xs key [] x_byte = own-append (under (x ∷ w) xs) (([], key) ∷ [])
  seek-or_end x w xs key (b ∷ path) x_byte =
      let both : (c : ℕ) → step c (under (x ∷ w) xs ++ ([], key) ∷ []) ≡ step c (under (x ∷ w) xs) =
      λ c. step-append c (under (x ∷ w) xs) (([], key) ∷ []) ∙ append-nil (step c (under (x ∷ w) xs)) in
      seek-byte (under (x ∷ w) xs ++ ([], key) ∷ []) b path
      (both param_token ∙ step-other param_token x w xs (omega arith)) (both catch_all_token ∙ step-other catch_all_token x w xs (omega arith))
      ∙ ap (λ (r : RowsOf K). seek 0 r path) (both b)
      ∙ sym (seek-byte (under (x ∷ w) xs) b path (step-other param_token x w xs (omega arith)) (step-other catch_all_token x w xs (omega arith)))
      ∙ sym (or_else-None (seek 0 (under (x ∷ w) xs) (b ∷ path)))

  -- bytes that are skipped
  pub seek-skip : (rs : RowsOf K) (f ys : List ℕ) → seek (length f) rs (f ++ ys) ≡ seek 0 rs ys
  unfolding seek
  seek-skip rs [] ys = refl
  seek-skip rs (x ∷ f) ys = seek-skip rs f ys

  pub seek-to_end : (rs : RowsOf K) (f : List ℕ) → seek (length f) rs f ≡ own rs
  unfolding seek
  seek-to_end rs [] = refl
  seek-to_end rs (x ∷ f) = seek-to_end rs f
