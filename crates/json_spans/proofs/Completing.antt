-- What was read can go on, and a text of which a value was read has that value.
use Rattle.std.proofs.Common.{◌≡◌, ℕ, ◌-◌, ◌≤◌, Bool, true, false, List, [], ◌∷◌, ◌++◌, length, length-append, take, drop, refl, ap, ◌∙◌, sym, arith}
use Rattle.std.proofs.lemmas.List.{append_assoc}
use Rattle.json_spans.specs.Bytes.{is_space}
use Rattle.json_spans.specs.Grammar.{Tree, AreSpaces, IsTree, spelling, depth, IsJson}
use Rattle.json_spans.specs.Faults.{Begins}
use Rattle.json_spans.specs.Machine.{ended, Stack, finish, run}
use Rattle.json_spans.specs.declared.table.Mode.{Mode}
use Rattle.json_spans.specs.declared.table.Mode.TheVariants as mode
use Rattle.json_spans.specs.declared.table.Action.TheVariants as does
use Rattle.json_spans.proofs.Forward.{on, byte, spaces, value_begins, stays_value, value_read}
use Rattle.json_spans.proofs.Backward.{spaces_of, Headed, value_back}
use Rattle.json_spans.proofs.Texts.{spaces_over, nil, drop_front, take_front}

-- ---- two splits of one list

pub same_back : (a b c d : List ℕ) → a ++ b ≡ c ++ d → length b ≡ length d → b ≡ d
same_back a b c d e l =
    let n : length a ≡ length c = omega (arith, ap length e, length-append a b, length-append c d) in
    sym (drop_front a b) ∙ ap (drop (length a)) e ∙ ap (λ k. drop k (c ++ d)) n ∙ drop_front c d

pub same_front : (a b c d : List ℕ) → a ++ b ≡ c ++ d → length b ≡ length d → a ≡ c
same_front a b c d e l =
    let n : length a ≡ length c = omega (arith, ap length e, length-append a b, length-append c d) in
    sym (take_front a b) ∙ ap (take (length a)) e ∙ ap (λ k. take k (c ++ d)) n ∙ take_front c d

-- ---- what was read can go on

-- the modes from which a text can be completed: all but those within an escape of a second half of a pair alone
abbrev pub IsAlive : Mode → Type 0
IsAlive mode.Low2 = ⊥
IsAlive mode.Low1 = ⊥
IsAlive m = Unit {0}

pub ended_same : (p q : ℕ) → ended p ≡ ended q → p ≡ q
ended_same p q e = cc

abbrev pub closers : Stack → List ℕ
closers [] = []
closers (true ∷ s) = 125 ∷ closers s
closers (false ∷ s) = 93 ∷ closers s

module _ (limit : ℕ) where
  -- ---- the value of a text

  -- the bytes are white space and a value
  pub record ValueIn (u : List ℕ) : Type 0 where
    pub before : List ℕ
    pub v : Tree
    pub is : u ≡ before ++ spelling v
    pub is_before : AreSpaces before
    pub is_tree : IsTree v
    pub within : depth v ≤ limit

  value_at_front : (text u w ws : List ℕ) (x : ℕ) (xs : List ℕ) → text ≡ u ++ w → text ≡ ws ++ x ∷ xs → AreSpaces ws → is_space x ≡ false
      → run limit (length text) mode.Value false [] (x ∷ xs) ≡ ended (length text - length w) → ValueIn u
  value_at_front text u w ws x xs is at are over h =
      let t = value_back limit (length text) (length text - length w) x xs over h in
      let e = ended_same _ _ t.goes in
      let split : text ≡ (ws ++ spelling t.v) ++ t.rest = at ∙ ap (λ z. ws ++ z) t.is ∙ sym (append_assoc ws (spelling t.v) t.rest) in
      let size : length w ≡ length t.rest = omega (arith, e, ap length is, length-append u w, ap length split, length-append (ws ++ spelling t.v) t.rest) in
      record { before = ws; v = t.v; is = same_front u w (ws ++ spelling t.v) t.rest (sym is ∙ split) size; is_before = are; is_tree = t.is_tree; within = omega (arith, t.fits) }

  value_behind : (text u w ws rest : List ℕ) → text ≡ u ++ w → text ≡ ws ++ rest → AreSpaces ws → Headed (λ x. is_space x ≡ false) rest
      → run limit (length text) mode.Value false [] rest ≡ ended (length text - length w) → ValueIn u
  unfolding run
  value_behind text u w ws [] is at are over h = absurd (cc)
  value_behind text u w ws (x ∷ xs) is at are over h = value_at_front text u w ws x xs is at are over h

  -- where a value ends, and w stands behind it, it stands before w
  pub value_in : (text u w : List ℕ) → text ≡ u ++ w → run limit (length text) mode.Value false [] text ≡ ended (length text - length w) → ValueIn u
  value_in text u w is h =
      let a = spaces_of text in
      let g = sym (spaces limit (length text) mode.Value false [] (stays_value [] mode.Value (value_begins [])) a.ws a.rest a.are) ∙ ap (run limit (length text) mode.Value false []) (sym a.is) ∙ h in
      value_behind text u w a.ws a.rest is a.is a.are a.over g

  -- a JSON text is read to the end of its value
  pub text_read : (bytes before : List ℕ) (v : Tree) (after : List ℕ) → IsJson bytes before v after → depth v ≤ limit → run limit (length bytes) mode.Value false [] bytes ≡ ended (length bytes - length after)
  text_read bytes before v after j d =
      ap (run limit (length bytes) mode.Value false []) j.is
      ∙ spaces limit (length bytes) mode.Value false [] (stays_value [] mode.Value (value_begins [])) before (spelling v ++ after) j.is_before
      ∙ value_read limit (length bytes) [] mode.Value (value_begins []) v after j.is_tree (omega (arith, d)) (spaces_over after j.is_after)

  -- and nothing but white space stands behind
  pub spaces_behind : (bytes u w before : List ℕ) (v : Tree) (after : List ℕ) → IsJson bytes before v after → depth v ≤ limit → bytes ≡ u ++ w
      → run limit (length bytes) mode.Value false [] bytes ≡ ended (length bytes - length w) → AreSpaces w
  spaces_behind bytes u w before v after j d is h =
      let e = ended_same _ _ (sym (text_read bytes before v after j d) ∙ h) in
      let split : bytes ≡ (before ++ spelling v) ++ after = j.is ∙ sym (append_assoc before (spelling v) after) in
      let size : length after ≡ length w = omega (arith, e, ap length is, length-append u w, ap length split, length-append (before ++ spelling v) after) in
      rw (sym (same_back (before ++ spelling v) after u w (sym split ∙ is) size)) j.is_after

  -- ---- completions

  -- the value's end is the text's end
  abbrev pub Completes : ℕ → Mode → Bool → Stack → List ℕ → Type 0
  Completes n m naming s ys = run limit n m naming s ys ≡ ended n

  closes : (n : ℕ) (naming : Bool) (s : Stack) → finish (n - length (closers s)) naming s (on limit n (closers s)) ≡ ended n
  closes n naming [] = let e : n - 0 ≡ n = omega arith in ap ended e
  closes n naming (true ∷ s) = byte limit n mode.After naming (true ∷ s) 125 (closers s) does.Close refl ∙ closes n naming s
  closes n naming (false ∷ s) = byte limit n mode.After naming (false ∷ s) 93 (closers s) does.Close refl ∙ closes n naming s

  go_zero : (n : ℕ) (naming : Bool) (s : Stack) → Completes n mode.Zero naming s (closers s)
  unfolding run
  go_zero n naming [] = refl
  go_zero n naming (true ∷ s) = byte limit n mode.Zero naming (true ∷ s) 125 (closers s) does.Close refl ∙ closes n naming s
  go_zero n naming (false ∷ s) = byte limit n mode.Zero naming (false ∷ s) 93 (closers s) does.Close refl ∙ closes n naming s

  go_whole : (n : ℕ) (naming : Bool) (s : Stack) → Completes n mode.Whole naming s (closers s)
  unfolding run
  go_whole n naming [] = refl
  go_whole n naming (true ∷ s) = byte limit n mode.Whole naming (true ∷ s) 125 (closers s) does.Close refl ∙ closes n naming s
  go_whole n naming (false ∷ s) = byte limit n mode.Whole naming (false ∷ s) 93 (closers s) does.Close refl ∙ closes n naming s

  go_fraction : (n : ℕ) (naming : Bool) (s : Stack) → Completes n mode.Fraction naming s (closers s)
  unfolding run
  go_fraction n naming [] = refl
  go_fraction n naming (true ∷ s) = byte limit n mode.Fraction naming (true ∷ s) 125 (closers s) does.Close refl ∙ closes n naming s
  go_fraction n naming (false ∷ s) = byte limit n mode.Fraction naming (false ∷ s) 93 (closers s) does.Close refl ∙ closes n naming s

  go_exponentdigits : (n : ℕ) (naming : Bool) (s : Stack) → Completes n mode.ExponentDigits naming s (closers s)
  unfolding run
  go_exponentdigits n naming [] = refl
  go_exponentdigits n naming (true ∷ s) = byte limit n mode.ExponentDigits naming (true ∷ s) 125 (closers s) does.Close refl ∙ closes n naming s
  go_exponentdigits n naming (false ∷ s) = byte limit n mode.ExponentDigits naming (false ∷ s) 93 (closers s) does.Close refl ∙ closes n naming s

  go_value : (n : ℕ) (naming : Bool) (s : Stack) → Completes n mode.Value naming s (48 ∷ closers s)
  go_value n naming s = byte limit n mode.Value naming s 48 (closers s) (does.Go mode.Zero) refl ∙ go_zero n naming s

  go_valueorclose : (n : ℕ) (naming : Bool) (s : Stack) → Completes n mode.ValueOrClose naming s (48 ∷ closers s)
  go_valueorclose n naming s = byte limit n mode.ValueOrClose naming s 48 (closers s) (does.Go mode.Zero) refl ∙ go_zero n naming s

  go_minus : (n : ℕ) (naming : Bool) (s : Stack) → Completes n mode.Minus naming s (48 ∷ closers s)
  go_minus n naming s = byte limit n mode.Minus naming s 48 (closers s) (does.Go mode.Zero) refl ∙ go_zero n naming s

  go_point : (n : ℕ) (naming : Bool) (s : Stack) → Completes n mode.Point naming s (48 ∷ closers s)
  go_point n naming s = byte limit n mode.Point naming s 48 (closers s) (does.Go mode.Fraction) refl ∙ go_fraction n naming s

  go_exponent : (n : ℕ) (naming : Bool) (s : Stack) → Completes n mode.Exponent naming s (48 ∷ closers s)
  go_exponent n naming s = byte limit n mode.Exponent naming s 48 (closers s) (does.Go mode.ExponentDigits) refl ∙ go_exponentdigits n naming s

  go_exponentsign : (n : ℕ) (naming : Bool) (s : Stack) → Completes n mode.ExponentSign naming s (48 ∷ closers s)
  go_exponentsign n naming s = byte limit n mode.ExponentSign naming s 48 (closers s) (does.Go mode.ExponentDigits) refl ∙ go_exponentdigits n naming s

  go_true1 : (n : ℕ) (naming : Bool) (s : Stack) → Completes n mode.True1 naming s (101 ∷ closers s)
  go_true1 n naming s = byte limit n mode.True1 naming s 101 (closers s) does.Done refl ∙ closes n naming s

  go_true2 : (n : ℕ) (naming : Bool) (s : Stack) → Completes n mode.True2 naming s (117 ∷ 101 ∷ closers s)
  go_true2 n naming s = byte limit n mode.True2 naming s 117 (101 ∷ closers s) (does.Go mode.True1) refl ∙ go_true1 n naming s

  go_true3 : (n : ℕ) (naming : Bool) (s : Stack) → Completes n mode.True3 naming s (114 ∷ 117 ∷ 101 ∷ closers s)
  go_true3 n naming s = byte limit n mode.True3 naming s 114 (117 ∷ 101 ∷ closers s) (does.Go mode.True2) refl ∙ go_true2 n naming s

  go_false1 : (n : ℕ) (naming : Bool) (s : Stack) → Completes n mode.False1 naming s (101 ∷ closers s)
  go_false1 n naming s = byte limit n mode.False1 naming s 101 (closers s) does.Done refl ∙ closes n naming s

  go_false2 : (n : ℕ) (naming : Bool) (s : Stack) → Completes n mode.False2 naming s (115 ∷ 101 ∷ closers s)
  go_false2 n naming s = byte limit n mode.False2 naming s 115 (101 ∷ closers s) (does.Go mode.False1) refl ∙ go_false1 n naming s

  go_false3 : (n : ℕ) (naming : Bool) (s : Stack) → Completes n mode.False3 naming s (108 ∷ 115 ∷ 101 ∷ closers s)
  go_false3 n naming s = byte limit n mode.False3 naming s 108 (115 ∷ 101 ∷ closers s) (does.Go mode.False2) refl ∙ go_false2 n naming s

  go_false4 : (n : ℕ) (naming : Bool) (s : Stack) → Completes n mode.False4 naming s (97 ∷ 108 ∷ 115 ∷ 101 ∷ closers s)
  go_false4 n naming s = byte limit n mode.False4 naming s 97 (108 ∷ 115 ∷ 101 ∷ closers s) (does.Go mode.False3) refl ∙ go_false3 n naming s

  go_null1 : (n : ℕ) (naming : Bool) (s : Stack) → Completes n mode.Null1 naming s (108 ∷ closers s)
  go_null1 n naming s = byte limit n mode.Null1 naming s 108 (closers s) does.Done refl ∙ closes n naming s

  go_null2 : (n : ℕ) (naming : Bool) (s : Stack) → Completes n mode.Null2 naming s (108 ∷ 108 ∷ closers s)
  go_null2 n naming s = byte limit n mode.Null2 naming s 108 (108 ∷ closers s) (does.Go mode.Null1) refl ∙ go_null1 n naming s

  go_null3 : (n : ℕ) (naming : Bool) (s : Stack) → Completes n mode.Null3 naming s (117 ∷ 108 ∷ 108 ∷ closers s)
  go_null3 n naming s = byte limit n mode.Null3 naming s 117 (108 ∷ 108 ∷ closers s) (does.Go mode.Null2) refl ∙ go_null2 n naming s

  go_colon : (n : ℕ) (naming : Bool) (s : Stack) → Completes n mode.Colon naming s (58 ∷ 48 ∷ closers s)
  go_colon n naming s = byte limit n mode.Colon naming s 58 (48 ∷ closers s) does.Begin refl ∙ go_value n false s

  go_text_text : (n : ℕ) (s : Stack) → Completes n mode.Text false s (34 ∷ closers s)
  go_text_text n s = byte limit n mode.Text false s 34 (closers s) does.Done refl ∙ closes n false s

  go_text_name : (n : ℕ) (s : Stack) → Completes n mode.Text true s (34 ∷ 58 ∷ 48 ∷ closers s)
  go_text_name n s = byte limit n mode.Text true s 34 (58 ∷ 48 ∷ closers s) (does.Go mode.Colon) refl ∙ go_colon n true s

  go_name : (n : ℕ) (naming : Bool) (s : Stack) → Completes n mode.Name naming s (34 ∷ 34 ∷ 58 ∷ 48 ∷ closers s)
  go_name n naming s = byte limit n mode.Name naming s 34 (34 ∷ 58 ∷ 48 ∷ closers s) does.Name refl ∙ go_text_name n s

  go_nameorclose : (n : ℕ) (naming : Bool) (s : Stack) → Completes n mode.NameOrClose naming s (34 ∷ 34 ∷ 58 ∷ 48 ∷ closers s)
  go_nameorclose n naming s = byte limit n mode.NameOrClose naming s 34 (34 ∷ 58 ∷ 48 ∷ closers s) does.Name refl ∙ go_text_name n s

  go_escape_text : (n : ℕ) (s : Stack) → Completes n mode.Escape false s (34 ∷ 34 ∷ closers s)
  go_escape_text n s = byte limit n mode.Escape false s 34 (34 ∷ closers s) (does.Go mode.Text) refl ∙ go_text_text n s

  go_hex1_text : (n : ℕ) (s : Stack) → Completes n mode.Hex1 false s (48 ∷ 34 ∷ closers s)
  go_hex1_text n s = byte limit n mode.Hex1 false s 48 (34 ∷ closers s) (does.Go mode.Text) refl ∙ go_text_text n s

  go_hex2_text : (n : ℕ) (s : Stack) → Completes n mode.Hex2 false s (48 ∷ 48 ∷ 34 ∷ closers s)
  go_hex2_text n s = byte limit n mode.Hex2 false s 48 (48 ∷ 34 ∷ closers s) (does.Go mode.Hex1) refl ∙ go_hex1_text n s

  go_hex3_text : (n : ℕ) (s : Stack) → Completes n mode.Hex3 false s (48 ∷ 48 ∷ 48 ∷ 34 ∷ closers s)
  go_hex3_text n s = byte limit n mode.Hex3 false s 48 (48 ∷ 48 ∷ 34 ∷ closers s) (does.Go mode.Hex2) refl ∙ go_hex2_text n s

  go_hexd_text : (n : ℕ) (s : Stack) → Completes n mode.HexD false s (48 ∷ 48 ∷ 48 ∷ 34 ∷ closers s)
  go_hexd_text n s = byte limit n mode.HexD false s 48 (48 ∷ 48 ∷ 34 ∷ closers s) (does.Go mode.Hex2) refl ∙ go_hex2_text n s

  go_hex4_text : (n : ℕ) (s : Stack) → Completes n mode.Hex4 false s (48 ∷ 48 ∷ 48 ∷ 48 ∷ 34 ∷ closers s)
  go_hex4_text n s = byte limit n mode.Hex4 false s 48 (48 ∷ 48 ∷ 48 ∷ 34 ∷ closers s) (does.Go mode.Hex3) refl ∙ go_hex3_text n s

  go_pair1_text : (n : ℕ) (s : Stack) → Completes n mode.Pair1 false s (48 ∷ 34 ∷ closers s)
  go_pair1_text n s = byte limit n mode.Pair1 false s 48 (34 ∷ closers s) (does.Go mode.Text) refl ∙ go_text_text n s

  go_pair2_text : (n : ℕ) (s : Stack) → Completes n mode.Pair2 false s (48 ∷ 48 ∷ 34 ∷ closers s)
  go_pair2_text n s = byte limit n mode.Pair2 false s 48 (48 ∷ 34 ∷ closers s) (does.Go mode.Pair1) refl ∙ go_pair1_text n s

  go_pair3_text : (n : ℕ) (s : Stack) → Completes n mode.Pair3 false s (99 ∷ 48 ∷ 48 ∷ 34 ∷ closers s)
  go_pair3_text n s = byte limit n mode.Pair3 false s 99 (48 ∷ 48 ∷ 34 ∷ closers s) (does.Go mode.Pair2) refl ∙ go_pair2_text n s

  go_pair4_text : (n : ℕ) (s : Stack) → Completes n mode.Pair4 false s (100 ∷ 99 ∷ 48 ∷ 48 ∷ 34 ∷ closers s)
  go_pair4_text n s = byte limit n mode.Pair4 false s 100 (99 ∷ 48 ∷ 48 ∷ 34 ∷ closers s) (does.Go mode.Pair3) refl ∙ go_pair3_text n s

  go_pair5_text : (n : ℕ) (s : Stack) → Completes n mode.Pair5 false s (117 ∷ 100 ∷ 99 ∷ 48 ∷ 48 ∷ 34 ∷ closers s)
  go_pair5_text n s = byte limit n mode.Pair5 false s 117 (100 ∷ 99 ∷ 48 ∷ 48 ∷ 34 ∷ closers s) (does.Go mode.Pair4) refl ∙ go_pair4_text n s

  go_pair6_text : (n : ℕ) (s : Stack) → Completes n mode.Pair6 false s (92 ∷ 117 ∷ 100 ∷ 99 ∷ 48 ∷ 48 ∷ 34 ∷ closers s)
  go_pair6_text n s = byte limit n mode.Pair6 false s 92 (117 ∷ 100 ∷ 99 ∷ 48 ∷ 48 ∷ 34 ∷ closers s) (does.Go mode.Pair5) refl ∙ go_pair5_text n s

  go_high1_text : (n : ℕ) (s : Stack) → Completes n mode.High1 false s (48 ∷ 92 ∷ 117 ∷ 100 ∷ 99 ∷ 48 ∷ 48 ∷ 34 ∷ closers s)
  go_high1_text n s = byte limit n mode.High1 false s 48 (92 ∷ 117 ∷ 100 ∷ 99 ∷ 48 ∷ 48 ∷ 34 ∷ closers s) (does.Go mode.Pair6) refl ∙ go_pair6_text n s

  go_high2_text : (n : ℕ) (s : Stack) → Completes n mode.High2 false s (48 ∷ 48 ∷ 92 ∷ 117 ∷ 100 ∷ 99 ∷ 48 ∷ 48 ∷ 34 ∷ closers s)
  go_high2_text n s = byte limit n mode.High2 false s 48 (48 ∷ 92 ∷ 117 ∷ 100 ∷ 99 ∷ 48 ∷ 48 ∷ 34 ∷ closers s) (does.Go mode.High1) refl ∙ go_high1_text n s

  go_escape_name : (n : ℕ) (s : Stack) → Completes n mode.Escape true s (34 ∷ 34 ∷ 58 ∷ 48 ∷ closers s)
  go_escape_name n s = byte limit n mode.Escape true s 34 (34 ∷ 58 ∷ 48 ∷ closers s) (does.Go mode.Text) refl ∙ go_text_name n s

  go_hex1_name : (n : ℕ) (s : Stack) → Completes n mode.Hex1 true s (48 ∷ 34 ∷ 58 ∷ 48 ∷ closers s)
  go_hex1_name n s = byte limit n mode.Hex1 true s 48 (34 ∷ 58 ∷ 48 ∷ closers s) (does.Go mode.Text) refl ∙ go_text_name n s

  go_hex2_name : (n : ℕ) (s : Stack) → Completes n mode.Hex2 true s (48 ∷ 48 ∷ 34 ∷ 58 ∷ 48 ∷ closers s)
  go_hex2_name n s = byte limit n mode.Hex2 true s 48 (48 ∷ 34 ∷ 58 ∷ 48 ∷ closers s) (does.Go mode.Hex1) refl ∙ go_hex1_name n s

  go_hex3_name : (n : ℕ) (s : Stack) → Completes n mode.Hex3 true s (48 ∷ 48 ∷ 48 ∷ 34 ∷ 58 ∷ 48 ∷ closers s)
  go_hex3_name n s = byte limit n mode.Hex3 true s 48 (48 ∷ 48 ∷ 34 ∷ 58 ∷ 48 ∷ closers s) (does.Go mode.Hex2) refl ∙ go_hex2_name n s

  go_hexd_name : (n : ℕ) (s : Stack) → Completes n mode.HexD true s (48 ∷ 48 ∷ 48 ∷ 34 ∷ 58 ∷ 48 ∷ closers s)
  go_hexd_name n s = byte limit n mode.HexD true s 48 (48 ∷ 48 ∷ 34 ∷ 58 ∷ 48 ∷ closers s) (does.Go mode.Hex2) refl ∙ go_hex2_name n s

  go_hex4_name : (n : ℕ) (s : Stack) → Completes n mode.Hex4 true s (48 ∷ 48 ∷ 48 ∷ 48 ∷ 34 ∷ 58 ∷ 48 ∷ closers s)
  go_hex4_name n s = byte limit n mode.Hex4 true s 48 (48 ∷ 48 ∷ 48 ∷ 34 ∷ 58 ∷ 48 ∷ closers s) (does.Go mode.Hex3) refl ∙ go_hex3_name n s

  go_pair1_name : (n : ℕ) (s : Stack) → Completes n mode.Pair1 true s (48 ∷ 34 ∷ 58 ∷ 48 ∷ closers s)
  go_pair1_name n s = byte limit n mode.Pair1 true s 48 (34 ∷ 58 ∷ 48 ∷ closers s) (does.Go mode.Text) refl ∙ go_text_name n s

  go_pair2_name : (n : ℕ) (s : Stack) → Completes n mode.Pair2 true s (48 ∷ 48 ∷ 34 ∷ 58 ∷ 48 ∷ closers s)
  go_pair2_name n s = byte limit n mode.Pair2 true s 48 (48 ∷ 34 ∷ 58 ∷ 48 ∷ closers s) (does.Go mode.Pair1) refl ∙ go_pair1_name n s

  go_pair3_name : (n : ℕ) (s : Stack) → Completes n mode.Pair3 true s (99 ∷ 48 ∷ 48 ∷ 34 ∷ 58 ∷ 48 ∷ closers s)
  go_pair3_name n s = byte limit n mode.Pair3 true s 99 (48 ∷ 48 ∷ 34 ∷ 58 ∷ 48 ∷ closers s) (does.Go mode.Pair2) refl ∙ go_pair2_name n s

  go_pair4_name : (n : ℕ) (s : Stack) → Completes n mode.Pair4 true s (100 ∷ 99 ∷ 48 ∷ 48 ∷ 34 ∷ 58 ∷ 48 ∷ closers s)
  go_pair4_name n s = byte limit n mode.Pair4 true s 100 (99 ∷ 48 ∷ 48 ∷ 34 ∷ 58 ∷ 48 ∷ closers s) (does.Go mode.Pair3) refl ∙ go_pair3_name n s

  go_pair5_name : (n : ℕ) (s : Stack) → Completes n mode.Pair5 true s (117 ∷ 100 ∷ 99 ∷ 48 ∷ 48 ∷ 34 ∷ 58 ∷ 48 ∷ closers s)
  go_pair5_name n s = byte limit n mode.Pair5 true s 117 (100 ∷ 99 ∷ 48 ∷ 48 ∷ 34 ∷ 58 ∷ 48 ∷ closers s) (does.Go mode.Pair4) refl ∙ go_pair4_name n s

  go_pair6_name : (n : ℕ) (s : Stack) → Completes n mode.Pair6 true s (92 ∷ 117 ∷ 100 ∷ 99 ∷ 48 ∷ 48 ∷ 34 ∷ 58 ∷ 48 ∷ closers s)
  go_pair6_name n s = byte limit n mode.Pair6 true s 92 (117 ∷ 100 ∷ 99 ∷ 48 ∷ 48 ∷ 34 ∷ 58 ∷ 48 ∷ closers s) (does.Go mode.Pair5) refl ∙ go_pair5_name n s

  go_high1_name : (n : ℕ) (s : Stack) → Completes n mode.High1 true s (48 ∷ 92 ∷ 117 ∷ 100 ∷ 99 ∷ 48 ∷ 48 ∷ 34 ∷ 58 ∷ 48 ∷ closers s)
  go_high1_name n s = byte limit n mode.High1 true s 48 (92 ∷ 117 ∷ 100 ∷ 99 ∷ 48 ∷ 48 ∷ 34 ∷ 58 ∷ 48 ∷ closers s) (does.Go mode.Pair6) refl ∙ go_pair6_name n s

  go_high2_name : (n : ℕ) (s : Stack) → Completes n mode.High2 true s (48 ∷ 48 ∷ 92 ∷ 117 ∷ 100 ∷ 99 ∷ 48 ∷ 48 ∷ 34 ∷ 58 ∷ 48 ∷ closers s)
  go_high2_name n s = byte limit n mode.High2 true s 48 (48 ∷ 92 ∷ 117 ∷ 100 ∷ 99 ∷ 48 ∷ 48 ∷ 34 ∷ 58 ∷ 48 ∷ closers s) (does.Go mode.High1) refl ∙ go_high1_name n s

  -- a text is completed to its value, with white space behind it
  record Completion (m : Mode) (naming : Bool) (s : Stack) : Type 0 where
    ys : List ℕ
    u : List ℕ
    w : List ℕ
    is : ys ≡ u ++ w
    spaces : AreSpaces w
    goes : (n : ℕ) → run limit n m naming s ys ≡ ended (n - length w)

  whole_of : (m : Mode) (naming : Bool) (s : Stack) (ys : List ℕ) → ((n : ℕ) → Completes n m naming s ys) → Completion m naming s
  whole_of m naming s ys c = record { ys = ys; u = ys; w = []; is = sym (nil ys); spaces = tt; goes = λ n. let e : n ≡ n - 0 = omega arith in c n ∙ ap ended e }

  -- what completes a text
  completed : (m : Mode) (naming : Bool) (s : Stack) → IsAlive m → Completion m naming s
  completed mode.Value naming s h = whole_of mode.Value naming s (48 ∷ closers s) (λ n. go_value n naming s)
  completed mode.ValueOrClose naming s h = whole_of mode.ValueOrClose naming s (48 ∷ closers s) (λ n. go_valueorclose n naming s)
  completed mode.NameOrClose naming s h = whole_of mode.NameOrClose naming s (34 ∷ 34 ∷ 58 ∷ 48 ∷ closers s) (λ n. go_nameorclose n naming s)
  completed mode.Name naming s h = whole_of mode.Name naming s (34 ∷ 34 ∷ 58 ∷ 48 ∷ closers s) (λ n. go_name n naming s)
  completed mode.Colon naming s h = whole_of mode.Colon naming s (58 ∷ 48 ∷ closers s) (λ n. go_colon n naming s)
  completed mode.After naming [] h = record { ys = 32 ∷ []; u = []; w = 32 ∷ []; is = refl; spaces = (refl, tt); goes = λ n. byte limit n mode.After naming [] 32 [] does.Over refl }
  completed mode.After naming (true ∷ s) h = whole_of mode.After naming (true ∷ s) (closers (true ∷ s)) (λ n. closes n naming (true ∷ s))
  completed mode.After naming (false ∷ s) h = whole_of mode.After naming (false ∷ s) (closers (false ∷ s)) (λ n. closes n naming (false ∷ s))
  completed mode.Text true s h = whole_of mode.Text true s (34 ∷ 58 ∷ 48 ∷ closers s) (λ n. go_text_name n s)
  completed mode.Text false s h = whole_of mode.Text false s (34 ∷ closers s) (λ n. go_text_text n s)
  completed mode.Escape true s h = whole_of mode.Escape true s (34 ∷ 34 ∷ 58 ∷ 48 ∷ closers s) (λ n. go_escape_name n s)
  completed mode.Escape false s h = whole_of mode.Escape false s (34 ∷ 34 ∷ closers s) (λ n. go_escape_text n s)
  completed mode.Hex4 true s h = whole_of mode.Hex4 true s (48 ∷ 48 ∷ 48 ∷ 48 ∷ 34 ∷ 58 ∷ 48 ∷ closers s) (λ n. go_hex4_name n s)
  completed mode.Hex4 false s h = whole_of mode.Hex4 false s (48 ∷ 48 ∷ 48 ∷ 48 ∷ 34 ∷ closers s) (λ n. go_hex4_text n s)
  completed mode.HexD true s h = whole_of mode.HexD true s (48 ∷ 48 ∷ 48 ∷ 34 ∷ 58 ∷ 48 ∷ closers s) (λ n. go_hexd_name n s)
  completed mode.HexD false s h = whole_of mode.HexD false s (48 ∷ 48 ∷ 48 ∷ 34 ∷ closers s) (λ n. go_hexd_text n s)
  completed mode.Hex3 true s h = whole_of mode.Hex3 true s (48 ∷ 48 ∷ 48 ∷ 34 ∷ 58 ∷ 48 ∷ closers s) (λ n. go_hex3_name n s)
  completed mode.Hex3 false s h = whole_of mode.Hex3 false s (48 ∷ 48 ∷ 48 ∷ 34 ∷ closers s) (λ n. go_hex3_text n s)
  completed mode.Hex2 true s h = whole_of mode.Hex2 true s (48 ∷ 48 ∷ 34 ∷ 58 ∷ 48 ∷ closers s) (λ n. go_hex2_name n s)
  completed mode.Hex2 false s h = whole_of mode.Hex2 false s (48 ∷ 48 ∷ 34 ∷ closers s) (λ n. go_hex2_text n s)
  completed mode.Hex1 true s h = whole_of mode.Hex1 true s (48 ∷ 34 ∷ 58 ∷ 48 ∷ closers s) (λ n. go_hex1_name n s)
  completed mode.Hex1 false s h = whole_of mode.Hex1 false s (48 ∷ 34 ∷ closers s) (λ n. go_hex1_text n s)
  completed mode.Low2 naming s h = absurd h
  completed mode.Low1 naming s h = absurd h
  completed mode.High2 true s h = whole_of mode.High2 true s (48 ∷ 48 ∷ 92 ∷ 117 ∷ 100 ∷ 99 ∷ 48 ∷ 48 ∷ 34 ∷ 58 ∷ 48 ∷ closers s) (λ n. go_high2_name n s)
  completed mode.High2 false s h = whole_of mode.High2 false s (48 ∷ 48 ∷ 92 ∷ 117 ∷ 100 ∷ 99 ∷ 48 ∷ 48 ∷ 34 ∷ closers s) (λ n. go_high2_text n s)
  completed mode.High1 true s h = whole_of mode.High1 true s (48 ∷ 92 ∷ 117 ∷ 100 ∷ 99 ∷ 48 ∷ 48 ∷ 34 ∷ 58 ∷ 48 ∷ closers s) (λ n. go_high1_name n s)
  completed mode.High1 false s h = whole_of mode.High1 false s (48 ∷ 92 ∷ 117 ∷ 100 ∷ 99 ∷ 48 ∷ 48 ∷ 34 ∷ closers s) (λ n. go_high1_text n s)
  completed mode.Pair6 true s h = whole_of mode.Pair6 true s (92 ∷ 117 ∷ 100 ∷ 99 ∷ 48 ∷ 48 ∷ 34 ∷ 58 ∷ 48 ∷ closers s) (λ n. go_pair6_name n s)
  completed mode.Pair6 false s h = whole_of mode.Pair6 false s (92 ∷ 117 ∷ 100 ∷ 99 ∷ 48 ∷ 48 ∷ 34 ∷ closers s) (λ n. go_pair6_text n s)
  completed mode.Pair5 true s h = whole_of mode.Pair5 true s (117 ∷ 100 ∷ 99 ∷ 48 ∷ 48 ∷ 34 ∷ 58 ∷ 48 ∷ closers s) (λ n. go_pair5_name n s)
  completed mode.Pair5 false s h = whole_of mode.Pair5 false s (117 ∷ 100 ∷ 99 ∷ 48 ∷ 48 ∷ 34 ∷ closers s) (λ n. go_pair5_text n s)
  completed mode.Pair4 true s h = whole_of mode.Pair4 true s (100 ∷ 99 ∷ 48 ∷ 48 ∷ 34 ∷ 58 ∷ 48 ∷ closers s) (λ n. go_pair4_name n s)
  completed mode.Pair4 false s h = whole_of mode.Pair4 false s (100 ∷ 99 ∷ 48 ∷ 48 ∷ 34 ∷ closers s) (λ n. go_pair4_text n s)
  completed mode.Pair3 true s h = whole_of mode.Pair3 true s (99 ∷ 48 ∷ 48 ∷ 34 ∷ 58 ∷ 48 ∷ closers s) (λ n. go_pair3_name n s)
  completed mode.Pair3 false s h = whole_of mode.Pair3 false s (99 ∷ 48 ∷ 48 ∷ 34 ∷ closers s) (λ n. go_pair3_text n s)
  completed mode.Pair2 true s h = whole_of mode.Pair2 true s (48 ∷ 48 ∷ 34 ∷ 58 ∷ 48 ∷ closers s) (λ n. go_pair2_name n s)
  completed mode.Pair2 false s h = whole_of mode.Pair2 false s (48 ∷ 48 ∷ 34 ∷ closers s) (λ n. go_pair2_text n s)
  completed mode.Pair1 true s h = whole_of mode.Pair1 true s (48 ∷ 34 ∷ 58 ∷ 48 ∷ closers s) (λ n. go_pair1_name n s)
  completed mode.Pair1 false s h = whole_of mode.Pair1 false s (48 ∷ 34 ∷ closers s) (λ n. go_pair1_text n s)
  completed mode.Minus naming s h = whole_of mode.Minus naming s (48 ∷ closers s) (λ n. go_minus n naming s)
  completed mode.Zero naming s h = whole_of mode.Zero naming s (closers s) (λ n. go_zero n naming s)
  completed mode.Whole naming s h = whole_of mode.Whole naming s (closers s) (λ n. go_whole n naming s)
  completed mode.Point naming s h = whole_of mode.Point naming s (48 ∷ closers s) (λ n. go_point n naming s)
  completed mode.Fraction naming s h = whole_of mode.Fraction naming s (closers s) (λ n. go_fraction n naming s)
  completed mode.Exponent naming s h = whole_of mode.Exponent naming s (48 ∷ closers s) (λ n. go_exponent n naming s)
  completed mode.ExponentSign naming s h = whole_of mode.ExponentSign naming s (48 ∷ closers s) (λ n. go_exponentsign n naming s)
  completed mode.ExponentDigits naming s h = whole_of mode.ExponentDigits naming s (closers s) (λ n. go_exponentdigits n naming s)
  completed mode.True3 naming s h = whole_of mode.True3 naming s (114 ∷ 117 ∷ 101 ∷ closers s) (λ n. go_true3 n naming s)
  completed mode.True2 naming s h = whole_of mode.True2 naming s (117 ∷ 101 ∷ closers s) (λ n. go_true2 n naming s)
  completed mode.True1 naming s h = whole_of mode.True1 naming s (101 ∷ closers s) (λ n. go_true1 n naming s)
  completed mode.False4 naming s h = whole_of mode.False4 naming s (97 ∷ 108 ∷ 115 ∷ 101 ∷ closers s) (λ n. go_false4 n naming s)
  completed mode.False3 naming s h = whole_of mode.False3 naming s (108 ∷ 115 ∷ 101 ∷ closers s) (λ n. go_false3 n naming s)
  completed mode.False2 naming s h = whole_of mode.False2 naming s (115 ∷ 101 ∷ closers s) (λ n. go_false2 n naming s)
  completed mode.False1 naming s h = whole_of mode.False1 naming s (101 ∷ closers s) (λ n. go_false1 n naming s)
  completed mode.Null3 naming s h = whole_of mode.Null3 naming s (117 ∷ 108 ∷ 108 ∷ closers s) (λ n. go_null3 n naming s)
  completed mode.Null2 naming s h = whole_of mode.Null2 naming s (108 ∷ 108 ∷ closers s) (λ n. go_null2 n naming s)
  completed mode.Null1 naming s h = whole_of mode.Null1 naming s (108 ∷ closers s) (λ n. go_null1 n naming s)

  goes_text : (front : List ℕ) (m : Mode) (naming : Bool) (s : Stack) → ((n : ℕ) (ys : List ℕ) → run limit n mode.Value false [] (front ++ ys) ≡ run limit n m naming s ys) → Completion m naming s → Begins limit front
  goes_text front m naming s reaches c =
      let bytes = front ++ c.ys in
      let is : bytes ≡ (front ++ c.u) ++ c.w = ap (λ z. front ++ z) c.is ∙ sym (append_assoc front c.u c.w) in
      let t = value_in bytes (front ++ c.u) c.w is (reaches (length bytes) c.ys ∙ c.goes (length bytes)) in
      record {
        more = c.ys;
        before = t.before;
        v = t.v;
        after = c.w;
        json = record { is = is ∙ ap (λ z. z ++ c.w) t.is ∙ append_assoc t.before (spelling t.v) c.w; is_before = t.is_before; is_tree = t.is_tree; is_after = c.spaces };
        within = t.within;
      }

  pub goes_on : (front : List ℕ) (m : Mode) (naming : Bool) (s : Stack) → ((n : ℕ) (ys : List ℕ) → run limit n mode.Value false [] (front ++ ys) ≡ run limit n m naming s ys) → IsAlive m → Begins limit front
  goes_on front m naming s reaches alive = goes_text front m naming s reaches (completed m naming s alive)
