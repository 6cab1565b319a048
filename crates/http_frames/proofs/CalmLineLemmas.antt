-- Which bytes leave an unfinished chunk line unfinished.
use Rattle.std.proofs.Common.{◌≡◌, ℕ, ◌<◌, not, ◌==◌, Bool, true, false, List, [], ◌∷◌, ◌++◌, length, refl, sym, ap, ◌∙◌, subst, arith, append_assoc, append-nil, length-append, inl, inr}
use Rattle.std.specs.Prelude.{Option, Some, None}
use Rattle.std.proofs.lemmas.Bool.{false≢true, ne_eqb}
use Rattle.std.proofs.lemmas.List.Elements.{All-head, All-tail, All-nil, All-cons}
use Rattle.std.specs.Char.{is_ascii_hexdigit}
use Rattle.httparse.specs.Grammar.{is_ows, is_extension_byte, AllPass, ChunkLine, IsChunkLine, print_chunk_line, print_extension, HasNoChunkLine, MayBecomeChunkLine}
use Rattle.http_frames.specs.declared.calm.Calm.TheVariants as calm
use Rattle.http_frames.specs.Calm.{is_no_semicolon, IsPartOfLine, LineStays}
use Rattle.http_frames.proofs.RoomLemmas.{cut_of, HasNoFeed, HasNoFeed-of}
use Rattle.http_frames.proofs.MoreLemmas.{all_front}
use Rattle.http_frames.proofs.CalmLemmas.{pass-append, in_text, spaces_of, extension_of}

line_is : (l : ChunkLine) → print_chunk_line l ≡ (l.digits ++ l.pad) ++ (print_extension l.extension ++ 13 ∷ 10 ∷ [])
unfolding print_chunk_line
line_is l = append_assoc (l.digits ++ l.pad) (print_extension l.extension) (13 ∷ 10 ∷ [])

line_ends : (l : ChunkLine) → (w : List ℕ) × (print_chunk_line l ≡ w ++ 10 ∷ [])
line_ends l =
    let front = l.digits ++ l.pad in
    let back = print_extension l.extension ++ 13 ∷ [] in (
      front ++ back,
      line_is l ∙ ap (λ (t : List ℕ). front ++ t) (sym (append_assoc (print_extension l.extension) (13 ∷ []) (10 ∷ [])))
          ∙ sym (append_assoc front back (10 ∷ [])),
    )

no_line_on : (text part : List ℕ) → HasNoChunkLine text → HasNoFeed part → HasNoChunkLine (text ++ part)
no_line_on text part none x l rest reads =
    let there = in_text text part (print_chunk_line l) rest (line_ends l) reads.1 x in
    none l there.0 (reads.0, there.1)

all_back : (test : ℕ → Bool) (a b : List ℕ) → AllPass test (a ++ b) → AllPass test b
all_back test [] b all = all
all_back test (v ∷ a) b all = all_back test a b (All-tail (λ u. test u ≡ true) v (a ++ b) all)

all_of : (test other : ℕ → Bool) (a : List ℕ) → ((b : ℕ) → test b ≡ true → other b ≡ true) → AllPass test a → AllPass other a
all_of test other [] step all = All-nil (λ v. other v ≡ true)
all_of test other (v ∷ a) step all =
    let P : ℕ → Type 0 = λ u. test u ≡ true in
    All-cons (λ u. other u ≡ true) v a (step v (All-head P v a all)) (all_of test other a step (All-tail P v a all))

-- where a test fails at a number, what passes it is another one
differs : (test : ℕ → Bool) (k : ℕ) → test k ≡ false → (b : ℕ) → test b ≡ true → not (b == k) ≡ true
differs test k fails b pass =
    rw (ne_eqb b k (λ e. false≢true (sym fails ∙ subst (λ (v : ℕ). test v ≡ true) e pass))) refl

-- no semicolon stands before the extension
front_plain : (l : ChunkLine) → IsChunkLine l → AllPass is_no_semicolon (l.digits ++ l.pad)
front_plain l ok =
    pass-append is_no_semicolon l.digits l.pad
    (all_of is_ascii_hexdigit is_no_semicolon l.digits (differs is_ascii_hexdigit 59 refl) ok.digits.2)
    (all_of is_ows is_no_semicolon l.pad (differs is_ows 59 refl) ok.pad)

abbrev pub line_of : List ℕ → List ℕ → Option (List ℕ) → ChunkLine
line_of digits pad extension = record { digits = digits; pad = pad; extension = extension }

may_become : (text : List ℕ) (l : ChunkLine) → IsChunkLine l → text ≡ (l.digits ++ l.pad) ++ print_extension l.extension
    → MayBecomeChunkLine text
may_become text l ok e = (
  13 ∷ 10 ∷ [],
  l,
  (
    ok,
    ap (λ (t : List ℕ). t ++ 13 ∷ 10 ∷ []) e
        ∙ append_assoc (l.digits ++ l.pad) (print_extension l.extension) (13 ∷ 10 ∷ [])
        ∙ sym (line_is l) ∙ sym (append-nil _),
  ),
)

-- ---- white space before an extension

padded : (text part digits pad : List ℕ) → IsChunkLine (line_of digits pad None) → text ≡ digits ++ pad → AllPass is_ows part
    → MayBecomeChunkLine (text ++ part)
padded text part digits pad ok e more =
    may_become (text ++ part) (line_of digits (pad ++ part) None)
    (record { digits = ok.digits; pad = pass-append is_ows pad part ok.pad more; extension = tt })
    (ap (λ (t : List ℕ). t ++ part) e ∙ append_assoc digits pad part ∙ sym (append-nil _))

-- what is behind the front has a semicolon or a CR
behind_front : (l : ChunkLine) (x more : List ℕ) → print_extension l.extension ++ 13 ∷ 10 ∷ [] ≡ x ++ more
    → AllPass is_no_semicolon x → AllPass is_extension_byte x → x ≡ []
behind_front l [] more e plain inside = refl
behind_front l (b ∷ x) more e plain inside = of_extension l.extension refl
  where
    of_extension : (o : Option (List ℕ)) → l.extension ≡ o → b ∷ x ≡ []
    of_extension None is =
        let cut : 13 ∷ 10 ∷ [] ≡ b ∷ (x ++ more) =
        sym (ap (λ (o : Option (List ℕ)). print_extension o ++ 13 ∷ 10 ∷ []) is) ∙ e in
        let same : 13 ≡ b = cc in
        absurd (false≢true (subst (λ (v : ℕ). is_extension_byte v ≡ true) (sym same) (All-head (λ u. is_extension_byte u ≡ true) b x inside)))
    of_extension (Some text) is =
        let cut : 59 ∷ (text ++ 13 ∷ 10 ∷ []) ≡ b ∷ (x ++ more) =
        sym (ap (λ (o : Option (List ℕ)). print_extension o ++ 13 ∷ 10 ∷ []) is) ∙ e in
        let same : 59 ≡ b = cc in
        absurd (false≢true (subst (λ (v : ℕ). is_no_semicolon v ≡ true) (sym same) (All-head (λ u. is_no_semicolon u ≡ true) b x plain)))

pub padding_stays : (text : List ℕ) → IsPartOfLine text → 0 < length text → AllPass is_no_semicolon text
    → AllPass is_extension_byte text → LineStays calm.Padding text
padding_stays text begun some plain inside part is =
    let more = spaces_of part is in
    (no_line_on text part begun.0 (HasNoFeed-of is_ows part refl more), goes begun.1 more)
  where
    goes : MayBecomeChunkLine text → AllPass is_ows part → MayBecomeChunkLine (text ++ part)
    goes (rest, l, reads) more =
        let front = l.digits ++ l.pad in
        let back = print_extension l.extension ++ 13 ∷ 10 ∷ [] in
        elim (cut_of text rest front back (reads.1 ∙ append-nil _ ∙ line_is l)) [
          | inl k ↦
              let none : k.0 ≡ [] =
              behind_front l k.0 rest k.2 (all_back is_no_semicolon front k.0 (subst (AllPass is_no_semicolon) k.1 plain))
              (all_back is_extension_byte front k.0 (subst (AllPass is_extension_byte) k.1 inside)) in
              padded text part l.digits l.pad (record { digits = reads.0.digits; pad = reads.0.pad; extension = tt })
              (k.1 ∙ ap (λ (t : List ℕ). front ++ t) none ∙ append-nil front) more
          | inr k ↦ elim (cut_of text (k.0 ∷ k.1) l.digits l.pad (sym k.2)) [
            | inl j ↦
                padded text part l.digits j.0 (record {
                  digits = reads.0.digits;
                  pad = all_front is_ows j.0 (k.0 ∷ k.1) (subst (AllPass is_ows) j.2 reads.0.pad);
                  extension = tt;
                })
                j.1 more
            | inr j ↦
                padded text part text [] (record {
                  digits = (
                    some,
                    omega (arith, reads.0.digits.1, ap length j.2, length-append text (j.0 ∷ j.1)),
                    all_front is_ascii_hexdigit text (j.0 ∷ j.1) (subst (AllPass is_ascii_hexdigit) j.2 reads.0.digits.2),
                  );
                  pad = All-nil (λ v. is_ows v ≡ true);
                  extension = tt;
                })
                (sym (append-nil text)) more
          ]
        ]

-- ---- the bytes of an extension

pub extension_stays : (text : List ℕ) → IsPartOfLine text → ¬ (AllPass is_no_semicolon text) → AllPass is_extension_byte text
    → LineStays calm.Extension text
extension_stays text begun begins inside part is =
    let more = extension_of part is in
    (no_line_on text part begun.0 (HasNoFeed-of is_extension_byte part refl more), goes begun.1 more)
  where
    goes : MayBecomeChunkLine text → AllPass is_extension_byte part → MayBecomeChunkLine (text ++ part)
    goes (rest, l, reads) more =
        let front = l.digits ++ l.pad in
        let back = print_extension l.extension ++ 13 ∷ 10 ∷ [] in
        elim (cut_of text rest front back (reads.1 ∙ append-nil _ ∙ line_is l)) [
          | inl k ↦ of_behind k.0 k.1 k.2
          | inr k ↦ absurd (begins (all_front is_no_semicolon text (k.0 ∷ k.1) (subst (AllPass is_no_semicolon) k.2 (front_plain l reads.0))))
        ]
      where
        of_behind : (x : List ℕ) → text ≡ (l.digits ++ l.pad) ++ x → print_extension l.extension ++ 13 ∷ 10 ∷ [] ≡ x ++ rest
            → MayBecomeChunkLine (text ++ part)
        of_behind [] e back = absurd (begins (subst (AllPass is_no_semicolon) (sym (e ∙ append-nil _)) (front_plain l reads.0)))
        of_behind (b ∷ x) e back = of_extension l.extension refl
          where
            here : AllPass is_extension_byte (b ∷ x)
            here = all_back is_extension_byte (l.digits ++ l.pad) (b ∷ x) (subst (AllPass is_extension_byte) e inside)

            of_extension : (o : Option (List ℕ)) → l.extension ≡ o → MayBecomeChunkLine (text ++ part)
            of_extension None none =
                let cut : 13 ∷ 10 ∷ [] ≡ b ∷ (x ++ rest) =
                sym (ap (λ (o : Option (List ℕ)). print_extension o ++ 13 ∷ 10 ∷ []) none) ∙ back in
                let same : 13 ≡ b = cc in
                absurd (false≢true (subst (λ (v : ℕ). is_extension_byte v ≡ true) (sym same) (All-head (λ u. is_extension_byte u ≡ true) b x here)))
            of_extension (Some words) some =
                let cut : 59 ∷ (words ++ 13 ∷ 10 ∷ []) ≡ b ∷ (x ++ rest) =
                sym (ap (λ (o : Option (List ℕ)). print_extension o ++ 13 ∷ 10 ∷ []) some) ∙ back in
                let same : 59 ≡ b = cc in
                may_become (text ++ part) (line_of l.digits l.pad (Some (x ++ part)))
                (record {
                  digits = reads.0.digits;
                  pad = reads.0.pad;
                  extension = pass-append is_extension_byte x part (All-tail (λ u. is_extension_byte u ≡ true) b x here) more;
                })
                (ap (λ (t : List ℕ). t ++ part) e ∙ append_assoc (l.digits ++ l.pad) (b ∷ x) part
                ∙ ap (λ (v : ℕ). (l.digits ++ l.pad) ++ v ∷ (x ++ part)) (sym same))
