-- Parts that are read one behind the other.
use Rattle.std.proofs.Common.{◌≡◌, ℕ, ◌+◌, ◌<◌, ◌≤◌, ◌^◌, false, true, List, [], ◌∷◌, ◌++◌, length, refl, sym, ap, subst, ◌∙◌, arith, append_assoc, append-nil, Result, Ok, Err, OnErr, OnOk, IfOk}
use Rattle.std.specs.Prelude.{Option}
use Rattle.std.specs.Result.{is_err}
use Rattle.std.proofs.lemmas.List.{length-append}
use Rattle.grid_outside.specs.Told.{Gains, SourceView, TookFront}
use Rattle.grid_outside.specs.StreamLaws.{gains_more, rose_later, none_before}
use Rattle.block_frames.specs.Blocks.{ReadsBlock, ReadsSized, in_block}
use Rattle.block_frames.specs.Frames.{length_bytes}
use Rattle.block_frames.specs.Inputs.{Reads, ReadsOn, ReadsPart, ReadsPiece, ReadsSome}
use Rattle.block_frames.specs.declared.parts.Part.TheVariants as part
use Rattle.block_frames.specs.declared.parts.ReadFault.{ReadFault}
use Rattle.block_frames.specs.declared.reading.NextBlock.{NextBlock}
use Rattle.block_frames.specs.declared.reading.NextBlock.TheVariants as next

pub on_err : {A E P : Type 0} (r : Result A E) → P → OnErr r P
on_err (Ok x) p = tt
on_err (Err e) p = p

pub on_err_map : {A E P Q : Type 0} (r : Result A E) → (P → Q) → OnErr r P → OnErr r Q
on_err_map (Ok x) f p = tt
on_err_map (Err e) f p = f p

pub err_of : {A E P : Type 0} (r : Result A E) → is_err r ≡ true → OnErr r P → P
err_of (Ok x) e p = cc
err_of (Err x) e p = p

pub ok_of : {A E P : Type 0} (r : Result A E) → is_err r ≡ false → OnOk r P → P
ok_of (Ok x) e p = p
ok_of (Err x) e p = cc

pub some_behind : (bytes : List ℕ) (left fewer : ℕ) (a b c : SourceView) → Reads bytes left fewer a b → ReadsSome b c → ReadsSome a c
some_behind bytes left fewer a b c r s = record { bytes = bytes ++ s.bytes; given = gains_more a.given b.given c.given bytes s.bytes r.given s.given }

pub reads_more : (xs ys : List ℕ) (left mid fewer : ℕ) (a b c : SourceView) → Reads xs left mid a b → Reads ys mid fewer b c → Reads (xs ++ ys) left fewer a c
reads_more xs ys left mid fewer a b c r s = record {
  given = gains_more a.given b.given c.given xs ys r.given s.given;
  count = let l = length-append xs ys in omega (arith, r.count, s.count, l);
  ends_later = omega (arith, r.ends_later, s.ends_later);
}

empty : (xs : List ℕ) → length xs ≡ 0 → xs ≡ []
empty [] e = refl
empty (x ∷ xs) e = absurd (omega (arith, e))

pub ended_part : (wanted left fewer count room : ℕ) (before after : List ℕ) (a b c : SourceView) → ReadsOn wanted left fewer before a b → ReadsPiece count room before after b c →
    count ≡ 0 → length before < wanted → 0 < fewer → ReadsPart part.Ended wanted left fewer after a c
ended_part wanted left fewer count room before after a b c on p zero less some =
    let none : p.piece ≡ [] = empty p.piece (p.size ∙ zero) in
    let same : after ≡ before = p.bytes_are ∙ ap (λ (ps : List ℕ). before ++ ps) none ∙ append-nil before in
    record {
      reads = record {
        given = subst (λ (bs : List ℕ). Gains a.given c.given bs) (sym p.bytes_are) (gains_more a.given b.given c.given before p.piece on.reads.given p.given);
        count = subst (λ (bs : List ℕ). left ≡ length bs + fewer) (sym same) on.reads.count;
        ends_later = omega (arith, on.reads.ends_later, p.ends_later);
      };
      whole = λ e. absurd cc;
      short = λ e. subst (λ (bs : List ℕ). length bs < wanted) (sym same) less;
      ended = λ e. rose_later a.ends b.ends c.ends on.reads.ends_later (p.ended zero);
      some = λ e. some;
      limited = λ e. absurd cc;
      none = λ e. absurd cc;
    }

module _ (most size left mid fewer : ℕ) (a b c : SourceView) where
  sized_next : (n : NextBlock) → Reads (length_bytes size) left mid a b → size < 2 ^ 32 → ReadsSized most size n mid fewer b c → ReadsBlock most n left fewer a c
  sized_next (next.Block bytes) r small s =
      let behind = reads_more (length_bytes size) bytes left mid fewer a b c r s.0 in (
        subst (λ (n : ℕ). Reads (length_bytes n ++ bytes) left fewer a c) (sym s.1) behind,
        subst (λ (n : ℕ). n ≤ most) (sym s.1) s.2,
      )
  sized_next next.Between r small s = absurd s
  sized_next next.Inside r small s =
      (length_bytes size ++ s.0, reads_more (length_bytes size) s.0 left mid fewer a b c r s.1, in_block size s.0 s.3 s.2 refl, rose_later a.ends b.ends c.ends r.ends_later s.4, s.5)
  sized_next next.AtLimit r small s =
      (length_bytes size ++ s.0, reads_more (length_bytes size) s.0 left mid fewer a b c r s.1, in_block size s.0 s.3 s.2 refl, s.4)
  sized_next next.TooLong r small s = (
    size,
    subst (λ (bs : List ℕ). Reads bs left fewer a c) (append-nil (length_bytes size)) (reads_more (length_bytes size) [] left mid fewer a b c r s.0),
    s.1,
    small,
  )

  pub sized_block : (r : Result NextBlock ReadFault) (bytes : List ℕ) → Reads bytes left mid a b → bytes ≡ length_bytes size → size < 2 ^ 32 →
      IfOk r (λ n. ReadsSized most size n mid fewer b c) → IfOk r (λ n. ReadsBlock most n left fewer a c)
  sized_block (Ok n) bytes r e small s = sized_next n (subst (λ (bs : List ℕ). Reads bs left mid a b) e r) small s
  sized_block (Err f) bytes r e small s = tt

-- ---- what is written

pub front_more : (a b : Option (List ℕ)) (xs ys : List ℕ) → TookFront a b xs → TookFront a b (xs ++ ys)
front_more a b xs ys t = record {
  front = t.front;
  unwritten = t.unwritten ++ ys;
  some = λ e. t.some (none_before t.unwritten ys e);
  are = sym (append_assoc t.front t.unwritten ys) ∙ ap (λ (bs : List ℕ). bs ++ ys) t.are;
  gains = t.gains;
}

pub front_behind : (a b c : Option (List ℕ)) (xs ys : List ℕ) → Gains a b xs → TookFront b c ys → TookFront a c (xs ++ ys)
front_behind a b c xs ys g t = record {
  front = xs ++ t.front;
  unwritten = t.unwritten;
  some = t.some;
  are = append_assoc xs t.front t.unwritten ∙ ap (λ (bs : List ℕ). xs ++ bs) t.are;
  gains = gains_more a b c xs t.front g t.gains;
}
