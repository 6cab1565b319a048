-- The path of a target, by whether it is text.
use Rattle.std.proofs.Common.{◌≡◌, ℕ, Bool, true, false, List, refl, sym, ap, subst, ◌∙◌}
use Rattle.std.specs.Str.{IsUtf8, is_utf8}
use Rattle.std.proofs.lemmas.Str.{is_utf8-from_IsUtf8, IsUtf8-from_is_utf8}
use Rattle.loop_node.specs.Paths.{Path, unknown, up_to, path_of_text, path_of}
use Rattle.loop_node.proofs.SeekLemmas.{if_true, if_false}

is_false : (b : Bool) → (b ≡ true → ⊥) → b ≡ false
is_false true h = absurd (h refl)
is_false false h = refl

pub path_known : (target text : List ℕ) (told : Path) → text ≡ up_to 63 target → IsUtf8 text → told ≡ path_of_text text → told ≡ path_of target
unfolding path_of
path_known target text told is utf8 h =
    h ∙ ap path_of_text is
    ∙ sym (if_true (is_utf8 (up_to 63 target)) (path_of_text (up_to 63 target)) unknown (is_utf8-from_IsUtf8 (up_to 63 target) (subst IsUtf8 is utf8)))

pub path_other : (target text : List ℕ) → text ≡ up_to 63 target → (IsUtf8 text → ⊥) → unknown ≡ path_of target
unfolding path_of
path_other target text is other =
    sym (if_false (is_utf8 (up_to 63 target)) (path_of_text (up_to 63 target)) unknown
    (is_false (is_utf8 (up_to 63 target)) (λ e. other (subst IsUtf8 (sym is) (IsUtf8-from_is_utf8 (up_to 63 target) e)))))
