-- What stands there once entries were put behind a journal, in whole or in part.
use Rattle.std.proofs.Common.{◌≡◌, ℕ, List, [], ◌++◌, refl, sym, ap, ◌∙◌, subst, Option, Some, None, take, drop, append_assoc, append-nil, option_map}
use Rattle.std.specs.Prelude.{flat_map, is_some, ◌+◌}
use Rattle.std.proofs.lemmas.List.{take-append-drop}
use Rattle.std.proofs.Math.Seq.{take-add}
use Rattle.grid_types.specs.declared.config.HubConfig.{HubConfig}
use Rattle.grid_types.specs.declared.entry.Entry.{Entry}
use Rattle.grid_journal.specs.Spelled.{entry_bytes}
use Rattle.journal_keeper.specs.Images.{IsImage}
use Rattle.journal_keeper.specs.Keeps.{Adds, Holds, HoldsCut, PiecesGoOn, CutPiecesAreImages}
use Rattle.journal_keeper.proofs.ImageLemmas.{fronts_are_images, written_more}

done : Unit {0}
done = tt

pub pieces_go_on : PiecesGoOn
pieces_go_on config log made None new held adds = subst (Holds config (log ++ made)) (sym adds) done
pieces_go_on config log made (Some bytes) new held adds = subst (Holds config (log ++ made)) (sym adds)
    (ap (λ (l : List ℕ). l ++ flat_map entry_bytes made) held ∙ written_more config log made)

pub cut_pieces_are_images : CutPiecesAreImages
cut_pieces_are_images config log made None new taken held part = subst (HoldsCut config log made) (sym part.0) done
cut_pieces_are_images config log made (Some bytes) new taken held part = subst (HoldsCut config log made) (sym part.0)
    (subst (λ (l : List ℕ). IsImage config log made (l ++ take taken (flat_map entry_bytes made))) (sym held)
    (fronts_are_images config log made (take taken (flat_map entry_bytes made)) (drop taken (flat_map entry_bytes made)) (take-append-drop taken (flat_map entry_bytes made))))

-- entries behind a journal, by the piece that has their bytes
pub piece_goes_on : (config : HubConfig) (log made : List Entry) (piece : List ℕ) (old new : Option (List ℕ)) → Holds config log old → Adds old new piece
    → piece ≡ flat_map entry_bytes made → Holds config (log ++ made) new
piece_goes_on config log made piece old new held adds is = pieces_go_on config log made old new held (subst (Adds old new) is adds)

pub nothing_yet : (old : Option (List ℕ)) → Adds old old []
nothing_yet None = refl
nothing_yet (Some bytes) = ap Some (sym (append-nil bytes))

-- one piece behind another
pub then_too : (old mid new : Option (List ℕ)) (xs ys : List ℕ) → Adds old mid xs → Adds mid new ys → Adds old new (xs ++ ys)
then_too None mid new xs ys p q = q ∙ ap (option_map (λ (bytes : List ℕ). bytes ++ ys)) p
then_too (Some bytes) mid new xs ys p q =
    q ∙ (ap (option_map (λ (l : List ℕ). l ++ ys)) p ∙ ap Some (append_assoc bytes xs ys))

-- what is left behind so many bytes, and it stands there too
pub the_rest_too : (old mid new : Option (List ℕ)) (piece : List ℕ) (at : ℕ) → Adds old mid (take at piece) → Adds mid new (drop at piece) → Adds old new piece
the_rest_too old mid new piece at p q = subst (Adds old new) (take-append-drop at piece) (then_too old mid new (take at piece) (drop at piece) p q)

pub taken_more : (old mid new : Option (List ℕ)) (piece : List ℕ) (at count : ℕ) → Adds old mid (take at piece) → Adds mid new (take count (drop at piece))
    → Adds old new (take (at + count) piece)
taken_more old mid new piece at count p q = subst (Adds old new) (sym (take-add at count piece)) (then_too old mid new (take at piece) (take count (drop at piece)) p q)

-- what tells its bytes goes on to
pub tells_still : (old new : Option (List ℕ)) (piece : List ℕ) → Adds old new piece → is_some new ≡ is_some old
tells_still None new piece adds = ap is_some adds
tells_still (Some bytes) new piece adds = ap is_some adds
