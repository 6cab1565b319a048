-- The sessions of a node, around the one with an id.
use Rattle.std.proofs.Common.{◌≡◌, ℕ, ◌+◌, length, take, drop, get_or, true, false, List, [], ◌∷◌, ◌++◌, Option, Some, None, option_map, sym, ap, ◌∙◌}
use Rattle.std.proofs.Math.ListN.{set}
use Rattle.std.proofs.Math.Seq.{get_or-append_seam, set-append_seam, take-append_seam, drop-append-add}
use Rattle.std.specs.List.{list_any}
use Rattle.loop_node.specs.declared.node.Session.{Session}
use Rattle.loop_node.specs.Sessions.{has_id, url_at, without, moved}
use Rattle.loop_node.specs.Sizes.{IsFound}
use Rattle.loop_node.proofs.SeekLemmas.{if_true, if_false, left_false, right_false, find_none, find_first}

abbrev url_in : Option Session → Option (List ℕ)
url_in o = option_map (λ (s : Session). s.url) o

pub url_none : (id : List ℕ) (sessions : List Session) → list_any (has_id id) sessions ≡ false → url_at id sessions ≡ None
url_none id sessions h = ap url_in (find_none (has_id id) sessions h)

pub url_found : (id : List ℕ) (front : List Session) (s : Session) (rest : List Session) → list_any (has_id id) front ≡ false → has_id id s ≡ true →
    url_at id (front ++ s ∷ rest) ≡ Some s.url
url_found id front s rest none has = ap url_in (find_first (has_id id) front s rest none has)

pub without_found : (id : List ℕ) (front : List Session) (s : Session) (rest : List Session) → list_any (has_id id) front ≡ false → has_id id s ≡ true →
    without id (front ++ s ∷ rest) ≡ front ++ rest
without_found id [] s rest none has = if_true (has_id id s) rest (s ∷ without id rest) has
without_found id (f ∷ front) s rest none has =
    if_false (has_id id f) (front ++ s ∷ rest) (f ∷ without id (front ++ s ∷ rest)) (left_false (has_id id f) (list_any (has_id id) front) none)
    ∙ ap (λ (xs : List Session). f ∷ xs) (without_found id front s rest (right_false (has_id id f) (list_any (has_id id) front) none) has)

pub moved_found : (id url : List ℕ) (front : List Session) (s : Session) (rest : List Session) → list_any (has_id id) front ≡ false → has_id id s ≡ true →
    moved id url (front ++ s ∷ rest) ≡ front ++ record s { url = url } ∷ rest
moved_found id url [] s rest none has = if_true (has_id id s) (record s { url = url } ∷ rest) (s ∷ moved id url rest) has
moved_found id url (f ∷ front) s rest none has =
    if_false (has_id id f) (record f { url = url } ∷ front ++ s ∷ rest) (f ∷ moved id url (front ++ s ∷ rest)) (left_false (has_id id f) (list_any (has_id id) front) none)
    ∙ ap (λ (xs : List Session). f ∷ xs) (moved_found id url front s rest (right_false (has_id id f) (list_any (has_id id) front) none) has)

-- ---- at the place of the session that was found

at_place : (id : List ℕ) (sessions : List Session) (place : ℕ) (f : IsFound id sessions place) (s : Session) → s ≡ get_or sessions place s → s ≡ f.session
at_place id sessions place f s is =
    is ∙ ap (λ (xs : List Session). get_or xs place s) f.are ∙ ap (λ (n : ℕ). get_or (f.front ++ f.session ∷ f.rest) n s) f.place_is ∙ get_or-append_seam f.front f.session f.rest s

pub put_at : (id url : List ℕ) (sessions : List Session) (place : ℕ) (s : Session) → IsFound id sessions place → s ≡ get_or sessions place s →
    set sessions place (record s { url = url }) ≡ moved id url sessions
put_at id url sessions place s f is =
    ap (λ (x : Session). set sessions place (record x { url = url })) (at_place id sessions place f s is)
    ∙ ap (λ (xs : List Session). set xs place (record f.session { url = url })) f.are
    ∙ ap (λ (n : ℕ). set (f.front ++ f.session ∷ f.rest) n (record f.session { url = url })) f.place_is
    ∙ set-append_seam f.front f.session f.rest (record f.session { url = url })
    ∙ sym (moved_found id url f.front f.session f.rest f.none_before f.has)
    ∙ ap (moved id url) (sym f.are)

taken_out : (front : List Session) (s : Session) (rest : List Session) → take (length front) (front ++ s ∷ rest) ++ drop (length front + 1) (front ++ s ∷ rest) ≡ front ++ rest
taken_out front s rest = ap (λ (xs : List Session). xs ++ drop (length front + 1) (front ++ s ∷ rest)) (take-append_seam front (s ∷ rest)) ∙ ap (λ (xs : List Session). front ++ xs) (drop-append-add front (s ∷ rest) 1)

pub take_at : (id : List ℕ) (sessions : List Session) (place : ℕ) → IsFound id sessions place → take place sessions ++ drop (place + 1) sessions ≡ without id sessions
take_at id sessions place f =
    ap (λ (xs : List Session). take place xs ++ drop (place + 1) xs) f.are
    ∙ ap (λ (n : ℕ). take n (f.front ++ f.session ∷ f.rest) ++ drop (n + 1) (f.front ++ f.session ∷ f.rest)) f.place_is
    ∙ taken_out f.front f.session f.rest
    ∙ sym (without_found id f.front f.session f.rest f.none_before f.has)
    ∙ ap (without id) (sym f.are)

pub url_at_place : (id : List ℕ) (sessions : List Session) (place : ℕ) (s : Session) → IsFound id sessions place → s ≡ get_or sessions place s → url_at id sessions ≡ Some s.url
url_at_place id sessions place s f is =
    ap (url_at id) f.are ∙ url_found id f.front f.session f.rest f.none_before f.has
    ∙ ap (λ (x : Session). Some x.url) (sym (at_place id sessions place f s is))

pub url_is : (id : List ℕ) (sessions : List Session) (place : ℕ) (f : IsFound id sessions place) → url_at id sessions ≡ Some f.session.url
url_is id sessions place f = ap (url_at id) f.are ∙ url_found id f.front f.session f.rest f.none_before f.has
