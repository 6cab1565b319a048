-- Rows stand for one history.
use Rattle.std.proofs.Common.{◌≡◌, ℕ, Bool, true, false, ◌&&◌, List, ◌∷◌, map, None, refl, sym, ◌∙◌, ap, subst}
use Rattle.grid_types.specs.declared.config.HubConfig.{HubConfig}
use Rattle.grid_types.specs.declared.entry.Entry.{Entry}
use Rattle.grid_types.specs.declared.names.SlotId.{SlotId}
use Rattle.grid_types.specs.Tokens.{Closing, ticket_of, reservation_of, is_good_reservation}
use Rattle.grid_types.specs.Permitted.{is_start_failure}
use Rattle.grid_types.specs.HistoryLaws.{Known}
use Rattle.grid_types.specs.Legal.{legal}
use Rattle.grid_types.specs.Laws.{CallsStayLegal, is_good_call}
use Rattle.grid_types.specs.Calls.{Call}
use Rattle.grid_types.specs.HubAnswers.{hub, after_call}
use Rattle.hub_core.specs.Serves.{MayCall}
use Rattle.grid_journal.specs.declared.rows.Row.{Row}
use Rattle.grid_journal.specs.declared.rows.Row.TheVariants as row
use Rattle.grid_journal.specs.RowSpelled.{row_bytes}
use Rattle.grid_journal.specs.RowReads.{OneRowSpelling}
use Rattle.grid_keeper.specs.Replays.{Names, row_moment, Goes, Replays, IsImage}
use Rattle.grid_keeper.proofs.ThereLemmas.{one_slot}

-- ---- one call

freed_alike : (c : HubConfig) (H : List Entry) (t u : Closing) (at : ℕ) → t.slot ≡ u.slot → after_call c H 0 (Call.freed t) at ≡ after_call c H 0 (Call.freed u) at
unfolding hub
freed_alike c H t u at same = rw same refl

first_of : (a b : Bool) → (a && b) ≡ true → a ≡ true
first_of true b e = refl
first_of false b e = absurd (cc e)

module _ (known : Known) (c : HubConfig) (H : List Entry) (is_legal : legal c H ≡ true) where
  by_name : (a b named : Call) (at : ℕ) → a ≡ named → b ≡ named → after_call c H 0 a at ≡ after_call c H 0 b at
  by_name a b named at x y = ap (λ (k : Call). after_call c H 0 k at) (x ∙ sym y)

  -- the calls that a row names lead to one history
  one_call : (r : Row) (a b : Call) (at : ℕ) → Names H r a → Names H r b → MayCall H 0 a → MayCall H 0 b → after_call c H 0 a at ≡ after_call c H 0 b at
  one_call (row.Register node m) a b at x y may too = by_name a b (Call.register node) at x y
  one_call (row.Beat n m) a b at x y may too = by_name a b (Call.beat n None) at x y
  one_call (row.Drain n m) a b at x y may too = by_name a b (Call.drain n) at x y
  one_call (row.Remove n m) a b at x y may too = by_name a b (Call.remove n) at x y
  one_call (row.Enqueue choices m) a b at x y may too = by_name a b (Call.enqueue choices) at x y
  one_call (row.Poll r m) a b at x y may too = by_name a b (Call.poll (ticket_of H r)) at x y
  one_call (row.Dispatch m) a b at x y may too = by_name a b Call.dispatch at x y
  one_call (row.Bind r id caps m) a b at (s, x) (t, y) may too =
      let first : is_good_reservation H 0 r s ≡ true = subst (λ (k : Call). is_good_call H 0 k ≡ true) x may.is_good in
      let second : is_good_reservation H 0 r t ≡ true = subst (λ (k : Call). is_good_call H 0 k ≡ true) y too.is_good in
      let same : s ≡ t = one_slot known c H r s t is_legal first second in
      by_name a b (Call.bind (reservation_of H r t) id caps) at (x ∙ ap (λ (u : SlotId). Call.bind (reservation_of H r u) id caps) same) y
  one_call (row.Fail r w m) a b at (s, x) (t, y) may too =
      let first : is_good_reservation H 0 r s ≡ true = first_of (is_good_reservation H 0 r s) (is_start_failure w) (subst (λ (k : Call). is_good_call H 0 k ≡ true) x may.is_good) in
      let second : is_good_reservation H 0 r t ≡ true = first_of (is_good_reservation H 0 r t) (is_start_failure w) (subst (λ (k : Call). is_good_call H 0 k ≡ true) y too.is_good) in
      let same : s ≡ t = one_slot known c H r s t is_legal first second in
      by_name a b (Call.fail (reservation_of H r t) w) at (x ∙ ap (λ (u : SlotId). Call.fail (reservation_of H r u) w) same) y
  one_call (row.Touch x b m) p q at x1 y1 may too = by_name p q (Call.touch x b) at x1 y1
  one_call (row.End x b m) p q at x1 y1 may too = by_name p q (Call.end x b) at x1 y1
  one_call (row.Freed s) a b at (t, slot, x) (u, slot_too, y) may too =
      ap (λ (k : Call). after_call c H 0 k at) x ∙ freed_alike c H t u at (slot ∙ sym slot_too) ∙ ap (λ (k : Call). after_call c H 0 k at) (sym y)
  one_call (row.Sweep m) a b at x y may too = by_name a b Call.sweep at x y
  one_call (row.Expire m) a b at x y may too = by_name a b Call.expire at x y
  one_call (row.Clear m) a b at x y may too = by_name a b Call.clear at x y

  goes_one : (r : Row) (L M : List Entry) → Goes c H r L → Goes c H r M → L ≡ M
  goes_one r L M first second = first.goes_on ∙ one_call r first.call second.call (row_moment r) first.named second.named first.may second.may ∙ sym second.goes_on

-- ---- all rows

replays_legal : CallsStayLegal → (c : HubConfig) (rows : List Row) (H : List Entry) → Replays c rows H → legal c H ≡ true
replays_legal stay c rows H Replays.nothing = refl
replays_legal stay c rows H (Replays.one_more r older before later replays goes) =
    subst (λ (L : List Entry). legal c L ≡ true) (sym goes.goes_on) (stay c before 0 goes.call (row_moment r) (replays_legal stay c older before replays) goes.may.is_good)

heads : {X : Type 0} (x y : X) (xs ys : List X) → x ∷ xs ≡ y ∷ ys → x ≡ y
heads x y xs ys e = cc

tails : {X : Type 0} (x y : X) (xs ys : List X) → x ∷ xs ≡ y ∷ ys → xs ≡ ys
tails x y xs ys e = cc

one_history : Known → CallsStayLegal → OneRowSpelling → (c : HubConfig) (rows others : List Row) (H G : List Entry) → Replays c rows H → Replays c others G → map row_bytes rows ≡ map row_bytes others → H ≡ G
one_history known stay spelling c rows others H G Replays.nothing Replays.nothing e = refl
one_history known stay spelling c rows others H G Replays.nothing (Replays.one_more s newer before later replays goes) e = absurd (cc e)
one_history known stay spelling c rows others H G (Replays.one_more r older before later replays goes) Replays.nothing e = absurd (cc e)
one_history known stay spelling c rows others H G (Replays.one_more r older before later replays goes) (Replays.one_more s newer begun end replays_too goes_too) e =
    let same : r ≡ s = spelling r s goes.fits goes_too.fits (heads (row_bytes r) (row_bytes s) (map row_bytes older) (map row_bytes newer) e) in
    let from : before ≡ begun = one_history known stay spelling c older newer before begun replays replays_too (tails (row_bytes r) (row_bytes s) (map row_bytes older) (map row_bytes newer) e) in
    let goes_so : Goes c before r G = subst (λ (x : List Entry). Goes c x r G) (sym from) (subst (λ (x : Row). Goes c begun x G) (sym same) goes_too) in
    goes_one known c before (replays_legal stay c older before replays) r H G goes goes_so

pub images_agree : Known → CallsStayLegal → OneRowSpelling → (c : HubConfig) (image : List (List ℕ)) (H G : List Entry) → IsImage c image H → IsImage c image G → H ≡ G
images_agree known stay spelling c image H G first second = one_history known stay spelling c first.rows second.rows H G first.replays second.replays (sym first.spelled ∙ second.spelled)
