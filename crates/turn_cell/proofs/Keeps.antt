-- Each step keeps the rule.
use Rattle.std.proofs.Common.{◌≡◌, ◌≢◌, ℕ, zero, suc, ◌+◌, ◌%◌, ◌<◌, ◌≤◌, ◌^◌, Bool, true, false, eqb, List, [], ◌∷◌, ◌++◌, map, length, get_or, set, refl, ap, sym, ◌∙◌, subst, ⊎_elim, arith, Option, Some, None, eq-eqb, ne_eqb, length-append, length-set, append-nil, if◌then◌else◌, ltb}
use mathlib.Core.List.{IsPrefix}
use mathlib.Core.Logic.{dite}
use mathlib.Core.Option.{some, none, some-injective, some-ne-none}
use mathlib.Core.Option as maybe
use native.Mathlib.Decide.{ℕ_discrete, dec_le}
use lib.ListN.{get_elem?}
use lib.Seq.{set-get_or}
use prog.Atomic.{either}
use Rattle.atomic_table.specs.Table.{State, Me, step, keeps, takes, gives, rest, stepped, homes_after, Allows, Splits, Joins as Merges, opening}
use Rattle.atomic_table.proofs.Lists.{set_here, set_else, at_longer}
use mathlib.Core.List.{map-append}
use borrow.Author.Tests.{ltb-true, ltb-false}
use Rattle.grid_types.specs.declared.entry.Entry.{Entry}
use Rattle.turn_cell.specs.declared.views.Look.{Look}
use Rattle.turn_cell.specs.declared.views.View.{View}
use Rattle.turn_cell.specs.declared.views.Stage.{Stage}
use Rattle.turn_cell.specs.declared.views.Stage.TheVariants.{Gone, Idle, Waits, Serves, Gives, Joins, Tells}
use Rattle.turn_cell.specs.declared.views.Doing.{Doing}
use Rattle.turn_cell.specs.Rule.{GoesOnFrom, Track, ticket_of, Held, entries_of, AllBy, AllDiffer, number_of, Owns, IsLive, Knows, Sound, Kept, doing, starting}
use Rattle.turn_cell.specs.Steps.{HasBegun, looked_once, looked, remarked, with_look, drawn, seeing, served, after, noted, raised, noting, ticket_in, split_off, newborn, IsUnused, ended_of, joined, gone, settled, telling, heard}
use Rattle.turn_cell.proofs.Lists.{put, put_here, put_else, prefix_trans, moved, moved_there, moved_else, from, from_there, from_else, from_rises, at_end, at_below, prefix_self, prefix_of_append, prefix_shorter, between, entries_mine, entries_else, differ_append}
use Rattle.turn_cell.proofs.Lives.{seats_stay, owns_each, owns_append, apart_of, ended_exact, live_exact, unused_of, live_on, Follows, knows_on, held_set}

chosen : (b : Bool) (K : List Entry → ℕ → Type 0) (x y : List Entry) (i j : ℕ) → (b ≡ true → K x i) → (b ≡ false → K y j) → K (if b then x else y) (if b then i else j)
chosen true K x y i j h k = h refl
chosen false K x y i j h k = k refl

zero_of : (n : ℕ) → (0 < n → ⊥) → n ≡ 0
zero_of zero h = refl
zero_of (suc n) h = absurd (h (omega arith))

module _ {V M : Type 0} (stands : V → List Entry → Type 0) (mark : V → M) (origin : V) (first : ℕ) where
  abbrev S : Type 0
  S = Option V

  abbrev D : Type 0
  D = Doing V

  abbrev St : Type 0
  St = State S D

  abbrev Sat : Type 0
  Sat = Me S D

  abbrev Homes : Type 0
  Homes = List (maybe.Option S)

  abbrev Rule : St → Type 0
  Rule = Kept stands mark origin first

  abbrev Holds : Track → List ℕ → Homes → Type 0
  Holds = Sound stands mark origin first

  -- a step of the seat id, by which the turns go on as g
  stepped_to : (s : St) (r : Rule s) (g : Track) (id : ℕ) (w : D) (words' : List ℕ) (homes' : Homes) → Holds g words' homes' → Held g (set s.views id w) → Knows g id origin first w.stage w.view
      → ((j : ℕ) → j ≢ id → (d : D) → get_elem? s.views j ≡ some d → Knows g j origin first d.stage d.view) → Rule record { words = words'; homes = homes'; views = set s.views id w }
  stepped_to s r g id w words' homes' sound held known others = record {
    track = g;
    sound = sound;
    held = held;
    each_seat = seats_stay (λ j d. Knows g j origin first d.stage d.view) s.views id w known (λ j d other e. others j other d e);
  }

  -- a step that changes its own view alone
  unmoved : (s : St) (r : Rule s) (i id : ℕ) (d w : D) → get_elem? s.views id ≡ some d → ticket_of w.stage ≡ ticket_of d.stage → Knows r.track id origin first w.stage w.view → Rule record { words = set s.words i (get_or s.words i 0); homes = s.homes; views = set s.views id w }
  unmoved s r i id d w at same known = subst (λ (ws : List ℕ). Rule record { words = ws; homes = s.homes; views = set s.views id w }) (sym (set-get_or s.words i 0))
      (stepped_to s r r.track id w s.words s.homes r.sound (held_set r.track s.views id d w at same r.held) known (λ j _ d e. r.each_seat j d e))

  word_0 : (s : St) (r : Rule s) → get_or s.words 0 0 ≡ r.track.ticket
  word_0 s r = ap (λ (ws : List ℕ). get_or ws 0 0) r.sound.words_are

  word_1 : (s : St) (r : Rule s) → get_or s.words 1 0 ≡ r.track.serving
  word_1 s r = ap (λ (ws : List ℕ). get_or ws 1 0) r.sound.words_are

  knows : (s : St) (r : Rule s) (id : ℕ) (me : Sat) (st : Stage) → get_elem? s.views id ≡ some me.0 → me.0.stage ≡ st → Knows r.track id origin first st me.0.view
  knows s r id me st at is = subst (λ (x : Stage). Knows r.track id origin first x me.0.view) is (r.each_seat id me.0 at)

  pub looks : (slots id : ℕ) (me : Sat) → me.0.stage ≡ Idle → Allows Rule slots id me 0 (λ n. n) (looked (step slots 0 0 0 none) me)
  looks slots id me is s r _ at _ = let n : ℕ = get_or s.words 0 0 in let known = knows s r id me Idle at is in dite (dec_le (2 ^ 62) n)
      (λ full. let w : D = doing me.0.stage (looked_once me.0.view) in let l = known.0 in let here : n ≡ r.track.ticket = word_0 s r in (
        w,
        keeps,
        tt,
        unmoved s r 0 id me.0 w at refl (subst (λ (x : Stage). Knows r.track id origin first x w.view) (sym is)
            (record { marked = l.marked; begins = l.begins; long = l.long; looks = λ _. omega arith; own = l.own; ended = l.ended; apart = l.apart }, known.1)),
        ((λ less. absurd (omega arith)), λ _. (refl, (let b = r.sound.below in let a = r.sound.ahead.0 in let c = r.sound.ahead.1 in let z = l.marked.1 in omega arith))),
      ))
      (λ room. (me.0, keeps, tt, unmoved s r 0 id me.0 me.0 at refl (r.each_seat id me.0 at), ((λ _. refl), λ full. absurd (room full))))

  -- a look that is noted changes what no other seat and no rule speaks of
  pub remarks : (look : Look) (slots id : ℕ) (me : Sat) → me.0.stage ≡ Idle → Allows Rule slots id me 1 (λ n. n) (remarked look (step slots 1 0 0 none) me)
  remarks look slots id me is s r _ at _ =
      let known = knows s r id me Idle at is in
      let l = known.0 in
      let w : D = doing Idle (with_look look.session look.found me.0.view) in (
        w,
        keeps,
        tt,
        unmoved s r 1 id me.0 w at (sym (ap ticket_of is))
            (record { marked = l.marked; begins = l.begins; long = l.long; looks = l.looks; own = l.own; ended = l.ended; apart = l.apart }, known.1),
        λ _. refl,
      )

  pub draws : (slots id : ℕ) (me : Sat) (old new : ℕ) → me.0.stage ≡ Idle → old < 2 ^ 62 → new ≡ old + 1
      → Allows Rule slots id me 0 (λ n. either (eqb n old) new n) (drawn (step slots 0 old new none) me)
  draws slots id me old new is low up s r _ at _ = let n : ℕ = get_or s.words 0 0 in let known = knows s r id me Idle at is in let f = r.track in dite (ℕ_discrete n old)
      (λ hit. let w : D = doing (Waits n) me.0.view in let here : n ≡ f.ticket = word_0 s r in let o = r.sound in let ahead = o.ahead.1 in let from_first = o.ahead.0 in let below = o.below in
      let g : Track = record f { ticket = new; owner = put f.owner n id } in
      let mine : 0 < f.phase → n ≡ f.serving → ⊥ = λ b e. let l = o.at_turn b in omega arith in (
        w,
        keeps,
        tt,
        subst (λ b. Rule (stepped s 0 (either b new n) id me.1 w keeps)) (sym (eq-eqb n old hit))
            (stepped_to s r g id w (set s.words 0 new) s.homes
            record {
              words_are = ap (λ (ws : List ℕ). set ws 0 new) o.words_are;
              ahead = (o.ahead.0, omega arith);
              below = omega arith;
              brief = o.brief;
              out = o.out;
              home = o.home;
              begun = o.begun;
              at_turn = λ b. let l = o.at_turn b in omega arith;
              at_rest = o.at_rest;
              unmade = o.unmade;
              rises = o.rises;
              level = o.level;
              fresh = o.fresh;
              unused = o.unused;
            }
            (λ t low' high'. dite (ℕ_discrete t n)
            (λ e. (w, ap (get_elem? (set s.views id w)) (ap (put f.owner n id) e ∙ put_here f.owner n id) ∙ set_here s.views id w (at_below s.views id me.0 at), ap (λ (x : ℕ). Some x) (sym e)))
            (λ other. let h = r.held t low' (omega arith) in (
              h.0,
              ap (get_elem? (set s.views id w)) (put_else f.owner n id t other)
                  ∙ (set_else s.views id (f.owner t) w (λ e. none_out me.0.stage h.0.stage t is (ap (λ (x : D). x.stage) (some-injective me.0 h.0 (sym at ∙ (ap (get_elem? s.views) (sym e) ∙ h.1)))) h.2) ∙ h.1),
              h.2,
            ))) (
              (live_on origin first f g id me.0.view (prefix_self f.log) (omega arith) refl (λ m h. (h, refl)) known.0, known.1),
              omega arith,
              omega arith,
              omega arith,
              put_here f.owner n id,
              λ e. zero_of f.phase (λ b. mine b e),
            )
            (λ j other d e. knows_on origin first f g j
            record {
              longer = prefix_self f.log;
              more = omega arith;
              same = λ k _. refl;
              keeps = λ m h. (h, refl);
              later = omega arith;
              waits = λ t own low' high stay. (low', put_else f.owner n id t (λ z. omega arith) ∙ own, stay);
              at_turn = λ t own z high b. (refl, put_else f.owner n id t (λ q. omega arith) ∙ own, refl, refl, refl, refl, refl);
            }
            d.stage d.view (r.each_seat j d e))),
        ((λ _. (refl, (let z = known.0.marked.1 in omega arith))), λ miss. absurd (miss hit)),
      ))
      (λ miss. (
        me.0,
        keeps,
        tt,
        subst (λ b. Rule (stepped s 0 (either b new n) id me.1 me.0 keeps)) (sym (ne_eqb n old miss)) (unmoved s r 0 id me.0 me.0 at refl (r.each_seat id me.0 at)),
        ((λ hit. absurd (miss hit)), λ _. refl),
      ))
    where
      none_out : (st st' : Stage) (t : ℕ) → st ≡ Idle → st ≡ st' → ticket_of st' ≡ Some t → ⊥
      none_out st st' t e same h = let out : None ≡ Some t = ap ticket_of (sym e ∙ same) ∙ h in cc

  -- the slot is taken where the ticket is served
  pub serves : (slots id : ℕ) (me : Sat) (t : ℕ) → me.0.stage ≡ Waits t → Allows Rule slots id me 1 (λ n. n) (served stands mark (step slots 1 0 0 none) me)
  serves slots id me t is s r _ at _ = let n : ℕ = get_or s.words 1 0 in let known = knows s r id me (Waits t) at is in let f = r.track in let here : n ≡ f.serving = word_1 s r in dite (ℕ_discrete n t)
      (λ hit. let o = r.sound in let l = known.0.0 in let at_rest : f.phase ≡ 0 = known.5 (sym hit ∙ here) in let h = o.home (λ z. omega arith) in let y : V = h.0 in
      let none_made : f.made ≡ [] = o.unmade (λ z. omega arith) in let stand : stands y f.log = subst (stands y) (ap (λ (z : List Entry). f.log ++ z) none_made ∙ append-nil f.log) h.2 in
      let w : D = doing (Serves t 0) (seeing f.log t me.0.view) in let g : Track = record f { phase = 1 } in let early = known.0.1 in let quiet : f.noted ≡ 0 = o.at_rest at_rest in let low = known.1 in
      let not_given : f.holder (t + 1) ≡ 0 = o.unused (t + 1) (omega arith) in (
        w,
        takes 0 (Some y),
        subst (λ (hs : Homes). get_elem? hs 0 ≡ some (some (Some y))) (sym h.1) refl,
        subst (λ (ws : List ℕ). Rule record { words = ws; homes = set s.homes 0 none; views = set s.views id w }) (sym (set-get_or s.words 1 0))
            (stepped_to s r g id w s.words (set s.homes 0 none)
            record {
              words_are = o.words_are;
              ahead = o.ahead;
              below = o.below;
              brief = o.brief;
              out = λ _. ap (λ (hs : Homes). set hs 0 none) h.1;
              home = λ no. absurd (no refl);
              begun = o.begun;
              at_turn = λ _. let high = known.2 in omega arith;
              at_rest = λ z. absurd (omega arith);
              unmade = λ _. none_made;
              rises = o.rises;
              level = o.level;
              fresh = o.fresh;
              unused = o.unused;
            }
            (held_set f s.views id me.0 w at (sym (ap ticket_of is)) r.held) (
              (
                record {
                  marked = l.marked;
                  begins = prefix_self f.log;
                  long = sym (o.level (t + 1) (omega arith));
                  looks = l.looks;
                  own = (l.own.0, l.own.2, l.own.2);
                  ended = owns_each f id me.0.view.seen g id f.log me.0.view.number me.0.view.ended l.apart.0 (λ m mine _ (a : Owns f id me.0.view.seen m mine). (a.0, a.2, a.2)) l.ended;
                  apart = l.apart;
                },
                omega arith,
                omega arith,
                known.2,
                known.3,
                known.4,
                sym quiet,
                refl,
              ),
              refl,
            )
            (λ j other d e. knows_on origin first f g j
            record {
              longer = prefix_self f.log;
              more = omega arith;
              same = λ k _. refl;
              keeps = λ m a. (a, refl);
              later = omega arith;
              waits = λ t' own low' high' stay. (low', own, λ z. absurd (other (sym own ∙ (ap f.owner (z ∙ (sym here ∙ hit)) ∙ known.4))));
              at_turn = λ t' own z high' b. absurd (other (sym own ∙ (ap f.owner (z ∙ (sym here ∙ hit)) ∙ known.4)));
            }
            d.stage d.view (r.each_seat j d e))),
        λ t' is'. let same : t ≡ t' = cc (sym is ∙ is') in (
          (λ miss. absurd (miss (hit ∙ same))),
          λ _. (
            y,
            f.log,
            ap (λ (k : ℕ). let z : Sat = (doing (Serves k 0) (seeing f.log k me.0.view), (0, Some y) ∷ me.1) in z) same,
            (
              l.begins,
              stand,
              (λ x e. let same : origin ≡ x = some_of (sym l.marked.0 ∙ e) in (h.3 ∙ ap mark same, subst (λ (z : V). HasBegun stands z f.log) same o.begun)),
              (
                l.own.2,
                ended_exact g id f.log me.0.view.ended
                    (owns_each f id me.0.view.seen g id f.log me.0.view.number me.0.view.ended l.apart.0 (λ m mine _ (a : Owns f id me.0.view.seen m mine). (a.0, a.2, a.2)) l.ended),
                l.apart,
              ),
              subst (λ (k : ℕ). IsUnused (k + 1) (seeing f.log k me.0.view)) same (o.fresh (t + 1) (let a = o.ahead.0 in omega arith) not_given, unused_of origin first f id me.0.view (t + 1) not_given l),
            ),
          ),
        ),
      ))
      (λ miss. (me.0, keeps, tt, unmoved s r 1 id me.0 me.0 at refl (r.each_seat id me.0 at), λ t' is'. let same : t ≡ t' = cc (sym is ∙ is') in ((λ _. refl), λ hit. absurd (miss (hit ∙ sym same)))))
    where
      some_of : {x y : V} → Some x ≡ Some y → x ≡ y
      some_of e = cc (e)

  -- the value comes home, and the turn's entries are noted
  pub notes : (entries : List Entry) (slots id : ℕ) (me : Sat) (t k : ℕ) (y : V) → me.0.stage ≡ Serves t k → me.1 ≡ (0, Some y) ∷ [] → stands y (me.0.view.seen ++ entries)
      → ((x : V) → me.0.view.origin ≡ Some x → mark y ≡ mark x) → AllBy me.0.view.number entries → (0 < k → entries ≡ []) → Allows Rule slots id me 1 (λ n. n) (noted entries (step slots 1 0 0 none) me)
  notes entries slots id me t k y is carried stand marked by none_made s r _ at _ = let known = knows s r id me (Serves t k) at is in let f = r.track in let turn = known.0 in let l = turn.0 in let o = r.sound in
      let w : D = doing (Gives t k entries) me.0.view in let g : Track = record f { phase = 2; made = entries } in let served_is = turn.2 in let high = turn.3 in
      let there : set s.homes 0 (some (Some y)) ≡ some (Some y) ∷ [] = ap (λ (hs : Homes). set hs 0 (some (Some y))) (o.out known.1) in (
        w,
        gives,
        tt,
        subst (λ (x : List ℕ × List (ℕ × S)). Rule record { words = x.0; homes = homes_after s.homes x.1 gives; views = set s.views id w }) (λ i. (sym (set-get_or s.words 1 0) i, sym carried i))
            (stepped_to s r g id w s.words (set s.homes 0 (some (Some y)))
            record {
              words_are = o.words_are;
              ahead = o.ahead;
              below = o.below;
              brief = o.brief;
              out = λ z. absurd (omega arith);
              home = λ _. (y, there, subst (λ (z : List Entry). stands y (z ++ entries)) turn.7 stand, marked origin l.marked.0);
              begun = o.begun;
              at_turn = λ _. omega arith;
              at_rest = λ z. absurd (omega arith);
              unmade = λ no. absurd (no refl);
              rises = o.rises;
              level = o.level;
              fresh = o.fresh;
              unused = o.unused;
            }
            (held_set f s.views id me.0 w at (sym (ap ticket_of is)) r.held) (
              (live_on origin first f g id me.0.view (prefix_self f.log) (omega arith) refl (λ m h. (h, refl)) l, turn.1, turn.2, turn.3, turn.4, turn.5, turn.6, turn.7),
              refl,
              refl,
              by,
              none_made,
            )
            (λ j other d e. knows_on origin first f g j
            record {
              longer = prefix_self f.log;
              more = omega arith;
              same = λ c _. refl;
              keeps = λ m h. (h, refl);
              later = omega arith;
              waits = λ t' own low' high' stay. (low', own, λ z. absurd (other (sym own ∙ (ap f.owner (z ∙ sym served_is) ∙ turn.5))));
              at_turn = λ t' own z high' b. absurd (other (sym own ∙ (ap f.owner (z ∙ sym served_is) ∙ turn.5)));
            }
            d.stage d.view (r.each_seat j d e))),
        λ t' k' is'. let same : Serves t k ≡ Serves t' k' = sym is ∙ is' in
            let same_t : t ≡ t' = cc (same) in let same_k : k ≡ k' = cc (same) in
            (λ i. (doing (Gives (same_t i) (same_k i) entries) me.0.view, rest (carried i))),
      )

  -- the same from a seat that is known to be d with the value y in hand
  pub notes_from : (entries : List Entry) (slots id : ℕ) (me : Sat) (d : D) (t k : ℕ) (y : V) → me ≡ (d, (0, Some y) ∷ []) → d.stage ≡ Serves t k → stands y (d.view.seen ++ entries)
      → ((x : V) → d.view.origin ≡ Some x → mark y ≡ mark x) → AllBy d.view.number entries → (0 < k → entries ≡ []) → Allows Rule slots id me 1 (λ n. n) (noted entries (step slots 1 0 0 none) me)
  notes_from entries slots id me d t k y e is stand marked by none_made =
      let M : Sat → Type 0 = λ m. Allows Rule slots id m 1 (λ n. n) (noted entries (step slots 1 0 0 none) m) in
      subst M (sym e) (notes entries slots id (d, (0, Some y) ∷ []) t k y is refl stand marked by none_made)

  -- the turn's entries join the history
  pub raises : (slots id : ℕ) (me : Sat) (t k : ℕ) (entries : List Entry) → me.0.stage ≡ Gives t k entries → Allows Rule slots id me 1 (λ n. (n + 1) % 2 ^ 64) (raised (step slots 1 1 0 none) me)
  raises slots id me t k entries is s r _ at _ = let n : ℕ = get_or s.words 1 0 in let known = knows s r id me (Gives t k entries) at is in let f = r.track in let here : n ≡ f.serving = word_1 s r in
      let turn = known.0 in let o = r.sound in let l = turn.0 in let v : View V = me.0.view in let w : D = doing Idle (after entries v) in let log' : List Entry = f.log ++ entries in let seen_is : v.seen ≡ f.log = turn.7 in
      let served_is = turn.2 in let early = turn.1 in let small = turn.4 in let high = turn.3 in let noted_is : k ≡ f.noted = turn.6 in let by = known.3 in let none_made = known.4 in
      let next : (n + 1) % 2 ^ 64 ≡ f.serving + 1 = omega arith in
      let g : Track = record f { log = log'; serving = f.serving + 1; noted = 0; phase = 0; made = []; length_at = from f.length_at (f.serving + 1) (length log') } in
      let longer : length f.log ≤ length log' = omega (arith, length-append f.log entries) in
      let same_log : (m : ℕ) → m ≢ v.number → entries_of m log' ≡ entries_of m f.log = λ m other. entries_else v.number m f.log entries by other in
      let mine_now : entries_of v.number log' ≡ v.mine ++ entries = entries_mine v.number f.log entries by ∙ ap (λ (z : List Entry). z ++ entries) l.own.2 in
      let seen_now : v.seen ++ entries ≡ log' = ap (λ (z : List Entry). z ++ entries) seen_is in
      let live : IsLive g id origin first w.view = record {
        marked = l.marked;
        begins = subst (λ (z : List Entry). IsPrefix z log') (sym seen_now) (prefix_self log');
        long = ap length seen_now ∙ sym (from_there f.length_at (f.serving + 1) (length log') v.since (omega arith));
        looks = l.looks;
        own = (l.own.0, ap (entries_of v.number) seen_now ∙ mine_now, mine_now);
        ended = owns_each f id v.seen g id (v.seen ++ entries) v.number v.ended l.apart.0
            (λ m mine other (a : Owns f id v.seen m mine). (a.0, ap (entries_of m) seen_now ∙ (same_log m other ∙ a.2), same_log m other ∙ a.2)) l.ended;
        apart = l.apart;
      } in
      let h = o.home (λ z. let p = known.1 in omega arith) in (
        w,
        keeps,
        tt,
        subst (λ (x : ℕ). Rule (stepped s 1 x id me.1 w keeps)) (sym next)
            (stepped_to s r g id w (set s.words 1 (f.serving + 1)) s.homes
            record {
              words_are = ap (λ (ws : List ℕ). set ws 1 (f.serving + 1)) o.words_are;
              ahead = ((let a = o.ahead.0 in omega arith), omega arith);
              below = o.below;
              brief = omega arith;
              out = λ z. absurd (omega arith);
              home = λ _. (h.0, h.1, subst (stands h.0) (ap (λ (z : List Entry). f.log ++ z) (sym known.2) ∙ sym (append-nil log')) h.2, h.3);
              begun = (o.begun.0, o.begun.1, prefix_trans o.begun.0 f.log log' o.begun.2 (prefix_of_append f.log entries));
              at_turn = λ z. absurd (omega arith);
              at_rest = λ _. refl;
              unmade = λ _. refl;
              rises = from_rises f.length_at (f.serving + 1) (length log') o.rises
                  (λ c below. let top = o.level (f.serving + 1) (omega arith) in let up = o.rises c (f.serving + 1) (omega arith) in omega arith);
              level = λ c above. from_there f.length_at (f.serving + 1) (length log') c (omega arith);
              fresh = λ m far not_given. same_log m (λ e. let given : f.holder m ≡ id + 1 = ap f.holder e ∙ l.own.0 in absurd (omega arith)) ∙ o.fresh m far not_given;
              unused = λ m far. o.unused m (let b = o.brief in omega arith);
            }
            (λ t' low' high'. let p = r.held t' (omega arith) high' in (
              p.0,
              set_else s.views id (f.owner t') w
                  (λ e. let same : Some t ≡ Some t' = sym (ap ticket_of is) ∙ (ap (λ (x : D). ticket_of x.stage) (some-injective me.0 p.0 (sym at ∙ (ap (get_elem? s.views) (sym e) ∙ p.1))) ∙ p.2) in
                  let eq : t ≡ t' = cc (same) in omega arith) ∙ p.1,
              p.2,
            ))
            (live, omega arith)
            (λ j other d e. knows_on origin first f g j
            record {
              longer = prefix_of_append f.log entries;
              more = omega arith;
              same = λ c le. dite (dec_le (f.serving + 1) c)
                  (λ above. let b = o.brief in let none_new : entries ≡ [] = none_made (omega arith) in
                  from_there f.length_at (f.serving + 1) (length log') c above ∙ (ap (λ (z : List Entry). length (f.log ++ z)) none_new ∙ (ap length (append-nil f.log) ∙ sym (o.level c (omega arith)))))
                  (λ below. from_else f.length_at (f.serving + 1) (length log') c below);
              keeps = λ m a. (a, same_log m (λ e'. other (let b : f.holder m ≡ id + 1 = ap f.holder e' ∙ l.own.0 in omega arith)));
              later = let b = o.brief in omega arith;
              waits = λ t' own low' high' stay. ((let apart : t' ≢ f.serving = λ z. other (sym own ∙ (ap f.owner (z ∙ sym served_is) ∙ turn.5)) in omega arith), own, λ _. refl);
              at_turn = λ t' own z high' b. absurd (other (sym own ∙ (ap f.owner (z ∙ sym served_is) ∙ turn.5)));
            }
            d.stage d.view (r.each_seat j d e))),
        λ t' k' entries' is'. let same : entries ≡ entries' = cc (sym is ∙ is') in
            (ap (λ (z : List Entry). let q : Sat = (doing Idle (after z v), me.1) in q) same, live_exact origin first g id w.view live),
      )

  -- the turn is noted as split, and a new seat has the number of the turn's ticket plus 1
  pub splits : (id : ℕ) (d : D) (t : ℕ) → d.stage ≡ Serves t 0 → Splits Rule id d (split_off d) (newborn d)
  splits id d t is s r at = let known = knows s r id (d, []) (Serves t 0) at is in let f = r.track in let o = r.sound in let turn = known.0 in let l = turn.0 in let v : View V = d.view in let n : ℕ = length s.views in
      let served_is = turn.2 in let quiet = turn.6 in let since_is : v.since ≡ f.serving + 1 = turn.1 in let new : ℕ = ticket_in d.stage + 1 in let new_is : new ≡ f.serving + 1 = ap (λ (x : Stage). ticket_in x + 1) is ∙ ap (λ (x : ℕ). x + 1) served_is in
      let not_given : f.holder new ≡ 0 = o.unused new (omega arith) in
      let g : Track = record f { noted = 1; holder = put f.holder new (n + 1) } in
      let others : (j m : ℕ) → f.holder m ≡ j + 1 → (g.holder m ≡ j + 1) × (entries_of m g.log ≡ entries_of m f.log) = λ j m h. (put_else f.holder new (n + 1) m (λ e. let z = ap f.holder e in omega arith) ∙ h, refl) in
      let none_of : entries_of new f.log ≡ [] = o.fresh new (let a = o.ahead.0 in omega arith) not_given in
      record {
        track = g;
        sound = record {
          words_are = o.words_are;
          ahead = o.ahead;
          below = o.below;
          brief = omega arith;
          out = o.out;
          home = o.home;
          begun = o.begun;
          at_turn = o.at_turn;
          at_rest = λ z. let p = known.1 in absurd (omega arith);
          unmade = o.unmade;
          rises = o.rises;
          level = o.level;
          fresh = λ m far z. o.fresh m far (sym (put_else f.holder new (n + 1) m (λ e. let here : put f.holder new (n + 1) m ≡ n + 1 = ap (put f.holder new (n + 1)) e ∙ put_here f.holder new (n + 1) in omega arith)) ∙ z);
          unused = λ m far. put_else f.holder new (n + 1) m (λ e. omega arith) ∙ o.unused m (omega arith);
        };
        held = λ t' low' high'. let h = held_set f s.views id d (split_off d) at (same_ticket d.stage) r.held t' low' high' in
            (h.0, at_longer (set s.views id (split_off d)) (newborn d ∷ []) (f.owner t') h.0 h.1, h.2);
        each_seat = λ j e p. ⊎_elim
            (λ (q : get_elem? (set s.views id (split_off d)) j ≡ some e). seats_stay (λ i x. Knows g i origin first x.stage x.view) s.views id (split_off d)
            (subst (λ (x : Stage). Knows g id origin first (noting x) v) (sym is)
            ((live_on origin first f g id v (prefix_self f.log) (omega arith) refl (others id) l, since_is, served_is, turn.3, turn.4, turn.5, refl, turn.7), known.1))
            (λ i x other h. knows_on origin first f g i
            record {
              longer = prefix_self f.log;
              more = omega arith;
              same = λ k _. refl;
              keeps = others i;
              later = omega arith;
              waits = λ t' own low' high' stay. (low', own, stay);
              at_turn = λ t' own z high' b. absurd (other (sym own ∙ (ap f.owner (z ∙ sym served_is) ∙ turn.5)));
            }
            x.stage x.view (r.each_seat i x h)) j e q)
            (λ (q : (j ≡ length (set s.views id (split_off d))) × (newborn d ≡ e)). subst (λ (x : ℕ × D). Knows g x.0 origin first x.1.stage x.1.view)
            (λ i. (sym (q.0 ∙ length-set s.views id (split_off d)) i, q.1 i)) (
              record {
                marked = l.marked;
                begins = l.begins;
                long = l.long;
                looks = λ some_looks. absurd (omega arith);
                own = (put_here f.holder new (n + 1), ap (entries_of new) turn.7 ∙ none_of, none_of);
                ended = tt;
                apart = (tt, tt);
              },
              omega arith,
            ))
            (at_end (set s.views id (split_off d)) (newborn d) e j p);
      }
    where
      same_ticket : (st : Stage) → ticket_of (noting st) ≡ ticket_of st
      same_ticket Gone = refl
      same_ticket Idle = refl
      same_ticket (Waits t) = refl
      same_ticket (Serves t k) = refl
      same_ticket (Gives t k entries) = refl
      same_ticket (Joins xs ys) = refl
      same_ticket Tells = refl

  -- one view takes in another, which is spent
  pub merges : (id : ℕ) (d : D) (other : ℕ) (e : D) → d.stage ≡ Idle → e.stage ≡ Idle → Merges Rule id d other e (joined d e) gone
  merges id d other e d_is e_is s r at apart there = let f = r.track in let o = r.sound in let v : View V = d.view in let w : View V = e.view in
      let known = knows s r id (d, []) Idle at d_is in let known' = knows s r other (e, []) Idle (sym (set_else s.views id other (joined d e) apart) ∙ there) e_is in
      let lv = known.0 in let lw = known'.0 in
      let g : Track = record f { holder = moved f.holder (other + 1) (id + 1) } in
      let stays : (j m : ℕ) → j ≢ other → f.holder m ≡ j + 1 → g.holder m ≡ j + 1 = λ j m differ h. moved_else f.holder (other + 1) (id + 1) m (λ z. differ (omega arith)) ∙ h in
      let follows : (j : ℕ) → j ≢ other → Follows f g j = λ j differ. record {
        longer = prefix_self f.log;
        more = omega arith;
        same = λ k _. refl;
        keeps = λ m h. (stays j m differ h, refl);
        later = omega arith;
        waits = λ t own low high stay. (low, own, stay);
        at_turn = λ t own z high b. (refl, own, refl, refl, refl, refl, refl);
      } in
      let live : (seen : List Entry) (since : ℕ) → IsPrefix v.seen seen → IsPrefix w.seen seen → IsPrefix seen f.log → length seen ≡ f.length_at since
      → IsLive g id origin first (record v { seen = seen; since = since; spent = v.spent + w.spent; ended = v.ended ++ ended_of w ∷ w.ended }) = λ seen since pv pw begins long. record {
        marked = lv.marked;
        begins = begins;
        long = long;
        looks = λ some_looks. all_looks v.spent w.spent f.ticket some_looks lv.looks lw.looks;
        own = (stays id v.number (λ z. apart (sym z)) lv.own.0, between v.number v.seen seen f.log v.mine pv begins lv.own.1 lv.own.2, lv.own.2);
        ended = owns_append g id seen v.ended (ended_of w ∷ w.ended)
            (owns_each f id v.seen g id seen v.number v.ended lv.apart.0 (λ m mine _ (a : Owns f id v.seen m mine). (stays id m (λ z. apart (sym z)) a.0, between m v.seen seen f.log mine pv begins a.1 a.2, a.2)) lv.ended) (
              (moved_there f.holder (other + 1) (id + 1) w.number lw.own.0, between w.number w.seen seen f.log w.mine pw begins lw.own.1 lw.own.2, lw.own.2),
              owns_each f other w.seen g id seen w.number w.ended lw.apart.0
                  (λ m mine _ (a : Owns f other w.seen m mine). (moved_there f.holder (other + 1) (id + 1) m a.0, between m w.seen seen f.log mine pw begins a.1 a.2, a.2)) lw.ended,
            );
        apart = subst (λ (z : List ℕ). AllDiffer (v.number ∷ z)) (sym (map-append number_of v.ended (ended_of w ∷ w.ended)))
            (differ_append (v.number ∷ map number_of v.ended) (w.number ∷ map number_of w.ended) lv.apart lw.apart (apart_of f id other w.seen v.seen v.number w.number w.ended v.ended apart lv.own.0 lw.own.0 lw.ended lv.ended));
      } in
      let K : List Entry → ℕ → Type 0 = λ seen since. Knows g id origin first (Joins v.seen w.seen) (record v { seen = seen; since = since; spent = v.spent + w.spent; ended = v.ended ++ ended_of w ∷ w.ended }) in
      let when_later : ltb v.since w.since ≡ true → K w.seen w.since = λ b. let le : v.since < w.since = ltb-true v.since w.since b in
      let pv : IsPrefix v.seen w.seen = prefix_shorter v.seen w.seen f.log lv.begins lw.begins (let up = o.rises v.since w.since (omega arith) in let a = lv.long in let c = lw.long in omega arith) in
      ((live w.seen w.since pv (prefix_self w.seen) lw.begins lw.long, known'.1), pv, prefix_self w.seen) in
      let when_not : ltb v.since w.since ≡ false → K v.seen v.since = λ b. let le : w.since ≤ v.since = ltb-false v.since w.since b in
      let pw : IsPrefix w.seen v.seen = prefix_shorter w.seen v.seen f.log lw.begins lv.begins (let up = o.rises w.since v.since le in let a = lv.long in let c = lw.long in omega arith) in
      ((live v.seen v.since (prefix_self v.seen) pw lv.begins lv.long, known.1), prefix_self v.seen, pw) in
      record {
        track = g;
        sound = record {
          words_are = o.words_are;
          ahead = o.ahead;
          below = o.below;
          brief = o.brief;
          out = o.out;
          home = o.home;
          begun = o.begun;
          at_turn = o.at_turn;
          at_rest = o.at_rest;
          unmade = o.unmade;
          rises = o.rises;
          level = o.level;
          fresh = λ m far z. o.fresh m far (sym (moved_else f.holder (other + 1) (id + 1) m (λ h. let y = moved_there f.holder (other + 1) (id + 1) m h in omega arith)) ∙ z);
          unused = λ m far. let z = o.unused m far in moved_else f.holder (other + 1) (id + 1) m (λ h. omega arith) ∙ z;
        };
        held = held_set f (set s.views id (joined d e)) other e gone there (sym (ap ticket_of e_is)) (held_set f s.views id d (joined d e) at (sym (ap ticket_of d_is)) r.held);
        each_seat = seats_stay (λ i x. Knows g i origin first x.stage x.view) (set s.views id (joined d e)) other gone tt
            (λ i x differ h. seats_stay (λ i x. i ≢ other → Knows g i origin first x.stage x.view) s.views id (joined d e)
            (λ _. chosen (ltb v.since w.since) K w.seen v.seen w.since v.since when_later when_not)
            (λ j y _ p differ'. knows_on origin first f g j (follows j differ') y.stage y.view (r.each_seat j y p)) i x h differ);
      }
    where
      all_looks : (a b n : ℕ) → 0 < a + b → (0 < a → 2 ^ 62 ≤ n) → (0 < b → 2 ^ 62 ≤ n) → 2 ^ 62 ≤ n
      all_looks zero zero n h p q = absurd (omega arith)
      all_looks zero (suc b) n h p q = q (omega arith)
      all_looks (suc a) b n h p q = p (omega arith)

  -- a new seat has a note of what this one has seen
  pub tells : (id : ℕ) (d : D) → d.stage ≡ Idle → Splits Rule id d d (telling d)
  tells id d d_is s r at = let f = r.track in let known = knows s r id (d, []) Idle at d_is in let l = known.0 in
      let stays : (j : ℕ) (x : D) → get_elem? (set s.views id d) j ≡ some x → Knows f j origin first x.stage x.view = seats_stay (λ j x. Knows f j origin first x.stage x.view) s.views id d (r.each_seat id d at) (λ j x _ e. r.each_seat j x e) in record {
        track = f;
        sound = r.sound;
        held = λ t low high. let h = held_set f s.views id d d at refl r.held t low high in (h.0, at_longer (set s.views id d) (telling d ∷ []) (f.owner t) h.0 h.1, h.2);
        each_seat = λ j e p. ⊎_elim (stays j e)
            (λ (q : (j ≡ length (set s.views id d)) × (telling d ≡ e)). subst (λ (x : D). Knows f j origin first x.stage x.view) q.1 (l.begins, l.long, known.1))
            (at_end (set s.views id d) (telling d) e j p);
      }

  -- one view takes in a note of what another has seen
  pub hears : (id : ℕ) (d : D) (other : ℕ) (e : D) → d.stage ≡ Idle → e.stage ≡ Tells → Merges Rule id d other e (heard d e) gone
  hears id d other e d_is e_is s r at apart there = let f = r.track in let o = r.sound in let v : View V = d.view in let w : View V = e.view in
      let known = knows s r id (d, []) Idle at d_is in let note = knows s r other (e, []) Tells (sym (set_else s.views id other (heard d e) apart) ∙ there) e_is in
      let lv = known.0 in
      let live : (seen : List Entry) (since : ℕ) → IsPrefix v.seen seen → IsPrefix seen f.log → length seen ≡ f.length_at since → IsLive f id origin first (record v { seen = seen; since = since }) = λ seen since pv begins long. record {
        marked = lv.marked;
        begins = begins;
        long = long;
        looks = lv.looks;
        own = (lv.own.0, between v.number v.seen seen f.log v.mine pv begins lv.own.1 lv.own.2, lv.own.2);
        ended = owns_each f id v.seen f id seen v.number v.ended lv.apart.0 (λ m mine _ (a : Owns f id v.seen m mine). (a.0, between m v.seen seen f.log mine pv begins a.1 a.2, a.2)) lv.ended;
        apart = lv.apart;
      } in
      let K : List Entry → ℕ → Type 0 = λ seen since. Knows f id origin first (Joins v.seen w.seen) (record v { seen = seen; since = since }) in
      let when_later : ltb v.since w.since ≡ true → K w.seen w.since = λ b. let le : v.since < w.since = ltb-true v.since w.since b in
      let pv : IsPrefix v.seen w.seen = prefix_shorter v.seen w.seen f.log lv.begins note.0 (let up = o.rises v.since w.since (omega arith) in let a = lv.long in let c = note.1 in omega arith) in
      ((live w.seen w.since pv note.0 note.1, note.2), pv, prefix_self w.seen) in
      let when_not : ltb v.since w.since ≡ false → K v.seen v.since = λ b. let le : w.since ≤ v.since = ltb-false v.since w.since b in
      let pw : IsPrefix w.seen v.seen = prefix_shorter w.seen v.seen f.log note.0 lv.begins (let up = o.rises w.since v.since le in let a = lv.long in let c = note.1 in omega arith) in
      ((live v.seen v.since (prefix_self v.seen) lv.begins lv.long, known.1), prefix_self v.seen, pw) in
      record {
        track = f;
        sound = o;
        held = held_set f (set s.views id (heard d e)) other e gone there (sym (ap ticket_of e_is)) (held_set f s.views id d (heard d e) at (sym (ap ticket_of d_is)) r.held);
        each_seat = seats_stay (λ i x. Knows f i origin first x.stage x.view) (set s.views id (heard d e)) other gone tt
            (λ i x _ h. seats_stay (λ i x. Knows f i origin first x.stage x.view) s.views id (heard d e) (chosen (ltb v.since w.since) K w.seen v.seen w.since v.since when_later when_not) (λ j y _ p. r.each_seat j y p) i x h);
      }

  -- the pass learns that the lists that a join or a note gave it begin what it has seen
  pub settles : (slots id : ℕ) (me : Sat) (xs ys : List Entry) → me.0.stage ≡ Joins xs ys → Allows Rule slots id me 1 (λ n. n) (settled (step slots 1 0 0 none) me)
  settles slots id me xs ys is s r _ at _ = let known = knows s r id me (Joins xs ys) at is in (
    doing Idle me.0.view,
    keeps,
    tt,
    unmoved s r 1 id me.0 (doing Idle me.0.view) at (sym (ap ticket_of is)) known.0,
    λ xs' ys' is'. (
      refl,
      subst (λ (z : List Entry). IsPrefix z me.0.view.seen) (cc (is, is')) known.1,
      subst (λ (z : List Entry). IsPrefix z me.0.view.seen) (cc (is, is')) known.2,
      live_exact origin first r.track id me.0.view known.0.0,
    ),
  )

  -- a cell that goes on from a history
  pub starts : (number : ℕ) (es : List Entry) → GoesOnFrom first number es → stands origin es → Rule (opening (first ∷ first ∷ []) (Some origin ∷ []) (starting origin first number))
  starts number es goes stand = let g : Track = first_track number es in record {
    track = g;
    sound = record {
      words_are = refl;
      ahead = (omega arith, omega arith);
      below = omega arith;
      brief = omega arith;
      out = λ z. absurd (omega arith);
      home = λ _. (origin, refl, subst (stands origin) (sym (append-nil es)) stand, refl);
      begun = (es, stand, prefix_self es);
      at_turn = λ z. absurd (omega arith);
      at_rest = λ _. refl;
      unmade = λ _. refl;
      rises = from_rises (λ _. 0) (first + 1) (length es) (λ _ _ _. omega arith) (λ _ _. omega arith);
      level = λ k above. from_there (λ _. 0) (first + 1) (length es) k (omega arith);
      fresh = λ m far _. goes.later m far;
      unused = λ m far. put_else (λ _. 0) number 1 m (λ e. let low = goes.low in omega arith);
    };
    held = λ t low high. absurd (omega arith);
    each_seat = λ j d e. first_seat number es goes j d e;
  }
    where
      first_track : ℕ → List Entry → Track
      first_track number es = record { log = es; ticket = first; serving = first; noted = 0; phase = 0; made = []; owner = λ _. 0; holder = put (λ _. 0) number 1; length_at = from (λ _. 0) (first + 1) (length es) }

      first_seat : (number : ℕ) (es : List Entry) → GoesOnFrom first number es → (j : ℕ) (d : D) → get_elem? (starting origin first number ∷ []) j ≡ some d
          → Knows (first_track number es) j origin first d.stage d.view
      first_seat number es goes zero d e = subst (λ (x : D). Knows (first_track number es) 0 origin first x.stage x.view)
          (some-injective (starting origin first number) d e)
          (record { marked = (refl, refl); begins = (es, refl); long = sym (from_else (λ _. 0) (first + 1) (length es) 0 (λ le. omega arith)); looks = λ h. absurd (omega arith); own = (put_here (λ _. 0) number 1, refl, goes.own); ended = tt; apart = (tt, tt) }, omega arith)
      first_seat number es goes (suc j) d e = absurd (some-ne-none d (sym e))
