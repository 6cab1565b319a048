-- Where the nodes of a play have come to.
use Rattle.std.proofs.Common.{arith, get_or, drop, length, ◌≤◌, ◌≡◌, ℕ, ◌+◌, Bool, true, false, List, [], ◌∷◌, ◌++◌, refl, sym, ap, ◌∙◌, subst, append_assoc, append-nil}
use Rattle.std.specs.Prelude.{None, Some, Result, Ok, Err, IfOk, OnOk, is_ok}
use Rattle.grid_types.specs.declared.capabilities.Registration.{Registration}
use Rattle.grid_types.specs.declared.config.HubConfig.{HubConfig}
use Rattle.grid_types.specs.declared.entry.Entry.{Entry}
use Rattle.grid_types.specs.Calls.{Call, Reply}
use Rattle.hub_core.specs.Answers.{Answers}
use Rattle.hub_core.specs.HubView.{HubView, past}
use Rattle.hub_core.specs.Replies.{registering_reply}
use Rattle.hub_core.specs.declared.answers.Registering.{Registering}
use Rattle.hub_core.specs.declared.answers.Registering.TheVariants as registering
use Rattle.own_hub.specs.Own.{Own, Goes, GoesOrStops, HasAnswered, HasRoom, Roomed, Stops}
use Rattle.play_words.specs.declared.play.PlayNode.{PlayNode}
use Rattle.grid_play.specs.Crew.{registration_of}
use Rattle.kept_play.specs.declared.places.Place.{Place}
use Rattle.kept_play.specs.declared.places.Place.TheVariants as place
use Rattle.kept_play.specs.Placing.{AnsweredBy, CameTo, Noted, NotesPlace, Placed, PlacedAll, PlacedBehind, none_left, number_told, numbers_of, one_placed, place_by}

-- ---- one node

pub came_by : (c : HubConfig) (H : List Entry) (node : Registration) (answer : Registering) (later : List Entry) →
    Answers c H 0 (Call.register node) 0 (registering_reply answer) later → CameTo c H node (place_by answer) later
came_by c H node (registering.Registered n) later x = record { reply = Reply.registered n; answers = x; numbers_are = refl }
came_by c H node (registering.NameTaken n) later x = record { reply = Reply.name_taken n; answers = x; numbers_are = refl }
came_by c H node (registering.NodesFull listed) later x = record { reply = Reply.nodes_full listed; answers = x; numbers_are = refl }
came_by c H node registering.NumbersSpent later x = record { reply = Reply.numbers_spent; answers = x; numbers_are = refl }
came_by c H node (registering.Memory r) later x = tt

-- ---- all

pub placed_none : (c : HubConfig) (i : ℕ) (H : List Entry) (old : List ℕ) → PlacedAll true c i [] H old old H
placed_none c i H old = record { numbers = []; placed = none_left i H; behind = sym (append-nil old) }

pub placed_empty : (c : HubConfig) (i : ℕ) (nodes : List PlayNode) (H : List Entry) (old : List ℕ) → length nodes ≡ 0 → PlacedAll true c i nodes H old old H
placed_empty c i [] H old e = placed_none c i H old
placed_empty c i (node ∷ nodes) H old e = absurd (omega (arith, e))

pub first_node : (nodes : List PlayNode) (node : PlayNode) → 1 ≤ length nodes → node ≡ get_or nodes 0 node → nodes ≡ node ∷ drop 1 nodes
first_node [] node least p = absurd (omega (arith, least))
first_node (x ∷ xs) node least p = ap (λ (v : PlayNode). v ∷ xs) (sym p)

pub placed_first : (all : Bool) (c : HubConfig) (i : ℕ) (nodes : List PlayNode) (H : List Entry) (old new : List ℕ) (later : List Entry) → all ≡ true → old ≡ [] →
    PlacedAll all c i nodes H old new later → Placed c i nodes H new later
placed_first all c i nodes H old new later is empty x =
    let p : PlacedBehind c i nodes H old new later = subst (λ (b : Bool). PlacedAll b c i nodes H old new later) is x in
    subst (λ (ns : List ℕ). Placed c i nodes H ns later) (sym (p.behind ∙ ap (λ (ns : List ℕ). ns ++ p.numbers) empty)) p.placed

came_so : (c : HubConfig) (H : List Entry) (node : Registration) (found : Place) (numbers : List ℕ) (later : List Entry) → numbers_of found ≡ Some numbers → CameTo c H node found later →
    AnsweredBy c H node numbers later
came_so c H node (place.Number n) numbers later is came = subst (λ (ns : List ℕ). AnsweredBy c H node ns later) (some_one _ _ is) came
  where
    some_one : (x y : List ℕ) → Some x ≡ Some y → x ≡ y
    some_one x y e = cc
came_so c H node place.Nowhere numbers later is came = subst (λ (ns : List ℕ). AnsweredBy c H node ns later) (some_one _ _ is) came
  where
    some_one : (x y : List ℕ) → Some x ≡ Some y → x ≡ y
    some_one x y e = cc
came_so c H node place.Lacks numbers later is came = absurd (never is)
  where
    never : None ≡ Some numbers → ⊥
    never e = absurd (cc e)

placed_behind : (c : HubConfig) (i : ℕ) (node : PlayNode) (nodes : List PlayNode) (H mid later : List Entry) (old between new : List ℕ) (found : Place) →
    CameTo c H (registration_of i node) found mid → Noted old found between → PlacedBehind c (i + 1) nodes mid between new later →
    PlacedBehind c i (node ∷ nodes) H old new later
placed_behind c i node nodes H mid later old between new found came noted more =
    let a = came_so c H (registration_of i node) found noted.numbers mid noted.told came in
    record {
      numbers = number_told a.reply ++ more.numbers;
      placed = one_placed i node nodes H mid later a.reply more.numbers a.answers more.placed;
      behind = more.behind ∙ ap (λ (ns : List ℕ). ns ++ more.numbers) (noted.behind ∙ ap (λ (ns : List ℕ). old ++ ns) a.numbers_are) ∙ append_assoc old (number_told a.reply) more.numbers;
    }

pub placed_one : (all : Bool) (c : HubConfig) (i : ℕ) (node : PlayNode) (nodes : List PlayNode) (H mid later : List Entry) (old between new : List ℕ) (found : Place) →
    CameTo c H (registration_of i node) found mid → Noted old found between → PlacedAll all c (i + 1) nodes mid between new later →
    PlacedAll all c i (node ∷ nodes) H old new later
placed_one true c i node nodes H mid later old between new found came noted more = placed_behind c i node nodes H mid later old between new found came noted more
placed_one false c i node nodes H mid later old between new found came noted more = tt

pub noted_so : (done : Bool) (old : List ℕ) (found : Place) (new : List ℕ) → done ≡ true → NotesPlace done old found new → Noted old found new
noted_so done old found new is notes = subst (λ (b : Bool). NotesPlace b old found new) is notes

pub noted_number : {E : Type 0} (old new : List ℕ) (n : ℕ) (result : Result (Unit {0}) E) → OnOk result (new ≡ old ++ n ∷ []) → NotesPlace (is_ok result) old (place.Number n) new
noted_number old new n (Ok u) e = record { numbers = n ∷ []; told = refl; behind = e }
noted_number old new n (Err x) e = tt

pub noted_nowhere : (old : List ℕ) → NotesPlace true old place.Nowhere old
noted_nowhere old = record { numbers = []; told = refl; behind = sym (append-nil old) }

-- ---- on a driver's hub

module _ {S F : Type 0} (own : Own S F) where
  pub goes_same : (old : S) → own.IsOpen old → Goes own old old
  goes_same old is_open = record { is_open = is_open; along = λ first told. told }

  pub goes_then : (old mid new : S) → Goes own old mid → Goes own mid new → Goes own old new
  goes_then old mid new one more = record { is_open = more.is_open; along = λ first told. more.along first (one.along first told) }

  pub stops_then : (old mid new : S) (fault : F) → Goes own old mid → Stops own mid fault new → Stops own old fault new
  stops_then old mid new fault one stops = λ first told. stops first (one.along first told)

  pub goes_or : {A : Type 0} (old mid new : S) (result : Result A F) → Goes own old mid → GoesOrStops own mid result new → GoesOrStops own old result new
  goes_or old mid new (Ok a) one more = goes_then old mid new one more
  goes_or old mid new (Err fault) one stops = stops_then old mid new fault one stops

  same_room : (b : Bool) (old new : HubView) → HasRoom b old new → (past new ≡ past old) × (new.config ≡ old.config)
  same_room true old new e = (ap past e, ap (λ (h : HubView). h.config) e)
  same_room false old new e = (ap past e, ap (λ (h : HubView). h.config) e)

  -- a registration behind a look for room
  pub registered_so : (old mid new : S) (room : Bool) (node : Registration) (answer : Registering) → Roomed own room old mid →
      HasAnswered own mid (Call.register node) 0 (registering_reply answer) new →
      ((own.shown new).config ≡ (own.shown old).config) × CameTo (own.shown old).config (past (own.shown old)) node (place_by answer) (past (own.shown new))
  registered_so old mid new room node answer roomed x =
      let same = same_room room (own.shown old) (own.shown mid) roomed.room in (
        x.serves.same_config ∙ same.1,
        came_by (own.shown old).config (past (own.shown old)) node answer (past (own.shown new))
            (subst (λ (c : HubConfig). Answers c (past (own.shown old)) 0 (Call.register node) 0 (registering_reply answer) (past (own.shown new))) same.1
            (subst (λ (H : List Entry). Answers (own.shown mid).config H 0 (Call.register node) 0 (registering_reply answer) (past (own.shown new))) same.0 x.serves.serves.answers)),
      )

  pub registered_at : (old mid new : S) (room : Bool) (node : Registration) (answer : Registering) (found : Place) → found ≡ place_by answer → Roomed own room old mid →
      HasAnswered own mid (Call.register node) 0 (registering_reply answer) new →
      ((own.shown new).config ≡ (own.shown old).config) × CameTo (own.shown old).config (past (own.shown old)) node found (past (own.shown new))
  registered_at old mid new room node answer found is roomed x =
      subst (λ (p : Place). ((own.shown new).config ≡ (own.shown old).config) × CameTo (own.shown old).config (past (own.shown old)) node p (past (own.shown new))) (sym is)
      (registered_so old mid new room node answer roomed x)

  pub same_config : (old new : S) (room : Bool) → Roomed own room old new → (own.shown new).config ≡ (own.shown old).config
  same_config old new room roomed = (same_room room (own.shown old) (own.shown new) roomed.room).1

  pub came_as : (old new : S) (node wanted : Registration) (result : Result Place F) → node ≡ wanted →
      IfOk result (λ found. CameTo (own.shown old).config (past (own.shown old)) node found (past (own.shown new))) →
      IfOk result (λ found. CameTo (own.shown old).config (past (own.shown old)) wanted found (past (own.shown new)))
  came_as old new node wanted result is x = subst (λ (n : Registration). IfOk result (λ found. CameTo (own.shown old).config (past (own.shown old)) n found (past (own.shown new)))) is x

  -- one node behind another
  pub placed_on : (old mid new : S) (i : ℕ) (node : PlayNode) (nodes : List PlayNode) (first between last : List ℕ) (found : Place) (result : Result Bool F) →
      (own.shown mid).config ≡ (own.shown old).config → CameTo (own.shown old).config (past (own.shown old)) (registration_of i node) found (past (own.shown mid)) →
      Noted first found between →
      IfOk result (λ all. PlacedAll all (own.shown mid).config (i + 1) nodes (past (own.shown mid)) between last (past (own.shown new))) →
      IfOk result (λ all. PlacedAll all (own.shown old).config i (node ∷ nodes) (past (own.shown old)) first last (past (own.shown new)))
  placed_on old mid new i node nodes first between last found (Ok all) same came noted more =
      placed_one all (own.shown old).config i node nodes (past (own.shown old)) (past (own.shown mid)) (past (own.shown new)) first between last found came noted
      (subst (λ (c : HubConfig). PlacedAll all c (i + 1) nodes (past (own.shown mid)) between last (past (own.shown new))) same more)
  placed_on old mid new i node nodes first between last found (Err fault) same came noted more = tt

  pub config_on : (old mid new : S) (result : Result Bool F) → (own.shown mid).config ≡ (own.shown old).config →
      IfOk result (λ all. (own.shown new).config ≡ (own.shown mid).config) → IfOk result (λ all. (own.shown new).config ≡ (own.shown old).config)
  config_on old mid new (Ok all) same more = more ∙ same
  config_on old mid new (Err fault) same more = tt
