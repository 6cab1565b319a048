-- Where no step was out of memory, there is one conversation of the nodes and the bytes.
use Rattle.std.proofs.Common.{◌≡◌, ◌≢◌, ℕ, ◌<◌, Bool, true, false, List, [], ◌∷◌, ◌++◌, length, refl, sym, ◌∙◌, ap, subst, arith, append-nil}
use Rattle.std.proofs.lemmas.Bool.{false≢true}
use Rattle.std.specs.Prelude.{◌≤◌, Some, Ok, nat_le}
use Rattle.http_frames.specs.declared.frames.TheConstants.{LIMITS}
use Rattle.http_frames.specs.Frames as on
use Rattle.http_frames.specs.Frames.{Request, Frames}
use Rattle.grid_types.specs.declared.config.HubConfig.{HubConfig}
use Rattle.node_client.specs.Steps.{Step}
use Rattle.conn_script.specs.Messages.{refusal}
use Rattle.conn_script.specs.Responses.{Response, left, bytes_of, continue_text, is_last}
use Rattle.conn_script.specs.declared.wants.End.{End}
use Rattle.conn_script.specs.declared.wants.End.TheVariants as ends
use Rattle.conn_script.specs.declared.wants.Served.{Served}
use Rattle.conn_script.specs.declared.wants.TheConstants.{LIMIT}
use Rattle.hub_conn.specs.Conversation.{Answers, Scripts, none, next, answer_text, BeginsWith, Waits, EndsSo, closed, asked, refused, cut, closed_at_limit, cut_at_limit, hub_spent, Talked}
use Rattle.conn_script.specs.SpentLooks.{FindsSpent}
use Rattle.hub_conn.specs.SpentLaws.{SpentAtEnd, SpentLaws, is_hub_spent}
use Rattle.grid_play.specs.Crew.{first_crew}
use Rattle.grid_play.specs.OneConversation.{OneConversation}
use Rattle.grid_play.specs.Readings.{Readings}
use Rattle.grid_play.proofs.BehindLemmas.{rest_one}
use Rattle.grid_play.proofs.CrewLemmas.{crew_ascends}
use Rattle.grid_play.proofs.ExactLemmas.{State, state, Exactly, done, One, one_none, one_append, one_as, one_answer, exactly_so, exactly_one}
use Rattle.grid_play.proofs.StartOneLemmas.{begins_one}
use Rattle.grid_play.proofs.ScriptOneLemmas.{script_one, spent_behind}

-- a response behind which more is answered is one
has_answer : (response : Response) → is_last response ≡ false → response ≢ left
has_answer response more e = false≢true (sym more ∙ ap is_last e)

module _ (laws : Readings) (c : HubConfig) (own : List ℕ) (y z : State) where
  answers_one : (Y Z : List Step) (f : Request) (X X' : List Step) (R R' : Response) (s : State) → Answers (Some own) f X R → Answers (Some own) f X' R' → R ≢ left →
      R' ≢ left → Exactly c s (X ++ Y) y → Exactly c s (X' ++ Z) z → One laws c y z Y Z X X' R R'
  answers_one Y Z f X X' R R' s v w n m p q =
      one_as laws c y z Y Z s X X' (v.begun ++ v.script_steps) (w.begun ++ w.script_steps) R R' v.steps_are w.steps_are p q
      (λ a b. one_append laws c y z Y Z s v.begun w.begun v.script_steps w.script_steps done done R R' a b
      (λ d e. begins_one laws c y z (v.script_steps ++ Y) (w.script_steps ++ Z) own v.begun w.begun s v.begins w.begins d e)
      (λ _ place d e. script_one laws c y z Y Z f v.script_steps w.script_steps R R' place v.script w.script n m d e))

  -- requests one after the other
  pub scripts_one : (Y Z : List Step) (fs : List Request) (X X' : List Step) (W W' : List ℕ) (s : State) → Scripts (Some own) fs X W false →
      Scripts (Some own) fs X' W' false → Exactly c s (X ++ Y) y → Exactly c s (X' ++ Z) z → One laws c y z Y Z X X' W W'
  scripts_one Y Z [] X X' W W' s none none p q = one_none laws c y z Y Z s [] [] refl p q
  scripts_one Y Z (f ∷ fs) X X' W W' s (next _ _ V more R A _ last answers rest) (next _ _ V' more' R' A' _ last' answers' rest') p q =
      one_append laws c y z Y Z s V V' more more' R R' (answer_text f R ++ A) (answer_text f R' ++ A') p q
      (λ a b. answers_one (more ++ Y) (more' ++ Z) f V V' R R' s answers answers' (has_answer R last) (has_answer R' last') a b)
      (λ e place a b. one_answer laws c y z Y Z more more' A A' (answer_text f R ++ A) (answer_text f R' ++ A')
      (scripts_one Y Z fs more more' A A' place rest rest' a b) (λ d. λ i. answer_text f (e i) ++ (d i)))

-- ---- how a conversation ends

-- by how the bytes end, and whether the most bytes were read
abbrev told_end : on.End → Bool → End
told_end on.closed false = ends.Closed
told_end on.closed true = ends.Limit
told_end on.asked b = ends.Asked
told_end (on.refused why at) b = ends.Refused why at
told_end (on.cut at) false = ends.Cut at
told_end (on.cut at) true = ends.Limit

abbrev told_words : on.End → Bool → List ℕ
told_words on.closed w = []
told_words on.asked w = []
told_words (on.refused why at) w = continue_text w ++ bytes_of (refusal why) true
told_words (on.cut at) w = continue_text w

abbrev WaitsAt : on.End → List ℕ → Bool → Type 0
WaitsAt on.closed rest w = Unit {0}
WaitsAt on.asked rest w = Unit {0}
WaitsAt (on.refused why at) rest w = Waits rest w
WaitsAt (on.cut at) rest w = Waits rest w

record EndView (bytes : List ℕ) (requests : List Request) (rest : List ℕ) (end : End) (words : List ℕ) : Type 0 where
  e : on.End
  w : Bool
  frames : Frames LIMITS bytes requests e
  end_is : end ≡ told_end e (nat_le LIMIT (length bytes))
  words_are : words ≡ told_words e w
  waits : WaitsAt e rest w

not_at : (n m : ℕ) → m < n → nat_le n m ≡ false
not_at n m h = by_test (nat_le n m) refl
  where
    by_test : (b : Bool) → nat_le n m ≡ b → b ≡ false
    by_test true e = let far : n ≤ m = grind arith in absurd (omega (arith, far, h))
    by_test false e = refl

is_at : (n m : ℕ) → m ≡ n → nat_le n m ≡ true
is_at n m h = by_test (nat_le n m) refl
  where
    by_test : (b : Bool) → nat_le n m ≡ b → b ≡ true
    by_test true e = refl
    by_test false e = let far : m < n = grind arith in absurd (omega (arith, far, h))

end_view : (bytes : List ℕ) (requests : List Request) (rest : List ℕ) (end : End) (words : List ℕ) → EndsSo bytes requests rest end false words →
    EndView bytes requests rest end words
end_view bytes requests rest _ _ (closed frames less) = record {
  e = on.closed;
  w = false;
  frames = frames;
  end_is = ap (told_end on.closed) (sym (not_at LIMIT (length bytes) less));
  words_are = refl;
  waits = tt;
}
end_view bytes requests rest _ _ (asked frames) = record { e = on.asked; w = false; frames = frames; end_is = refl; words_are = refl; waits = tt }
end_view bytes requests rest _ _ (refused why at w frames waits) = record { e = on.refused why at; w = w; frames = frames; end_is = refl; words_are = refl; waits = waits }
end_view bytes requests rest _ _ (cut at w frames less waits) = record {
  e = on.cut at;
  w = w;
  frames = frames;
  end_is = ap (told_end (on.cut at)) (sym (not_at LIMIT (length bytes) less));
  words_are = refl;
  waits = waits;
}
end_view bytes requests rest _ _ (closed_at_limit frames most) = record {
  e = on.closed;
  w = false;
  frames = frames;
  end_is = ap (told_end on.closed) (sym (is_at LIMIT (length bytes) most));
  words_are = refl;
  waits = tt;
}
end_view bytes requests rest _ _ (cut_at_limit at w frames most waits) = record {
  e = on.cut at;
  w = w;
  frames = frames;
  end_is = ap (told_end (on.cut at)) (sym (is_at LIMIT (length bytes) most));
  words_are = refl;
  waits = waits;
}

-- an end that is not that of a spent hub
unspent_end : (bytes : List ℕ) (requests : List Request) (rest : List ℕ) (end : End) (spent : Bool) (words : List ℕ) → EndsSo bytes requests rest end spent words →
    is_hub_spent end ≡ false → spent ≡ false
unspent_end bytes requests rest _ _ _ (closed frames less) e = refl
unspent_end bytes requests rest _ _ _ (asked frames) e = refl
unspent_end bytes requests rest _ _ _ (refused why at w frames waits) e = refl
unspent_end bytes requests rest _ _ _ (cut at w frames less waits) e = refl
unspent_end bytes requests rest _ _ _ (closed_at_limit frames most) e = refl
unspent_end bytes requests rest _ _ _ (cut_at_limit at w frames most waits) e = refl
unspent_end bytes requests rest _ _ _ hub_spent e = absurd (false≢true (sym e))

-- whether the client at the front waits is told by the bytes
waits_one : (rest : List ℕ) (v w : Bool) → Waits rest v → Waits rest w → v ≡ w
waits_one rest true true p q = refl
waits_one rest false false p q = refl
waits_one rest true false p q = let h = p.only refl in p.accepted h.0 h.1 ∙ sym (q.accepted h.0 h.1)
waits_one rest false true p q = let h = q.only refl in p.accepted h.0 h.1 ∙ sym (q.accepted h.0 h.1)

words_one : (e : on.End) (rest : List ℕ) (v w : Bool) → WaitsAt e rest v → WaitsAt e rest w → told_words e v ≡ told_words e w
words_one on.closed rest v w p q = refl
words_one on.asked rest v w p q = refl
words_one (on.refused why at) rest v w p q = ap (told_words (on.refused why at)) (waits_one rest v w p q)
words_one (on.cut at) rest v w p q = ap (told_words (on.cut at)) (waits_one rest v w p q)

-- ---- two conversations

module _ (laws : Readings) (spent_laws : SpentLaws) (c : HubConfig) (own : List ℕ) (s y z : State) (bytes : List ℕ) where
  -- no step found the hub spent
  never_last : (v : State) (served : Served) (steps : List Step) (x : SpentAtEnd (Ok served) steps) → Exactly c s (steps ++ []) v → is_hub_spent served.end ≡ false
  never_last v served steps x a = by_test x.spent x.told x.finds
    where
      by_test : (b : Bool) → b ≡ is_hub_spent served.end → FindsSpent b steps → is_hub_spent served.end ≡ false
      by_test false e finds = sym e
      by_test true e finds = absurd (spent_behind laws c y z v s [] finds.call finds.at finds.before
          (subst (λ (x : List Step). Exactly c s (x ++ []) v) finds.steps_are a))

  unspent : (v : State) (served : Served) (steps : List Step) (written : List ℕ) (t : Talked (Some own) served bytes steps written) → Exactly c s (steps ++ []) v →
      t.spent ≡ false
  unspent v served steps written t a =
      unspent_end bytes t.requests t.rest served.end t.spent t.last_words t.ends (never_last v served steps (spent_laws (Some own) (Ok served) bytes steps written t) a)

  pub record SameTalk (served last : Served) (steps others : List Step) (written answered : List ℕ) : Type 0 where
    pub ends : served.end ≡ last.end
    pub frames : served.frames ≡ last.frames
    pub steps_are : steps ≡ others
    pub written_are : written ≡ answered

  pub talk_one : (served last : Served) (steps others : List Step) (written answered : List ℕ) → Talked (Some own) served bytes steps written →
      Talked (Some own) last bytes others answered → Exactly c s (steps ++ []) y → Exactly c s (others ++ []) z → SameTalk served last steps others written answered
  talk_one served last steps others written answered t u a b =
      let v = end_view bytes t.requests t.rest served.end t.last_words
      (subst (λ (x : Bool). EndsSo bytes t.requests t.rest served.end x t.last_words) (unspent y served steps written t a) t.ends) in
      let w = end_view bytes u.requests u.rest last.end u.last_words
      (subst (λ (x : Bool). EndsSo bytes u.requests u.rest last.end x u.last_words) (unspent z last others answered u b) u.ends) in
      let frames = laws.connection LIMITS bytes t.requests u.requests v.e w.e v.frames w.frames in
      let mine = subst (λ (x : Bool). Scripts (Some own) t.requests steps t.responses x) (unspent y served steps written t a) t.scripts in
      let theirs = subst (λ (x : Bool). Scripts (Some own) u.requests others u.responses x) (unspent z last others answered u b) u.scripts in
      let one = scripts_one laws c own y z [] [] t.requests steps others t.responses u.responses s mine
      (subst (λ (x : List Request). Scripts (Some own) x others u.responses false) (sym frames.0) theirs) a b in
      let rest = rest_one t.requests bytes t.rest u.rest t.begins (subst (λ (x : List Request). BeginsWith bytes x u.rest) (sym frames.0) u.begins) in
      let waits : WaitsAt v.e t.rest w.w =
      subst (λ (x : List ℕ). WaitsAt v.e x w.w) (sym rest) (subst (λ (x : on.End). WaitsAt x u.rest w.w) (sym frames.1) w.waits) in
      let words : t.last_words ≡ u.last_words =
      v.words_are ∙ words_one v.e t.rest v.w w.w v.waits waits ∙ ap (λ (x : on.End). told_words x w.w) frames.1 ∙ sym w.words_are in
      record {
        ends = v.end_is ∙ ap (λ (x : on.End). told_end x (nat_le LIMIT (length bytes))) frames.1 ∙ sym w.end_is;
        frames = t.count ∙ ap length frames.0 ∙ sym u.count;
        steps_are = one.steps;
        written_are = t.written_is ∙ (λ i. (one.answer i) ++ (words i)) ∙ sym u.written_is;
      }

pub conversation_one : Readings → SpentLaws → OneConversation
conversation_one laws spent_laws c nodes bytes served last steps others written answered p q few short short_too =
    let crew = first_crew c nodes in
    let s = state crew.history crew.nodes 0 in
    let y = state p.history p.reached p.moment in
    let z = state q.history q.reached q.moment in
    let ascends = crew_ascends c nodes few in
    let a = exactly_so c crew.history p.history crew.nodes p.reached 0 p.moment 1 steps p.answered p.asked p.still (sym p.finished.short_is ∙ short) ascends in
    let b = exactly_so c crew.history q.history crew.nodes q.reached 0 q.moment 1 others q.answered q.asked q.still (sym q.finished.short_is ∙ short_too) ascends in
    let one = talk_one laws spent_laws c crew.numbers s y z bytes served last steps others written answered p.finished q.finished
    (subst (λ (x : List Step). Exactly c s x y) (sym (append-nil steps)) a)
    (subst (λ (x : List Step). Exactly c s x z) (sym (append-nil others)) b) in
    let same = exactly_one laws c s y z others (subst (λ (x : List Step). Exactly c s x y) one.steps_are a) b in
    record {
      same_end = λ i. record { frames = one.frames i; end = one.ends i; short = (short ∙ sym short_too) i };
      same_steps = one.steps_are;
      same_written = one.written_are;
      same_history = ap (λ (x : State). x.history) same;
      same_nodes = ap (λ (x : State). x.nodes) same;
      same_moment = ap (λ (x : State). x.moment) same;
    }
