-- Nodes in memory whose numbers ascend give one answer.
use Rattle.std.proofs.Common.{◌≡◌, ℕ, zero, suc, ◌+◌, ◌^◌, ◌<◌, ◌≤◌, Bool, true, false, ◌||◌, List, [], ◌∷◌, ◌++◌, length, refl, sym, ap, subst, ◌∙◌, arith}
use Rattle.std.specs.Prelude.{Option, None, Some, Ok, Err, codes, decimal}
use Rattle.std.specs.Str.{bytes_eq}
use Rattle.std.proofs.lemmas.Fmt.{decimal_injective}
use Rattle.std.proofs.lemmas.List.{append_cancel_left}
use Rattle.json_spans.specs.Grammar.{Tree}
use Rattle.json_spans.specs.OneWay.{ReadOneWay, NotBoth}
use Rattle.http_frames.specs.declared.replies.NodeReply.{NodeReply}
use Rattle.caps_merge.specs.Placed.{Member, placed}
use Rattle.grid_outside.specs.declared.exchange.Ask.{Ask}
use Rattle.grid_outside.specs.declared.exchange.Reply.TheVariants as reply
use Rattle.grid_outside.specs.declared.exchange.ExchangeFault.TheVariants as fault
use Rattle.grid_outside.specs.Exchanges.{Came}
use Rattle.node_client.specs.Steps.{lacked}
use Rattle.loop_node.specs.Paths.{Asked, asked_of, new_session as start_session, delete_session, set_url, get_url, get_status, unknown_command, unknown_method}
use Rattle.loop_node.specs.Sessions.{Node, url_at}
use Rattle.loop_node.specs.Reading.{ReadsObject, not_json, json, object_of, url_asked}
use Rattle.loop_node.specs.Replies.{Answered, Answers, AnswersTo, Moves, start_answer, start_by, started_if, has_room, delete_answer, url_answer, move_answer}
use Rattle.loop_node.specs.Links.{NodesGive, OneAnswers, is_at, is_reached, node_address}

-- ---- a body is read in one way

reads_one : (body : List ℕ) → ReadOneWay body → NotBoth body → (o p : Option (List Member)) → ReadsObject body o → ReadsObject body p → o ≡ p
reads_one body read both _ _ (not_json f h) (not_json g k) = refl
reads_one body read both _ _ (not_json f h) (json before v after u k) = absurd (both f before v after h u k)
reads_one body read both _ _ (json before v after u h) (not_json f k) = absurd (both f before v after k u h)
reads_one body read both _ _ (json before v after u h) (json space w left t k) =
    let o = read before space v w after left h.json k.json in
    ap (λ (x : List ℕ). object_of (placed (length x) v)) o.0 ∙ ap (λ (x : Tree). object_of (placed (length space) x)) o.1

-- ---- one node gives one answer

module _ (read : (body : List ℕ) → ReadOneWay body) (both : (body : List ℕ) → NotBoth body) where
  starts_one : (node : Node) (body : List ℕ) (a b : Answered) → AnswersTo start_session node body a → AnswersTo start_session node body b → a ≡ b
  starts_one node body a b p q =
      p.2 ∙ ap (start_answer node) (reads_one body (read body) (both body) p.0 q.0 p.1 q.1) ∙ sym q.2

  moves_one : (node : Node) (id body : List ℕ) (o : Option (List ℕ)) (a b : Answered) → Moves node id body o a → Moves node id body o b → a ≡ b
  moves_one node id body None a b p q = p ∙ sym q
  moves_one node id body (Some url) a b p q =
      p.2 ∙ ap (λ (o : Option (List Member)). move_answer node id (url_asked o)) (reads_one body (read body) (both body) p.0 q.0 p.1 q.1) ∙ sym q.2

  asked_one : (asked : Asked) (node : Node) (body : List ℕ) (a b : Answered) → AnswersTo asked node body a → AnswersTo asked node body b → a ≡ b
  asked_one start_session node body a b p q = starts_one node body a b p q
  asked_one (delete_session id) node body a b p q = p ∙ sym q
  asked_one (set_url id) node body a b p q = moves_one node id body (url_at id node.sessions) a b p q
  asked_one (get_url id) node body a b p q = p ∙ sym q
  asked_one get_status node body a b p q = p ∙ sym q
  asked_one unknown_command node body a b p q = p ∙ sym q
  asked_one unknown_method node body a b p q = p ∙ sym q

  pub node_one : (node : Node) (ask : Ask) (x y : NodeReply) (m l : Node) → Answers node ask x m → Answers node ask y l → (x ≡ y) × (m ≡ l)
  node_one node ask x y m l p q =
      let e = asked_one (asked_of ask.method ask.target) node ask.body (x, m) (y, l) p q in
      (λ i. (e i).0, λ i. (e i).1)

-- ---- and keeps its number

kept_by_room : (b : Bool) (node : Node) → (started_if b node).1.number ≡ node.number
kept_by_room true node = refl
kept_by_room false node = refl

kept_by_refuses : (n : ℕ) (node : Node) → (start_by n node).1.number ≡ node.number
kept_by_refuses zero node = kept_by_room (has_room node) node
kept_by_refuses (suc n) node = refl

kept_by_start : (node : Node) (o : Option (List Member)) → (start_answer node o).1.number ≡ node.number
kept_by_start node None = refl
kept_by_start node (Some members) = kept_by_refuses node.refuses node

kept_by_delete : (node : Node) (id : List ℕ) (o : Option (List ℕ)) → (delete_answer node id o).1.number ≡ node.number
kept_by_delete node id None = refl
kept_by_delete node id (Some url) = refl

kept_by_move : (node : Node) (id : List ℕ) (o : Option (List ℕ)) → (move_answer node id o).1.number ≡ node.number
kept_by_move node id None = refl
kept_by_move node id (Some url) = refl

kept_by_url : (node : Node) (o : Option (List ℕ)) → (url_answer node o).1.number ≡ node.number
kept_by_url node None = refl
kept_by_url node (Some url) = refl

number_of : Answered → ℕ
number_of a = a.1.number

kept_by_moves : (node : Node) (id body : List ℕ) (o : Option (List ℕ)) (a : Answered) → Moves node id body o a → a.1.number ≡ node.number
kept_by_moves node id body None a p = ap (λ (b : Answered). b.1.number) p
kept_by_moves node id body (Some url) a p = ap (λ (b : Answered). b.1.number) p.2 ∙ kept_by_move node id (url_asked p.0)

kept_by_asked : (asked : Asked) (node : Node) (body : List ℕ) (a : Answered) → AnswersTo asked node body a → a.1.number ≡ node.number
kept_by_asked start_session node body a p = ap (λ (b : Answered). b.1.number) p.2 ∙ kept_by_start node p.0
kept_by_asked (delete_session id) node body a p = ap (λ (b : Answered). b.1.number) p ∙ kept_by_delete node id (url_at id node.sessions)
kept_by_asked (set_url id) node body a p = kept_by_moves node id body (url_at id node.sessions) a p
kept_by_asked (get_url id) node body a p = ap (λ (b : Answered). b.1.number) p ∙ kept_by_url node (url_at id node.sessions)
kept_by_asked get_status node body a p = ap (λ (b : Answered). b.1.number) p
kept_by_asked unknown_command node body a p = ap (λ (b : Answered). b.1.number) p
kept_by_asked unknown_method node body a p = ap (λ (b : Answered). b.1.number) p

pub keeps_number : (node : Node) (ask : Ask) (x : NodeReply) (m : Node) → Answers node ask x m → m.number ≡ node.number
keeps_number node ask x m p = kept_by_asked (asked_of ask.method ask.target) node ask.body (x, m) p

-- ---- nodes whose numbers ascend

-- from this number on, and each is a number that is written
abbrev pub Ascends : ℕ → List Node → Type 0
Ascends k [] = Unit {0}
Ascends k (n ∷ ns) = (k ≤ n.number) × (n.number < 2 ^ 64) × Ascends (n.number + 1) ns

same_bytes : (xs ys : List ℕ) → bytes_eq xs ys ≡ true → xs ≡ ys
same_bytes [] [] h = refl
same_bytes [] (y ∷ ys) h = cc
same_bytes (x ∷ xs) [] h = cc
same_bytes (x ∷ xs) (y ∷ ys) h = grind (arith, same_bytes xs ys)

-- two nodes at one address have one number
same_number : (address : List ℕ) (n k : Node) → n.number < 2 ^ 64 → k.number < 2 ^ 64 → is_at address n ≡ true → is_at address k ≡ true → n.number ≡ k.number
same_number address n k small less p q =
    let e : node_address n.number ≡ node_address k.number =
    sym (same_bytes address (node_address n.number) p) ∙ same_bytes address (node_address k.number) q in
    decimal_injective n.number k.number small less (append_cancel_left (codes "loop:") (decimal n.number) (decimal k.number) e)

-- a node among them has a number that is written, and none below the first
within : (k : ℕ) (before : List Node) (n : Node) (behind : List Node) → Ascends k (before ++ n ∷ behind) → (k ≤ n.number) × (n.number < 2 ^ 64)
within k [] n behind a = (a.0, a.1)
within k (m ∷ before) n behind a =
    let rest = within (m.number + 1) before n behind a.2 in
    (omega (arith, a.0, rest.0), rest.1)

pub record SamePlace (before others : List Node) (n m : Node) (behind rest : List Node) : Type 0 where
  pub front : before ≡ others
  pub node : n ≡ m
  pub back : behind ≡ rest

head_same : (n m : Node) (ns ms : List Node) → n ∷ ns ≡ m ∷ ms → (n ≡ m) × (ns ≡ ms)
head_same n m ns ms e = (cc, cc)

-- two nodes of one number stand at one place
place_one : (k : ℕ) (before others : List Node) (n m : Node) (behind rest : List Node) → Ascends k (before ++ n ∷ behind) →
    before ++ n ∷ behind ≡ others ++ m ∷ rest → n.number ≡ m.number → SamePlace before others n m behind rest
place_one k [] [] n m behind rest a e same = let h = head_same n m behind rest e in record { front = refl; node = h.0; back = h.1 }
place_one k [] (o ∷ others) n m behind rest a e same =
    let h = head_same n o behind (others ++ m ∷ rest) e in
    let later = within (n.number + 1) others m rest (subst (λ (l : List Node). Ascends (n.number + 1) l) h.1 a.2) in
    absurd (omega (arith, later.0, same))
place_one k (b ∷ before) [] n m behind rest a e same =
    let h = head_same b m (before ++ n ∷ behind) rest e in
    let later = within (b.number + 1) before n behind a.2 in
    absurd (omega (arith, later.0, same, ap (λ (x : Node). x.number) h.0))
place_one k (b ∷ before) (o ∷ others) n m behind rest a e same =
    let h = head_same b o (before ++ n ∷ behind) (others ++ m ∷ rest) e in
    let next = place_one (b.number + 1) before others n m behind rest a.2 h.1 same in
    record { front = cc (h.0, next.front); node = next.node; back = next.back }

ascends_kept : (k : ℕ) (before : List Node) (n m : Node) (behind : List Node) → m.number ≡ n.number → Ascends k (before ++ n ∷ behind) → Ascends k (before ++ m ∷ behind)
ascends_kept k [] n m behind same a = (
  omega (arith, a.0, same),
  omega (arith, a.1, same),
  subst (λ (x : ℕ). Ascends (x + 1) behind) (sym same) a.2,
)
ascends_kept k (b ∷ before) n m behind same a = (a.0, a.1, ascends_kept (b.number + 1) before n m behind same a.2)

-- they go on ascending
pub gives_kept : (k : ℕ) (old : List Node) (address : List ℕ) (ask : Ask) (came : Came) (new : List Node) → Ascends k old → NodesGive old address ask came new → Ascends k new
gives_kept k old address ask (Ok (reply.Http answer)) new a g =
    let same = keeps_number g.node ask answer g.changed g.answers in
    subst (λ (l : List Node). Ascends k l) (sym g.become)
    (ascends_kept k g.before g.node g.changed g.behind same (subst (λ (l : List Node). Ascends k l) g.are a))
gives_kept k old address ask (Ok (reply.NotHttp bytes)) new a g = absurd g
gives_kept k old address ask (Err fault.Unreachable) new a g = subst (λ (l : List Node). Ascends k l) (sym g.1) a
gives_kept k old address ask (Err fault.Memory) new a g = subst (λ (l : List Node). Ascends k l) (sym g.1) a

-- ---- one answer

-- some node has the address that one of them answers at
reached_by : (address : List ℕ) (before : List Node) (n : Node) (behind : List Node) → is_at address n ≡ true → is_reached address (before ++ n ∷ behind) ≡ true
reached_by address [] n behind p = by_first (is_at address n) p
  where
    by_first : (t : Bool) → t ≡ true → (t || is_reached address behind) ≡ true
    by_first true e = refl
    by_first false e = cc
reached_by address (b ∷ before) n behind p = by_test (is_at address b) (is_reached address (before ++ n ∷ behind)) (reached_by address before n behind p)
  where
    by_test : (t u : Bool) → u ≡ true → (t || u) ≡ true
    by_test true u e = refl
    by_test false u e = e

module _ (read : (body : List ℕ) → ReadOneWay body) (both : (body : List ℕ) → NotBoth body) where
  answers_one : (k : ℕ) (old : List Node) (address : List ℕ) (ask : Ask) (x y : NodeReply) (m l : List Node) → Ascends k old →
      OneAnswers old address ask x m → OneAnswers old address ask y l → (x ≡ y) × (m ≡ l)
  answers_one k old address ask x y m l a p q =
      let at_p = subst (λ (ns : List Node). Ascends k ns) p.are a in
      let at_q = subst (λ (ns : List Node). Ascends k ns) q.are a in
      let number = same_number address p.node q.node (within k p.before p.node p.behind at_p).1 (within k q.before q.node q.behind at_q).1 p.at q.at in
      let place = place_one k p.before q.before p.node q.node p.behind q.behind at_p (sym p.are ∙ q.are) number in
      let one = node_one read both p.node ask x y p.changed q.changed p.answers
      (subst (λ (n : Node). Answers n ask y q.changed) (sym place.node) q.answers) in
      (one.0, p.become ∙ join place.front one.1 place.back ∙ sym q.become)
    where
      join : p.before ≡ q.before → p.changed ≡ q.changed → p.behind ≡ q.behind → p.before ++ p.changed ∷ p.behind ≡ q.before ++ q.changed ∷ q.behind
      join e f g = λ i. (e i) ++ (f i) ∷ (g i)

  unreached : (old : List Node) (address : List ℕ) (ask : Ask) (x : NodeReply) (m : List Node) → OneAnswers old address ask x m → is_reached address old ≡ false → ⊥
  unreached old address ask x m p none =
      let some : is_reached address old ≡ true = ap (is_reached address) p.are ∙ reached_by address p.before p.node p.behind p.at in cc

  pub gives_one : (k : ℕ) (old : List Node) (address : List ℕ) (ask : Ask) (x y : Came) (m l : List Node) → Ascends k old → lacked x ≡ false → lacked y ≡ false →
      NodesGive old address ask x m → NodesGive old address ask y l → (x ≡ y) × (m ≡ l)
  gives_one k old address ask (Ok (reply.Http r)) (Ok (reply.Http s)) m l a _ _ p q =
      let o = answers_one k old address ask r s m l a p q in
      (ap (λ (t : NodeReply). Ok (reply.Http t)) o.0, o.1)
  gives_one k old address ask (Ok (reply.Http r)) (Err fault.Unreachable) m l a _ _ p q = absurd (unreached old address ask r m p q.0)
  gives_one k old address ask (Err fault.Unreachable) (Ok (reply.Http s)) m l a _ _ p q = absurd (unreached old address ask s l q p.0)
  gives_one k old address ask (Err fault.Unreachable) (Err fault.Unreachable) m l a _ _ p q = (refl, p.1 ∙ sym q.1)
  gives_one k old address ask (Ok (reply.NotHttp b)) y m l a _ _ p q = absurd p
  gives_one k old address ask x (Ok (reply.NotHttp b)) m l a _ _ p q = absurd q
  gives_one k old address ask (Err fault.Memory) y m l a e _ p q = cc
  gives_one k old address ask x (Err fault.Memory) m l a _ e p q = cc
