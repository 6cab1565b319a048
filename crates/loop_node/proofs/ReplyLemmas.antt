-- The replies around the session that was found.
use Rattle.std.proofs.Common.{◌≡◌, ℕ, List, ◌∷◌, ◌++◌, get_or, Option, Result, Ok, Err, IfOk, sym, ap, subst, ◌∙◌}
use Rattle.std.proofs.Math.ListN.{set}
use Rattle.std.proofs.Math.Seq.{get_or-append_seam, set-append_seam}
use Rattle.grid_types.specs.Capabilities.{json_string}
use Rattle.http_frames.specs.declared.replies.NodeReply.{NodeReply}
use Rattle.wd_bodies.specs.Bodies.{value_bytes}
use Rattle.grid_outside.specs.declared.exchange.Ask.{Ask}
use Rattle.loop_node.specs.declared.node.Session.{Session}
use Rattle.loop_node.specs.Sessions.{Node, url_at, without}
use Rattle.loop_node.specs.Sizes.{IsFound}
use Rattle.loop_node.specs.Links.{IsReached, OneAnswers}
use Rattle.loop_node.specs.Replies.{Answers, success, null_body, delete_answer, url_answer, IsMoved, Moves}
use Rattle.loop_node.proofs.NodeLemmas.{url_is, url_at_place}

deleted : (node : Node) (id : List ℕ) (place : ℕ) (reply : NodeReply) (sessions : List Session) → IsFound id node.sessions place → reply ≡ success null_body → sessions ≡ without id node.sessions →
    (reply, record node { sessions = sessions }) ≡ delete_answer node id (url_at id node.sessions)
deleted node id place reply sessions f is gone =
    ap (λ (r : NodeReply). (r, record node { sessions = sessions })) is
    ∙ ap (λ (ss : List Session). (success null_body, record node { sessions = ss })) gone
    ∙ ap (delete_answer node id) (sym (url_is id node.sessions place f))

-- the node is the one that was lent
pub deleted_at : (now node : Node) (id : List ℕ) (place : ℕ) (reply : NodeReply) (sessions : List Session) → now ≡ node → IsFound id node.sessions place → reply ≡ success null_body → sessions ≡ without id node.sessions →
    (reply, record node { sessions = sessions }) ≡ delete_answer now id (url_at id now.sessions)
deleted_at now node id place reply sessions same f is gone =
    deleted node id place reply sessions f is gone ∙ ap (λ (n : Node). delete_answer n id (url_at id n.sessions)) (sym same)

pub moves_found : {E : Type 0} (r : Result NodeReply E) (node new : Node) (id body : List ℕ) (place : ℕ) → IsFound id node.sessions place →
    IfOk r (λ reply. (k : List ℕ) → IsFound k node.sessions place → IsMoved node k body (reply, new)) → IfOk r (λ reply. Moves node id body (url_at id node.sessions) (reply, new))
moves_found (Ok reply) node new id body place f h = subst (λ (o : Option (List ℕ)). Moves node id body o (reply, new)) (sym (url_is id node.sessions place f)) (h id f)
moves_found (Err e) node new id body place f h = tt

pub url_replied : {E : Type 0} (r : Result NodeReply E) (node : Node) (id : List ℕ) (place : ℕ) (s : Session) (json body : List ℕ) → IsFound id node.sessions place → s ≡ get_or node.sessions place s →
    json ≡ json_string s.url → body ≡ value_bytes json → IfOk r (λ reply. reply ≡ success body) → IfOk r (λ reply. (reply, node) ≡ url_answer node (url_at id node.sessions))
url_replied (Ok reply) node id place s json body f is j b h =
    ap (λ (x : NodeReply). (x, node)) (h ∙ ap success (b ∙ ap value_bytes j))
    ∙ ap (url_answer node) (sym (url_at_place id node.sessions place s f is))
url_replied (Err e) node id place s json body f is j b h = tt

reached_is : (address : List ℕ) (nodes : List Node) (place : ℕ) (r : IsReached address nodes place) (node : Node) → node ≡ get_or nodes place node → node ≡ r.node
reached_is address nodes place r node is =
    is ∙ ap (λ (ns : List Node). get_or ns place node) r.are ∙ ap (λ (n : ℕ). get_or (r.before ++ r.node ∷ r.behind) n node) r.place_is
    ∙ get_or-append_seam r.before r.node r.behind node

-- the answer of the node that was reached, which is put back at its place
pub one_answers : {E : Type 0} (r : Result NodeReply E) (nodes : List Node) (place : ℕ) (node changed : Node) (ask : Ask) → node ≡ get_or nodes place node →
    IfOk r (λ reply. Answers node ask reply changed) → IfOk r (λ reply. (address : List ℕ) → IsReached address nodes place → OneAnswers nodes address ask reply (set nodes place changed))
one_answers (Ok reply) nodes place node changed ask is h = λ address f. record {
  before = f.before;
  node = f.node;
  changed = changed;
  behind = f.behind;
  are = f.are;
  at = f.at;
  answers = subst (λ (n : Node). Answers n ask reply changed) (reached_is address nodes place f node is) h;
  become =
      ap (λ (ns : List Node). set ns place changed) f.are ∙ ap (λ (n : ℕ). set (f.before ++ f.node ∷ f.behind) n changed) f.place_is
      ∙ set-append_seam f.before f.node f.behind changed;
}
one_answers (Err e) nodes place node changed ask is h = tt
