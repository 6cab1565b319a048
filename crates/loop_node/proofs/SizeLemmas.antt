-- How long replies are, and what of a node no answer changes.
use Rattle.std.proofs.Common.{◌≡◌, ℕ, zero, suc, ◌+◌, ◌*◌, ◌≤◌, ◌/◌, ◌%◌, Bool, true, false, cond, nat_le, nat_lt, List, [], ◌∷◌, ◌++◌, length, codes, Option, Some, None, Result, Ok, Err, IfOk, OnErr, IsTrue, option_map, refl, sym, ap, subst, arith, length-append}
use Rattle.std.proofs.lemmas.Grind.{common_steps}
use Rattle.std.proofs.lemmas.Bool.Decides.{nat_tests}
use Rattle.std.specs.List.{list_all, find, flat_map}
use Rattle.std.specs.Char.{digit_char}
use Rattle.uuid.proofs.TextLemmas.{by_index_length}
use Rattle.grid_types.specs.Capabilities.{json_string, escaped, short_escape, written_caps}
use Rattle.http_frames.specs.declared.replies.NodeReply.{NodeReply}
use Rattle.wd_bodies.specs.Bodies.{value_bytes, error_bytes, created_bytes}
use Rattle.grid_outside.specs.declared.exchange.Ask.{Ask}
use Rattle.grid_outside.specs.declared.exchange.Reply.TheVariants as exchange
use Rattle.grid_outside.specs.Exchanges.{is_within}
use Rattle.caps_merge.specs.Placed.{Member}
use Rattle.loop_node.specs.declared.node.Session.{Session}
use Rattle.loop_node.specs.Paths.{Asked, asked_of, new_session as start_session, delete_session, set_url, get_url, get_status, unknown_command, unknown_method}
use Rattle.loop_node.specs.Sessions.{Node, session_id, node_caps, has_id, url_at}
use Rattle.loop_node.specs.Sizes.{is_short, has_short_url, short_texts}
use Rattle.loop_node.specs.Reading.{url_asked}
use Rattle.loop_node.specs.Replies.{Answered, Answers, AnswersTo, Moves, success, null_body, no_session, start_answer, start_by, started_if, started, has_room, delete_answer, url_answer, move_answer, status_json, command_answer, method_answer}
use Rattle.loop_node.proofs.ListLemmas.{left, right}

-- ---- the length of a JSON string

short_cases : (a b : Bool) (x y z : List ℕ) → length x ≤ 6 → length y ≤ 6 → length z ≤ 6 → length (cond a x (cond b y z)) ≤ 6
short_cases true b x y z h k l = h
short_cases false true x y z h k l = k
short_cases false false x y z h k l = l

escaped_length : (b : ℕ) → length (escaped b) ≤ 6
escaped_length b =
    short_cases (nat_lt 0 (short_escape b)) (nat_lt b 32) (92 ∷ short_escape b ∷ []) (codes "\\u00" ++ digit_char (b / 16) ∷ digit_char (b % 16) ∷ []) (b ∷ [])
    (omega arith) (omega arith) (omega arith)

all_escaped : (text : List ℕ) → length (flat_map escaped text) ≤ 6 * length text
all_escaped [] = omega arith
all_escaped (b ∷ text) = omega (arith, escaped_length b, all_escaped text, length-append (escaped b) (flat_map escaped text))

string_length : (text : List ℕ) → length (json_string text) ≤ 6 * length text + 2
string_length text = omega (arith, all_escaped text, length-append (flat_map escaped text) (34 ∷ []))

-- ---- the length of a body

caps_length : (browser version : List ℕ) → length (written_caps (node_caps browser version)) ≤ length (json_string browser) + length (json_string version) + 100
unfolding written_caps
caps_length browser version = grind (arith, common_steps, length-append)

id_length : (number n : ℕ) → length (session_id number n) ≡ 36
unfolding session_id
id_length number n = by_index_length 36 _

created_length : (id browser version : List ℕ) → length (created_bytes id (node_caps browser version)) ≤ length id + length (json_string browser) + length (json_string version) + 200
unfolding created_bytes
created_length id browser version = grind (arith, common_steps, length-append, caps_length browser version)

value_length : (json : List ℕ) → length (value_bytes json) ≡ 10 + length json
unfolding value_bytes
value_length json = grind (arith, common_steps, length-append)

-- ---- a reply is small

abbrev IsSmall : NodeReply → Type 0
IsSmall reply = is_within (exchange.Http reply) ≡ true

small_body : (body : List ℕ) → length body ≤ 16777216 → IsSmall (success body)
small_body body h =
    let le : nat_le (length body) 16777216 ≡ true = grind (arith, nat_tests) in
    rw le refl

none_there : IsSmall no_session
unfolding error_bytes
none_there = refl

null_small : IsSmall (success null_body)
null_small = small_body null_body (omega (arith, value_length (codes "null")))

short_le : (n m : ℕ) → nat_le n m ≡ true → n ≤ m
short_le n m h = grind (arith, nat_tests)

started_small : (node : Node) → short_texts node ≡ true → IsSmall (started node).0
started_small node h =
    let b = short_le (length node.browser) 65536 (left (nat_le (length node.browser) 65536) (nat_le (length node.version) 65536) h) in
    let v = short_le (length node.version) 65536 (right (nat_le (length node.browser) 65536) (nat_le (length node.version) 65536) h) in
    let id = session_id node.number (node.created + 1) in
    small_body (created_bytes id (node_caps node.browser node.version))
    (omega (arith, b, v, id_length node.number (node.created + 1), string_length node.browser, string_length node.version, created_length id node.browser node.version))

if_small : (room : Bool) (node : Node) → short_texts node ≡ true → IsSmall (started_if room node).0
unfolding error_bytes
if_small true node h = started_small node h
if_small false node h = refl

start_by_small : (refuses : ℕ) (node : Node) → short_texts node ≡ true → IsSmall (start_by refuses node).0
unfolding error_bytes
start_by_small zero node h = if_small (has_room node) node h
start_by_small (suc refuses) node h = refl

start_small : (node : Node) (o : Option (List Member)) → short_texts node ≡ true → IsSmall (start_answer node o).0
unfolding error_bytes
start_small node None h = refl
start_small node (Some members) h = start_by_small node.refuses node h

delete_small : (node : Node) (id : List ℕ) (o : Option (List ℕ)) → IsSmall (delete_answer node id o).0
delete_small node id None = none_there
delete_small node id (Some url) = null_small

abbrev IsShortWhere : Option (List ℕ) → Type 0
IsShortWhere None = Unit {0}
IsShortWhere (Some url) = is_short url ≡ true

short_or : (b : Bool) (s : Session) (o : Option Session) → has_short_url s ≡ true → IsShortWhere (option_map (λ (x : Session). x.url) o) → IsShortWhere (option_map (λ (x : Session). x.url) (cond b (Some s) o))
short_or true s o h k = h
short_or false s o h k = k

short_where : (id : List ℕ) (sessions : List Session) → list_all has_short_url sessions ≡ true → IsShortWhere (url_at id sessions)
short_where id [] h = tt
short_where id (s ∷ sessions) h =
    short_or (has_id id s) s (find (has_id id) sessions) (left (has_short_url s) (list_all has_short_url sessions) h) (short_where id sessions (right (has_short_url s) (list_all has_short_url sessions) h))

url_small : (node : Node) (o : Option (List ℕ)) → IsShortWhere o → IsSmall (url_answer node o).0
url_small node None h = none_there
url_small node (Some url) h = small_body (value_bytes (json_string url)) (omega (arith, value_length (json_string url), short_le (length (json_string url)) 16777206 h))

move_small : (node : Node) (id : List ℕ) (o : Option (List ℕ)) → IsSmall (move_answer node id o).0
unfolding error_bytes
move_small node id None = refl
move_small node id (Some url) = null_small

status_small : (room : Bool) → IsSmall (success (value_bytes (status_json room)))
status_small true = small_body (value_bytes (status_json true)) (omega (arith, value_length (status_json true)))
status_small false = small_body (value_bytes (status_json false)) (omega (arith, value_length (status_json false)))

command_small : (node : Node) → IsSmall (command_answer node).0
unfolding error_bytes
command_small node = refl

method_small : (node : Node) → IsSmall (method_answer node).0
unfolding error_bytes
method_small node = refl

by_answer : (reply : NodeReply) (new : Node) (x : Answered) → (reply, new) ≡ x → IsSmall x.0 → IsSmall reply
by_answer reply new x e h = subst (λ (y : Answered). IsSmall y.0) (sym e) h

moves_small : (node new : Node) (id body : List ℕ) (o : Option (List ℕ)) (reply : NodeReply) → Moves node id body o (reply, new) → IsSmall reply
moves_small node new id body None reply h = by_answer reply new _ h none_there
moves_small node new id body (Some url) reply h = by_answer reply new _ h.2 (move_small node id (url_asked h.0))

reply_small : (a : Asked) (node : Node) (body : List ℕ) (reply : NodeReply) (new : Node) → AnswersTo a node body (reply, new) → short_texts node ≡ true → list_all has_short_url node.sessions ≡ true → IsSmall reply
reply_small start_session node body reply new h texts urls = by_answer reply new _ h.2 (start_small node h.0 texts)
reply_small (delete_session id) node body reply new h texts urls = by_answer reply new _ h (delete_small node id (url_at id node.sessions))
reply_small (set_url id) node body reply new h texts urls = moves_small node new id body (url_at id node.sessions) reply h
reply_small (get_url id) node body reply new h texts urls = by_answer reply new _ h (url_small node (url_at id node.sessions) (short_where id node.sessions urls))
reply_small get_status node body reply new h texts urls = by_answer reply new _ h (status_small (has_room node))
reply_small unknown_command node body reply new h texts urls = by_answer reply new _ h (command_small node)
reply_small unknown_method node body reply new h texts urls = by_answer reply new _ h (method_small node)

pub answer_small : {E : Type 0} (r : Result NodeReply E) (node new : Node) (ask : Ask) → list_all has_short_url node.sessions ≡ true → IfOk r (λ reply. Answers node ask reply new) →
    IfOk r (λ reply. IsTrue (short_texts node) → IsTrue (is_within (exchange.Http reply)))
answer_small (Ok reply) node new ask urls h = λ texts. reply_small (asked_of ask.method ask.target) node ask.body reply new h texts urls
answer_small (Err e) node new ask urls h = tt

-- ---- no answer changes the browser and the version

abbrev Keeps : Node → Node → Type 0
Keeps node new = short_texts new ≡ short_texts node

if_keeps : (room : Bool) (node : Node) → Keeps node (started_if room node).1
if_keeps true node = refl
if_keeps false node = refl

start_by_keeps : (refuses : ℕ) (node : Node) → Keeps node (start_by refuses node).1
start_by_keeps zero node = if_keeps (has_room node) node
start_by_keeps (suc refuses) node = refl

start_keeps : (node : Node) (o : Option (List Member)) → Keeps node (start_answer node o).1
start_keeps node None = refl
start_keeps node (Some members) = start_by_keeps node.refuses node

delete_keeps : (node : Node) (id : List ℕ) (o : Option (List ℕ)) → Keeps node (delete_answer node id o).1
delete_keeps node id None = refl
delete_keeps node id (Some url) = refl

url_keeps : (node : Node) (o : Option (List ℕ)) → Keeps node (url_answer node o).1
url_keeps node None = refl
url_keeps node (Some url) = refl

move_keeps : (node : Node) (id : List ℕ) (o : Option (List ℕ)) → Keeps node (move_answer node id o).1
move_keeps node id None = refl
move_keeps node id (Some url) = refl

kept_by : (node : Node) (reply : NodeReply) (new : Node) (x : Answered) → (reply, new) ≡ x → Keeps node x.1 → Keeps node new
kept_by node reply new x e h = subst (λ (y : Answered). Keeps node y.1) (sym e) h

moves_keeps : (node new : Node) (id body : List ℕ) (o : Option (List ℕ)) (reply : NodeReply) → Moves node id body o (reply, new) → Keeps node new
moves_keeps node new id body None reply h = kept_by node reply new _ h refl
moves_keeps node new id body (Some url) reply h = kept_by node reply new _ h.2 (move_keeps node id (url_asked h.0))

reply_keeps : (a : Asked) (node : Node) (body : List ℕ) (reply : NodeReply) (new : Node) → AnswersTo a node body (reply, new) → Keeps node new
reply_keeps start_session node body reply new h = kept_by node reply new _ h.2 (start_keeps node h.0)
reply_keeps (delete_session id) node body reply new h = kept_by node reply new _ h (delete_keeps node id (url_at id node.sessions))
reply_keeps (set_url id) node body reply new h = moves_keeps node new id body (url_at id node.sessions) reply h
reply_keeps (get_url id) node body reply new h = kept_by node reply new _ h (url_keeps node (url_at id node.sessions))
reply_keeps get_status node body reply new h = kept_by node reply new _ h refl
reply_keeps unknown_command node body reply new h = kept_by node reply new _ h refl
reply_keeps unknown_method node body reply new h = kept_by node reply new _ h refl

pub answer_keeps : {E : Type 0} (r : Result NodeReply E) (node new : Node) (ask : Ask) → IfOk r (λ reply. Answers node ask reply new) → OnErr r (new ≡ node) → short_texts new ≡ short_texts node
answer_keeps (Ok reply) node new ask h k = reply_keeps (asked_of ask.method ask.target) node ask.body reply new h
answer_keeps (Err e) node new ask h k = ap short_texts k
