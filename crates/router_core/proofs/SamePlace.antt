-- The router's rows and the table of paths give one place to every path.
use Rattle.std.proofs.Common.{◌≡◌, ◌≢◌, ℕ, suc, ◌-◌, ◌<◌, ◌==◌, cond, Bool, true, false, ◌&&◌, nat_lt, Result, Ok, Err, List, [], ◌∷◌, ◌++◌, codes, length, drop, get_or, Fits, w8, Option, Some, None, option_map, option_and_then, ok_or, refl, sym, ap, ◌∙◌, subst, arith}
use Rattle.std.proofs.lemmas.Str.{is_utf8-from_IsUtf8, IsUtf8-from_is_utf8}
use Rattle.std.specs.Str.{IsUtf8, is_utf8}
use Rattle.std.proofs.lemmas.Bool.Decides.{nat_tests}
use Rattle.matchit.specs.Rows.{RowsOf, param_token, catch_all_token}
use Rattle.matchit.specs.Seek.{seek, step, own, param_step}
use Rattle.matchit.specs.Seek as walk
use Rattle.matchit.specs.Router.{RouteOf, route_from}
use Rattle.matchit.specs.Route.{parse_route, Scan, scan}
use Rattle.matchit.specs.declared.error.InsertError.{InsertError}
use Rattle.grid_types.specs.Lists.{or_else}
use Rattle.router_core.specs.declared.place.Place.{Place}
use Rattle.router_core.specs.declared.place.Place.TheVariants as place
use Rattle.router_core.specs.Patterns.{Piece, text, part, rest, behind, first_part, up_to, from_first, unless_empty, parts_by}
use Rattle.router_core.specs.Routes.{place_by, paths, place_of, id_of, route_at, route_of, asked, method_named}
use Rattle.router_core.specs.declared.place.Method.{Method}
use Rattle.router_core.specs.Targets.{own_target, path_of}
use Rattle.router_core.specs.declared.routed.RouteFault.TheVariants as fault
use Rattle.router_core.specs.Ids.{id_at}
use Rattle.router_core.specs.Rows.{rows}
use Rattle.router_core.proofs.Seeking.{AreBytes, under, at_end, or_else-None, seek-nothing, seek-under, seek-either, seek-key, seek-or_end, step-other, param_step-nothing}
use Rattle.router_core.proofs.Parts.{tails, seek-part}

abbrev Patterns : Type 0
Patterns = List (List Piece × Place)

abbrev Rows : Type 0
Rows = RowsOf (RouteOf Place)

-- the rows and the patterns give the path one place
abbrev Same : Rows → Patterns → List ℕ → Type 0
Same rs ps path = option_map (λ (r : RouteOf Place). r.value) (seek 0 rs path) ≡ option_map (λ (f : Place × List (List ℕ)). f.0) (place_by ps path)

-- patterns with a text in front of each
abbrev front : List ℕ → List Piece → List Piece
front w (text v ∷ more) = text (w ++ v) ∷ more
front w (part ∷ more) = text w ∷ part ∷ more
front w (rest ∷ more) = text w ∷ rest ∷ more
front w [] = text w ∷ []

abbrev fronted : List ℕ → Patterns → Patterns
fronted w [] = []
fronted w ((pattern, p) ∷ more) = (front w pattern, p) ∷ fronted w more

behind-append : (w v path : List ℕ) → behind (w ++ v) path ≡ option_and_then (behind v) (behind w path)
behind-append [] v path = refl
behind-append (x ∷ w) v [] = refl
behind-append (x ∷ w) v (b ∷ path) = by (b == x) (behind-append w v path)
  where
    by : (t : Bool) → behind (w ++ v) path ≡ option_and_then (behind v) (behind w path)
        → cond t (behind (w ++ v) path) None ≡ option_and_then (behind v) (cond t (behind w path) None)
    by true same = same
    by false same = refl

and_then-twice : {A B C : Type 0} (f : A → Option B) (g : B → Option C) (o : Option A) → option_and_then g (option_and_then f o) ≡ option_and_then (λ a. option_and_then g (f a)) o
and_then-twice f g None = refl
and_then-twice f g (Some a) = refl

parts_by-front : (w : List ℕ) (pattern : List Piece) (path : List ℕ) → parts_by (front w pattern) path ≡ option_and_then (parts_by pattern) (behind w path)
parts_by-front w [] path = refl
parts_by-front w (text v ∷ more) path = ap (option_and_then (parts_by more)) (behind-append w v path) ∙ and_then-twice (behind v) (parts_by more) (behind w path)
parts_by-front w (part ∷ more) path = refl
parts_by-front w (rest ∷ more) path = refl

place_by-fronted : (w : List ℕ) (ps : Patterns) (path : List ℕ) → place_by (fronted w ps) path ≡ option_and_then (place_by ps) (behind w path)
place_by-fronted w [] path = by (behind w path)
  where
    by : (o : Option (List ℕ)) → None ≡ option_and_then (place_by []) o
    by None = refl
    by (Some x) = refl
place_by-fronted w ((pattern, p) ∷ more) path = rw (parts_by-front w pattern path, place_by-fronted w more path) (by (behind w path))
  where
    by : (o : Option (List ℕ)) → or_else (option_map (λ parts. (p, parts)) (option_and_then (parts_by pattern) o)) (option_and_then (place_by more) o)
        ≡ option_and_then (place_by ((pattern, p) ∷ more)) o
    by None = refl
    by (Some x) = refl

or_else-assoc : {X : Type 0} (a b c : Option X) → or_else (or_else a b) c ≡ or_else a (or_else b c)
or_else-assoc None b c = refl
or_else-assoc (Some x) b c = refl

place_by-append : (xs ys : Patterns) (path : List ℕ) → place_by (xs ++ ys) path ≡ or_else (place_by xs path) (place_by ys path)
place_by-append [] ys path = refl
place_by-append ((pattern, p) ∷ xs) ys path =
    rw (place_by-append xs ys path) (sym (or_else-assoc (option_map (λ parts. (p, parts)) (parts_by pattern path)) (place_by xs path) (place_by ys path)))

-- ---- what follows a text of bytes is bytes

AreBytes-behind : (w path : List ℕ) → AreBytes path → (x : List ℕ) → behind w path ≡ Some x → AreBytes x
AreBytes-behind [] path bytes x found = let e : path ≡ x = cc in subst AreBytes e bytes
AreBytes-behind (y ∷ w) [] bytes x found = absurd cc
AreBytes-behind (y ∷ w) (b ∷ path) bytes x found = by (b == y) refl (AreBytes-behind w path bytes.1 x)
  where
    by : (t : Bool) → (b == y) ≡ t → (behind w path ≡ Some x → AreBytes x) → AreBytes x
    by true same more = more (rw same at found)
    by false other more = let e : None ≡ Some x = rw other at found in absurd cc

AreBytes-from : (c : ℕ) (path : List ℕ) → AreBytes path → AreBytes (from_first c path)
AreBytes-from c [] bytes = tt
AreBytes-from c (b ∷ path) bytes = by (b == c) (AreBytes-from c path bytes.1)
  where
    by : (t : Bool) → AreBytes (from_first c path) → AreBytes (cond t (b ∷ path) (from_first c path))
    by true more = bytes
    by false more = more

-- ---- the rules

same-under : (w : List ℕ) (rs : Rows) (ps : Patterns) → AreBytes w → ((x : List ℕ) → AreBytes x → Same rs ps x)
    → (path : List ℕ) → AreBytes path → Same (under w rs) (fronted w ps) path
same-under w rs ps small each path bytes =
    rw (seek-under w rs path small, place_by-fronted w ps path) (by (behind w path) refl)
  where
    by : (o : Option (List ℕ)) → behind w path ≡ o
        → option_map (λ (r : RouteOf Place). r.value) (option_and_then (λ r. seek 0 rs r) o) ≡ option_map (λ (f : Place × List (List ℕ)). f.0) (option_and_then (place_by ps) o)
    by None found = refl
    by (Some x) found = each x (AreBytes-behind w path bytes x found)

joined : (a b : Option (RouteOf Place)) (f g : Option (Place × List (List ℕ)))
    → option_map (λ (r : RouteOf Place). r.value) a ≡ option_map (λ (x : Place × List (List ℕ)). x.0) f
    → option_map (λ (r : RouteOf Place). r.value) b ≡ option_map (λ (x : Place × List (List ℕ)). x.0) g
    → option_map (λ (r : RouteOf Place). r.value) (walk.or_else a b) ≡ option_map (λ (x : Place × List (List ℕ)). x.0) (or_else f g)
joined None b None g p q = q
joined (Some a) b (Some f) g p q = p
joined None b (Some f) g p q = absurd cc
joined (Some a) b None g p q = absurd cc

same-either : (x y : ℕ) (w v : List ℕ) (rs ss : Rows) (ps qs : Patterns) (path : List ℕ) → x < 256 → y < 256 → x ≢ y
    → Same (under (x ∷ w) rs) ps path → Same (under (y ∷ v) ss) qs path
    → Same (under (x ∷ w) rs ++ under (y ∷ v) ss) (ps ++ qs) path
same-either x y w v rs ss ps qs path xb yb differ p q =
    rw (seek-either x y w v rs ss path xb yb differ, place_by-append ps qs path) (joined _ _ _ _ p q)

at_end-ended : (key : RouteOf Place) (path : List ℕ)
    → option_map (λ (r : RouteOf Place). r.value) (at_end path key) ≡ option_map (λ (x : Place × List (List ℕ)). x.0) (place_by ((text [] ∷ [], key.value) ∷ []) path)
at_end-ended key [] = refl
at_end-ended key (b ∷ path) = refl

same-key : (key : RouteOf Place) (path : List ℕ) → Same (([], key) ∷ []) ((text [] ∷ [], key.value) ∷ []) path
same-key key path = rw (seek-key key path) (at_end-ended key path)

same-or_end : (x : ℕ) (w : List ℕ) (rs : Rows) (ps : Patterns) (key : RouteOf Place) (path : List ℕ) → x < 256
    → Same (under (x ∷ w) rs) ps path → Same (under (x ∷ w) rs ++ ([], key) ∷ []) (ps ++ (text [] ∷ [], key.value) ∷ []) path
same-or_end x w rs ps key path byte p =
    rw (seek-or_end x w rs key path byte, place_by-append ps ((text [] ∷ [], key.value) ∷ []) path) (joined _ _ _ _ p (at_end-ended key path))

-- ---- one part, and what follows it

-- the rest of a path, not empty
seek-rest : (key : RouteOf Place) (path : List ℕ) → AreBytes path → seek 0 ((catch_all_token ∷ [], key) ∷ []) path ≡ unless_empty path (Some key)
unfolding seek
seek-rest key [] bytes = refl
seek-rest key (b ∷ path) bytes =
    let here : step b ((catch_all_token ∷ [], key) ∷ []) ≡ [] = step-other b catch_all_token [] (([], key) ∷ []) (omega (arith, bytes.0)) in
    rw (here, seek-nothing 0 path) (after (param_step-nothing (b ∷ path)))
  where
    after : (q : (param_step {K = RouteOf Place} [] (b ∷ path)).1 ≡ [])
        → walk.or_else None (walk.or_else (seek ((param_step {K = RouteOf Place} [] (b ∷ path)).0 - 1) (param_step {K = RouteOf Place} [] (b ∷ path)).1 path) (Some key)) ≡ Some key
    after q = rw (q, seek-nothing ((param_step {K = RouteOf Place} [] (b ∷ path)).0 - 1) path) refl

commands_behind : (more : RouteOf Place) (id : List ℕ) (o : Option (List ℕ)) → ((y : List ℕ) → o ≡ Some y → AreBytes y)
    → option_map (λ (x : RouteOf Place). x.value) (walk.or_else (option_and_then (λ y. seek 0 ((catch_all_token ∷ [], more) ∷ []) y) o) None)
    ≡ option_map (λ (x : Place × List (List ℕ)). x.0)
    (or_else (option_map (λ parts. (more.value, parts)) (option_and_then (λ parts. Some (id ∷ parts)) (option_and_then (parts_by (rest ∷ [])) o))) None)
commands_behind more id None bytes = refl
commands_behind more id (Some y) bytes = rw (seek-rest more y (bytes y refl)) (by y)
  where
    by : (y : List ℕ) → option_map (λ (x : RouteOf Place). x.value) (walk.or_else (unless_empty y (Some more)) None)
        ≡ option_map (λ (x : Place × List (List ℕ)). x.0)
        (or_else (option_map (λ parts. (more.value, parts)) (option_and_then (λ parts. Some (id ∷ parts)) (unless_empty y (Some (y ∷ []))))) None)
    by [] = refl
    by (d ∷ y) = refl

-- the patterns with one part, and a slash and the rest behind it, or nothing
abbrev command_patterns : Place → Place → Patterns
command_patterns below one = (text [] ∷ part ∷ text (47 ∷ []) ∷ rest ∷ [], below) ∷ (text [] ∷ part ∷ [], one) ∷ []

commands_at : (one more : RouteOf Place) (f r : List ℕ) → AreBytes r
    → option_map (λ (x : RouteOf Place). x.value) (unless_empty f (walk.or_else (option_and_then (λ y. seek 0 ((catch_all_token ∷ [], more) ∷ []) y) (behind (47 ∷ []) r)) (at_end r one)))
    ≡ option_map (λ (x : Place × List (List ℕ)). x.0)
    (or_else (option_map (λ parts. (more.value, parts)) (unless_empty f (option_and_then (λ parts. Some (f ∷ parts)) (parts_by (text (47 ∷ []) ∷ rest ∷ []) r))))
    (or_else (option_map (λ parts. (one.value, parts)) (unless_empty f (option_and_then (λ parts. Some (f ∷ parts)) (parts_by [] r)))) None))
commands_at one more [] r bytes = refl
commands_at one more (c ∷ f) [] bytes = refl
commands_at one more (c ∷ f) (b ∷ r) bytes = commands_behind more (c ∷ f) (behind (47 ∷ []) (b ∷ r)) (AreBytes-behind (47 ∷ []) (b ∷ r) bytes)

same-commands : (one more : RouteOf Place) (path : List ℕ) → AreBytes path
    → Same (under (param_token ∷ []) (tails ((catch_all_token ∷ [], more) ∷ []) one)) (command_patterns more.value one.value) path
same-commands one more path bytes =
    rw (seek-part (catch_all_token ∷ []) more [] one path bytes) (commands_at one more (up_to 47 path) (from_first 47 path) (AreBytes-from 47 path bytes))

-- a text behind a slash, to the end
text_behind : (v : List ℕ) (r : List ℕ) → parts_by (text (47 ∷ v) ∷ []) r ≡ option_and_then (λ y. option_and_then (parts_by []) (behind v y)) (behind (47 ∷ []) r)
text_behind v r = ap (option_and_then (parts_by [])) (behind-append (47 ∷ []) v r) ∙ and_then-twice (behind v) (parts_by []) (behind (47 ∷ []) r)

abbrev node_patterns : List ℕ → List ℕ → Place → Place → Place → Patterns
node_patterns v w first second one =
    (text [] ∷ part ∷ text (47 ∷ v) ∷ [], first) ∷ (text [] ∷ part ∷ text (47 ∷ w) ∷ [], second) ∷ (text [] ∷ part ∷ [], one) ∷ []

leaf_at : (key : RouteOf Place) (id : List ℕ) (o : Option (List ℕ))
    → option_map (λ (x : RouteOf Place). x.value) (option_and_then (λ r. seek 0 (([], key) ∷ []) r) o)
    ≡ option_map (λ (x : Place × List (List ℕ)). x.0)
    (option_map (λ parts. (key.value, parts)) (option_and_then (λ parts. Some (id ∷ parts)) (option_and_then (parts_by []) o)))
leaf_at key id None = refl
leaf_at key id (Some []) = rw (seek-key key []) refl
leaf_at key id (Some (b ∷ y)) = rw (seek-key key (b ∷ y)) refl

or_none : {X : Type 0} (a : Option X) → or_else a None ≡ a
or_none None = refl
or_none (Some a) = refl

ends_at : (first second : RouteOf Place) (id : List ℕ) (o q : Option (List ℕ))
    → option_map (λ (x : RouteOf Place). x.value) (walk.or_else (walk.or_else (option_and_then (λ r. seek 0 (([], first) ∷ []) r) o) (option_and_then (λ r. seek 0 (([], second) ∷ []) r) q)) None)
    ≡ option_map (λ (x : Place × List (List ℕ)). x.0)
    (or_else (option_map (λ parts. (first.value, parts)) (option_and_then (λ parts. Some (id ∷ parts)) (option_and_then (parts_by []) o)))
    (or_else (option_map (λ parts. (second.value, parts)) (option_and_then (λ parts. Some (id ∷ parts)) (option_and_then (parts_by []) q))) None))
ends_at first second id o q = rw (or_else-None _, or_none _) (joined _ _ _ _ (leaf_at first id o) (leaf_at second id q))

nodes_behind : (x y : ℕ) (v w : List ℕ) (first second : RouteOf Place) (id : List ℕ) (o : Option (List ℕ)) → AreBytes (x ∷ v) → AreBytes (y ∷ w) → x ≢ y
    → option_map (λ (r : RouteOf Place). r.value)
    (walk.or_else (option_and_then (λ r. seek 0 (under (x ∷ v) (([], first) ∷ []) ++ under (y ∷ w) (([], second) ∷ [])) r) o) None)
    ≡ option_map (λ (f : Place × List (List ℕ)). f.0)
    (or_else (option_map (λ parts. (first.value, parts)) (option_and_then (λ parts. Some (id ∷ parts)) (option_and_then (λ r. option_and_then (parts_by []) (behind (x ∷ v) r)) o)))
    (or_else (option_map (λ parts. (second.value, parts)) (option_and_then (λ parts. Some (id ∷ parts)) (option_and_then (λ r. option_and_then (parts_by []) (behind (y ∷ w) r)) o))) None))
nodes_behind x y v w first second id None xb yb differ = refl
nodes_behind x y v w first second id (Some r) xb yb differ =
    rw (
      seek-either x y v w (([], first) ∷ []) (([], second) ∷ []) r xb.0 yb.0 differ,
      seek-under (x ∷ v) (([], first) ∷ []) r xb,
      seek-under (y ∷ w) (([], second) ∷ []) r yb,
    )
    (ends_at first second id (behind (x ∷ v) r) (behind (y ∷ w) r))

nodes_at : (x y : ℕ) (v w : List ℕ) (first second one : RouteOf Place) (f r : List ℕ) → AreBytes (x ∷ v) → AreBytes (y ∷ w) → x ≢ y
    → option_map (λ (q : RouteOf Place). q.value)
    (unless_empty f (walk.or_else (option_and_then (λ q. seek 0 (under (x ∷ v) (([], first) ∷ []) ++ under (y ∷ w) (([], second) ∷ [])) q) (behind (47 ∷ []) r)) (at_end r one)))
    ≡ option_map (λ (q : Place × List (List ℕ)). q.0)
    (or_else (option_map (λ parts. (first.value, parts)) (unless_empty f (option_and_then (λ parts. Some (f ∷ parts)) (parts_by (text (47 ∷ x ∷ v) ∷ []) r))))
    (or_else (option_map (λ parts. (second.value, parts)) (unless_empty f (option_and_then (λ parts. Some (f ∷ parts)) (parts_by (text (47 ∷ y ∷ w) ∷ []) r))))
    (or_else (option_map (λ parts. (one.value, parts)) (unless_empty f (option_and_then (λ parts. Some (f ∷ parts)) (parts_by [] r)))) None)))
nodes_at x y v w first second one [] r xb yb differ = refl
nodes_at x y v w first second one (c ∷ f) [] xb yb differ = refl
nodes_at x y v w first second one (c ∷ f) (b ∷ r) xb yb differ =
    rw (text_behind (x ∷ v) (b ∷ r), text_behind (y ∷ w) (b ∷ r)) (nodes_behind x y v w first second (c ∷ f) (behind (47 ∷ []) (b ∷ r)) xb yb differ)

same-nodes : (x y : ℕ) (v w : List ℕ) (first second one : RouteOf Place) (path : List ℕ) → AreBytes (x ∷ v) → AreBytes (y ∷ w) → x ≢ y → AreBytes path
    → Same (under (param_token ∷ []) (tails (under (x ∷ v) (([], first) ∷ []) ++ under (y ∷ w) (([], second) ∷ [])) one))
    (node_patterns (x ∷ v) (y ∷ w) first.value second.value one.value) path
same-nodes x y v w first second one path xb yb differ bytes =
    rw (seek-part (x ∷ (v ++ [])) first (under (y ∷ w) (([], second) ∷ [])) one path bytes)
    (nodes_at x y v w first second one (up_to 47 path) (from_first 47 path) xb yb differ)

-- ---- the whole table

small : List ℕ → Bool
small [] = true
small (b ∷ bs) = nat_lt b 256 && small bs

small-bytes : (w : List ℕ) → small w ≡ true → AreBytes w
unfolding small
small-bytes [] h = tt
small-bytes (b ∷ bs) h = by (nat_lt b 256) refl (small-bytes bs)
  where
    by : (t : Bool) → nat_lt b 256 ≡ t → (small bs ≡ true → AreBytes bs) → (b < 256) × AreBytes bs
    by true less more = (grind (arith, nat_tests), more (rw less at h))
    by false other more = let e : false ≡ true = rw other at h in absurd cc

abbrev key_by : Result Scan InsertError → Place → RouteOf Place
key_by (Ok s) p = route_from s p
key_by (Err e) p = record { pattern = []; text = []; names = []; value = p }

abbrev key : List ℕ → Place → RouteOf Place
key path p = key_by (parse_route path) p

abbrev node_parts : Rows
node_parts =
    under (param_token ∷ []) (tails
    (under (codes "beat") (([], key (codes "/se/grid/distributor/node/{id}/beat") place.Beat) ∷ [])
    ++ under (codes "drain") (([], key (codes "/se/grid/distributor/node/{id}/drain") place.Drain) ∷ []))
    (key (codes "/se/grid/distributor/node/{id}") place.OneNode))

node_rows : Rows
node_rows = under (codes "/") node_parts ++ ([], key (codes "/se/grid/distributor/node") place.Nodes) ∷ []

abbrev session_parts : Rows
session_parts =
    under (param_token ∷ []) (tails
    ((catch_all_token ∷ [], key (codes "/session/{id}/{*rest}") place.Commands) ∷ []) (key (codes "/session/{id}") place.OneSession))

session_rows : Rows
session_rows = under (codes "/") session_parts ++ ([], key (codes "/session") place.Session) ∷ []

grid_rows : Rows
grid_rows =
    under (codes "distributor/node") node_rows ++ under (codes "newsessionqueue/queue") (([], key (codes "/se/grid/newsessionqueue/queue") place.Queue) ∷ [])

all_rows : Rows
all_rows =
    under (codes "/s") (under (codes "e") (under (codes "/grid/") grid_rows ++ under (codes "ssion") session_rows)
    ++ under (codes "tatus") (([], key (codes "/status") place.Status) ∷ []))

rows-all : rows ≡ all_rows
unfolding rows all_rows grid_rows session_rows node_rows scan
rows-all = refl

node_patterns_all : Patterns
node_patterns_all = fronted (codes "/") (node_patterns (codes "beat") (codes "drain") place.Beat place.Drain place.OneNode) ++ (text [] ∷ [], place.Nodes) ∷ []

session_patterns_all : Patterns
session_patterns_all = fronted (codes "/") (command_patterns place.Commands place.OneSession) ++ (text [] ∷ [], place.Session) ∷ []

grid_patterns_all : Patterns
grid_patterns_all = fronted (codes "distributor/node") node_patterns_all ++ fronted (codes "newsessionqueue/queue") ((text [] ∷ [], place.Queue) ∷ [])

paths-all : paths ≡ fronted (codes "/s") (fronted (codes "e") (fronted (codes "/grid/") grid_patterns_all ++ fronted (codes "ssion") session_patterns_all)
    ++ fronted (codes "tatus") ((text [] ∷ [], place.Status) ∷ []))
unfolding node_patterns_all session_patterns_all grid_patterns_all
paths-all = refl

-- the same as a record, from which the rows and the patterns can be read
record IsSame (rs : Rows) (ps : Patterns) (path : List ℕ) : Type 0 where
  same : Same rs ps path

behind_text : (w : List ℕ) (rs : Rows) (ps : Patterns) → small w ≡ true → ((x : List ℕ) → AreBytes x → IsSame rs ps x)
    → (path : List ℕ) → AreBytes path → IsSame (under w rs) (fronted w ps) path
behind_text w rs ps byte each path bytes = record { same = same-under w rs ps (small-bytes w byte) (λ x more. (each x more).same) path bytes }

either_text : (x y : ℕ) (w v : List ℕ) (rs ss : Rows) (ps qs : Patterns) (path : List ℕ) → x < 256 → y < 256 → x ≢ y
    → IsSame (under (x ∷ w) rs) ps path → IsSame (under (y ∷ v) ss) qs path
    → IsSame (under (x ∷ w) rs ++ under (y ∷ v) ss) (ps ++ qs) path
either_text x y w v rs ss ps qs path xb yb differ p q = record { same = same-either x y w v rs ss ps qs path xb yb differ p.same q.same }

text_or_end : (x : ℕ) (w : List ℕ) (rs : Rows) (ps : Patterns) (last : RouteOf Place) (path : List ℕ) → x < 256
    → IsSame (under (x ∷ w) rs) ps path → IsSame (under (x ∷ w) rs ++ ([], last) ∷ []) (ps ++ (text [] ∷ [], last.value) ∷ []) path
text_or_end x w rs ps last path byte p = record { same = same-or_end x w rs ps last path byte p.same }

one_end : (last : RouteOf Place) (path : List ℕ) → IsSame (([], last) ∷ []) ((text [] ∷ [], last.value) ∷ []) path
one_end last path = record { same = same-key last path }

same-node_rows : (path : List ℕ) → AreBytes path → IsSame node_rows node_patterns_all path
unfolding node_rows node_patterns_all scan small
same-node_rows path bytes =
    text_or_end 47 [] node_parts _ (key (codes "/se/grid/distributor/node") place.Nodes) path (omega arith)
    (behind_text (codes "/") node_parts (node_patterns (codes "beat") (codes "drain") place.Beat place.Drain place.OneNode) refl
    (λ x more. record {
      same = same-nodes 98 100 (codes "eat") (codes "rain") (key (codes "/se/grid/distributor/node/{id}/beat") place.Beat)
          (key (codes "/se/grid/distributor/node/{id}/drain") place.Drain) (key (codes "/se/grid/distributor/node/{id}") place.OneNode) x
          (small-bytes (codes "beat") refl) (small-bytes (codes "drain") refl) (omega arith) more;
    }) path bytes)

same-session_rows : (path : List ℕ) → AreBytes path → IsSame session_rows session_patterns_all path
unfolding session_rows session_patterns_all scan small
same-session_rows path bytes =
    text_or_end 47 [] session_parts _ (key (codes "/session") place.Session) path (omega arith)
    (behind_text (codes "/") session_parts (command_patterns place.Commands place.OneSession) refl
    (λ x more. record { same = same-commands (key (codes "/session/{id}") place.OneSession) (key (codes "/session/{id}/{*rest}") place.Commands) x more }) path bytes)

same-grid_rows : (path : List ℕ) → AreBytes path → IsSame grid_rows grid_patterns_all path
unfolding grid_rows grid_patterns_all scan small
same-grid_rows path bytes =
    either_text 100 110 (codes "istributor/node") (codes "ewsessionqueue/queue") node_rows (([], key (codes "/se/grid/newsessionqueue/queue") place.Queue) ∷ []) _ _ path (omega arith) (omega arith) (omega arith)
    (behind_text (codes "distributor/node") _ _ refl same-node_rows path bytes)
    (behind_text (codes "newsessionqueue/queue") _ _ refl (λ x more. one_end (key (codes "/se/grid/newsessionqueue/queue") place.Queue) x) path bytes)

same-all : (path : List ℕ) → AreBytes path → IsSame all_rows
    (fronted (codes "/s") (fronted (codes "e") (fronted (codes "/grid/") grid_patterns_all ++ fronted (codes "ssion") session_patterns_all)
    ++ fronted (codes "tatus") ((text [] ∷ [], place.Status) ∷ []))) path
unfolding all_rows scan small
same-all path bytes =
    behind_text (codes "/s") _ _ refl
    (λ x more. either_text 101 116 [] (codes "atus") (under (codes "/grid/") grid_rows ++ under (codes "ssion") session_rows) (([], key (codes "/status") place.Status) ∷ []) _ _ x (omega arith) (omega arith) (omega arith)
    (behind_text (codes "e") _ _ refl
    (λ y rest. either_text 47 115 (codes "grid/") (codes "sion") grid_rows session_rows _ _ y (omega arith) (omega arith) (omega arith)
    (behind_text (codes "/grid/") _ _ refl same-grid_rows y rest)
    (behind_text (codes "ssion") _ _ refl same-session_rows y rest)) x more)
    (behind_text (codes "tatus") _ _ refl (λ y rest. one_end (key (codes "/status") place.Status) y) x more)) path bytes

-- the router finds the place of the table
pub same-rows : (path : List ℕ) → AreBytes path
    → option_map (λ (r : RouteOf Place). r.value) (seek 0 rows path) ≡ option_map (λ (f : Place × List (List ℕ)). f.0) (place_by paths path)
same-rows path bytes =
    subst (λ (rs : Rows). Same rs paths path) (sym rows-all) (subst (λ (ps : Patterns). Same all_rows ps path) (sym paths-all) (same-all path bytes).same)

-- ---- a path in the words of the table

pub AreBytes-fits : (path : List ℕ) → ((i : ℕ) → Fits w8 (get_or path i 0)) → AreBytes path
AreBytes-fits [] fits = tt
AreBytes-fits (b ∷ path) fits = ((fits 0).fits, AreBytes-fits path (λ i. fits (suc i)))

pub place_of-text : (path : List ℕ) → IsUtf8 path → AreBytes path
    → option_map (λ (f : Place × List (List ℕ)). f.0) (place_of path) ≡ option_map (λ (r : RouteOf Place). r.value) (seek 0 rows path)
unfolding place_of
place_of-text path valid bytes = rw (is_utf8-from_IsUtf8 path valid) (sym (same-rows path bytes))

pub place_of-other : (path : List ℕ) → ¬ IsUtf8 path → place_of path ≡ None
unfolding place_of
place_of-other path other = by (is_utf8 path) refl
  where
    by : (t : Bool) → is_utf8 path ≡ t → cond t (place_by paths path) None ≡ None
    by true same = absurd (other (IsUtf8-from_is_utf8 path same))
    by false same = refl

pub no_place : (o : Option (Place × List (List ℕ))) → option_map (λ (f : Place × List (List ℕ)). f.0) o ≡ None → o ≡ None
no_place None none = refl
no_place (Some f) none = absurd cc

-- ---- the id

abbrev IsId : Place → List ℕ → Option (List (List ℕ)) → Type 0
IsId p path None = Unit {0}
IsId p path (Some parts) = id_of parts ≡ id_at p path

behind-drop : (w path : List ℕ) (x : List ℕ) → behind w path ≡ Some x → x ≡ drop (length w) path
behind-drop [] path x found = cc
behind-drop (y ∷ w) [] x found = absurd cc
behind-drop (y ∷ w) (b ∷ path) x found = by (b == y) (behind-drop w path x) found
  where
    by : (t : Bool) → (behind w path ≡ Some x → x ≡ drop (length w) path) → cond t (behind w path) None ≡ Some x → x ≡ drop (length w) path
    by true more found = more found
    by false more found = absurd cc

-- the part behind a text is the id, where the rest of the pattern fits
id-behind : (p : Place) (w : List ℕ) (more : List Piece) (path : List ℕ) → first_part (drop (length w) path) ≡ id_at p path
    → IsId p path (parts_by (text w ∷ part ∷ more) path)
id-behind p w more path at = by (behind w path) refl
  where
    ids : (x : List ℕ) (f : List ℕ) (o : Option (List (List ℕ))) → f ≡ id_at p path → IsId p path (unless_empty f (option_and_then (λ parts. Some (f ∷ parts)) o))
    ids x [] o is = tt
    ids x (c ∷ f) None is = tt
    ids x (c ∷ f) (Some parts) is = is

    by : (o : Option (List ℕ)) → behind w path ≡ o → IsId p path (option_and_then (parts_by (part ∷ more)) o)
    by None found = tt
    by (Some x) found = ids x (first_part x) (parts_by more (from_first 47 x)) (ap first_part (behind-drop w path x found) ∙ at)

-- no part, no id
id-none : (p : Place) (w : List ℕ) (path : List ℕ) → id_at p path ≡ [] → IsId p path (parts_by (text w ∷ []) path)
id-none p w path none = by (behind w path)
  where
    by : (o : Option (List ℕ)) → IsId p path (option_and_then (parts_by []) o)
    by None = tt
    by (Some []) = sym none
    by (Some (b ∷ x)) = tt

abbrev IsIdOf : List ℕ → Option (Place × List (List ℕ)) → Type 0
IsIdOf path None = Unit {0}
IsIdOf path (Some f) = id_of f.1 ≡ id_at f.0 path

id-row : (p : Place) (path : List ℕ) (o : Option (List (List ℕ))) (more : Option (Place × List (List ℕ))) → IsId p path o → IsIdOf path more
    → IsIdOf path (or_else (option_map (λ parts. (p, parts)) o) more)
id-row p path None more one later = later
id-row p path (Some parts) more one later = one

id-paths : (path : List ℕ) → IsIdOf path (place_by paths path)
id-paths path =
    id-row place.Beat path _ _ (id-behind place.Beat (codes "/se/grid/distributor/node/") (text (codes "/beat") ∷ []) path refl)
    (id-row place.Drain path _ _ (id-behind place.Drain (codes "/se/grid/distributor/node/") (text (codes "/drain") ∷ []) path refl)
    (id-row place.OneNode path _ _ (id-behind place.OneNode (codes "/se/grid/distributor/node/") [] path refl)
    (id-row place.Nodes path _ _ (id-none place.Nodes (codes "/se/grid/distributor/node") path refl)
    (id-row place.Queue path _ _ (id-none place.Queue (codes "/se/grid/newsessionqueue/queue") path refl)
    (id-row place.Commands path _ _ (id-behind place.Commands (codes "/session/") (text (codes "/") ∷ rest ∷ []) path refl)
    (id-row place.OneSession path _ _ (id-behind place.OneSession (codes "/session/") [] path refl)
    (id-row place.Session path _ _ (id-none place.Session (codes "/session") path refl)
    (id-row place.Status path _ None (id-none place.Status (codes "/status") path refl) (tt {0})))))))))

-- a place that was found has the id at its place
pub route_at-place : (p : Place) (path target method : List ℕ) → option_map (λ (f : Place × List (List ℕ)). f.0) (place_of path) ≡ Some p
    → route_at (place_of path) target method ≡ ok_or (asked p (method_named method) (id_at p path) target) fault.UnknownMethod
unfolding place_of
route_at-place p path target method found = by (is_utf8 path) found
  where
    at : (o : Option (Place × List (List ℕ))) → IsIdOf path o → option_map (λ (f : Place × List (List ℕ)). f.0) o ≡ Some p
        → route_at o target method ≡ ok_or (asked p (method_named method) (id_at p path) target) fault.UnknownMethod
    at None is none = absurd cc
    at (Some f) is same =
        let e : f.0 ≡ p = cc in
        rw (is, e) refl

    by : (t : Bool) → option_map (λ (f : Place × List (List ℕ)). f.0) (cond t (place_by paths path) None) ≡ Some p
        → route_at (cond t (place_by paths path) None) target method ≡ ok_or (asked p (method_named method) (id_at p path) target) fault.UnknownMethod
    by true found = at (place_by paths path) (id-paths path) found
    by false found = absurd cc

-- ---- the route

pub route-found : (p : Place) (m : Method) (name target own path id : List ℕ)
    → own ≡ own_target target → path ≡ path_of own → m ≡ method_named name → id ≡ id_at p path
    → option_map (λ (f : Place × List (List ℕ)). f.0) (place_of path) ≡ Some p
    → route_of name target ≡ ok_or (asked p m id own) fault.UnknownMethod
unfolding route_of
route-found p m name target own path id own_is path_is m_is id_is found =
    let at = route_at-place p path own name found in
    let same : path_of (own_target target) ≡ path = ap path_of (sym own_is) ∙ sym path_is in
    ap (λ (q : List ℕ). route_at (place_of q) (own_target target) name) same
    ∙ ap (λ (t : List ℕ). route_at (place_of path) t name) (sym own_is)
    ∙ at
    ∙ ap (λ (k : Method). ok_or (asked p k (id_at p path) own) fault.UnknownMethod) (sym m_is)
    ∙ ap (λ (i : List ℕ). ok_or (asked p m i own) fault.UnknownMethod) (sym id_is)

pub route-missing : (name target own path : List ℕ) → own ≡ own_target target → path ≡ path_of own → place_of path ≡ None
    → route_of name target ≡ Err fault.UnknownCommand
unfolding route_of
route-missing name target own path own_is path_is none =
    let same : path_of (own_target target) ≡ path = ap path_of (sym own_is) ∙ sym path_is in
    ap (λ (q : List ℕ). route_at (place_of q) (own_target target) name) same
    ∙ ap (λ (o : Option (Place × List (List ℕ))). route_at o (own_target target) name) none
