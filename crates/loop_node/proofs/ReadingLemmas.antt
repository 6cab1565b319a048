-- What was read of a body.
use Rattle.std.proofs.Common.{ℕ, List, length, Option, None, Result, Ok, Err, IfOk, IsUtf8}
use Rattle.json_spans.specs.Inside.{Pair}
use Rattle.json_spans.specs.Parts.{Part, IsCut}
use Rattle.json_spans.specs.Cut.{Refuses}
use Rattle.json_spans.specs.declared.fault.JsonFault.{JsonFault}
use Rattle.caps_merge.specs.Placed.{Placed, placed, Member}
use Rattle.caps_merge.specs.Shown.{Shows}
use Rattle.loop_node.specs.Reading.{object_of, ReadsObject, json, not_json, ShowsObject}

abbrev pub value_of : (body : List ℕ) (p : Part) → IsCut body p → Placed
value_of body p h = placed (length h.0) h.1

pub shown : (body : List ℕ) (p : Part) (h : IsCut body p) → Shows p (value_of body p h)
shown body p h = record { is = h.4; is_tree = h.3.json.is_tree; levels = h.3.levels }

abbrev Read : List ℕ → Option (List Pair) → Type 0
Read body list = (o : Option (List Member)) × ReadsObject body o × ShowsObject list o

pub read_value : {E : Type 0} (body : List ℕ) (p : Part) (r : Result (Option (List Pair)) E) → IsUtf8 body → (h : IsCut body p) →
    IfOk r (λ list. (v : Placed) → Shows p v → ShowsObject list (object_of v)) → IfOk r (λ list. (o : Option (List Member)) × ReadsObject body o × ShowsObject list o)
read_value body p (Ok list) utf8 h f = (object_of (value_of body p h), json h.0 h.1 h.2 utf8 h.3, f (value_of body p h) (shown body p h))
read_value body p (Err e) utf8 h f = tt

pub read_none : (body : List ℕ) (fault : JsonFault) → Refuses body fault → (o : Option (List Member)) × ReadsObject body o × ShowsObject None o
read_none body fault h = (None, not_json fault h, tt)
