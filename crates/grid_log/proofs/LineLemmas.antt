-- The lines of one entry.
use Rattle.std.proofs.Common.{◌≡◌, ℕ, Bool, true, false, List, [], ◌∷◌, ◌++◌, refl, sym, ◌∙◌, ap, append_assoc}
use Rattle.std.proofs.lemmas.List.{append-nil}
use Rattle.std.specs.Prelude.{Option, codes, if◌then◌else◌}
use Rattle.grid_log.specs.declared.form.Form.{Form}
use Rattle.grid_log.specs.Facts.{Event, line, lines, with_lines}
use Rattle.grid_log.specs.Events.{node_event, request_event}
use Rattle.grid_log.specs.Queue.{queue_event, queue_told}

-- the line of a node, by the name that is known and the events that there are
pub node_told : (f : Form) (what meaning : List ℕ) (node at : ℕ) (named known : Option (List ℕ)) (events : List Event) (bytes : List ℕ) → bytes ≡ line f (node_event what meaning node named at) →
    named ≡ known → events ≡ node_event what meaning node known at ∷ [] → bytes ≡ lines f events
node_told f what meaning node at named known events bytes h n e =
    h ∙ ap (λ (x : Option (List ℕ)). line f (node_event what meaning node x at)) n ∙ ap (λ (es : List Event). lines f es) (sym e)

-- the line of a request likewise
pub request_told : (f : Form) (what : List ℕ) (request at : ℕ) (queued known : Option ℕ) (events : List Event) (bytes : List ℕ) → bytes ≡ line f (request_event what request queued at) →
    queued ≡ known → events ≡ request_event what request known at ∷ [] → bytes ≡ lines f events
request_told f what request at queued known events bytes h n e =
    h ∙ ap (λ (x : Option ℕ). line f (request_event what request x at)) n ∙ ap (λ (es : List Event). lines f es) (sym e)

-- what is told where a test holds
pub told_where : (b : Bool) (e : Event) → b ≡ true → (if b then e ∷ [] else []) ≡ e ∷ []
told_where true e h = refl
told_where false e h = absurd cc

-- the lines of events, and of those behind them
lines_behind : (f : Form) (bytes : List ℕ) (events : List Event) → with_lines f bytes events ≡ bytes ++ lines f events
lines_behind f bytes [] = sym (append-nil bytes)
lines_behind f bytes (event ∷ events) =
    lines_behind f (bytes ++ line f event) events ∙ append_assoc bytes (line f event) (lines f events)
    ∙ ap (λ (more : List ℕ). bytes ++ more) (sym (lines_behind f (line f event) events))

lines_from : (f : Form) (bytes : List ℕ) (events more : List Event) → with_lines f bytes (events ++ more) ≡ with_lines f (with_lines f bytes events) more
lines_from f bytes [] more = refl
lines_from f bytes (event ∷ events) more = lines_from f (bytes ++ line f event) events more

pub lines_more : (f : Form) (events more : List Event) → lines f (events ++ more) ≡ lines f events ++ lines f more
lines_more f events more = lines_from f [] events more ∙ lines_behind f (lines f events) more

-- the line of a queue, by what it was and is
abbrev full_event : ℕ → ℕ → ℕ → Event
full_event requests limit at = queue_event (codes "queue full") (codes "further requests are refused") requests limit at

abbrev room_event : ℕ → ℕ → ℕ → Event
room_event requests limit at = queue_event (codes "queue has room") (codes "requests are taken again") requests limit at

pub full_told : (f : Form) (was is : Bool) (requests limit at : ℕ) (bytes : List ℕ) → was ≡ false → is ≡ true → bytes ≡ line f (full_event requests limit at) →
    bytes ≡ lines f (queue_told was is requests limit at)
full_told f false true requests limit at bytes a b h = h
full_told f false false requests limit at bytes a b h = absurd cc
full_told f true is requests limit at bytes a b h = absurd cc

pub room_told : (f : Form) (was is : Bool) (requests limit at : ℕ) (bytes : List ℕ) → was ≡ true → is ≡ false → bytes ≡ line f (room_event requests limit at) →
    bytes ≡ lines f (queue_told was is requests limit at)
room_told f true false requests limit at bytes a b h = h
room_told f true true requests limit at bytes a b h = absurd cc
room_told f false is requests limit at bytes a b h = absurd cc
