-- The rule between any two steps: how the words, the slot and what each seat knows belong to one history.
use Rattle.std.specs.Prelude.{◌≡◌, ◌≢◌, ℕ, ◌+◌, ◌<◌, ◌≤◌, ◌^◌, ◌==◌, max, List, [], ◌∷◌, ◌++◌, map, length, filter, Option, Some, None}
use mathlib.Core.List.{IsPrefix}
use mathlib.Core.Option.{some, none}
use mathlib.Core.Option as maybe
use lib.ListN.{get_elem?}
use Rattle.grid_types.specs.declared.entry.Entry.{Entry}
use Rattle.atomic_table.specs.Table.{State}
use Rattle.turn_cell.specs.declared.views.Ended.{Ended}
use Rattle.turn_cell.specs.declared.views.View.{View}
use Rattle.turn_cell.specs.declared.views.Stage.{Stage}
use Rattle.turn_cell.specs.declared.views.Stage.TheVariants.{Gone, Idle, Waits, Serves, Gives, Joins, Tells}
use Rattle.turn_cell.specs.declared.views.Doing.{Doing}

-- the entries of the pass with this number, in order
abbrev pub entries_of : ℕ → List Entry → List Entry
entries_of n log = filter (λ (e : Entry). e.caller == n) log

-- each entry is the pass's with this number
abbrev pub AllBy : ℕ → List Entry → Type 0
AllBy n [] = Unit {0}
AllBy n (e ∷ es) = (e.caller ≡ n) × AllBy n es

abbrev pub NotAmong : ℕ → List ℕ → Type 0
NotAmong n [] = Unit {0}
NotAmong n (k ∷ ks) = (k ≢ n) × NotAmong n ks

-- each number stands in the list once
abbrev pub AllDiffer : List ℕ → Type 0
AllDiffer [] = Unit {0}
AllDiffer (k ∷ ks) = NotAmong k ks × AllDiffer ks

abbrev pub number_of : Ended → ℕ
number_of e = e.number

-- the pass's number, and those of the passes that it has joined
abbrev pub numbers_of : {V : Type 0} → View V → List ℕ
numbers_of v = v.number ∷ map number_of v.ended

-- how the turns went. The history of the cell exists in the rule alone
pub record Track : Type 0 where
  pub log : List Entry
  -- the next ticket to draw, and the ticket whose turn it is
  pub ticket : ℕ
  pub serving : ℕ
  -- 1 where that turn has split
  pub noted : ℕ
  -- 0 where no seat is at its turn, 1 where the seat with that ticket has the slot, and 2 where it has given it back
  pub phase : ℕ
  -- the entries that it has noted then
  pub made : List Entry
  -- the seat with each ticket
  pub owner : ℕ → ℕ
  -- 1 more than the seat with each number, and 0 where the number was not given
  pub holder : ℕ → ℕ
  -- at k: the length of the history that was seen at the turn of the ticket k - 1
  pub length_at : ℕ → ℕ

abbrev pub ticket_of : Stage → Option ℕ
ticket_of (Waits t) = Some t
ticket_of (Serves t k) = Some t
ticket_of (Gives t k entries) = Some t
ticket_of st = None

module _ (f : Track) (seat : ℕ) where
  -- the seat has the number, and mine is the number's entries, in what was seen and in the whole history
  abbrev pub Owns : List Entry → ℕ → List Entry → Type 0
  Owns seen n mine = (f.holder n ≡ seat + 1) × (entries_of n seen ≡ mine) × (entries_of n f.log ≡ mine)

  abbrev pub OwnsEach : List Entry → List Ended → Type 0
  OwnsEach seen [] = Unit {0}
  OwnsEach seen (e ∷ es) = Owns seen e.number e.mine × OwnsEach seen es

  module _ {V : Type 0} (origin : V) (first : ℕ) where
    -- what holds of each view but that of a pass which a join has ended: it has the cell's mark and first ticket, the history
    -- begins with its seen, whose length goes up with the turn at which it was learned, a spent look was a look at 2^62 or
    -- more, and its numbers, those of the passes that it joined among them, differ and have the entries that it says
    pub record IsLive (v : View V) : Type 0 where
      pub marked : (v.origin ≡ Some origin) × (v.first ≡ first)
      pub begins : IsPrefix v.seen f.log
      pub long : length v.seen ≡ f.length_at v.since
      pub looks : 0 < v.spent → 2 ^ 62 ≤ f.ticket
      pub own : Owns v.seen v.number v.mine
      pub ended : OwnsEach v.seen v.ended
      pub apart : AllDiffer (numbers_of v)

    -- its seen was learned at a turn that is over, or in which a pass was split off
    abbrev pub Early : View V → Type 0
    Early v = IsLive v × (v.since ≤ f.serving + f.noted)

    -- its ticket is the one that is served, and it has seen the whole history
    abbrev pub AtTurn : ℕ → ℕ → View V → Type 0
    AtTurn t k v = IsLive v × (v.since ≡ f.serving + 1) × (t ≡ f.serving) × (t < f.ticket) × (t < 2 ^ 62) × (f.owner t ≡ seat) × (k ≡ f.noted) × (v.seen ≡ f.log)

    -- only the seat whose ticket is served has the slot out (phase 1), or has noted entries (phase 2)
    abbrev pub Knows : Stage → View V → Type 0
    Knows Gone v = Unit {0}
    Knows Idle v = Early v
    Knows (Waits t) v = Early v × (f.serving ≤ t) × (t < f.ticket) × (t < 2 ^ 62) × (f.owner t ≡ seat) × (t ≡ f.serving → f.phase ≡ 0)
    Knows (Serves t k) v = AtTurn t k v × (f.phase ≡ 1)
    Knows (Gives t k entries) v = AtTurn t k v × (f.phase ≡ 2) × (entries ≡ f.made) × AllBy v.number entries × (0 < k → entries ≡ [])
    Knows (Joins xs ys) v = Early v × IsPrefix xs v.seen × IsPrefix ys v.seen
    Knows Tells v = IsPrefix v.seen f.log × (length v.seen ≡ f.length_at v.since) × (v.since ≤ f.serving + f.noted)

module _ {V : Type 0} where
  abbrev pub doing : Stage → View V → Doing V
  doing stage view = record { stage = stage; view = view }

  -- each ticket that is out is with its owner
  abbrev pub Held : Track → List (Doing V) → Type 0
  Held f views = (t : ℕ) → f.serving ≤ t → t < f.ticket → (d : Doing V) × (get_elem? views (f.owner t) ≡ some d) × (ticket_of d.stage ≡ Some t)

  module _ {M : Type 0} (stands : V → List Entry → Type 0) (mark : V → M) (origin : V) (first : ℕ) where
    -- of the words, TICKET and SERVING, and of the slot. Tickets are drawn from `first` to below 2^62. The value at home has the
    -- cell's mark, and stands for the history with the entries that are noted. The history begins with one that the first
    -- value stood for. A number above `first` that was not given has no
    -- entry, and each number that was given, but the first pass's, is 1 more than a ticket whose turn is over or has split
    pub record Sound (f : Track) (words : List ℕ) (homes : List (maybe.Option (Option V))) : Type 0 where
      pub words_are : words ≡ f.ticket ∷ f.serving ∷ []
      pub ahead : (first ≤ f.serving) × (f.serving ≤ f.ticket)
      pub below : f.ticket ≤ max first (2 ^ 62)
      pub brief : f.noted ≤ 1
      pub out : f.phase ≡ 1 → homes ≡ none ∷ []
      pub home : f.phase ≢ 1 → (y : V) × (homes ≡ some (Some y) ∷ []) × stands y (f.log ++ f.made) × (mark y ≡ mark origin)
      pub begun : (start : List Entry) × stands origin start × IsPrefix start f.log
      pub at_turn : 0 < f.phase → f.serving < f.ticket
      pub at_rest : f.phase ≡ 0 → f.noted ≡ 0
      pub unmade : f.phase ≢ 2 → f.made ≡ []
      pub rises : (j k : ℕ) → j ≤ k → f.length_at j ≤ f.length_at k
      pub level : (k : ℕ) → f.serving < k → f.length_at k ≡ length f.log
      pub fresh : (n : ℕ) → first < n → f.holder n ≡ 0 → entries_of n f.log ≡ []
      pub unused : (n : ℕ) → f.serving + f.noted < n → f.holder n ≡ 0

    pub record Kept (s : State (Option V) (Doing V)) : Type 0 where
      pub track : Track
      pub sound : Sound track s.words s.homes
      pub held : Held track s.views
      pub each_seat : (j : ℕ) (d : Doing V) → get_elem? s.views j ≡ some d → Knows track j origin first d.stage d.view

  -- the view of the first pass, which has this number
  abbrev pub opened : V → ℕ → ℕ → View V
  opened origin first number = record { number = number; seen = []; since = 0; mine = []; points = []; found = []; spent = 0; ended = []; origin = Some origin; first = first }

  abbrev pub starting : V → ℕ → ℕ → Doing V
  starting origin first number = doing Idle (opened origin first number)

-- The entries of a history that a cell goes on from: none is of the first pass's number, nor of a number that a ticket from
-- the first on gives.
pub record GoesOnFrom (first number : ℕ) (es : List Entry) : Type 0 where
  pub low : number ≤ first
  pub own : entries_of number es ≡ []
  pub later : (n : ℕ) → first < n → entries_of n es ≡ []

-- A value that a cell may go on from: it stands for such entries.
abbrev pub MayGoOn : {V : Type 0} → (V → List Entry → Type 0) → ℕ → ℕ → V → Type 0
MayGoOn stands first number value = (es : List Entry) × stands value es × GoesOnFrom first number es
