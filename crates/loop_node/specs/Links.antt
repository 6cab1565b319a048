-- Loop nodes behind one link: each answers at its own address.
use Rattle.std.specs.Prelude.{◌≡◌, ℕ, ◌==◌, Bool, true, false, List, [], ◌∷◌, ◌++◌, length, Ok, Err, codes, decimal, bytes_eq}
use Rattle.std.specs.List.{list_any}
use Rattle.http_frames.specs.declared.replies.NodeReply.{NodeReply}
use Rattle.grid_outside.specs.declared.exchange.Ask.{Ask}
use Rattle.grid_outside.specs.declared.exchange.Reply.TheVariants as reply
use Rattle.grid_outside.specs.declared.exchange.ExchangeFault.TheVariants as fault
use Rattle.grid_outside.specs.Exchanges.{Came}
use Rattle.loop_node.specs.Sessions.{Node}
use Rattle.loop_node.specs.Replies.{Answers}

-- the address of the node with this number
abbrev pub node_address : ℕ → List ℕ
node_address number = codes "loop:" ++ decimal number

abbrev pub is_at : List ℕ → Node → Bool
is_at address node = bytes_eq address (node_address node.number)

-- some node has the address
abbrev pub is_reached : List ℕ → List Node → Bool
is_reached address nodes = list_any (is_at address) nodes

-- the first node at the address has this place
pub record IsReached (address : List ℕ) (nodes : List Node) (place : ℕ) : Type 0 where
  pub before : List Node
  pub node : Node
  pub behind : List Node
  pub are : nodes ≡ before ++ node ∷ behind
  pub place_is : place ≡ length before
  pub at : is_at address node ≡ true

-- the numbers of the nodes differ
abbrev pub Differ : List Node → Type 0
Differ [] = Unit {0}
Differ (n ∷ nodes) = (list_any (λ m. m.number == n.number) nodes ≡ false) × Differ nodes

-- the node at the address answers, and the others stay as they are
pub record OneAnswers (old : List Node) (address : List ℕ) (ask : Ask) (answer : NodeReply) (new : List Node) : Type 0 where
  pub before : List Node
  pub node : Node
  pub changed : Node
  pub behind : List Node
  pub are : old ≡ before ++ node ∷ behind
  pub at : is_at address node ≡ true
  pub answers : Answers node ask answer changed
  pub become : new ≡ before ++ changed ∷ behind

-- What comes of an exchange: the answer of the node at the address. It is unreachable exactly where no node has
-- the address, and without memory nothing changes.
abbrev pub NodesGive : List Node → List ℕ → Ask → Came → List Node → Type 0
NodesGive old address ask (Ok (reply.Http answer)) new = OneAnswers old address ask answer new
NodesGive old address ask (Ok (reply.NotHttp bytes)) new = ⊥
NodesGive old address ask (Err fault.Unreachable) new = (is_reached address old ≡ false) × (new ≡ old)
NodesGive old address ask (Err fault.Memory) new = (is_reached address old ≡ true) × (new ≡ old)
