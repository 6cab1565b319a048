-- What slices show of a reply.
use Rattle.std.specs.Prelude.{◌≡◌, ℕ, List, [], Option, None, Some}
use Rattle.grid_types.specs.declared.entry.FailWhy.{FailWhy}
use Rattle.grid_types.specs.declared.entry.FailWhy.TheVariants as why
use Rattle.grid_types.specs.Names.{IsCutAt}
use Rattle.json_spans.specs.Inside.{Pair}
use Rattle.caps_merge.specs.Placed.{Member}
use Rattle.caps_merge.specs.Shown.{ShowMembers}
use Rattle.node_client.specs.declared.reply.Said.{Said}
use Rattle.node_client.specs.declared.reply.Said.TheVariants as read
use Rattle.node_client.specs.Replies as says

-- the slices show these members; where there are none, there are no members
abbrev pub MembersShown : Option (List Pair) → List Member → Type 0
MembersShown None ms = ms ≡ []
MembersShown (Some ps) ms = ShowMembers ps ms

abbrev pub AreMembersShown : Option (List Pair) → Type 0
AreMembersShown ps = (ms : List Member) × MembersShown ps ms

-- what was read is what is said, a message cut to its first words
abbrev pub IsSaid : Said → says.Said → Type 0
IsSaid (read.Created session caps) s = s ≡ says.created session caps
IsSaid (read.Refused words) s = (message : List ℕ) × (s ≡ says.refused message) ×
    IsCutAt 200 message words
IsSaid read.Unclear s = s ≡ says.unclear

-- why a start fails by what was read, where it is no session
abbrev pub IsWhy : Said → FailWhy → Type 0
IsWhy (read.Created session caps) w = ⊥
IsWhy (read.Refused words) w = w ≡ why.NodeRefused words
IsWhy read.Unclear w = w ≡ why.BadReply
