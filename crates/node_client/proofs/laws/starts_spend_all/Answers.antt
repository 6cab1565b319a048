use Rattle.std.proofs.Common.{ℕ, List, [], ◌∷◌}
use Rattle.std.specs.Prelude.{Some}
use Rattle.grid_types.specs.declared.capabilities.Cap.{Cap}
use Rattle.grid_types.specs.declared.entry.FailWhy.{FailWhy}
use Rattle.grid_types.specs.declared.entry.FailWhy.TheVariants as why
use Rattle.grid_types.specs.Tokens.{Reservation, Closing}
use Rattle.hub_core.specs.Replies.{failing_reply}
use Rattle.grid_types.specs.Calls.{Reply}
use Rattle.node_client.specs.Asks.{start_ask, quit_ask}
use Rattle.node_client.specs.Steps.{Step}
use Rattle.node_client.specs.Start as s
use Rattle.node_client.specs.Held.{of_reservation, of_closing}
use Rattle.node_client.specs.Spending.{Spends, over, asks, binds, keeps, closes, gives_up, frees}
use Rattle.node_client.proofs.laws.starts_spend_all.Goals as goal

by_fail : (r : Reservation) (w : FailWhy) (steps : List Step) → s.Fails r w steps → Spends (of_reservation r ∷ []) steps
by_fail r w _ (s.failed at answer) = gives_up w at (failing_reply answer) over

by_free : (c : Closing) (steps : List Step) → s.Frees c steps → Spends (of_closing c ∷ []) steps
by_free c _ (s.freed at) = frees at (Some Reply.is_freed) over

by_close : (c : Closing) (steps : List Step) → s.Closes c steps → Spends (of_closing c ∷ []) steps
by_close c _ (s.quits came quit f) = asks c.address (quit_ask c.session) came (by_free c _ f)
by_close c _ (s.leaves quit f) = by_free c _ f

by_return : (r : Reservation) (session : List ℕ) (steps : List Step) → s.Returns r session steps → Spends (of_reservation r ∷ []) steps
by_return r session _ (s.returned came f) = asks r.address (quit_ask session) came (by_fail r why.NoMemory _ f)

by_bind : (r : Reservation) (session : List ℕ) (caps : List Cap) (steps : List Step) → s.Binds r session caps steps → Spends (of_reservation r ∷ []) steps
by_bind r session caps _ (s.bound at binding) = binds session caps at binding over
by_bind r session caps _ (s.refuses at reply c h k) = closes session caps at reply c h (by_close c _ k)
by_bind r session caps _ (s.lacks at k) = keeps session caps at (by_return r session _ k)

by_start : (r : Reservation) (steps : List Step) → s.Start r steps → Spends (of_reservation r ∷ []) steps
by_start r _ (s.unwritten f) = by_fail r why.NoMemory _ f
by_start r _ (s.fails came w h f) = asks r.address (start_ask r.wanted) came (by_fail r w _ f)
by_start r _ (s.names answer session caps says b) = asks r.address (start_ask r.wanted) _ (by_bind r session caps _ b)

pub returns : goal.returns
returns c = by_start
