-- How often steps found the hub spent, and what the pass counts of that.
use Rattle.std.proofs.Common.{◌≡◌, ℕ, ◌+◌, List, [], ◌∷◌, ◌++◌, refl, arith}
use Rattle.std.specs.Prelude.{Some}
use Rattle.grid_types.specs.declared.capabilities.Cap.{Cap}
use Rattle.grid_types.specs.declared.entry.FailWhy.{FailWhy}
use Rattle.grid_types.specs.Tokens.{Reservation, Closing}
use Rattle.grid_types.specs.Calls.{Call, Reply}
use Rattle.hub_core.specs.declared.answers.Failing.TheVariants as failing
use Rattle.node_client.specs.Steps.{Step, Called, Spent, Exchanged, Paused, spent_looks}
use Rattle.node_client.specs.Start.{Start, Binds, Closes, Fails, Frees, Returns, unwritten, fails, names, bound, refuses, lacks, quits, leaves, failed, freed, returned}
use Rattle.node_client.specs.Places.{Place, Leads, at_start, at_bind, at_return, at_fail, at_quit, at_free, at_end, wanted_at, to_call}
use Rattle.hub_workers.specs.Carried.{SpentStart, spent_at}

looks-append : (steps more : List Step) → spent_looks (steps ++ more) ≡ spent_looks steps + spent_looks more
looks-append [] more = omega arith
looks-append (Called call at reply ∷ steps) more = looks-append steps more
looks-append (Spent call at ∷ steps) more = let rest = looks-append steps more in omega (arith, rest)
looks-append (Exchanged address ask came ∷ steps) more = looks-append steps more
looks-append (Paused ms ∷ steps) more = looks-append steps more

pub looks-both : (steps more : List Step) (a b : ℕ) → spent_looks steps ≡ a → spent_looks more ≡ b → spent_looks (steps ++ more) ≡ a + b
looks-both steps more a b p q = let both = looks-append steps more in omega (arith, both, p, q)

-- ---- a start finds the hub never spent

fails_looks : (r : Reservation) (w : FailWhy) (steps : List Step) → Fails r w steps → spent_looks steps ≡ 0
fails_looks r w _ (failed at answer) = refl

frees_looks : (c : Closing) (steps : List Step) → Frees c steps → spent_looks steps ≡ 0
frees_looks c _ (freed at) = refl

closes_looks : (c : Closing) (steps : List Step) → Closes c steps → spent_looks steps ≡ 0
closes_looks c _ (quits {steps} came q f) = frees_looks c steps f
closes_looks c steps (leaves q f) = frees_looks c steps f

returns_looks : (r : Reservation) (session : List ℕ) (steps : List Step) → Returns r session steps → spent_looks steps ≡ 0
returns_looks r session _ (returned {steps} came f) = fails_looks r _ steps f

binds_looks : (r : Reservation) (session : List ℕ) (caps : List Cap) (steps : List Step) → Binds r session caps steps → spent_looks steps ≡ 0
binds_looks r session caps _ (bound at binding) = refl
binds_looks r session caps _ (refuses {steps} at reply c ref closes) = closes_looks c steps closes
binds_looks r session caps _ (lacks {steps} at ret) = returns_looks r session steps ret

pub start_looks : (r : Reservation) (steps : List Step) → Start r steps → spent_looks steps ≡ 0
start_looks r steps (unwritten f) = fails_looks r _ steps f
start_looks r _ (fails {steps} came w after f) = fails_looks r w steps f
start_looks r _ (names {steps} answer session caps says b) = binds_looks r session caps steps b

leading_looks : (r : Reservation) (place : Place) (steps : List Step) (call : Call) → Leads r place steps → wanted_at r place ≡ to_call call → spent_looks steps ≡ 0
leading_looks r (at_bind session caps) steps call leads w = let whole = start_looks r _ (leads _ (bound 0 0)) in let both = looks-append steps (Called (Call.bind r session caps) 0 (Some (Reply.bound 0)) ∷ []) in omega (arith, whole, both)
leading_looks r (at_fail why) steps call leads w = let whole = start_looks r _ (leads _ (failed 0 failing.Late)) in let both = looks-append steps (Called (Call.fail r why) 0 (Some Reply.failed_late) ∷ []) in omega (arith, whole, both)
leading_looks r (at_free c) steps call leads w = let whole = start_looks r _ (leads _ (freed 0)) in let both = looks-append steps (Called (Call.freed c) 0 (Some Reply.is_freed) ∷ []) in omega (arith, whole, both)
leading_looks r at_start steps call leads w = absurd cc
leading_looks r (at_return session) steps call leads w = absurd cc
leading_looks r (at_quit c) steps call leads w = absurd cc
leading_looks r (at_end e) steps call leads w = absurd cc

pub spent_start_looks : (r : Reservation) (steps : List Step) → SpentStart r steps → spent_looks steps ≡ 1
spent_start_looks r _ (spent_at steps place call at leads wanted) = looks-both steps (Spent call at ∷ []) 0 1 (leading_looks r place steps call leads wanted) (omega arith)
