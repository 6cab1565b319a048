-- What goes before a request, from its parts.
use Rattle.std.proofs.Common.{◌≡◌, ◌≢◌, ℕ, ◌<◌, ◌≤◌, Bool, true, false, List, [], ◌∷◌, ◌++◌, refl, sym, ap, subst, ◌∙◌, arith, append_assoc, append-nil, inl, inr, zero, suc, ◌+◌, length, take, drop, get_or, add-one}
use Rattle.std.specs.Prelude.{None, Some, Result, Ok, Err, IfOk, not}
use Rattle.grid_types.specs.declared.entry.Entry.{Entry}
use Rattle.grid_types.specs.Tokens.{Closing}
use Rattle.grid_types.specs.Calls.{Call, Reply}
use Rattle.grid_outside.specs.Told.{ClockView, Tick}
use Rattle.grid_outside.specs.declared.exchange.Ask.{Ask}
use Rattle.grid_outside.specs.declared.exchange.ExchangeFault.TheVariants as fault
use Rattle.grid_outside.specs.Exchanges.{Came}
use Rattle.hub_core.specs.declared.answers.Beating.{Beating}
use Rattle.hub_core.specs.declared.answers.Beating.TheVariants as beating
use Rattle.hub_core.specs.Replies.{beating_reply}
use Rattle.hub_core.specs.HubView.{HubView, past, ServesLocally}
use Rattle.hub_core.specs.Serves.{MayCall}
use Rattle.node_client.specs.ClockSteps.{Ticks}
use Rattle.node_client.specs.Asks.{quit_ask}
use Rattle.node_client.specs.Quitting.{AsksToEnd, AsksOnce, asked as was_asked, not_asked as was_left}
use Rattle.node_client.specs.Runs.{Exchanges}
use Rattle.node_client.specs.Steps.{Step, Called, Exchanged, lacked}
use Rattle.conn_script.specs.Begin.{asked, not_asked, Expires, none_idle, one_idle, ExpireLacks, expire_lacks, not_sent, later, Begins, swept, beaten, BeginLacks, sweep_lacks, behind_sweep, beat_lacks, behind_beat}
use Rattle.local_driver.specs.declared.before.Idle.{Idle}
use Rattle.local_driver.specs.declared.before.Idle.TheVariants as idle
use Rattle.local_driver.specs.World.{World, Went, WentBy, world_of}
use Rattle.local_driver.specs.Idles.{AsksOrLacks, AsksAndFrees, EndsIdle, AllEnd, none_yet, one_more, Looked, EndsOne, live_count, found_by}
use Rattle.own_hub.specs.Own.{HasRoom}
use Rattle.local_driver.specs.Beginning.{Beaten, none_beaten, beats_one, BeginsOrLacks, ExpiresOrLacks}
use Rattle.local_driver.proofs.LiveLemmas.{expire_lowers}
use Rattle.local_driver.proofs.WayLemmas.{Serves, serves_as, serves_not, serves_roomed, went_none, went_more, went_call, went_exchange}

-- ---- one session

abbrev is_memory : Came → Bool
is_memory (Err fault.Memory) = true
is_memory came = false

differ : (came other : Came) → is_memory came ≡ false → is_memory other ≡ true → came ≢ other
differ came other a b e = let never : false ≡ true = sym a ∙ ap is_memory e ∙ b in absurd cc

asks_so : (c : Closing) (came : Came) → c.quit ≡ true → AsksOrLacks c (not (lacked came)) (Exchanged c.address (quit_ask c.session) came ∷ [])
asks_so c (Ok reply) q = asked (Ok reply) (differ (Ok reply) (Err fault.Memory) refl refl) q
asks_so c (Err fault.Unreachable) q = asked (Err fault.Unreachable) (differ (Err fault.Unreachable) (Err fault.Memory) refl refl) q
asks_so c (Err fault.Memory) q = (q, refl)

asks_as : (c : Closing) (sent : Bool) (steps : List Step) → AsksToEnd c sent steps → AsksOrLacks c sent steps
asks_as c _ _ (was_asked came q) = asks_so c came q
asks_as c _ _ (was_left q) = not_asked q

module _ {N C : Type 0} (gives : N → List ℕ → Ask → Came → N → Type 0) (tells : C → Tick → ℕ → C → Type 0) where
  went_asks : (c : Closing) (sent : Bool) (h : HubView) (n n' : N) (m : C) (time : ClockView) (steps : List Step) → AsksOrLacks c sent steps → Exchanges gives n steps n' →
      Went gives tells (world_of h n m time) steps (world_of h n' m time)
  unfolding Exchanges
  went_asks c true h n n' m time _ (asked came some q) e =
      subst (λ (k : N). Went gives tells (world_of h n m time) (Exchanged c.address (quit_ask c.session) came ∷ []) (world_of h k m time)) (sym e.2)
      (went_exchange gives tells h n e.0 c.address (quit_ask c.session) came m time e.1)
  went_asks c true h n n' m time _ (not_asked q) e =
      subst (λ (k : N). Went gives tells (world_of h n m time) [] (world_of h k m time)) (sym e) (went_none gives tells (world_of h n m time))
  went_asks c false h n n' m time steps x e = lacking (subst (λ (s : List Step). Exchanges gives n s n') x.1 e)
    where
      lacking : Exchanges gives n (Exchanged c.address (quit_ask c.session) (Err fault.Memory) ∷ []) n' → Went gives tells (world_of h n m time) steps (world_of h n' m time)
      lacking y =
          subst (λ (s : List Step). Went gives tells (world_of h n m time) s (world_of h n' m time)) (sym x.1)
          (subst (λ (k : N). Went gives tells (world_of h n m time) (Exchanged c.address (quit_ask c.session) (Err fault.Memory) ∷ []) (world_of h k m time)) (sym y.2)
          (went_exchange gives tells h n y.0 c.address (quit_ask c.session) (Err fault.Memory) m time y.1))

  pub finished_so : (c : Closing) (sent : Bool) (h k : HubView) (n n' : N) (at : ℕ) (m m' : C) (time time' : ClockView) →
      AsksOnce gives c n sent n' → ServesLocally h (Call.freed c) at (Some Reply.is_freed) k → Ticks tells m at m' time time' →
      WentBy gives tells (AsksAndFrees c sent) (world_of h n m time) (world_of k n' m' time')
  finished_so c sent h k n n' at m m' time time' asks serves ticks = record {
    steps = asks.0 ++ Called (Call.freed c) at (Some Reply.is_freed) ∷ [];
    are = record { own = asks.0; at = at; asks = asks_as c sent asks.0 asks.1; steps_are = refl };
    went = went_more gives tells (world_of h n m time) (world_of h n' m time) (world_of k n' m' time') asks.0 (Called (Call.freed c) at (Some Reply.is_freed) ∷ [])
        (went_asks c sent h n n' m time asks.0 (asks_as c sent asks.0 asks.1) asks.2)
        (went_call gives tells h k n' (Call.freed c) at (Some Reply.is_freed) m m' time time' (serves_as h (Call.freed c) at (Some Reply.is_freed) k serves) ticks);
  }

  -- one look that found a session
  pub looked_expired : (found : Idle) (sent : Bool) (h k : HubView) (n : N) (at : ℕ) (m m' : C) (time time' : ClockView) (c : Closing) (x : World N C) →
      found ≡ found_by sent → Serves h Call.expire at (Some (Reply.expired c)) k → Ticks tells m at m' time time' → WentBy gives tells (AsksAndFrees c sent) (world_of k n m' time') x →
      WentBy gives tells (Looked found) (world_of h n m time) x
  looked_expired found sent h k n at m m' time time' c x is serves ticks finishes = record {
    steps = Called Call.expire at (Some (Reply.expired c)) ∷ finishes.steps;
    are = subst (λ (f : Idle). Looked f (Called Call.expire at (Some (Reply.expired c)) ∷ finishes.steps)) (sym is) (by_sent sent finishes.are);
    went = went_more gives tells (world_of h n m time) (world_of k n m' time') x (Called Call.expire at (Some (Reply.expired c)) ∷ []) finishes.steps
        (went_call gives tells h k n Call.expire at (Some (Reply.expired c)) m m' time time' serves ticks) finishes.went;
  }
    where
      by_sent : (b : Bool) → AsksAndFrees c b finishes.steps → Looked (found_by b) (Called Call.expire at (Some (Reply.expired c)) ∷ finishes.steps)
      by_sent true f = record { at = at; c = c; own = finishes.steps; frees = f; steps_are = refl }
      by_sent false f = inr (record { at = at; c = c; own = finishes.steps; frees = f; steps_are = refl })

  pub looked_over : (h k : HubView) (n : N) (at : ℕ) (m m' : C) (time time' : ClockView) → Serves h Call.expire at (Some Reply.nothing) k → Ticks tells m at m' time time' →
      WentBy gives tells (Looked idle.Over) (world_of h n m time) (world_of k n m' time')
  looked_over h k n at m m' time time' serves ticks = record {
    steps = Called Call.expire at (Some Reply.nothing) ∷ [];
    are = (at, refl);
    went = went_call gives tells h k n Call.expire at (Some Reply.nothing) m m' time time' serves ticks;
  }

  pub looked_lacks : (h : HubView) (n : N) (at : ℕ) (m m' : C) (time time' : ClockView) → Ticks tells m at m' time time' →
      WentBy gives tells (Looked idle.Lacks) (world_of h n m time) (world_of h n m' time')
  looked_lacks h n at m m' time time' ticks = record {
    steps = Called Call.expire at None ∷ [];
    are = inl (at, refl);
    went = went_call gives tells h h n Call.expire at None m m' time time' (serves_not h Call.expire at refl) ticks;
  }

  -- ---- all sessions

  pub all_none : (w : World N C) → WentBy gives tells AllEnd w w
  all_none w = record { steps = []; are = none_yet; went = went_none gives tells w }

  -- what a look came to
  pub found_so : (found it : Idle) (u w : World N C) → found ≡ it → WentBy gives tells (Looked found) u w → WentBy gives tells (Looked it) u w
  found_so found it u w is p = subst (λ (f : Idle). WentBy gives tells (Looked f) u w) is p

  pub all_more : (u v w : World N C) → WentBy gives tells AllEnd u v → WentBy gives tells (Looked idle.Ended) v w → WentBy gives tells AllEnd u w
  all_more u v w p q = record { steps = p.steps ++ q.steps; are = one_more p.steps q.steps p.are q.are; went = went_more gives tells u v w p.steps q.steps p.went q.went }

  pub all_then : (IsSo Then : List Step → Type 0) (u v w : World N C) → ((done own : List Step) → AllEnd done → IsSo own → Then (done ++ own)) →
      WentBy gives tells AllEnd u v → WentBy gives tells IsSo v w → WentBy gives tells Then u w
  all_then IsSo Then u v w on p q = record { steps = p.steps ++ q.steps; are = on p.steps q.steps p.are q.are; went = went_more gives tells u v w p.steps q.steps p.went q.went }

-- one session and what follows it
ends_then : (own more : List Step) → EndsIdle true own → Expires more → Expires (own ++ more)
ends_then own more x y =
    subst (λ (s : List Step). Expires (s ++ more)) (sym (x.steps_are ∙ ap (λ (s : List Step). Called Call.expire x.at (Some (Reply.expired x.c)) ∷ s) x.frees.steps_are))
    (subst (λ (s : List Step). Expires (Called Call.expire x.at (Some (Reply.expired x.c)) ∷ s)) (sym (append_assoc x.frees.own (Called (Call.freed x.c) x.frees.at (Some Reply.is_freed) ∷ []) more))
    (one_idle x.at x.frees.at x.c x.frees.asks y))

ends_then_lacks : (own more : List Step) → EndsIdle true own → ExpireLacks more → ExpireLacks (own ++ more)
ends_then_lacks own more x y =
    subst (λ (s : List Step). ExpireLacks (s ++ more)) (sym (x.steps_are ∙ ap (λ (s : List Step). Called Call.expire x.at (Some (Reply.expired x.c)) ∷ s) x.frees.steps_are))
    (subst (λ (s : List Step). ExpireLacks (Called Call.expire x.at (Some (Reply.expired x.c)) ∷ s)) (sym (append_assoc x.frees.own (Called (Call.freed x.c) x.frees.at (Some Reply.is_freed) ∷ []) more))
    (later x.at x.frees.at x.c x.frees.asks y))

all_expire : (done more : List Step) → AllEnd done → Expires more → Expires (done ++ more)
all_expire _ more none_yet y = y
all_expire _ more (one_more done own x e) y =
    subst Expires (sym (append_assoc done own more)) (all_expire done (own ++ more) x (ends_then own more e y))

all_lack : (done more : List Step) → AllEnd done → ExpireLacks more → ExpireLacks (done ++ more)
all_lack _ more none_yet y = y
all_lack _ more (one_more done own x e) y =
    subst ExpireLacks (sym (append_assoc done own more)) (all_lack done (own ++ more) x (ends_then_lacks own more e y))

pub all_over : (done own : List Step) → AllEnd done → Looked idle.Over own → ExpiresOrLacks true (done ++ own)
all_over done own x y = subst (λ (s : List Step). Expires (done ++ s)) (sym y.1) (all_expire done (Called Call.expire y.0 (Some Reply.nothing) ∷ []) x (none_idle y.0))

lacking : (own : List Step) → Looked idle.Lacks own → ExpireLacks own
lacking own (inl (at, is)) = subst ExpireLacks (sym is) (expire_lacks at)
lacking own (inr x) =
    subst ExpireLacks (sym (x.steps_are ∙ ap (λ (s : List Step). Called Call.expire x.at (Some (Reply.expired x.c)) ∷ s)
    (x.frees.steps_are ∙ ap (λ (s : List Step). s ++ Called (Call.freed x.c) x.frees.at (Some Reply.is_freed) ∷ []) x.frees.asks.1)))
    (not_sent x.at x.frees.at x.c x.frees.asks.0)

pub all_lacking : (done own : List Step) → AllEnd done → Looked idle.Lacks own → ExpiresOrLacks false (done ++ own)
all_lacking done own x y = all_lack done own x (lacking own y)

-- ---- signs of life

begins_after : (nodes rest : List ℕ) (steps more : List Step) → Beaten nodes steps → Begins rest more → Begins (nodes ++ rest) (steps ++ more)
begins_after _ rest _ more none_beaten y = y
begins_after _ rest _ more (beats_one nodes steps node at reply x) y =
    subst (λ (ns : List ℕ). Begins ns ((steps ++ Called (Call.beat node None) at (Some reply) ∷ []) ++ more)) (sym (append_assoc nodes (node ∷ []) rest))
    (subst (λ (s : List Step). Begins (nodes ++ (node ∷ rest)) s) (sym (append_assoc steps (Called (Call.beat node None) at (Some reply) ∷ []) more))
    (begins_after nodes (node ∷ rest) steps (Called (Call.beat node None) at (Some reply) ∷ more) x (beaten node at reply y)))

lacks_after : (nodes rest : List ℕ) (steps more : List Step) → Beaten nodes steps → BeginLacks rest more → BeginLacks (nodes ++ rest) (steps ++ more)
lacks_after _ rest _ more none_beaten y = y
lacks_after _ rest _ more (beats_one nodes steps node at reply x) y =
    subst (λ (ns : List ℕ). BeginLacks ns ((steps ++ Called (Call.beat node None) at (Some reply) ∷ []) ++ more)) (sym (append_assoc nodes (node ∷ []) rest))
    (subst (λ (s : List Step). BeginLacks (nodes ++ (node ∷ rest)) s) (sym (append_assoc steps (Called (Call.beat node None) at (Some reply) ∷ []) more))
    (lacks_after nodes (node ∷ rest) steps (Called (Call.beat node None) at (Some reply) ∷ more) x (behind_beat node at reply y)))

module _ {N C : Type 0} (gives : N → List ℕ → Ask → Came → N → Type 0) (tells : C → Tick → ℕ → C → Type 0) where
  pub beaten_none : (w : World N C) → WentBy gives tells (Beaten []) w w
  beaten_none w = record { steps = []; are = none_beaten; went = went_none gives tells w }

  beaten_more : (u : World N C) (nodes : List ℕ) (node : ℕ) (h k : HubView) (n : N) (at : ℕ) (m m' : C) (reply : Reply) (time time' : ClockView) →
      WentBy gives tells (Beaten nodes) u (world_of h n m time) → Serves h (Call.beat node None) at (Some reply) k → Ticks tells m at m' time time' →
      WentBy gives tells (Beaten (nodes ++ node ∷ [])) u (world_of k n m' time')
  beaten_more u nodes node h k n at m m' reply time time' p serves ticks = record {
    steps = p.steps ++ Called (Call.beat node None) at (Some reply) ∷ [];
    are = beats_one nodes p.steps node at reply p.are;
    went = went_more gives tells u (world_of h n m time) (world_of k n m' time') p.steps (Called (Call.beat node None) at (Some reply) ∷ []) p.went
        (went_call gives tells h k n (Call.beat node None) at (Some reply) m m' time time' serves ticks);
  }

  beaten_lacks : (u : World N C) (nodes rest : List ℕ) (node : ℕ) (h : HubView) (n : N) (at : ℕ) (m m' : C) (time time' : ClockView) →
      WentBy gives tells (Beaten nodes) u (world_of h n m time) → Ticks tells m at m' time time' →
      WentBy gives tells (BeginLacks (nodes ++ (node ∷ rest))) u (world_of h n m' time')
  beaten_lacks u nodes rest node h n at m m' time time' p ticks = record {
    steps = p.steps ++ Called (Call.beat node None) at None ∷ [];
    are = lacks_after nodes (node ∷ rest) p.steps (Called (Call.beat node None) at None ∷ []) p.are (beat_lacks node at);
    went = went_more gives tells u (world_of h n m time) (world_of h n m' time') p.steps (Called (Call.beat node None) at None ∷ []) p.went
        (went_call gives tells h h n (Call.beat node None) at None m m' time time' (serves_not h (Call.beat node None) at refl) ticks);
  }

  -- ---- all of it

  sweeps_then : (IsSo Then : List Step → Type 0) (h k : HubView) (n : N) (at : ℕ) (m m' : C) (reply : Reply) (time time' : ClockView) (x : World N C) →
      ((more : List Step) → IsSo more → Then (Called Call.sweep at (Some reply) ∷ more)) →
      Serves h Call.sweep at (Some reply) k → Ticks tells m at m' time time' → WentBy gives tells IsSo (world_of k n m' time') x → WentBy gives tells Then (world_of h n m time) x
  sweeps_then IsSo Then h k n at m m' reply time time' x on serves ticks q = record {
    steps = Called Call.sweep at (Some reply) ∷ q.steps;
    are = on q.steps q.are;
    went = went_more gives tells (world_of h n m time) (world_of k n m' time') x (Called Call.sweep at (Some reply) ∷ []) q.steps
        (went_call gives tells h k n Call.sweep at (Some reply) m m' time time' serves ticks) q.went;
  }

  pub swept_so : (ended : Bool) (h k : HubView) (n : N) (at : ℕ) (m m' : C) (reply : Reply) (time time' : ClockView) (x : World N C) →
      Serves h Call.sweep at (Some reply) k → Ticks tells m at m' time time' → WentBy gives tells (ExpiresOrLacks ended) (world_of k n m' time') x →
      WentBy gives tells (BeginsOrLacks [] ended) (world_of h n m time) x
  swept_so true h k n at m m' reply time time' x serves ticks q = sweeps_then Expires (Begins []) h k n at m m' reply time time' x (λ more y. swept at reply y) serves ticks q
  swept_so false h k n at m m' reply time time' x serves ticks q = sweeps_then ExpireLacks (BeginLacks []) h k n at m m' reply time time' x (λ more y. behind_sweep at reply y) serves ticks q

  pub sweep_not : (h : HubView) (n : N) (at : ℕ) (m m' : C) (time time' : ClockView) → Ticks tells m at m' time time' →
      WentBy gives tells (BeginLacks []) (world_of h n m time) (world_of h n m' time')
  sweep_not h n at m m' time time' ticks = record {
    steps = Called Call.sweep at None ∷ [];
    are = sweep_lacks at;
    went = went_call gives tells h h n Call.sweep at None m m' time time' (serves_not h Call.sweep at refl) ticks;
  }

  begins_all : (own : List ℕ) (u v w : World N C) → WentBy gives tells (Beaten own) u v → WentBy gives tells (Begins []) v w → WentBy gives tells (Begins own) u w
  begins_all own u v w p q = record {
    steps = p.steps ++ q.steps;
    are = subst (λ (ns : List ℕ). Begins ns (p.steps ++ q.steps)) (append-nil own) (begins_after own [] p.steps q.steps p.are q.are);
    went = went_more gives tells u v w p.steps q.steps p.went q.went;
  }

  lacks_all : (own : List ℕ) (u v w : World N C) → WentBy gives tells (Beaten own) u v → WentBy gives tells (BeginLacks []) v w → WentBy gives tells (BeginLacks own) u w
  lacks_all own u v w p q = record {
    steps = p.steps ++ q.steps;
    are = subst (λ (ns : List ℕ). BeginLacks ns (p.steps ++ q.steps)) (append-nil own) (lacks_after own [] p.steps q.steps p.are q.are);
    went = went_more gives tells u v w p.steps q.steps p.went q.went;
  }

-- the closing that a look gives is good
pub may_free : (old new : HubView) (at : ℕ) (c : Closing) → ServesLocally old Call.expire at (Some (Reply.expired c)) new → MayCall (past new) 0 (Call.freed c)
may_free old new at c serves = record { is_good = serves.serves.gives.0; is_true = tt }

-- one session fewer runs
pub ends_one : (found : Idle) (sent : Bool) (old roomed mid new : HubView) (at : ℕ) (c : Closing) → found ≡ found_by sent → roomed ≡ record old { room = true } →
    ServesLocally roomed Call.expire at (Some (Reply.expired c)) mid → live_count (past new) ≤ live_count (past mid) → EndsOne found (past old) (past new)
ends_one found sent old roomed mid new at c told is serves keeps =
    subst (λ (f : Idle). EndsOne f (past old) (past new)) (sym told) (by_sent sent)
  where
    below : (a b d : ℕ) → a ≤ b → b < d → a < d
    below a b d x y = omega (arith, x, y)

    by_sent : (b : Bool) → EndsOne (found_by b) (past old) (past new)
    by_sent true =
        below (live_count (past new)) (live_count (past mid)) (live_count (past old)) keeps
        (subst (λ (h : List Entry). live_count (past mid) < live_count h) (ap past is) (expire_lowers roomed.config (past roomed) at c (past mid) serves.serves.answers))
    by_sent false = tt

-- ---- rooms that were made, or not

pub roomed_so : (old new : HubView) (has : Bool) → has ≡ true → HasRoom has old new → new ≡ record old { room = true }
roomed_so old new has is x = subst (λ (b : Bool). HasRoom b old new) is x

pub not_roomed : (old new : HubView) (has : Bool) → has ≡ false → HasRoom has old new → new ≡ old
not_roomed old new has is x = subst (λ (b : Bool). HasRoom b old new) is x

-- ---- lists of nodes

next_suc : (xs : List ℕ) (i d : ℕ) → i < length xs → take (suc i) xs ≡ take i xs ++ get_or xs i d ∷ []
next_suc [] i d lt = absurd (omega arith)
next_suc (y ∷ xs) zero d lt = refl
next_suc (y ∷ xs) (suc i) d lt = ap (λ (zs : List ℕ). y ∷ zs) (next_suc xs i d (omega arith))

take_next : (xs : List ℕ) (i d : ℕ) → i < length xs → take (i + 1) xs ≡ take i xs ++ get_or xs i d ∷ []
take_next xs i d lt = ap (λ (n : ℕ). take n xs) (add-one i) ∙ next_suc xs i d lt

split_at : (xs : List ℕ) (i d : ℕ) → i < length xs → xs ≡ take i xs ++ get_or xs i d ∷ drop (suc i) xs
split_at [] i d lt = absurd (omega arith)
split_at (y ∷ xs) zero d lt = refl
split_at (y ∷ xs) (suc i) d lt = ap (λ (zs : List ℕ). y ∷ zs) (split_at xs i d (omega arith))

take_whole : (xs : List ℕ) (i : ℕ) → length xs ≤ i → take i xs ≡ xs
take_whole [] zero le = refl
take_whole [] (suc i) le = refl
take_whole (y ∷ xs) zero le = absurd (omega arith)
take_whole (y ∷ xs) (suc i) le = ap (λ (zs : List ℕ). y ∷ zs) (take_whole xs i (omega arith))

pub if_then : {A E : Type 0} {P Q : A → Type 0} (r : Result A E) → ((a : A) → P a → Q a) → IfOk r P → IfOk r Q
if_then (Ok a) f h = f a h
if_then (Err e) f h = tt

beat_replied : (b : Beating) (old : HubView) (node at : ℕ) (new : HubView) → Serves old (Call.beat node None) at (beating_reply b) new →
    (reply : Reply) × Serves old (Call.beat node None) at (Some reply) new
beat_replied beating.Beaten old node at new x = (Reply.beaten, x)
beat_replied beating.NoNode old node at new x = (Reply.no_node, x)

module _ {N C : Type 0} (gives : N → List ℕ → Ask → Came → N → Type 0) (tells : C → Tick → ℕ → C → Type 0) where
  -- one more node gave its sign of life
  pub beats_on : (own : List ℕ) (i d : ℕ) (b : Beating) (u : World N C) (h roomed k : HubView) (n : N) (at : ℕ) (m m' : C) (time time' : ClockView) → i < length own →
      WentBy gives tells (Beaten (take i own)) u (world_of h n m time) → roomed ≡ record h { room = true } → ServesLocally roomed (Call.beat (get_or own i d) None) at (beating_reply b) k →
      Ticks tells m at m' time time' → WentBy gives tells (Beaten (take (i + 1) own)) u (world_of k n m' time')
  beats_on own i d b u h roomed k n at m m' time time' lt p made serves ticks =
      let told = beat_replied b h (get_or own i d) at k (serves_roomed h roomed k (Call.beat (get_or own i d) None) at (beating_reply b) made serves) in
      subst (λ (ns : List ℕ). WentBy gives tells (Beaten ns) u (world_of k n m' time')) (sym (take_next own i d lt))
      (beaten_more gives tells u (take i own) (get_or own i d) h k n at m m' told.0 time time' p told.1 ticks)

  -- there was no room for one
  pub beats_not : (own : List ℕ) (i : ℕ) (u : World N C) (h roomed : HubView) (n : N) (at : ℕ) (m m' : C) (time time' : ClockView) → i < length own →
      WentBy gives tells (Beaten (take i own)) u (world_of h n m time) → roomed ≡ h → Ticks tells m at m' time time' → WentBy gives tells (BeginLacks own) u (world_of roomed n m' time')
  beats_not own i u h roomed n at m m' time time' lt p same ticks =
      subst (λ (g : HubView). WentBy gives tells (BeginLacks own) u (world_of g n m' time')) (sym same)
      (subst (λ (ns : List ℕ). WentBy gives tells (BeginLacks ns) u (world_of h n m' time')) (sym (split_at own i 0 lt))
      (beaten_lacks gives tells u (take i own) (drop (suc i) own) (get_or own i 0) h n at m m' time time' p ticks))

  pub begins_then : (own : List ℕ) (i : ℕ) (u v w : World N C) (done : Bool) → length own ≤ i → WentBy gives tells (Beaten (take i own)) u v →
      WentBy gives tells (BeginsOrLacks [] done) v w → WentBy gives tells (BeginsOrLacks own done) u w
  begins_then own i u v w true le p q = begins_all gives tells own u v w (subst (λ (ns : List ℕ). WentBy gives tells (Beaten ns) u v) (take_whole own i le) p) q
  begins_then own i u v w false le p q = lacks_all gives tells own u v w (subst (λ (ns : List ℕ). WentBy gives tells (Beaten ns) u v) (take_whole own i le) p) q

  -- what goes before a request was done, or not
  pub begins_so : (own : List ℕ) (done : Bool) (u w : World N C) → done ≡ true → WentBy gives tells (BeginsOrLacks own done) u w → WentBy gives tells (Begins own) u w
  begins_so own done u w is q = subst (λ (b : Bool). WentBy gives tells (BeginsOrLacks own b) u w) is q

  pub lacks_so : (own : List ℕ) (done : Bool) (u w : World N C) → done ≡ false → WentBy gives tells (BeginsOrLacks own done) u w → WentBy gives tells (BeginLacks own) u w
  lacks_so own done u w is q = subst (λ (b : Bool). WentBy gives tells (BeginsOrLacks own b) u w) is q
