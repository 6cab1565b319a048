-- From one state there is one start, and one list of steps before a request, where no step was out of memory.
use Rattle.std.proofs.Common.{◌≡◌, ℕ, Bool, true, false, List, [], ◌∷◌, ◌++◌, length, take, refl, sym, ◌∙◌, ap, subst, arith}
use Rattle.std.proofs.lemmas.Bool.{false≢true}
use Rattle.std.specs.Prelude.{Option, None, Some, Ok}
use Rattle.grid_outside.specs.declared.exchange.Reply.TheVariants as reply
use Rattle.grid_outside.specs.Exchanges.{Came}
use Rattle.http_frames.specs.declared.replies.NodeReply.{NodeReply}
use Rattle.grid_types.specs.declared.capabilities.Cap.{Cap}
use Rattle.grid_types.specs.declared.config.HubConfig.{HubConfig}
use Rattle.grid_types.specs.declared.entry.FailWhy.{FailWhy}
use Rattle.grid_types.specs.declared.entry.FailWhy.TheVariants as why
use Rattle.grid_types.specs.Calls.{Call, Reply}
use Rattle.grid_types.specs.Names.{IsCutAt}
use Rattle.grid_types.specs.Tokens.{Reservation, Closing}
use Rattle.hub_core.specs.Replies.{failing_reply}
use Rattle.node_client.specs.Asks.{start_ask, quit_ask}
use Rattle.node_client.specs.Replies.{Says, created, refused, unclear}
use Rattle.node_client.specs.Start.{Fails, failed, Frees, freed, Closes, quits, leaves, Refuses, late, node_gone, duplicate, mismatch, Binds, bound, refuses, lacks, FailsAfter, unreachable, not_asked, not_http, tells, tells_nothing, unread, Start, unwritten, fails, names}
use Rattle.node_client.specs.Steps.{Step, Called, is_lack}
use Rattle.conn_script.specs.Begin.{AsksToEnd, asked, not_asked as left_alone, Expires, none_idle, one_idle, Begins, swept, beaten}
use Rattle.grid_play.specs.Readings.{Readings}
use Rattle.grid_play.proofs.ExactLemmas.{State, Exactly, called, done, One, one_none, one_call, one_exchange, one_append, one_as, reply_one, never_silent, never_given_up}

-- ---- what a reply says, and why a start fails

-- words that are cut are the longest
words_one : (most : ℕ) (text v w : List ℕ) → IsCutAt most text v → IsCutAt most text w → v ≡ w
words_one most text v w p q =
    let less = q.longest (length v) p.within p.whole in
    let more = p.longest (length w) q.within q.whole in
    let same : length v ≡ length w = omega (arith, less, more) in
    p.prefix ∙ ap (λ (n : ℕ). take n text) same ∙ sym q.prefix

refused_same : (a b : List ℕ) → refused a ≡ refused b → a ≡ b
refused_same a b e = cc

-- what came of an exchange says why a start fails, where that is not for want of memory
fails_after_one : (laws : Readings) (came : Came) (v w : FailWhy) → FailsAfter came v → FailsAfter came w → is_lack v ≡ false → is_lack w ≡ false → v ≡ w
fails_after_one laws _ _ _ unreachable unreachable p q = refl
fails_after_one laws _ _ w not_asked x p q = absurd (false≢true (sym p))
fails_after_one laws _ _ _ (not_http b) (not_http a) p q = refl
fails_after_one laws _ _ _ (tells r message words says cut) (tells _ other more says_too cut_too) p q =
    let same = refused_same message other (laws.replies r.status r.body (refused message) (refused other) says says_too) in
    ap why.NodeRefused (words_one 200 other words more (subst (λ (m : List ℕ). IsCutAt 200 m words) same cut) cut_too)
fails_after_one laws _ _ _ (tells r message words says cut) (tells_nothing _ none) p q =
    let e : refused message ≡ unclear = laws.replies r.status r.body (refused message) unclear says none in cc
fails_after_one laws _ _ _ (tells r message words says cut) (unread _) p q = absurd (false≢true (sym q))
fails_after_one laws _ _ _ (tells_nothing r none) (tells _ other more says_too cut_too) p q =
    let e : unclear ≡ refused other = laws.replies r.status r.body unclear (refused other) none says_too in cc
fails_after_one laws _ _ _ (tells_nothing r none) (tells_nothing _ none_too) p q = refl
fails_after_one laws _ _ _ (tells_nothing r none) (unread _) p q = absurd (false≢true (sym q))
fails_after_one laws _ _ w (unread r) x p q = absurd (false≢true (sym p))

-- a reply that names a session is no cause to fail but for want of memory
named_not_failed : (laws : Readings) (answer : NodeReply) (session : List ℕ) (caps : List Cap) (came : Came) (w : FailWhy) → came ≡ Ok (reply.Http answer) →
    Says answer.status answer.body (created session caps) → FailsAfter came w → is_lack w ≡ false → ⊥
named_not_failed laws answer session caps _ _ e says unreachable p = cc
named_not_failed laws answer session caps _ _ e says not_asked p = cc
named_not_failed laws answer session caps _ _ e says (not_http b) p = cc
named_not_failed laws answer session caps _ _ e says (tells r message words told cut) p =
    let same : r ≡ answer = cc in
    let d : created session caps ≡ refused message =
    laws.replies answer.status answer.body (created session caps) (refused message) says (subst (λ (x : NodeReply). Says x.status x.body (refused message)) same told) in cc
named_not_failed laws answer session caps _ _ e says (tells_nothing r told) p =
    let same : r ≡ answer = cc in
    let d : created session caps ≡ unclear =
    laws.replies answer.status answer.body (created session caps) unclear says (subst (λ (x : NodeReply). Says x.status x.body unclear) same told) in cc
named_not_failed laws answer session caps _ _ e says (unread r) p = absurd (false≢true (sym p))

-- the closing that a reply to a bind gives
abbrev closing_in : Reply → Option Closing
closing_in (Reply.late k) = Some k
closing_in (Reply.node_gone k) = Some k
closing_in (Reply.duplicate k) = Some k
closing_in (Reply.mismatch k) = Some k
closing_in other = None

gives_closing : (r : Reply) (k : Closing) → Refuses r k → closing_in r ≡ Some k
gives_closing _ _ (late k) = refl
gives_closing _ _ (node_gone k) = refl
gives_closing _ _ (duplicate k) = refl
gives_closing _ _ (mismatch k) = refl

module _ (laws : Readings) (c : HubConfig) (y z : State) where
  -- ---- the ends of a start

  fails_one : (Y Z : List Step) (r : Reservation) (w : FailWhy) (X X' : List Step) (s : State) → Fails r w X → Fails r w X' →
      Exactly c s (X ++ Y) y → Exactly c s (X' ++ Z) z → One laws c y z Y Z X X' done done
  fails_one Y Z r w X X' s (failed at answer) (failed on other) p q =
      one_call laws c y z Y Z s (Call.fail r w) at on (failing_reply answer) (failing_reply other) [] [] done done p q
      (λ a b. one_none laws c y z Y Z (called c s (Call.fail r w)) done done refl a b)

  -- it is not given up for want of memory
  never_lacks : (v s : State) (Y : List Step) (r : Reservation) (w : FailWhy) (X : List Step) → is_lack w ≡ true → Fails r w X → Exactly c s (X ++ Y) v → ⊥
  never_lacks v s Y r w X e (failed at answer) p = never_given_up laws c v z v s (Call.fail r w) at (failing_reply answer) Y e p

  kept_why : (v s : State) (Y : List Step) (r : Reservation) (w : FailWhy) (X : List Step) → Fails r w X → Exactly c s (X ++ Y) v → is_lack w ≡ false
  kept_why v s Y r w X f p = by_test (is_lack w) refl
    where
      by_test : (b : Bool) → is_lack w ≡ b → b ≡ false
      by_test true e = absurd (never_lacks v s Y r w X e f p)
      by_test false e = refl

  frees_one : (Y Z : List Step) (k : Closing) (X X' : List Step) (s : State) → Frees k X → Frees k X' →
      Exactly c s (X ++ Y) y → Exactly c s (X' ++ Z) z → One laws c y z Y Z X X' done done
  frees_one Y Z k X X' s (freed at) (freed on) p q =
      one_call laws c y z Y Z s (Call.freed k) at on (Some Reply.is_freed) (Some Reply.is_freed) [] [] done done p q
      (λ a b. one_none laws c y z Y Z (called c s (Call.freed k)) done done refl a b)

  closes_one : (Y Z : List Step) (k : Closing) (X X' : List Step) (s : State) → Closes k X → Closes k X' →
      Exactly c s (X ++ Y) y → Exactly c s (X' ++ Z) z → One laws c y z Y Z X X' done done
  closes_one Y Z k X X' s (quits {steps = V} came e f) (quits {steps = W} other d g) p q =
      one_exchange laws c y z Y Z s k.address (quit_ask k.session) came other V W done done p q (λ _ next a b. frees_one Y Z k V W next f g a b)
  closes_one Y Z k X X' s (quits came e f) (leaves d g) p q = absurd (false≢true (sym d ∙ e))
  closes_one Y Z k X X' s (leaves d g) (quits came e f) p q = absurd (false≢true (sym d ∙ e))
  closes_one Y Z k X X' s (leaves d f) (leaves e g) p q = frees_one Y Z k X X' s f g p q

  binds_one : (Y Z : List Step) (r : Reservation) (session : List ℕ) (caps : List Cap) (X X' : List Step) (s : State) → Binds r session caps X → Binds r session caps X' →
      Exactly c s (X ++ Y) y → Exactly c s (X' ++ Z) z → One laws c y z Y Z X X' done done
  binds_one Y Z r session caps X X' s (bound at b) (bound on d) p q =
      one_call laws c y z Y Z s (Call.bind r session caps) at on (Some (Reply.bound b)) (Some (Reply.bound d)) [] [] done done p q
      (λ a e. one_none laws c y z Y Z (called c s (Call.bind r session caps)) done done refl a e)
  binds_one Y Z r session caps X X' s (bound at b) (refuses {steps = W} on o k refusing closes) p q =
      let e = reply_one laws c y z s (Call.bind r session caps) at on (Reply.bound b) o Y (W ++ Z) p q in
      let d : None ≡ Some k = ap closing_in e ∙ gives_closing o k refusing in cc
  binds_one Y Z r session caps X X' s (refuses {steps = V} at o k refusing closes) (bound on b) p q =
      let e = reply_one laws c y z s (Call.bind r session caps) at on o (Reply.bound b) (V ++ Y) Z p q in
      let d : Some k ≡ None = sym (gives_closing o k refusing) ∙ ap closing_in e in cc
  binds_one Y Z r session caps X X' s (refuses {steps = V} at o k refusing closes) (refuses {steps = W} on n l refusing_too closes_too) p q =
      let e = reply_one laws c y z s (Call.bind r session caps) at on o n (V ++ Y) (W ++ Z) p q in
      let d : Some k ≡ Some l = sym (gives_closing o k refusing) ∙ ap closing_in e ∙ gives_closing n l refusing_too in
      let same : k ≡ l = cc in
      one_call laws c y z Y Z s (Call.bind r session caps) at on (Some o) (Some n) V W done done p q
      (λ a b. closes_one Y Z k V W (called c s (Call.bind r session caps)) closes (subst (λ (x : Closing). Closes x W) (sym same) closes_too) a b)
  binds_one Y Z r session caps X X' s (lacks {steps = V} at returns) x p q = absurd (never_silent laws c y z y s (Call.bind r session caps) at (V ++ Y) p)
  binds_one Y Z r session caps X X' s x (lacks {steps = W} on returns) p q = absurd (never_silent laws c y z z s (Call.bind r session caps) on (W ++ Z) q)

  -- ---- a start

  pub start_one : (Y Z : List Step) (r : Reservation) (X X' : List Step) (s : State) → Start r X → Start r X' →
      Exactly c s (X ++ Y) y → Exactly c s (X' ++ Z) z → One laws c y z Y Z X X' done done
  start_one Y Z r X X' s (unwritten f) x p q = absurd (never_lacks y s Y r why.NoMemory X refl f p)
  start_one Y Z r X X' s x (unwritten f) p q = absurd (never_lacks z s Z r why.NoMemory X' refl f q)
  start_one Y Z r X X' s (fails {steps = V} came v after f) (fails {steps = W} other w after_too g) p q =
      one_exchange laws c y z Y Z s r.address (start_ask r.wanted) came other V W done done p q
      (λ e next a b.
      let same = fails_after_one laws came v w after (subst (λ (x : Came). FailsAfter x w) (sym e) after_too) (kept_why y next Y r v V f a) (kept_why z next Z r w W g b) in
      fails_one Y Z r v V W next f (subst (λ (x : FailWhy). Fails r x W) (sym same) g) a b)
  start_one Y Z r X X' s (fails {steps = V} came v after f) (names {steps = W} answer session caps says binds) p q =
      one_exchange laws c y z Y Z s r.address (start_ask r.wanted) came (Ok (reply.Http answer)) V W done done p q
      (λ e next a b. absurd (named_not_failed laws answer session caps came v e says after (kept_why y next Y r v V f a)))
  start_one Y Z r X X' s (names {steps = V} answer session caps says binds) (fails {steps = W} other w after g) p q =
      one_exchange laws c y z Y Z s r.address (start_ask r.wanted) (Ok (reply.Http answer)) other V W done done p q
      (λ e next a b. absurd (named_not_failed laws answer session caps other w (sym e) says after (kept_why z next Z r w W g b)))
  start_one Y Z r X X' s (names {steps = V} answer session caps says binds) (names {steps = W} other id more says_too binds_too) p q =
      one_exchange laws c y z Y Z s r.address (start_ask r.wanted) (Ok (reply.Http answer)) (Ok (reply.Http other)) V W done done p q
      (λ e next a b.
      let same : answer ≡ other = cc in
      let said : created session caps ≡ created id more =
      laws.replies other.status other.body (created session caps) (created id more) (subst (λ (x : NodeReply). Says x.status x.body (created session caps)) same says) says_too in
      let ids : session ≡ id = cc in
      let lists : caps ≡ more = cc in
      binds_one Y Z r session caps V W next binds
      (subst (λ (x : List ℕ). Binds r x caps W) (sym ids) (subst (λ (x : List Cap). Binds r id x W) (sym lists) binds_too)) a b)

  -- ---- what goes before a request

  asks_one : (Y Z : List Step) (k : Closing) (X X' : List Step) (s : State) → AsksToEnd k X → AsksToEnd k X' →
      Exactly c s (X ++ Y) y → Exactly c s (X' ++ Z) z → One laws c y z Y Z X X' done done
  asks_one Y Z k X X' s (asked came some e) (asked other some_too d) p q =
      one_exchange laws c y z Y Z s k.address (quit_ask k.session) came other [] [] done done p q (λ _ next a b. one_none laws c y z Y Z next done done refl a b)
  asks_one Y Z k X X' s (asked came some e) (left_alone d) p q = absurd (false≢true (sym d ∙ e))
  asks_one Y Z k X X' s (left_alone d) (asked came some e) p q = absurd (false≢true (sym d ∙ e))
  asks_one Y Z k X X' s (left_alone d) (left_alone e) p q = one_none laws c y z Y Z s done done refl p q

  expires_one : (Y Z : List Step) (X X' : List Step) (s : State) → Expires X → Expires X' →
      Exactly c s (X ++ Y) y → Exactly c s (X' ++ Z) z → One laws c y z Y Z X X' done done
  expires_one Y Z X X' s (none_idle at) (none_idle on) p q =
      one_call laws c y z Y Z s Call.expire at on (Some Reply.nothing) (Some Reply.nothing) [] [] done done p q
      (λ a b. one_none laws c y z Y Z (called c s Call.expire) done done refl a b)
  expires_one Y Z X X' s (none_idle at) (one_idle {own = own} {more = more} on then k asks rest) p q =
      let e = reply_one laws c y z s Call.expire at on Reply.nothing (Reply.expired k) Y ((own ++ Called (Call.freed k) then (Some Reply.is_freed) ∷ more) ++ Z) p q in cc
  expires_one Y Z X X' s (one_idle {own = own} {more = more} at then k asks rest) (none_idle on) p q =
      let e = reply_one laws c y z s Call.expire at on (Reply.expired k) Reply.nothing ((own ++ Called (Call.freed k) then (Some Reply.is_freed) ∷ more) ++ Y) Z p q in cc
  expires_one Y Z X X' s (one_idle {own = own} {more = more} at then k asks rest) (one_idle {own = own'} {more = more'} on next l asks_too rest_too) p q =
      let V = Called (Call.freed k) then (Some Reply.is_freed) ∷ more in
      let W = Called (Call.freed l) next (Some Reply.is_freed) ∷ more' in
      let e = reply_one laws c y z s Call.expire at on (Reply.expired k) (Reply.expired l) ((own ++ V) ++ Y) ((own' ++ W) ++ Z) p q in
      let same : k ≡ l = cc in
      one_call laws c y z Y Z s Call.expire at on (Some (Reply.expired k)) (Some (Reply.expired l)) (own ++ V) (own' ++ W) done done p q
      (λ a b. one_append laws c y z Y Z (called c s Call.expire) own own' V W done done done done a b
      (λ d f. asks_one (V ++ Y) (W ++ Z) k own own' (called c s Call.expire) asks (subst (λ (x : Closing). AsksToEnd x own') (sym same) asks_too) d f)
      (λ _ place d f. one_as laws c y z Y Z place V W V (Called (Call.freed k) next (Some Reply.is_freed) ∷ more') done done refl
      (ap (λ (x : Closing). Called (Call.freed x) next (Some Reply.is_freed) ∷ more') (sym same)) d f
      (λ g h. one_call laws c y z Y Z place (Call.freed k) then next (Some Reply.is_freed) (Some Reply.is_freed) more more' done done g h
      (λ i j. expires_one Y Z more more' (called c place (Call.freed k)) rest rest_too i j))))

  pub begins_one : (Y Z : List Step) (own : List ℕ) (X X' : List Step) (s : State) → Begins own X → Begins own X' →
      Exactly c s (X ++ Y) y → Exactly c s (X' ++ Z) z → One laws c y z Y Z X X' done done
  begins_one Y Z [] X X' s (swept {more = V} at r rest) (swept {more = W} on o rest_too) p q =
      one_call laws c y z Y Z s Call.sweep at on (Some r) (Some o) V W done done p q (λ a b. expires_one Y Z V W (called c s Call.sweep) rest rest_too a b)
  begins_one Y Z (n ∷ ns) X X' s (beaten {more = V} _ at r rest) (beaten {more = W} _ on o rest_too) p q =
      one_call laws c y z Y Z s (Call.beat n None) at on (Some r) (Some o) V W done done p q (λ a b. begins_one Y Z ns V W (called c s (Call.beat n None)) rest rest_too a b)
