-- What was written, and what a link tells.
use Rattle.std.proofs.Common.{◌≡◌, ℕ, ◌+◌, ◌-◌, Bool, List, [], ◌++◌, length, take, drop, codes, decimal, Option, Some, None, Result, Ok, Err, IfOk, refl, sym, ap, subst, ◌∙◌, append-nil, arith}
use Rattle.std.specs.Prelude.{if◌then◌else◌}
use Rattle.std.specs.Borrow.{Bor}
use Rattle.std.proofs.Math.Seq.{take-add}
use Rattle.std.proofs.lemmas.Grind.{common_steps}
use Rattle.http_frames.specs.declared.replies.NodeReply.{NodeReply}
use Rattle.http_frames.specs.Writing.{optional_line, response_bytes, has_no_body, length_line}
use Rattle.grid_outside.specs.Told.{Gains, LinkView}
use Rattle.grid_outside.specs.Exchanges.{lent}
use Rattle.grid_outside.specs.StreamLaws.{gains_more, gains_none}
use Rattle.loop_node.specs.Serving.{value_line, reply_bytes}
use Rattle.loop_node.specs.Connections.{Later, Moved, WroteFront}

-- ---- what is told gains piece by piece

take_next : (done n : ℕ) (bytes : List ℕ) → take (done + n) bytes ≡ take done bytes ++ take n (take (length bytes - done) (drop done bytes))
take_next done n bytes = grind (arith, common_steps, take-add done n bytes)

-- the next n bytes are gained behind those that are done
pub gains_next : (a b c : Option (List ℕ)) (done n : ℕ) (bytes : List ℕ) → Gains a b (take done bytes) →
    Gains b c (take n (take (length bytes - done) (drop done bytes))) → Gains a c (take (done + n) bytes)
gains_next a b c done n bytes p q = subst (Gains a c) (sym (take_next done n bytes)) (gains_more a b c _ _ p q)

-- ---- counts

pub later_none : (a : LinkView) → Later a a
later_none a = record { ends = omega arith; reads = omega arith; writes = omega arith }

pub later_more : (a b c : LinkView) → Later a b → Later b c → Later a c
later_more a b c p q = record {
  ends = let x = p.ends in let y = q.ends in omega arith;
  reads = let x = p.reads in let y = q.reads in omega arith;
  writes = let x = p.writes in let y = q.writes in omega arith;
}

-- ---- the link

pub moved_none : (a : LinkView) → Moved a a [] []
moved_none a = record { given = gains_none a.given; taken = gains_none a.taken; later = later_none a }

pub moved_wrote : (a b c : LinkView) (came written words : List ℕ) → Moved a b came written → Moved b c [] words → Moved a c came (written ++ words)
moved_wrote a b c came written words p q = record {
  given = subst (Gains a.given c.given) (append-nil came) (gains_more a.given b.given c.given came [] p.given q.given);
  taken = gains_more a.taken b.taken c.taken written words p.taken q.taken;
  later = later_more a b c p.later q.later;
}

pub moved_read : (a b c : LinkView) (came written piece : List ℕ) → Moved a b came written → Moved b c piece [] → Moved a c (came ++ piece) written
moved_read a b c came written piece p q = record {
  given = gains_more a.given b.given c.given came piece p.given q.given;
  taken = subst (Gains a.taken c.taken) (append-nil written) (gains_more a.taken b.taken c.taken written [] p.taken q.taken);
  later = later_more a b c p.later q.later;
}

-- ---- a response

line_lent : (name : List ℕ) (value : Option (Bor (List ℕ))) → optional_line name value ≡ value_line name (lent value)
line_lent name None = refl
line_lent name (Some value) = refl

abbrev whole : ℕ → List ℕ → List ℕ → List ℕ → List ℕ → List ℕ → Bool → List ℕ
whole status reason a b c body close =
    (codes "HTTP/1.1 " ++ decimal status ++ codes " " ++ reason ++ codes "\r\n"
    ++ a ++ b ++ c
    ++ (if has_no_body status then [] else length_line (length body))
    ++ (if close then codes "Connection: close\r\n" else [])
    ++ codes "\r\n")
    ++ (if has_no_body status then [] else body)

response_is : (reply : NodeReply) (reason body : List ℕ) (kind coding cache : Option (Bor (List ℕ))) (close : Bool) → reason ≡ reply.reason → body ≡ reply.body →
    lent kind ≡ reply.content_type → lent coding ≡ reply.content_encoding → lent cache ≡ reply.cache_control →
    response_bytes reply.status reason kind coding cache body close ≡ reply_bytes reply close
unfolding reply_bytes
response_is reply reason body kind coding cache close r b k e c =
    let status = reply.status in
    let one : List ℕ = optional_line (codes "Content-Type") kind in
    let two : List ℕ = optional_line (codes "Content-Encoding") coding in
    let three : List ℕ = optional_line (codes "Cache-Control") cache in
    let first : one ≡ value_line (codes "Content-Type") reply.content_type = line_lent (codes "Content-Type") kind ∙ ap (value_line (codes "Content-Type")) k in
    let second : two ≡ value_line (codes "Content-Encoding") reply.content_encoding = line_lent (codes "Content-Encoding") coding ∙ ap (value_line (codes "Content-Encoding")) e in
    let third : three ≡ value_line (codes "Cache-Control") reply.cache_control = line_lent (codes "Cache-Control") cache ∙ ap (value_line (codes "Cache-Control")) c in
    ap (λ (x : List ℕ). whole status x one two three body close) r
    ∙ ap (λ (x : List ℕ). whole status reply.reason one two three x close) b
    ∙ ap (λ (x : List ℕ). whole status reply.reason x two three reply.body close) first
    ∙ ap (λ (x : List ℕ). whole status reply.reason (value_line (codes "Content-Type") reply.content_type) x three reply.body close) second
    ∙ ap (λ (x : List ℕ). whole status reply.reason (value_line (codes "Content-Type") reply.content_type) (value_line (codes "Content-Encoding") reply.content_encoding) x reply.body close) third

pub response_told : {E : Type 0} (r : Result (List ℕ) E) (reply : NodeReply) (reason body : List ℕ) (kind coding cache : Option (Bor (List ℕ))) (close : Bool) → reason ≡ reply.reason → body ≡ reply.body →
    lent kind ≡ reply.content_type → lent coding ≡ reply.content_encoding → lent cache ≡ reply.cache_control →
    IfOk r (λ bytes. bytes ≡ response_bytes reply.status reason kind coding cache body close) → IfOk r (λ bytes. bytes ≡ reply_bytes reply close)
response_told (Ok bytes) reply reason body kind coding cache close r b k e c h = h ∙ response_is reply reason body kind coding cache close r b k e c
response_told (Err f) reply reason body kind coding cache close r b k e c h = tt

-- what is told stays
pub same_given : (a b c : Option (List ℕ)) (more : List ℕ) → Gains a b more → c ≡ b → Gains a c more
same_given a b c more h e = subst (λ t. Gains a t more) (sym e) h

-- nothing was written
pub wrote_nothing : (a : LinkView) (bytes : List ℕ) → WroteFront a a bytes
wrote_nothing a bytes = record { front = []; unwritten = bytes; are = refl; moved = moved_none a }
