-- What a node replied, passed on.
use Rattle.std.proofs.Common.{◌≡◌, ℕ, Bool, List, refl, ◌∙◌}
use Rattle.std.specs.Prelude.{Result, Ok, Err, Option, None, Some, IfOk}
use Rattle.std.specs.Borrow.{Bor}
use Rattle.http_frames.specs.Writing.{response_bytes}
use Rattle.http_frames.specs.declared.replies.NodeReply.{NodeReply}
use Rattle.grid_types.specs.declared.text.NoMemory.{NoMemory}
use Rattle.grid_outside.specs.Exchanges.{lent}
use Rattle.conn_script.specs.Responses.{response_text, passed_text}

lent_bytes : (status : ℕ) (reason : List ℕ) (a b d : Option (Bor (List ℕ))) (body : List ℕ) (close : Bool) →
    response_bytes status reason a b d body close ≡ response_text status reason (lent a) (lent b) (lent d) body close
unfolding response_text
lent_bytes status reason None None None body close = refl
lent_bytes status reason None None (Some z) body close = refl
lent_bytes status reason None (Some y) None body close = refl
lent_bytes status reason None (Some y) (Some z) body close = refl
lent_bytes status reason (Some x) None None body close = refl
lent_bytes status reason (Some x) None (Some z) body close = refl
lent_bytes status reason (Some x) (Some y) None body close = refl
lent_bytes status reason (Some x) (Some y) (Some z) body close = refl

same_parts : (reply : NodeReply) (close : Bool) (reason body : List ℕ) (a b d : Option (List ℕ)) → reason ≡ reply.reason → body ≡ reply.body →
    a ≡ reply.content_type → b ≡ reply.content_encoding → d ≡ reply.cache_control → response_text reply.status reason a b d body close ≡ passed_text reply close
same_parts reply close reason body a b d p q e f g = cc

pub passed_ok : (r : Result (List ℕ) NoMemory) (reply : NodeReply) (close : Bool) (reason body : List ℕ) (a b d : Option (Bor (List ℕ))) → reason ≡ reply.reason → body ≡ reply.body →
    lent a ≡ reply.content_type → lent b ≡ reply.content_encoding → lent d ≡ reply.cache_control →
    IfOk r (λ bytes. bytes ≡ response_bytes reply.status reason a b d body close) → IfOk r (λ bytes. bytes ≡ passed_text reply close)
passed_ok (Ok bytes) reply close reason body a b d p q e f g h =
    h ∙ lent_bytes reply.status reason a b d body close ∙ same_parts reply close reason body (lent a) (lent b) (lent d) p q e f g
passed_ok (Err w) reply close reason body a b d p q e f g h = tt
