-- A request that is written without the line that asks to close is read again.
use Rattle.std.proofs.Common.{◌≡◌, ℕ, ◌<◌, ◌≤◌, ◌^◌, false, nat_lt, List, [], ◌∷◌, ◌++◌, length, map, codes, Option, Some, refl, sym, ap, ◌∙◌, arith, append_assoc, append-nil, length-append, flat_map}
use Rattle.std.specs.Prelude.{decimal, All}
use Rattle.std.specs.Borrow.{Bor}
use Rattle.std.proofs.lemmas.Bool.Decides.{nat_tests}
use Rattle.std.proofs.lemmas.Grind.{flat_map-append}
use Rattle.std.proofs.lemmas.List.{take_at, drop_at, length-map, nil_from_length}
use Rattle.std.proofs.lemmas.List.Elements.{All-append}
use Rattle.httparse.specs.Grammar.{print_field, RequestHead, IsRequestHead, print_request}
use Rattle.http_frames.specs.declared.frames.FrameLimits.{FrameLimits}
use Rattle.http_frames.specs.declared.fields.Framing.TheVariants as call
use Rattle.http_frames.specs.Fields.{headers_of, values_of, first_of, call_of, limited, closes_of}
use Rattle.http_frames.specs.Frames.{IsWhole, whole_sized, framing_of}
use Rattle.http_frames.specs.Writing.{field_line, optional_line, length_line, request_head, open_request_head, open_request_bytes}
use Rattle.http_frames.specs.Written.{IsValue, IsSendableRequest, IsReadOpenRequest}
use Rattle.http_frames.proofs.LineLemmas.{print_line, field_of, IsLine, optional, now_of, IsSome, some_value, print_optional, optional_ok, print_fields, headers_back, fields_ok, values_append, lent, digits_value_ok, decimal_digits}
use Rattle.http_frames.proofs.WrittenLemmas.{token_type, token_encoding, token_length, token_host, token_accept, token_accept_encoding, called_one}
use Rattle.http_frames.proofs.WrittenRequestLemmas.{request_lines, written_request, host_value, accept_value, accept_encoding_value, type_value, encoding_value, length_value, connection_value, no_coding, few_lines}

abbrev open_lines : List ℕ → Option (List ℕ) → Option (List ℕ) → Option (List ℕ) → Option (List ℕ) → ℕ → List (List ℕ × List ℕ)
open_lines address a b c d size =
    optional (codes "Host") (Some address) ++ optional (codes "Accept") a ++ optional (codes "Accept-Encoding") b
    ++ optional (codes "Content-Type") c ++ optional (codes "Content-Encoding") d
    ++ optional (codes "Content-Length") (Some (decimal size))

-- the line that the other requests have behind these
abbrev close_line : List (List ℕ × List ℕ)
close_line = optional (codes "Connection") (Some (codes "close"))

six_printed : (a b c d e f : List (List ℕ × List ℕ)) → flat_map print_line (a ++ b ++ c ++ d ++ e ++ f)
    ≡ flat_map print_line a ++ flat_map print_line b ++ flat_map print_line c ++ flat_map print_line d ++ flat_map print_line e
    ++ flat_map print_line f
six_printed a b c d e f = simp flat_map-append

open_printed : (address method target : List ℕ) (a b c d : Option (Bor (List ℕ))) (size : ℕ)
    → print_request (written_request method target (open_lines address (now_of a) (now_of b) (now_of c) (now_of d) size))
    ≡ open_request_head address method target a b c d size
unfolding print_request
open_printed address method target a b c d size =
    let lines = open_lines address (now_of a) (now_of b) (now_of c) (now_of d) size in
    let fields : flat_map print_field (map field_of lines)
    ≡ field_line (codes "Host") address ++ optional_line (codes "Accept") a ++ optional_line (codes "Accept-Encoding") b
    ++ optional_line (codes "Content-Type") c ++ optional_line (codes "Content-Encoding") d ++ length_line size =
    print_fields lines
    ∙ six_printed (optional (codes "Host") (Some address)) (optional (codes "Accept") (now_of a)) (optional (codes "Accept-Encoding") (now_of b))
    (optional (codes "Content-Type") (now_of c)) (optional (codes "Content-Encoding") (now_of d))
    (optional (codes "Content-Length") (Some (decimal size)))
    ∙ (λ i. append-nil (field_line (codes "Host") address) i ++ print_optional (codes "Accept") a i ++ print_optional (codes "Accept-Encoding") b i
    ++ print_optional (codes "Content-Type") c i ++ print_optional (codes "Content-Encoding") d i
    ++ append-nil (length_line size) i) in
    ap (λ (t : List ℕ). [] ++ method ++ 32 ∷ target ++ 32 ∷ codes "HTTP/1.1" ++ codes "\r\n" ++ (t ++ codes "\r\n")) fields
    ∙ regroup method (codes " ") target (codes "HTTP/1.1") (codes "\r\n") (codes "Host: ") address (optional_line (codes "Accept") a)
    (optional_line (codes "Accept-Encoding") b) (optional_line (codes "Content-Type") c) (optional_line (codes "Content-Encoding") d)
    (length_line size)
  where
    regroup : (m w t v e hn ad p q r s l : List ℕ)
        → m ++ (w ++ t) ++ (w ++ v) ++ e ++ (((hn ++ ad ++ e) ++ p ++ q ++ r ++ s ++ l) ++ e)
        ≡ m ++ w ++ t ++ (w ++ v ++ e ++ hn) ++ ad ++ e ++ p ++ q ++ r ++ s ++ l ++ e
    regroup m w t v e hn ad p q r s l = simp append_assoc

-- a value of another name is the same as with the line
same_values : (name address : List ℕ) (a b c d : Option (List ℕ)) (size : ℕ) → values_of name close_line ≡ []
    → values_of name (open_lines address a b c d size) ≡ values_of name (request_lines address a b c d size)
same_values name address a b c d size none =
    sym (values_append name (open_lines address a b c d size) close_line
    ∙ ap (λ (vs : List (List ℕ)). values_of name (open_lines address a b c d size) ++ vs) none
    ∙ append-nil (values_of name (open_lines address a b c d size)))

-- and the line alone is of that name
no_connection : (address : List ℕ) (a b c d : Option (List ℕ)) (size : ℕ) → values_of (codes "connection") (open_lines address a b c d size) ≡ []
no_connection address a b c d size =
    let values = values_of (codes "connection") (open_lines address a b c d size) in
    let all : values ++ codes "close" ∷ [] ≡ codes "close" ∷ [] =
    sym (values_append (codes "connection") (open_lines address a b c d size) close_line) ∙ connection_value address a b c d size in
    nil_from_length values (omega (arith, ap length all, length-append values (codes "close" ∷ [])))

open_lines_ok : (address : List ℕ) (a b c d : Option (List ℕ)) (size : ℕ) → IsValue address → IsSome a → IsSome b → IsSome c → IsSome d
    → size < 2 ^ 64 → All IsLine (open_lines address a b c d size)
open_lines_ok address a b c d size host ao bo co do_ small =
    let one = optional (codes "Host") (Some address) in
    let two = one ++ optional (codes "Accept") a in
    let three = two ++ optional (codes "Accept-Encoding") b in
    let four = three ++ optional (codes "Content-Type") c in
    let five = four ++ optional (codes "Content-Encoding") d in
    All-append IsLine five (optional (codes "Content-Length") (Some (decimal size)))
    (All-append IsLine four (optional (codes "Content-Encoding") d)
    (All-append IsLine three (optional (codes "Content-Type") c)
    (All-append IsLine two (optional (codes "Accept-Encoding") b)
    (All-append IsLine one (optional (codes "Accept") a)
    (optional_ok (codes "Host") (Some address) token_host host) (optional_ok (codes "Accept") a token_accept ao))
    (optional_ok (codes "Accept-Encoding") b token_accept_encoding bo)) (optional_ok (codes "Content-Type") c token_type co))
    (optional_ok (codes "Content-Encoding") d token_encoding do_))
    (optional_ok (codes "Content-Length") (Some (decimal size)) token_length (digits_value_ok (decimal size) (decimal_digits size small)))

few_open_lines : (address : List ℕ) (a b c d : Option (List ℕ)) (size : ℕ) → length (map field_of (open_lines address a b c d size)) ≤ 100
few_open_lines address a b c d size =
    omega (
      arith,
      few_lines address a b c d size,
      length-map (request_lines address a b c d size) field_of,
      length-map (open_lines address a b c d size) field_of,
      length-append (open_lines address a b c d size) close_line,
    )

-- the head is the shorter one
shorter : (address method target : List ℕ) (a b c d : Option (Bor (List ℕ))) (size : ℕ)
    → length (open_request_head address method target a b c d size) ≤ length (request_head address method target a b c d size)
shorter address method target a b c d size =
    let front = method ++ codes " " ++ target ++ codes " HTTP/1.1\r\nHost: " ++ address ++ codes "\r\n" ++ optional_line (codes "Accept") a
    ++ optional_line (codes "Accept-Encoding") b ++ optional_line (codes "Content-Type") c ++ optional_line (codes "Content-Encoding") d
    ++ length_line size in
    omega (arith, length-append front (codes "\r\n"), length-append front (codes "Connection: close\r\n\r\n"))

-- with no such line a request of HTTP/1.1 doesn't ask to close
none_stays : (headers : List (List ℕ × List ℕ)) → values_of (codes "connection") headers ≡ [] → closes_of 1 headers ≡ false
none_stays headers e = rw e refl

pub open_request_read : (limits : FrameLimits) (address method target : List ℕ) (a b c d : Option (Bor (List ℕ))) (body behind : List ℕ)
    → IsSendableRequest limits address method target a b c d body
    → (h : RequestHead) × IsWhole limits (open_request_bytes address method target a b c d body ++ behind) h (body ∷ []) behind
    × IsReadOpenRequest h address method target a b c d
open_request_read limits address method target a b c d body behind x =
    let size = length body in
    let av = now_of a in
    let bv = now_of b in
    let cv = now_of c in
    let dv = now_of d in
    let lines = open_lines address av bv cv dv size in
    let h = written_request method target lines in
    let ok = open_lines_ok address av bv cv dv size x.address_is (some_value a x.accept_is) (some_value b x.accept_encoding_is)
    (some_value c x.type_is) (some_value d x.encoding_is) x.body_fits.1 in
    let headers : headers_of h ≡ lines = headers_back lines ok in
    let is_head : IsRequestHead h = record {
      method = x.method_is;
      target = (x.target_is.0, x.target_is.1);
      target_text = x.target_is.2;
      minor = omega arith;
      fields = fields_ok lines ok;
    } in
    let printed : print_request h ≡ open_request_head address method target a b c d size = open_printed address method target a b c d size in
    let text : open_request_bytes address method target a b c d body ++ behind ≡ print_request h ++ (body ++ behind) =
    append_assoc (open_request_head address method target a b c d size) body behind
    ∙ ap (λ (t : List ℕ). t ++ (body ++ behind)) (sym printed) in
    let called : call_of (headers_of h) ≡ call.Sized size =
    ap call_of headers
    ∙ called_one lines size x.body_fits.1
    (same_values (codes "transfer-encoding") address av bv cv dv size refl ∙ no_coding address av bv cv dv size)
    (same_values (codes "content-length") address av bv cv dv size refl ∙ length_value address av bv cv dv size) in
    let within : nat_lt limits.body size ≡ false = let fits = x.body_fits.0 in grind (arith, nat_tests) in
    let framed : framing_of limits h ≡ call.Sized size = ap (limited limits.body) called ∙ rw within refl in
    let value : (name : List ℕ) → values_of name close_line ≡ []
    → values_of name (headers_of h) ≡ values_of name (request_lines address av bv cv dv size) =
    λ name none. ap (λ (hs : List (List ℕ × List ℕ)). values_of name hs) headers ∙ same_values name address av bv cv dv size none in (
      h,
      whole_sized (body ++ behind) size
          (((is_head, text), few_open_lines address av bv cv dv size), omega (arith, x.head_fits, ap length printed, shorter address method target a b c d size))
          framed (omega (arith, length-append body behind)) (ap (λ (t : List ℕ). t ∷ []) (sym (take_at body behind size refl)))
          (sym (drop_at body behind size refl)),
      record {
        method_is = refl;
        target_is = refl;
        minor_is = refl;
        host_is = ap first_of (value (codes "host") refl ∙ host_value address av bv cv dv size);
        accept_is = lent a _ (value (codes "accept") refl ∙ accept_value address av bv cv dv size);
        accept_encoding_is = lent b _ (value (codes "accept-encoding") refl ∙ accept_encoding_value address av bv cv dv size);
        type_is = lent c _ (value (codes "content-type") refl ∙ type_value address av bv cv dv size);
        encoding_is = lent d _ (value (codes "content-encoding") refl ∙ encoding_value address av bv cv dv size);
        stays_is = ap (closes_of 1) headers ∙ none_stays lines (no_connection address av bv cv dv size);
      },
    )
