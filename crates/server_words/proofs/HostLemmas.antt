-- Which texts write an address.
use Rattle.std.proofs.Common.{◌≡◌, ◌++◌, ℕ, List, sym, ◌∙◌, subst, inl, inr}
use Rattle.std.specs.Prelude.{Err, IfOk, Ok, Result, codes}
use Rattle.std.specs.Net.Grammar.{IsIpText, IsIpv6Text}
use Rattle.std.specs.declared.net.ip_addr.IpAddr.{IpAddr}
use Rattle.std.specs.declared.net.ip_addr.IpAddr.TheVariants as Ip
use Rattle.std.specs.declared.net.ipv6_addr.Ipv6Addr.{Ipv6Addr}
use Rattle.std.proofs.lemmas.List.{append_cancel_left, append_cancel_right}
use Rattle.server_words.specs.Hosts.{IsBracketed, IsHostText}

pub not_bracketed : (text inner : List ℕ) → text ≡ codes "[" ++ (inner ++ codes "]")
    → ((ip : Ipv6Addr) → ¬ (IsIpv6Text inner ip)) → (ip : Ipv6Addr) → ¬ (IsBracketed text ip)
not_bracketed text inner e none ip h =
    let front = append_cancel_left (codes "[") (h.0 ++ codes "]") (inner ++ codes "]") (sym h.1 ∙ e) in
    let same : h.0 ≡ inner = append_cancel_right h.0 inner (codes "]") front in
    none ip (subst (λ (t : List ℕ). IsIpv6Text t ip) same h.2)

pub host_of : (text : List ℕ) (ip : IpAddr) → IsIpText text ip → IsHostText text ip
host_of text (Ip.V4 ip) h = h
host_of text (Ip.V6 ip) h = inl h

pub no_host : (text : List ℕ) → ((ip : IpAddr) → ¬ (IsIpText text ip))
    → ((ip : Ipv6Addr) → ¬ (IsBracketed text ip)) → (ip : IpAddr) → ¬ (IsHostText text ip)
no_host text plain bracketed (Ip.V4 ip) h = plain (Ip.V4 ip) h
no_host text plain bracketed (Ip.V6 ip) (inl h) = plain (Ip.V6 ip) h
no_host text plain bracketed (Ip.V6 ip) (inr h) = bracketed ip h

pub always : {T E : Type 0} (r : Result T E) (P : Type 0) → P → IfOk r (λ _. P)
always (Ok x) P p = p
always (Err e) P p = tt
