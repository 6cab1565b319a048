-- What words say, and what a status tells.
use Rattle.std.proofs.Common.{◌≡◌, ◌⊎◌, inl, inr, ℕ, ◌^◌, ◌<◌, ◌≤◌, Bool, true, false, List, [], ◌∷◌, length, refl, sym, ap, subst, ◌∙◌, arith}
use Rattle.std.proofs.lemmas.Bool.{and_parts}
use Rattle.std.proofs.lemmas.Fmt.{decimal_injective}
use Rattle.std.specs.Prelude.{Option, None, Some, Result, Ok, Err, nat_le, codes, decimal}
use Rattle.grid_outside.specs.Counts.{Rose}
use Rattle.grid_outside.specs.Told.{LinkView, SinkView}
use Rattle.grid_types.specs.declared.config.HubConfig.{HubConfig}
use Rattle.grid_types.specs.Config.{IsValid}
use Rattle.conn_script.specs.declared.wants.ConnFault.{ConnFault}
use Rattle.conn_script.specs.declared.wants.ConnFault.TheVariants as faults
use Rattle.conn_script.specs.declared.wants.End.{End}
use Rattle.conn_script.specs.declared.wants.End.TheVariants as ends
use Rattle.conn_script.specs.declared.wants.Served.{Served}
use Rattle.hub_conn.specs.Talk.{result_cause}
use Rattle.hub_links.specs.Links.{RoseFor}
use Rattle.loop_node.specs.Sizes.{short_texts}
use Rattle.play_words.specs.declared.play.PlayNode.{PlayNode}
use Rattle.play_words.specs.Node.{is_browser, begins_with_letter, SaysVersion}
use Rattle.play_words.specs.Options.{SaysTimeout}
use Rattle.play_words.specs.Words.{IsSimulate, OnePlay, Plays, SaysNode, SaysNodes}
use Rattle.grid_play.specs.Crew.{AllFit, IsFit, loop_node_of}
use Rattle.grid_simulate.specs.Writing.{WroteAll, BrokeOff}
use Rattle.grid_play.specs.Ran.{Ran, Summed, end_status, status_of}

-- ---- the words of a play

short_length : (text : List ℕ) → length text ≤ 32 → nat_le (length text) 65536 ≡ true
short_length text h = by_test (nat_le (length text) 65536) refl
  where
    by_test : (b : Bool) → nat_le (length text) 65536 ≡ b → b ≡ true
    by_test true e = refl
    by_test false e = let far : 65536 < length text = grind arith in absurd (omega (arith, far, h))

at_most : (n m : ℕ) → nat_le n m ≡ true → n ≤ m
at_most n m e = grind (arith, e)

browser_short : (name : List ℕ) → is_browser name ≡ true → length name ≤ 32
browser_short name e =
    at_most (length name) 32 (and_parts (begins_with_letter name) (nat_le (length name) 32) (and_parts _ _ e).0).1

version_short : (part version : List ℕ) → SaysVersion part version → length version ≤ 32
version_short [] version e = subst (λ (v : List ℕ). length v ≤ 32) (sym e) (omega arith)
version_short (sign ∷ text) version e =
    at_most (length version) 32 (and_parts (nat_le 1 (length version)) (nat_le (length version) 32) (and_parts _ _ e.2).0).1

pub node_fits : (word slots : List ℕ) (node : PlayNode) → SaysNode word slots node → IsFit node
node_fits word slots node s = record {
  least = s.least;
  most = s.most;
  short = both (short_length node.browser (browser_short node.browser s.word_is.browser_is))
      (short_length node.version (version_short s.word_is.version_part node.version s.word_is.version_is));
}
  where
    both : nat_le (length node.browser) 65536 ≡ true → nat_le (length node.version) 65536 ≡ true → short_texts (loop_node_of 0 node) ≡ true
    both p q = rw (p, q) refl

all_fit : (words : List (List ℕ)) (nodes : List PlayNode) → SaysNodes words nodes → AllFit nodes
all_fit words [] s = tt
all_fit [] (node ∷ nodes) s = absurd s
all_fit (word ∷ []) (node ∷ nodes) s = absurd s
all_fit (word ∷ slots ∷ words) (node ∷ nodes) s = (node_fits word slots node s.0, all_fit words nodes s.1)

pub plays_fit : (words : List (List ℕ)) (c : HubConfig) (nodes : List PlayNode) → Plays words c nodes → AllFit nodes
plays_fit words c nodes p = all_fit p.node_words nodes p.crew.nodes_are

pub plays_few : (words : List (List ℕ)) (c : HubConfig) (nodes : List PlayNode) → Plays words c nodes → length nodes < 2 ^ 16
plays_few words c nodes p = omega (arith, p.crew.few)

timeout_within : (o : Option (List ℕ)) (ms : ℕ) → SaysTimeout o ms → (1_000 ≤ ms) × (ms ≤ 86_400_000)
timeout_within None ms e = (omega (arith, e), omega (arith, e))
timeout_within (Some word) ms e = (omega (arith, e.4, e.2), omega (arith, e.4, e.3))

pub plays_valid : (words : List (List ℕ)) (c : HubConfig) (nodes : List PlayNode) → Plays words c nodes → IsValid c
plays_valid words c nodes p =
    let time = timeout_within p.timeout c.timeout_ms p.timeout_is in
    subst IsValid (sym p.others) (record {
      timeout_least = time.0;
      timeout_most = time.1;
      idle_least = omega arith;
      idle_most = omega arith;
      lapse_least = omega arith;
      lapse_most = omega arith;
      queue_least = omega arith;
      queue_most = omega arith;
      first_node = omega arith;
      first_request = omega arith;
      down_least = omega arith;
      down_most = omega arith;
    })

-- ---- a play and a simulation

pub not_both : (words : List (List ℕ)) (c : HubConfig) (nodes : List PlayNode) (number : ℕ) → Plays words c nodes → IsSimulate words number → ⊥
not_both words c nodes number p s = differ (ap (λ (ws : List (List ℕ)). head ws) (sym p.words_are ∙ s))
  where
    head : List (List ℕ) → List ℕ
    head [] = []
    head (w ∷ ws) = w

    differ : codes "play" ≡ codes "simulate" → ⊥
    differ e = cc

pub one_number : (words : List (List ℕ)) (n m : ℕ) → n < 2 ^ 64 → m < 2 ^ 64 → IsSimulate words n → IsSimulate words m → n ≡ m
one_number words n m small less p q = decimal_injective n m small less (second (sym p ∙ q))
  where
    second : codes "simulate" ∷ decimal n ∷ [] ≡ codes "simulate" ∷ decimal m ∷ [] → decimal n ≡ decimal m
    second e = cc

-- ---- statuses

end_class : (e : End) (b : Bool) → (end_status e b ≡ 0) ⊎ ((end_status e b ≡ 5) ⊎ (end_status e b ≡ 6))
end_class ends.Limit b = inr (inr refl)
end_class ends.Closed true = inr (inl refl)
end_class ends.Closed false = inl refl
end_class ends.Asked true = inr (inl refl)
end_class ends.Asked false = inl refl
end_class (ends.Refused why at) true = inr (inl refl)
end_class (ends.Refused why at) false = inl refl
end_class (ends.Cut at) true = inr (inl refl)
end_class (ends.Cut at) false = inl refl
end_class ends.HubSpent true = inr (inl refl)
end_class ends.HubSpent false = inl refl

abbrev pub IsStatus : ℕ → Type 0
IsStatus status = (status ≡ 0) ⊎ ((2 < status) × (status < 7))

pub is_status : (r : Result Served ConnFault) → IsStatus (status_of r)
is_status (Ok served) = by_class (end_class served.end served.short)
  where
    by_class : (end_status served.end served.short ≡ 0) ⊎ ((end_status served.end served.short ≡ 5) ⊎ (end_status served.end served.short ≡ 6)) →
        IsStatus (end_status served.end served.short)
    by_class (inl e) = inl e
    by_class (inr (inl e)) = inr (omega (arith, e), omega (arith, e))
    by_class (inr (inr e)) = inr (omega (arith, e), omega (arith, e))
is_status (Err faults.Read) = inr (omega arith, omega arith)
is_status (Err faults.Write) = inr (omega arith, omega arith)
is_status (Err faults.Memory) = inr (omega arith, omega arith)

not_so : (e : End) (b : Bool) (n : ℕ) → 0 < n → n < 5 → end_status e b ≡ n → ⊥
not_so e b n some few is = by_class (end_class e b)
  where
    by_class : (end_status e b ≡ 0) ⊎ ((end_status e b ≡ 5) ⊎ (end_status e b ≡ 6)) → ⊥
    by_class (inl d) = omega (arith, is, d, some)
    by_class (inr (inl d)) = omega (arith, is, d, few)
    by_class (inr (inr d)) = omega (arith, is, d, few)

pub read_told : (r : Result Served ConnFault) (l m : LinkView) → status_of r ≡ 3 → RoseFor (result_cause r) l m → Rose l.read_faults m.read_faults
read_told (Ok served) l m e blames = absurd (not_so served.end served.short 3 (omega arith) (omega arith) e)
read_told (Err faults.Read) l m e blames = blames
read_told (Err faults.Write) l m e blames = absurd (omega (arith, e))
read_told (Err faults.Memory) l m e blames = absurd (omega (arith, e))

pub write_told : (r : Result Served ConnFault) (l m : LinkView) → status_of r ≡ 4 → RoseFor (result_cause r) l m → Rose l.write_faults m.write_faults
write_told (Ok served) l m e blames = absurd (not_so served.end served.short 4 (omega arith) (omega arith) e)
write_told (Err faults.Read) l m e blames = absurd (omega (arith, e))
write_told (Err faults.Write) l m e blames = blames
write_told (Err faults.Memory) l m e blames = absurd (omega (arith, e))

-- what was served is what the words say
pub same_ran : OnePlay → (words : List (List ℕ)) (c d : HubConfig) (nodes others : List PlayNode) (status : ℕ) (l m : LinkView) →
    Plays words c nodes → Ran c nodes status l m → Plays words d others → Ran d others status l m
same_ran one words c d nodes others status l m p ran q =
    let same = one words c d nodes others p q in
    subst (λ (x : HubConfig). Ran x others status l m) same.same_config (subst (λ (x : List PlayNode). Ran c x status l m) same.same_nodes ran)

pub same_ran_at : OnePlay → (words : List (List ℕ)) (c d : HubConfig) (nodes listed others : List PlayNode) (status : ℕ) (l m : LinkView) →
    Plays words c nodes → listed ≡ nodes → Ran c listed status l m → Plays words d others → Ran d others status l m
same_ran_at one words c d nodes listed others status l m p e ran q =
    same_ran one words c d nodes others status l m p (subst (λ (x : List PlayNode). Ran c x status l m) e ran) q

pub not_two : (n : ℕ) → IsStatus n → n ≡ 2 → ⊥
not_two n (inl e) d = omega (arith, e, d)
not_two n (inr h) d = omega (arith, h.0, d)

pub is_any_status : (n : ℕ) → IsStatus n → (n ≡ 0) ⊎ ((2 ≤ n) × (n < 7))
is_any_status n (inl e) = inl e
is_any_status n (inr h) = inr (omega (arith, h.0), h.1)

-- ---- a simulation

abbrev pub IsSumStatus : ℕ → Type 0
IsSumStatus n = (n ≡ 0) ⊎ ((n ≡ 4) ⊎ (n ≡ 5))

pub sum_not : (n m : ℕ) → IsSumStatus n → 0 < m → m < 4 → n ≡ m → ⊥
sum_not n m (inl e) some few d = omega (arith, e, d, some)
sum_not n m (inr (inl e)) some few d = omega (arith, e, d, few)
sum_not n m (inr (inr e)) some few d = omega (arith, e, d, few)

pub sum_any_status : (n : ℕ) → IsSumStatus n → (n ≡ 0) ⊎ ((2 ≤ n) × (n < 7))
sum_any_status n (inl e) = inl e
sum_any_status n (inr (inl e)) = inr (omega (arith, e), omega (arith, e))
sum_any_status n (inr (inr e)) = inr (omega (arith, e), omega (arith, e))

pub summed_of : (number n status : ℕ) (old new : SinkView) → number ≡ n → IsSumStatus status → (status ≡ 0 → WroteAll number old.taken new.taken) →
    (status ≡ 4 → BrokeOff number old.taken new.taken) → (status ≡ 4 → Rose old.faults new.faults) → (status ≡ 5 → new.taken ≡ old.taken) → Summed n status old new
summed_of number n status old new same is whole broken cause nothing =
    subst (λ (k : ℕ). Summed k status old new) same
    (record { statuses = is; whole = whole; broken = λ e. (broken e, cause e); nothing = nothing })
