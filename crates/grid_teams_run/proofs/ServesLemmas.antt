-- Blocks that are served, and one more behind them.
use Rattle.std.proofs.Common.{◌≡◌, ℕ, ◌<◌, ◌≤◌, ◌^◌, List, [], ◌∷◌, ◌++◌, length, map, refl, sym, ap, ap₂, subst, ◌∙◌, append_assoc, append-nil}
use Rattle.std.specs.Prelude.{Option, None, Some}
use Rattle.block_frames.specs.Frames.{frame, framed}
use Rattle.grid_play.specs.Talks.{Standing}
use Rattle.team_words.specs.declared.team_play.TeamPlay.{TeamPlay}
use Rattle.grid_teams_top.specs.Apart.{ServesAll, ServesOne}
use Rattle.grid_teams_top.specs.Blocks.{AllShort, AllWhose, ServesBlock}
use Rattle.grid_teams_top.specs.declared.playing.TheConstants.{MOST_BLOCK_BYTES}
use Rattle.grid_teams_top.specs.Play.{Block, IsWhose, Serves, Unserved, names_of}
use Rattle.grid_teams_run.specs.Running.{AllSized, HasServed}

module _ {S B O : Type 0} (serves : ℕ → S → B → O → S → Type 0) (whose : B → Option ℕ) (answers : B → O → Type 0) where
  one_from : (old first new : ℕ → S) (w : Option ℕ) (b : B) (o : O) → ((t : ℕ) → old t ≡ first t) → ServesOne serves whose answers old w b o new →
      ServesOne serves whose answers first w b o new
  one_from old first new None b o e h = (h.0, λ t. h.1 t ∙ e t)
  one_from old first new (Some t) b o e h = (subst (λ (s : S). serves t s b o (new t)) (e t) h.0, λ u ne. h.1 u ne ∙ e u)

  pub all_from : (old first new : ℕ → S) (bs : List B) (os : List O) → ((t : ℕ) → old t ≡ first t) → ServesAll serves whose answers old bs os new →
      ServesAll serves whose answers first bs os new
  all_from old first new [] [] e h = λ t. h t ∙ e t
  all_from old first new [] (o ∷ os) e h = absurd h
  all_from old first new (b ∷ bs) [] e h = absurd h
  all_from old first new (b ∷ bs) (o ∷ os) e h = (h.0, one_from old first h.0 (whose b) b o e h.1, h.2)

  pub all_then : (old mid new : ℕ → S) (bs : List B) (os : List O) (b : B) (o : O) → ServesAll serves whose answers old bs os mid →
      ServesOne serves whose answers mid (whose b) b o new → ServesAll serves whose answers old (bs ++ b ∷ []) (os ++ o ∷ []) new
  all_then old mid new [] [] b o h k = (new, one_from mid old new (whose b) b o h k, λ t. refl)
  all_then old mid new [] (p ∷ os) b o h k = absurd h
  all_then old mid new (a ∷ bs) [] b o h k = absurd h
  all_then old mid new (a ∷ bs) (p ∷ os) b o h k = (h.0, h.1, all_then h.0 mid new bs os b o h.2 k)

map_more : (bs : List Block) (b : Block) → map (λ (c : Block). c.bytes) (bs ++ b ∷ []) ≡ map (λ (c : Block). c.bytes) bs ++ b.bytes ∷ []
map_more [] b = refl
map_more (a ∷ bs) b = ap (λ (xs : List (List ℕ)). a.bytes ∷ xs) (map_more bs b)

whose_more : (names : List (List ℕ)) (bs : List Block) (b : Block) → AllWhose names bs → IsWhose names b → AllWhose names (bs ++ b ∷ [])
whose_more names [] b x y = (y, tt)
whose_more names (a ∷ bs) b x y = (x.0, whose_more names bs b x.1 y)

short_more : (bs : List (List ℕ)) (b : List ℕ) → AllShort bs → length b ≤ MOST_BLOCK_BYTES → AllShort (bs ++ b ∷ [])
short_more [] b x y = (y, tt)
short_more (a ∷ bs) b x y = (x.0, short_more bs b x.1 y)

sized_more : (bs : List (List ℕ)) (b : List ℕ) → AllSized bs → length b < 2 ^ 32 → AllSized (bs ++ b ∷ [])
sized_more [] b x y = (y, tt)
sized_more (a ∷ bs) b x y = (x.0, sized_more bs b x.1 y)

pub framed_more : (bs : List (List ℕ)) (b : List ℕ) → framed (bs ++ b ∷ []) ≡ framed bs ++ frame b
framed_more [] b = append-nil (frame b)
framed_more (a ∷ bs) b = ap (λ (xs : List ℕ). frame a ++ xs) (framed_more bs b) ∙ sym (append_assoc (frame a) (framed bs) (frame b))

module _ (said : List TeamPlay) (first : ℕ → Standing) where
  pub served_more : (mid new : ℕ → Standing) (bs os : List (List ℕ)) (b o : List ℕ) → HasServed said first bs os mid → ServesBlock said mid b o new →
      length b ≤ MOST_BLOCK_BYTES → length o < 2 ^ 32 → HasServed said first (bs ++ b ∷ []) (os ++ o ∷ []) new
  served_more mid new bs os b o x y short sized = record {
    serves = record {
      blocks = x.serves.blocks ++ y.block ∷ [];
      bytes_are = map_more x.serves.blocks y.block ∙ ap₂ (λ (cs : List (List ℕ)) (c : List ℕ). cs ++ c ∷ []) x.serves.bytes_are y.bytes_are;
      whose = whose_more (names_of said) x.serves.blocks y.block x.serves.whose y.whose;
      serves = all_then (Serves said) (λ (c : Block). c.place) (Unserved (names_of said)) first mid new x.serves.blocks os y.block o x.serves.serves y.serves;
    };
    short = short_more bs b x.short short;
    sized = sized_more os o x.sized sized;
  }

  pub served_none : HasServed said first [] [] first
  served_none = record { serves = record { blocks = []; bytes_are = refl; whose = tt; serves = λ t. refl }; short = tt; sized = tt }

  pub served_from : (old last : ℕ → Standing) (bs os : List (List ℕ)) → ((t : ℕ) → old t ≡ first t) → HasServed said old bs os last → HasServed said first bs os last
  served_from old last bs os e x = record {
    serves = record {
      blocks = x.serves.blocks;
      bytes_are = x.serves.bytes_are;
      whose = x.serves.whose;
      serves = all_from (Serves said) (λ (c : Block). c.place) (Unserved (names_of said)) old first last x.serves.blocks os e x.serves.serves;
    };
    short = x.short;
    sized = x.sized;
  }
