-- Which team a block belongs to is told by its bytes.
use Rattle.std.proofs.Common.{◌≡◌, ℕ, Bool, true, false, cond, List, [], ◌∷◌, map, refl, sym, ap, ap₂, subst, ◌∙◌}
use Rattle.std.specs.Prelude.{Option, None, Some}
use Rattle.httparse.specs.Grammar.{RequestHead}
use Rattle.http_frames.specs.declared.frames.FrameLimits.{FrameLimits}
use Rattle.http_frames.specs.declared.frames.TheConstants.{LIMITS}
use Rattle.http_frames.specs.Frames.{IsAccepted}
use Rattle.grid_play.specs.Talks.{Standing}
use Rattle.grid_teams.specs.Naming.{IsTeamName, named_by}
use Rattle.grid_teams.specs.Places.{place_of}
use Rattle.grid_teams.specs.declared.naming.TeamName.{TeamName}
use Rattle.grid_teams.specs.declared.naming.TeamName.TheVariants as team
use Rattle.team_words.specs.declared.team_play.TeamPlay.{TeamPlay}
use Rattle.grid_teams_top.specs.Apart.{ServesAll, blocks_of, is_team}
use Rattle.grid_teams_top.specs.Blocks.{AllWhose, ServesBlocks}
use Rattle.grid_teams_top.specs.Play.{Block, IsWhose, Serves, TeamsAreApart, Unserved, names_of, place_named}
use Rattle.grid_teams_run.specs.Laws.{SameForTeam, team_blocks}

module _ (one : (limits : FrameLimits) (buf : List ℕ) (h : RequestHead) (k : RequestHead) → IsAccepted limits buf h → IsAccepted limits buf k → h ≡ k) where
  some_one : (a b : List ℕ) → Some a ≡ Some b → a ≡ b
  some_one a b e = cc

  not_some : (a : List ℕ) → Some a ≡ None → ⊥
  not_some a e = cc

  named_one : (names : List (List ℕ)) (bytes : List ℕ) (m n : TeamName) → IsTeamName LIMITS bytes m → IsTeamName LIMITS bytes n → place_named names m ≡ place_named names n
  named_one names bytes (team.Named a) (team.Named b) (h, x, e) (k, y, f) =
      ap (λ (n : List ℕ). place_of n names) (some_one a.now b.now (sym e ∙ ap named_by (one LIMITS bytes h k x y) ∙ f))
  named_one names bytes (team.Named a) team.Unnamed (h, x, e) (k, y, f) = absurd (not_some a.now (sym e ∙ ap named_by (one LIMITS bytes h k x y) ∙ f))
  named_one names bytes (team.Named a) team.NoHead (h, x, e) never = absurd (never h x)
  named_one names bytes team.Unnamed (team.Named b) (h, x, e) (k, y, f) = absurd (not_some b.now (sym f ∙ ap named_by (one LIMITS bytes k h y x) ∙ e))
  named_one names bytes team.Unnamed team.Unnamed p q = refl
  named_one names bytes team.Unnamed team.NoHead (h, x, e) never = absurd (never h x)
  named_one names bytes team.NoHead (team.Named b) never (k, y, f) = absurd (never k y)
  named_one names bytes team.NoHead team.Unnamed never (k, y, f) = absurd (never k y)
  named_one names bytes team.NoHead team.NoHead p q = refl

  block_one : (names : List (List ℕ)) (b c : Block) → b.bytes ≡ c.bytes → IsWhose names b → IsWhose names c → b ≡ c
  block_one names b c e x y =
      let named = subst (λ (bs : List ℕ). IsTeamName LIMITS bs x.name) e x.named in
      let place = x.place_is ∙ named_one names c.bytes x.name y.name named y.named ∙ sym y.place_is in
      ap₂ (λ (p : Option ℕ) (bs : List ℕ). record { place = p; bytes = bs }) place e

  head_one : {x y : List ℕ} {xs ys : List (List ℕ)} → x ∷ xs ≡ y ∷ ys → x ≡ y
  head_one e = cc

  tail_one : {x y : List ℕ} {xs ys : List (List ℕ)} → x ∷ xs ≡ y ∷ ys → xs ≡ ys
  tail_one e = cc

  blocks_one : (names : List (List ℕ)) (bs cs : List Block) → map (λ (b : Block). b.bytes) bs ≡ map (λ (b : Block). b.bytes) cs → AllWhose names bs → AllWhose names cs → bs ≡ cs
  blocks_one names [] [] e x y = refl
  blocks_one names [] (c ∷ cs) e x y = cc
  blocks_one names (b ∷ bs) [] e x y = cc
  blocks_one names (b ∷ bs) (c ∷ cs) e x y =
      ap₂ (λ (d : Block) (ds : List Block). d ∷ ds) (block_one names b c (head_one e) x.0 y.0) (blocks_one names bs cs (tail_one e) x.1 y.1)

  module _ (said : List TeamPlay) (t : ℕ) where
    kept : (names : List (List ℕ)) (b : Block) (bs : List Block) (is : Bool) → IsWhose names b → AllWhose names bs → AllWhose names (cond is (b ∷ bs) bs)
    kept names b bs true x y = (x, y)
    kept names b bs false x y = y

    own_whose : (names : List (List ℕ)) (bs : List Block) → AllWhose names bs →
        AllWhose names (blocks_of (Serves said) (λ (b : Block). b.place) (Unserved (names_of said)) t bs)
    own_whose names [] x = tt
    own_whose names (b ∷ bs) x =
        kept names b (blocks_of (Serves said) (λ (c : Block). c.place) (Unserved (names_of said)) t bs) (is_team t b.place) x.0 (own_whose names bs x.1)

  pub same_for_team : TeamsAreApart → (said : List TeamPlay) (t : ℕ) (first last alone : ℕ → Standing) (blocks outs others : List (List ℕ)) →
      (all : ServesBlocks said first blocks outs last) → ServesBlocks said first (team_blocks said t all.blocks) others alone → SameForTeam said t all others alone
  same_for_team apart said t first last alone blocks outs others all own =
      let mine = blocks_of (Serves said) (λ (b : Block). b.place) (Unserved (names_of said)) t all.blocks in
      let same : own.blocks ≡ mine = blocks_one (names_of said) own.blocks mine own.bytes_are own.whose (own_whose said t (names_of said) all.blocks all.whose) in
      let served = subst (λ (bs : List Block). ServesAll (Serves said) (λ (b : Block). b.place) (Unserved (names_of said)) first bs others alone) same own.serves in
      let r = apart said t first last alone all.blocks outs others all.serves served in
      record { outs_are = r.outs_are; stands = r.stands }
