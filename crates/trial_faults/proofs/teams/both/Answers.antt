use Rattle.std.proofs.Common.{◌∙◌, [], ◌∷◌, subst, sym}
use Rattle.grid_teams_shared.specs.Teams.{PassesAre, passes_of}
use Rattle.trial_faults.proofs.teams.both.Goals as goal

pub returns : goal.returns
returns c =
    subst (λ teams. PassesAre teams (passes_of c.new-2.result)) (sym (c.new.ensures ∙ c.paired.ensures))
    (subst (λ passes. PassesAre (c.args.first ∷ c.args.second ∷ []) passes) (sym (c.new-2.ensures ∙ c.paired-2.ensures))
    (c.requires.own.0, (c.requires.own.1, tt)))
