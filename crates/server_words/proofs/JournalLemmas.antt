-- Words that tell no journal.
use Rattle.std.proofs.Common.{◌≡◌, ◌∙◌, List, false, true, ap, sym}
use Rattle.clap.specs.Words.{Text}
use Rattle.server_words.specs.Journals.{TellsJournal, is_sync, sync_said}

never : false ≡ true → ⊥
never e = cc

pub no_sync : (text : Text) (words : List Text) → text ≡ sync_said words → is_sync text ≡ false → TellsJournal words → ⊥
no_sync text words same wrong tells = never (sym wrong ∙ (ap is_sync same ∙ tells.sync))
