-- The driver as a node.
use Rattle.std.specs.Prelude.{ℕ, List, [], ◌∷◌, ◌++◌, None, codes}
use Rattle.grid_types.specs.declared.capabilities.Cap.{Cap}
use Rattle.grid_types.specs.declared.capabilities.CapValue.TheVariants as value
use Rattle.grid_types.specs.declared.capabilities.Registration.{Registration}
use Rattle.server_words.specs.declared.attach.AttachWords.{AttachWords}

abbrev pub text_cap : List ℕ → List ℕ → Cap
text_cap name text = record { name = name; value = value.Text text }

-- what is told where the text is not empty
abbrev pub told_cap : List ℕ → List ℕ → List Cap
told_cap name [] = []
told_cap name (b ∷ bs) = text_cap name (b ∷ bs) ∷ []

-- what each of its slots offers, with this version of the browser
abbrev pub offered : AttachWords → List ℕ → List Cap
offered said version =
    text_cap (codes "browserName") said.browser ∷ []
    ++ told_cap (codes "browserVersion") version
    ++ told_cap (codes "platformName") said.platform
    ++ said.own

-- slots for one browser, all of which may run at once
abbrev pub node_said : AttachWords → List ℕ → Registration
node_said said version = record {
  name = said.name;
  address = said.driver;
  max_sessions = said.slots;
  groups = record { stereotype = offered said version; count = said.slots } ∷ [];
  drain_after = None;
}
