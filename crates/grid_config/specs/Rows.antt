-- The tables of keys, and what is found in them.
use Rattle.std.specs.Prelude.{◌&&◌, ◌||◌, ◌++◌, ℕ, Bool, false, List, [], ◌∷◌, Option, None, Some, codes, if◌then◌else◌}
use Rattle.std.specs.Str.{bytes_eq}
use Rattle.grid_config.specs.declared.rows.Form.TheVariants as form
use Rattle.grid_config.specs.declared.rows.Kind.{Kind}
use Rattle.grid_config.specs.declared.rows.Kind.TheVariants as kind
use Rattle.grid_config.specs.declared.rows.Mode.{Mode}
use Rattle.grid_config.specs.declared.rows.Mode.TheVariants as mode
use Rattle.grid_config.specs.declared.rows.Row.{Row as StoredRow}

-- a key of a section, the option that it sets, and what may stand for it
pub record Row : Type 0 where
  pub section : List ℕ
  pub key : List ℕ
  pub option : List ℕ
  pub takes : Kind

-- a row as it is stored
abbrev pub row_told : StoredRow → Row
row_told r = record { section = r.section.now; key = r.key.now; option = r.option.now; takes = r.kind }

-- the option is the key behind two dashes
abbrev pub row : List ℕ → List ℕ → Kind → Row
row section key takes = record { section = section; key = key; option = codes "--" ++ key; takes = takes }

-- the keys of a hub
abbrev pub hub_rows : List Row
hub_rows =
    row (codes "server") (codes "port") (kind.Number 1 65_535)
    ∷ row (codes "sessionqueue") (codes "session-request-timeout") (kind.Number 1 86_400)
    ∷ row (codes "sessionqueue") (codes "queue-limit") (kind.Number 1 10_000)
    ∷ row (codes "distributor") (codes "reject-unsupported-caps") kind.Truth
    ∷ row (codes "distributor") (codes "workers") (kind.Number 0 64)
    ∷ row (codes "server") (codes "handlers") (kind.Number 1 128)
    ∷ row (codes "node") (codes "session-timeout") (kind.Number 10 86_400)
    ∷ row (codes "server") (codes "host") (kind.Text form.Name)
    ∷ row (codes "server") (codes "connections") (kind.Number 1 20_000)
    ∷ row (codes "distributor") (codes "journal") (kind.Text form.Path)
    ∷ row (codes "distributor") (codes "journal-sync") (kind.Text form.Sync)
    ∷ []

-- the keys of a node in memory
abbrev pub node_rows : List Row
node_rows =
    row (codes "node") (codes "hub") (kind.Text form.Name)
    ∷ row (codes "node") (codes "name") (kind.Text form.Name)
    ∷ row (codes "node") (codes "browser") (kind.Text form.Name)
    ∷ row (codes "node") (codes "slots") (kind.Number 1 64)
    ∷ row (codes "server") (codes "port") (kind.Number 1 65_535)
    ∷ []

-- the keys of a driver that is put behind a hub
abbrev pub attach_rows : List Row
attach_rows =
    row (codes "node") (codes "hub") (kind.Text form.Address)
    ∷ row (codes "node") (codes "driver") (kind.Text form.Address)
    ∷ row (codes "node") (codes "name") (kind.Text form.Label)
    ∷ row (codes "node") (codes "browser") (kind.Text form.Name)
    ∷ row (codes "node") (codes "browser-version") (kind.Text form.Name)
    ∷ row (codes "node") (codes "platform") (kind.Text form.Name)
    ∷ row (codes "node") (codes "slots") (kind.Number 1 64)
    ∷ row (codes "node") (codes "capability") (kind.Text form.Capability)
    ∷ row (codes "node") (codes "once") kind.Truth
    ∷ []

abbrev pub rows_of : Mode → List Row
rows_of mode.Hub = hub_rows
rows_of mode.Node = node_rows

abbrev pub is_of : Row → List ℕ → List ℕ → Bool
is_of r section key = bytes_eq r.section section && bytes_eq r.key key

-- what may stand for a key, by the first row of it
abbrev pub kind_at : List Row → List ℕ → List ℕ → Option Kind
kind_at [] section key = None
kind_at (r ∷ rows) section key = if is_of r section key then Some r.takes else kind_at rows section key

-- a row is of the section
abbrev pub has_section : List Row → List ℕ → Bool
has_section [] section = false
has_section (r ∷ rows) section = bytes_eq r.section section || has_section rows section
