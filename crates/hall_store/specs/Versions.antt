-- The versions that row writes expect.
use Rattle.std.specs.Prelude.{◌≡◌, ℕ, ⊤, List, [], ◌∷◌, Option, option_map}
use Rattle.hall_types.specs.{Hall.{Hall, written}, Rows.at, declared.change.RowWrite.{RowWrite, TheVariants.PutMachine}}

-- the version of the machine with a number, none if there is no such machine
abbrev pub version_of : Hall → ℕ → Option ℕ
version_of h id = option_map (λ m. m.version) (at h.machines id)

-- a machine's row is written over the version that it expects; no other row expects one
abbrev pub HasVersion : RowWrite → Hall → Type 0
HasVersion (PutMachine m was) h = was ≡ version_of h m.id
HasVersion w h = ⊤

-- each row write has its version in the hall that those before it left
abbrev pub HaveVersions : List RowWrite → Hall → Type 0
HaveVersions [] h = ⊤
HaveVersions (w ∷ ws) h = HasVersion w h × HaveVersions ws (written w h)
