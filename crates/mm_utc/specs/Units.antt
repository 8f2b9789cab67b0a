-- The units of volumes and rates.
use Rattle.std.specs.Prelude.{ℕ, Bool, true, not, ◌&&◌, List, [], ◌∷◌, ◌++◌, Option, codes, bytes_eq}
use Rattle.std.specs.List.{find, list_any}
use Rattle.mm_utc.specs.declared.fraction.Fraction.{Fraction}
use Rattle.mm_utc.specs.declared.unit.Kind.{Kind}
use Rattle.mm_utc.specs.declared.unit.Kind.TheVariants.{Volume, Rate, NearRate}
use Rattle.mm_utc.specs.declared.unit.Measure.{Measure}
use Rattle.mm_utc.specs.declared.unit.Measure.TheVariants.{Octets, Blocks}
use Rattle.mm_utc.specs.declared.unit.Unit.{Unit}

-- a unit: its name, what is measured in it, and how many octets or blocks it is, for a rate a second
pub record Row : Type 0 where
  pub name : List ℕ
  pub kind : Kind
  pub measure : Measure
  pub size : Fraction

-- a unit of the program
abbrev pub row_of : Unit → Row
row_of unit = record { name = unit.name.now; kind = unit.kind; measure = unit.measure; size = unit.size }

-- a unit of the table
abbrev pub unit : List ℕ → Kind → Measure → ℕ → ℕ → Row
unit name kind measure above below =
    record { name = name; kind = kind; measure = measure; size = record { above = above; below = below } }

-- octets, thousands and 1024s of them
abbrev pub octet_units : List Row
octet_units =
    unit (codes "octets") Volume Octets 1 1
    ∷ unit (codes "octet") Volume Octets 1 1
    ∷ unit (codes "bytes") Volume Octets 1 1
    ∷ unit (codes "byte") Volume Octets 1 1
    ∷ unit (codes "B") Volume Octets 1 1
    ∷ unit (codes "kB") Volume Octets 1000 1
    ∷ unit (codes "MB") Volume Octets 1000000 1
    ∷ unit (codes "GB") Volume Octets 1000000000 1
    ∷ unit (codes "TB") Volume Octets 1000000000000 1
    ∷ unit (codes "KiB") Volume Octets 1024 1
    ∷ unit (codes "MiB") Volume Octets 1048576 1
    ∷ unit (codes "GiB") Volume Octets 1073741824 1
    ∷ unit (codes "TiB") Volume Octets 1099511627776 1
    ∷ []

-- bits, eight to an octet, and thousands of them
abbrev pub bit_units : List Row
bit_units =
    unit (codes "bit") Volume Octets 1 8
    ∷ unit (codes "kbit") Volume Octets 125 1
    ∷ unit (codes "Mbit") Volume Octets 125000 1
    ∷ unit (codes "Gbit") Volume Octets 125000000 1
    ∷ []

-- blocks
abbrev pub block_units : List Row
block_units =
    unit (codes "blocks") Volume Blocks 1 1
    ∷ unit (codes "block") Volume Blocks 1 1
    ∷ []

-- bits a second, and thousands of them
abbrev pub bit_rates : List Row
bit_rates =
    unit (codes "bit/s") Rate Octets 1 8
    ∷ unit (codes "kbit/s") Rate Octets 125 1
    ∷ unit (codes "Mbit/s") Rate Octets 125000 1
    ∷ unit (codes "Gbit/s") Rate Octets 125000000 1
    ∷ unit (codes "bps") Rate Octets 1 8
    ∷ unit (codes "kbps") Rate Octets 125 1
    ∷ unit (codes "Mbps") Rate Octets 125000 1
    ∷ unit (codes "Gbps") Rate Octets 125000000 1
    ∷ []

-- blocks a second, a minute and an hour
abbrev pub block_rates : List Row
block_rates =
    unit (codes "blocks/s") Rate Blocks 1 1
    ∷ unit (codes "block/s") Rate Blocks 1 1
    ∷ unit (codes "blocks/min") Rate Blocks 1 60
    ∷ unit (codes "block/min") Rate Blocks 1 60
    ∷ unit (codes "blocks/h") Rate Blocks 1 3600
    ∷ unit (codes "block/h") Rate Blocks 1 3600
    ∷ []

-- octets a second, and bits a second with other capitals or short, with the bits a second that are meant
abbrev pub near_rates : List Row
near_rates =
    unit (codes "octets/s") NearRate Octets 8 1
    ∷ unit (codes "bytes/s") NearRate Octets 8 1
    ∷ unit (codes "B/s") NearRate Octets 8 1
    ∷ unit (codes "kB/s") NearRate Octets 8000 1
    ∷ unit (codes "KB/s") NearRate Octets 8000 1
    ∷ unit (codes "MB/s") NearRate Octets 8000000 1
    ∷ unit (codes "KiB/s") NearRate Octets 8192 1
    ∷ unit (codes "MiB/s") NearRate Octets 8388608 1
    ∷ unit (codes "Kbit/s") NearRate Octets 1000 1
    ∷ unit (codes "Kbps") NearRate Octets 1000 1
    ∷ unit (codes "kb/s") NearRate Octets 1000 1
    ∷ unit (codes "Kb/s") NearRate Octets 1000 1
    ∷ unit (codes "mbit/s") NearRate Octets 1000000 1
    ∷ unit (codes "Mb/s") NearRate Octets 1000000 1
    ∷ unit (codes "mbps") NearRate Octets 1000000 1
    ∷ []

-- all units
unfoldable pub units : List Row
units = octet_units ++ (bit_units ++ (block_units ++ (bit_rates ++ (block_rates ++ near_rates))))

-- the unit with this name
unfoldable pub unit_named : List ℕ → Option Row
unit_named name = find (λ row. bytes_eq row.name name) units

-- whether no name comes twice
abbrev pub differ : List (List ℕ) → Bool
differ [] = true
differ (name ∷ names) = not (list_any (bytes_eq name) names) && differ names
