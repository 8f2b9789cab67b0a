-- The meaning of this crate's readings, in the words of their subjects.
use Rattle.std.specs.Prelude.{◌≡◌, ◌↔◌, ℕ, List, Ok}
use Rattle.mm_problem.specs.Document.{setup_of}
use Rattle.mm_problem.specs.Dumping.{Dumping}
use Rattle.mm_problem.specs.Forecast.{problem_of}
use Rattle.mm_problem.specs.ReadableForecast.{IsReadableForecast}
use Rattle.mm_problem.specs.ReadableSetup.{IsReadableSetup}
use Rattle.mm_problem.specs.Setup.{SetupRows, IsSetup}

-- a setup is read if and only if its bytes are the text of a readable document, and its rows are those of the document
abbrev pub ReadsSetups : Type 0
ReadsSetups = (octets : List ℕ) (m : SetupRows) → (setup_of octets ≡ Ok m) ↔ IsReadableSetup octets m

-- a forecast is read if and only if its records are those of a problem, which it is read as
abbrev pub ReadsForecasts : Type 0
ReadsForecasts = (setup : SetupRows) → IsSetup setup → (octets : List ℕ) (q : Dumping)
    → (problem_of setup octets ≡ Ok q) ↔ IsReadableForecast setup octets q
