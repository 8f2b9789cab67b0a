-- What the definitions of this crate mean, in the words of their subjects.
use Rattle.std.specs.Prelude.{◌≡◌, ℕ, ◌/◌, ◌%◌, ◌≤◌, ◌<◌, Ok, true, map}
use Rattle.mm_utc.specs.Calendar.{IsDateOf}
use Rattle.mm_utc.specs.Fractions.{lowest, IsLowestOf}
use Rattle.mm_utc.specs.Moments.{moment_in}
use Rattle.mm_utc.specs.Printing.{moment_text}
use Rattle.mm_utc.specs.Units.{units, differ}
use Rattle.mm_utc.specs.declared.calendar.Date.{Date}
use Rattle.mm_utc.specs.declared.clock.TheConstants.{DAY}
use Rattle.mm_utc.specs.declared.fraction.Fraction.{Fraction}
use Rattle.mm_utc.specs.declared.fraction.TheConstants.{MOST}
use Rattle.mm_utc.specs.declared.moment.TheConstants.{MOMENTS}

-- what a moment is printed as is read as that moment
abbrev pub ReadsPrinted : Type 0
ReadsPrinted = (m : ℕ) (date : Date) → m < MOMENTS → IsDateOf (m / DAY) date
    → moment_in (moment_text date (m % DAY)) ≡ Ok m

-- where the fraction of two numbers is taken, it is in lowest terms, and both of its numbers are within the bound
abbrev pub TakesLowest : Type 0
TakesLowest = (above below : ℕ) (f : Fraction) → lowest above below ≡ Ok f
    → IsLowestOf above below f × (f.above ≤ MOST) × (f.below ≤ MOST)

-- each unit has a name of its own
abbrev pub UnitsDiffer : Type 0
UnitsDiffer = differ (map (λ row. row.name) units) ≡ true
