-- What is printed is read again.
use Rattle.std.proofs.Common.{◌≡◌, ℕ, ◌+◌, ◌-◌, ◌*◌, ◌/◌, ◌%◌, ◌<◌, ◌==◌, if◌then◌else◌, List, [], ◌∷◌, ◌++◌}
use Rattle.std.proofs.Common.{Ok, refl, inl, inr, arith, append_assoc}
use Rattle.std.proofs.lemmas.Bool.{cases_Bool}
use Rattle.std.proofs.lemmas.Bool.Decides.{Decides-eqb}
use Rattle.mm_base.proofs.IdFields.{Decides-nat_le}
use Rattle.mm_utc.specs.Calendar.{IsDateOf}
use Rattle.mm_utc.specs.Moments.{moment_in}
use Rattle.mm_utc.specs.Printing.{moment_text, fraction_text}
use Rattle.mm_utc.specs.Digits.{digits_of}
use Rattle.mm_utc.specs.Stamps.{calendar, Second, whole, decimal, utc, Stamp, IsSecond, second_text, stamp_text}
use Rattle.mm_utc.specs.Stamps.{microseconds_of, clock_of}
use Rattle.mm_utc.specs.declared.calendar.Date.{Date}
use Rattle.mm_utc.specs.declared.clock.TheConstants.{SECOND, MINUTE, HOUR, DAY}
use Rattle.mm_utc.proofs.StampLemmas.{written_read}

-- a second with its parts, if it has any
abbrev second_of : ℕ → ℕ → Second
second_of second part = if part == 0 then whole second else decimal second 6 part

-- a printed second exists
second_exists : (second part : ℕ) → second < 60 → part < 1000000 → IsSecond (second_of second part)
second_exists second part small parts = elim (cases_Bool (part == 0)) [
  | inl none ↦ rw none small
  | inr some ↦ rw some (small, omega arith, omega arith, parts)
]

-- a printed second, with what follows it
second_printed : (second part : ℕ) (rest : List ℕ)
    → 58 ∷ digits_of 2 second ++ (fraction_text part ++ rest) ≡ second_text (second_of second part) ++ rest
second_printed second part rest = elim (cases_Bool (part == 0)) [
  | inl none ↦ rw none refl
  | inr some ↦ rw some (simp append_assoc)
]

-- the microseconds of a printed second
second_value : (second part : ℕ) → microseconds_of (second_of second part) ≡ second * SECOND + part
second_value second part = elim (cases_Bool (part == 0)) [
  | inl none ↦ rw none (let is : part ≡ 0 = (Decides-eqb part 0).0 none in omega arith)
  | inr some ↦ rw some (omega arith)
]

-- the moment as it is printed
abbrev printed : Date → ℕ → Stamp
printed date clock = record {
  day = calendar date;
  separator = 84;
  hour = clock / HOUR;
  minute = clock / MINUTE % 60;
  second = second_of (clock / SECOND % 60) (clock % SECOND);
  shift = utc;
}

-- its text
text_printed : (date : Date) (clock : ℕ) → moment_text date clock ≡ stamp_text (printed date clock)
text_printed date clock =
    simp (append_assoc, ← second_printed (clock / SECOND % 60) (clock % SECOND) (90 ∷ []))

-- a printed moment is read as that moment
pub moment_again : (m : ℕ) (date : Date) → IsDateOf (m / DAY) date → moment_in (moment_text date (m % DAY)) ≡ Ok m
moment_again m date is =
    let clock = m % DAY in
    let value = second_value (clock / SECOND % 60) (clock % SECOND) in
    let whole_clock : clock_of (printed date clock) ≡ clock = omega (arith, value) in
    let whole_moment : m / DAY * DAY + clock - 0 ≡ m = omega arith in
    let within = (Decides-nat_le 0 (m / DAY * DAY + clock)).1 (omega arith) in
    written_read (moment_text date clock) m (record {
      stamp = printed date clock;
      exists = record {
        day = (is.first_year, is.last_year, is.exists);
        separator = refl;
        hour = (let below : clock / HOUR < 24 = omega arith in below);
        minute = omega arith;
        second = second_exists (clock / SECOND % 60) (clock % SECOND) (omega arith) (omega arith);
        shift = tt;
      };
      spelled = text_printed date clock;
      is_moment = rw (is.is_day, whole_clock, within, whole_moment) refl;
    })
