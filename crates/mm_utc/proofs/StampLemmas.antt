-- What is written is read.
use Rattle.std.proofs.Common.{◌≡◌, ℕ, ◌+◌, ◌-◌, ◌*◌, ◌/◌, ◌%◌, ◌^◌, ◌≤◌, ◌<◌, ◌==◌, nat_le, true, false}
use Rattle.std.proofs.Common.{List, [], ◌∷◌, ◌++◌, length, Ok, Err, refl, ◌∙◌, arith, append_assoc, append-nil}
use Rattle.std.specs.Char.{is_ascii_digit}
use Rattle.std.proofs.lemmas.Bool.{and_parts, le-ltb, lt-ltb}
use Rattle.std.proofs.lemmas.Bool.Decides.{nat_tests}
use Rattle.mm_base.proofs.IdFields.{Decides-nat_le}
use Rattle.mm_utc.specs.Calendar.{is_date, month_length, year_length}
use Rattle.mm_utc.specs.Clock.{digits_fraction_at, second_at, seconds_at, clock_at}
use Rattle.mm_utc.specs.Dates.{calendar_day_at, day_in_year, day_at}
use Rattle.mm_utc.specs.Digits.{digits_of, number_at}
use Rattle.mm_utc.specs.Moments.{moment_in}
use Rattle.mm_utc.specs.Stamps.{Day, calendar, ordinal, Second, omitted, whole, decimal, Shift, utc, ahead, behind}
use Rattle.mm_utc.specs.Stamps.{Writes, IsDay, IsSecond, IsShift, day_text, second_text, minutes_text, shift_text}
use Rattle.mm_utc.specs.Stamps.{number_of, microseconds_of, zone_of}
use Rattle.mm_utc.specs.Zone.{offset_in, zone_in}
use Rattle.mm_utc.specs.declared.calendar.Date.{Date}
use Rattle.mm_utc.specs.declared.clock.TheConstants.{SECOND, MINUTE, HOUR}
use Rattle.mm_utc.specs.declared.fault.MomentFault.TheVariants.{Form, NoSuchTime, NoSuchOffset}
use Rattle.mm_utc.proofs.CalendarLemmas.{month_length-le, year_length-le}
use Rattle.mm_utc.proofs.DigitLemmas.{number_again, below_again, prefix_len-append, all-digits_of, length-digits_of}
use Rattle.mm_utc.proofs.DigitLemmas.{digit_octet}

-- month and day of a date have two digits
in_calendar : (date : Date) → is_date date ≡ true → (date.month < 10 ^ 2) × (date.day < 10 ^ 2)
in_calendar date exists =
    let (to_day, last_day) = and_parts _ (nat_le date.day (month_length date.year date.month)) exists in
    let (to_month, first_day) = and_parts _ (nat_le 1 date.day) to_day in
    let (first_month, last_month) = and_parts _ (nat_le date.month 12) to_month in
    let month = (Decides-nat_le date.month 12).0 last_month in
    let day = (Decides-nat_le date.day (month_length date.year date.month)).0 last_day in
    (omega (arith, month), omega (arith, day, month_length-le date.year date.month))

-- month and day are no day of the year
not_ordinal : (month : ℕ) (rest : List ℕ) → number_at 3 (digits_of 2 month ++ (45 ∷ rest)) ≡ Err Form
unfolding number_at digits_of
not_ordinal month rest =
    let first = digit_octet (month / 10 % 10) (omega arith) in
    let second = digit_octet (month % 10) (omega arith) in
    let long = le-ltb (length ((48 + month / 10 % 10) ∷ (48 + month % 10) ∷ 45 ∷ rest)) 3 (omega arith) in
    rw (long, first, second) refl

-- month and day are read
month_read : (date : Date) (rest : List ℕ) → is_date date ≡ true
    → calendar_day_at date.year (digits_of 2 date.month ++ (45 ∷ digits_of 2 date.day ++ rest))
    ≡ Ok (number_of (calendar date), rest)
unfolding calendar_day_at
month_read date rest exists =
    let (month, day) = in_calendar date exists in
    rw (
      number_again 2 date.month (45 ∷ digits_of 2 date.day ++ rest) month,
      number_again 2 date.day rest day,
      exists,
    )
    refl

-- a day is read
day_read : (day : Day) (rest : List ℕ) → IsDay day → day_at (day_text day ++ rest) ≡ Ok (number_of day, rest)
unfolding day_at day_in_year
day_read (calendar date) rest (first, last, exists) =
    let months = digits_of 2 date.month ++ (45 ∷ digits_of 2 date.day ++ rest) in
    let four : date.year < 10 ^ 4 = omega (arith, last) in
    let some = lt-ltb 0 date.year (omega (arith, first)) in
    simp append_assoc (
    rw (
      number_again 4 date.year (45 ∷ months) four,
      some,
      not_ordinal date.month (digits_of 2 date.day ++ rest),
      month_read date rest exists,
    )
    refl
    )
day_read (ordinal year day) rest (first, last, begins, ends) =
    let four : year < 10 ^ 4 = omega (arith, last) in
    let three : day < 10 ^ 3 = omega (arith, ends, year_length-le year) in
    simp append_assoc (
    rw (
      number_again 4 year (45 ∷ digits_of 3 day ++ rest) four,
      (Decides-nat_le 1 year).1 first,
      number_again 3 day rest three,
      (Decides-nat_le 1 day).1 begins,
      (Decides-nat_le day (year_length year)).1 ends,
    )
    refl
    )

-- an octet that ends a time of day
record Ends (octet : ℕ) : Type 0 where
  digit : is_ascii_digit octet ≡ false
  colon : (octet == 58) ≡ false
  point : (octet == 46) ≡ false

-- decimals are read
decimals_read : (count part octet : ℕ) (rest : List ℕ) → 1 ≤ count → count ≤ 6 → part < 10 ^ count → Ends octet
    → digits_fraction_at (digits_of count part ++ (octet ∷ rest)) ≡ Ok (part * 10 ^ (6 - count), octet ∷ rest)
unfolding digits_fraction_at
decimals_read count part octet rest some few small ends =
    let digits = digits_of count part in
    let so_many = prefix_len-append is_ascii_digit digits rest octet (all-digits_of count part) ends.digit
    ∙ length-digits_of count part in
    let other : (count == 0) ≡ false = grind (arith, nat_tests) in
    let within = le-ltb 6 count few in
    rw (so_many, other, within, number_again count part (octet ∷ rest) small) refl

-- a second is read
second_read : (second : Second) (octet : ℕ) (rest : List ℕ) → IsSecond second → Ends octet
    → seconds_at (second_text second ++ (octet ∷ rest)) ≡ Ok (microseconds_of second, octet ∷ rest)
unfolding second_at
second_read omitted octet rest exists ends = rw ends.colon refl
second_read (whole second) octet rest exists ends =
    let two : second < 10 ^ 2 = omega (arith, exists) in
    let other : (second == 60) ≡ false = grind (arith, nat_tests) in
    let within = le-ltb 60 second (omega (arith, exists)) in
    let none : second * SECOND + 0 ≡ second * SECOND = omega arith in
    rw (number_again 2 second (octet ∷ rest) two, other, within, ends.point, none) refl
second_read (decimal second count part) octet rest (exists, some, few, small) ends =
    let two : second < 10 ^ 2 = omega (arith, exists) in
    let other : (second == 60) ≡ false = grind (arith, nat_tests) in
    let within = le-ltb 60 second (omega (arith, exists)) in
    let parts = digits_of count part ++ (octet ∷ rest) in
    let regroup = append_assoc (digits_of 2 second) (46 ∷ digits_of count part) (octet ∷ rest) in
    rw (
      regroup,
      number_again 2 second (46 ∷ parts) two,
      other,
      within,
      decimals_read count part octet rest some few small ends,
    )
    refl

-- a time of day is read
clock_read : (hour minute : ℕ) (second : Second) (octet : ℕ) (rest : List ℕ) → hour < 24 → minute < 60 → IsSecond second
    → Ends octet → clock_at (minutes_text hour minute ++ (second_text second ++ (octet ∷ rest)))
    ≡ Ok (hour * HOUR + minute * MINUTE + microseconds_of second, octet ∷ rest)
unfolding clock_at
clock_read hour minute second octet rest hours minutes exists ends =
    let seconds = second_text second ++ (octet ∷ rest) in
    simp append_assoc (
    rw (
      below_again 24 NoSuchTime hour (58 ∷ digits_of 2 minute ++ seconds) hours (omega arith),
      below_again 60 NoSuchTime minute seconds minutes (omega arith),
      second_read second octet rest exists ends,
    )
    refl
    )

-- hours and minutes of a shift are read
offset_read : (hour minute : ℕ) → hour < 24 → minute < 60
    → offset_in (minutes_text hour minute) ≡ Ok (hour * HOUR + minute * MINUTE)
unfolding offset_in
offset_read hour minute hours minutes =
    let last = below_again 60 NoSuchOffset minute [] minutes (omega arith) in
    rw (
      below_again 24 NoSuchOffset hour (58 ∷ digits_of 2 minute) hours (omega arith),
      rw append-nil at last,
    )
    refl

-- a shift is read
shift_read : (shift : Shift) → IsShift shift → zone_in (shift_text shift) ≡ Ok (zone_of shift)
unfolding zone_in
shift_read utc exists = refl
shift_read (ahead hour minute) (hours, minutes) = rw (offset_read hour minute hours minutes) refl
shift_read (behind hour minute) (hours, minutes) = rw (offset_read hour minute hours minutes) refl

-- the first octet of a shift ends the time of day
shift_ends : (shift : Shift) → (octet : ℕ) × (rest : List ℕ) × (shift_text shift ≡ octet ∷ rest) × Ends octet
shift_ends utc = (90, [], refl, record { digit = refl; colon = refl; point = refl })
shift_ends (ahead hour minute) =
    (43, minutes_text hour minute, refl, record { digit = refl; colon = refl; point = refl })
shift_ends (behind hour minute) =
    (45, minutes_text hour minute, refl, record { digit = refl; colon = refl; point = refl })

-- a time of day before a shift is read
clock_before : (hour minute : ℕ) (second : Second) (shift : Shift) → hour < 24 → minute < 60 → IsSecond second
    → clock_at (minutes_text hour minute ++ (second_text second ++ shift_text shift))
    ≡ Ok (hour * HOUR + minute * MINUTE + microseconds_of second, shift_text shift)
clock_before hour minute second shift hours minutes exists =
    let (octet, rest, is, ends) = shift_ends shift in
    rw is (clock_read hour minute second octet rest hours minutes exists ends)

-- what writes a moment is read as that moment
pub written_read : (text : List ℕ) (m : ℕ) → Writes text m → moment_in text ≡ Ok m
unfolding moment_in
written_read text m w =
    let s = w.stamp in
    let time = minutes_text s.hour s.minute ++ (second_text s.second ++ shift_text s.shift) in
    rw (
      w.spelled,
      day_read s.day (s.separator ∷ time) w.exists.day,
      w.exists.separator,
      clock_before s.hour s.minute s.second s.shift w.exists.hour w.exists.minute w.exists.second,
      shift_read s.shift w.exists.shift,
    )
    w.is_moment
