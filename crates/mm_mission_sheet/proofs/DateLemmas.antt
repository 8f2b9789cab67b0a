-- The date of a day.
use Rattle.std.proofs.Common.{◌≡◌, ℕ, zero, suc, ◌+◌, ◌-◌, ◌/◌, ◌%◌, ◌<◌, ◌≤◌, nat_le, true, false, ◌&&◌, List, ◌++◌}
use Rattle.std.proofs.Common.{refl, sym, ap, ◌∙◌, arith, inl, inr}
use Rattle.std.proofs.lemmas.Bool.{and_parts, cases_Bool}
use Rattle.std.proofs.lemmas.Bool.Decides.{nat_tests}
use Rattle.mm_base.proofs.IdFields.{Decides-nat_le}
use Rattle.mm_utc.specs.Calendar.{month_length, days_of_years, days_of_months}
use Rattle.mm_utc.specs.Printing.{AppendsMoment}
use Rattle.mm_utc.specs.declared.clock.TheConstants.{DAY}
use Rattle.mm_utc.proofs.CalendarLemmas.{days_of_years_more, months_within, days_of_months_more}
use Rattle.mm_mission_sheet.specs.Dates.{last_begun, year_of, day_of_year, month_of, day_of_month, utc_text}

module _ (days : ℕ → ℕ) (last : ℕ) (rises : (i : ℕ) → i < last → days i ≤ days (suc i)) where
  -- a later one does not begin earlier
  rises_to : (i j : ℕ) → i ≤ j → j ≤ last → days i ≤ days j
  rises_to i zero before within = let same : i ≡ 0 = omega arith in rw same (omega arith)
  rises_to i (suc j) before within = elim (cases_Bool (nat_le i j)) [
    | inl is_so ↦
        let earlier = rises_to i j ((Decides-nat_le i j).0 is_so) (omega arith) in
        omega (arith, earlier, rises j (omega arith))
    | inr is_not ↦ let same : i ≡ suc j = grind (arith, nat_tests) in rw same (omega arith)
  ]

  -- the last that has begun is the one that has, if the next one has not
  pub last_begun-is : (day k n : ℕ) → 1 ≤ k → k ≤ n → n ≤ last → days (k - 1) ≤ day → day < days k
      → last_begun days day n ≡ k
  unfolding last_begun
  last_begun-is day k zero some before within begun next = absurd (omega arith)
  last_begun-is day k (suc n) some before within begun next = elim (cases_Bool (nat_le (days n) day)) [
    | inl is_so ↦ rw is_so (elim (cases_Bool (nat_le k n)) [
      | inl earlier ↦
          let rise = rises_to k n ((Decides-nat_le k n).0 earlier) (omega arith) in
          absurd (omega (arith, rise, (Decides-nat_le (days n) day).0 is_so))
      | inr same ↦ let is : suc n ≡ k = grind (arith, nat_tests) in is
    ])
    | inr is_not ↦ rw is_not (elim (cases_Bool (nat_le k n)) [
      | inl earlier ↦ last_begun-is day k n some ((Decides-nat_le k n).0 earlier) (omega arith) begun next
      | inr same ↦
          let is : k - 1 ≡ n = grind (arith, nat_tests) in
          let has : nat_le (days n) day ≡ true = (Decides-nat_le (days n) day).1 (rw is at begun) in
          absurd (cc (sym is_not ∙ has))
    ])
  ]

-- years begin one after the other, and so do months
years_rise : (i : ℕ) → days_of_years i ≤ days_of_years (suc i)
unfolding days_of_years
years_rise i = omega arith

months_rise : (year i : ℕ) → i < 12 → days_of_months year i ≤ days_of_months year (suc i)
months_rise year i before =
    let last : suc i - 1 ≡ i = omega arith in
    let more = rw last at (days_of_months_more year (suc i) (omega arith) (omega arith)) in
    omega (arith, more)

-- a month, a day of it, and how many days it has
record Within (month day most : ℕ) : Type 0 where
  first : 1 ≤ month
  last : month ≤ 12
  some : 1 ≤ day
  within : day ≤ most

within : (month day most : ℕ) → (nat_le 1 month && nat_le month 12 && nat_le 1 day && nat_le day most) ≡ true
    → Within month day most
within month day most is =
    let days = and_parts _ _ is in
    let some = and_parts _ _ days.0 in
    let months = and_parts _ _ some.0 in
    record {
      first = (Decides-nat_le 1 month).0 months.0;
      last = (Decides-nat_le month 12).0 months.1;
      some = (Decides-nat_le 1 day).0 some.1;
      within = (Decides-nat_le day most).0 days.1;
    }

module _ (day y m d : ℕ) (first : 1 ≤ y) (last : y ≤ 9999) (at : Within m d (month_length y m))
    (is : days_of_years (y - 1) + days_of_months y (m - 1) + (d - 1) ≡ day) where
  year_is : year_of day ≡ y
  unfolding year_of
  year_is =
      let all = months_within y m at.first at.last in
      let next = days_of_years_more y first in
      last_begun-is days_of_years 9999 (λ i _. years_rise i) day y 9999 first last (omega arith)
      (omega (arith, is)) (omega (arith, is, all, next, at.some, at.within))

  left : day_of_year day ≡ days_of_months y (m - 1) + (d - 1)
  unfolding day_of_year
  left = rw year_is (omega (arith, is))

  month_is : month_of day ≡ m
  unfolding month_of
  month_is =
      let next = days_of_months_more y m at.first at.last in
      rw (year_is, left) (last_begun-is (days_of_months y) 12 (months_rise y) _ m 12 at.first at.last
      (omega arith) (omega arith) (omega (arith, next, at.some, at.within)))

  day_is : day_of_month day ≡ d
  unfolding day_of_month
  day_is = rw (year_is, month_is, left) (omega (arith, at.some))

-- what is printed of a moment is its text
pub moment_is : (m : ℕ) (old new : List ℕ) → AppendsMoment m old new → new ≡ old ++ utc_text m
unfolding utc_text
moment_is m old new appends =
    let (date, is, text) = appends in
    let at = within date.month date.day (month_length date.year date.month) is.exists in
    let y = year_is (m / DAY) date.year date.month date.day is.first_year is.last_year at is.is_day in
    let mo = month_is (m / DAY) date.year date.month date.day is.first_year is.last_year at is.is_day in
    let d = day_is (m / DAY) date.year date.month date.day is.first_year is.last_year at is.is_day in
    rw (y, mo, d) text
