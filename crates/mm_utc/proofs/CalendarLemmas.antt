-- The days of years, counted by formula.
use Rattle.std.proofs.Common.{◌≡◌, ◌≢◌, ℕ, zero, suc, ◌+◌, ◌-◌, ◌*◌, ◌/◌, ◌%◌, ◌≤◌, ◌<◌, ◌==◌, true, false}
use Rattle.std.proofs.Common.{cond, nat_le, List, [], ◌∷◌, get_or, sum, take, refl, ◌∙◌, sym, ap, arith, inl, inr}
use Rattle.std.proofs.lemmas.Bool.{and_parts, cases_Bool, false≢true}
use Rattle.std.proofs.lemmas.Bool.Decides.{Decides-eqb}
use Rattle.std.proofs.lemmas.List.Sums.{sum_by_more, sum_by_more_le}
use Rattle.std.specs.List.{list_all}
use Rattle.mm_base.proofs.IdFields.{Decides-nat_le}
use Rattle.mm_utc.specs.Calendar.{is_leap, month_lengths, month_length, year_length, days_of_years, days_of_months}

-- a leap year has 366 days, another year 365
pub year_length_is : (year : ℕ) → year_length year ≡ cond (is_leap year) 366 365
unfolding year_length
year_length_is year = elim (cases_Bool (is_leap year)) [ inl leap ↦ rw leap refl | inr common ↦ rw common refl ]

-- a test that passes
passed : (a b : ℕ) → (a == b) ≡ true → a ≡ b
passed a b h = (Decides-eqb a b).0 h

-- a test that fails
failed : (a b : ℕ) → (a == b) ≡ false → a ≢ b
failed a b h = λ same. false≢true (sym h ∙ (Decides-eqb a b).1 same)

-- the days of the first n years, by formula
abbrev by_formula : ℕ → ℕ
by_formula n = 365 * n + n / 4 - n / 100 + n / 400

-- one more year
more_years : (n : ℕ) → by_formula n + cond (is_leap (suc n)) 366 365 ≡ by_formula (suc n)
more_years n = elim (cases_Bool (suc n % 4 == 0)) [
  | inl four ↦ elim (cases_Bool (suc n % 100 == 0)) [
    | inl hundred ↦ elim (cases_Bool (suc n % 400 == 0)) [
      | inl both ↦ rw (four, hundred, both)
          (let a = passed _ _ four in let b = passed _ _ hundred in let d = passed _ _ both in omega arith)
      | inr other ↦ rw (four, hundred, other)
          (let a = passed _ _ four in let b = passed _ _ hundred in let d = failed _ _ other in omega arith)
    ]
    | inr other ↦ rw (four, other)
        (let a = passed _ _ four in let b = failed _ _ other in omega arith)
  ]
  | inr other ↦ rw other (let a = failed _ _ other in omega arith)
]

-- the days of the first n years, of which each fourth is a leap year, without each hundredth, with each four hundredth
pub days_of_years_is : (n : ℕ) → days_of_years n ≡ 365 * n + n / 4 - n / 100 + n / 400
unfolding days_of_years
days_of_years_is zero = refl
days_of_years_is (suc n) = rw (days_of_years_is n, year_length_is) (more_years n)

-- a year has at most 366 days
pub year_length-le : (year : ℕ) → year_length year ≤ 366
year_length-le year = elim (cases_Bool (is_leap year)) [
  | inl leap ↦ rw (year_length_is, leap) (omega arith)
  | inr common ↦ rw (year_length_is, common) (omega arith)
]

-- the days before the end of the year 9999
pub days_of_years-le : (n : ℕ) → n ≤ 9999 → days_of_years n ≤ 3652059
days_of_years-le n before = omega (arith, days_of_years_is n)

-- a year ends where the next one begins
pub days_of_years_more : (year : ℕ) → 1 ≤ year → days_of_years (year - 1) + year_length year ≡ days_of_years year
unfolding days_of_years
days_of_years_more zero some = absurd (omega arith)
days_of_years_more (suc n) some = let less : suc n - 1 ≡ n = omega arith in rw less refl

-- the months up to the last one are within the year
pub months_within : (year month : ℕ) → 1 ≤ month → month ≤ 12
    → days_of_months year (month - 1) + month_length year month ≤ year_length year
unfolding days_of_months year_length
months_within year month first last =
    sum_by_more_le (λ n. n) (month_lengths year) (month - 1) 0 (let within : month - 1 < 12 = omega arith in within)

-- no month has no day
pub days_of_months_none : (year : ℕ) → days_of_months year 0 ≡ 0
unfolding days_of_months
days_of_months_none year = refl

-- one more month
pub days_of_months_more : (year month : ℕ) → 1 ≤ month → month ≤ 12
    → days_of_months year month ≡ days_of_months year (month - 1) + month_length year month
unfolding days_of_months
days_of_months_more year month first last =
    let again : month ≡ month - 1 + 1 = omega arith in
    let within : month - 1 < 12 = omega arith in
    ap (λ n. sum (take n (month_lengths year))) again ∙ sum_by_more (λ n. n) (month_lengths year) (month - 1) 0 within

-- twelve months are a year
pub days_of_months_all : (year : ℕ) → days_of_months year 12 ≡ year_length year
unfolding days_of_months year_length
days_of_months_all year = refl

-- numbers that pass the test, and 0 past the last one, are at most 31
at_most : (xs : List ℕ) (i : ℕ) → list_all (λ n. nat_le n 31) xs ≡ true → get_or xs i 0 ≤ 31
at_most [] i all = omega arith
at_most (x ∷ xs) zero all = (Decides-nat_le x 31).0 (and_parts (nat_le x 31) _ all).0
at_most (x ∷ xs) (suc i) all = at_most xs i (and_parts (nat_le x 31) _ all).1

-- a month has at most 31 days
pub month_length-le : (year month : ℕ) → month_length year month ≤ 31
month_length-le year month = at_most (month_lengths year) (month - 1)
    (elim (cases_Bool (is_leap year)) [ inl leap ↦ rw leap refl | inr common ↦ rw common refl ])
