-- What is read as a moment writes the moment.
use Rattle.std.proofs.Common.{◌≡◌, ℕ, ◌+◌, ◌*◌, ◌^◌, ◌≤◌, ◌<◌, ◌==◌, nat_le, nat_lt, ◌||◌, if◌then◌else◌, true}
use Rattle.std.proofs.Common.{inl, inr, List, [], ◌∷◌, ◌++◌, Ok, Err, Result, refl, sym, ◌∙◌, ap, subst, arith}
use Rattle.std.proofs.Common.{append_assoc, append-nil}
use Rattle.std.specs.Char.{is_ascii_digit}
use Rattle.std.specs.List.{prefix_len}
use Rattle.std.proofs.lemmas.Bool.{and_parts, cases_Bool}
use Rattle.std.proofs.lemmas.Bool.Decides.{Decides-eqb, nat_tests}
use Rattle.mm_base.specs.Reading.{◌>>=◌}
use Rattle.mm_base.proofs.IdFields.{Decides-nat_le}
use Rattle.mm_base.proofs.ReadingSteps.{bind_ok, cond_ok, ok_same}
use Rattle.mm_utc.specs.Calendar.{year_length}
use Rattle.mm_utc.specs.Clock.{digits_fraction_at, fraction_at, second_at, seconds_at, clock_at}
use Rattle.mm_utc.specs.Dates.{calendar_day_at, day_in_year, day_at, ordinal_or}
use Rattle.mm_utc.specs.Digits.{digits_of, number_at}
use Rattle.mm_utc.specs.Moments.{separated, moment_in}
use Rattle.mm_utc.specs.Stamps.{Day, calendar, ordinal, Second, omitted, whole, decimal, Shift, utc, ahead, behind}
use Rattle.mm_utc.specs.Stamps.{Writes, IsDay, IsSecond, IsShift, day_text, second_text, minutes_text, shift_text}
use Rattle.mm_utc.specs.Stamps.{number_of, microseconds_of, zone_of}
use Rattle.mm_utc.specs.Zone.{offset_in, zone_in}
use Rattle.mm_utc.specs.declared.clock.TheConstants.{SECOND, MINUTE, HOUR}
use Rattle.mm_utc.specs.declared.fault.MomentFault.{MomentFault}
use Rattle.mm_utc.specs.declared.fault.MomentFault.TheVariants.{LeapSecond, NoSuchTime, NoSuchOffset, OutsideYears}
use Rattle.mm_utc.specs.declared.zone.Zone.{Zone}
use Rattle.mm_utc.specs.declared.zone.Zone.TheVariants.{Ahead, Behind}
use Rattle.mm_utc.proofs.SaidLemmas.{number_said, after_said, at_end_said, below_said, test_said}

-- a day that was read, with the text before it
record IsReadDay (text : List ℕ) (n : ℕ) (rest : List ℕ) : Type 0 where
  day : Day
  exists : IsDay day
  spelled : text ≡ day_text day ++ rest
  number : number_of day ≡ n

-- the parts of a calendar date, put together
month_joined : (year month day text in_month after_month in_day rest : List ℕ) → text ≡ month ++ in_month
    → in_month ≡ 45 ∷ after_month → after_month ≡ day ++ in_day → in_day ≡ rest
    → year ++ (45 ∷ text) ≡ (year ++ (45 ∷ month ++ (45 ∷ day))) ++ rest
month_joined year month day text in_month after_month in_day rest a b c d = rw (a, b, c, d) (simp append_assoc)

-- the parts of an ordinal date, put together
day_joined : (year day text in_day rest : List ℕ) → text ≡ day ++ in_day → in_day ≡ rest
    → year ++ (45 ∷ text) ≡ (year ++ (45 ∷ day)) ++ rest
day_joined year day text in_day rest a b = rw (a, b) (simp append_assoc)

-- month and day
month_said : (year : ℕ) (text : List ℕ) (n : ℕ) (rest : List ℕ) → 1 ≤ year → year < 10 ^ 4
    → calendar_day_at year text ≡ Ok (n, rest) → IsReadDay (digits_of 4 year ++ (45 ∷ text)) n rest
unfolding calendar_day_at
month_said year text n rest first last h =
    let (month, read_month, h1) = bind_ok _ _ _ h in
    let (after_month, hyphen, h2) = bind_ok _ _ _ h1 in
    let (day, read_day, h3) = bind_ok _ _ _ h2 in
    let (number, found, h4) = bind_ok _ _ _ h3 in
    let (exists, is) = cond_ok _ _ _ _ found in
    let same = ok_same _ _ h4 in
    let (month_spelled, _) = number_said 2 text month.0 month.1 read_month in
    let after_hyphen = after_said 45 month.1 after_month hyphen in
    let (day_spelled, _) = number_said 2 after_month day.0 day.1 read_day in
    let left : day.1 ≡ rest = ap (λ (x : ℕ × List ℕ). x.1) same in
    let last_year : year ≤ 9999 = omega (arith, last) in
    record {
      day = calendar (record { year = year; month = month.0; day = day.0 });
      exists = (first, last_year, exists);
      spelled = month_joined (digits_of 4 year) _ _ text _ _ _ rest month_spelled after_hyphen day_spelled left;
      number = is ∙ ap (λ (x : ℕ × List ℕ). x.0) same;
    }

-- a day of the year, or month and day
in_year_said : (year : ℕ) (text : List ℕ) (n : ℕ) (rest : List ℕ) → 1 ≤ year → year < 10 ^ 4
    → (digits : Result (ℕ × List ℕ) MomentFault) → number_at 3 text ≡ digits
    → ordinal_or year text digits ≡ Ok (n, rest) → IsReadDay (digits_of 4 year ++ (45 ∷ text)) n rest
in_year_said year text n rest first last (Ok day) read h =
    let (number, found, h1) = bind_ok _ _ _ h in
    let (exists, is) = cond_ok _ _ _ _ found in
    let (begins, ends) = and_parts (nat_le 1 day.0) (nat_le day.0 (year_length year)) exists in
    let same = ok_same _ _ h1 in
    let (spelled, _) = number_said 3 text day.0 day.1 read in
    let left : day.1 ≡ rest = ap (λ (x : ℕ × List ℕ). x.1) same in
    let last_year : year ≤ 9999 = omega (arith, last) in
    record {
      day = ordinal year day.0;
      exists = (
        first,
        last_year,
        (Decides-nat_le 1 day.0).0 begins,
        (Decides-nat_le day.0 (year_length year)).0 ends,
      );
      spelled = day_joined (digits_of 4 year) _ text _ rest spelled left;
      number = is ∙ ap (λ (x : ℕ × List ℕ). x.0) same;
    }
in_year_said year text n rest first last (Err e) read h = month_said year text n rest first last h

-- a day
day_said : (text : List ℕ) (n : ℕ) (rest : List ℕ) → day_at text ≡ Ok (n, rest) → IsReadDay text n rest
unfolding day_at day_in_year
day_said text n rest h =
    let (year, read, h1) = bind_ok _ _ _ h in
    let (after_year, hyphen, h2) = bind_ok _ _ _ h1 in
    let (passed, last) = test_said (nat_le 1 year.0) OutsideYears (day_in_year year.0 after_year) (n, rest) h2 in
    let some = (Decides-nat_le 1 year.0).0 passed in
    let (spelled, small) = number_said 4 text year.0 year.1 read in
    let year_text = spelled ∙ ap (λ xs. digits_of 4 year.0 ++ xs) (after_said 45 year.1 after_year hyphen) in
    subst (λ xs. IsReadDay xs n rest) (sym year_text)
    (in_year_said year.0 after_year n rest some small (number_at 3 after_year) refl last)

-- a second that was read, with the text before it
record IsReadSecond (text : List ℕ) (n : ℕ) (rest : List ℕ) : Type 0 where
  second : Second
  exists : IsSecond second
  spelled : text ≡ second_text second ++ rest
  value : microseconds_of second ≡ n

-- decimals after a second
decimals_said : (second : ℕ) (text : List ℕ) (n : ℕ) (rest : List ℕ) → second < 60
    → digits_fraction_at text ≡ Ok (n, rest)
    → IsReadSecond (58 ∷ digits_of 2 second ++ (46 ∷ text)) (second * SECOND + n) rest
unfolding digits_fraction_at
decimals_said second text n rest small h =
    let count = prefix_len is_ascii_digit text in
    elim (cases_Bool (count == 0)) [
      | inl none ↦ absurd (let refused = rw none at h in cc)
      | inr some ↦ elim (cases_Bool (nat_lt 6 count)) [
        | inl many ↦ absurd (let refused = rw (some, many) at h in cc)
        | inr few ↦ (
            let (number, read, last) = bind_ok _ _ _ (rw (some, few) at h) in
            let same = ok_same _ _ last in
            let (spelled, below) = number_said count text number.0 number.1 read in
            let left : number.1 ≡ rest = ap (λ (x : ℕ × List ℕ). x.1) same in
            let value = ap (λ (x : ℕ × List ℕ). x.0) same in
            let at_least : 1 ≤ count = grind (arith, nat_tests) in
            let at_most : count ≤ 6 = grind (arith, nat_tests) in
            record {
              second = decimal second count number.0;
              exists = (small, at_least, at_most, below);
              spelled = ap (λ xs. 58 ∷ digits_of 2 second ++ (46 ∷ xs))
                  (spelled ∙ ap (λ xs. digits_of count number.0 ++ xs) left)
                  ∙ sym (append_assoc (58 ∷ digits_of 2 second) (46 ∷ digits_of count number.0) rest);
              value = ap (λ v. second * SECOND + v) value;
            }
            )
      ]
    ]

-- the second without decimals
whole_said : (second : ℕ) (text : List ℕ) (n : ℕ) (rest : List ℕ) → second < 60
    → ◌≡◌ {A = Result (ℕ × List ℕ) MomentFault} (Ok (0, text)) (Ok (n, rest))
    → IsReadSecond (58 ∷ digits_of 2 second ++ text) (second * SECOND + n) rest
whole_said second text n rest small h =
    let same = ok_same _ _ h in
    let none : 0 ≡ n = ap (λ (x : ℕ × List ℕ). x.0) same in
    record {
      second = whole second;
      exists = small;
      spelled = ap (λ xs. 58 ∷ digits_of 2 second ++ xs) (ap (λ (x : ℕ × List ℕ). x.1) same);
      value = omega arith;
    }

-- what follows a second
fraction_said : (second : ℕ) (text : List ℕ) (n : ℕ) (rest : List ℕ) → second < 60
    → fraction_at text ≡ Ok (n, rest) → IsReadSecond (58 ∷ digits_of 2 second ++ text) (second * SECOND + n) rest
fraction_said second [] n rest small h = whole_said second [] n rest small h
fraction_said second (c ∷ cs) n rest small h = elim (cases_Bool (c == 46)) [
  | inl point ↦ (
      let is : c ≡ 46 = (Decides-eqb c 46).0 point in
      rw is (decimals_said second cs n rest small (rw point at h))
      )
  | inr other ↦ whole_said second (c ∷ cs) n rest small (rw other at h)
]

-- what follows the two digits of a second
abbrev after_digits : ℕ → List ℕ → Result (ℕ × List ℕ) MomentFault
after_digits second text =
    if second == 60 then Err LeapSecond else (if nat_lt 60 second then Err NoSuchTime else (do
      part ← fraction_at text
      Ok (second * SECOND + part.0, part.1)))

-- a second by its two digits and what follows them
digits_second_said : (second : ℕ) (text : List ℕ) (n : ℕ) (rest : List ℕ) → after_digits second text ≡ Ok (n, rest)
    → IsReadSecond (58 ∷ digits_of 2 second ++ text) n rest
digits_second_said second text n rest h = elim (cases_Bool (second == 60)) [
  | inl leap ↦ absurd (let refused = rw leap at h in cc)
  | inr other ↦ elim (cases_Bool (nat_lt 60 second)) [
    | inl late ↦ absurd (let refused = rw (other, late) at h in cc)
    | inr within ↦ (
        let (part, found, last) = bind_ok _ _ _ (rw (other, within) at h) in
        let small : second < 60 = grind (arith, nat_tests) in
        subst (λ (x : ℕ × List ℕ). IsReadSecond (58 ∷ digits_of 2 second ++ text) x.0 x.1) (ok_same _ _ last)
        (fraction_said second text part.0 part.1 small found)
        )
  ]
]

-- a second
second_said : (text : List ℕ) (n : ℕ) (rest : List ℕ) → second_at text ≡ Ok (n, rest) → IsReadSecond (58 ∷ text) n rest
unfolding second_at
second_said text n rest h =
    let (second, read, h1) = bind_ok _ _ _ h in
    let (spelled, _) = number_said 2 text second.0 second.1 read in
    subst (λ xs. IsReadSecond (58 ∷ xs) n rest) (sym spelled) (digits_second_said second.0 second.1 n rest h1)

-- no second
none_said : (text : List ℕ) (n : ℕ) (rest : List ℕ)
    → ◌≡◌ {A = Result (ℕ × List ℕ) MomentFault} (Ok (0, text)) (Ok (n, rest)) → IsReadSecond text n rest
none_said text n rest h =
    let same = ok_same _ _ h in
    record {
      second = omitted;
      exists = tt;
      spelled = ap (λ (x : ℕ × List ℕ). x.1) same;
      value = ap (λ (x : ℕ × List ℕ). x.0) same;
    }

-- a second, or none
seconds_said : (text : List ℕ) (n : ℕ) (rest : List ℕ) → seconds_at text ≡ Ok (n, rest) → IsReadSecond text n rest
seconds_said [] n rest h = none_said [] n rest h
seconds_said (c ∷ cs) n rest h = elim (cases_Bool (c == 58)) [
  | inl colon ↦ (
      let is : c ≡ 58 = (Decides-eqb c 58).0 colon in
      rw is (second_said cs n rest (rw colon at h))
      )
  | inr other ↦ none_said (c ∷ cs) n rest (rw other at h)
]

-- a time of day that was read, with the text before it
record IsReadClock (text : List ℕ) (n : ℕ) (rest : List ℕ) : Type 0 where
  hour : ℕ
  minute : ℕ
  second : Second
  hours : hour < 24
  minutes : minute < 60
  exists : IsSecond second
  spelled : text ≡ minutes_text hour minute ++ (second_text second ++ rest)
  value : hour * HOUR + minute * MINUTE + microseconds_of second ≡ n

-- the parts of a time of day, put together
clock_joined : (hour minute second text in_hour after_hour in_minute in_second rest : List ℕ) → text ≡ hour ++ in_hour
    → in_hour ≡ 58 ∷ after_hour → after_hour ≡ minute ++ in_minute → in_minute ≡ second ++ in_second → in_second ≡ rest
    → text ≡ (hour ++ (58 ∷ minute)) ++ (second ++ rest)
clock_joined hour minute second text in_hour after_hour in_minute in_second rest a b c d e =
    rw (a, b, c, d, e) (simp append_assoc)

-- a time of day
clock_said : (text : List ℕ) (n : ℕ) (rest : List ℕ) → clock_at text ≡ Ok (n, rest) → IsReadClock text n rest
unfolding clock_at
clock_said text n rest h =
    let (hour, read_hour, h1) = bind_ok _ _ _ h in
    let (after_hour, colon, h2) = bind_ok _ _ _ h1 in
    let (minute, read_minute, h3) = bind_ok _ _ _ h2 in
    let (part, read_second, last) = bind_ok _ _ _ h3 in
    let same = ok_same _ _ last in
    let (hour_spelled, hours) = below_said 24 NoSuchTime text hour.0 hour.1 read_hour in
    let after_colon = after_said 58 hour.1 after_hour colon in
    let (minute_spelled, minutes) = below_said 60 NoSuchTime after_hour minute.0 minute.1 read_minute in
    let second = seconds_said minute.1 part.0 part.1 read_second in
    let left : part.1 ≡ rest = ap (λ (x : ℕ × List ℕ). x.1) same in
    record {
      hour = hour.0;
      minute = minute.0;
      second = second.second;
      hours = hours;
      minutes = minutes;
      exists = second.exists;
      spelled = clock_joined _ _ (second_text second.second) text _ _ _ _ rest hour_spelled after_colon minute_spelled
          second.spelled left;
      value = ap (λ v. hour.0 * HOUR + minute.0 * MINUTE + v) second.value ∙ ap (λ (x : ℕ × List ℕ). x.0) same;
    }

-- lists with equal parts
same_list : {c d : ℕ} {xs ys : List ℕ} → c ≡ d → xs ≡ ys → c ∷ xs ≡ d ∷ ys
same_list first others = cc

-- hours and minutes that were read to the end of the text
record IsReadOffset (text : List ℕ) (n : ℕ) : Type 0 where
  hour : ℕ
  minute : ℕ
  hours : hour < 24
  minutes : minute < 60
  spelled : text ≡ minutes_text hour minute
  value : hour * HOUR + minute * MINUTE ≡ n

-- the parts of hours and minutes, put together
offset_joined : (hour minute text in_hour after_hour in_minute : List ℕ) → text ≡ hour ++ in_hour
    → in_hour ≡ 58 ∷ after_hour → after_hour ≡ minute ++ in_minute → in_minute ≡ [] → text ≡ hour ++ (58 ∷ minute)
offset_joined hour minute text in_hour after_hour in_minute a b c d = rw (a, b, c, d, append-nil) refl

-- hours and minutes
offset_said : (text : List ℕ) (n : ℕ) → offset_in text ≡ Ok n → IsReadOffset text n
unfolding offset_in
offset_said text n h =
    let (hour, read_hour, h1) = bind_ok _ _ _ h in
    let (after_hour, colon, h2) = bind_ok _ _ _ h1 in
    let (minute, read_minute, h3) = bind_ok _ _ _ h2 in
    let (u, end, last) = bind_ok _ _ _ h3 in
    let (hour_spelled, hours) = below_said 24 NoSuchOffset text hour.0 hour.1 read_hour in
    let (minute_spelled, minutes) = below_said 60 NoSuchOffset after_hour minute.0 minute.1 read_minute in
    record {
      hour = hour.0;
      minute = minute.0;
      hours = hours;
      minutes = minutes;
      spelled = offset_joined _ _ text _ _ _ hour_spelled (after_said 58 hour.1 after_hour colon) minute_spelled
          (at_end_said minute.1 u end);
      value = ok_same _ _ last;
    }

-- a shift
zone_said : (text : List ℕ) (zone : Zone) → zone_in text ≡ Ok zone
    → (shift : Shift) × IsShift shift × (text ≡ shift_text shift) × (zone_of shift ≡ zone)
unfolding zone_in
zone_said [] zone h = absurd (cc)
zone_said (c ∷ cs) zone h = elim (cases_Bool (c == 90)) [
  | inl z ↦ (
      let is : c ≡ 90 = (Decides-eqb c 90).0 z in
      let (u, end, last) = bind_ok _ _ _ (rw z at h) in
      (utc, tt, same_list is (at_end_said cs u end), ok_same _ _ last)
      )
  | inr no_z ↦ elim (cases_Bool (c == 43)) [
    | inl plus ↦ (
        let is : c ≡ 43 = (Decides-eqb c 43).0 plus in
        let (offset, read, last) = bind_ok _ _ _ (rw (no_z, plus) at h) in
        let said = offset_said cs offset read in (
          ahead said.hour said.minute,
          (said.hours, said.minutes),
          same_list is said.spelled,
          ap (λ v. Ahead v) said.value ∙ ok_same _ _ last,
        )
        )
    | inr no_plus ↦ elim (cases_Bool (c == 45)) [
      | inl minus ↦ (
          let is : c ≡ 45 = (Decides-eqb c 45).0 minus in
          let (offset, read, last) = bind_ok _ _ _ (rw (no_z, no_plus, minus) at h) in
          let said = offset_said cs offset read in (
            behind said.hour said.minute,
            (said.hours, said.minutes),
            same_list is said.spelled,
            ap (λ v. Behind v) said.value ∙ ok_same _ _ last,
          )
          )
      | inr other ↦ absurd (let refused = rw (no_z, no_plus, other) at h in cc)
    ]
  ]
]

-- what separates day and time
separated_said : (text rest : List ℕ) → separated text ≡ Ok rest
    → (octet : ℕ) × (((octet == 84) || (octet == 32)) ≡ true) × (text ≡ octet ∷ rest)
separated_said [] rest h = absurd (cc)
separated_said (c ∷ cs) rest h =
    let (test, same) = cond_ok _ _ _ _ h in
    (c, test, ap (λ xs. c ∷ xs) same)

-- a moment
pub read_written : (text : List ℕ) (m : ℕ) → moment_in text ≡ Ok m → Writes text m
unfolding moment_in
read_written text m h =
    let (day, read_day, h1) = bind_ok _ _ _ h in
    let (after_day, separator, h2) = bind_ok _ _ _ h1 in
    let (clock, read_clock, h3) = bind_ok _ _ _ h2 in
    let (zone, read_zone, last) = bind_ok _ _ _ h3 in
    let a = day_said text day.0 day.1 read_day in
    let (octet, is_separator, separated_text) = separated_said day.1 after_day separator in
    let b = clock_said after_day clock.0 clock.1 read_clock in
    let (shift, shifts, shift_spelled, is_zone) = zone_said clock.1 zone read_zone in
    record {
      stamp = record {
        day = a.day;
        separator = octet;
        hour = b.hour;
        minute = b.minute;
        second = b.second;
        shift = shift;
      };
      exists = record {
        day = a.exists;
        separator = is_separator;
        hour = b.hours;
        minute = b.minutes;
        second = b.exists;
        shift = shifts;
      };
      spelled = a.spelled ∙ ap (λ xs. day_text a.day ++ xs) (separated_text ∙ ap (λ xs. octet ∷ xs) (b.spelled
          ∙ ap (λ xs. minutes_text b.hour b.minute ++ (second_text b.second ++ xs)) shift_spelled));
      is_moment = rw (a.number, b.value, is_zone) last;
    }
