-- Paces at which units flow.
use Rattle.std.proofs.Common.{◌≡◌, ℕ, zero, suc, ◌+◌, ◌*◌, ◌/◌, ◌<◌, ◌≤◌, min, List, [], ◌∷◌, get_or, Option, Some}
use Rattle.std.proofs.Common.{None}
use Rattle.std.proofs.Common.{refl, subst, ap, inl, inr, true, false, ◌==◌, arith}
use Rattle.std.specs.Prelude.{IsTrue, IfSome, nat_lt, option_map, ◌⊎◌}
use Rattle.std.specs.List.{list_all}
use Rattle.std.proofs.lemmas.Bool.{cases_lt, cases_eq, and_parts}
use Rattle.std.proofs.lemmas.Bool.Decides.{nat_tests}
use Rattle.std.proofs.lemmas.Nat.{mul-le, le-div}
use Rattle.mm_mission.specs.declared.parts.Rate.{Rate}
use Rattle.mm_mission.specs.declared.parts.Pass.{Pass}
use Rattle.mm_mission.specs.Mission.{MissionRows, is_rate, is_own_rate, is_pass}
use Rattle.mm_mission.specs.Flows.{largest, octets_on, Pace, pace, whole_units, slower, own_rate, link_pace, own_pace}
use Rattle.mm_mission.specs.Flows.{pace_on}
use Rattle.mm_mission.specs.Laws.{IsKept}
use Rattle.mm_mission.proofs.Rounded.{div_most}

-- a unit has octets
octets_some : (m : MissionRows) (channel : Option ℕ) → 1 ≤ octets_on m channel
octets_some m channel = elim (cases_eq (largest m channel) 0) [
  | inl none ↦
      let test : (largest m channel == 0) ≡ true = grind (arith, nat_tests) in
      rw test (omega arith)
  | inr some ↦
      let test : (largest m channel == 0) ≡ false = grind (arith, nat_tests) in
      rw test (omega arith)
]

-- there is something to divide by
pub pace_some : (octets : ℕ) (r : Rate) → 1 ≤ octets → IsTrue (is_rate r) → 0 < (pace octets r).divisor
pace_some octets r some fits =
    let micros : 1 ≤ r.micros = grind (arith, nat_tests, fits) in
    mul-le 1 1 r.micros octets micros some

pass_rate : (lasts : ℕ) (p : Pass) → IsTrue (is_pass lasts p) → IsTrue (is_rate p.rate)
pass_rate lasts p fits = grind (arith, nat_tests, fits)

own_rates : (lasts : ℕ) (p : Pass) → IsTrue (is_pass lasts p) → IsTrue (list_all is_own_rate p.channels)
own_rates lasts p fits = grind (arith, nat_tests, fits)

own_at : (rates : List (Option Rate)) (c : ℕ) → list_all is_own_rate rates ≡ true
    → IsTrue (is_own_rate (get_or rates c None))
own_at [] c all = refl
own_at (r ∷ rates) zero all = (and_parts (is_own_rate r) (list_all is_own_rate rates) all).0
own_at (r ∷ rates) (suc c) all = own_at rates c (and_parts (is_own_rate r) (list_all is_own_rate rates) all).1

own_fits : (lasts : ℕ) (p : Pass) (channel : Option ℕ) → IsTrue (is_pass lasts p)
    → IsTrue (is_own_rate (own_rate channel p))
own_fits lasts p None fits = refl
own_fits lasts p (Some c) fits = own_at p.channels c (own_rates lasts p fits)

-- a pace is no faster than another one
abbrev pub IsNoFaster : Pace → Pace → Type 0
IsNoFaster f g = f.octets * g.divisor ≤ g.octets * f.divisor

module _ (f g : Pace) (some : 0 < f.divisor) (other : 0 < g.divisor) (slow : IsNoFaster f g) where
  -- no more units flow
  whole_less : (time : ℕ) → whole_units f time ≤ whole_units g time
  unfolding whole_units
  whole_less time =
      let n = f.octets * time / f.divisor in
      let most = mul-le (n * f.divisor) g.divisor (f.octets * time) g.divisor
      (div_most f.divisor some (f.octets * time)) (omega arith) in
      let scaled = mul-le (f.octets * g.divisor) time (g.octets * f.divisor) time slow (omega arith) in
      le-div n (g.octets * time) g.divisor other (elim (cases_lt (g.octets * time) (n * g.divisor)) [
        | inr within ↦ within
        | inl above ↦ absurd (omega (
          arith,
          most,
          scaled,
          some,
          mul-le (g.octets * time + 1) f.divisor (n * g.divisor) f.divisor (omega arith) (omega arith),
        ))
      ])

  -- what keeps the first keeps the other one
  kept_by : (time units : ℕ) (from_begin : Type 0) → IsKept time units from_begin f → IsKept time units from_begin g
  kept_by time units from_begin kept =
      let scaled = mul-le (f.octets * g.divisor) time (g.octets * f.divisor) time slow (omega arith) in
      record {
        less = elim (cases_lt (units * g.divisor) (g.octets * time + g.divisor)) [
          | inl less ↦ less
          | inr above ↦ absurd (omega (
            arith,
            scaled,
            other,
            mul-le (units * f.divisor + 1) g.divisor (f.octets * time + f.divisor) g.divisor (omega (arith, kept.less))
                (omega arith),
            mul-le (g.octets * time + g.divisor) f.divisor (units * g.divisor) f.divisor above (omega arith),
          ))
        ];
        no_more = λ first. elim (cases_lt (g.octets * time) (units * g.divisor)) [
          | inr within ↦ within
          | inl above ↦ absurd (omega (
            arith,
            scaled,
            some,
            mul-le (units * f.divisor) g.divisor (f.octets * time) g.divisor (kept.no_more first) (omega arith),
            mul-le (g.octets * time + 1) f.divisor (units * g.divisor) f.divisor (omega arith) (omega arith),
          ))
        ];
      }

module _ (f : Pace) (some : 0 < f.divisor) where
  -- the slower of two paces is one of them, and no faster than either
  module _ (g : Pace) (other : 0 < g.divisor) where
    slower_cases : (IsNoFaster g f × (slower f (Some g) ≡ g)) ⊎ (IsNoFaster f g × (slower f (Some g) ≡ f))
    slower_cases = elim (cases_lt (g.octets * f.divisor) (f.octets * g.divisor)) [
      | inl less ↦
          let test : nat_lt (g.octets * f.divisor) (f.octets * g.divisor) ≡ true = grind (arith, nat_tests) in
          inl (omega arith, rw test refl)
      | inr not_less ↦
          let test : nat_lt (g.octets * f.divisor) (f.octets * g.divisor) ≡ false = grind (arith, nat_tests) in
          inr (not_less, rw test refl)
    ]

    -- its units are the fewer of both
    pub slower_units : (time : ℕ) → whole_units (slower f (Some g)) time ≡ min (whole_units g time) (whole_units f time)
    slower_units time = elim slower_cases [
      | inl second ↦ rw second.1 (omega (arith, whole_less g f other some second.0 time))
      | inr first ↦ rw first.1 (omega (arith, whole_less f g some other first.0 time))
    ]

  -- of a pace and of another one, if there is another
  slower_some : (o : Option Pace) → IfSome o (λ g. 0 < g.divisor) → 0 < (slower f o).divisor
  slower_some None others = some
  slower_some (Some g) other = elim (slower_cases g other) [
    | inl second ↦ rw second.1 other
    | inr first ↦ rw first.1 some
  ]

  slower_kept : (o : Option Pace) (time units : ℕ) (from_begin : Type 0) → IfSome o (λ g. 0 < g.divisor)
      → IsKept time units from_begin (slower f o)
      → IsKept time units from_begin f × IfSome o (IsKept time units from_begin)
  slower_kept None time units from_begin others kept = (kept, tt)
  slower_kept (Some g) time units from_begin other kept = elim (slower_cases g other) [
    | inl second ↦
        let own = rw second.1 at kept in
        (kept_by g f other some second.0 time units from_begin own, own)
    | inr first ↦
        let own = rw first.1 at kept in
        (own, kept_by f g some other first.0 time units from_begin own)
  ]

-- ---- paces of a pass

module _ (m : MissionRows) (channel : Option ℕ) (p : Pass) (fits : IsTrue (is_pass m.lasts p)) where
  link_some : 0 < (link_pace m p).divisor
  link_some = pace_some (octets_on m None) p.rate (octets_some m None) (pass_rate m.lasts p fits)

  own_some : IfSome (own_pace m channel p) (λ g. 0 < g.divisor)
  own_some = some_of (own_rate channel p) (own_fits m.lasts p channel fits)
    where
      some_of : (o : Option Rate) → IsTrue (is_own_rate o)
          → IfSome (option_map (pace (octets_on m channel)) o) (λ g. 0 < g.divisor)
      some_of None own = tt
      some_of (Some r) own = pace_some (octets_on m channel) r (octets_some m channel) own

  pub pace_on_some : 0 < (pace_on m channel p).divisor
  pace_on_some = slower_some (link_pace m p) link_some (own_pace m channel p) own_some

  -- what keeps the pace keeps that of the link, and that of a channel's own rate
  pub both_kept : (time units : ℕ) (from_begin : Type 0) → IsKept time units from_begin (pace_on m channel p)
      → IsKept time units from_begin (link_pace m p) × IfSome (own_pace m channel p) (IsKept time units from_begin)
  both_kept time units from_begin kept =
      slower_kept (link_pace m p) link_some (own_pace m channel p) time units from_begin own_some kept

  -- of a channel that has its own rate, the fewer units of both flow
  pub own_units : (r : Rate) (time : ℕ) → own_rate channel p ≡ Some r → whole_units (pace_on m channel p) time
      ≡ min (whole_units (pace (octets_on m channel) r) time) (whole_units (link_pace m p) time)
  own_units r time has =
      let own : own_pace m channel p ≡ Some (pace (octets_on m channel) r) =
      ap (option_map (pace (octets_on m channel))) has in
      let some : 0 < (pace (octets_on m channel) r).divisor = subst (λ o. IfSome o (λ g. 0 < g.divisor)) own own_some in
      rw own (slower_units (link_pace m p) link_some (pace (octets_on m channel) r) some time)
