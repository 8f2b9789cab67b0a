-- What comes into a store over a stretch is sent, lost, or held as the stretch ends, in exact numbers.
use Rattle.std.proofs.Common.{◌≡◌, ℕ, zero, suc, ◌+◌, ◌-◌, ◌*◌, ◌<◌, ◌≤◌, min, true, false, cond, ◌==◌, List, length}
use Rattle.std.proofs.Common.{ap, ◌∙◌, inl, inr, arith}
use Rattle.std.specs.Prelude.{Contains, filter, slice_index, IsTrue}
use Rattle.std.specs.Int.{div_ceil}
use Rattle.std.specs.List.{sum_by, range_with_len}
use Rattle.std.proofs.lemmas.Bool.{cases_lt, cases_eq}
use Rattle.std.proofs.lemmas.Bool.Decides.{nat_tests}
use Rattle.std.proofs.lemmas.Nat.{mul-le}
use Rattle.mm_base.proofs.RangeSums.{sum_by_filter_range_more}
use Rattle.mm_problem.specs.Dumping.{Dumping, start, arrivals}
use Rattle.mm_plan.specs.declared.stretch.Stretch.{Stretch}
use Rattle.mm_cut.specs.Stretches.{store_of, covers}
use Rattle.mm_cut.specs.Cuts.{coming, held}
use Rattle.mm_mission.specs.declared.counter.Counter.TheVariants.{Come}
use Rattle.mm_mission.specs.declared.parts.Store.{Store}
use Rattle.mm_mission.specs.Mission.{MissionRows, store_at, is_store, IsMission}
use Rattle.mm_mission.specs.Flows.{unit_octets, come_octets, come_divisor, counted}
use Rattle.mm_mission.specs.Planned.{size_in, start_in, IsProblemOf}
use Rattle.mm_mission.specs.Edges.{AreTimes}
use Rattle.mm_mission.specs.Laws.{over}
use Rattle.mm_mission.proofs.Rounded.{div_least, up_most}
use Rattle.mm_mission.proofs.Summed.{fits_at, packet_some, unit_some, observations_rise, arrivals_add_up}
use Rattle.mm_mission_laws.specs.Exact.{Exact, IsExact, holds, loses}
use Rattle.mm_mission_laws.specs.Lost.{stretch_roundings}
use Rattle.mm_mission_laws.proofs.Level.{size_is, start_is}
use Rattle.mm_mission_laws.proofs.Split.{over_next}
use Rattle.mm_mission_laws.proofs.Places.{at_edge, at_below, at_is, at_first, at_rises, in_step, in_steps}

-- ---- numbers

divisor_some : (s : Store) → IsTrue (is_store s) → 0 < come_divisor unit_octets s
divisor_some s fits =
    let micros : 1 ≤ s.micros = grind (arith, nat_tests, fits) in
    mul-le 1 1 s.micros (unit_octets s) micros (mul-le 1 1 s.packet s.unit (packet_some s fits) (unit_some s fits))

-- what comes between two times, rounded up, is less than one unit above what comes exactly
come_most : (parts d before after x y come_x come_y units : ℕ) → 0 < d → x ≤ before * d → after * d < y + d
    → units + before ≡ after → come_x * d ≡ parts * x → come_y * d ≡ parts * y
    → parts * units + come_x ≤ come_y + parts
come_most parts d before after x y come_x come_y units some low high sum at_x at_y =
    elim (cases_lt (come_y + parts) (parts * units + come_x)) [
      | inr within ↦ within
      | inl above ↦ absurd (omega (
        arith,
        some,
        at_x,
        at_y,
        ap (λ k. parts * d * k) sum,
        mul-le parts x parts (before * d) (omega arith) low,
        mul-le parts (after * d) parts (y + d) (omega arith) (omega (arith, high)),
        mul-le (come_y + parts + 1) d (parts * units + come_x) d (omega (arith, above)) (omega arith),
      ))
    ]

-- a number of units that is rounded up
up_within : (parts unit all units exact : ℕ) → 0 < unit → units * unit < all + unit → exact * unit ≡ parts * all
    → parts * units ≤ exact + parts
up_within parts unit all units exact some up is = elim (cases_lt (exact + parts) (parts * units)) [
  | inr within ↦ within
  | inl above ↦ absurd (omega (
    arith,
    some,
    is,
    mul-le parts (units * unit) parts (all + unit) (omega arith) (omega (arith, up)),
    mul-le (exact + parts + 1) unit (parts * units) unit (omega (arith, above)) (omega arith),
  ))
]

-- and one that is rounded down
down_within : (parts unit all units exact : ℕ) → 0 < unit → all < (units + 1) * unit → exact * unit ≡ parts * all
    → exact ≤ parts * units + parts
down_within parts unit all units exact some down is = elim (cases_lt (parts * units + parts) exact) [
  | inr within ↦ within
  | inl above ↦ absurd (omega (
    arith,
    some,
    is,
    mul-le parts all parts ((units + 1) * unit) (omega arith) (omega (arith, down)),
    mul-le (parts * units + parts + 1) unit exact unit (omega (arith, above)) (omega arith),
  ))
]

-- ---- a store

module _ (e : Exact) (s : ℕ) where
  -- what is sent, lost and held grows by what comes
  one_step : (k : ℕ) → holds e s k + e.come s (suc k) ≤ e.come s k + e.sent s (suc k) + loses e s (suc k)
      + holds e s (suc k)
  unfolding holds
  one_step k =
      let before : suc k - 1 ≡ k = omega arith in
      let stood = ap (holds e s) before in
      let came = ap (λ j. e.come s (suc k) - e.come s j) before in
      omega (arith, stood, came)

  grows_by : (k n : ℕ) → holds e s k + e.come s (k + n) + over (e.sent s) 0 k + over (loses e s) 0 k
      ≤ e.come s k + over (e.sent s) 0 (k + n) + over (loses e s) 0 (k + n) + holds e s (k + n)
  grows_by k zero =
      let here : k + 0 ≡ k = omega arith in
      rw here (omega arith)
  grows_by k (suc n) =
      let next : k + suc n ≡ suc (k + n) = omega arith in
      rw next (omega (
        arith,
        grows_by k n,
        one_step (k + n),
        over_next (e.sent s) (k + n),
        over_next (loses e s) (k + n),
      ))

  fits : (k : ℕ) → 1 ≤ k → holds e s k ≤ e.size s
  unfolding holds
  fits zero some = absurd (omega arith)
  fits (suc k) some = omega arith

-- ---- a stretch

-- the sum over the steps of a stretch
covered : (f : ℕ → ℕ) (d : Stretch) (n : ℕ) → 1 ≤ d.first → d.first ≤ d.last
    → sum_by f (filter (covers d) (range_with_len 1 n)) + over f 0 (min n (d.first - 1)) ≡ over f 0 (min n d.last)
covered f d zero first order =
    let none : min 0 (d.first - 1) ≡ 0 = omega arith in
    let none_too : min 0 d.last ≡ 0 = omega arith in
    rw (none, none_too) (omega arith)
covered f d (suc n) first order =
    let one : n + 1 ≡ suc n = omega arith in
    let more = rw one at (sum_by_filter_range_more (covers d) f 1 n (suc n) (omega arith)) in
    let before = covered f d n first order in
    let next = over_next f n in
    elim (cases_lt (suc n) d.first) [
      | inl earlier ↦
          let test : covers d (suc n) ≡ false = grind (arith, nat_tests) in
          let low : min (suc n) (d.first - 1) ≡ suc n = omega arith in
          let high : min (suc n) d.last ≡ suc n = omega arith in
          let low_before : min n (d.first - 1) ≡ n = omega arith in
          let high_before : min n d.last ≡ n = omega arith in
          let so_far = rw (low_before, high_before) at before in
          let here = rw test at more in
          rw (low, high) (omega (arith, so_far, here, next))
      | inr begun ↦ elim (cases_lt d.last (suc n)) [
        | inl later ↦
            let test : covers d (suc n) ≡ false = grind (arith, nat_tests) in
            let low : min (suc n) (d.first - 1) ≡ d.first - 1 = omega arith in
            let high : min (suc n) d.last ≡ d.last = omega arith in
            let low_before : min n (d.first - 1) ≡ d.first - 1 = omega arith in
            let high_before : min n d.last ≡ d.last = omega arith in
            let so_far = rw (low_before, high_before) at before in
            let here = rw test at more in
            rw (low, high) (omega (arith, so_far, here))
        | inr inside ↦
            let test : covers d (suc n) ≡ true = grind (arith, nat_tests) in
            let low : min (suc n) (d.first - 1) ≡ d.first - 1 = omega arith in
            let high : min (suc n) d.last ≡ suc n = omega arith in
            let low_before : min n (d.first - 1) ≡ d.first - 1 = omega arith in
            let high_before : min n d.last ≡ n = omega arith in
            let so_far = rw (low_before, high_before) at before in
            let here = rw test at more in
            rw (low, high) (omega (arith, so_far, here, next))
      ]
    ]

-- where all its steps are among them
pub over_stretch : (f : ℕ → ℕ) (d : Stretch) (n : ℕ) → 1 ≤ d.first → d.first ≤ d.last → d.last ≤ n
    → sum_by f (filter (covers d) (range_with_len 1 n)) + over f 0 (d.first - 1) ≡ over f 0 d.last
over_stretch f d n first order last =
    let low : min n (d.first - 1) ≡ d.first - 1 = omega arith in
    let high : min n d.last ≡ d.last = omega arith in
    rw (low, high) at (covered f d n first order)

module _ (m : MissionRows) (edges : List ℕ) (q : Dumping) (e : Exact) (h : IsMission m) (are : AreTimes m edges)
    (of : IsProblemOf m edges q) (exact : IsExact m e) (each : (t : ℕ) → Contains edges t → Contains e.times t)
    (d : Stretch) (below : store_of q d < length m.stores) (first : 1 ≤ d.first) (order : d.first ≤ d.last)
    (last : d.last < length edges)
  where
    abbrev s : ℕ
    s = store_of q d

    abbrev at : ℕ → ℕ
    at = at_edge m edges e.times are exact.times each

    abbrev in_stretch : (ℕ → ℕ) → ℕ
    in_stretch f = sum_by f (filter (covers d) (range_with_len 1 (length edges - 1)))

    -- what has come in the stretch, in units
    units_came : e.parts * in_stretch (arrivals q s) + e.come s (at (d.first - 1)) ≤ e.come s (at d.last) + e.parts
    units_came =
        let i = d.first - 1 in
        let j = d.last in
        let all = over_stretch (arrivals q s) d (length edges - 1) first order (omega (arith, last)) in
        let before = arrivals_add_up m s h edges q i are of below (omega (arith, last, order)) in
        let after = arrivals_add_up m s h edges q j are of below last in
        let is : (n : ℕ) → n < length edges
        → e.come s (at n) * come_divisor unit_octets (store_at m s) ≡ e.parts * come_octets m s (slice_index edges n) =
        λ n inside. exact.come s (at n) below (at_below m edges e.times are exact.times each n inside)
        ∙ ap (λ c. e.parts * come_octets m s c) (at_is m edges e.times are exact.times each n inside) in
        come_most e.parts (come_divisor unit_octets (store_at m s)) (counted m (Come s) (slice_index edges i))
        (counted m (Come s) (slice_index edges j)) (come_octets m s (slice_index edges i))
        (come_octets m s (slice_index edges j)) (e.come s (at i)) (e.come s (at j)) (in_stretch (arrivals q s))
        (divisor_some (store_at m s) (fits_at m s h below))
        (observations_rise m s h (slice_index edges i) below).0.least
        (observations_rise m s h (slice_index edges j) below).0.most (omega (arith, all, before, after))
        (is i (omega (arith, last, order))) (is j last)

    -- what its store may hold as it ends
    size_within : e.size s ≤ e.parts * held q d + e.parts
    size_within =
        let u = (store_at m s).unit in
        let some = unit_some (store_at m s) (fits_at m s h below) in
        let is = size_is m edges q (λ _ _. 0) s h below of d.last in
        rw is (down_within e.parts u (store_at m s).size (size_in (store_at m s)) (e.size s) some
        (div_least u some (store_at m s).size) (exact.size s below))

    -- what it held as the mission began
    start_within : e.parts * start q s ≤ e.start s + e.parts
    start_within =
        let u = (store_at m s).unit in
        let some = unit_some (store_at m s) (fits_at m s h below) in
        let is = start_is m edges q (λ _ _. 0) s h below of in
        let up = up_most u some (store_at m s).start in
        let fewer = mul-le (start_in (store_at m s)) u (div_ceil (store_at m s).start u) u (omega arith)
        (omega arith) in
        rw is (up_within e.parts u (store_at m s).start (start_in (store_at m s)) (e.start s) some
        (omega (arith, up, fewer)) (exact.start s below))

    opening_within : e.parts * cond (d.first == 1) (start q s) 0 ≤ holds e s (at (d.first - 1))
        + e.parts * cond (d.first == 1) 1 0
    unfolding holds
    opening_within = elim (cases_eq d.first 1) [
      | inl one ↦
          let test : (d.first == 1) ≡ true = grind (arith, nat_tests) in
          let none : d.first - 1 ≡ 0 = omega arith in
          let begin : at (d.first - 1) ≡ 0 = ap at none ∙ at_first m edges e.times are exact.times each in
          rw (test, begin) (omega (arith, start_within))
      | inr later ↦
          let test : (d.first == 1) ≡ false = grind (arith, nat_tests) in
          rw test (omega arith)
    ]

    -- what comes in is sent, lost or held
    pub kept_within : sum_by (arrivals q s) (filter (covers d) (range_with_len 1 (length edges - 1)))
        ≡ sum_by (arrivals q s) (filter (covers d) (range_with_len 1 (length q.windows)))
        → e.parts * coming q d
        ≤ in_stretch (in_step m edges e.times are exact.times each (loses e s))
        + in_stretch (in_step m edges e.times are exact.times each (e.sent s)) + e.parts * held q d
        + e.parts * stretch_roundings d
    kept_within same =
        let i = at (d.first - 1) in
        let j = at d.last in
        let rising = at_rises m edges e.times are exact.times each (d.first - 1) d.last (omega (arith, first, order))
        last in
        let there : i + (j - i) ≡ j = omega (arith, rising) in
        let grown = rw there at (grows_by e s i (j - i)) in
        let room = fits e s j (omega (arith, rising)) in
        let step : (ℕ → ℕ) → ℕ → ℕ = in_step m edges e.times are exact.times each in
        let between : (f : ℕ → ℕ) → in_stretch (step f) + over f 0 i ≡ over f 0 j =
        λ f. omega (
          arith,
          over_stretch (step f) d (length edges - 1) first order (omega (arith, last)),
          in_steps m edges e.times are exact.times each f (d.first - 1) (omega (arith, last, order)),
          in_steps m edges e.times are exact.times each f d.last last,
        ) in
        let all : e.parts * coming q d
        ≡ e.parts * cond (d.first == 1) (start q s) 0 + e.parts * in_stretch (arrivals q s) =
        omega (arith, ap (λ k. e.parts * k) same) in
        let rounded : e.parts * stretch_roundings d ≡ e.parts * cond (d.first == 1) 1 0 + e.parts + e.parts =
        elim (cases_eq d.first 1) [
          | inl one ↦
              let test : (d.first == 1) ≡ true = grind (arith, nat_tests) in
              rw test (omega arith)
          | inr later ↦
              let test : (d.first == 1) ≡ false = grind (arith, nat_tests) in
              rw test (omega arith)
        ] in
        omega (
          arith,
          grown,
          room,
          between (loses e s),
          between (e.sent s),
          all,
          rounded,
          units_came,
          size_within,
          opening_within,
        )
