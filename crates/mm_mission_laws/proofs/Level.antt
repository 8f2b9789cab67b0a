-- What a store holds has room.
use Rattle.std.proofs.Common.{◌≡◌, ℕ, zero, suc, ◌+◌, ◌-◌, ◌*◌, ◌<◌, ◌≤◌, List, length, true, ap, inl, inr, arith}
use Rattle.std.specs.Prelude.{slice_index}
use Rattle.std.proofs.lemmas.Bool.{cases_lt}
use Rattle.std.proofs.lemmas.Bool.Decides.{nat_tests}
use Rattle.std.proofs.lemmas.List.{get_or-map}
use Rattle.std.proofs.lemmas.Nat.{mul-le}
use Rattle.mm_base.specs.declared.rows.StoreRow.{StoreRow}
use Rattle.mm_base.proofs.RangeSums.{sum_by_range_more, sum_by_range_same}
use Rattle.mm_problem.specs.Dumping.{Dumping, row, no_row, start, size, arrivals}
use Rattle.mm_plan.specs.Volumes.{left, lost}
use Rattle.mm_plan.proofs.Steps.{left_start, left_size, step_balance}
use Rattle.mm_mission.specs.declared.counter.Counter.TheVariants.{Come, Packets}
use Rattle.mm_mission.specs.declared.packets.PacketStep.{PacketStep}
use Rattle.mm_mission.specs.Mission.{MissionRows, no_store, store_at, IsMission}
use Rattle.mm_mission.specs.Flows.{packet_octets, unit_octets, come_octets, come_divisor, counted}
use Rattle.mm_mission.specs.Edges.{AreEdges}
use Rattle.mm_mission.specs.Planned.{size_in, start_in, row_of, IsProblemOf}
use Rattle.mm_mission.specs.Packets.{held, arrived_in, held_by, step_in, AreSentBy}
use Rattle.mm_mission.specs.Timeline.{is_in_pass}
use Rattle.mm_mission.specs.Laws.{IsRoundedUp, over, AreWithin, lost_in}
use Rattle.mm_mission.proofs.Rising.{rises_by}
use Rattle.mm_mission.proofs.Grown.{steps_grow}
use Rattle.mm_mission.proofs.Summed.{fits_at, units_rise, packets_rise, observations_rise, arrivals_add_up}
use Rattle.mm_mission.proofs.Summed.{packets_add_up}
use Rattle.mm_mission.proofs.Stepped.{step_at, held_at}
use Rattle.mm_mission.proofs.Passed.{in_some_pass, some_sent}
use Rattle.mm_mission.proofs.Arrived.{all_come_even}
use Rattle.mm_mission_laws.specs.Room.{HaveBegun}

-- ---- numbers

-- between two times, what is rounded up lies less than one above what is rounded up at both of them
between : (before after now x y z d p w : ℕ) → 0 < p + w → x ≤ before * d → y ≤ after * d → now * d < z + d
    → x * w + y * p ≡ z * (p + w) → now * (p + w) < before * w + after * p + (p + w)
between before after now x y z d p w some low high here even =
    elim (cases_lt (now * (p + w)) (before * w + after * p + (p + w))) [
      | inl below ↦ below
      | inr above ↦ absurd (omega (
        arith,
        even,
        mul-le x w (before * d) w low (omega arith),
        mul-le y p (after * d) p high (omega arith),
        mul-le (now * d + 1) (p + w) (z + d) (p + w) (omega (arith, here)) (omega arith),
        mul-le (before * w + after * p + (p + w)) d (now * (p + w)) d above (omega arith),
        some,
      ))
    ]

-- whole units within a bound that is not reached
whole_within : (units bound long : ℕ) → units * long < (bound + 1) * long → units ≤ bound
whole_within units bound long sent = elim (cases_lt bound units) [
  | inl above ↦ absurd (omega (arith, sent, mul-le (bound + 1) long units long (omega arith) (omega arith)))
  | inr within ↦ within
]

no_less : (units bound long : ℕ) → 0 < long → units * long ≤ bound * long → units ≤ bound
no_less units bound long some sent = whole_within units bound long (omega (arith, sent, some))

-- ---- what is sent evenly leaves room

module _ (m : MissionRows) (edges : List ℕ) (h : IsMission m) (are : AreEdges m edges) (y : ℕ → ℕ → ℕ)
    (s t time units : ℕ) (first : 1 ≤ t) (last : t < length edges) (begun : HaveBegun edges y s t time units)
    (lies : 0 < y s t
    → is_in_pass m.passes (record { begin = slice_index edges (t - 1); end = slice_index edges t }) ≡ true)
  where
    have_room : (held d size before after : ℕ) (come : ℕ → ℕ) → ((c : ℕ) → IsRoundedUp (come_octets m s c) d (come c))
        → come time ≤ come (slice_index edges t) → before ≤ after
        → held + come (slice_index edges (t - 1)) ≤ size + before + over (y s) 0 (t - 1)
        → held + come (slice_index edges t) ≤ size + after + over (y s) 0 t
        → held + come time ≤ size + after + units
    have_room held d size before after come up rising more low high =
        let a = slice_index edges (t - 1) in
        let b = slice_index edges t in
        let p = time - a in
        let w = b - time in
        let sent = over (y s) 0 (t - 1) in
        let amount = y s t in
        let next : t - 1 + 1 ≡ t = omega arith in
        let far = rises_by edges are.times.rising (t - 1) 1 (omega arith) in
        let long : a < b = omega (arith, rw next at far) in
        let sum = rw next at (sum_by_range_more (y s) 1 (t - 1) t (omega arith)) in
        elim (cases_lt 0 amount) [
          | inr none ↦
              let enough = no_less sent units (b - a) (omega (arith, long)) (omega (arith, begun.sent)) in
              omega (arith, enough, high, rising, sum, none)
          | inl some ↦
              let even = all_come_even m edges h are t first last (lies some) time begun.begin begun.end long s in
              let less = between (come a) (come b) (come time) (come_octets m s a) (come_octets m s b)
              (come_octets m s time) d p w (omega (arith, begun.begin, begun.end, long)) (up a).least (up b).least
              (up time).most even in
              let length_is : p + w ≡ b - a = omega (arith, begun.begin, begun.end) in
              let so_far : sent * (p + w) + amount * p ≤ units * (p + w) = rw (← length_is) at begun.sent in
              let low_part = mul-le (held + come a) w (size + before + sent) w low (omega arith) in
              let whole : held + come b ≤ size + after + sent + amount = omega (arith, high, sum) in
              let high_part = mul-le (held + come b) p (size + after + sent + amount) p whole (omega arith) in
              let more_part = mul-le before w after w more (omega arith) in
              whole_within (held + come time) (size + after + units) (p + w)
              (omega (arith, so_far, low_part, high_part, more_part, less))
        ]

-- ---- what is held, sent and lost

module _ (m : MissionRows) (edges : List ℕ) (q : Dumping) (x : ℕ → ℕ → ℕ) (s : ℕ) (h : IsMission m)
    (below : s < length m.stores)
  where
    -- packets that were held or have arrived have been sent, have been lost or are held
    packets_balance : (n : ℕ) → (store_at m s).start + over (arrived_in m edges s) 0 n
        ≡ over (λ t. (step_in m edges x s t).dumped) 0 n + over (lost_in m edges x s) 0 n + held_by m edges x s n
    unfolding held
    packets_balance zero = omega arith
    packets_balance (suc n) =
        let dumped : ℕ → ℕ = λ t. (step_in m edges x s t).dumped in
        let one : n + 1 ≡ suc n = omega arith in
        let more = rw one at (sum_by_range_more dumped 1 n (suc n) (omega arith)) in
        let come = rw one at (sum_by_range_more (arrived_in m edges s) 1 n (suc n) (omega arith)) in
        let lose = rw one at (sum_by_range_more (lost_in m edges x s) 1 n (suc n) (omega arith)) in
        let sent_is = ap (λ (e : PacketStep). e.dumped) (step_at m edges x s n) in
        let lost_is = ap (λ (e : PacketStep). e.lost) (step_at m edges x s n) in
        omega (arith, packets_balance n, more, come, lose, sent_is, lost_is, held_at m edges x s n)

    packets_fit : (n : ℕ) → held_by m edges x s n ≤ (store_at m s).size
    unfolding held
    packets_fit zero = let fits = fits_at m s h below in grind (arith, nat_tests, fits)
    packets_fit (suc n) = omega (arith, held_at m edges x s n)

    -- the same of units
    units_balance : (n : ℕ) → start q s + over (arrivals q s) 0 n
        ≤ over (x s) 0 n + over (lost q x s) 0 n + left q x s n
    units_balance zero = omega (arith, left_start q x s)
    units_balance (suc n) =
        let one : n + 1 ≡ suc n = omega arith in
        let before : suc n - 1 ≡ n = omega arith in
        let more = rw one at (sum_by_range_more (x s) 1 n (suc n) (omega arith)) in
        let come = rw one at (sum_by_range_more (arrivals q s) 1 n (suc n) (omega arith)) in
        let lose = rw one at (sum_by_range_more (lost q x s) 1 n (suc n) (omega arith)) in
        let here = step_balance q x s n (suc n) one in
        let stood = ap (left q x s) before in
        omega (arith, units_balance n, more, come, lose, here, stood)

    module _ (of : IsProblemOf m edges q) where
      pub row_is : row q s ≡ row_of (store_at m s)
      row_is = rw of.rows (get_or-map row_of m.stores s no_store no_row below)

      pub size_is : (t : ℕ) → size q s t ≡ size_in (store_at m s)
      unfolding size
      size_is t = rw of.one_size (ap (λ (r : StoreRow). r.size) row_is)

      pub start_is : start q s ≡ start_in (store_at m s)
      start_is = ap (λ (r : StoreRow). r.start) row_is

      units_fit : (n t : ℕ) → left q x s n ≤ size q s t
      units_fit zero t = omega (arith, left_start q x s, start_is, size_is t)
      units_fit (suc n) t =
          let one : n + 1 ≡ suc n = omega arith in
          omega (arith, left_size q x s n (suc n) one, size_is (suc n), size_is t)

-- ---- the laws

module _ (m : MissionRows) (edges : List ℕ) (q : Dumping) (x : ℕ → ℕ → ℕ) (s t : ℕ) (h : IsMission m)
    (are : AreEdges m edges) (of : IsProblemOf m edges q) (within : AreWithin m edges q x) (below : s < length m.stores)
    (first : 1 ≤ t) (last : t < length edges)
  where
    -- a step in which a store is to send lies in a pass
    lies_in : 0 < x s t
        → is_in_pass m.passes (record { begin = slice_index edges (t - 1); end = slice_index edges t }) ≡ true
    lies_in some =
        let window_is = (steps_grow m edges q t of first last).window in
        in_some_pass m edges h are t first last (omega (arith, some, within s t below first last, window_is))

    -- what a sum grows by in the step
    grows : (f : ℕ → ℕ) → over f 0 (t - 1) ≤ over f 0 t
    grows f =
        let next : t - 1 + 1 ≡ t = omega arith in
        omega (arith, rw next at (sum_by_range_more f 1 (t - 1) t (omega arith)))

    pub units_have_room : (time units : ℕ) → HaveBegun edges x s t time units
        → start q s + counted m (Come s) time ≤ size q s t + over (lost q x s) 0 t + units
    units_have_room time units begun =
        let there : (n : ℕ) → n < length edges → start q s + counted m (Come s) (slice_index edges n)
        ≤ size q s t + over (lost q x s) 0 n + over (x s) 0 n =
        λ n inside. omega (
          arith,
          units_balance m edges q x s h below n,
          units_fit m edges q x s h below of n t,
          arrivals_add_up m s h edges q n are.times of below inside,
        ) in
        have_room m edges h are x s t time units first last begun lies_in (start q s)
        (come_divisor unit_octets (store_at m s)) (size q s t) (over (lost q x s) 0 (t - 1)) (over (lost q x s) 0 t)
        (counted m (Come s)) (λ c. (observations_rise m s h c below).0)
        (units_rise m s h time (slice_index edges t) begun.end) (grows (lost q x s)) (there (t - 1) (omega arith))
        (there t last)

    pub packets_have_room : (packets : ℕ → ℕ → ℕ) (time count : ℕ) → AreSentBy m edges x packets
        → HaveBegun edges packets s t time count → (store_at m s).start + counted m (Packets s) time
        ≤ (store_at m s).size + over (lost_in m edges x s) 0 t + count
    packets_have_room packets time count by begun =
        let there : (n : ℕ) → n < length edges
        → (store_at m s).start + counted m (Packets s) (slice_index edges n)
        ≤ (store_at m s).size + over (lost_in m edges x s) 0 n + over (packets s) 0 n =
        λ n inside.
        let same = sum_by_range_same (packets s) (λ u. (step_in m edges x s u).dumped) 1 n
        (λ u low high. by s u below low (omega arith)) in
        omega (
          arith,
          same,
          packets_balance m edges q x s h below n,
          packets_fit m edges q x s h below n,
          packets_add_up m s h edges n are.times inside,
        ) in
        have_room m edges h are packets s t time count first last begun
        (λ some. lies_in (some_sent m edges x s t (omega (arith, some, by s t below first last)))) (store_at m s).start
        (come_divisor packet_octets (store_at m s)) (store_at m s).size (over (lost_in m edges x s) 0 (t - 1))
        (over (lost_in m edges x s) 0 t) (counted m (Packets s)) (λ c. (observations_rise m s h c below).1)
        (packets_rise m s h time (slice_index edges t) begun.end) (grows (lost_in m edges x s))
        (there (t - 1) (omega arith)) (there t last)
