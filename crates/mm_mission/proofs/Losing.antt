-- What a plan loses in packets.
use Rattle.std.proofs.Common.{◌≡◌, ℕ, zero, suc, ◌+◌, ◌-◌, ◌*◌, ◌/◌, ◌<◌, ◌≤◌, List, true, false, cond, nat_lt, min}
use Rattle.std.proofs.Common.{length}
use Rattle.std.proofs.Common.{ap, ◌∙◌, inl, inr, arith}
use Rattle.std.specs.Prelude.{slice_index}
use Rattle.std.specs.Int.{div_ceil}
use Rattle.std.proofs.lemmas.Bool.{cases_Bool, cases_lt}
use Rattle.std.proofs.lemmas.Bool.Decides.{nat_tests}
use Rattle.std.proofs.lemmas.List.{get_or-map}
use Rattle.std.proofs.lemmas.Nat.{mul-le}
use Rattle.std.proofs.Math.Nat.{mul-sub}
use Rattle.mm_base.specs.declared.rows.StoreRow.{StoreRow}
use Rattle.mm_base.proofs.RangeSums.{sum_by_range_more}
use Rattle.mm_problem.specs.Dumping.{Dumping, row, no_row, size, start, arrivals}
use Rattle.mm_problem.specs.declared.come.Arrivals.TheVariants.{During}
use Rattle.mm_plan.specs.Volumes.{left_by, lost_by, left, lost}
use Rattle.mm_mission.specs.declared.counter.Counter.TheVariants.{Come, Packets}
use Rattle.mm_mission.specs.declared.packets.PacketStep.{PacketStep}
use Rattle.mm_mission.specs.declared.parts.Store.{Store}
use Rattle.mm_mission.specs.Mission.{MissionRows, no_store, store_at, IsMission}
use Rattle.mm_mission.specs.Flows.{counted}
use Rattle.mm_mission.specs.Edges.{AreTimes}
use Rattle.mm_mission.specs.Planned.{size_in, start_in, row_of, IsProblemOf}
use Rattle.mm_mission.specs.Packets.{held, arrived_in, held_by}
use Rattle.mm_mission.specs.Laws.{IsRoundedUp, over, not_come, is_short, late, above, lost_in}
use Rattle.mm_mission.proofs.Rising.{rises}
use Rattle.mm_mission.proofs.Rounded.{div_most, div_least, up_least}
use Rattle.mm_mission.proofs.Summed.{fits_at, unit_some, observations_rise, no_units, units_rise, packets_rise}
use Rattle.mm_mission.proofs.Grown.{steps_grow}
use Rattle.mm_mission.proofs.Stepped.{step_at, held_at}

-- ---- numbers

-- units that have begun to come have the packets that have, and less than a unit more
module _ (amount micros packet unit units packets : ℕ) (up : IsRoundedUp amount (micros * (packet * unit)) units)
    (each : IsRoundedUp amount (micros * packet) packets)
  where
    begun_least : packets ≤ unit * units
    begun_least = elim (cases_lt (unit * units) packets) [
      | inr within ↦ within
      | inl above ↦ absurd (omega (
        arith,
        up.least,
        each.most,
        mul-le (unit * units + 1) (micros * packet) packets (micros * packet) (omega arith) (omega arith),
      ))
    ]

    begun_most : unit * units < packets + unit
    begun_most = elim (cases_lt (unit * units) (packets + unit)) [
      | inl within ↦ within
      | inr above ↦ absurd (omega (
        arith,
        up.most,
        each.least,
        mul-le (packets + unit) (micros * packet) (unit * units) (micros * packet) above (omega arith),
      ))
    ]

mul_min : (u a b : ℕ) → u * min a b ≡ min (u * a) (u * b)
mul_min u a b = elim (cases_lt a b) [
  | inl less ↦
      let small : min a b ≡ a = omega arith in
      rw small (omega (arith, mul-le u a u b (omega arith) (omega arith)))
  | inr not_less ↦
      let small : min a b ≡ b = omega arith in
      rw small (omega (arith, mul-le u b u a (omega arith) not_less))
]

-- a step of a plan beside the same in packets: what is lost, and what is held or has begun to come beyond the plan
one_step : (lost_so_far bound held e f a size v w x S y V L : ℕ) → y ≤ size → e + w ≡ f + a
    → lost_so_far + (held + e - v) ≤ bound → S ≡ v + w - x → V ≡ min S y → L ≡ S - min S y
    → let there = held + a in
    let dumped = min x there in
    let gone = there - dumped - size in
    lost_so_far + gone + (there - dumped - gone + f - V) ≤ bound + L + cond (nat_lt dumped x) (f - V) 0
one_step p bound held e f a size v w x S y V L room come before stays holds loses =
    let there = held + a in
    elim (cases_lt there x) [
      | inl short ↦
          let all : min x there ≡ there = omega arith in
          let test : nat_lt there x ≡ true = grind (arith, nat_tests) in
          rw (all, test) (omega (arith, before))
      | inr whole ↦
          let all : min x there ≡ x = omega arith in
          let test : nat_lt x x ≡ false = grind (arith, nat_tests) in
          rw (all, test) (elim (cases_lt S y) [
            | inl fits ↦
                let same : min S y ≡ S = omega arith in
                omega (arith, room, come, before, stays, holds, loses, same)
            | inr above ↦
                let same : min S y ≡ y = omega arith in
                omega (arith, room, come, before, stays, holds, loses, same)
          ])
    ]

-- ---- a store

module _ (m : MissionRows) (s : ℕ) (h : IsMission m) (below : s < length m.stores) where
  abbrev store : Store
  store = store_at m s

  some : 1 ≤ store.unit
  some = unit_some store (fits_at m s h below)

  least : (c : ℕ) → counted m (Packets s) c ≤ store.unit * counted m (Come s) c
  least c =
      let (up, each) = observations_rise m s h c below in
      begun_least _ store.micros store.packet store.unit (counted m (Come s) c) (counted m (Packets s) c) up each

  most : (c : ℕ) → store.unit * counted m (Come s) c < counted m (Packets s) c + store.unit
  most c =
      let (up, each) = observations_rise m s h c below in
      begun_most _ store.micros store.packet store.unit (counted m (Come s) c) (counted m (Packets s) c) up each

  above_few : above store < store.unit
  above_few =
      let fits = fits_at m s h below in
      let u = store.unit in
      let within : store.start ≤ store.size = grind (arith, nat_tests, fits) in
      let up = up_least u some store.start in
      let down = div_least u some store.size in
      elim (cases_lt (div_ceil store.start u) (store.size / u)) [
        | inl less ↦
            let is : start_in store ≡ div_ceil store.start u = omega arith in
            rw is (omega (arith, up, some))
        | inr not_less ↦
            let is : start_in store ≡ store.size / u = omega arith in
            rw is (omega (arith, down, within))
      ]

  module _ (edges : List ℕ) (q : Dumping) (x : ℕ → ℕ → ℕ) where
    late_few : (t : ℕ) → late m edges q x s t < store.unit
    late_few t = elim (cases_Bool (is_short m edges x s t)) [
      | inl short ↦ rw short (omega (arith, most (slice_index edges t), some))
      | inr whole ↦ rw whole (omega (arith, some))
    ]

    module _ (times : AreTimes m edges) (of : IsProblemOf m edges q) where
      row_is : row q s ≡ row_of store
      row_is = rw of.rows (get_or-map row_of m.stores s no_store no_row below)

      size_is : (t : ℕ) → size q s t ≡ size_in store
      unfolding size
      size_is t = rw of.one_size (ap (λ (r : StoreRow). r.size) row_is)

      abbrev plan_there : ℕ → ℕ
      plan_there t = left q x s t + arrivals q s (suc t)

      abbrev plan_stays : ℕ → ℕ
      plan_stays t = plan_there t - min (x s (suc t)) (plan_there t)

      left_next : (t : ℕ) → left q x s (suc t) ≡ min (plan_stays t) (size_in store)
      unfolding left
      left_next t =
          ap (λ come. left_by come (size q s (suc t)) (plan_there t) (x s (suc t))) of.during
          ∙ ap (λ z. left_by During z (plan_there t) (x s (suc t))) (size_is (suc t))

      lost_next : (t : ℕ) → lost q x s (suc t) ≡ plan_stays t - min (plan_stays t) (size_in store)
      lost_next t =
          let before : suc t - 1 ≡ t = omega arith in
          let here : lost_by During (size_in store) (plan_there t) (x s (suc t))
          ≡ plan_stays t - min (plan_stays t) (size_in store) = omega arith in
          ap (λ k. lost_by q.come (size q s (suc t)) (left q x s k + arrivals q s (suc t)) (x s (suc t))) before
          ∙ ap (λ come. lost_by come (size q s (suc t)) (plan_there t) (x s (suc t))) of.during
          ∙ ap (λ z. lost_by During z (plan_there t) (x s (suc t))) (size_is (suc t)) ∙ here

      -- begun units beside packets, before and after a step
      come_next : (t : ℕ) → suc t < length edges → not_come m edges s t + store.unit * arrivals q s (suc t)
          ≡ not_come m edges s (suc t) + arrived_in m edges s (suc t)
      come_next t last =
          let a = slice_index edges t in
          let b = slice_index edges (suc t) in
          let u = store.unit in
          let before : suc t - 1 ≡ t = omega arith in
          let rising : a ≤ b = rises edges times.rising t (suc t) (omega arith) last in
          let is = (steps_grow m edges q (suc t) of (omega arith) last).arrivals s below
          ∙ ap (λ k. counted m (Come s) b - counted m (Come s) (slice_index edges k)) before in
          let come : arrived_in m edges s (suc t) ≡ counted m (Packets s) b - counted m (Packets s) a =
          ap (λ k. counted m (Packets s) b - counted m (Packets s) (slice_index edges k)) before in
          let units = units_rise m s h a b rising in
          let packets = packets_rise m s h a b rising in
          let grown = ap (λ k. u * k) is ∙ mul-sub u (counted m (Come s) b) (counted m (Come s) a) in
          omega (
            arith,
            come,
            grown,
            packets,
            least a,
            least b,
            mul-le u (counted m (Come s) a) u (counted m (Come s) b) (omega arith) units,
          )

      kept : (n : ℕ) → n < length edges
          → over (lost_in m edges x s) 0 n + (held_by m edges x s n + not_come m edges s n - store.unit * left q x s n)
          ≤ store.unit * over (lost q x s) 0 n + above store + over (late m edges q x s) 0 n
      unfolding held left
      kept zero last =
          let first : start q s ≡ start_in store = ap (λ (r : StoreRow). r.start) row_is in
          let none : counted m (Come s) (slice_index edges 0) ≡ 0 =
          ap (counted m (Come s)) times.first ∙ no_units m s in
          rw (first, none) (omega arith)
      kept (suc n) last =
          let u = store.unit in
          let stays = plan_stays n in
          let all = plan_there n in
          let units = x s (suc n) in
          let before = kept n (omega arith) in
          let room : u * size_in store ≤ store.size = omega (arith, div_most u some store.size) in
          let rest : stays ≡ all - units = omega arith in
          let stay : u * stays ≡ u * left q x s n + u * arrivals q s (suc n) - units * u =
          ap (λ k. u * k) rest ∙ mul-sub u all units ∙ omega arith in
          let hold : u * left q x s (suc n) ≡ min (u * stays) (u * size_in store) =
          ap (λ k. u * k) (left_next n) ∙ mul_min u stays (size_in store) in
          let lose : u * lost q x s (suc n) ≡ u * stays - min (u * stays) (u * size_in store) =
          ap (λ k. u * k) (lost_next n) ∙ mul-sub u stays (min stays (size_in store))
          ∙ ap (λ k. u * stays - k) (mul_min u stays (size_in store)) in
          let step = one_step (over (lost_in m edges x s) 0 n)
          (u * over (lost q x s) 0 n + above store + over (late m edges q x s) 0 n) (held_by m edges x s n)
          (not_come m edges s n) (not_come m edges s (suc n)) (arrived_in m edges s (suc n)) store.size
          (u * left q x s n) (u * arrivals q s (suc n)) (units * u) (u * stays) (u * size_in store)
          (u * left q x s (suc n)) (u * lost q x s (suc n)) room (come_next n last) before stay hold lose in
          let lost_is = ap (λ (e : PacketStep). e.lost) (step_at m edges x s n) in
          let late_is = ap (λ (e : PacketStep). cond (nat_lt e.dumped (units * u))
          (not_come m edges s (suc n) - u * left q x s (suc n)) 0) (step_at m edges x s n) in
          let one : n + 1 ≡ suc n = omega arith in
          let more_lost = rw one at (sum_by_range_more (lost_in m edges x s) 1 n (suc n) (omega arith)) in
          let more_late = rw one at (sum_by_range_more (late m edges q x s) 1 n (suc n) (omega arith)) in
          let more = ap (λ k. u * k) (rw one at (sum_by_range_more (lost q x s) 1 n (suc n) (omega arith))) in
          omega (arith, step, lost_is, late_is, more_lost, more_late, more, held_at m edges x s n)

      -- the law
      pub losses_kept : (n : ℕ) → n < length edges → over (lost_in m edges x s) 0 n
          ≤ store.unit * over (lost q x s) 0 n + above store + over (late m edges q x s) 0 n
      losses_kept n last = omega (arith, kept n last)

-- the laws
pub losses_in_packets : (m : MissionRows) (edges : List ℕ) (q : Dumping) (x : ℕ → ℕ → ℕ) (s : ℕ) → IsMission m
    → AreTimes m edges → IsProblemOf m edges q → s < length m.stores → (n : ℕ) → n < length edges
    → over (lost_in m edges x s) 0 n
    ≤ (store_at m s).unit * over (lost q x s) 0 n + above (store_at m s) + over (late m edges q x s) 0 n
losses_in_packets m edges q x s h times of below n last = losses_kept m s h below edges q x times of n last

pub late_are_few : (m : MissionRows) (edges : List ℕ) (q : Dumping) (x : ℕ → ℕ → ℕ) (s t : ℕ) → IsMission m
    → s < length m.stores → (above (store_at m s) < (store_at m s).unit) × (late m edges q x s t < (store_at m s).unit)
late_are_few m edges q x s t h below = (above_few m s h below, late_few m s h below edges q x t)
