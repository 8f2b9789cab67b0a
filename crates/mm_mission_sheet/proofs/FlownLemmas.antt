-- Timelines and steps of plans are within the limits that tables ask for.
use Rattle.std.proofs.Common.{◌≡◌, ℕ, zero, suc, ◌+◌, ◌-◌, ◌*◌, ◌<◌, ◌≤◌, List, length, All, min, refl, sym, ap, ◌∙◌, arith}
use Rattle.std.proofs.Common.{get_or, [], ◌∷◌}
use Rattle.std.specs.Prelude.{◌^◌, slice_index, IsTrue, filter, not}
use Rattle.std.specs.List.{range_with_len, sum_by}
use Rattle.std.proofs.lemmas.Bool.Decides.{nat_tests}
use Rattle.std.proofs.lemmas.List.Elements.{All-filter, All-head, All-tail}
use Rattle.std.proofs.lemmas.List.Filters.{length-filter_both}
use Rattle.std.proofs.lemmas.List.Sums.{sum_by-cons}
use Rattle.std.proofs.lemmas.List.FromFn.{length-map-range_with_len, get_or-map-range_with_len}
use Rattle.std.proofs.lemmas.Nat.{mul-le}
use Rattle.mm_base.proofs.RangeSums.{sum_by_range_more, sum_by_range_same}
use Rattle.mm_mission.specs.declared.dumps.Dump.{Dump}
use Rattle.mm_mission.specs.declared.packets.PacketStep.{PacketStep}
use Rattle.mm_mission.specs.declared.parts.Observation.{Observation}
use Rattle.mm_mission.specs.declared.limits.TheConstants.{MAX_TIME, MAX_RATE, MAX_OBSERVATIONS}
use Rattle.mm_mission.specs.Mission.{MissionRows, IsMission, is_observation, store_at}
use Rattle.mm_mission.specs.Edges.{AreTimes}
use Rattle.mm_mission.specs.Flows.{come_by, come_octets, come_divisor, packet_octets, counted, into, is_into}
use Rattle.mm_base.specs.declared.limits.TheConstants.{MAX_STEPS}
use Rattle.mm_mission.specs.declared.counter.Counter.TheVariants.{Packets}
use Rattle.mm_mission.specs.Laws.{over, lost_in}
use Rattle.mm_mission.specs.Packets.{step_of, arrived_in, held_by, held, step_in, steps_in, all_steps, no_step}
use Rattle.mm_mission.specs.Timeline.{IsTimeline}
use Rattle.mm_mission.proofs.Grown.{table_at}
use Rattle.mm_mission.proofs.Rising.{rises_by, rises}
use Rattle.mm_mission.proofs.Stepped.{step_at, held_at, all_length}
use Rattle.mm_mission.proofs.Summed.{observations_rise, packets_add_up, packet_some, fits_at}
use Rattle.mm_mission_sheet.specs.Sheets as sheets
use Rattle.mm_mission_sheet.specs.Timelines.{IsDump}

-- dumps of a timeline begin and end within the mission
pub timeline_dumps : (m : MissionRows) (edges : List ℕ) (x : ℕ → ℕ → ℕ) (dumps : List Dump) → AreTimes m edges
    → IsTimeline m edges x dumps → All (IsDump m) dumps
timeline_dumps m edges x dumps times line = λ k d within.
    let (i, (j, dump)) = line.each k d within in
    let next = rises_by edges times.rising i 1 (omega (arith, dump.later, dump.there)) in
    let there = rises edges times.rising (i + 1) j (omega (arith, dump.later)) dump.there in
    let end = rises edges times.rising j (length edges - 1) (omega (arith, dump.there)) (omega (arith, times.some)) in
    record {
      later = omega (arith, dump.begin, dump.end, next, there);
      within = omega (arith, dump.end, end, times.last);
      store = dump.store;
    }

-- ---- losses

module _ (m : MissionRows) (edges : List ℕ) (x : ℕ → ℕ → ℕ) (s : ℕ) where
  -- no more has been lost than was held and has arrived
  lost_or_held : (n : ℕ) → over (lost_in m edges x s) 0 n + held_by m edges x s n
      ≤ (store_at m s).start + over (arrived_in m edges s) 0 n
  unfolding held
  lost_or_held zero = omega arith
  lost_or_held (suc n) =
      let one : n + 1 ≡ suc n = omega arith in
      let more = rw one at (sum_by_range_more (lost_in m edges x s) 1 n (suc n) (omega arith)) in
      let come = rw one at (sum_by_range_more (arrived_in m edges s) 1 n (suc n) (omega arith)) in
      let here = ap (λ (e : PacketStep). e.lost) (step_at m edges x s n) in
      split (over (lost_in m edges x s) 0 n) (over (lost_in m edges x s) 0 (suc n)) (lost_in m edges x s (suc n))
      (held_by m edges x s n) (held_by m edges x s (suc n)) (store_at m s).start (over (arrived_in m edges s) 0 n)
      (over (arrived_in m edges s) 0 (suc n)) (arrived_in m edges s (suc n)) (x s (suc n) * (store_at m s).unit)
      (store_at m s).size (lost_or_held n) more come here (held_at m edges x s n)
    where
      split : (lost more here before after start came come arrived units size : ℕ) → lost + before ≤ start + came
          → more ≡ lost + here → come ≡ came + arrived
          → here ≡ before + arrived - min units (before + arrived) - size
          → after ≡ before + arrived - min units (before + arrived)
          - (before + arrived - min units (before + arrived) - size) → more + after ≤ start + come
      split lost more here before after start came come arrived units size kept sum sum_come is left = omega arith

  -- a list of all steps has what each step does at its place
  pub at_place : (t : ℕ) → s < length m.stores → 1 ≤ t → t < length edges
      → sheets.step_at edges (all_steps m edges x) s t ≡ step_in m edges x s t
  at_place t below first last =
      let w = length edges - 1 in
      let each : (k : ℕ) → length (steps_in m edges x k) ≡ w = λ k. length-map-range_with_len (step_in m edges x k) 1 w in
      let same : 0 + s ≡ s = omega arith in
      table_at (steps_in m edges x) w each 0 (length m.stores) s (t - 1) (s * w + (t - 1)) no_step below (omega arith) refl
      ∙ ap (λ k. get_or (steps_in m edges x k) (t - 1) no_step) same
      ∙ get_or-map-range_with_len (step_in m edges x s) 1 w (t - 1) t no_step (omega arith) (omega arith)

-- a sum of terms that are at most so large
sum_few : {X : Type 0} (f : X → ℕ) (most : ℕ) (xs : List X) → All (λ x. f x ≤ most) xs → sum_by f xs ≤ length xs * most
sum_few f most [] each = omega arith
sum_few f most (x ∷ xs) each =
    let rest = sum_few f most xs (All-tail (λ y. f y ≤ most) x xs each) in
    let here : f x ≤ most = All-head (λ y. f y ≤ most) x xs each in
    omega (arith, sum_by-cons f x xs, rest, here)

-- what can come of one observation
come_few : (lasts t : ℕ) (o : Observation) → lasts ≤ MAX_TIME → IsTrue (is_observation lasts o)
    → come_by t o ≤ 2 ^ 109
come_few lasts t o few h =
    let octets : o.octets ≤ 2 ^ 50 = grind (arith, nat_tests, h) in
    let end : o.span.end ≤ lasts = grind (arith, nat_tests, h) in
    mul-le o.octets (min t o.span.end - o.span.begin) (2 ^ 50) (2 ^ 59) octets (omega arith)

-- a quotient that is rounded up is not larger than the amount, but for one
not_more : (amount divisor units : ℕ) → 1 ≤ divisor → units * divisor < amount + divisor → units ≤ amount
not_more amount divisor zero some most = omega arith
not_more amount divisor (suc units) some most =
    let less = mul-le units 1 units divisor (omega arith) some in
    omega (arith, less)

module _ (m : MissionRows) (h : IsMission m) (s : ℕ) (below : s < length m.stores) where
  -- what can come into a store
  counted_few : (t : ℕ) → counted m (Packets s) t ≤ 2 ^ 125
  counted_few t =
      let time : m.lasts ≤ MAX_TIME = grind (arith, nat_tests, h.time) in
      let many : length m.observations ≤ MAX_OBSERVATIONS = grind (arith, nat_tests, h.few) in
      let some = length-filter_both (is_into s) (λ o. not (is_into s o)) (λ _. refl) m.observations in
      let each = sum_few (come_by t) (2 ^ 109) (into m s)
      (All-filter (is_into s) (λ o. come_by t o ≤ 2 ^ 109) m.observations
      (λ k d within. come_few m.lasts t (get_or m.observations k d) time (h.observations k d within))) in
      let fits = fits_at m s h below in
      let micros : 1 ≤ (store_at m s).micros = grind (arith, nat_tests, fits) in
      let divides = mul-le 1 1 (store_at m s).micros (store_at m s).packet micros (packet_some (store_at m s) fits) in
      let up = (observations_rise m s h t below).1 in
      let least = not_more (come_octets m s t) (come_divisor packet_octets (store_at m s)) (counted m (Packets s) t) divides
      up.most in
      omega (arith, least, each, some, many)

  -- what a plan can lose of a store
  pub plan_loses_few : (edges : List ℕ) (x : ℕ → ℕ → ℕ) → AreTimes m edges
      → sheets.over_steps edges (λ t. (sheets.step_at edges (all_steps m edges x) s t).lost) < 2 ^ 127
  plan_loses_few edges x times =
      let n = length edges - 1 in
      let there : n < length edges = omega (arith, times.some) in
      let kept = lost_or_held m edges x s n in
      let come = packets_add_up m s h edges n times there in
      let few = counted_few (slice_index edges n) in
      let fits = fits_at m s h below in
      let start : (store_at m s).start ≤ (store_at m s).size = grind (arith, nat_tests, fits) in
      let size : (store_at m s).size < 1000001 * (store_at m s).unit = grind (arith, nat_tests, fits) in
      let unit : (store_at m s).unit ≤ 2 ^ 20 = grind (arith, nat_tests, fits) in
      let same = sum_by_range_same (λ t. (sheets.step_at edges (all_steps m edges x) s t).lost) (lost_in m edges x s) 1 n
      (λ t low high. ap (λ (e : PacketStep). e.lost) (at_place m edges x s t below low (omega arith))) in
      omega (arith, kept, come, few, start, size, unit, same)

-- what the steps of a plan do can be printed
pub plans_fit : (m : MissionRows) (edges : List ℕ) (x : ℕ → ℕ → ℕ) → IsMission m → AreTimes m edges
    → length edges ≤ MAX_STEPS + 1 → sheets.AreFlown m edges (all_steps m edges x)
plans_fit m edges x h times few = record {
  some = times.some;
  few = few;
  table = all_length m edges x;
  few_lost = λ s below. plan_loses_few m h s below edges x times;
}
