-- What a timeline sends between two edges is within windows and limits, but for less than one unit.
use Rattle.std.proofs.Common.{◌≡◌, ℕ, zero, suc, ◌+◌, ◌-◌, ◌*◌, ◌<◌, ◌≤◌, Bool, true, false, cond, List, length}
use Rattle.std.proofs.Common.{nat_le, ◌&&◌}
use Rattle.std.proofs.Common.{[], get_or, Option, ap, ◌∙◌, inl, inr, arith}
use Rattle.std.specs.Prelude.{Contains, IsTrue, filter, slice_index, ◌⊎◌}
use Rattle.std.specs.List.{sum_by, range_with_len}
use Rattle.std.proofs.lemmas.Bool.{cases_Bool, cases_lt, both_ways}
use Rattle.std.proofs.lemmas.Bool.Decides.{nat_tests}
use Rattle.std.proofs.lemmas.List.Elements.{All-contains, Contains-append_left}
use Rattle.std.proofs.lemmas.List.Folds.{Any-from_list_any, list_any_at}
use Rattle.std.proofs.lemmas.List.Sums.{sum_by-cons}
use Rattle.std.proofs.lemmas.Nat.{mul-le}
use Rattle.mm_base.proofs.RangeSums.{sum_by_range_more, sum_by_range_zeros}
use Rattle.mm_base.proofs.Sums.{sum_by-swap, sum_by_zeros}
use Rattle.mm_problem.specs.Dumping.{Dumping}
use Rattle.mm_mission.specs.declared.parts.Pass.{Pass}
use Rattle.mm_mission.specs.Mission.{MissionRows, store_at, is_pass, IsMission}
use Rattle.mm_mission.specs.Flows.{is_on, pace_on}
use Rattle.mm_mission.specs.Edges.{pass_ends, observation_ends, is_inside, AreEdges}
use Rattle.mm_mission.specs.Planned.{IsProblemOf}
use Rattle.mm_mission.specs.Timeline.{is_in_pass}
use Rattle.mm_mission.specs.Laws.{LieIn, time_of, over, room, HasRoom}
use Rattle.mm_mission.proofs.Rising.{rises, rises_by}
use Rattle.mm_mission.proofs.Paces.{pace_on_some}
use Rattle.mm_mission.proofs.Passed.{ends_there, outside}
use Rattle.mm_mission.proofs.Summed.{rooms_add_up}
use Rattle.mm_mission_laws.specs.Exact.{Exact, IsExact, sent_on, step_span, KeepsRates}
use Rattle.mm_mission_laws.proofs.Places.{at_edge, at_below, at_is, at_rises, in_step}

-- ---- numbers

-- what is sent in a time within a room, but for less than one unit
within_room : (parts sent divisor amount units : ℕ) → 0 < divisor → sent * divisor ≤ parts * amount
    → amount < (units + 1) * divisor → sent ≤ parts * units + parts
within_room parts sent divisor amount units some kept room = elim (cases_lt (parts * units + parts) sent) [
  | inr within ↦ within
  | inl above ↦ absurd (omega (
    arith,
    some,
    kept,
    mul-le parts amount parts ((units + 1) * divisor) (omega arith) (omega (arith, room)),
    mul-le (parts * units + parts + 1) divisor sent divisor (omega (arith, above)) (omega arith),
  ))
]

-- ---- a timeline

module _ (m : MissionRows) (edges : List ℕ) (q : Dumping) (e : Exact) (h : IsMission m) (are : AreEdges m edges)
    (of : IsProblemOf m edges q) (exact : IsExact m e) (keeps : KeepsRates m e)
    (each : (t : ℕ) → Contains edges t → Contains e.times t)
  where
    abbrev at : ℕ → ℕ
    at = at_edge m edges e.times are.times exact.times each

    abbrev step : (ℕ → ℕ) → ℕ → ℕ
    step = in_step m edges e.times are.times exact.times each

    -- what is sent in steps within a pass
    run : (p : Pass) (channel : Option ℕ) (i n : ℕ) → Contains m.passes p → i + n < length e.times
        → p.span.begin ≤ slice_index e.times i → slice_index e.times (i + n) ≤ p.span.end
        → over (sent_on m e channel) i n * (pace_on m channel p).divisor
        ≤ e.parts * ((pace_on m channel p).octets * (slice_index e.times (i + n) - slice_index e.times i))
    run p channel i zero there last begin end = omega arith
    run p channel i (suc n) there last begin end =
        let f = pace_on m channel p in
        let k = i + suc n in
        let before : k - 1 ≡ i + n = omega arith in
        let one : i + n + 1 ≡ k = omega arith in
        let on = rises e.times exact.times.rising (i + n) k (omega arith) last in
        let from = rises e.times exact.times.rising i (i + n) (omega arith) (omega arith) in
        let so_far = run p channel i n there (omega arith) begin (omega (arith, on, end)) in
        let lies : LieIn p.span e.times (i + n) 1 =
        record { there = omega (arith, last); begin = omega (arith, begin, from); end = rw one end } in
        let here = rw (before, one) at (keeps.inside p channel k there (omega arith) (rw before lies)) in
        let next : n + 1 ≡ suc n = omega arith in
        let more = rw next at (sum_by_range_more (sent_on m e channel) (i + 1) n k (omega arith)) in
        let time : slice_index e.times k - slice_index e.times i
        ≡ slice_index e.times (i + n) - slice_index e.times i + (slice_index e.times k - slice_index e.times (i + n)) =
        omega (arith, on, from) in
        omega (
          arith,
          so_far,
          here,
          ap (λ j. j * f.divisor) more,
          ap (λ j. e.parts * (f.octets * j)) time,
        )

    module _ (t : ℕ) (first : 1 ≤ t) (last : t < length edges) where
      -- the timeline's steps in this one
      abbrev i : ℕ
      i = at (t - 1)

      abbrev n : ℕ
      n = at t - at (t - 1)

      there : i + n ≡ at t
      there = omega (arith, at_rises m edges e.times are.times exact.times each (t - 1) t (omega arith) last)

      begin_is : slice_index e.times i ≡ slice_index edges (t - 1)
      begin_is = at_is m edges e.times are.times exact.times each (t - 1) (omega arith)

      end_is : slice_index e.times (i + n) ≡ slice_index edges t
      end_is = ap (slice_index e.times) there ∙ at_is m edges e.times are.times exact.times each t last

      within_times : i + n < length e.times
      within_times = omega (arith, there, at_below m edges e.times are.times exact.times each t last)

      -- of some stores together
      pub together : (stores : List ℕ)
          → sum_by (λ s. step (e.sent s) t) stores ≡ over (λ k. sum_by (λ s. e.sent s k) stores) i n
      together stores = sum_by-swap e.sent stores (range_with_len (i + 1) n)

      -- in a step within a pass
      in_pass : (p : Pass) (channel : Option ℕ) → Contains m.passes p → HasRoom m channel
          → p.span.begin ≤ slice_index edges (t - 1) → slice_index edges t ≤ p.span.end
          → over (sent_on m e channel) i n ≤ e.parts * room q channel t + e.parts
      in_pass p channel among has begin end =
          let f = pace_on m channel p in
          let next : t - 1 + 1 ≡ t = omega arith in
          let lies : LieIn p.span edges (t - 1) 1 =
          record { there = omega arith; begin = begin; end = rw next end } in
          let rooms = (rooms_add_up m edges q p channel (t - 1) 1 h are.times of among has lies).0.least in
          let one : over (room q channel) (t - 1) 1 ≡ room q channel t =
          sum_by-cons (room q channel) (t - 1 + 1) [] ∙ ap (λ k. room q channel k + 0) next ∙ omega arith in
          let some = pace_on_some m channel p
          (All-contains (λ p. IsTrue (is_pass m.lasts p)) m.passes p h.passes among) in
          let kept = run p channel i n among within_times (omega (arith, begin_is, begin))
          (omega (arith, end_is, end)) in
          let long : slice_index e.times (i + n) - slice_index e.times i ≡ time_of edges (t - 1) 1 =
          omega (arith, begin_is, end_is, ap (slice_index edges) next) in
          within_room e.parts (over (sent_on m e channel) i n) f.divisor (f.octets * time_of edges (t - 1) 1)
          (room q channel t) some (omega (arith, kept, ap (λ j. e.parts * (f.octets * j)) long)) (rw one at rooms)

      -- no pass begins or ends within the step
      end_outside : (c : ℕ) → Contains (pass_ends m.passes) c
          → (c ≤ slice_index edges (t - 1)) ⊎ (slice_index edges t ≤ c)
      end_outside c among =
          let inside = filter (is_inside m.passes) (observation_ends m.observations) in
          let (k, within, is) = Contains-append_left (pass_ends m.passes) inside c among in
          outside m edges h are t first last c ((are.each c).1 (suc (suc k), omega arith, is))

      -- in a step within no pass nothing is sent
      quiet : is_in_pass m.passes (step_span edges t) ≡ false → (s k : ℕ) → i < k → k ≤ i + n → e.sent s k ≡ 0
      quiet none s k low high = elim (cases_Bool (is_in_pass m.passes (step_span e.times k))) [
        | inr outer ↦ keeps.outside s k (omega arith) (omega (arith, within_times)) outer
        | inl inner ↦
            let lies : Pass → Bool =
            λ p. nat_le p.span.begin (slice_index e.times (k - 1)) && nat_le (slice_index e.times k) p.span.end in
            let around : Pass → Bool =
            λ p. nat_le p.span.begin (slice_index edges (t - 1)) && nat_le (slice_index edges t) p.span.end in
            let some = Any-from_list_any lies m.passes inner in
            let p = get_or m.passes some.0 some.1 in
            let is_there : lies p ≡ true = ap lies some.3 ∙ some.4 in
            let begin : p.span.begin ≤ slice_index e.times (k - 1) = grind (arith, nat_tests, is_there) in
            let end : slice_index e.times k ≤ p.span.end = grind (arith, nat_tests, is_there) in
            let next : k - 1 + 1 ≡ k = omega arith in
            let far = rw next at (rises_by e.times exact.times.rising (k - 1) 1 (omega (arith, within_times))) in
            let from = rises e.times exact.times.rising i (k - 1) (omega arith) (omega (arith, within_times)) in
            let to = rises e.times exact.times.rising k (i + n) high within_times in
            let edge = ends_there (λ (p : Pass). p.span) m.passes some.0 some.1 some.2 in
            let first_is : p.span.begin ≤ slice_index edges (t - 1) =
            elim (end_outside p.span.begin edge.0) [
              | inl before ↦ before
              | inr after ↦ absurd (omega (arith, after, begin, far, to, end_is))
            ] in
            let last_is : slice_index edges t ≤ p.span.end =
            elim (end_outside p.span.end edge.1) [
              | inl before ↦ absurd (omega (arith, before, end, far, from, begin_is))
              | inr after ↦ after
            ] in
            let is_around : around p ≡ true = grind (arith, nat_tests, first_is, last_is) in
            absurd (both_ways (is_in_pass m.passes (step_span edges t)) none
            (list_any_at around m.passes some.0 some.1 some.2 is_around))
      ]

      -- so what is sent is within the problem's room, but for less than one unit of a step within a pass
      pub within_step : (channel : Option ℕ) → HasRoom m channel → over (sent_on m e channel) i n
          ≤ e.parts * room q channel t + e.parts * cond (is_in_pass m.passes (step_span edges t)) 1 0
      within_step channel has = elim (cases_Bool (is_in_pass m.passes (step_span edges t))) [
        | inl inner ↦
            let around : Pass → Bool =
            λ p. nat_le p.span.begin (slice_index edges (t - 1)) && nat_le (slice_index edges t) p.span.end in
            let some = Any-from_list_any around m.passes inner in
            let is_there : around some.1 ≡ true = some.4 in
            let begin : some.1.span.begin ≤ slice_index edges (t - 1) = grind (arith, nat_tests, is_there) in
            let end : slice_index edges t ≤ some.1.span.end = grind (arith, nat_tests, is_there) in
            let kept = in_pass some.1 channel (some.0, some.2, some.3) has begin end in
            rw inner (omega (arith, kept))
        | inr none ↦
            let zero : over (sent_on m e channel) i n ≡ 0 =
            sum_by_range_zeros (sent_on m e channel) (i + 1) n
            (λ k low high.
            sum_by_zeros (λ s. e.sent s k)
            (filter (λ s. is_on channel (store_at m s)) (range_with_len 0 (length m.stores)))
            (λ j d inside. quiet none _ k (omega arith) (omega arith))) in
            rw none (omega (arith, zero))
      ]
