-- Where the edges of a mission stand among the times of a timeline.
use Rattle.std.proofs.Common.{◌≡◌, ℕ, zero, suc, ◌+◌, ◌-◌, ◌<◌, true, ◌==◌, List, length, get_or, ap}
use Rattle.std.proofs.Common.{inl, inr, refl, arith}
use Rattle.std.specs.Prelude.{Contains, slice_index}
use Rattle.std.specs.List.{list_any, position_or_len}
use Rattle.std.proofs.lemmas.Bool.{cases_lt, both_ways}
use Rattle.std.proofs.lemmas.Bool.Decides.{Decides-eqb}
use Rattle.std.proofs.lemmas.List.Elements.{Contains-get_or}
use Rattle.std.proofs.lemmas.List.Folds.{list_any_none, list_any_at}
use Rattle.std.proofs.lemmas.List.Sums.{fails_before_first, passes_at_first}
use Rattle.mm_mission.specs.Mission.{MissionRows}
use Rattle.mm_mission.specs.Edges.{AreTimes}
use Rattle.mm_mission.specs.Laws.{over}
use Rattle.mm_mission.proofs.Rising.{rises, rises_by}
use Rattle.mm_mission_laws.proofs.Split.{over_split, over_next}

-- the place of a time, or their number if it is none of them
abbrev pub place : List ℕ → ℕ → ℕ
place times c = position_or_len (λ k. k == c) times

place_below : (times : List ℕ) (c : ℕ) → Contains times c → place times c < length times
place_below times c (k, within, is) = elim (cases_lt (place times c) (length times)) [
  | inl below ↦ below
  | inr past ↦
      let here : (get_or times k c == c) ≡ true = (Decides-eqb (get_or times k c) c).1 is in
      let some : list_any (λ k. k == c) times ≡ true = list_any_at (λ k. k == c) times k c within here in
      absurd (both_ways (list_any (λ k. k == c) times)
      (list_any_none (λ k. k == c) times (λ j d inside. fails_before_first (λ k. k == c) times j d (omega arith))) some)
]

place_is : (times : List ℕ) (c : ℕ) → Contains times c → get_or times (place times c) 0 ≡ c
place_is times c there =
    (Decides-eqb (get_or times (place times c) 0) c).0
    (passes_at_first (λ k. k == c) times 0 (place_below times c there))

module _ (m : MissionRows) (edges times : List ℕ) (are : AreTimes m edges) (finer : AreTimes m times)
    (each : (t : ℕ) → Contains edges t → Contains times t)
  where
    -- the place of an edge
    abbrev pub at_edge : ℕ → ℕ
    at_edge n = place times (slice_index edges n)

    edge_there : (n : ℕ) → n < length edges → Contains times (slice_index edges n)
    edge_there n last = each (slice_index edges n) (Contains-get_or edges n 0 last)

    pub at_below : (n : ℕ) → n < length edges → at_edge n < length times
    at_below n last = place_below times (slice_index edges n) (edge_there n last)

    pub at_is : (n : ℕ) → n < length edges → slice_index times (at_edge n) ≡ slice_index edges n
    at_is n last = place_is times (slice_index edges n) (edge_there n last)

    pub at_first : at_edge 0 ≡ 0
    at_first =
        let below = at_below 0 (omega (arith, are.some)) in
        let is = at_is 0 (omega (arith, are.some)) in
        let far = rises_by times finer.rising 0 (at_edge 0) (omega (arith, below)) in
        let same : 0 + at_edge 0 ≡ at_edge 0 = omega arith in
        omega (arith, rw same at far, is, are.first)

    pub at_rises : (i j : ℕ) → i < j → j < length edges → at_edge i < at_edge j
    at_rises i j before last = elim (cases_lt (at_edge i) (at_edge j)) [
      | inl rising ↦ rising
      | inr not ↦
          let there : i + (j - i) ≡ j = omega arith in
          let far = rw there at (rises_by edges are.rising i (j - i) (omega arith)) in
          let back = rises times finer.rising (at_edge j) (at_edge i) not (at_below i (omega arith)) in
          absurd (omega (arith, far, back, at_is i (omega arith), at_is j last))
    ]

    -- what is summed in the timeline's steps between two edges
    abbrev pub in_step : (ℕ → ℕ) → ℕ → ℕ
    in_step f t = over f (at_edge (t - 1)) (at_edge t - at_edge (t - 1))

    -- up to an edge
    pub in_steps : (f : ℕ → ℕ) (n : ℕ) → n < length edges → over (in_step f) 0 n ≡ over f 0 (at_edge n)
    in_steps f zero last = rw at_first refl
    in_steps f (suc n) last =
        let before : suc n - 1 ≡ n = omega arith in
        let here : in_step f (suc n) ≡ over f (at_edge n) (at_edge (suc n) - at_edge n) =
        ap (λ k. over f (at_edge k) (at_edge (suc n) - at_edge k)) before in
        let rising = at_rises n (suc n) (omega arith) last in
        let parts : at_edge n + (at_edge (suc n) - at_edge n) ≡ at_edge (suc n) = omega (arith, rising) in
        let split = rw parts at (over_split f (at_edge n) (at_edge (suc n) - at_edge n)) in
        omega (arith, over_next (in_step f) n, in_steps f n (omega arith), here, split)
