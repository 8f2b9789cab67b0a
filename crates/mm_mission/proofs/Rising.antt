-- Times in rising order.
use Rattle.std.proofs.Common.{◌≡◌, ℕ, zero, suc, ◌+◌, ◌-◌, ◌<◌, ◌≤◌, List, [], ◌∷◌, ◌++◌, length, get_or, eqb, refl}
use Rattle.std.proofs.Common.{sym, ◌∙◌, arith}
use Rattle.std.specs.Prelude.{All, Contains, filter, IsTrue, ◌↔◌}
use Rattle.std.specs.List.{dedup}
use Rattle.std.specs.Ordering.{nat_cmp}
use Rattle.std.specs.List.Sorted.{IsSorted, IsPermutation, IsStrictlyIncreasing}
use Rattle.std.proofs.lemmas.List.{get_or_default}
use Rattle.std.proofs.lemmas.Bool.Decides.{nat_tests}
use Rattle.std.proofs.lemmas.List.Elements.{All-nil, All-cons, All-head, All-tail, All-append, All-filter, All-contains}
use Rattle.std.proofs.lemmas.List.Elements.{Contains-get_or}
use Rattle.std.proofs.lemmas.List.Kept.{Contains-from_dedup, Contains-dedup_nat}
use Rattle.std.proofs.lemmas.List.Sorted.{Contains-permutation, IsPermutation-sym}
use Rattle.std.proofs.lemmas.Map.Keys.{IsStrictlyIncreasing-dedup}
use Rattle.mm_mission.specs.declared.parts.Span.{Span}
use Rattle.mm_mission.specs.declared.parts.Pass.{Pass}
use Rattle.mm_mission.specs.declared.parts.Observation.{Observation}
use Rattle.mm_mission.specs.Mission.{MissionRows, IsMission, is_span, is_pass, is_observation}
use Rattle.mm_mission.specs.Edges.{ends, pass_ends, observation_ends, is_inside, moments, AreTimes, AreEdges}

-- a later time is no earlier, by how many places it is later
pub rises_by : (times : List ℕ) → IsStrictlyIncreasing times → (i n : ℕ) → i + n < length times
    → get_or times i 0 + n ≤ get_or times (i + n) 0
rises_by times rising i zero within =
    let here : i + 0 ≡ i = omega arith in
    rw here (omega arith)
rises_by times rising i (suc n) within =
    let before = rises_by times rising i n (omega arith) in
    let later : i + n + 1 ≡ i + suc n = omega arith in
    let next = rising (i + n) (omega arith) in
    omega (arith, before, rw later at next)

-- a later time is no earlier
pub rises : (times : List ℕ) → IsStrictlyIncreasing times → (i j : ℕ) → i ≤ j → j < length times
    → get_or times i 0 ≤ get_or times j 0
rises times rising i j before within =
    let there : i + (j - i) ≡ j = omega arith in
    let far = rises_by times rising i (j - i) (omega arith) in
    omega (arith, rw there at far)

module _ (lasts : ℕ) where
  ends_within : (s : Span) → IsTrue (is_span lasts s) → All (λ t. t ≤ lasts) (ends s)
  ends_within s h =
      let begin : s.begin ≤ lasts = grind (arith, nat_tests, h) in
      let end : s.end ≤ lasts = grind (arith, nat_tests, h) in
      All-cons (λ t. t ≤ lasts) s.begin (s.end ∷ []) begin (All-cons (λ t. t ≤ lasts) s.end [] end
      (All-nil (λ t. t ≤ lasts)))

  pass_span : (p : Pass) → IsTrue (is_pass lasts p) → IsTrue (is_span lasts p.span)
  pass_span p h = grind (arith, nat_tests, h)

  observation_span : (o : Observation) → IsTrue (is_observation lasts o) → IsTrue (is_span lasts o.span)
  observation_span o h = grind (arith, nat_tests, h)

  passes_within : (passes : List Pass) → All (λ p. IsTrue (is_pass lasts p)) passes
      → All (λ t. t ≤ lasts) (pass_ends passes)
  passes_within [] each = All-nil (λ t. t ≤ lasts)
  passes_within (p ∷ passes) each =
      All-append (λ t. t ≤ lasts) (ends p.span) (pass_ends passes)
      (ends_within p.span (pass_span p (All-head (λ p. IsTrue (is_pass lasts p)) p passes each)))
      (passes_within passes (All-tail (λ p. IsTrue (is_pass lasts p)) p passes each))

  observations_within : (observations : List Observation) → All (λ o. IsTrue (is_observation lasts o)) observations
      → All (λ t. t ≤ lasts) (observation_ends observations)
  observations_within [] each = All-nil (λ t. t ≤ lasts)
  observations_within (o ∷ observations) each =
      All-append (λ t. t ≤ lasts) (ends o.span) (observation_ends observations)
      (ends_within o.span (observation_span o (All-head (λ o. IsTrue (is_observation lasts o)) o observations each)))
      (observations_within observations (All-tail (λ o. IsTrue (is_observation lasts o)) o observations each))

-- each moment is within the mission
pub moments_within : (m : MissionRows) → IsMission m → All (λ t. t ≤ m.lasts) (moments m)
moments_within m h =
    let inside = filter (is_inside m.passes) (observation_ends m.observations) in
    let all = All-append (λ t. t ≤ m.lasts) (pass_ends m.passes) inside (passes_within m.lasts m.passes h.passes)
    (All-filter (is_inside m.passes) (λ t. t ≤ m.lasts) (observation_ends m.observations)
    (observations_within m.lasts m.observations h.observations)) in
    All-cons (λ t. t ≤ m.lasts) 0 (m.lasts ∷ (pass_ends m.passes ++ inside)) (omega arith)
    (All-cons (λ t. t ≤ m.lasts) m.lasts (pass_ends m.passes ++ inside) (omega arith) all)

-- the mission's begin and end are moments
pub begin_there : (m : MissionRows) → Contains (moments m) 0
begin_there m = (0, omega arith, refl)

pub end_there : (m : MissionRows) → Contains (moments m) m.lasts
end_there m = (1, omega arith, refl)

-- times within a mission that are sorted, each once
pub in_order : (m : MissionRows) (times sorted edges : List ℕ) → All (λ t. t ≤ m.lasts) times → Contains times 0
    → Contains times m.lasts → IsPermutation times sorted → IsSorted nat_cmp sorted → edges ≡ dedup eqb sorted
    → AreTimes m edges × ((t : ℕ) → Contains edges t ↔ Contains times t)
in_order m times sorted edges within has_begin has_end moved sorts is =
    let rising : IsStrictlyIncreasing edges = rw is (IsStrictlyIncreasing-dedup sorted sorts) in
    let from : (t : ℕ) → Contains edges t → Contains times t =
    λ t there. Contains-permutation sorted times t (IsPermutation-sym times sorted moved)
    (Contains-from_dedup eqb sorted t (rw is at there)) in
    let to : (t : ℕ) → Contains times t → Contains edges t =
    λ t there. rw is (Contains-dedup_nat sorted t (Contains-permutation times sorted t moved there)) in
    let (i, i_within, at_begin) = to 0 has_begin in
    let (j, j_within, at_end) = to m.lasts has_end in
    let end = length edges - 1 in
    let above_begin = rises edges rising 0 i (omega arith) i_within in
    let above_end = rises edges rising j end (omega arith) (omega arith) in
    let last_is = from (get_or edges end 0) (Contains-get_or edges end 0 (omega arith)) in
    let last_within = All-contains (λ t. t ≤ m.lasts) times (get_or edges end 0) within last_is in
    let end_is = sym (get_or_default edges j m.lasts 0 j_within) ∙ at_end in (
      record {
        some = omega arith;
        first = omega (arith, above_begin, at_begin);
        last = omega (arith, above_end, end_is, last_within);
        rising = rising;
      },
      λ t. (from t, to t),
    )

-- moments that are sorted, each once, are edges
pub are_edges : (m : MissionRows) (sorted edges : List ℕ) → IsMission m → IsPermutation (moments m) sorted
    → IsSorted nat_cmp sorted → edges ≡ dedup eqb sorted → AreEdges m edges
are_edges m sorted edges h moved sorts is =
    let (times, each) = in_order m (moments m) sorted edges (moments_within m h) (begin_there m) (end_there m) moved
    sorts is in
    record { times = times; each = each }
