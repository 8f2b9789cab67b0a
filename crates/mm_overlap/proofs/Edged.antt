-- The edges of several transmitters.
use Rattle.std.proofs.Common.{◌≡◌, ℕ, ◌+◌, ◌<◌, ◌≤◌, List, [], ◌∷◌, ◌++◌, length, eqb, sym, ap, ◌∙◌, arith}
use Rattle.std.specs.Prelude.{All, Contains}
use Rattle.std.specs.List.{flat_map, dedup}
use Rattle.std.specs.Ordering.{nat_cmp}
use Rattle.std.specs.List.Sorted.{IsSorted, IsPermutation}
use Rattle.std.proofs.lemmas.List.Elements.{All-nil, All-head, All-tail, All-append, Contains-append_left}
use Rattle.mm_mission.specs.Edges.{AreTimes, moments}
use Rattle.mm_mission.specs.Mission.{MissionRows, IsMission}
use Rattle.mm_mission.proofs.Rising.{in_order, moments_within, begin_there, end_there}
use Rattle.mm_overlap.specs.Given.{AreTransmitters}
use Rattle.mm_overlap.specs.Edges.{AreEdgesOf}

module _ (lasts : ℕ) where
  -- moments of missions that last so long are within them
  all_within : (missions : List MissionRows) → All IsMission missions → All (λ own. own.lasts ≡ lasts) missions
      → All (λ t. t ≤ lasts) (flat_map moments missions)
  all_within [] each long = All-nil (λ t. t ≤ lasts)
  all_within (own ∷ missions) each long =
      let is : own.lasts ≡ lasts = All-head (λ m. m.lasts ≡ lasts) own missions long in
      let first = moments_within own (All-head IsMission own missions each) in
      All-append (λ t. t ≤ lasts) (moments own) (flat_map moments missions)
      (λ k d within. omega (arith, first k d within, is))
      (all_within missions (All-tail IsMission own missions each) (All-tail (λ m. m.lasts ≡ lasts) own missions long))

  -- their begin and end are among their moments
  ends_there : (missions : List MissionRows) → 1 ≤ length missions → All (λ own. own.lasts ≡ lasts) missions
      → Contains (flat_map moments missions) 0 × Contains (flat_map moments missions) lasts
  ends_there [] some long = absurd (omega arith)
  ends_there (own ∷ missions) some long =
      let is : own.lasts ≡ lasts = All-head (λ m. m.lasts ≡ lasts) own missions long in
      let end = Contains-append_left (moments own) (flat_map moments missions) own.lasts (end_there own) in (
        Contains-append_left (moments own) (flat_map moments missions) 0 (begin_there own),
        rw is at end,
      )

-- the moments of transmitters, sorted, each once, are the edges of their steps
pub are_edges_of : (m : MissionRows) (missions : List MissionRows) (sorted edges : List ℕ) → AreTransmitters m missions
    → All IsMission missions → IsPermutation (flat_map moments missions) sorted → IsSorted nat_cmp sorted
    → edges ≡ dedup eqb sorted → AreEdgesOf missions edges
are_edges_of m missions sorted edges are each moved sorts is =
    let long : All (λ own. own.lasts ≡ m.lasts) missions =
    λ k d within. sym (ap (λ (own : MissionRows). own.lasts) (are.each k d within)) in
    let (begin, end) = ends_there m.lasts missions are.some long in
    let (times, same) = in_order m (flat_map moments missions) sorted edges (all_within m.lasts missions each long) begin
    end moved sorts is in
    record {
      times = λ k d within. record {
        some = times.some;
        first = times.first;
        last = times.last ∙ sym (long k d within);
        rising = times.rising;
      };
      each = same;
    }
