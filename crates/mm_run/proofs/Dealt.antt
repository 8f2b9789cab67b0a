-- The packets of the lines are dealt to the packets of step 0 and to the sources, step by step.
use Rattle.std.proofs.Common.{◌≡◌, ◌≢◌, ℕ, zero, suc, ◌+◌, ◌-◌, ◌≤◌, ◌==◌, ◌&&◌, ◌⊎◌, inl, inr, cond, Bool}
use Rattle.std.proofs.Common.{true, false, not, max, List, [], ◌∷◌, length, map, get_or, refl, sym, ap, ◌∙◌, arith}
use Rattle.std.proofs.Common.{add-one}
use Rattle.std.specs.Prelude.{All, count_by, flat_map, fold, sum_by}
use Rattle.std.specs.List.{range_with_len}
use Rattle.std.proofs.lemmas.Bool.{cases_eq, cases_lt, lt-ltb, ne_eqb, eq-eqb}
use Rattle.std.proofs.lemmas.Bool.Decides.{nat_tests}
use Rattle.std.proofs.lemmas.List.Elements.{All-cons}
use Rattle.std.proofs.lemmas.List.FromFn.{fill_by_all}
use Rattle.std.proofs.lemmas.List.Sums.{sum_by-append}
use Rattle.mm_base.proofs.RangeSums.{sum_by_range_more, sum_by_range_one, sum_by_range_same, sum_by_range_zeros}
use Rattle.mm_base.proofs.Sums.{sum_by-add, sum_by-flat_map, sum_by-map, sum_by-map-filter, sum_by-same, sum_by-swap}
use Rattle.mm_base.proofs.Tests.{cond-eqb_other, cond-eqb_same}
use Rattle.mm_carry.specs.Accounts.{over_steps}
use Rattle.mm_run.specs.Runs.{gives, CountsUntaken}
use Rattle.mm_run.specs.Sources.{AreFrom, IsSourceLine, given, is_of, opening_of, packets_of}
use Rattle.mm_run.specs.Types.{Holdings, ScriptedSource, SourceLine, SpacePacket}
use Rattle.mm_run.specs.Untaken.{Counts, is_late, is_untaken}
use Rattle.mm_run.specs.declared.untaken.Unstored.{Unstored}

-- no number of a source is above the greatest
below_most : (lines : List SourceLine) (most : ℕ)
    → (most ≤ fold (λ most d. max most d.source) most lines)
    × All (λ d. d.source ≤ fold (λ most d. max most d.source) most lines) lines
below_most [] most = (omega arith, λ k d within. absurd (omega (arith, within)))
below_most (d ∷ ds) most =
    let top = fold (λ (most : ℕ) (d : SourceLine). max most d.source) (max most d.source) ds in
    let rest = below_most ds (max most d.source) in
    (omega (arith, rest.0), All-cons (λ (x : SourceLine). x.source ≤ top) d ds (omega (arith, rest.0)) rest.1)

-- two tests, one after the other
both_tests : (a b : Bool) → let one : ℕ = cond a (cond b 1 0) 0 in one ≡ cond (a && b) 1 0
both_tests true b = refl
both_tests false b = refl

module _ (P : SpacePacket → Bool) where
  -- 1 if the packet of a line passes
  abbrev mark : SourceLine → ℕ
  mark d = cond (P d.packet) 1 0

  -- a line counts for its own source alone
  for_source : (count t : ℕ) (d : SourceLine) → 1 ≤ d.source → d.source ≤ count
      → sum_by (λ k. cond (is_of (k + 1) t d) (mark d) 0) (range_with_len 0 count) ≡ cond (d.step == t) (mark d) 0
  for_source count t d first last =
      let own : d.source ≡ d.source - 1 + 1 = omega (arith, first) in
      sum_by_range_one (λ k. cond (is_of (k + 1) t d) (mark d) 0) 0 count (d.source - 1) (omega arith)
      (omega (arith, first, last))
      (λ k from below other. rw (ne_eqb d.source (k + 1) (λ same. other (omega (arith, same)))) refl)
      ∙ rw (eq-eqb d.source (d.source - 1 + 1) own) refl

  -- and for its own step alone
  for_step : (steps : ℕ) (d : SourceLine)
      → sum_by (λ t. cond (d.step == t) (mark d) 0) (range_with_len 1 steps) + cond (d.step == 0) (mark d) 0
      ≡ cond (not (is_late steps d)) (mark d) 0
  for_step steps d = elim (cases_lt steps d.step) [
    | inl late ↦
        let none = sum_by_range_zeros (λ t. cond (d.step == t) (mark d) 0) 1 steps
        (λ t from below. cond-eqb_other d.step t (mark d) (λ same. omega (arith, late, below, same))) in
        let past : cond (not (is_late steps d)) (mark d) 0 ≡ 0 = rw (lt-ltb steps d.step late) refl in
        omega (arith, none, past, cond-eqb_other d.step 0 (mark d) (λ same. omega (arith, late, same)))
    | inr within ↦
        let late : is_late steps d ≡ false = grind (arith, nat_tests, within) in
        let now : cond (not (is_late steps d)) (mark d) 0 ≡ mark d = rw late refl in
        in_time within (cases_eq d.step 0) ∙ sym now
  ]
    where
      in_time : d.step ≤ steps → (d.step ≡ 0) ⊎ (d.step ≢ 0)
          → sum_by (λ t. cond (d.step == t) (mark d) 0) (range_with_len 1 steps) + cond (d.step == 0) (mark d) 0
          ≡ mark d
      in_time within (inl start) =
          let none = sum_by_range_zeros (λ t. cond (d.step == t) (mark d) 0) 1 steps
          (λ t from below. cond-eqb_other d.step t (mark d) (λ same. omega (arith, from, start, same))) in
          omega (arith, none, cond-eqb_same d.step 0 (mark d) start)
      in_time within (inr later) =
          let one = sum_by_range_one (λ t. cond (d.step == t) (mark d) 0) 1 steps d.step (omega (arith, later))
          (omega (arith, within))
          (λ t from below other. cond-eqb_other d.step t (mark d) (λ same. other (sym same))) in
          omega (arith, one, cond-eqb_same d.step d.step (mark d) refl, cond-eqb_other d.step 0 (mark d) later)

  module _ (lines : List SourceLine) where
    -- the packets of a source in a step that pass, counted by the lines
    by_lines : (s t : ℕ) → count_by P (packets_of s t lines) ≡ sum_by (λ d. cond (is_of s t d) (mark d) 0) lines
    by_lines s t = sum_by-map-filter (λ p. cond (P p) 1 0) (λ d. d.packet) (is_of s t) lines

    -- those of all sources in all steps, and of step 0, are those of the lines that are not late
    dealt : (steps count : ℕ) → All IsSourceLine lines → All (λ d. d.source ≤ count) lines
        → sum_by (λ t. sum_by (λ k. count_by P (packets_of (k + 1) t lines)) (range_with_len 0 count))
        (range_with_len 1 steps) + count_by P (opening_of lines)
        ≡ count_by (λ d. not (is_late steps d) && P d.packet) lines
    dealt steps count ranged few =
        let at = λ (t k : ℕ) (d : SourceLine). cond (is_of (k + 1) t d) (mark d) 0 in
        let ks = range_with_len 0 count in
        let ts = range_with_len 1 steps in
        let sums : sum_by (λ t. sum_by (λ k. count_by P (packets_of (k + 1) t lines)) ks) ts
        ≡ sum_by (λ d. sum_by (λ t. sum_by (λ k. at t k d) ks) ts) lines =
        (λ i. sum_by (λ t. sum_by (λ k. by_lines (k + 1) t i) ks) ts)
        ∙ (λ i. sum_by (λ t. sum_by-swap (at t) ks lines i) ts)
        ∙ sum_by-swap (λ t d. sum_by (λ k. at t k d) ks) ts lines in
        let opened = sum_by-map-filter (λ p. cond (P p) 1 0) (λ (d : SourceLine). d.packet) (λ d. d.step == 0) lines in
        let each = sum_by-same
        (λ d. sum_by (λ t. sum_by (λ k. at t k d) ks) ts + cond (d.step == 0) (mark d) 0)
        (λ d. cond (not (is_late steps d) && P d.packet) 1 0) lines
        (λ j x within. let d = get_or lines j x in
        let sources = sum_by_range_same (λ t. sum_by (λ k. at t k d) ks) (λ t. cond (d.step == t) (mark d) 0) 1 steps
        (λ t from below. for_source count t d (ranged j x within).first (few j x within)) in
        omega (arith, sources, for_step steps d, both_tests (not (is_late steps d)) (P d.packet))) in
        omega (
          arith,
          sums,
          opened,
          each,
          sum_by-add (λ d. sum_by (λ t. sum_by (λ k. at t k d) ks) ts) (λ d. cond (d.step == 0) (mark d) 0) lines,
        )

  -- a count over steps
  over_count : (each : ℕ → List SpacePacket) (n : ℕ)
      → count_by P (over_steps each n) ≡ sum_by (λ t. count_by P (each t)) (range_with_len 1 n)
  over_count each zero = refl
  over_count each (suc n) =
      let f : ℕ → ℕ = λ t. count_by P (each t) in
      omega (
        arith,
        sum_by-append (λ p. cond (P p) 1 0) (over_steps each n) (each (suc n)),
        over_count each n,
        rw add-one at (sum_by_range_more f 1 n (suc n) (omega arith)),
      )

  -- what the sources give in a step, source by source
  in_step : (sources : List ScriptedSource) (t : ℕ)
      → count_by P (flat_map (λ give. give t) (map gives sources))
      ≡ sum_by (λ k. count_by P (given sources (k + 1) t)) (range_with_len 0 (length sources))
  in_step sources t =
      let of : ScriptedSource → ℕ = λ source. count_by P (gives source t) in
      let places = range_with_len 0 (length sources) in
      let listed = fill_by_all (λ k. get_or sources k []) sources (length sources) [] refl (λ k within. refl) in
      sum_by-flat_map (λ p. cond (P p) 1 0) (λ (give : ℕ → List SpacePacket). give t) (map gives sources)
      ∙ sum_by-map (λ (give : ℕ → List SpacePacket). count_by P (give t)) gives sources
      ∙ ap (sum_by of) listed ∙ sum_by-map of (λ k. get_or sources k []) places
      ∙ sum_by_range_same (λ k. of (get_or sources k [])) (λ k. count_by P (given sources (k + 1) t)) 0 (length sources)
      (λ k from below. let back : k + 1 - 1 ≡ k = omega arith in rw back refl)

-- the numbers that the lines have are those of the packets of step 0 and of what the sources give in the steps
pub untaken_counted : (steps : ℕ) (memory : Holdings) (lines : List SourceLine) (opening : List SpacePacket)
    (sources : List ScriptedSource) (n : Unstored) → AreFrom lines opening sources → All IsSourceLine lines
    → Counts steps memory lines n → CountsUntaken steps memory opening sources n
untaken_counted steps memory lines opening sources n from ranged counts =
    let P = is_untaken memory in
    let all = dealt P lines steps (length sources) ranged
    (λ k d within. omega (arith, from.count, (below_most lines 0).1 k d within)) in
    let each = sum_by_range_same (λ t. count_by P (flat_map (λ give. give t) (map gives sources)))
    (λ t. sum_by (λ k. count_by P (packets_of (k + 1) t lines)) (range_with_len 0 (length sources))) 1 steps
    (λ t first below. in_step P sources t
    ∙ sum_by_range_same (λ k. count_by P (given sources (k + 1) t)) (λ k. count_by P (packets_of (k + 1) t lines)) 0
    (length sources) (λ k low high. ap (count_by P) (from.each (k + 1) t (omega arith) first))) in
    omega (
      arith,
      counts.untaken,
      all,
      each,
      over_count P (λ t. flat_map (λ give. give t) (map gives sources)) steps,
      ap (count_by P) from.before,
    )
