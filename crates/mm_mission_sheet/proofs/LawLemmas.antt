-- Tables that are read back, and rows that add up.
use Rattle.std.proofs.Common.{◌≡◌, ℕ, zero, suc, ◌+◌, ◌-◌, ◌<◌, ◌≤◌, ◌==◌, Bool, true, false, cond, nat_le, nat_lt, ◌&&◌}
use Rattle.std.proofs.Common.{List, [], ◌∷◌, ◌++◌, length, map, All, AllPairs, get_or, refl, sym, ap, ◌∙◌, subst, arith, inl, inr}
use Rattle.std.specs.Prelude.{Option, Some, None, slice_get, slice_index, filter}
use Rattle.std.specs.List.{flat_map, range_with_len, sum_by}
use Rattle.std.proofs.lemmas.Bool.{cases_Bool, cases_lt, eq-eqb, ne_eqb}
use Rattle.std.proofs.lemmas.Bool.Decides.{nat_tests}
use Rattle.std.proofs.lemmas.List.Elements.{All-head, All-tail}
use Rattle.std.proofs.lemmas.List.Sums.{sum_by-append}
use Rattle.std.proofs.lemmas.Option.{slice_get-get_or, slice_get_past}
use Rattle.csv.specs.Reading.{default_config, records_from}
use Rattle.csv.specs.Writing.{read_back}
use Rattle.csv.specs.declared.parser.State.TheVariants.{StartRecord}
use Rattle.csv.proofs.RoundTrip.{read-write}
use Rattle.mm_base.proofs.RangeSums.{sum_by_range_more, sum_by_range_same, sum_by_range_one}
use Rattle.mm_base.proofs.Sums.{sum_by-add, sum_by-filter, sum_by-map, sum_by-flat_map}
use Rattle.mm_mission.specs.declared.packets.PacketStep.{PacketStep}
use Rattle.mm_mission.specs.declared.parts.Pass.{Pass}
use Rattle.mm_mission.specs.Mission.{MissionRows, IsMission}
use Rattle.mm_mission.specs.Edges.{AreTimes}
use Rattle.mm_mission.proofs.Rising.{rises_by, rises}
use Rattle.mm_mission_sheet.specs.declared.sheet.Row.{Row}
use Rattle.mm_mission_sheet.specs.Cells.{csv_text}
use Rattle.mm_mission_sheet.specs.Laws.{told_of}
use Rattle.mm_mission_sheet.specs.Sheets.{step_at, over_steps, lost_then, row_of, span_of, next_begin, row_in, row_before, loses}
use Rattle.mm_mission_sheet.specs.Sheets.{rows_before, rows_in, sheet_rows}
use Rattle.mm_mission_sheet.proofs.SheetLemmas.{later_at, next_within}

-- a line with a cell is read back
read_line : (cells : List (List ℕ)) → 1 ≤ length cells → read_back cells ≡ cells
read_line [] some = absurd (omega arith)
read_line (x ∷ rest) some = refl

pub tables_are_read_back : (lines : List (List (List ℕ))) → All (λ cells. 1 ≤ length cells) lines
    → records_from default_config (length lines) StartRecord (csv_text lines) ≡ lines
unfolding records_from
tables_are_read_back [] some = refl
tables_are_read_back (line ∷ lines) some =
    let one = read_line line (All-head (λ cells. 1 ≤ length cells) line lines some) in
    rw (read-write line (csv_text lines))
    (ap (λ t. read_back line ∷ t) (tables_are_read_back lines (All-tail (λ cells. 1 ≤ length cells) line lines some))
    ∙ ap (λ t. t ∷ lines) one)

-- ---- losses

-- a step begins before a time, or from then on
piece : (e n a b c : ℕ) → a ≤ b → b ≤ c
    → cond (nat_le a e && nat_lt e b) n 0 + cond (nat_le b e && nat_lt e c) n 0 ≡ cond (nat_le a e && nat_lt e c) n 0
piece e n a b c first second = elim (cases_Bool (nat_lt e b)) [
  | inl before ↦
      let late : nat_le b e ≡ false = grind (arith, nat_tests, before) in
      let early : nat_lt e c ≡ true = grind (arith, nat_tests, before) in
      rw (before, late, early) (omega arith)
  | inr after ↦
      let begun : nat_le a e ≡ true = grind (arith, nat_tests, after) in
      let here : nat_le b e ≡ true = grind (arith, nat_tests, after) in
      rw (after, begun, here) (omega arith)
]

module _ (m : MissionRows) (edges : List ℕ) (steps : List PacketStep) (s : ℕ) (h : IsMission m)
    (times : AreTimes m edges) (below : s < length m.stores)
  where
    -- what is lost in the steps that begin from one time until another
    abbrev from : ℕ → ℕ → ℕ
    from a b = over_steps edges (lost_then edges steps s (record { begin = a; end = b }))

    joined : (a b c : ℕ) → a ≤ b → b ≤ c → from a b + from b c ≡ from a c
    joined a b c first second =
        let one : ℕ → ℕ = lost_then edges steps s (record { begin = a; end = b }) in
        let two : ℕ → ℕ = lost_then edges steps s (record { begin = b; end = c }) in
        let both = sum_by-add one two (range_with_len 1 (length edges - 1)) in
        let same = sum_by_range_same (λ t. one t + two t) (lost_then edges steps s (record { begin = a; end = c })) 1
        (length edges - 1)
        (λ t _ _. piece (slice_index edges (t - 1)) (step_at edges steps s t).lost a b c first second) in
        sym both ∙ same

    -- each step begins before the mission ends
    all_lost : from 0 m.lasts ≡ over_steps edges (λ t. (step_at edges steps s t).lost)
    all_lost =
        sum_by_range_same (lost_then edges steps s (record { begin = 0; end = m.lasts }))
        (λ t. (step_at edges steps s t).lost) 1 (length edges - 1)
        (λ t low high.
        let next = rises_by edges times.rising (t - 1) 1 (omega (arith, times.some)) in
        let after : t - 1 + 1 ≡ t = omega arith in
        let end = rises edges times.rising t (length edges - 1) (omega arith) (omega (arith, times.some)) in
        let before : slice_index edges (t - 1) < m.lasts = omega (arith, rw after at next, end, times.last) in
        within (slice_index edges (t - 1)) m.lasts (step_at edges steps s t).lost before)
      where
        within : (e lasts n : ℕ) → e < lasts → cond (nat_le 0 e && nat_lt e lasts) n 0 ≡ n
        within e lasts n before =
            let first : nat_le 0 e ≡ true = grind (arith, nat_tests) in
            let last : nat_lt e lasts ≡ true = grind (arith, nat_tests) in
            rw (first, last) refl

    -- passes begin one after the other
    begins : (p : ℕ) → p < length m.passes → next_begin m p ≤ next_begin m (p + 1)
    begins p there =
        let none : Pass =
        record { span = record { begin = 0; end = 0 }; rate = record { octets = 0; micros = 0 }; channels = [] } in
        let here = slice_get-get_or m.passes p none there in
        let lasts = later_at m h p there in
        elim (cases_lt (p + 1) (length m.passes)) [
          | inl more ↦
              let next = slice_get-get_or m.passes (p + 1) none more in
              let apart = h.apart p (p + 1) none (omega arith) more in
              rw (here, next) (omega (arith, rw here at lasts, apart))
          | inr last ↦
              let next = slice_get_past m.passes (p + 1) last in
              rw next (next_within m h p)
        ]

    -- from the mission's begin until a pass
    until : (k : ℕ) → k ≤ length m.passes → from 0 (next_begin m 0)
        + sum_by (λ p. from (span_of (slice_get m.passes p)).begin (next_begin m (p + 1))) (range_with_len 0 k)
        ≡ from 0 (next_begin m k)
    until zero within = omega arith
    until (suc k) within =
        let each : ℕ → ℕ = λ p. from (span_of (slice_get m.passes p)).begin (next_begin m (p + 1)) in
        let one : k + 1 ≡ suc k = omega arith in
        let added = rw one at (sum_by_range_more each 0 k k (omega arith)) in
        let none : Pass =
        record { span = record { begin = 0; end = 0 }; rate = record { octets = 0; micros = 0 }; channels = [] } in
        let here = slice_get-get_or m.passes k none (omega arith) in
        let same : (span_of (slice_get m.passes k)).begin ≡ next_begin m k = rw here refl in
        let join = joined 0 (next_begin m k) (next_begin m (k + 1)) (omega arith) (begins k (omega arith)) in
        let before = until k (omega arith) in
        let last : each k ≡ from (next_begin m k) (next_begin m (k + 1)) = ap (λ b. from b (next_begin m (k + 1))) same in
        rw (sym one) (omega (arith, rw (sym one) at added, before, join, last))

    -- of the rows of all stores for one time
    one_store : (make : ℕ → Row) → ((k : ℕ) → (make k).sent.store ≡ k)
        → sum_by (λ k. told_of s (λ row. row.lost) (make k)) (range_with_len 0 (length m.stores)) ≡ (make s).lost
    one_store make stores =
        sum_by_range_one (λ k. told_of s (λ row. row.lost) (make k)) 0 (length m.stores) s (omega arith) (omega arith)
        (λ k _ _ other. rw (stores k, ne_eqb k s other) refl)
        ∙ rw (stores s, eq-eqb s s refl) refl

    -- the rows before the first pass
    rows_then : sum_by (told_of s (λ row. row.lost)) (rows_before m edges steps) ≡ from 0 (next_begin m 0)
    unfolding row_of
    rows_then =
        let told : Row → ℕ = told_of s (λ row. row.lost) in
        let make : ℕ → Row = row_before m edges steps in
        let all = range_with_len 0 (length m.stores) in
        sum_by-filter told loses (map make all)
        ∙ sum_by-map (λ row. cond (loses row) (told row) 0) make all
        ∙ sum_by_range_same (λ k. cond (loses (make k)) (told (make k)) 0) (λ k. told (make k)) 0 (length m.stores)
        (λ k _ _. nothing (make k).lost ((make k).sent.store == s))
        ∙ one_store make (λ _. refl)
      where
        nothing : (lost : ℕ) (is : Bool) → cond (nat_lt 0 lost) (cond is lost 0) 0 ≡ cond is lost 0
        nothing lost true = elim (cases_Bool (nat_lt 0 lost)) [
          | inl some ↦ rw some refl
          | inr keeps ↦ let zero : lost ≡ 0 = grind (arith, nat_tests, keeps) in rw keeps (sym zero)
        ]
        nothing lost false = elim (cases_Bool (nat_lt 0 lost)) [ inl some ↦ rw some refl | inr keeps ↦ rw keeps refl ]

    -- the rows of the passes
    rows_of_passes : sum_by (told_of s (λ row. row.lost)) (flat_map (rows_in m edges steps) (range_with_len 0 (length m.passes)))
        ≡ sum_by (λ p. from (span_of (slice_get m.passes p)).begin (next_begin m (p + 1))) (range_with_len 0 (length m.passes))
    unfolding row_of
    rows_of_passes =
        let told : Row → ℕ = told_of s (λ row. row.lost) in
        let all = range_with_len 0 (length m.stores) in
        sum_by-flat_map told (rows_in m edges steps) (range_with_len 0 (length m.passes))
        ∙ sum_by_range_same (λ p. sum_by told (rows_in m edges steps p))
        (λ p. from (span_of (slice_get m.passes p)).begin (next_begin m (p + 1))) 0 (length m.passes)
        (λ p _ _. sum_by-map told (row_in m edges steps p) all ∙ one_store (row_in m edges steps p) (λ _. refl))

    pub losses_add_up : sum_by (told_of s (λ row. row.lost)) (sheet_rows m edges steps)
        ≡ over_steps edges (λ t. (step_at edges steps s t).lost)
    losses_add_up =
        let told : Row → ℕ = told_of s (λ row. row.lost) in
        let both = sum_by-append told (rows_before m edges steps)
        (flat_map (rows_in m edges steps) (range_with_len 0 (length m.passes))) in
        let end = slice_get_past m.passes (length m.passes) (omega arith) in
        let chain = until (length m.passes) (omega arith) in
        both ∙ omega (arith, rows_then, rows_of_passes, rw end at chain, all_lost)
