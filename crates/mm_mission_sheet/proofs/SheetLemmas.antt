-- Sums over steps, the times of passes, and rows that are written one after the other.
use Rattle.std.proofs.Common.{◌≡◌, ℕ, zero, suc, ◌+◌, ◌-◌, ◌<◌, ◌≤◌, Bool, true, false, nat_le, nat_lt, ◌&&◌, List, [], ◌∷◌}
use Rattle.std.proofs.Common.{◌++◌, length, map, All, refl, sym, ap, ◌∙◌, subst, arith, append_assoc, append-nil, add-one}
use Rattle.std.proofs.Common.{cond, inl, inr, drop, length-drop}
use Rattle.std.specs.Prelude.{Option, Some, None, slice_get, slice_index, filter, codes, IsTrue, not}
use Rattle.std.specs.List.{flat_map, range_with_len, sum_by}
use Rattle.std.proofs.lemmas.Bool.{cases_Bool}
use Rattle.std.proofs.lemmas.Bool.Decides.{nat_tests}
use Rattle.std.proofs.lemmas.List.{map-append}
use Rattle.std.proofs.lemmas.List.Concat.{flat_map-append}
use Rattle.std.proofs.lemmas.List.Elements.{All-tail, filter-append}
use Rattle.std.proofs.lemmas.List.Filters.{length-filter_both}
use Rattle.std.proofs.lemmas.List.FromFn.{map-range_with_len_more}
use Rattle.std.proofs.lemmas.Option.{slice_get-get_or}
use Rattle.csv.specs.Writing.{fields_text, is_blank}
use Rattle.mm_base.proofs.Ranges.{range_with_len_more}
use Rattle.mm_base.proofs.RangeSums.{sum_by_range_more, sum_by_range-le, sum_by_range_zeros}
use Rattle.mm_mission.specs.declared.packets.PacketStep.{PacketStep}
use Rattle.mm_mission.specs.declared.parts.Pass.{Pass}
use Rattle.mm_mission.specs.declared.parts.Span.{Span}
use Rattle.mm_mission.specs.Mission.{MissionRows, IsMission, is_pass}
use Rattle.mm_mission_sheet.specs.declared.sheet.Row.{Row}
use Rattle.mm_mission_sheet.specs.Cells.{csv_line, csv_text}
use Rattle.mm_mission_sheet.specs.Sheets.{step_at, over_steps, begins_in, lost_then, span_of, begin_of, ended}
use Rattle.mm_mission_sheet.specs.Sheets.{sheet_header}
use Rattle.mm_mission_sheet.proofs.CellLemmas.{more}

-- ---- sums

-- a loop over steps adds the next term
pub sum_next : (f : ℕ → ℕ) (t : ℕ) → 1 ≤ t
    → sum_by f (range_with_len 1 (t + 1 - 1)) ≡ sum_by f (range_with_len 1 (t - 1)) + f t
sum_next f t first =
    let next : t + 1 - 1 ≡ t - 1 + 1 = omega arith in
    ap (λ k. sum_by f (range_with_len 1 k)) next ∙ sum_by_range_more f 1 (t - 1) t (omega arith)

-- a sum over fewer numbers is not larger
fewer : (f : ℕ → ℕ) (k n : ℕ) → sum_by f (range_with_len 1 k) ≤ sum_by f (range_with_len 1 (k + n))
fewer f k zero = let same : k + 0 ≡ k = omega arith in rw same (omega arith)
fewer f k (suc n) =
    let next : k + suc n ≡ k + n + 1 = omega arith in
    let added = sum_by_range_more f 1 (k + n) (1 + (k + n)) refl in
    rw next (omega (arith, added, fewer f k n))

-- what is lost by a step, in some of the steps, is not more than what is lost in all of them
pub lost_few : (edges : List ℕ) (steps : List PacketStep) (s : ℕ) (span : Span) (t : ℕ) → 1 ≤ t → t < length edges
    → sum_by (lost_then edges steps s span) (range_with_len 1 (t - 1)) + lost_then edges steps s span t
    ≤ over_steps edges (λ u. (step_at edges steps s u).lost)
lost_few edges steps s span t first last =
    let lost : ℕ → ℕ = λ u. (step_at edges steps s u).lost in
    let then : ℕ → ℕ = lost_then edges steps s span in
    let next = sum_next then t first in
    let these = sum_by_range-le then lost 1 (t + 1 - 1) (λ u _ _. some (begins_in edges span u) (lost u)) in
    let rest : t + 1 - 1 + (length edges - 1 - t) ≡ length edges - 1 = omega arith in
    let all = rw rest at (fewer lost (t + 1 - 1) (length edges - 1 - t)) in
    omega (arith, next, these, all)
  where
    some : (b : Bool) (n : ℕ) → cond b n 0 ≤ n
    some true n = omega arith
    some false n = omega arith

-- where something is lost from the mission's begin until a time, that time is later
pub some_time : (edges : List ℕ) (steps : List PacketStep) (s time : ℕ)
    → 0 < over_steps edges (lost_then edges steps s (record { begin = 0; end = time })) → 0 < time
some_time edges steps s zero some =
    let none = sum_by_range_zeros (lost_then edges steps s (record { begin = 0; end = 0 })) 1 (length edges - 1)
    (λ t _ _. none_before (slice_index edges (t - 1)) (step_at edges steps s t).lost) in
    absurd (omega (arith, none, some))
  where
    none_before : (e n : ℕ) → cond (nat_le 0 e && nat_lt e 0) n 0 ≡ 0
    none_before e n = elim (cases_Bool (nat_le 0 e && nat_lt e 0)) [
      | inl before ↦ absurd (grind (arith, nat_tests, before))
      | inr after ↦ rw after refl
    ]
some_time edges steps s (suc time) some = omega arith

-- fewer steps have ended by a time than there are edges
pub ended_below : (edges : List ℕ) (time : ℕ) → 1 ≤ length edges → ended edges time < length edges
unfolding ended
ended_below edges time some =
    let both = length-filter_both (λ edge. nat_le edge time) (λ edge. not (nat_le edge time)) (λ _. refl) (drop 1 edges) in
    omega (arith, both, length-drop 1 edges)

-- ---- passes

-- a pass is one of its mission
fits_at : (lasts : ℕ) (passes : List Pass) (p : ℕ) (q : Pass) → All (λ r. IsTrue (is_pass lasts r)) passes
    → slice_get passes p ≡ Some q → IsTrue (is_pass lasts q)
fits_at lasts [] p q all is = absurd (cc is)
fits_at lasts (x ∷ xs) zero q all is =
    let same : x ≡ q = cc is in
    subst (λ r. IsTrue (is_pass lasts r)) same (all 0 x (omega arith))
fits_at lasts (x ∷ xs) (suc p) q all is = fits_at lasts xs p q (All-tail (λ r. IsTrue (is_pass lasts r)) x xs all) is

pass_later : (lasts : ℕ) (p : Pass) → IsTrue (is_pass lasts p) → p.span.begin < p.span.end
pass_later lasts p h = grind (arith, nat_tests, h)

pass_within : (lasts : ℕ) (p : Pass) → IsTrue (is_pass lasts p) → p.span.end ≤ lasts
pass_within lasts p h = grind (arith, nat_tests, h)

-- the time of a pass, if there is one
span_later : (lasts : ℕ) (o : Option Pass) → ((q : Pass) → o ≡ Some q → IsTrue (is_pass lasts q)) → (none : o ≡ None → ⊥)
    → (span_of o).begin < (span_of o).end
span_later lasts None fits none = absurd (none refl)
span_later lasts (Some q) fits none = pass_later lasts q (fits q refl)

span_within : (lasts : ℕ) (o : Option Pass) → ((q : Pass) → o ≡ Some q → IsTrue (is_pass lasts q))
    → (span_of o).end ≤ lasts
span_within lasts None fits = omega arith
span_within lasts (Some q) fits = pass_within lasts q (fits q refl)

begin_within : (lasts : ℕ) (o : Option Pass) → ((q : Pass) → o ≡ Some q → IsTrue (is_pass lasts q))
    → begin_of lasts o ≤ lasts
begin_within lasts None fits = omega arith
begin_within lasts (Some q) fits = omega (arith, pass_within lasts q (fits q refl), pass_later lasts q (fits q refl))

module _ (m : MissionRows) (h : IsMission m) (p : ℕ) where
  fits : (q : Pass) → slice_get m.passes p ≡ Some q → IsTrue (is_pass m.lasts q)
  fits q is = fits_at m.lasts m.passes p q h.passes is

  pub later_at : p < length m.passes
      → (span_of (slice_get m.passes p)).begin < (span_of (slice_get m.passes p)).end
  later_at below =
      let none : Pass =
      record { span = record { begin = 0; end = 0 }; rate = record { octets = 0; micros = 0 }; channels = [] } in
      let some = slice_get-get_or m.passes p none below in
      span_later m.lasts (slice_get m.passes p) fits (λ e. cc (sym e ∙ some))

  pub within_at : (span_of (slice_get m.passes p)).end ≤ m.lasts
  within_at = span_within m.lasts (slice_get m.passes p) fits

  pub next_within : begin_of m.lasts (slice_get m.passes p) ≤ m.lasts
  next_within = begin_within m.lasts (slice_get m.passes p) fits

pub passes_few : (m : MissionRows) → IsMission m → length m.passes ≤ 256
passes_few m h = grind (arith, nat_tests, h.few)

-- ---- rows

-- rows after others
pub rows_more : (cells : Row → List (List ℕ)) (rows part all : List Row) (old mid new : List ℕ) → all ≡ rows ++ part
    → mid ≡ old ++ csv_text (map cells rows) → new ≡ mid ++ csv_text (map cells part)
    → new ≡ old ++ csv_text (map cells all)
rows_more cells rows part all old mid new is before next =
    more old _ _ mid new before next
    ∙ ap (λ xs. old ++ xs) (sym (ap (λ rs. csv_text (map cells rs)) is ∙ ap csv_text (map-append cells rows part)
    ∙ flat_map-append csv_line (map cells rows) (map cells part)))

-- one store more of the time before the first pass
pub lost_more : (row : ℕ → Row) (test : Row → Bool) (k : ℕ) → filter test (map row (range_with_len 0 (k + 1)))
    ≡ filter test (map row (range_with_len 0 k)) ++ filter test (row k ∷ [])
lost_more row test k = ap (filter test) (map-range_with_len_more row 0 k k (omega arith))
    ∙ filter-append test (map row (range_with_len 0 k)) (row k ∷ [])

-- one store more of a pass
pub stores_more : (row : ℕ → Row) (k : ℕ) → map row (range_with_len 0 (k + 1)) ≡ map row (range_with_len 0 k) ++ row k ∷ []
stores_more row k = map-range_with_len_more row 0 k k (omega arith)

-- one pass more
pub passes_more : (before : List Row) (make : ℕ → List Row) (k : ℕ)
    → before ++ flat_map make (range_with_len 0 (k + 1)) ≡ (before ++ flat_map make (range_with_len 0 k)) ++ make k
passes_more before make k =
    ap (λ n. before ++ flat_map make (range_with_len 0 n)) (add-one k)
    ∙ ap (λ xs. before ++ flat_map make xs) (range_with_len_more 0 k k (omega arith))
    ∙ ap (λ xs. before ++ xs) (flat_map-append make (range_with_len 0 k) (k ∷ [])
    ∙ ap (λ xs. flat_map make (range_with_len 0 k) ++ xs) (append-nil (make k)))
    ∙ sym (append_assoc before (flat_map make (range_with_len 0 k)) (make k))

-- the header
pub sheet_header_is : csv_line sheet_header ≡ codes "pass,station,begin,end,store,packets,octets,bit/s,before,after,lost\n"
unfolding fields_text is_blank
sheet_header_is = refl
