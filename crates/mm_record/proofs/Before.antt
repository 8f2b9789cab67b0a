-- What the tests before a step tell, if all pass.
use Rattle.mm_record.proofs.Words.{◌≡◌, ℕ, ◌+◌, ◌<◌, ◌≤◌, ◌^◌, Bool, false, not, List, length, get_or, All, Option}
use Rattle.mm_record.proofs.Words.{Some, None, refl, arith, find, list_any, position_or_len, and_parts, both_ways}
use Rattle.mm_record.proofs.Words.{false_from_ne_true, ltb-false, not-false, or_parts, fails_before_first}
use Rattle.mm_record.proofs.Words.{slice_get_cases, Held, Holdings, cause_before, cause_by, is_clock_late, is_late}
use Rattle.mm_record.proofs.Words.{is_ready, Supply, recording_of, IsWithinLimits, TakesAll}
use Rattle.std.proofs.lemmas.List.Folds.{find_at, list_any_at}
use Rattle.mm_report.specs.declared.cause.Cause.TheVariants.{ClockTooLate}
use Rattle.mm_report.specs.declared.cause.TheConstants.{LATEST_START}

-- if nothing is found, or none passes, each fails the test
none_found : {X : Type 0} (p : X → Bool) (xs : List X) → find p xs ≡ None → All (λ x. p x ≡ false) xs
none_found p xs none i d within =
    let past : length xs ≤ position_or_len p xs =
    grind (arith, slice_get_cases xs (position_or_len p xs), find_at p xs) in
    fails_before_first p xs i d (omega arith)

none_of_any : {X : Type 0} (p : X → Bool) (xs : List X) → list_any p xs ≡ false → All (λ x. p x ≡ false) xs
none_of_any p xs none i d within = false_from_ne_true (p (get_or xs i d))
    (λ passes. both_ways (list_any p xs) none (list_any_at p xs i d within passes))

-- if no cause is told, none of the tests failed
none_failed : (stores : List Held) (base count : ℕ) (found : Option Held) → cause_by stores base count found ≡ None
    → (found ≡ None) × (is_clock_late stores base ≡ false)
none_failed stores base count None none = (
  refl,
  false_from_ne_true (is_clock_late stores base)
      (λ late. let bad : Some ClockTooLate ≡ None = rw late at none in cc),
)
none_failed stores base count (Some h) bad = absurd (cc)

-- a step that is begun within the limits meets no refusal
pub takes_of : (step base count : ℕ) (memory : Holdings) (sources : List Supply) → step < 2 ^ 32
    → cause_before memory.stores base count ≡ None → IsWithinLimits step memory.stores sources
    → TakesAll (recording_of step (base + step) memory) memory.stores sources
takes_of step base count memory sources fits none limits =
    let stores = memory.stores in
    let found = none_failed stores base count (find (λ h. not (is_ready h)) stores) none in
    let ready = none_found (λ h. not (is_ready h)) stores found.0 in
    let early = or_parts (is_late base) (list_any (λ h. is_late h.state.store.last) stores) found.1 in
    let times = none_of_any (λ h. is_late h.state.store.last) stores early.1 in
    let first : base ≤ LATEST_START = ltb-false LATEST_START base early.0 in
    record {
      moment = omega (arith, first, fits);
      stores_are = λ i d within. record {
        storage = (and_parts _ _ (not-false _ (ready i d within))).0;
        last = let at_most = ltb-false LATEST_START _ (times i d within) in omega (arith, at_most);
        offered = let at_most = limits.offered i d within in omega (arith, at_most);
      };
      few = limits.few;
    }
