-- The search for the least unit.
use Rattle.std.proofs.Common.{◌≡◌, ◌≢◌, ℕ, ◌+◌, ◌-◌, ◌*◌, ◌<◌, ◌≤◌, Bool, true, false, Result, Ok, Err}
use Rattle.std.proofs.Common.{refl, ap, subst, sym}
use Rattle.std.proofs.Common.{inl, inr, arith}
use Rattle.std.specs.Prelude.{◌⊎◌, IsTrue}
use Rattle.mm_mission.specs.declared.limits.TheConstants.{MAX_UNIT}
use Rattle.mm_mission_exact.specs.declared.rows.Rows.{Rows}
use Rattle.mm_mission_plan.specs.Faults.{is_small}
use Rattle.mm_mission_plan.specs.Units.{is_too_small, IsOutcome, IsTooSmall, IsTried, IsFound, IsLeast}
use Rattle.mm_mission_plan.specs.Units.{IsLeastFault}
use Rattle.mm_mission_plan.specs.declared.fault.Fault.{Fault}
use Rattle.mm_mission_plan.specs.declared.fault.Fault.TheVariants.{NoMemory}
use Rattle.mm_mission_plan.specs.declared.unit.Found.{Found}
use Rattle.mm_mission_plan.specs.declared.unit.Tried.{Tried}

is_true : (b : Bool) → b ≡ true → IsTrue b
is_true true h = refl
is_true false h = absurd (cc)

-- of a unit that is too small comes its fault
pub small_is : (rows : Rows) (unit : ℕ) (r : Result Tried Fault) → IsOutcome rows unit r → is_too_small r ≡ true
    → IsTooSmall rows unit
small_is rows unit (Ok t) of small = absurd (cc)
small_is rows unit (Err fault) of small =
    let other : fault ≢ NoMemory = λ is. let no : is_small fault ≡ false = ap is_small is in cc in
    (fault, of other, is_true (is_small fault) small)

module _ (rows : Rows) where
  -- a unit that is tried after one that is too small
  pub next_tried : (found next : Found) → IsTried rows found → is_too_small found.outcome ≡ true
      → next.low ≡ found.high → next.low < next.high → next.high ≤ 2 * MAX_UNIT
      → IsOutcome rows next.high next.outcome → IsTried rows next
  next_tried found next tried small low below most outcome = record {
    low = inr (subst (IsTooSmall rows) (sym low) (small_is rows found.high found.outcome tried.outcome small));
    below = below;
    most = most;
    outcome = outcome;
  }

  -- a unit in the middle that is too small is the lower one, and another one is the higher one
  pub higher_half : (found next : Found) → IsFound rows found → next.high < found.high
      → IsOutcome rows next.high next.outcome → is_too_small next.outcome ≡ true
      → IsFound rows (record found { low = next.high })
  higher_half found next is below outcome small = record {
    tried = record {
      low = inr (small_is rows next.high next.outcome outcome small);
      below = below;
      most = is.tried.most;
      outcome = is.tried.outcome;
    };
    enough = is.enough;
  }

  pub lower_half : (found next : Found) → IsFound rows found → next.low ≡ found.low → next.low < next.high
      → next.high < found.high → IsOutcome rows next.high next.outcome → is_too_small next.outcome ≡ false
      → IsFound rows next
  lower_half found next is low above below outcome enough = record {
    tried = record {
      low = subst (λ n. (n ≡ 0) ⊎ IsTooSmall rows n) (sym low) is.tried.low;
      below = above;
      most = omega (arith, is.tried.most);
      outcome = outcome;
    };
    enough = λ small. let no : false ≡ true = subst IsTrue enough small in absurd (cc);
  }

  module _ (found : Found) (is : IsFound rows found) (next : found.low + 1 ≡ found.high) where
    -- the higher unit is the least one
    pub least_is : IsLeast rows found.high
    least_is = record {
      some = omega (arith, is.tried.below);
      before = elim is.tried.low [
        | inl none ↦ inl (omega arith)
        | inr small ↦
            let before : found.low ≡ found.high - 1 = omega arith in
            inr (subst (IsTooSmall rows) before small)
      ];
    }

    pub least_fault : (fault : Fault) → found.outcome ≡ Err fault → fault ≢ NoMemory → IsLeastFault rows fault
    least_fault fault refused other =
        let outcome : IsOutcome rows found.high (Err fault) =
        subst (IsOutcome rows found.high) refused is.tried.outcome in
        let enough : IsTrue (is_too_small (Err fault)) → MAX_UNIT ≤ found.high =
        subst (λ r. IsTrue (is_too_small r) → MAX_UNIT ≤ found.high) refused is.enough in
        (found.high, least_is, outcome other, enough)
