-- The stages from rows to a problem, and their faults.
use Rattle.std.proofs.Common.{◌≡◌, ◌≢◌, ℕ, Result, Ok, Err, refl, ap, subst, ◌∙◌, length, inl, inr, ◌+◌, ◌<◌, List}
use Rattle.mm_base.specs.Reading.{Gives, test}
use Rattle.mm_base.proofs.ReadingSteps.{bind_ok, ok_same}
use Rattle.mm_base.specs.declared.limits.TheConstants.{MAX_STEPS}
use Rattle.mm_mission.specs.Edges.{AreEdges}
use Rattle.mm_mission.specs.Planned.{problem_of}
use Rattle.mm_mission.specs.declared.fault.Fault as mission
use Rattle.mm_mission.specs.declared.fault.Fault.TheVariants as of_mission
use Rattle.mm_mission.specs.Mission.{MissionRows, mission_from, is_time, are_few, each_fits, is_store, passes_fit}
use Rattle.mm_mission.specs.Mission.{observations_fit}
use Rattle.mm_mission_exact.specs.declared.fault.Fault as exact
use Rattle.mm_mission_exact.specs.declared.rows.Rows.{Rows}
use Rattle.mm_mission_exact.specs.Exact.{ExactRows, exact_of}
use Rattle.mm_mission_text.specs.Cells.{told_as}
use Rattle.mm_mission_plan.specs.Faults.{exact_fault, mission_fault}
use Rattle.mm_mission_plan.specs.Units.{mission_of, numbers_of, flown_of, IsOutcome}
use Rattle.mm_mission_plan.specs.declared.fault.Fault.{Fault}
use Rattle.mm_mission_plan.specs.declared.fault.Fault.TheVariants.{NoMemory}
use Rattle.mm_mission_plan.specs.declared.flown.Flown.{Flown}

-- what a step gives, with the fault that is told of its own
pub told_gives : {F G X Y : Type 0} (tell : F → G) (lacks : F) (out : G) (see : X → Y) (found : Result X F)
    (given : Result Y F) → tell lacks ≡ out → Gives lacks see found given
    → Gives out see (told_as tell found) (told_as tell given)
told_gives tell lacks out see (Ok x) given same gives = rw gives refl
told_gives tell lacks out see (Err e) given same gives = λ other.
    let some : e ≢ lacks = λ is. other (ap tell is ∙ same) in
    rw (gives some) refl

-- a mission is made of the parts that it has
pub mission_is : (m n : MissionRows) → mission_from m ≡ Ok n → m ≡ n
unfolding mission_from
mission_is m n h =
    let time = bind_ok (test (is_time m.lasts) of_mission.BadTime) _ n h in
    let few = bind_ok (test (are_few (length m.passes) (length m.observations)) of_mission.TooMany) _ n time.2 in
    let stores = bind_ok (each_fits of_mission.BadStore is_store m.stores) _ n few.2 in
    let passes = bind_ok (passes_fit m.lasts m.passes) _ n stores.2 in
    let observations = bind_ok (observations_fit m.lasts (length m.stores) m.observations) _ n passes.2 in
    ok_same m n observations.2

-- exact numbers, with the parts of the mission that was made of them
abbrev pub with_mission : ExactRows → MissionRows → ExactRows
with_mission e m = record {
  begin = e.begin;
  lasts = m.lasts;
  stores = m.stores;
  passes = m.passes;
  places = e.places;
  observations = m.observations;
}

pub flown_is : (rows : Rows) (unit : ℕ) (e : ExactRows) (m : MissionRows) → exact_of rows unit ≡ Ok e
    → mission_from (mission_of e) ≡ Ok m → flown_of rows unit ≡ Ok (with_mission e m)
unfolding flown_of
flown_is rows unit e m exactly made =
    let same : mission_of e ≡ m = mission_is (mission_of e) m made in
    let flown : flown_of rows unit ≡ Ok (with_mission e (mission_of e)) = rw (exactly, made) refl in
    subst (λ (n : MissionRows). flown_of rows unit ≡ Ok (with_mission e n)) same flown

pub not_exact : (rows : Rows) (unit : ℕ) (fault : exact.Fault) → exact_of rows unit ≡ Err fault
    → flown_of rows unit ≡ Err (exact_fault fault)
unfolding flown_of
not_exact rows unit fault refused = rw refused refl

pub no_mission : (rows : Rows) (unit : ℕ) (e : ExactRows) (fault : mission.Fault) → exact_of rows unit ≡ Ok e
    → mission_from (mission_of e) ≡ Err fault → flown_of rows unit ≡ Err (mission_fault fault)
unfolding flown_of
no_mission rows unit e fault exactly refused = rw (exactly, refused) refl

-- exact numbers of a mission were exact before
pub flown_exact : (rows : Rows) (unit : ℕ) (e : ExactRows) → flown_of rows unit ≡ Ok e → exact_of rows unit ≡ Ok e
unfolding flown_of
flown_exact rows unit e h =
    let found = bind_ok (told_as exact_fault (exact_of rows unit)) _ e h in
    let made = bind_ok (told_as mission_fault (mission_from (mission_of found.0))) _ e found.2 in
    let same : found.0 ≡ e = ok_same found.0 e made.2 in
    told_ok exact_fault (exact_of rows unit) found.0 found.1 ∙ ap Ok same
  where
    told_ok : {F G X : Type 0} (tell : F → G) (r : Result X F) (x : X) → told_as tell r ≡ Ok x → r ≡ Ok x
    told_ok tell (Ok y) x h = ap Ok (ok_same y x h)
    told_ok tell (Err f) x h = absurd (cc)

module _ (rows : Rows) (unit : ℕ) (f : Flown) (flown : flown_of rows unit ≡ Ok (numbers_of f)) (e : Fault)
    (r : mission.Fault) (told : e ≡ mission_fault r)
  where
    other_fault : e ≢ NoMemory → r ≢ of_mission.NoMemory
    other_fault other = λ is. other (told ∙ ap mission_fault is)

    -- too many steps are a refusal
    pub refused_steps : (r ≢ of_mission.NoMemory → (r ≡ of_mission.TooManySteps)
        × ((times : List ℕ) × AreEdges f.mission times × (MAX_STEPS + 1 < length times)))
        → IsOutcome rows unit (Err e)
    refused_steps many = λ other.
        let facts = many (other_fault other) in
        inr (numbers_of f, flown, (facts.1.0, facts.1.1, inl (told ∙ ap mission_fault facts.0, facts.1.2)))

    -- so is a problem that is refused
    pub refused_problem : (edges : List ℕ) → AreEdges f.mission edges
        → (r ≢ of_mission.NoMemory → problem_of f.mission edges ≡ Err r) → IsOutcome rows unit (Err e)
    refused_problem edges are refused = λ other.
        let of : told_as mission_fault (problem_of f.mission edges) ≡ Err e =
        rw (refused (other_fault other), told) refl in
        inr (numbers_of f, flown, (edges, are, inr of))
