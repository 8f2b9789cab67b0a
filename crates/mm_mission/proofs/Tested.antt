-- Parts of a mission that are tested, one after the other.
use Rattle.std.proofs.Common.{◌≡◌, ℕ, ◌+◌, ◌<◌, ◌≤◌, Bool, true, false, not, List, [], ◌∷◌, length, get_or, drop, refl}
use Rattle.std.proofs.Common.{Option, Some, None, Ok, Err, arith}
use Rattle.std.specs.Prelude.{All, AllPairs, IsTrue, position, nat_le}
use Rattle.std.specs.List.{position_or_len}
use Rattle.std.proofs.lemmas.Bool.Decides.{nat_tests}
use Rattle.std.proofs.lemmas.List.{drop_more, drop_all}
use Rattle.std.proofs.lemmas.List.Elements.{All-nil, All-cons, All-head, All-tail}
use Rattle.std.proofs.lemmas.List.Sums.{fails_before_first}
use Rattle.std.proofs.lemmas.List.Kept.{AllPairs-cons}
use Rattle.mm_base.specs.Reading.{test}
use Rattle.mm_base.proofs.ReadingSteps.{bind_ok, test_ok}
use Rattle.mm_mission.specs.declared.fault.Fault.{Fault}
use Rattle.mm_mission.specs.declared.fault.Fault.TheVariants.{BadTime, TooMany, BadStore, BadPass, Overlap}
use Rattle.mm_mission.specs.declared.fault.Fault.TheVariants.{BadObservation, NoStore}
use Rattle.mm_mission.specs.declared.parts.Pass.{Pass}
use Rattle.mm_mission.specs.Mission.{MissionRows, IsMission, EndsBefore, is_time, are_few, is_store, is_pass}
use Rattle.mm_mission.specs.Mission.{is_observation, is_known, fault_at, each_fits, follow, passes_fit}
use Rattle.mm_mission.specs.Mission.{observations_fit}

-- where no place has a row that does not fit, each row fits
none_unfit : {R : Type 0} (fits : R → Bool) (rows : List R) → position (λ r. not (fits r)) rows ≡ None
    → All (λ r. IsTrue (fits r)) rows
none_unfit {R} fits rows none =
    let past : length rows ≤ position_or_len (λ r. not (fits r)) rows = grind (arith, nat_tests, none) in
    λ k d within.
    fitting (fits (get_or rows k d)) (fails_before_first (λ r. not (fits r)) rows k d (omega arith))
  where
    fitting : (b : Bool) → not b ≡ false → IsTrue b
    fitting true h = refl
    fitting false h = absurd (cc)

no_fault : (fault : ℕ → Fault) (o : Option ℕ) (u : Unit {0}) → fault_at fault o ≡ Ok u → o ≡ None
no_fault fault None u h = refl
no_fault fault (Some row) u h = absurd (cc)

-- rows that passed fit
pub each_fits_said : {R : Type 0} (fault : ℕ → Fault) (fits : R → Bool) (rows : List R) (u : Unit {0})
    → each_fits fault fits rows ≡ Ok u → All (λ r. IsTrue (fits r)) rows
each_fits_said fault fits rows u h =
    none_unfit fits rows (no_fault fault (position (λ r. not (fits r)) rows) u h)

module _ (passes : List Pass) (row free : ℕ) where
  -- after the last pass nothing is left to test
  pub follow_none : length passes ≤ row → follow row free (drop row passes) ≡ Ok tt
  unfolding follow
  follow_none past = rw (drop_all row passes past) refl

  module _ (pass : Pass) (below : row < length passes) (is : pass ≡ get_or passes row pass) where
    pub follow_passed : (u : Unit {0}) → test (nat_le free pass.span.begin) (Overlap row) ≡ Ok u
        → follow row free (drop row passes) ≡ follow (row + 1) pass.span.end (drop (row + 1) passes)
    unfolding follow
    follow_passed u given = rw (drop_more passes row pass below, ← is, given) refl

    pub follow_fault : (e : Fault) → test (nat_le free pass.span.begin) (Overlap row) ≡ Err e
        → follow row free (drop row passes) ≡ Err e
    unfolding follow
    follow_fault e given = rw (drop_more passes row pass below, ← is, given) refl

-- a pass begins before it ends
pub pass_lasts : (lasts : ℕ) (p : Pass) → IsTrue (is_pass lasts p) → p.span.begin < p.span.end
pass_lasts lasts p h = grind (arith, nat_tests, h)

-- passes that followed one another do not overlap
pub follow_said : (lasts row free : ℕ) (passes : List Pass) (u : Unit {0})
    → All (λ p. IsTrue (is_pass lasts p)) passes → follow row free passes ≡ Ok u
    → All (λ p. free ≤ p.span.begin) passes × AllPairs EndsBefore passes
unfolding follow
follow_said lasts row free [] u each h = (
  All-nil (λ p. free ≤ p.span.begin),
  λ i j d before within. absurd
      (omega arith),
)
follow_said lasts row free (p ∷ passes) u each h =
    let (v, given, rest) = bind_ok _ _ _ h in
    let (after, apart) = follow_said lasts (row + 1) p.span.end passes u
    (All-tail (λ p. IsTrue (is_pass lasts p)) p passes each) rest in
    let begins : nat_le free p.span.begin ≡ true = test_ok _ _ _ given in
    let here : free ≤ p.span.begin = grind (arith, nat_tests) in
    let long = pass_lasts lasts p (All-head (λ p. IsTrue (is_pass lasts p)) p passes each) in (
      All-cons (λ p. free ≤ p.span.begin) p passes here (λ k d within. omega (arith, after k d within)),
      AllPairs-cons EndsBefore p passes after apart,
    )

-- the parts of a mission that passed
pub is_mission : (m : MissionRows) (a b c d e : Unit {0})
    → test (is_time m.lasts) BadTime ≡ Ok a
    → test (are_few (length m.passes) (length m.observations)) TooMany ≡ Ok b
    → each_fits BadStore is_store m.stores ≡ Ok c → passes_fit m.lasts m.passes ≡ Ok d
    → observations_fit m.lasts (length m.stores) m.observations ≡ Ok e → IsMission m
is_mission m a b c d e time few stores passes observations =
    let (u, each, followed) = bind_ok _ _ _ passes in
    let passes_are = each_fits_said BadPass (is_pass m.lasts) m.passes u each in
    let (v, each_observed, known) = bind_ok _ _ _ observations in
    record {
      time = test_ok _ _ _ time;
      few = test_ok _ _ _ few;
      stores = each_fits_said BadStore is_store m.stores c stores;
      passes = passes_are;
      apart = (follow_said m.lasts 0 0 m.passes d passes_are followed).1;
      observations = each_fits_said BadObservation (is_observation m.lasts) m.observations v each_observed;
      known = each_fits_said NoStore (is_known (length m.stores)) m.observations e known;
    }
