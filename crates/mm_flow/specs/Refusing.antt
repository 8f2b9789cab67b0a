-- When a network is not solved.
use Rattle.std.specs.Prelude.{◌≡◌, ◌≢◌, ◌↔◌, ℕ, Result, OnOk, IsErrOf}
use Rattle.mm_flow.specs.declared.fault.Fault.{Fault}
use Rattle.mm_flow.specs.declared.fault.Fault.TheVariants.{Unbounded, SameEnds}
use Rattle.mm_flow.specs.Graph.{Graph}
use Rattle.mm_flow.specs.Solution.{HasUnlimitedPath}

-- the result is `SameEnds` if and only if both ends are the same node; unless memory runs out, it is `Unbounded` if and
-- only if a path of unlimited arcs leads from one end to the other
pub record RefusesFaults {T : Type 0} (g : Graph) (source sink : ℕ) (answer : Result T Fault) : Type 0 where
  pub same_ends : IsErrOf answer SameEnds ↔ (source ≡ sink)
  pub unbounded : IsErrOf answer Unbounded → (source ≢ sink) × HasUnlimitedPath g source sink
  pub bounded : OnOk answer (¬ HasUnlimitedPath g source sink)
