use Rattle.std.proofs.Common.{◌≡◌, ℕ, ◌<◌, ◌≤◌, Bool, not, List, length, Option, Some, None, sym, arith}
use Rattle.std.specs.Prelude.{position, bytes_eq, IfSome, IfNone}
use Rattle.std.specs.List.{position_or_len}
use Rattle.std.proofs.lemmas.Grind.{common_steps}
use Rattle.std.proofs.lemmas.List.Sums.{prefix_len-le-length}
use Rattle.mm_base.specs.declared.rows.StoreRow.{StoreRow}
use Rattle.mm_problem.proofs.problem.Problem.place.Goals as goal

module _ {X : Type 0} (p : X → Bool) (xs : List X) where
  -- what is found is the place of the first that passes
  found : (o : Option ℕ) → o ≡ position p xs → IfSome o (λ s. (s ≡ position_or_len p xs) × (s < length xs))
  found None is = tt
  found (Some i) is =
      let at : position_or_len p xs ≡ i = grind (arith, common_steps) in
      let below : i < length xs = grind (arith, common_steps) in
      (sym at, below)

  -- where nothing is found, none passes
  none : (o : Option ℕ) → o ≡ position p xs → IfNone o (position_or_len p xs ≡ length xs)
  none (Some i) is = tt
  none None is =
      let past : length xs ≤ position_or_len p xs = grind (arith, common_steps) in
      omega (arith, past, prefix_len-le-length (λ x. not (p x)) xs)

pub returns-clause-found : goal.returns-clause-found
returns-clause-found c =
    rw (← c.self.view_is) (found (λ (r : StoreRow). bytes_eq r.id c.args.id.now) c.self.inside.rows.items
    c.place_in.result (rw c.as_slice.ensures.value at c.place_in.ensures))

pub returns-clause-none : goal.returns-clause-none
returns-clause-none c =
    rw (← c.self.view_is) (none (λ (r : StoreRow). bytes_eq r.id c.args.id.now) c.self.inside.rows.items
    c.place_in.result (rw c.as_slice.ensures.value at c.place_in.ensures))
