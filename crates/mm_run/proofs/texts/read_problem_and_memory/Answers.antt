use Rattle.mm_run.proofs.Routes.{setup_has_routes_to_stores}
use Rattle.mm_run.proofs.texts.read_problem_and_memory.Goals as goal

pub invariant_of-result : goal.invariant_of-result
invariant_of-result c = record {
  routes = rw c.in-Ok.ensures.memory
      (setup_has_routes_to_stores c.in_ok-setup.setup (rw c.setup.view_is at c.setup.invariant));
}
