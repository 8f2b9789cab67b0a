-- The values at the keys of a document, with its arrays as lists.
use Rattle.std.specs.Prelude.{map}
use Rattle.toml.specs.View.{view}
use Rattle.mm_problem.specs.declared.document.Arrays.{Arrays}
use Rattle.mm_problem.specs.Document.{Lists}

-- the elements after the slices
abbrev pub lists_of : Arrays → Lists
lists_of a = record {
  stores = map view a.stores.now;
  routes = map view a.routes.now;
  limits = map view a.limits.now;
  come = a.come;
}
