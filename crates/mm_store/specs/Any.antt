-- The two forms of an `AnyStore`. No public clause cites this module.
use Rattle.std.specs.Prelude.{◌≡◌}
use Rattle.mm_base.specs.declared.kind.Kind.{Kind}
use Rattle.mm_base.specs.declared.kind.Kind.TheVariants.{Circular, Bounded}
use Rattle.mm_store.specs.Content.{Store}
use Rattle.mm_store.specs.declared.any.Form.{Form}
use Rattle.mm_store.specs.declared.any.Form.TheVariants.{Ring, Blocks}

-- the store in either form
abbrev pub store_of : Form → Store
store_of (Ring store) = store
store_of (Blocks store) = store

-- the kind of the stores of a form
abbrev pub kind_of : Form → Kind
kind_of (Ring store) = Circular
kind_of (Blocks store) = Bounded

-- the store is of its form's kind
abbrev pub IsOfItsKind : Form → Type 0
IsOfItsKind form = (store_of form).kind ≡ kind_of form
