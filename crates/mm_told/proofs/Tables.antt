-- What `get` lends of a table, copied.
use Rattle.std.proofs.Common.{◌≡◌, ℕ, List, length, Option, Some, None, Bor, refl, sym, option_copied, slice_get}
use Rattle.std.specs.Slice.{IsItemAt}
use Rattle.std.proofs.lemmas.Option.{slice_get_past, slice_get_read}

pub copied-entry : {X : Type 0} (xs : List X) (i : ℕ) (r : Option (Bor X)) → IsItemAt xs i r
    → option_copied r ≡ slice_get xs i
copied-entry xs i None item = sym (slice_get_past xs i item.3)
copied-entry xs i (Some b) item = sym (slice_get_read xs (length xs) i b.now refl item.3.0 item.1)
