-- The order in which a sheet is printed.
use Rattle.std.specs.Prelude.{◌≡◌, ℕ, List, [], ◌∷◌, ◌++◌, length, position, unwrap_or}
use Rattle.std.specs.Ordering.{nat_cmp, ordering_then}
use Rattle.std.specs.declared.cmp.Ordering.{Ordering}
use Rattle.std.specs.List.Sorted.{IsPermutation, IsSortedByKey, IsNonDecreasing}
use Rattle.std.specs.Str.{bytes_eq}
use Rattle.mm_base.specs.Characters.{line_feed, space}
use Rattle.mm_plan.specs.declared.stretch.Stretch.{Stretch}
use Rattle.mm_plan.specs.Table.{Table}
use Rattle.mm_plan.specs.Sheet.{SheetRows, IsSheet, Line, line_text, dump_lines, sheet_text}

-- the place of an identifier, and the number of identifiers where it is none of them
abbrev pub place_of : List (List ℕ) → List ℕ → ℕ
place_of ids id = unwrap_or (position (λ i. bytes_eq i id) ids) (length ids)

-- the store's place, then the first and the last step
abbrev pub stretch_key : List (List ℕ) → Stretch → ℕ × ℕ × ℕ
stretch_key ids d = (place_of ids d.store, d.first, d.last)

-- the order of these keys
abbrev pub key_cmp : ℕ × ℕ × ℕ → ℕ × ℕ × ℕ → Ordering
key_cmp a b = ordering_then (ordering_then (nat_cmp a.0 b.0) (nat_cmp a.1 b.1)) (nat_cmp a.2 b.2)

-- the same stretches, in store order, and of a store by the first and then the last step
pub record AreOrdered (ids : List (List ℕ)) (old new : List Stretch) : Type 0 where
  pub same : IsPermutation old new
  pub order : IsSortedByKey (stretch_key ids) key_cmp new

-- the same numbers, in rising order
pub record AreRising (old new : List ℕ) : Type 0 where
  pub same : IsPermutation old new
  pub order : IsNonDecreasing new

-- the same sheet with its stretches and counts in the order in which they are printed
pub record IsOrdered (old new : SheetRows) : Type 0 where
  pub stores : new.stores ≡ old.stores
  pub plan : new.plan ≡ old.plan
  pub loss : new.loss ≡ old.loss
  pub bound : new.bound ≡ old.bound
  pub firsts : new.firsts ≡ old.firsts
  pub cut : AreOrdered old.stores old.cut new.cut
  pub counts : AreRising old.by_channels new.by_channels

-- the text is that of the sheet in this order, which is within the limits of the text where the sheet is
abbrev pub IsPrinted : SheetRows → List ℕ → Type 0
IsPrinted s text = (r : SheetRows) × IsOrdered s r × (IsSheet s → IsSheet r) × (text ≡ sheet_text r)

-- a line for each step of a plan
abbrev pub plan_lines : Table → List Line
plan_lines x = dump_lines x.stores 1 x.steps x.amounts

-- a line with its line feed
unfoldable pub ended : Line → List ℕ
ended x = line_text x ++ line_feed ∷ []

-- lines, each with its line feed
abbrev pub all_ended : List Line → List ℕ
all_ended [] = []
all_ended (x ∷ xs) = ended x ++ all_ended xs

-- words, each with a space before it
abbrev pub spaced : List (List ℕ) → List ℕ
spaced [] = []
spaced (w ∷ ws) = space ∷ w ++ spaced ws
