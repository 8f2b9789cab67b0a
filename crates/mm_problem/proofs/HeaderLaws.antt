-- The header of a forecast, and the columns that it names.
use Rattle.std.proofs.Common.{◌≡◌, ℕ, ◌+◌, true, List, [], ◌∷◌, ◌++◌, length, map, take, drop, Ok, refl, sym, ap}
use Rattle.std.proofs.Common.{subst, ◌∙◌, arith}
use Rattle.std.specs.Prelude.{All, AllPairs, bytes_eq}
use Rattle.std.proofs.lemmas.Bool.{and_parts, false≢true}
use Rattle.std.proofs.lemmas.Slice.Eq.{bytes_eq-Decides}
use Rattle.std.proofs.lemmas.List.{length-map, drop_at, take-append-drop}
use Rattle.std.proofs.Math.Seq.{take-append_seam}
use Rattle.mm_base.specs.declared.limits.TheConstants.{CHANNELS}
use Rattle.mm_base.specs.declared.rows.StoreRow.{StoreRow}
use Rattle.mm_base.specs.Id.{id_text}
use Rattle.mm_base.proofs.ReadingSteps.{bind_ok, test_ok, ok_same}
use Rattle.mm_problem.specs.Forecast.{Columns, header_of, begins_with, limit_count, columns_named, columns_in}
use Rattle.mm_problem.specs.ReadableForecast.{limit_text, size_text}
use Rattle.mm_problem.specs.Records.{Fields}
use Rattle.mm_problem.specs.Setup.{HasId, HaveOtherIds}
use Rattle.mm_problem.proofs.ColumnLaws.{limited_said, limited_read}
use Rattle.mm_problem.proofs.NamedColumns.{AreRising, AreNamesOf}
use Rattle.mm_problem.proofs.SizeColumns.{sized_said, sized_read}

-- a record begins with fields that passed the test
pub begins_said : (xs ys : Fields) → begins_with xs ys ≡ true → xs ≡ ys ++ drop (length ys) xs
begins_said xs [] h = refl
begins_said [] (y ∷ ys) h = absurd (false≢true h)
begins_said (x ∷ xs) (y ∷ ys) h =
    let (here, others) = and_parts (bytes_eq x y) (begins_with xs ys) h in
    let first = (bytes_eq-Decides x y).0 here in
    let more = begins_said xs ys others in
    ap (λ f. f ∷ xs) first ∙ ap (λ fs. y ∷ fs) more

-- fields with others after them pass the test
begins_read : (ys more : Fields) → begins_with (ys ++ more) ys ≡ true
begins_read [] more = refl
begins_read (y ∷ ys) more = rw ((bytes_eq-Decides y y).1 refl, begins_read ys more) refl

-- a header has a cell for the step, one for the window, and one for each store
pub header_length : (stores : List StoreRow) → length (header_of stores) ≡ 2 + length stores
header_length stores = omega (arith, length-map stores (λ r. id_text r.id))

-- the header names the stores, and then these columns
pub record IsHeader (stores : List StoreRow) (header : Fields) (columns : Columns) : Type 0 where
  pub limit_names : Fields
  pub size_names : Fields
  pub spelled : header ≡ header_of stores ++ (limit_names ++ size_names)
  pub limits : AreNamesOf limit_text CHANNELS limit_names columns.limited
  pub sizes : AreNamesOf (size_text stores) (length stores) size_names columns.sized

-- a header that was read names the stores and the columns
pub columns_said : (stores : List StoreRow) (header : Fields) (columns : Columns) → columns_in stores header
    ≡ Ok columns
    → IsHeader stores header columns
unfolding columns_in columns_named
columns_said stores header columns h =
    let names = drop (2 + length stores) header in
    let k = limit_count names in
    let (u, named, h1) = bind_ok _ _ _ h in
    let (limited, limits, h2) = bind_ok _ _ _ h1 in
    let (sized, sizes, last) = bind_ok _ _ _ h2 in
    let found : Columns = record { limited = limited; sized = sized } in
    let same : found ≡ columns = ok_same _ _ last in
    let begins = begins_said header (header_of stores) (test_ok _ _ _ named) in
    let rest : drop (length (header_of stores)) header ≡ names = ap (λ j. drop j header) (header_length stores) in
    subst (IsHeader stores header) same (record {
      limit_names = take k names;
      size_names = drop k names;
      spelled = begins ∙ ap (λ r. header_of stores ++ r) (rest ∙ sym (take-append-drop k names));
      limits = limited_said (take k names) limited limits;
      sizes = sized_said stores (drop k names) sized sizes;
    })

-- the columns of limits come first
limits_counted : (stores : List StoreRow) (limited sized : List ℕ)
    → limit_count (map limit_text limited ++ map (size_text stores) sized) ≡ length limited
limits_counted stores [] [] = refl
limits_counted stores [] (s ∷ sized) = refl
limits_counted stores (c ∷ limited) sized =
    let others = limits_counted stores limited sized in
    omega (arith, others)

-- a header with these columns is read as the columns
pub columns_read : (stores : List StoreRow) → All HasId stores → AllPairs HaveOtherIds stores → (columns : Columns)
    → AreRising CHANNELS columns.limited → AreRising (length stores) columns.sized
    → columns_in stores (header_of stores ++ (map limit_text columns.limited ++ map (size_text stores) columns.sized))
    ≡ Ok columns
unfolding columns_in columns_named
columns_read stores ids named columns limits sizes =
    let limit_names = map limit_text columns.limited in
    let size_names = map (size_text stores) columns.sized in
    let names = limit_names ++ size_names in
    let rest : drop (2 + length stores) (header_of stores ++ names) ≡ names =
    drop_at (header_of stores) names (2 + length stores) (header_length stores) in
    let long = length-map columns.limited limit_text in
    let front : take (length columns.limited) names ≡ limit_names =
    ap (λ k. take k names) (sym long) ∙ take-append_seam limit_names size_names in
    let back : drop (length columns.limited) names ≡ size_names =
    drop_at limit_names size_names (length columns.limited) long in
    rw (
      begins_read (header_of stores) names,
      rest,
      limits_counted stores columns.limited columns.sized,
      front,
      back,
      limited_read columns.limited limits,
      sized_read stores ids named columns.sized sizes,
    ) refl
