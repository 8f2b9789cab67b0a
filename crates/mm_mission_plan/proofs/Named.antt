-- The names of passes, one after the other.
use Rattle.std.proofs.Common.{◌≡◌, ◌∙◌, ℕ, ◌+◌, ◌<◌, true, false, List, [], ◌∷◌, ◌++◌, String, Global, string_bytes}
use Rattle.std.proofs.Common.{ap, ap₂, sym, arith, length, get_or, take}
use Rattle.std.specs.Prelude.{map}
use Rattle.std.specs.List.{count_by, enumerate_from}
use Rattle.std.proofs.lemmas.List.{map-append, length-map, get_or-map, take_more}
use Rattle.std.proofs.lemmas.List.FromFn.{length-enumerate_from, get_or-enumerate_from}
use Rattle.std.proofs.lemmas.List.Sums.{count_by_more_yes, count_by_more_no}
use Rattle.mm_mission_sheet.specs.declared.flight.PassName.{PassName}
use Rattle.mm_mission_sheet.specs.Rows.{name_cells}
use Rattle.mm_mission_text.specs.declared.pass.Pass.{Pass}
use Rattle.mm_mission_plan.specs.Names.{is_counted, name_of, station_of, named, AreNames}

-- ---- the number of a pass

module _ (passes : List Pass) (row : ℕ) (p : Pass) (i : ℕ) (q : Pass) (below : i < length passes)
    (is : q ≡ get_or passes i q)
  where
    within : i < length (enumerate_from 0 passes)
    within = omega (arith, length-enumerate_from 0 passes)

    here : get_or (enumerate_from 0 passes) i (0, q) ≡ (i, q)
    here =
        let first : 0 + i ≡ i = omega arith in
        get_or-enumerate_from 0 passes i (0, q) below ∙ ap₂ (λ j o. (j, o)) first (sym is)

    -- another pass that is counted makes it one more
    pub counted : is_counted row p (i, q) ≡ true → count_by (is_counted row p) (take (i + 1) (enumerate_from 0 passes))
        ≡ count_by (is_counted row p) (take i (enumerate_from 0 passes)) + 1
    counted test = count_by_more_yes (is_counted row p) (enumerate_from 0 passes) i (0, q) within
        (ap (is_counted row p) here ∙ test)

    pub not_counted : is_counted row p (i, q) ≡ false
        → count_by (is_counted row p) (take (i + 1) (enumerate_from 0 passes))
        ≡ count_by (is_counted row p) (take i (enumerate_from 0 passes))
    not_counted test = count_by_more_no (is_counted row p) (enumerate_from 0 passes) i (0, q) within
        (ap (is_counted row p) here ∙ test)

-- ---- the names of passes

module _ (passes : List Pass) (rows : List ℕ) (i : ℕ) (below : i < length rows) where
  -- the name in a place of those of all passes
  pub name_at : (names : List (String Global)) (n : String Global) → map string_bytes names ≡ map (name_of passes) rows
      → n ≡ get_or names i n → string_bytes n ≡ name_of passes (get_or rows i 0)
  name_at names n all is =
      let many : length names ≡ length rows =
      sym (length-map names string_bytes) ∙ ap length all ∙ length-map rows (name_of passes) in
      ap string_bytes is ∙ sym (get_or-map string_bytes names i n [] (omega (arith, many)))
      ∙ ap (λ xs. get_or xs i []) all ∙ get_or-map (name_of passes) rows i 0 [] below

  pub names_more : (found : List PassName) (n : PassName) → AreNames passes (take i rows) found
      → n.name.now ≡ name_of passes (get_or rows i 0) → n.station.now ≡ station_of passes (get_or rows i 0)
      → AreNames passes (take (i + 1) rows) (found ++ n ∷ [])
  names_more found n before name station =
      let this : name_cells n ≡ named passes (get_or rows i 0) = ap₂ (λ a b. a ∷ b ∷ []) name station in
      let all : map (named passes) (take (i + 1) rows)
      ≡ map (named passes) (take i rows) ++ named passes (get_or rows i 0) ∷ [] =
      ap (map (named passes)) (take_more rows i 0 below)
      ∙ map-append (named passes) (take i rows) (get_or rows i 0 ∷ []) in
      map-append name_cells found (n ∷ []) ∙ ap₂ (λ xs x. xs ++ x ∷ []) before this ∙ sym all
