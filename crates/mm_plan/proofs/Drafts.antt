-- What a draft of a sheet says so far, and that each line that may come next adds just itself.
use Rattle.std.proofs.Common.{◌≡◌, ℕ, zero, suc, ◌+◌, ◌*◌, ◌<◌, ◌≤◌, true, false, ◌==◌, None, List, [], ◌∷◌, ◌++◌}
use Rattle.std.proofs.Common.{length, map, take, drop, ℤ, pos, refl, sym, ap, ◌∙◌, subst, arith, append_assoc}
use Rattle.std.proofs.Common.{append-nil, length-append, length-drop}
use Rattle.std.specs.Prelude.{All, unwrap_or, nat_le, nat_lt, ◌&&◌, ◌^◌, FitsSigned}
use Rattle.std.specs.Int.{w64}
use Rattle.std.proofs.lemmas.Bool.{and_parts, false≢true}
use Rattle.std.proofs.lemmas.Bool.Decides.{nat_tests}
use Rattle.std.proofs.lemmas.List.{nil_from_length, take_all, map-append, take-append-le, drop-append-le}
use Rattle.std.proofs.lemmas.List.Elements.{All-nil, All-append, All-push}
use Rattle.mm_base.specs.declared.limits.TheConstants.{MAX_STORES, MAX_STEPS, MAX_BLOCKS}
use Rattle.mm_base.specs.Id.{IsIdField}
use Rattle.mm_base.proofs.IdFields.{Decides-nat_le}
use Rattle.mm_plan.specs.declared.form.Form.{Form}
use Rattle.mm_plan.specs.declared.form.Form.TheVariants.{First, Second, Third}
use Rattle.mm_plan.specs.declared.stretch.Stretch.{Stretch}
use Rattle.mm_plan.specs.declared.stretch.TheConstants.{MAX_STRETCHES, MAX_COUNTS}
use Rattle.mm_plan.specs.declared.draft.Stage.{Stage}
use Rattle.mm_plan.specs.declared.draft.Stage.TheVariants.{ToTitle, ToStores, ToDumps, ToLoss, ToCut, ToEnd, Done}
use Rattle.mm_plan.specs.Table.{Table}
use Rattle.mm_plan.specs.Sheet.{CertificateRows, IsCertificate, IsWritten, Line, title_line, stores_line, dump_line}
use Rattle.mm_plan.specs.Sheet.{loss_line, stretch_line, count_line, bound_line, first_line, end_line, dump_lines}
use Rattle.mm_plan.specs.Sheet.{form_by, form_of, certificates_of, certificate_lines, opening, first_lines, IsLine}
use Rattle.mm_plan.specs.Reading.{ReadRows, DraftRows, no_rows, start, may_count, fits_form, may_begin, has_all}
use Rattle.mm_plan.specs.Reading.{may_follow, part_of, with_part, after, firsts_in, sheet_of}

-- the dump lines of the plan
abbrev pub dumps_of : ReadRows → List Line
dumps_of s = dump_lines s.plan.stores 1 s.plan.steps s.plan.amounts

-- the lines of what has been read to its end
abbrev pub upto_whole : Form → ReadRows → List Line
upto_whole f s = title_line f ∷ stores_line s.stores ∷ [] ++ dumps_of s ++ first_lines 0 s.certificates

-- the lines up to the next certificate
abbrev pub upto_part : Form → ReadRows → List Line
upto_part f s = upto_whole f s ++ opening (length s.certificates)

-- the lines so far
abbrev pub so_far : Stage → Form → ReadRows → List Line
so_far ToTitle f s = []
so_far ToStores f s = title_line f ∷ []
so_far ToDumps f s = upto_whole f s
so_far ToLoss f s = upto_part f s
so_far ToCut f s = upto_part f s ++ loss_line s.loss ∷ [] ++ map stretch_line s.cut ++ map count_line s.by_channels
so_far ToEnd f s = upto_whole f s
so_far Done f s = upto_whole f s ++ end_line ∷ []

-- the stores and their dumps are within the limits
pub record AreDumps (ids : List (List ℕ)) (plan : Table) : Type 0 where
  pub stores : length ids ≤ MAX_STORES
  pub steps : plan.steps ≤ MAX_STEPS
  pub same_stores : plan.stores ≡ length ids
  pub table : length plan.amounts ≡ plan.steps * plan.stores
  pub each_amount : All (λ n. n ≤ MAX_BLOCKS) plan.amounts
  pub each_store : All IsIdField ids

-- what holds of the rows at every stage
pub record IsRows (s : ReadRows) : Type 0 where
  pub dumps : AreDumps s.stores s.plan
  pub part : IsCertificate (part_of s (pos 0))
  pub certificates : All IsCertificate s.certificates

-- stores, and no certificates yet
pub record IsUncut (s : ReadRows) : Type 0 where
  pub has_store : 1 ≤ length s.stores
  pub none : s.certificates ≡ []

-- room for one certificate more
abbrev pub HasRoom : Form → ℕ → List CertificateRows → Type 0
HasRoom Third n cs = length cs < n
HasRoom _ n cs = cs ≡ []

-- a plan, and room for one certificate more
pub record IsOpened (f : Form) (ids : List (List ℕ)) (plan : Table) (cs : List CertificateRows) : Type 0 where
  pub has_store : 1 ≤ length ids
  pub has_step : 1 ≤ plan.steps
  pub room : HasRoom f (length ids) cs

-- the same, with counts in the forms that have some
pub record IsPlanned (f : Form) (s : ReadRows) : Type 0 where
  pub opened : IsOpened f s.stores s.plan s.certificates
  pub counts : may_count f ≡ false → s.by_channels ≡ []

-- certificates of the form, that of all stores first
pub record AreInForm (f : Form) (n : ℕ) (s : ReadRows) : Type 0 where
  pub form : form_of (sheet_of (record { stage = Done; form = f; rows = s })) ≡ f
  pub all : certificates_of (sheet_of (record { stage = Done; form = f; rows = s })) ≡ s.certificates
  pub few : length s.certificates ≤ n

-- a plan and certificates of the form
pub record IsWhole (f : Form) (s : ReadRows) : Type 0 where
  pub has_store : 1 ≤ length s.stores
  pub has_step : 1 ≤ s.plan.steps
  pub certificates : AreInForm f (length s.stores) s

-- all certificates of the form
pub record IsEnded (f : Form) (s : ReadRows) : Type 0 where
  pub whole : IsWhole f s
  pub all : has_all f s ≡ true

-- what holds besides at a stage
abbrev pub IsAt : Stage → Form → ReadRows → Type 0
IsAt ToTitle f s = s ≡ no_rows
IsAt ToStores f s = s ≡ no_rows
IsAt ToDumps f s = IsUncut s
IsAt ToLoss f s = IsOpened f s.stores s.plan s.certificates
IsAt ToCut f s = IsPlanned f s
IsAt ToEnd f s = IsWhole f s
IsAt Done f s = IsEnded f s

-- a draft with these parts
abbrev pub at_stage : Stage → Form → ReadRows → DraftRows
at_stage stage f s = record { stage = stage; form = f; rows = s }

-- a draft that is sound
pub record IsSound (d : DraftRows) : Type 0 where
  pub rows : IsRows d.rows
  pub at : IsAt d.stage d.form d.rows

-- the lines that a draft was read from
abbrev pub lines_so_far : DraftRows → List Line
lines_so_far d = so_far d.stage d.form d.rows

-- a line adds just itself
pub record IsAdded (d : DraftRows) (x : Line) : Type 0 where
  pub sound : IsSound (after d x)
  pub lines : lines_so_far (after d x) ≡ lines_so_far d ++ x ∷ []

-- ---- lists of lines

-- one step's line more
pub dump_lines-push : (n t k : ℕ) (xs row : List ℕ) → length xs ≡ k * n → length row ≡ n
    → dump_lines n t (suc k) (xs ++ row) ≡ dump_lines n t k xs ++ dump_line (t + k) row ∷ []
dump_lines-push n t zero xs row size width =
    let empty : xs ≡ [] = nil_from_length xs (omega arith) in
    let here : t ≡ t + 0 = omega arith in
    rw (empty, take_all n row (omega arith)) (ap (λ k. dump_line k row ∷ []) here)
dump_lines-push n t (suc k) xs row size width =
    let within : n ≤ length xs = omega arith in
    let left : length (drop n xs) ≡ k * n = omega (arith, length-drop n xs) in
    let step : t + 1 + k ≡ t + suc k = omega arith in
    rw (take-append-le n xs row within, drop-append-le n xs row within)
    (ap (λ ls. dump_line t (take n xs) ∷ ls) (rw step at (dump_lines-push n (t + 1) k (drop n xs) row left width)))

-- one certificate more
pub first_lines-push : (k : ℕ) (cs : List CertificateRows) (c : CertificateRows)
    → first_lines k (cs ++ c ∷ []) ≡ first_lines k cs ++ opening (k + length cs) ++ certificate_lines c
first_lines-push k [] c =
    let here : k ≡ k + 0 = omega arith in
    append-nil (opening k ++ certificate_lines c) ∙ ap (λ j. opening j ++ certificate_lines c) here
first_lines-push k (d ∷ cs) c =
    let here : suc k + length cs ≡ k + suc (length cs) = omega arith in
    let front = opening k ++ certificate_lines d in
    let more = first_lines-push (suc k) cs c in
    ap (λ ls. front ++ ls) (more ∙ ap (λ j. first_lines (suc k) cs ++ opening j ++ certificate_lines c) here)
    ∙ simp append_assoc

-- one more stretch, where there is no count
more_cut : (front : List Line) (ds : List Stretch) (ts : List ℕ) (d : Stretch) → ts ≡ []
    → front ++ map stretch_line (ds ++ d ∷ []) ++ map count_line ts
    ≡ front ++ map stretch_line ds ++ map count_line ts ++ stretch_line d ∷ []
more_cut front ds ts d no_ts = rw no_ts (simp (map-append, append_assoc, append-nil))

-- one more count
more_counts : (front : List Line) (ts : List ℕ) (t : ℕ)
    → front ++ map count_line (ts ++ t ∷ []) ≡ front ++ map count_line ts ++ count_line t ∷ []
more_counts front ts t = simp (map-append, append_assoc)

-- the bound closes the certificate
more_parts : (front : List Line) (s : ReadRows) (z : ℤ) → front ++ first_lines 0 (s.certificates ++ part_of s z ∷ [])
    ≡ front ++ first_lines 0 s.certificates ++ opening (length s.certificates)
    ++ loss_line s.loss ∷ [] ++ map stretch_line s.cut ++ map count_line s.by_channels ++ bound_line z ∷ []
unfolding certificate_lines
more_parts front s z =
    let here : 0 + length s.certificates ≡ length s.certificates = omega arith in
    let lines : ℕ → List Line = λ j. first_lines 0 s.certificates ++ opening j ++ certificate_lines (part_of s z) in
    ap (λ ls. front ++ ls) (first_lines-push 0 s.certificates (part_of s z) ∙ ap lines here) ∙ simp append_assoc

-- ---- one line more

-- what passes the test is above 0
some_passes : (n : ℕ) → nat_lt 0 n ≡ true → 1 ≤ n
some_passes n e = grind (arith, nat_tests)

-- the bound 0 fits
pub zero_fits : FitsSigned w64 (pos 0)
zero_fits = record { sfits = omega arith }

-- a loss alone
blank_part : (n : ℕ) → n < 2 ^ 64 → IsCertificate (part_of (record no_rows { loss = n }) (pos 0))
blank_part n line =
    let no_cut : 0 ≤ MAX_STRETCHES = omega arith in
    let no_count : 0 ≤ MAX_COUNTS = omega arith in
    assumption (no_cut, no_count, All-nil IsWritten, All-nil (λ t. t < 2 ^ 32), line, zero_fits)

-- the rows are sound before the first line
blank_rows : IsRows no_rows
blank_rows =
    let no_store : 0 ≤ MAX_STORES = omega arith in
    let no_step : 0 ≤ MAX_STEPS = omega arith in
    let blank = blank_part 0 (omega arith) in
    assumption (no_store, no_step, All-nil (λ n. n ≤ MAX_BLOCKS), All-nil IsIdField, blank, All-nil IsCertificate)

-- and so is the draft
pub start_sound : IsSound start
start_sound = record { rows = blank_rows; at = refl }

-- the stores line adds just itself
added_stores : (f : Form) (ids : List (List ℕ)) → IsLine (stores_line ids)
    → (nat_lt 0 (length ids) && nat_le (length ids) MAX_STORES) ≡ true
    → IsAdded (at_stage ToStores f no_rows) (stores_line ids)
added_stores f ids line may =
    let p = and_parts (nat_lt 0 (length ids)) (nat_le (length ids) MAX_STORES) may in
    let few = (Decides-nat_le (length ids) MAX_STORES).0 p.1 in
    let no_row : 0 ≡ 0 * length ids = omega arith in
    record { sound = assumption (few, no_row, line.1, some_passes (length ids) p.0, blank_rows); lines = refl }

-- a table with one row more
wider : (k n t old new : ℕ) → t ≡ suc k → old ≡ k * n → new ≡ n → old + new ≡ t * n
wider k n t old new is_next table width = omega (arith, ap (λ j. j * n) is_next)

-- before the first certificate there is room for one
room_before : (f : Form) (n : ℕ) (cs : List CertificateRows) → 1 ≤ n → cs ≡ [] → HasRoom f n cs
room_before Third n cs some none = omega (arith, ap length none)
room_before _ n cs some none = none

-- without certificates, stretches and counts nothing is added
no_part : (front : List Line) (x : Line) → front ++ [] ++ [] ++ x ∷ [] ++ [] ++ [] ≡ front ++ [] ++ x ∷ []
no_part front x = simp append-nil

-- without counts it is the first form
first_form : (n : ℕ) → (n == 0) ≡ true → false ≡ nat_lt 0 n
first_form n may = grind (arith, nat_tests)

-- the line before a certificate that is not the first
opening_is : (k : ℕ) → 1 ≤ k → opening k ≡ first_line k ∷ []
opening_is zero some = absurd (omega arith)
opening_is (suc k) some = refl

-- certificates of the first stores, of which the last was added
third_parts : (s : ReadRows) (cs : List CertificateRows) (c : CertificateRows)
    → certificates_of (sheet_of (at_stage Done Third (record s { certificates = cs ++ c ∷ [] }))) ≡ cs ++ c ∷ []
third_parts s [] c = refl
third_parts s (d ∷ cs) c = refl

-- the only certificate
one_part : (f : Form) (n : ℕ) (s : ReadRows) (c : CertificateRows) → 1 ≤ n → firsts_in f (c ∷ []) ≡ None
    → s.certificates ≡ c ∷ []
    → form_by None (nat_lt 0 (length c.by_channels)) ≡ f → AreInForm f n s
one_part f n s c some no_firsts one form =
    let sheet = λ (cs : List CertificateRows). sheet_of (at_stage Done f (record s { certificates = cs })) in
    record {
      form = ap (λ cs. form_of (sheet cs)) one ∙ ap (λ o. form_by o (nat_lt 0 (length c.by_channels))) no_firsts ∙ form;
      all = ap (λ cs. certificates_of (sheet cs)) one ∙ ap (λ o. c ∷ unwrap_or o []) no_firsts ∙ sym one;
      few = omega (arith, ap length one);
    }

-- the certificate that the bound closes is of the form
parts_in_form : (f : Form) (s : ReadRows) (c : CertificateRows) → 1 ≤ length s.stores
    → HasRoom f (length s.stores) s.certificates
    → fits_form f (length c.by_channels) ≡ true → AreInForm f (length s.stores) (with_part s c)
parts_in_form First s c some room fits =
    let form = sym (first_form (length c.by_channels) fits) in
    one_part First (length s.stores) (with_part s c) c some refl (ap (λ cs. cs ++ c ∷ []) room) (ap (form_by None) form)
parts_in_form Second s c some room fits =
    let one = ap (λ cs. cs ++ c ∷ []) room in
    one_part Second (length s.stores) (with_part s c) c some refl one (ap (form_by None) fits)
parts_in_form Third s c some room fits =
    let size = length-append s.certificates (c ∷ []) in
    record { form = refl; all = third_parts s s.certificates c; few = omega (arith, size) }

-- what the test of a first line says
begins : (f : Form) (k : ℕ) (s : ReadRows) → may_begin f k s ≡ true
    → (k ≡ length s.certificates) × HasRoom f (length s.stores) s.certificates
begins Third k s may =
    let p = and_parts (k == length s.certificates) (nat_lt (length s.certificates) (length s.stores)) may in
    (grind (arith, nat_tests, p.0), grind (arith, nat_tests, p.1))
begins _ k s may = absurd (false≢true may)

module _ (f : Form) (s : ReadRows) (rows : IsRows s) where
  -- the lines before the dumps
  abbrev front : List Line
  front = title_line f ∷ stores_line s.stores ∷ []

  -- a dump line adds just itself
  added_dump : (t : ℕ) (xs : List ℕ) → IsLine (dump_line t xs) → IsUncut s
      → ((t == s.plan.steps + 1) && (length xs == length s.stores)) ≡ true
      → IsAdded (at_stage ToDumps f s) (dump_line t xs)
  added_dump t xs line uncut may =
      let p = and_parts (t == s.plan.steps + 1) (length xs == length s.stores) may in
      let n = s.plan.stores in
      let old = s.plan.amounts in
      let is_next : t ≡ suc s.plan.steps = grind (arith, nat_tests, p.0) in
      let number : 1 + s.plan.steps ≡ t = omega (arith, is_next) in
      let same : length xs ≡ length s.stores = grind (arith, nat_tests, p.1) in
      let width : length xs ≡ n = same ∙ sym rows.dumps.same_stores in
      let wide = wider s.plan.steps n t (length old) (length xs) is_next rows.dumps.table width in
      let table = length-append old xs ∙ wide in
      let each = All-append (λ n. n ≤ MAX_BLOCKS) old xs rows.dumps.each_amount line.2 in
      let after_dumps = λ (ls : List Line) (cs : List CertificateRows). front ++ ls ++ first_lines 0 cs in
      let more = ap (λ k. dump_lines n 1 k (old ++ xs)) is_next
      ∙ dump_lines-push n 1 s.plan.steps old xs rows.dumps.table width
      ∙ ap (λ k. dumps_of s ++ dump_line k xs ∷ []) number in
      record {
        sound = assumption (line.0, table, each);
        lines =
            ap (after_dumps (dump_lines n 1 t (old ++ xs))) uncut.none
            ∙ ap (λ ls. after_dumps ls []) more
            ∙ (simp (append_assoc, append-nil))
            ∙ ap (λ cs. after_dumps (dumps_of s) cs ++ dump_line t xs ∷ []) (sym uncut.none);
      }

  -- the loss line adds just itself
  added_loss : (n : ℕ) → IsLine (loss_line n) → IsUncut s → nat_lt 0 s.plan.steps ≡ true
      → IsAdded (at_stage ToDumps f s) (loss_line n)
  added_loss n line uncut may =
      let room = room_before f (length s.stores) s.certificates uncut.has_store uncut.none in
      let before = front ++ dumps_of s in
      record {
        sound = assumption (blank_part n line, some_passes s.plan.steps may, room);
        lines =
            ap (λ cs. before ++ first_lines 0 cs ++ opening (length cs) ++ loss_line n ∷ [] ++ [] ++ []) uncut.none
            ∙ no_part before (loss_line n)
            ∙ ap (λ cs. before ++ first_lines 0 cs ++ loss_line n ∷ []) (sym uncut.none);
      }

  -- the loss line of a certificate of the first stores adds just itself
  added_part : (n : ℕ) → IsLine (loss_line n) → IsOpened f s.stores s.plan s.certificates
      → IsAdded (at_stage ToLoss f s) (loss_line n)
  added_part n line opened = record { sound = assumption (blank_part n line); lines = simp append-nil }

  -- a stretch line adds just itself
  added_stretch : (d : Stretch) → IsLine (stretch_line d) → IsPlanned f s
      → (nat_lt (length s.cut) MAX_STRETCHES && (length s.by_channels == 0)) ≡ true
      → IsAdded (at_stage ToCut f s) (stretch_line d)
  added_stretch d line planned may =
      let p = and_parts (nat_lt (length s.cut) MAX_STRETCHES) (length s.by_channels == 0) may in
      let few : length s.cut < MAX_STRETCHES = grind (arith, nat_tests, p.0) in
      let zero : length s.by_channels ≡ 0 = grind (arith, nat_tests, p.1) in
      let none = nil_from_length s.by_channels zero in
      let size : length (s.cut ++ d ∷ []) ≤ MAX_STRETCHES = omega (arith, length-append s.cut (d ∷ [])) in
      record {
        sound = assumption (size, All-push IsWritten s.cut d rows.part.each_stretch line);
        lines = more_cut (upto_part f s ++ loss_line s.loss ∷ []) s.cut s.by_channels d none;
      }

  -- a count line adds just itself
  added_count : (t : ℕ) → IsLine (count_line t) → IsPlanned f s
      → (may_count f && nat_lt (length s.by_channels) MAX_COUNTS) ≡ true → IsAdded (at_stage ToCut f s) (count_line t)
  added_count t line planned may =
      let ts = s.by_channels in
      let p = and_parts (may_count f) (nat_lt (length ts) MAX_COUNTS) may in
      let few : length ts < MAX_COUNTS = grind (arith, nat_tests, p.1) in
      let size : length (ts ++ t ∷ []) ≤ MAX_COUNTS = omega (arith, length-append ts (t ∷ [])) in
      let counts : may_count f ≡ false → ts ++ t ∷ [] ≡ [] = λ first. absurd (false≢true (sym first ∙ p.0)) in
      record {
        sound = assumption (size, counts, All-push (λ t. t < 2 ^ 32) ts t rows.part.each_count line);
        lines = more_counts (upto_part f s ++ loss_line s.loss ∷ [] ++ map stretch_line s.cut) ts t;
      }

  -- the bound line adds just itself
  added_bound : (z : ℤ) → IsLine (bound_line z) → IsPlanned f s → fits_form f (length s.by_channels) ≡ true
      → IsAdded (at_stage ToCut f s) (bound_line z)
  added_bound z line planned fits =
      let part : IsCertificate (part_of s z) = assumption (line) in
      let each = All-push IsCertificate s.certificates (part_of s z) rows.certificates part in
      let forms = parts_in_form f s (part_of s z) planned.opened.has_store planned.opened.room fits in
      let blank = blank_part 0 (omega arith) in
      record { sound = assumption (blank, each, forms); lines = more_parts (front ++ dumps_of s) s z }

  -- a first line adds just itself
  added_first : (k : ℕ) → IsWhole f s → may_begin f k s ≡ true → IsAdded (at_stage ToEnd f s) (first_line k)
  added_first k whole may =
      let p = begins f k s may in
      let some : 1 ≤ length s.certificates = omega (arith, ap length whole.certificates.all) in
      let opened = opening_is (length s.certificates) some ∙ ap (λ j. first_line j ∷ []) (sym p.0) in
      record { sound = assumption (p.1); lines = ap (λ ls. upto_whole f s ++ ls) opened }

-- a line that may come next adds just itself
pub added : (stage : Stage) (f : Form) (s : ReadRows) (x : Line) → IsLine x → IsRows s → IsAt stage f s
    → may_follow stage f s x ≡ true → IsAdded (at_stage stage f s) x
added ToTitle f s (title_line g) line rows at may = assumption
added ToStores f s (stores_line ids) line rows at may =
    subst (λ r. IsAdded (at_stage ToStores f r) (stores_line ids)) (sym at) (added_stores f ids line may)
added ToDumps f s (dump_line t xs) line rows at may = added_dump f s rows t xs line at may
added ToDumps f s (loss_line n) line rows at may = added_loss f s rows n line at may
added ToLoss f s (loss_line n) line rows at may = added_part f s rows n line at
added ToCut f s (stretch_line d) line rows at may = added_stretch f s rows d line at may
added ToCut f s (count_line t) line rows at may = added_count f s rows t line at may
added ToCut f s (bound_line z) line rows at may = added_bound f s rows z line at may
added ToEnd f s (first_line k) line rows at may = added_first f s rows k at may
added ToEnd f s end_line line rows at may = assumption
added _ f s x line rows at may = absurd (false≢true may)
