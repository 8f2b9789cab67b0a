-- Lines, printed piece by piece.
use Rattle.mm_plan.specs.Table.{Table}
use Rattle.std.proofs.Common.{◌≡◌, ℕ, ℤ, suc, subst, ◌+◌, ◌-◌, ◌*◌, ◌<◌, ◌≤◌, List, [], ◌∷◌, ◌++◌, length, map, get_or}
use Rattle.std.proofs.Common.{take, drop, refl, sym, ap, ◌∙◌, arith, append_assoc, append-nil, length-drop}
use denote.Param.Members.{Mut}
use Rattle.std.specs.Prelude.{Option, unwrap_or, codes, decimal, nat_lt, ◌^◌}
use Rattle.std.specs.Fn.{Called, ReturnsEach, AlwaysReturns}
use Rattle.std.specs.List.{join_with_byte}
use Rattle.std.proofs.lemmas.List.{take_all}
use Rattle.std.proofs.lemmas.List.Sorted.{length_permutation, All-permutation}
use Rattle.mm_base.specs.Id.{id_text}
use Rattle.mm_plan.specs.declared.stretch.Stretch.{Stretch}
use Rattle.mm_plan.specs.declared.stretch.TheConstants.{MAX_STRETCHES, MAX_COUNTS}
use Rattle.mm_plan.specs.declared.form.Form.{Form}
use Rattle.mm_plan.specs.Sheet.{SheetRows, CertificateRows, IsSheet, IsWritten, Line, title_line, stores_line}
use Rattle.mm_plan.specs.Sheet.{dump_line, loss_line, stretch_line, count_line, bound_line, first_line, end_line}
use Rattle.mm_plan.specs.Sheet.{line_text, certificate_lines, first_lines, form_by, form_of, own, lines_of, sheet_text}
use Rattle.mm_plan.specs.Sheet.{dump_lines}
use Rattle.mm_plan.proofs.Runs.{lines_right}
use Rattle.mm_plan.specs.Printing.{AreOrdered, AreRising, IsPrinted, ended, all_ended, spaced, plan_lines}

-- the joined words, each but the first with its space
pub join-spaced : (k : List ℕ) (ws : List (List ℕ)) → join_with_byte 32 (k ∷ ws) ≡ k ++ spaced ws
join-spaced k [] = sym (append-nil k)
join-spaced k (w ∷ ws) = ap (λ rest. k ++ 32 ∷ rest) (join-spaced w ws)

-- the pieces of the stores line
pub ended_stores : (old : List ℕ) (ids : List (List ℕ))
    → old ++ codes "stores" ++ spaced (map id_text ids) ++ 10 ∷ [] ≡ old ++ ended (stores_line ids)
unfolding ended line_text
ended_stores old ids = rw (join-spaced (codes "stores") (map id_text ids)) (simp append_assoc)

-- the pieces of a dump line
pub ended_dump : (old : List ℕ) (t : ℕ) (xs : List ℕ)
    → old ++ codes "dump" ++ 32 ∷ decimal t ++ spaced (map decimal xs) ++ 10 ∷ [] ≡ old ++ ended (dump_line t xs)
unfolding ended line_text
ended_dump old t xs = rw (join-spaced (decimal t) (map decimal xs)) (simp append_assoc)

-- the pieces of the line before a certificate
pub ended_first : (old : List ℕ) (k : ℕ) → old ++ codes "first " ++ decimal k ++ 10 ∷ [] ≡ old ++ ended (first_line k)
unfolding ended line_text
ended_first old k = simp append_assoc

-- one step's line more
pub record AreDumped (n t k : ℕ) (text rest all : List ℕ) : Type 0 where
  pub size : length rest ≡ k * n
  pub lines : text ++ all_ended (dump_lines n t k rest) ≡ all

-- one row was printed
pub more_dumped : {n t k : ℕ} {text rest all : List ℕ} (j : ℕ) (next after : List ℕ) → AreDumped n t k text rest all
    → k ≡ suc j → next ≡ text ++ ended (dump_line t (take n rest)) → after ≡ drop n rest
    → AreDumped n (t + 1) j next after all
more_dumped {n} {t} {k} {text} {rest} {all} j next after h is printed left = record {
  size = ap length left ∙ omega (arith, h.size ∙ ap (λ i. i * n) is, length-drop n rest);
  lines = rw (printed, left) (append_assoc text (ended (dump_line t (take n rest))) _ ∙ rw is at h.lines);
}

-- ---- the whole text

-- lines after lines
all_ended-append : (xs ys : List Line) → all_ended (xs ++ ys) ≡ all_ended xs ++ all_ended ys
all_ended-append [] ys = refl
all_ended-append (x ∷ xs) ys =
    ap (λ rest. ended x ++ rest) (all_ended-append xs ys) ∙ sym (append_assoc (ended x) (all_ended xs) (all_ended ys))

-- the joined lines, each ended
join_ended : (xs : List Line) → join_with_byte 10 (map line_text xs ++ [] ∷ []) ≡ all_ended xs
unfolding ended
join_ended [] = refl
join_ended (x ∷ []) = sym (append-nil (line_text x ++ 10 ∷ []))
join_ended (x ∷ y ∷ ys) =
    ap (λ rest. line_text x ++ 10 ∷ rest) (join_ended (y ∷ ys))
    ∙ sym (append_assoc (line_text x) (10 ∷ []) (all_ended (y ∷ ys)))

-- the lines of a certificate, printed one after another
abbrev pub certificate_text : ℕ → List Stretch → List ℕ → ℤ → List ℕ
certificate_text loss ds ts bound =
    ended (loss_line loss) ++ all_ended (map stretch_line ds) ++ all_ended (map count_line ts)
    ++ ended (bound_line bound)

-- the lines of a certificate are printed so
pub certificate_text-is : (c : CertificateRows)
    → all_ended (certificate_lines c) ≡ certificate_text c.loss c.cut c.by_channels c.bound
unfolding certificate_lines
certificate_text-is c = simp (all_ended-append, append_assoc, append-nil)

-- the line before a certificate, and its lines
pub printed_part : (old front text : List ℕ) (k : ℕ) (c : CertificateRows) → front ≡ old ++ ended (first_line k)
    → text ≡ front ++ certificate_text c.loss c.cut c.by_channels c.bound
    → text ≡ old ++ (ended (first_line k) ++ all_ended (certificate_lines c))
printed_part old front text k c front_is text_is =
    rw (text_is, front_is, certificate_text-is c) (append_assoc old (ended (first_line k)) _)

-- the first of certificates, and the others
split_first : (text : List ℕ) (k : ℕ) (c : CertificateRows) (cs : List CertificateRows)
    → text ++ all_ended (first_lines (suc k) (c ∷ cs))
    ≡ text ++ (ended (first_line (suc k)) ++ all_ended (certificate_lines c))
    ++ all_ended (first_lines (suc (suc k)) cs)
split_first text k c cs = simp (all_ended-append, append_assoc, append-nil)

-- one certificate of the first stores more
pub more_first : (text next all : List ℕ) (k : ℕ) (rest : List CertificateRows) (c : CertificateRows) → 1 ≤ length rest
    → c ≡ get_or rest 0 c → next ≡ text ++ (ended (first_line (k + 1)) ++ all_ended (certificate_lines c))
    → text ++ all_ended (first_lines (suc k) rest) ≡ all
    → next ++ all_ended (first_lines (suc (k + 1)) (take (length rest - 1) (drop 1 rest))) ≡ all
more_first text next all k [] c some here printed lines = absurd (omega arith)
more_first text next all k (d ∷ rest) c some here printed lines =
    let place : k + 1 ≡ suc k = omega arith in
    let part : ℕ → CertificateRows → List ℕ =
    λ j e. text ++ (ended (first_line j) ++ all_ended (certificate_lines e)) in
    ap (λ cs. next ++ all_ended (first_lines (suc (k + 1)) cs)) (take_all (length (d ∷ rest) - 1) rest (omega arith))
    ∙ ap (λ t. t ++ all_ended (first_lines (suc (k + 1)) rest)) (printed ∙ ap (part (k + 1)) here)
    ∙ ap (λ j. part j d ++ all_ended (first_lines (suc j) rest)) place
    ∙ sym (split_first text k d rest)
    ∙ lines

-- the lines up to the dumps
abbrev pub front_text : Form → List (List ℕ) → Table → List ℕ
front_text f ids x = ended (title_line f) ++ ended (stores_line ids) ++ all_ended (plan_lines x)

-- the lines of the certificates of the first stores
abbrev pub firsts_text : Option (List CertificateRows) → List ℕ
firsts_text o = all_ended (first_lines 1 (unwrap_or o []))

-- the lines of a sheet, printed one after another
sheet_text-printed : (s : SheetRows)
    → sheet_text s ≡ front_text (form_of s) s.stores s.plan ++ certificate_text s.loss s.cut s.by_channels s.bound
    ++ firsts_text s.firsts ++ ended end_line
unfolding sheet_text
sheet_text-printed s =
    join_ended (lines_of s)
    ∙ ap all_ended (lines_right s)
    ∙ (simp (all_ended-append, append_assoc, append-nil))
    ∙ ap (λ t. front_text (form_of s) s.stores s.plan ++ t ++ firsts_text s.firsts ++ ended end_line)
    (certificate_text-is (own s))

-- ---- the order

-- a closure that stays as it is answers each call alike
returns_each : {F X R : Type 0} (g : Mut F X R) (P : X → R → Type 0) (f : F)
    → ((a : X) (r : R) (h : F) → Called g f a r h → P a r × (h ≡ f)) → (xs : List X) → ReturnsEach g P f xs
returns_each g P f answers [] = tt
returns_each g P f answers (a ∷ xs) = λ r h called.
    let p = answers a r h called in
    (p.0, subst (λ e. ReturnsEach g P e xs) (sym p.1) (returns_each g P f answers xs))

-- and so always
pub answers_alike : {F X R : Type 0} (g : Mut F X R) (P : X → R → Type 0) (f : F)
    → ((a : X) (r : R) (h : F) → Called g f a r h → P a r × (h ≡ f)) → AlwaysReturns g P f
answers_alike g P f answers = record { at = returns_each g P f answers }

-- a sheet is one in another order too
pub ordered_is_sheet : (s : SheetRows) (ds : List Stretch) (ts : List ℕ) → AreOrdered s.stores s.cut ds
    → AreRising s.by_channels ts → IsSheet s → IsSheet (record s { cut = ds; by_channels = ts })
ordered_is_sheet s ds ts cut counts h =
    let few_cut : length ds ≤ MAX_STRETCHES = omega (arith, h.cut, length_permutation s.cut ds cut.same) in
    let size = length_permutation s.by_channels ts counts.same in
    let few_counts : length ts ≤ MAX_COUNTS = omega (arith, h.counts, size) in
    let stretches = All-permutation IsWritten s.cut ds cut.same h.each_stretch in
    let steps = All-permutation (λ t. t < 2 ^ 32) s.by_channels ts counts.same h.each_count in
    assumption (few_cut, few_counts, stretches, steps)

-- what was printed piece by piece is the text of the sheet in order
pub is_printed : (s : SheetRows) (ds : List Stretch) (ts : List ℕ) (none front certificate firsts text : List ℕ)
    → AreOrdered s.stores s.cut ds → AreRising s.by_channels ts → none ≡ []
    → front ≡ none ++ front_text (form_by s.firsts (nat_lt 0 (length ts))) s.stores s.plan
    → certificate ≡ front ++ certificate_text s.loss ds ts s.bound → firsts ≡ certificate ++ firsts_text s.firsts
    → text ≡ firsts ++ ended end_line → IsPrinted s text
is_printed s ds ts none front certificate firsts text ordered rising no_text front_is certificate_is firsts_is text_is =
    let r : SheetRows = record s { cut = ds; by_channels = ts } in
    let printed : text ≡ sheet_text r =
    rw (text_is, firsts_is, certificate_is, front_is, no_text) (sym (sheet_text-printed r)) in
    (r, assumption (ordered, rising), ordered_is_sheet s ds ts ordered rising, printed)
