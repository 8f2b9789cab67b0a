-- The lines of a sheet run to its end, each within its ranges.
use Rattle.std.proofs.Common.{◌≡◌, ℕ, zero, suc, ◌+◌, ◌*◌, ◌<◌, ◌≤◌, Bool, true, false, cond, ◌==◌, List, [], ◌∷◌, ◌++◌}
use Rattle.std.proofs.Common.{length, map, take, drop, Option, Some, None, refl, sym, ap, ◌∙◌, subst, inl, inr, arith}
use Rattle.std.proofs.Common.{append_assoc, append-nil, length-append, length-drop}
use Rattle.std.specs.Prelude.{All, IfSome, unwrap_or, nat_le, nat_lt, ◌&&◌, ◌^◌, option_and_then, if◌then◌else◌}
use Rattle.std.proofs.lemmas.Bool.{cases_Bool}
use Rattle.std.proofs.lemmas.Bool.Decides.{nat_tests}
use Rattle.std.proofs.lemmas.List.{nil_from_length, take-append-drop, length-take-le}
use Rattle.std.proofs.lemmas.List.Elements.{All-nil, All-cons, All-from_recursion, All-head, All-tail, All-append}
use Rattle.std.proofs.lemmas.List.Elements.{All-take, All-drop}
use Rattle.std.proofs.lemmas.List.Elements.{All-map}
use Rattle.mm_base.specs.declared.limits.TheConstants.{MAX_STORES, MAX_STEPS, MAX_BLOCKS}
use Rattle.mm_plan.specs.declared.stretch.Stretch.{Stretch}
use Rattle.mm_plan.specs.declared.stretch.TheConstants.{MAX_STRETCHES, MAX_COUNTS}
use Rattle.mm_plan.specs.declared.draft.Stage.{Stage}
use Rattle.mm_plan.specs.declared.draft.Stage.TheVariants.{ToStores, ToDumps, ToLoss, ToCut, ToEnd, Done}
use Rattle.mm_plan.specs.declared.form.Form.{Form}
use Rattle.mm_plan.specs.declared.form.Form.TheVariants.{First, Third}
use Rattle.mm_plan.specs.Sheet.{SheetRows, CertificateRows, IsSheet, IsCertificate, AreFirsts, Line, title_line}
use Rattle.mm_plan.specs.Sheet.{stores_line, dump_line, loss_line, stretch_line, count_line, bound_line, first_line}
use Rattle.mm_plan.specs.Sheet.{end_line, dump_lines, certificate_lines, opening, first_lines, has_counts, form_by}
use Rattle.mm_plan.specs.Sheet.{form_of, own, certificates_of, lines_of, IsLine}
use Rattle.mm_plan.specs.Reading.{ReadRows, DraftRows, no_rows, start, may_count, fits_form, may_follow, with_part}
use Rattle.mm_plan.specs.Reading.{after, firsts_in, sheet_of}
use Rattle.mm_plan.proofs.Drafts.{at_stage}

-- the draft with these lines more, where each may come next
abbrev pub go : DraftRows → List Line → Option DraftRows
go d [] = Some d
go d (x ∷ xs) = if may_follow d.stage d.form d.rows x then go (after d x) xs else None

-- a line that may come next
pub go_may : (d : DraftRows) (x : Line) (xs : List Line) → may_follow d.stage d.form d.rows x ≡ true
    → go d (x ∷ xs) ≡ go (after d x) xs
go_may d x xs may = ap (λ b. cond b (go (after d x) xs) None) may

-- a line that may not
pub go_stops : (d : DraftRows) (x : Line) (xs : List Line) → may_follow d.stage d.form d.rows x ≡ false
    → go d (x ∷ xs) ≡ None
go_stops d x xs stops = ap (λ b. cond b (go (after d x) xs) None) stops

-- lines and then more lines
pub go-append : (d : DraftRows) (xs ys : List Line) → go d (xs ++ ys) ≡ option_and_then (λ e. go e ys) (go d xs)
go-append d [] ys = refl
go-append d (x ∷ xs) ys = elim (cases_Bool (may_follow d.stage d.form d.rows x)) [
  | inl may ↦ rw may (go-append (after d x) xs ys)
  | inr stops ↦ rw stops refl
]

-- ---- the lines of a sheet

-- a draft at its dumps
abbrev dumping : Form → ReadRows → ℕ → List ℕ → DraftRows
dumping f s k amounts = at_stage ToDumps f (record s { plan = record s.plan { steps = k; amounts = amounts } })

-- equal numbers pass the test
pub eq_of : (m n : ℕ) → m ≡ n → (m == n) ≡ true
eq_of m n e = grind (arith, nat_tests)

-- the next dump line may come
dump_may : (k n : ℕ) (xs : List ℕ) (stores : List (List ℕ)) → length xs ≡ n → n ≡ length stores
    → ((k == k) && (length xs == length stores)) ≡ true
dump_may k n xs stores width same = grind (arith, nat_tests)

-- the dump lines add their amounts
go-dump_lines : (f : Form) (s : ReadRows) (k m : ℕ) (amounts xs : List ℕ) (more : List Line)
    → s.plan.stores ≡ length s.stores → length xs ≡ m * s.plan.stores
    → go (dumping f s k amounts) (dump_lines s.plan.stores (k + 1) m xs ++ more)
    ≡ go (dumping f s (k + m) (amounts ++ xs)) more
go-dump_lines f s k zero amounts xs more same size =
    let empty : xs ≡ [] = nil_from_length xs (omega (arith, size)) in
    let steps : k ≡ k + 0 = omega arith in
    rw (empty, append-nil) (ap (λ j. go (dumping f s j amounts) more) steps)
go-dump_lines f s k (suc m) amounts xs more same size =
    let n = s.plan.stores in
    let within : n ≤ length xs = omega (arith, size) in
    let left : length (drop n xs) ≡ m * n = omega (arith, size, length-drop n xs) in
    let steps : k + 1 + m ≡ k + suc m = omega arith in
    go_may (dumping f s k amounts) (dump_line (k + 1) (take n xs)) (dump_lines n (k + 1 + 1) m (drop n xs) ++ more)
    (dump_may (k + 1) n (take n xs) s.stores (length-take-le n xs within) same)
    ∙ go-dump_lines f s (k + 1) m (amounts ++ take n xs) (drop n xs) more same left
    ∙ rw (append_assoc amounts (take n xs) (drop n xs), take-append-drop n xs)
    (ap (λ j. go (dumping f s j (amounts ++ xs)) more) steps)

-- a draft at its stretches and counts
abbrev cutting : Form → ReadRows → List Stretch → List ℕ → DraftRows
cutting f s ds ts = at_stage ToCut f (record s { cut = ds; by_channels = ts })

-- the stretch lines add their stretches
go-stretch_lines : (f : Form) (s : ReadRows) (earlier ds : List Stretch) (more : List Line)
    → length earlier + length ds ≤ MAX_STRETCHES
    → go (cutting f s earlier []) (map stretch_line ds ++ more) ≡ go (cutting f s (earlier ++ ds) []) more
go-stretch_lines f s earlier [] more few = ap (λ es. go (cutting f s es []) more) (sym (append-nil earlier))
go-stretch_lines f s earlier (d ∷ ds) more few =
    go_may (cutting f s earlier []) (stretch_line d) (map stretch_line ds ++ more) (grind (arith, nat_tests, few))
    ∙ go-stretch_lines f s (earlier ++ d ∷ []) ds more (omega (arith, few, length-append earlier (d ∷ [])))
    ∙ ap (λ es. go (cutting f s es []) more) (append_assoc earlier (d ∷ []) ds)

-- a count line may come
count_may : (f : Form) (n : ℕ) → may_count f ≡ true → n < MAX_COUNTS → (may_count f && nat_lt n MAX_COUNTS) ≡ true
count_may f n may few = rw may (grind (arith, nat_tests))

-- the count lines add their steps
go-count_lines : (f : Form) (s : ReadRows) (ds : List Stretch) (earlier ts : List ℕ) (more : List Line)
    → may_count f ≡ true → length earlier + length ts ≤ MAX_COUNTS
    → go (cutting f s ds earlier) (map count_line ts ++ more) ≡ go (cutting f s ds (earlier ++ ts)) more
go-count_lines f s ds earlier [] more may few = ap (λ es. go (cutting f s ds es) more) (sym (append-nil earlier))
go-count_lines f s ds earlier (t ∷ ts) more may few =
    let room = count_may f (length earlier) may (omega (arith, few)) in
    go_may (cutting f s ds earlier) (count_line t) (map count_line ts ++ more) room
    ∙ go-count_lines f s ds (earlier ++ t ∷ []) ts more may (omega (arith, few, length-append earlier (t ∷ [])))
    ∙ ap (λ es. go (cutting f s ds es) more) (append_assoc earlier (t ∷ []) ts)

-- counts in the form that has that many
go_counted : (f : Form) (s : ReadRows) (ds : List Stretch) (ts : List ℕ) (more : List Line)
    → fits_form f (length ts) ≡ true → length ts ≤ MAX_COUNTS
    → go (cutting f s ds []) (map count_line ts ++ more) ≡ go (cutting f s ds ts) more
go_counted First s ds [] more fits few = refl
go_counted First s ds (t ∷ ts) more fits few = absurd (grind (arith, nat_tests, fits))
go_counted f s ds ts more fits few = go-count_lines f s ds [] ts more refl (omega (arith, few))

-- the lines of a certificate, from the first on
certificate_right : (c : CertificateRows) (more : List Line)
    → certificate_lines c ++ more
    ≡ loss_line c.loss ∷ (map stretch_line c.cut ++ (map count_line c.by_channels ++ (bound_line c.bound ∷ more)))
unfolding certificate_lines
certificate_right c more = simp append_assoc

-- the lines of a certificate add it
go-certificate_lines : (stage : Stage) (f : Form) (s : ReadRows) (c : CertificateRows) (more : List Line)
    → may_follow stage f s (loss_line c.loss) ≡ true → IsCertificate c → fits_form f (length c.by_channels) ≡ true
    → go (at_stage stage f s) (certificate_lines c ++ more) ≡ go (at_stage ToEnd f (with_part s c)) more
go-certificate_lines stage f s c more may h fits =
    let counted = map count_line c.by_channels ++ (bound_line c.bound ∷ more) in
    let lossy : ReadRows = record s { loss = c.loss } in
    ap (go (at_stage stage f s)) (certificate_right c more)
    ∙ go_may (at_stage stage f s) (loss_line c.loss) (map stretch_line c.cut ++ counted) may
    ∙ go-stretch_lines f lossy [] c.cut counted (omega (arith, h.cut))
    ∙ go_counted f lossy c.cut c.by_channels (bound_line c.bound ∷ more) fits h.counts
    ∙ go_may (cutting f lossy c.cut c.by_channels) (bound_line c.bound) more fits

-- a draft with these certificates
abbrev ending : Stage → Form → ReadRows → List CertificateRows → DraftRows
ending stage f s cs = at_stage stage f (record s { certificates = cs; loss = 0; cut = []; by_channels = [] })

-- the certificate of the first k stores may come
begin_may : (k m n : ℕ) → k ≡ m → m < n → ((k == m) && nat_lt m n) ≡ true
begin_may k m n same room = grind (arith, nat_tests)

-- the certificates of the first stores are added, and then the end
go-first_lines : (s : ReadRows) (j : ℕ) (earlier cs : List CertificateRows) → suc j ≡ length earlier
    → length earlier + length cs ≡ length s.stores → All IsCertificate cs
    → go (ending ToEnd Third s earlier) (first_lines (suc j) cs ++ end_line ∷ [])
    ≡ Some (ending Done Third s (earlier ++ cs))
go-first_lines s j earlier [] next all h =
    go_may (ending ToEnd Third s earlier) end_line [] (eq_of (length earlier) (length s.stores) (omega (arith, all)))
    ∙ ap (λ cs. Some (ending Done Third s cs)) (sym (append-nil earlier))
go-first_lines s j earlier (c ∷ cs) next all h =
    let d = ending ToEnd Third s earlier in
    let rest = first_lines (suc (suc j)) cs in
    let may = begin_may (suc j) (length earlier) (length s.stores) next (omega (arith, all)) in
    let size = length-append earlier (c ∷ []) in
    ap (λ ls. go d (first_line (suc j) ∷ ls)) (append_assoc (certificate_lines c) rest (end_line ∷ []))
    ∙ go_may d (first_line (suc j)) (certificate_lines c ++ (rest ++ end_line ∷ [])) may
    ∙ go-certificate_lines ToLoss Third d.rows c (rest ++ end_line ∷ []) refl (All-head IsCertificate c cs h) refl
    ∙ go-first_lines s (suc j) (earlier ++ c ∷ []) cs (omega (arith, next, size)) (omega (arith, all, size))
    (All-tail IsCertificate c cs h)
    ∙ ap (λ es. Some (ending Done Third s es)) (append_assoc earlier (c ∷ []) cs)

-- the certificates after that of all stores, and the end
go_ending : (s : ReadRows) (c : CertificateRows) (o : Option (List CertificateRows)) (b : Bool)
    → IfSome o (AreFirsts (length s.stores))
    → go (ending ToEnd (form_by o b) s (c ∷ [])) (first_lines 1 (unwrap_or o []) ++ end_line ∷ [])
    ≡ Some (ending Done (form_by o b) s (c ∷ unwrap_or o []))
go_ending s c None true h = refl
go_ending s c None false h = refl
go_ending s c (Some cs) b h = go-first_lines s 0 (c ∷ []) cs refl (omega (arith, h.count)) h.each

-- the draft of a whole sheet
abbrev pub whole : SheetRows → DraftRows
whole s =
    at_stage Done (form_of s) (record no_rows { stores = s.stores; plan = s.plan; certificates = certificates_of s })

-- certificates and form come back
firsts_back : (c : CertificateRows) (o : Option (List CertificateRows)) (b : Bool)
    → firsts_in (form_by o b) (c ∷ unwrap_or o []) ≡ o
firsts_back c None true = refl
firsts_back c None false = refl
firsts_back c (Some cs) b = refl

-- the sheet comes back from its draft
pub sheet_of-whole : (s : SheetRows) → sheet_of (whole s) ≡ s
sheet_of-whole s = ap (λ o. record s { firsts = o }) (firsts_back (own s) s.firsts (has_counts s))

-- the form of a sheet has its counts
form_fits : (o : Option (List CertificateRows)) (n : ℕ) → fits_form (form_by o (nat_lt 0 n)) n ≡ true
form_fits None n = elim (cases_Bool (nat_lt 0 n)) [
  | inl some ↦ rw some some
  | inr none ↦
      let zero : (n == 0) ≡ true = grind (arith, nat_tests, none) in
      rw none zero
]
form_fits (Some cs) n = refl

-- the lines of a sheet, from the first on
pub lines_right : (s : SheetRows) → lines_of s
    ≡ title_line (form_of s) ∷ stores_line s.stores ∷ (dump_lines s.plan.stores 1 s.plan.steps s.plan.amounts
    ++ (certificate_lines (own s) ++ (first_lines 1 (unwrap_or s.firsts []) ++ end_line ∷ [])))
unfolding lines_of
lines_right s =
    let front = title_line (form_of s) ∷ stores_line s.stores ∷ [] in
    let dumps = dump_lines s.plan.stores 1 s.plan.steps s.plan.amounts in
    let firsts = first_lines 1 (unwrap_or s.firsts []) in
    append_assoc (front ++ dumps) (first_lines 0 (certificates_of s)) (end_line ∷ [])
    ∙ append_assoc front dumps (first_lines 0 (certificates_of s) ++ end_line ∷ [])
    ∙ ap (λ ls. front ++ (dumps ++ ls)) (append_assoc (certificate_lines (own s)) firsts (end_line ∷ []))

-- some pass the test
some_may : (n : ℕ) → 1 ≤ n → nat_lt 0 n ≡ true
some_may n h = grind (arith, nat_tests)

-- stores may come, where there are neither none nor too many
stores_may : (n : ℕ) → 1 ≤ n → n ≤ MAX_STORES → (nat_lt 0 n && nat_le n MAX_STORES) ≡ true
stores_may n some few = grind (arith, nat_tests)

-- a sheet's stores alone
abbrev opened : SheetRows → ReadRows
opened s = record no_rows { stores = s.stores; plan = record { stores = s.plan.stores; steps = 0; amounts = [] } }

-- title and stores
go_opening : (s : SheetRows) (f : Form) (more : List Line) → 1 ≤ length s.stores → length s.stores ≤ MAX_STORES
    → s.plan.stores ≡ length s.stores
    → go start (title_line f ∷ stores_line s.stores ∷ more) ≡ go (dumping f (opened s) 0 []) more
go_opening s f more some few same =
    let rows : ℕ → ReadRows = λ n. record (opened s) { plan = record { stores = n; steps = 0; amounts = [] } } in
    go_may (at_stage ToStores f no_rows) (stores_line s.stores) more (stores_may (length s.stores) some few)
    ∙ ap (λ n. go (dumping f (rows n) 0 []) more) (sym same)

-- the sheet's own certificate is one
pub own_is : (s : SheetRows) → IsSheet s → IsCertificate (own s)
own_is s h = assumption

-- the lines of a sheet run to its end
pub go-lines_of : (s : SheetRows) → IsSheet s → go start (lines_of s) ≡ Some (whole s)
go-lines_of s h =
    let some : 1 ≤ length s.stores = omega (arith, h.plan.has_store, h.same_stores) in
    let steps : 0 + s.plan.steps ≡ s.plan.steps = omega arith in
    let after_own = first_lines 1 (unwrap_or s.firsts []) ++ end_line ∷ [] in
    let after_dumps = certificate_lines (own s) ++ after_own in
    let f = form_of s in
    let few : length s.stores ≤ MAX_STORES = omega (arith, h.plan.few, h.same_stores) in
    let dumped = dumping f (opened s) s.plan.steps s.plan.amounts in
    let fits = form_fits s.firsts (length s.by_channels) in
    let may = some_may s.plan.steps h.plan.has_step in
    ap (go start) (lines_right s)
    ∙ go_opening s f (dump_lines s.plan.stores 1 s.plan.steps s.plan.amounts ++ after_dumps) some few h.same_stores
    ∙ go-dump_lines f (opened s) 0 s.plan.steps [] s.plan.amounts after_dumps h.same_stores h.plan.table
    ∙ ap (λ k. go (dumping f (opened s) k s.plan.amounts) after_dumps) steps
    ∙ go-certificate_lines ToDumps f dumped.rows (own s) after_own may (own_is s h) fits
    ∙ go_ending dumped.rows (own s) s.firsts (has_counts s) h.firsts

-- ---- each line of a sheet is within its ranges

-- the dump lines are within their ranges
dump_lines_are : (n t k : ℕ) (xs : List ℕ) → n ≤ MAX_STORES → t + k ≤ MAX_STEPS + 1 → length xs ≡ k * n
    → All (λ m. m ≤ MAX_BLOCKS) xs → All IsLine (dump_lines n t k xs)
dump_lines_are n t zero xs few steps size h = All-nil IsLine
dump_lines_are n t (suc k) xs few steps size h =
    let within : n ≤ length xs = omega (arith, size) in
    let left : length (drop n xs) ≡ k * n = omega (arith, size, length-drop n xs) in
    All-cons IsLine (dump_line t (take n xs)) (dump_lines n (t + 1) k (drop n xs))
    (omega (arith, steps), omega (arith, few, length-take-le n xs within), All-take (λ m. m ≤ MAX_BLOCKS) n xs h)
    (dump_lines_are n (t + 1) k (drop n xs) few (omega (arith, steps)) left (All-drop (λ m. m ≤ MAX_BLOCKS) n xs h))

-- the lines of a certificate are within their ranges
certificate_lines_are : (c : CertificateRows) → IsCertificate c → All IsLine (certificate_lines c)
certificate_lines_are c h =
    let ending = bound_line c.bound ∷ [] in
    let counted = map count_line c.by_channels ++ ending in
    let all_end : All IsLine ending = All-cons IsLine (bound_line c.bound) [] h.bound (All-nil IsLine) in
    let counts = All-map IsLine count_line c.by_channels h.each_count in
    let stretches = All-map IsLine stretch_line c.cut h.each_stretch in
    let all_counted = All-append IsLine (map count_line c.by_channels) ending counts all_end in
    let all_cut = All-append IsLine (map stretch_line c.cut) counted stretches all_counted in
    subst (All IsLine) (sym (certificate_right c []) ∙ append-nil (certificate_lines c))
    (All-cons IsLine (loss_line c.loss) (map stretch_line c.cut ++ counted) h.loss all_cut)

-- and the line before them
opening_are : (k : ℕ) → k < 2 ^ 32 → All IsLine (opening k)
opening_are zero few = All-nil IsLine
opening_are (suc k) few = All-cons IsLine (first_line (suc k)) [] few (All-nil IsLine)

-- the lines of few certificates are within their ranges
first_lines_are : (k : ℕ) (cs : List CertificateRows) → k + length cs ≤ 2 ^ 32 → All IsCertificate cs
    → All IsLine (first_lines k cs)
first_lines_are k [] few h = All-nil IsLine
first_lines_are k (c ∷ cs) few h =
    let lines = certificate_lines_are c (All-head IsCertificate c cs h) in
    All-append IsLine (opening k ++ certificate_lines c) (first_lines (suc k) cs)
    (All-append IsLine (opening k) (certificate_lines c) (opening_are k (omega (arith, few))) lines)
    (first_lines_are (suc k) cs (omega (arith, few)) (All-tail IsCertificate c cs h))

-- few certificates of the first stores, each within the limits
firsts_are : (n : ℕ) (o : Option (List CertificateRows)) → IfSome o (AreFirsts n) → 1 ≤ n
    → (length (unwrap_or o []) < n) × All IsCertificate (unwrap_or o [])
firsts_are n None h some = (omega arith, All-nil IsCertificate)
firsts_are n (Some cs) h some = (omega (arith, h.count), h.each)

-- the certificates of a sheet
pub record AreCertificates (s : SheetRows) : Type 0 where
  pub few : length (certificates_of s) ≤ MAX_STORES
  pub each : All IsCertificate (certificates_of s)

-- as many as stores at the most, each within the limits
pub certificates_are : (s : SheetRows) → IsSheet s → AreCertificates s
certificates_are s h =
    let p = firsts_are (length s.stores) s.firsts h.firsts (omega (arith, h.plan.has_store, h.same_stores)) in
    record {
      few = omega (arith, p.0, h.plan.few, h.same_stores);
      each = All-cons IsCertificate (own s) (unwrap_or s.firsts []) (own_is s h) p.1;
    }

-- the lines of a sheet are within their ranges
pub lines_are : (s : SheetRows) → IsSheet s → All IsLine (lines_of s)
unfolding lines_of
lines_are s h =
    let few : length s.stores ≤ MAX_STORES = omega (arith, h.plan.few, h.same_stores) in
    let cs = certificates_are s h in
    let front = title_line (form_of s) ∷ stores_line s.stores ∷ [] in
    let dumps = dump_lines s.plan.stores 1 s.plan.steps s.plan.amounts in
    let parts = first_lines 0 (certificates_of s) in
    let fewer : length s.stores ≤ 17 = omega (arith, few) in
    let all_front : All IsLine front = All-from_recursion IsLine front (tt, ((fewer, h.each_store), tt)) in
    let last : 1 + s.plan.steps ≤ MAX_STEPS + 1 = omega (arith, h.steps) in
    let p = s.plan in
    let all_dumps = dump_lines_are p.stores 1 p.steps p.amounts h.plan.few last h.plan.table h.plan.each in
    let all_parts : All IsLine parts = first_lines_are 0 (certificates_of s) (omega (arith, cs.few)) cs.each in
    let all_end : All IsLine (end_line ∷ []) = All-cons IsLine end_line [] tt (All-nil IsLine) in
    All-append IsLine (front ++ dumps ++ parts) (end_line ∷ [])
    (All-append IsLine (front ++ dumps) parts (All-append IsLine front dumps all_front all_dumps) all_parts) all_end
