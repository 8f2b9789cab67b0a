-- What has been taken can be completed to a sheet.
use Rattle.std.proofs.Common.{◌≡◌, ℕ, zero, suc, ◌+◌, ◌-◌, ◌*◌, ◌<◌, ◌≤◌, true, ◌==◌, List, [], ◌∷◌, ◌++◌, length}
use Rattle.std.proofs.Common.{drop, pos, refl, sym, ap, ◌∙◌, inl, inr, arith, append_assoc, append-nil, length-append}
use Rattle.std.proofs.Common.{length-drop, subst}
use Rattle.std.specs.Prelude.{All, IfSome, unwrap_or, codes, nat_lt, ◌&&◌, ◌^◌, replicate}
use Rattle.std.proofs.lemmas.Bool.{cases_Bool}
use Rattle.std.proofs.lemmas.Bool.Decides.{nat_tests}
use Rattle.std.proofs.lemmas.List.{length-replicate, length-map}
use Rattle.std.proofs.lemmas.List.Elements.{All-nil, All-cons, All-head, All-tail, All-drop, All-replicate}
use Rattle.mm_base.specs.declared.limits.TheConstants.{MAX_STORES, MAX_BLOCKS}
use Rattle.mm_base.specs.Id.{IsIdField, field_of}
use Rattle.mm_base.proofs.IdFields.{field_of-IsIdField, is_id_text_decides}
use Rattle.mm_plan.specs.declared.form.Form.{Form}
use Rattle.mm_plan.specs.declared.form.Form.TheVariants.{First, Second, Third}
use Rattle.mm_plan.specs.declared.draft.Stage.{Stage}
use Rattle.mm_plan.specs.declared.draft.Stage.TheVariants.{ToTitle, ToStores, ToDumps, ToLoss, ToCut, ToEnd, Done}
use Rattle.mm_plan.specs.Sheet.{SheetRows, CertificateRows, IsSheet, IsCertificate, AreFirsts, Line, title_line}
use Rattle.mm_plan.specs.Sheet.{stores_line, dump_line, loss_line, count_line, bound_line, first_line}
use Rattle.mm_plan.specs.Sheet.{end_line, dump_lines, certificate_lines, opening, first_lines, own}
use Rattle.mm_plan.specs.Sheet.{certificates_of, lines_of, IsLine}
use Rattle.mm_plan.specs.Reading.{ReadRows, DraftRows, fits_form, may_begin, has_all, may_follow, part_of}
use Rattle.mm_plan.specs.Reading.{with_part, after, firsts_in, sheet_of}
use Rattle.mm_plan.proofs.Drafts.{dumps_of, so_far, IsRows, IsEnded, at_stage, IsSound, lines_so_far, IsAdded}
use Rattle.mm_plan.proofs.Drafts.{zero_fits, added}
use Rattle.mm_plan.proofs.Runs.{eq_of, certificates_are}

-- a sheet that begins with the lines so far
pub record Leads (d : DraftRows) : Type 0 where
  pub sheet : SheetRows
  pub is : IsSheet sheet
  pub more : List Line
  pub lines : lines_of sheet ≡ lines_so_far d ++ more

-- certificates of all first stores
all_firsts : (f : Form) (s : ReadRows) → has_all f s ≡ true → 1 ≤ length s.certificates
    → All IsCertificate s.certificates → IfSome (firsts_in f s.certificates) (AreFirsts (length s.stores))
all_firsts Third s all some each =
    let count : length s.certificates ≡ length s.stores = grind (arith, nat_tests, all) in
    let rest = length-drop 1 s.certificates in
    let fewer : length (drop 1 s.certificates) + 1 ≡ length s.stores = omega (arith, count, rest) in
    record { count = fewer; each = All-drop IsCertificate 1 s.certificates each }
all_firsts _ s all some each = tt

-- the draft of a whole sheet is the sheet's
pub whole_is_sheet : (f : Form) (s : ReadRows) → IsRows s → IsEnded f s → IsSheet (sheet_of (at_stage Done f s))
whole_is_sheet f s rows at =
    let sheet = sheet_of (at_stage Done f s) in
    let parts = at.whole.certificates.all in
    let all : All IsCertificate (certificates_of sheet) = subst (All IsCertificate) (sym parts) rows.certificates in
    let own_is : IsCertificate (own sheet) = All-head IsCertificate (own sheet) (unwrap_or sheet.firsts []) all in
    let firsts = all_firsts f s at.all (omega (arith, ap length parts)) rows.certificates in
    let has_store : 1 ≤ s.plan.stores = omega (arith, at.whole.has_store, rows.dumps.same_stores) in
    let few : s.plan.stores ≤ MAX_STORES = omega (arith, rows.dumps.stores, rows.dumps.same_stores) in
    assumption (firsts, own_is, has_store, few)

-- the lines of a whole sheet are those of its draft
pub lines_of-whole : (f : Form) (s : ReadRows) → IsEnded f s → lines_of (sheet_of (at_stage Done f s)) ≡ so_far Done f s
unfolding lines_of
lines_of-whole f s at =
    let parts = at.whole.certificates in
    let lines : Form → List CertificateRows → List Line =
    λ g cs. title_line g ∷ stores_line s.stores ∷ [] ++ dumps_of s ++ first_lines 0 cs ++ end_line ∷ [] in
    ap (λ g. lines g (certificates_of (sheet_of (at_stage Done f s)))) parts.form ∙ ap (lines f) parts.all

-- a line more that leads to a sheet
leads_more : (d : DraftRows) (x : Line) → IsLine x → IsSound d → may_follow d.stage d.form d.rows x ≡ true
    → (IsSound (after d x) → Leads (after d x)) → Leads d
leads_more d x line sound may next =
    let more : IsAdded d x = added d.stage d.form d.rows x line sound.rows sound.at may in
    let led : Leads (after d x) = next more.sound in
    record {
      sheet = led.sheet;
      is = led.is;
      more = x ∷ led.more;
      lines = led.lines ∙ ap (λ xs. xs ++ led.more) more.lines ∙ append_assoc (lines_so_far d) (x ∷ []) led.more;
    }

-- a sound draft at a stage leads to a sheet
abbrev LeadsAt : Stage → Form → ReadRows → Type 0
LeadsAt stage f s = IsSound (at_stage stage f s) → Leads (at_stage stage f s)

-- a draft of a whole sheet leads to it
leads_done : (f : Form) (s : ReadRows) → LeadsAt Done f s
leads_done f s sound = record {
  sheet = sheet_of (at_stage Done f s);
  is = whole_is_sheet f s sound.rows sound.at;
  more = [];
  lines = lines_of-whole f s sound.at ∙ sym (append-nil (so_far Done f s));
}

-- by its end line, where no certificate is to come
leads_all : (f : Form) (s : ReadRows) → has_all f s ≡ true → LeadsAt ToEnd f s
leads_all f s all sound = leads_more (at_stage ToEnd f s) end_line tt sound all (leads_done f s)

-- the certificate of the next first stores may come
more_may : (s : ReadRows) (n : ℕ) → length s.certificates + suc n ≡ length s.stores
    → may_begin Third (length s.certificates) s ≡ true
more_may s n left = grind (arith, nat_tests, left)

-- by certificates of loss and bound 0, where n are to come
leads_parts : (n : ℕ) (s : ReadRows) → length s.certificates + n ≡ length s.stores → LeadsAt ToEnd Third s
leads_parts zero s left sound =
    leads_all Third s (eq_of (length s.certificates) (length s.stores) (omega (arith, left))) sound
leads_parts (suc n) s left sound =
    let begun : ReadRows = record s { loss = 0; cut = []; by_channels = [] } in
    let part = part_of begun (pos 0) in
    let few : length s.certificates < 2 ^ 32 = omega (arith, left, sound.rows.dumps.stores) in
    let size = length-append s.certificates (part ∷ []) in
    let fewer : length (s.certificates ++ part ∷ []) + n ≡ length s.stores = omega (arith, left, size) in
    leads_more (at_stage ToEnd Third s) (first_line (length s.certificates)) few sound (more_may s n left) (λ first.
    leads_more (at_stage ToLoss Third s) (loss_line 0) (omega arith) first refl (λ lost.
    leads_more (at_stage ToCut Third begun) (bound_line (pos 0)) zero_fits lost refl
    (leads_parts n (with_part begun part) fewer)))

-- by the end, or by certificates
leads_end : (f : Form) (s : ReadRows) → LeadsAt ToEnd f s
leads_end Third s sound =
    leads_parts (length s.stores - length s.certificates) s (omega (arith, sound.at.certificates.few)) sound
leads_end f s sound = leads_all f s refl sound

-- by the bound 0
leads_formed : (f : Form) (s : ReadRows) → fits_form f (length s.by_channels) ≡ true → LeadsAt ToCut f s
leads_formed f s fits sound =
    leads_more (at_stage ToCut f s) (bound_line (pos 0)) zero_fits sound fits
    (leads_end f (with_part s (part_of s (pos 0))))

-- one more is some
has_more : (n : ℕ) → true ≡ nat_lt 0 (n + 1)
has_more n = grind (arith, nat_tests)

-- by a count, where the second form lacks one
leads_cut : (f : Form) (s : ReadRows) → LeadsAt ToCut f s
leads_cut First s sound = leads_formed First s (ap (λ ts. length ts == 0) (sound.at.counts refl)) sound
leads_cut Third s sound = leads_formed Third s refl sound
leads_cut Second s sound =
    let ts = s.by_channels in
    elim (cases_Bool (nat_lt 0 (length ts))) [
      | inl some ↦ leads_formed Second s some sound
      | inr none ↦
          leads_more (at_stage ToCut Second s) (count_line 0) (omega arith) sound (grind (arith, nat_tests, none))
          (leads_formed Second (record s { by_channels = ts ++ 0 ∷ [] })
          (ap (nat_lt 0) (length-append ts (0 ∷ [])) ∙ sym (has_more (length ts))))
    ]

-- by the loss 0, where one may come
leads_loss : (stage : Stage) (f : Form) (s : ReadRows) → may_follow stage f s (loss_line 0) ≡ true → LeadsAt stage f s
leads_loss stage f s may sound =
    leads_more (at_stage stage f s) (loss_line 0) (omega arith) sound may
    (leads_cut f (record s { loss = 0; cut = []; by_channels = [] }))

-- by a dump line of zeros, where there is none
leads_dumps : (f : Form) (s : ReadRows) → LeadsAt ToDumps f s
leads_dumps f s sound = elim (cases_Bool (nat_lt 0 s.plan.steps)) [
  | inl some ↦ leads_loss ToDumps f s some sound
  | inr none ↦
      let n = length s.stores in
      let k = s.plan.steps in
      let blank : k ≡ 0 = grind (arith, nat_tests, none) in
      let row : List ℕ = replicate n 0 in
      let width : length row ≡ n = length-replicate {A = ℕ} n 0 in
      let few : length row ≤ MAX_STORES = omega (arith, sound.rows.dumps.stores, width) in
      let more : ReadRows = record s { plan = record s.plan { steps = k + 1; amounts = s.plan.amounts ++ row } } in
      leads_more (at_stage ToDumps f s) (dump_line (k + 1) row)
      (omega (arith, blank), few, All-replicate (λ n. n ≤ MAX_BLOCKS) n 0 (omega arith)) sound
      (ap (λ c. c && (length row == n)) (eq_of (k + 1) (k + 1) refl) ∙ eq_of (length row) n width)
      (leads_loss ToDumps f more (sym (has_more k)))
]

-- by one store
leads_stores : (f : Form) (s : ReadRows) → LeadsAt ToStores f s
leads_stores f s sound =
    let id = field_of (codes "A") in
    let is : IsIdField id = field_of-IsIdField (codes "A") ((is_id_text_decides (codes "A")).0 refl) in
    leads_more (at_stage ToStores f s) (stores_line (id ∷ []))
    (omega arith, All-cons IsIdField id [] is (All-nil IsIdField)) sound refl
    (leads_dumps f (record s { stores = id ∷ []; plan = record s.plan { stores = 1 } }))

-- by the title of the first form
leads_title : (f : Form) (s : ReadRows) → LeadsAt ToTitle f s
leads_title f s sound = leads_more (at_stage ToTitle f s) (title_line First) tt sound refl (leads_stores First s)

-- every stage leads to a sheet
leads_at : (stage : Stage) (f : Form) (s : ReadRows) → LeadsAt stage f s
leads_at ToTitle = leads_title
leads_at ToStores = leads_stores
leads_at ToDumps = leads_dumps
leads_at ToLoss = λ f s. leads_loss ToLoss f s refl
leads_at ToCut = leads_cut
leads_at ToEnd = leads_end
leads_at Done = leads_done

-- every sound draft leads to a sheet
pub leads : (d : DraftRows) → IsSound d → Leads d
leads d sound = leads_at d.stage d.form d.rows sound

-- ---- how many lines there are

-- there is a line for each step
length-dump_lines : (n t k : ℕ) (xs : List ℕ) → length (dump_lines n t k xs) ≡ k
length-dump_lines n t zero xs = refl
length-dump_lines n t (suc k) xs = omega (arith, length-dump_lines n (t + 1) k (drop n xs))

-- at most a loss, 4,096 stretches, 256 counts and a bound
length-certificate_lines : (c : CertificateRows) → IsCertificate c → length (certificate_lines c) ≤ 4354
unfolding certificate_lines
length-certificate_lines c h = simp (length-append, length-map) (omega (arith, h.cut, h.counts))

-- at most one line
length-opening : (k : ℕ) → length (opening k) ≤ 1
length-opening zero = omega arith
length-opening (suc k) = omega arith

-- each certificate has at most this number of lines
length-first_lines : (k : ℕ) (cs : List CertificateRows) → All IsCertificate cs
    → length (first_lines k cs) ≤ 4355 * length cs
length-first_lines k [] h = omega arith
length-first_lines k (c ∷ cs) h =
    let here = length-certificate_lines c (All-head IsCertificate c cs h) in
    let others = length-first_lines (suc k) cs (All-tail IsCertificate c cs h) in
    simp length-append (omega (arith, length-opening k, here, others))

-- at most a title, stores, 256 dumps, 16 certificates and an end
few_lines : (s : SheetRows) → IsSheet s → length (lines_of s) ≤ 69939
unfolding lines_of
few_lines s h =
    let cs = certificates_are s h in
    let dumps = length-dump_lines s.plan.stores 1 s.plan.steps s.plan.amounts in
    let parts = simp length-append at (length-first_lines 0 (certificates_of s) cs.each) in
    simp length-append (omega (arith, h.steps, cs.few, dumps, parts))

-- no sound draft has more lines than a sheet has at the most
pub few_so_far : (d : DraftRows) → IsSound d → length (lines_so_far d) ≤ 69939
few_so_far d sound =
    let led = leads d sound in
    omega (arith, few_lines led.sheet led.is, ap length led.lines, length-append (lines_so_far d) led.more)
