-- How long a plan text is at most.
use Rattle.std.proofs.Common.{◌≡◌, ℕ, zero, suc, ◌+◌, ◌*◌, ◌<◌, ◌≤◌, ◌^◌, ℤ, Bool, true, false, Option, Some, None}
use Rattle.std.proofs.Common.{unwrap_or, ap, ◌∙◌, List, [], ◌∷◌, ◌++◌, length, map, take, drop, codes, decimal, refl}
use Rattle.std.proofs.Common.{arith, length-append, length-take}
use Rattle.std.specs.Prelude.{All, FitsSigned}
use Rattle.std.specs.Fmt.{signed_decimal}
use Rattle.std.specs.Int.{w64}
use Rattle.std.specs.Int.Signed.{mag}
use Rattle.std.specs.List.{join_with_byte}
use Rattle.std.proofs.lemmas.List.{append-nil, map-append}
use Rattle.std.proofs.lemmas.List.Elements.{All-head, All-tail, All-take, All-drop}
use Rattle.std.proofs.lemmas.Fmt.{length-decimal-le, length_signed_le}
use Rattle.mm_base.specs.Characters.{line_feed, space}
use Rattle.mm_base.specs.declared.limits.TheConstants.{MAX_STORES, MAX_STEPS, MAX_BLOCKS}
use Rattle.mm_base.specs.Id.{IsIdField, id_text}
use Rattle.mm_plan.specs.Sheet.{CertificateRows, SheetRows, Line, title_line, stores_line, dump_line, loss_line}
use Rattle.mm_plan.specs.Sheet.{stretch_line, count_line, bound_line, end_line, words, line_text, dump_lines, form_by}
use Rattle.mm_plan.specs.Sheet.{form_of, has_counts, own, certificates_of, certificate_lines, first_lines, lines_of}
use Rattle.mm_plan.specs.Sheet.{sheet_text, IsWritten, IsSheet}
use Rattle.mm_plan.specs.declared.stretch.Stretch.{Stretch}
use Rattle.mm_told.specs.declared.room.TheConstants.{PLAN_ROOM}

-- pieces with one octet after each
total : List (List ℕ) → ℕ
total [] = 0
total (x ∷ xs) = length x + 1 + total xs

-- pieces joined by an octet have none after the last
join-below : (c : ℕ) (x : List ℕ) (xs : List (List ℕ)) → length (join_with_byte c (x ∷ xs)) + 1 ≤ total (x ∷ xs)
unfolding total
join-below c x [] = omega arith
join-below c x (y ∷ xs) =
    let more : length (join_with_byte c (y ∷ xs)) + 1 ≤ total (y ∷ xs) = join-below c y xs in
    omega (arith, more, length-append x (c ∷ join_with_byte c (y ∷ xs)))

join-most : (c : ℕ) (xs : List (List ℕ)) → length (join_with_byte c xs) ≤ total xs
join-most c [] = omega arith
join-most c (x ∷ xs) = omega (arith, join-below c x xs)

total-append : (xs ys : List (List ℕ)) → total (xs ++ ys) ≡ total xs + total ys
unfolding total
total-append [] ys = omega arith
total-append (x ∷ xs) ys = omega (arith, total-append xs ys)

-- pieces of at most m octets each
total-each : (m : ℕ) (xs : List (List ℕ)) → All (λ x. length x ≤ m) xs → total xs ≤ length xs * (m + 1)
unfolding total
total-each m [] each = omega arith
total-each m (x ∷ xs) each =
    let here : length x ≤ m = All-head (λ y. length y ≤ m) x xs each in
    let more : total xs ≤ length xs * (m + 1) = total-each m xs (All-tail (λ y. length y ≤ m) x xs each) in
    grind (arith, here, more)

-- the octets of lines, each with its end
cost : List Line → ℕ
cost lines = total (map line_text lines)

cost-append : (xs ys : List Line) → cost (xs ++ ys) ≡ cost xs + cost ys
unfolding cost
cost-append xs ys = simp (map-append, total-append)

-- a text of a number
decimal-most : (k n : ℕ) → 0 < k → n < 10 ^ k → n < 2 ^ 64 → length (decimal n) ≤ k
decimal-most k n some below fits = length-decimal-le k n some below fits

-- the texts of amounts
amounts-most : (amounts : List ℕ) → All (λ n. n ≤ MAX_BLOCKS) amounts → total (map decimal amounts) ≤ length amounts * 8
unfolding total
amounts-most [] each = omega arith
amounts-most (n ∷ amounts) each =
    let most : n ≤ MAX_BLOCKS = All-head (λ k. k ≤ MAX_BLOCKS) n amounts each in
    let here : length (decimal n) ≤ 7 = decimal-most 7 n (omega arith) (omega arith) (omega arith) in
    let more : total (map decimal amounts) ≤ length amounts * 8 =
    amounts-most amounts (All-tail (λ k. k ≤ MAX_BLOCKS) n amounts each) in
    omega (arith, here, more)

-- the texts of identifiers
ids-most : (ids : List (List ℕ)) → All IsIdField ids → total (map id_text ids) ≤ length ids * 9
unfolding total
ids-most [] each = omega arith
ids-most (id ∷ ids) each =
    let here : length (id_text id) ≤ 8 = (All-head IsIdField id ids each).text.at_most_eight in
    let more : total (map id_text ids) ≤ length ids * 9 = ids-most ids (All-tail IsIdField id ids each) in
    omega (arith, here, more)

-- a line of the words x and xs
line-below : (line : Line) (x : List ℕ) (xs : List (List ℕ)) → words line ≡ x ∷ xs
    → length (line_text line) + 1 ≤ total (x ∷ xs)
unfolding line_text
line-below line x xs is = rw is (join-below space x xs)

title-most : (firsts : Option (List CertificateRows)) (b : Bool)
    → length (line_text (title_line (form_by firsts b))) ≤ 8
unfolding line_text
title-most None true = omega arith
title-most None false = omega arith
title-most (Some firsts) b = omega arith

end-most : length (line_text end_line) ≤ 3
unfolding line_text
end-most = omega arith

stores-most : (ids : List (List ℕ)) → length ids ≤ MAX_STORES → All IsIdField ids
    → length (line_text (stores_line ids)) ≤ 150
unfolding total
stores-most ids few each =
    let whole : length (line_text (stores_line ids)) + 1 ≤ total (codes "stores" ∷ map id_text ids) =
    line-below (stores_line ids) (codes "stores") (map id_text ids) refl in
    omega (arith, whole, ids-most ids each)

dump-most : (t : ℕ) (amounts : List ℕ) → t ≤ MAX_STEPS → length amounts ≤ MAX_STORES → All (λ n. n ≤ MAX_BLOCKS) amounts
    → length (line_text (dump_line t amounts)) ≤ 136
unfolding total
dump-most t amounts step few each =
    let whole : length (line_text (dump_line t amounts)) + 1 ≤ total (codes "dump" ∷ decimal t ∷ map decimal amounts) =
    line-below (dump_line t amounts) (codes "dump") (decimal t ∷ map decimal amounts) refl in
    let number : length (decimal t) ≤ 3 = decimal-most 3 t (omega arith) (omega arith) (omega arith) in
    omega (arith, whole, number, amounts-most amounts each)

loss-most : (n : ℕ) → n < 2 ^ 64 → length (line_text (loss_line n)) ≤ 25
unfolding total
loss-most n fits =
    let whole : length (line_text (loss_line n)) + 1 ≤ total (codes "loss" ∷ decimal n ∷ []) =
    line-below (loss_line n) (codes "loss") (decimal n ∷ []) refl in
    let number : length (decimal n) ≤ 20 = decimal-most 20 n (omega arith) (omega arith) fits in
    omega (arith, whole, number)

stretch-most : (d : Stretch) → IsWritten d → length (line_text (stretch_line d)) ≤ 38
unfolding total
stretch-most d written =
    let whole : length (line_text (stretch_line d)) + 1 ≤ total
    (codes "stretch" ∷ id_text d.store ∷ decimal d.first ∷ decimal d.last ∷ []) =
    line-below (stretch_line d) (codes "stretch") (id_text d.store ∷ decimal d.first ∷ decimal d.last ∷ []) refl in
    let first-fits : d.first < 2 ^ 32 = written.first in
    let last-fits : d.last < 2 ^ 32 = written.last in
    let first : length (decimal d.first) ≤ 10 = decimal-most 10 d.first (omega arith) (omega arith) (omega arith) in
    let last : length (decimal d.last) ≤ 10 = decimal-most 10 d.last (omega arith) (omega arith) (omega arith) in
    omega (arith, whole, first, last, written.store.text.at_most_eight)

count-most : (t : ℕ) → t < 2 ^ 32 → length (line_text (count_line t)) ≤ 25
unfolding total
count-most t fits =
    let whole : length (line_text (count_line t)) + 1 ≤ total (codes "count" ∷ decimal t ∷ codes "channels" ∷ []) =
    line-below (count_line t) (codes "count") (decimal t ∷ codes "channels" ∷ []) refl in
    let number : length (decimal t) ≤ 10 = decimal-most 10 t (omega arith) (omega arith) (omega arith) in
    omega (arith, whole, number)

bound-most : (z : ℤ) → FitsSigned w64 z → length (line_text (bound_line z)) ≤ 26
unfolding total
bound-most z fits =
    let whole : length (line_text (bound_line z)) + 1 ≤ total (codes "bound" ∷ signed_decimal z ∷ []) =
    line-below (bound_line z) (codes "bound") (signed_decimal z ∷ []) refl in
    let magnitude : mag z < 2 ^ 63 = fits.sfits in
    let number : length (signed_decimal z) ≤ 20 = length_signed_le 19 z (omega arith) magnitude in
    omega (arith, whole, number)

-- lines of one kind, each of at most m octets with its end
each-most : {X : Type 0} (line : X → Line) (P : X → Type 0) (m : ℕ)
    → ((x : X) → P x → length (line_text (line x)) + 1 ≤ m)
    → (xs : List X) → All P xs → cost (map line xs) ≤ length xs * m
unfolding cost total
each-most line P m most [] each = omega arith
each-most line P m most (x ∷ xs) each =
    let here : length (line_text (line x)) + 1 ≤ m = most x (All-head P x xs each) in
    let more : cost (map line xs) ≤ length xs * m = each-most line P m most xs (All-tail P x xs each) in
    grind (arith, here, more)

dumps-most : (n t k : ℕ) (amounts : List ℕ) → n ≤ MAX_STORES → t + k ≤ MAX_STEPS + 1 → All (λ m. m ≤ MAX_BLOCKS) amounts
    → cost (dump_lines n t k amounts) ≤ k * 137
unfolding cost total
dumps-most n t zero amounts few steps each = omega arith
dumps-most n t (suc k) amounts few steps each =
    let short : length (take n amounts) ≤ n = simp length-take (omega arith) in
    let here : length (line_text (dump_line t (take n amounts))) ≤ 136 =
    dump-most t (take n amounts) (omega arith) (omega arith) (All-take (λ m. m ≤ MAX_BLOCKS) n amounts each) in
    let more : cost (dump_lines n (t + 1) k (drop n amounts)) ≤ k * 137 =
    dumps-most n (t + 1) k (drop n amounts) few (omega arith) (All-drop (λ m. m ≤ MAX_BLOCKS) n amounts each) in
    omega (arith, here, more)

-- the text of a sheet is its lines, each with its end
sheet-cost : (s : SheetRows) → length (sheet_text s) ≤ cost (lines_of s) + 1
unfolding sheet_text cost total
sheet-cost s =
    omega (
      arith,
      join-most line_feed (map line_text (lines_of s) ++ [] ∷ []),
      total-append (map line_text (lines_of s))
          ([] ∷ []),
    )

costs-add : (a b c d : List Line) → cost (a ++ b ++ c ++ d) ≡ cost a + cost b + cost c + cost d
costs-add a b c d = simp cost-append

-- where a sheet has no certificates of the first stores, only that of all stores takes room
own-cost : (s : SheetRows) → s.firsts ≡ None
    → cost (first_lines 0 (certificates_of s)) ≡ cost (certificate_lines (own s))
own-cost s plain = ap (λ firsts. cost (first_lines 0 (own s ∷ unwrap_or firsts []))) plain
    ∙ ap cost (append-nil (certificate_lines (own s)))

-- one line
one-cost : (x : Line) (m : ℕ) → length (line_text x) ≤ m → cost (x ∷ []) ≤ m + 1
unfolding cost total
one-cost x m most = omega (arith, most)

title-cost : (firsts : Option (List CertificateRows)) (b : Bool) (ids : List (List ℕ)) → length ids ≤ MAX_STORES
    → All IsIdField ids
    → cost (title_line (form_by firsts b) ∷ stores_line ids ∷ []) ≤ 160
unfolding cost total
title-cost firsts b ids few each = omega (arith, title-most firsts b, stores-most ids few each)

few-steps : (s : SheetRows) → IsSheet s → 1 + s.plan.steps ≤ MAX_STEPS + 1
few-steps s sheet = omega (arith, sheet.steps)

-- the certificate of all stores
certificate-cost : (s : SheetRows) → IsSheet s
    → cost (certificate_lines (own s)) ≤ length s.cut * 39 + length s.by_channels * 26 + 53
unfolding certificate_lines
certificate-cost s sheet =
    let loss : List Line = loss_line s.loss ∷ [] in
    let stretches : List Line = map stretch_line s.cut in
    let counts : List Line = map count_line s.by_channels in
    let bound : List Line = bound_line s.bound ∷ [] in
    let losses : cost loss ≤ 26 = one-cost (loss_line s.loss) 25 (loss-most s.loss sheet.loss) in
    let cuts : cost stretches ≤ length s.cut * 39 =
    each-most stretch_line IsWritten 39 (λ d written. omega (arith, stretch-most d written)) s.cut sheet.each_stretch in
    let counted : cost counts ≤ length s.by_channels * 26 =
    each-most count_line (λ t. t < 2 ^ 32) 26
    (λ t fits. omega (arith, count-most t fits)) s.by_channels sheet.each_count in
    let bounds : cost bound ≤ 27 = one-cost (bound_line s.bound) 26 (bound-most s.bound sheet.bound) in
    omega (arith, costs-add loss stretches counts bound, losses, cuts, counted, bounds)

-- a plan text that says nothing of the first stores fits
pub plan_text_fits : (s : SheetRows) → IsSheet s → s.firsts ≡ None → length (sheet_text s) ≤ PLAN_ROOM
unfolding sheet_text lines_of
plan_text_fits s sheet plain =
    let title : List Line = title_line (form_of s) ∷ stores_line s.stores ∷ [] in
    let dumps : List Line = dump_lines s.plan.stores 1 s.plan.steps s.plan.amounts in
    let last : List Line = end_line ∷ [] in
    let whole : length (sheet_text s) ≤ cost (lines_of s) + 1 = sheet-cost s in
    let costs : cost (lines_of s) ≡ cost title + cost dumps + cost (first_lines 0 (certificates_of s)) + cost last =
    costs-add title dumps (first_lines 0 (certificates_of s)) last in
    let titles : cost title ≤ 160 =
    title-cost s.firsts (has_counts s) s.stores
    (omega (arith, sheet.plan.few, sheet.same_stores)) sheet.each_store in
    let rows : cost dumps ≤ s.plan.steps * 137 =
    dumps-most s.plan.stores 1 s.plan.steps s.plan.amounts sheet.plan.few (few-steps s sheet) sheet.plan.each in
    let ends : cost last ≤ 4 = one-cost end_line 3 end-most in
    omega (
      arith,
      whole,
      costs,
      titles,
      rows,
      own-cost s plain,
      certificate-cost s sheet,
      ends,
      sheet.steps,
      sheet.cut,
      sheet.counts,
    )
