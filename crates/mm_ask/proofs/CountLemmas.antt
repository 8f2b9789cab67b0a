-- Reports that are counted one by one are all counted.
use Rattle.std.proofs.Common.{◌≡◌, ℕ, ◌+◌, ◌%◌, ◌^◌, ◌==◌, suc, cond, List, [], ◌∷◌, length, refl, sym, ap, ◌∙◌, arith, add-zero}
use Rattle.std.specs.Prelude.{fold}
use Rattle.std.proofs.Math.Nat.{mod-add-mod}
use Rattle.std.proofs.lemmas.List.Sums.{sum_by-cons}
use Rattle.mm_st15.specs.declared.report_kind.ReportKind.{ReportKind}
use Rattle.mm_st15.specs.declared.report_kind.ReportKind.TheVariants.{Control, Summaries, Statuses, Configurations}
use Rattle.mm_st15.specs.ReportKind.{code_of}
use Rattle.mm_packet.specs.declared.header.TheConstants.{SEQUENCE_COUNTS}
use Rattle.mm_ask.specs.Counting.{Counts, counted, counter_of, next_sequence, next_counter, how_many}

-- each report has the next sequence count
next_sequence_of : (c : Counts) (k : ReportKind) → (counted c k).sequence ≡ next_sequence c.sequence
next_sequence_of c Control = refl
next_sequence_of c Summaries = refl
next_sequence_of c Statuses = refl
next_sequence_of c Configurations = refl

-- from n reports on
pub sequence_from : (c : Counts) (n : ℕ) (kinds : List ReportKind) → c.sequence ≡ n % SEQUENCE_COUNTS → (fold counted c kinds).sequence ≡ (n + length kinds) % SEQUENCE_COUNTS
sequence_from c n [] e = e ∙ ap (λ m. m % SEQUENCE_COUNTS) (sym (add-zero n))
sequence_from c n (k ∷ ks) e =
    let moved : n + 1 + length ks ≡ n + suc (length ks) = omega arith in
    let next : (counted c k).sequence ≡ (n + 1) % SEQUENCE_COUNTS = next_sequence_of c k ∙ ap next_sequence e ∙ mod-add-mod n SEQUENCE_COUNTS 1 in
    sequence_from (counted c k) (n + 1) ks next ∙ ap (λ m. m % SEQUENCE_COUNTS) moved

-- a report more is counted for its subtype
counted_one : (a n : ℕ) → a ≡ n % 2 ^ 16 → next_counter a ≡ (n + 1) % 2 ^ 16
counted_one a n e = ap next_counter e ∙ mod-add-mod n (2 ^ 16) 1

-- and for no other
counted_none : (a n : ℕ) → a ≡ n % 2 ^ 16 → a ≡ (n + 0) % 2 ^ 16
counted_none a n e = e ∙ ap (λ m. m % 2 ^ 16) (sym (add-zero n))

counter_step : (c : Counts) (k kind : ReportKind) (n : ℕ) → counter_of c kind ≡ n % 2 ^ 16 → counter_of (counted c k) kind ≡ (n + cond (code_of k == code_of kind) 1 0) % 2 ^ 16
counter_step c Control Control n e = counted_one c.control n e
counter_step c Summaries Summaries n e = counted_one c.summaries n e
counter_step c Statuses Statuses n e = counted_one c.statuses n e
counter_step c Configurations Configurations n e = counted_one c.configurations n e
counter_step c k kind n e = counted_none (counter_of c kind) n e

-- from n reports of a subtype on
pub counter_from : (c : Counts) (kind : ReportKind) (n : ℕ) (kinds : List ReportKind) → counter_of c kind ≡ n % 2 ^ 16 → counter_of (fold counted c kinds) kind ≡ (n + how_many kind kinds) % 2 ^ 16
counter_from c kind n [] e = counted_none (counter_of c kind) n e
counter_from c kind n (k ∷ ks) e =
    let here : ℕ = cond (code_of k == code_of kind) 1 0 in
    let more : how_many kind (k ∷ ks) ≡ here + how_many kind ks = sum_by-cons (λ j. cond (code_of j == code_of kind) 1 0) k ks in
    let moved : n + here + how_many kind ks ≡ n + how_many kind (k ∷ ks) = omega (arith, more) in
    counter_from (counted c k) kind (n + here) ks (counter_step c k kind n e) ∙ ap (λ m. m % 2 ^ 16) moved
