-- Rows of amounts, read where they stand.
use Rattle.std.proofs.Common.{◌≡◌, ℕ, ◌+◌, ◌<◌, ◌≤◌, true, false, ◌&&◌, ◌==◌, List, [], ◌∷◌, ◌++◌, length, map, Some}
use Rattle.std.proofs.Common.{refl, sym, ap, ◌∙◌, arith, append_assoc, append-nil}
use Rattle.std.specs.Prelude.{All, codes, decimal}
use Rattle.std.proofs.lemmas.Bool.Decides.{nat_tests}
use Rattle.std.proofs.lemmas.List.{map-append}
use Rattle.mm_base.specs.declared.limits.TheConstants.{MAX_STORES, MAX_STEPS, MAX_BLOCKS}
use Rattle.mm_plan.specs.declared.draft.Stage.TheVariants.{ToDumps}
use Rattle.mm_plan.specs.Printing.{spaced}
use Rattle.mm_plan.specs.Sheet.{Line, dump_line, line_text}
use Rattle.mm_plan.specs.Reading.{DraftRows, may_follow, after, IsRead, IsTaken, IsRefused}
use Rattle.mm_plan.proofs.Prints.{join-spaced}
use Rattle.mm_plan.proofs.Lines.{same_line}

-- words after words
spaced-append : (xs ys : List (List ℕ)) → spaced (xs ++ ys) ≡ spaced xs ++ spaced ys
spaced-append [] ys = refl
spaced-append (x ∷ xs) ys =
    ap (λ rest. 32 ∷ x ++ rest) (spaced-append xs ys) ∙ sym (append_assoc (32 ∷ x) (spaced xs) (spaced ys))

-- one amount more
pub amount_more : (text rest after : List ℕ) (n : ℕ) (old new : List ℕ) → text ≡ spaced (map decimal old) ++ rest
    → rest ≡ 32 ∷ decimal n ++ after → new ≡ old ++ n ∷ []
    → text ≡ spaced (map decimal new) ++ after
amount_more text rest after n old new so_far here more =
    let words = spaced (map decimal old) in
    let one = ap (λ r. words ++ r) (sym (append-nil (32 ∷ decimal n))) in
    let all = one
    ∙ sym (spaced-append (map decimal old) (decimal n ∷ []))
    ∙ ap spaced (sym (map-append decimal old (n ∷ []))) in
    so_far
    ∙ ap (λ r. words ++ r) here
    ∙ sym (append_assoc words (32 ∷ decimal n) after)
    ∙ ap (λ ws. ws ++ after) (all ∙ ap (λ xs. spaced (map decimal xs)) (sym more))

-- the octets of a dump line
pub dump_text : (t : ℕ) (xs : List ℕ)
    → line_text (dump_line t xs) ≡ codes "dump" ++ (32 ∷ decimal t ++ spaced (map decimal xs))
unfolding line_text
dump_text t xs = join-spaced (codes "dump") (decimal t ∷ map decimal xs)

-- the next step's line may follow
next_may_follow : (d : DraftRows) (xs : List ℕ) → d.stage ≡ ToDumps → length xs ≡ length d.rows.stores
    → may_follow d.stage d.form d.rows (dump_line (d.rows.plan.steps + 1) xs) ≡ true
next_may_follow d xs stage size =
    let next = d.rows.plan.steps + 1 in
    let here : ((next == next) && (length xs == length d.rows.stores)) ≡ true = grind (arith, nat_tests) in
    ap (λ s. may_follow s d.form d.rows (dump_line (d.rows.plan.steps + 1) xs)) stage ∙ here

-- the next step's line is taken
pub taken_dump : (d : DraftRows) (text xs : List ℕ) → d.stage ≡ ToDumps → d.rows.plan.steps < MAX_STEPS
    → length xs ≡ length d.rows.stores
    → length d.rows.stores ≤ MAX_STORES → All (λ n. n ≤ MAX_BLOCKS) xs
    → text ≡ line_text (dump_line (d.rows.plan.steps + 1) xs)
    → IsTaken d text (after d (dump_line (d.rows.plan.steps + 1) xs))
taken_dump d text xs stage steps size few each is = record {
  line = dump_line (d.rows.plan.steps + 1) xs;
  is = (omega arith, omega (arith, size, few), each);
  text_is = is;
  follows = next_may_follow d xs stage size;
  added = refl;
}

-- the text of a line that may not come next is refused
pub refused_line : (d : DraftRows) (text : List ℕ) (x : Line) → IsRead text (Some x)
    → may_follow d.stage d.form d.rows x ≡ false → IsRefused d text
refused_line d text x read stops = λ y h is.
    ap (may_follow d.stage d.form d.rows) (same_line y x h read.0 (sym is ∙ read.1)) ∙ stops
