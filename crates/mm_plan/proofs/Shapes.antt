-- The identifiers of a problem's stores, one by one.
use Rattle.std.proofs.Common.{◌≡◌, ℕ, ◌<◌, true, not, List, [], length, map, get_or, sym, ap, ◌∙◌, arith}
use Rattle.std.proofs.lemmas.List.{same_lists, length-map, get_or-map, get_or_default}
use Rattle.std.specs.Str.{bytes_eq}
use Rattle.std.proofs.lemmas.Bool.{false≢true}
use Rattle.std.proofs.lemmas.Slice.Eq.{bytes_eq-Decides}
use Rattle.mm_problem.specs.Dumping.{Dumping, row, no_row}

-- the identifier at a place
id_at : (q : Dumping) (k : ℕ) (d : List ℕ) → k < length q.rows → get_or (map (λ r. r.id) q.rows) k d ≡ (row q k).id
id_at q k d within = get_or-map (λ r. r.id) q.rows k no_row d within

-- identifiers that agree place by place are the same
pub same_ids : (q : Dumping) (ids : List (List ℕ)) → length ids ≡ length q.rows → ((k : ℕ) → k < length q.rows → get_or ids k [] ≡ (row q k).id) → ids ≡ map (λ r. r.id) q.rows
same_ids q ids size each =
    same_lists ids (map (λ r. r.id) q.rows) (size ∙ sym (length-map q.rows (λ r. r.id)))
    (λ k d within. get_or_default ids k d [] within ∙ each k (omega (arith, size, within)) ∙ sym (id_at q k d (omega (arith, size, within))))

-- an identifier that differs
pub other_id : (q : Dumping) (ids : List (List ℕ)) (k : ℕ) (id : List ℕ) → k < length q.rows → id ≡ get_or ids k id → ids ≡ map (λ r. r.id) q.rows → id ≡ (row q k).id
other_id q ids k id within is same = is ∙ ap (λ l. get_or l k id) same ∙ id_at q k id within

-- texts that compare as different are not one
pub differ : (a b : List ℕ) → true ≡ not (bytes_eq a b) → a ≡ b → ⊥
differ a b other same = false≢true (sym (ap not ((bytes_eq-Decides a b).1 same)) ∙ sym other)
