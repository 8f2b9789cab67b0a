-- Tables of what counters grow by.
use Rattle.std.proofs.Common.{◌≡◌, ℕ, ◌+◌, ◌-◌, ◌≤◌, Bool, cond, List, [], ◌∷◌, ◌++◌, ap, ◌∙◌, add-one, arith}
use Rattle.std.specs.Prelude.{filter}
use Rattle.std.specs.List.{flat_map, range_with_len}
use Rattle.std.proofs.lemmas.List.{append-nil}
use Rattle.std.proofs.lemmas.List.Concat.{flat_map-append}
use Rattle.std.proofs.lemmas.List.Elements.{filter-append}
use Rattle.mm_base.proofs.Ranges.{range_with_len_more, range_with_len_next}

-- lists joined over the steps from 1, as a loop over steps adds the last of them
pub flat_map_next : {X : Type 0} (make : ℕ → List X) (t : ℕ) → 1 ≤ t
    → flat_map make (range_with_len 1 (t + 1 - 1)) ≡ flat_map make (range_with_len 1 (t - 1)) ++ make t
flat_map_next make t first =
    ap (flat_map make) (range_with_len_next t first) ∙ flat_map-append make (range_with_len 1 (t - 1)) (t ∷ [])
    ∙ ap (λ ys. flat_map make (range_with_len 1 (t - 1)) ++ ys) (append-nil (make t))

-- the numbers below n that pass, as a loop adds the last of them
pub filter_next : (p : ℕ → Bool) (n : ℕ)
    → filter p (range_with_len 0 (n + 1)) ≡ filter p (range_with_len 0 n) ++ cond (p n) (n ∷ []) []
filter_next p n =
    ap (λ k. filter p (range_with_len 0 k)) (add-one n) ∙ ap (filter p) (range_with_len_more 0 n n (omega arith))
    ∙ filter-append p (range_with_len 0 n) (n ∷ [])
