-- Cells and records one after another, as a loop writes them.
use Rattle.std.proofs.Common.{◌≡◌, ℕ, ◌+◌, ◌-◌, ◌≤◌, List, [], ◌∷◌, ◌++◌, ◌∙◌, ap, sym, arith}
use Rattle.std.proofs.Common.{add-one, append-nil, append_assoc}
use Rattle.std.specs.List.{flat_map, range_with_len}
use Rattle.std.proofs.lemmas.Grind.{flat_map-append}
use Rattle.std.proofs.lemmas.List.{flat_map_more}
use Rattle.mm_base.proofs.Ranges.{range_with_len_more, range_with_len_next}

-- the numbers below n + 1, as a loop over stores or columns adds the last of them
range_first : (n : ℕ) → range_with_len 0 (n + 1) ≡ range_with_len 0 n ++ n ∷ []
range_first n = ap (range_with_len 0) (add-one n) ∙ range_with_len_more 0 n n (omega arith)

pub flat_map_first : {X : Type 0} (f : ℕ → List X) (n : ℕ)
    → flat_map f (range_with_len 0 (n + 1)) ≡ flat_map f (range_with_len 0 n) ++ f n
flat_map_first f n = ap (flat_map f) (range_first n) ∙ sym (flat_map_more f [] (range_with_len 0 n) n)

-- the same for steps, which count from 1
pub flat_map_next : {X : Type 0} (f : ℕ → List X) (t : ℕ) → 1 ≤ t
    → flat_map f (range_with_len 1 (t + 1 - 1)) ≡ flat_map f (range_with_len 1 (t - 1)) ++ f t
flat_map_next f t first = ap (flat_map f) (range_with_len_next t first)
    ∙ sym (flat_map_more f [] (range_with_len 1 (t - 1)) t)

-- one cell after another
pub ruleset drawing = (append_assoc, append-nil, flat_map-append, flat_map_next, flat_map_first)
