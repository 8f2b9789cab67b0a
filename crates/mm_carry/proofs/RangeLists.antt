-- Lists that the numbers of a range make.
use Rattle.mm_carry.proofs.Words.{flat_map-map, range_with_len, flat_map, All-range_with_len, ◌≡◌, ℕ, ◌+◌, ◌<◌, ◌≤◌}
use Rattle.mm_carry.proofs.Words.{List, map, sym, ap, ◌∙◌, map_same}

-- lists that a range gives are equal where each element is
pub map_range_same : {X : Type 0} (f g : ℕ → X) (a n : ℕ) → ((s : ℕ) → a ≤ s → s < a + n → f s ≡ g s)
    → map f (range_with_len a n) ≡ map g (range_with_len a n)
map_range_same f g a n same = map_same f g (range_with_len a n) (All-range_with_len (λ s. f s ≡ g s) a n same)

-- pieces over a range are equal where each is
pub flat_map_range_same : {X : Type 0} (f g : ℕ → List X) (a n : ℕ) → ((t : ℕ) → a ≤ t → t < a + n → f t ≡ g t)
    → flat_map f (range_with_len a n) ≡ flat_map g (range_with_len a n)
flat_map_range_same f g a n same =
    let range = range_with_len a n in
    sym (flat_map-map (λ xs. xs) f range) ∙ ap (flat_map (λ xs. xs)) (map_range_same f g a n same)
    ∙ flat_map-map (λ xs. xs) g range
