-- The calls on each store in a list of calls on any.
use Rattle.mm_shared.proofs.Words.{◌≡◌, ◌≢◌, ℕ, ◌==◌, List, [], ◌∷◌, ◌++◌, map, filter, refl, ap, ◌∙◌, eq-eqb, ne_eqb}
use Rattle.mm_shared.proofs.Words.{map-append, append-nil, Entry, calls_on, filter-append}

-- a call is among those of its store, and of no other
pub call_here : (k : ℕ) (calls : List (ℕ × Entry)) (i : ℕ) (e : Entry) → i ≡ k
    → calls_on k (calls ++ (i, e) ∷ []) ≡ calls_on k calls ++ e ∷ []
call_here k calls i e same =
    ap (map (λ c. c.1)) (filter-append (λ c. c.0 == k) calls ((i, e) ∷ []))
    ∙ (map-append (λ c. c.1) (filter (λ c. c.0 == k) calls) (filter (λ c. c.0 == k) ((i, e) ∷ []))
    ∙ rw (eq-eqb i k same) refl)

pub call_there : (k : ℕ) (calls : List (ℕ × Entry)) (i : ℕ) (e : Entry) → i ≢ k
    → calls_on k (calls ++ (i, e) ∷ []) ≡ calls_on k calls
call_there k calls i e other =
    ap (map (λ c. c.1)) (filter-append (λ c. c.0 == k) calls ((i, e) ∷ []))
    ∙ (map-append (λ c. c.1) (filter (λ c. c.0 == k) calls) (filter (λ c. c.0 == k) ((i, e) ∷ []))
    ∙ rw (ne_eqb i k other) (append-nil (calls_on k calls)))
