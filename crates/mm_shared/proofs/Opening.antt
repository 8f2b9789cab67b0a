-- Stores are parted into labels and states, and put together again.
use Rattle.mm_shared.proofs.Words.{◌≡◌, ℕ, suc, ◌<◌, List, [], ◌∷◌, ◌++◌, length, get_or, map, refl, sym, ap, ◌∙◌}
use Rattle.mm_shared.proofs.Words.{arith, get_or-map, length-map, State, held_stores, label_of, labels_of, names_of}
use Rattle.mm_shared.proofs.Words.{states_of, ids_of, Held, blank, opening_at, StoreLabel, map-map}

-- a store under a label
abbrev pub under : StoreLabel → State → Held
under label state = record { id = label.id; channel = label.channel; state = state }

-- one store more
pub one_more : (labels : List StoreLabel) (states : List State) (label : StoreLabel) (state : State)
    → length labels ≡ length states
    → held_stores (labels ++ label ∷ []) (states ++ state ∷ []) ≡ held_stores labels states ++ under label state ∷ []
one_more [] [] label state same = refl
one_more [] (s ∷ states) label state same = absurd (omega (arith, same))
one_more (l ∷ labels) [] label state same = absurd (omega (arith, same))
one_more (l ∷ labels) (s ∷ states) label state same = ap (λ (hs : List Held). under l s ∷ hs)
    (one_more labels states label state (omega (arith, same)))

-- stores that were parted are together again
pub together : (stores : List Held) → held_stores (map label_of stores) (states_of stores) ≡ stores
together [] = refl
together (h ∷ hs) = ap (λ (xs : List Held). h ∷ xs) (together hs)

-- the labels and the states of stores that were put together, and how many there are
pub labels_are : (labels : List StoreLabel) (states : List State) → length labels ≡ length states
    → labels_of (held_stores labels states) ≡ names_of labels
labels_are [] [] same = refl
labels_are [] (s ∷ states) same = refl
labels_are (l ∷ labels) [] same = absurd (omega (arith, same))
labels_are (l ∷ labels) (s ∷ states) same = ap (λ (xs : List (List ℕ × ℕ)). (l.id, l.channel) ∷ xs)
    (labels_are labels states (omega (arith, same)))

pub states_are : (labels : List StoreLabel) (states : List State) → length labels ≡ length states
    → states_of (held_stores labels states) ≡ states
states_are [] [] same = refl
states_are [] (s ∷ states) same = absurd (omega (arith, same))
states_are (l ∷ labels) [] same = refl
states_are (l ∷ labels) (s ∷ states) same = ap (λ (xs : List State). s ∷ xs)
    (states_are labels states (omega (arith, same)))

pub count_is : (labels : List StoreLabel) (states : List State) → length labels ≡ length states
    → length (held_stores labels states) ≡ length labels
count_is labels states same = sym (length-map (held_stores labels states) (λ h. h.state))
    ∙ (ap length (states_are labels states same) ∙ sym same)

-- stores with these labels have these identifiers
pub ids_open : (labels : List StoreLabel) (stores : List Held) → names_of labels ≡ labels_of stores
    → ids_of labels ≡ map (λ h. h.id) stores
ids_open labels stores same = simp map-map at (ap (map (λ (name : List ℕ × ℕ). name.0)) same)

-- stores with the same labels are as many
pub same_many : (a b : List Held) → labels_of a ≡ labels_of b → length a ≡ length b
same_many a b same = simp length-map at (ap length same)

-- the state of the store at an index
pub state_at : (stores : List Held) (k : ℕ) (d : Held) → k < length stores
    → (get_or stores k d).state ≡ opening_at (states_of stores) k
state_at stores k d within = sym (get_or-map (λ (h : Held). h.state) stores k d blank within)

-- stores with these labels, in the states that they were in, are those that were put together
pub unchanged : (labels : List StoreLabel) (before : List State) (stores : List Held) → length before ≡ length labels
    → labels_of stores ≡ names_of labels
    → ((k : ℕ) → k < length labels → opening_at (states_of stores) k ≡ opening_at before k)
    → stores ≡ held_stores labels before
unchanged [] before [] many named same = refl
unchanged [] before (h ∷ hs) many named same = absurd (cc named)
unchanged (l ∷ labels) before [] many named same = absurd (cc named)
unchanged (l ∷ labels) [] (h ∷ hs) many named same = absurd (omega (arith, many))
unchanged (l ∷ labels) (s ∷ before) (h ∷ hs) many named same =
    let name : ◌≡◌ {A = List ℕ × ℕ} (h.id, h.channel) (l.id, l.channel) = cc in
    let others : labels_of hs ≡ names_of labels = cc in
    λ i. record { id = (name i).0; channel = (name i).1; state = same 0 (omega arith) i }
    ∷ unchanged labels before hs (omega (arith, many)) others (λ k within. same (suc k) (omega arith)) i
