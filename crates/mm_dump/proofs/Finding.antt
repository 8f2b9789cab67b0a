-- The order carried out at a place, among those of all workers.
use Rattle.mm_dump.proofs.Words.{◌≡◌, ◌≢◌, inl, inr, ℕ, zero, suc, ◌<◌, ◌≤◌, ◌==◌, Bool, true, false, eqb, List, []}
use Rattle.mm_dump.proofs.Words.{◌∷◌, ◌++◌, length, get_or, map, filter, All, refl, sym, ap, ◌∙◌, length-append, arith}
use Rattle.mm_dump.proofs.Words.{flat_map, None, eq-eqb, eqb-true, cases_Bool, eqb_tells, append-nil, map-append}
use Rattle.mm_dump.proofs.Words.{nil_from_length, All-filter, filter-append, filter_passes, Entry, calls_on, Course}
use Rattle.mm_dump.proofs.Words.{calls_at, calls_of}

-- where at most one element passes a test, one that does is the only one
pub only : {X : Type 0} (p : X → Bool) (xs : List X) (i : ℕ) (d : X) → i < length xs → p (get_or xs i d) ≡ true
    → length (filter p xs) ≤ 1 → filter p xs ≡ get_or xs i d ∷ []
only p [] i d within passes few = absurd (omega (arith, within))
only p (x ∷ xs) zero d within passes few =
    let one = rw passes at few in
    rw passes (ap (λ ys. x ∷ ys) (nil_from_length (filter p xs) (omega (arith, one))))
only p (x ∷ xs) (suc i) d within passes few =
    let others = only p xs i d (omega (arith, within)) passes in
    elim (cases_Bool (p x)) [
      | inl passes_too ↦
          let two = rw passes_too at few in
          absurd (omega (arith, two, ap length (others (omega (arith, two)))))
      | inr fails ↦ rw fails (others (rw fails at few))
    ]

-- where the elements of lists are no more than one, one list alone has any
pub lone_list : {X : Type 0} (lists : List (List X)) → length (flat_map (λ (xs : List X). xs) lists) ≤ 1
    → (seat : ℕ) × (get_or lists seat [] ≡ flat_map (λ (xs : List X). xs) lists)
    × ((other : ℕ) → other ≢ seat → get_or lists other [] ≡ [])
lone_list [] few = (0, refl, λ other apart. refl)
lone_list {X} ([] ∷ lists) few =
    let one = lone_list lists few in
    (suc one.0, one.1, λ other apart. beside other one.0 apart one.2)
  where
    beside : (other seat : ℕ) → other ≢ suc seat → ((other : ℕ) → other ≢ seat → get_or lists other [] ≡ [])
        → get_or ([] ∷ lists) other [] ≡ []
    beside zero seat apart none = refl
    beside (suc other) seat apart none = none other (λ same. apart (ap suc same))
lone_list {X} ((x ∷ xs) ∷ lists) few =
    let rest : List X = flat_map (λ (ys : List X). ys) lists in
    let none : rest ≡ [] = nil_from_length rest (omega (arith, few, length-append xs rest)) in
    let all = ap (λ (ys : List X). x ∷ ys) (sym (append-nil xs)) ∙ ap (λ (ys : List X). (x ∷ xs) ++ ys) (sym none) in
    (0, all, λ other apart. beside other apart (ap length none))
  where
    all_empty : (lists : List (List X)) (other : ℕ) → length (flat_map (λ (ys : List X). ys) lists) ≡ 0
        → get_or lists other [] ≡ []
    all_empty [] other none = refl
    all_empty (ys ∷ more) zero none =
        nil_from_length ys (omega (arith, none, length-append ys (flat_map (λ (zs : List X). zs) more)))
    all_empty (ys ∷ more) (suc other) none = all_empty more other
        (omega (arith, none, length-append ys (flat_map (λ (zs : List X). zs) more)))

    beside : (other : ℕ) → other ≢ 0 → length (flat_map (λ (ys : List X). ys) lists) ≡ 0
        → get_or ((x ∷ xs) ∷ lists) other [] ≡ []
    beside zero apart none = absurd (apart refl)
    beside (suc other) apart none = all_empty lists other none

-- no order
abbrev pub nobody : Course
nobody = record { order = record { place = 0; amount = 0 }; seat = 0; calls = []; sent = []; unsent = []; why = None }

-- the orders at a place, and the first of them
abbrev pub here : ℕ → List Course → List Course
here p cs = filter (λ (c : Course). c.order.place == p) cs

abbrev pub find : ℕ → List Course → Course
find p cs = get_or (here p cs) 0 nobody

-- where no order is at a place none is found
pub none_found : (p : ℕ) (cs : List Course) → length (here p cs) ≡ 0 → find p cs ≡ nobody
none_found p cs none = ap (λ (ds : List Course). get_or ds 0 nobody) (nil_from_length (here p cs) none)

-- where one is, the calls made there are its own
pub found_calls : (p : ℕ) (cs : List Course) → length (here p cs) ≤ 1 → calls_at p cs ≡ (find p cs).calls
found_calls p cs few = of (here p cs) few
  where
    of : (ds : List Course) → length ds ≤ 1 → flat_map (λ (c : Course). c.calls) ds ≡ (get_or ds 0 nobody).calls
    of [] few = refl
    of (c ∷ []) few = append-nil c.calls
    of (c ∷ d ∷ ds) few = absurd (omega (arith, few))

-- the order found at a place is one of them, at that place
pub is_found : (P : Course → Type 0) (p : ℕ) (cs : List Course) → All P cs → 0 < length (here p cs)
    → ((find p cs).order.place ≡ p) × P (find p cs)
is_found P p cs all some =
    let at : Course → Bool = λ c. c.order.place == p in
    (eqb-true (find p cs).order.place p (filter_passes at cs 0 nobody some), All-filter at P cs all 0 nobody some)

-- an order that is alone at its place is found there
pub found_again : (cs : List Course) → ((p : ℕ) → length (here p cs) ≤ 1)
    → All (λ (c : Course). find c.order.place cs ≡ c) cs
found_again cs few i d within =
    let p : ℕ = (get_or cs i d).order.place in
    ap (λ (ds : List Course). get_or ds 0 nobody)
    (only (λ (c : Course). c.order.place == p) cs i d within (eq-eqb p p refl) (few p))

-- the calls of orders on the store of a place, among all that a worker made
pub calls_on-calls_of : (p : ℕ) (cs : List Course) → calls_on p (calls_of cs) ≡ calls_at p cs
calls_on-calls_of p [] = refl
calls_on-calls_of p (c ∷ cs) =
    let mine : List (ℕ × Entry) = map (λ (e : Entry). (c.order.place, e)) c.calls in
    let passes : ℕ × Entry → Bool = λ call. call.0 == p in
    let both : calls_on p (calls_of (c ∷ cs)) ≡ calls_on p mine ++ calls_at p cs =
    ap (map (λ (call : ℕ × Entry). call.1)) (filter-append passes mine (calls_of cs))
    ∙ map-append (λ (call : ℕ × Entry). call.1) (filter passes mine) (filter passes (calls_of cs))
    ∙ ap (λ (es : List Entry). calls_on p mine ++ es) (calls_on-calls_of p cs) in
    elim (eqb_tells c.order.place p) [
      | inl same ↦ rw same.0 (both ∙ ap (λ (es : List Entry). es ++ calls_at p cs)
          (all_there c.order.place c.calls same.0))
      | inr off ↦ rw off.0 (both ∙ ap (λ (es : List Entry). es ++ calls_at p cs)
          (none_there c.order.place c.calls off.0))
    ]
  where
    -- calls on one store
    all_there : (k : ℕ) (calls : List Entry) → eqb k p ≡ true → calls_on p (map (λ (e : Entry). (k, e)) calls) ≡ calls
    all_there k [] same = refl
    all_there k (e ∷ calls) same = rw same (ap (λ (es : List Entry). e ∷ es) (all_there k calls same))

    none_there : (k : ℕ) (calls : List Entry) → eqb k p ≡ false → calls_on p (map (λ (e : Entry). (k, e)) calls) ≡ []
    none_there k [] off = refl
    none_there k (e ∷ calls) off = rw off (none_there k calls off)
