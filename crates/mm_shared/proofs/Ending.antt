-- A store on which no call was made is as it was, and one view at most holds the state of a store.
use Rattle.mm_shared.proofs.Words.{◌≡◌, ◌≢◌, ℕ, List, [], ◌∷◌, length, map, refl, sym, ap, ◌∙◌, arith, Option, Some}
use Rattle.mm_shared.proofs.Words.{None, eq-eqb, ne_eqb, get_or_past, Entry, State, lone_log, calls_on, held_by}
use Rattle.mm_shared.proofs.Words.{HasLegalLog, replay, opening_at, All-map, dite, ℕ_discrete, Seated, IsTakenByAll}
use Rattle.mm_shared.proofs.Words.{All}

-- a log of no calls leaves the state as it was
pub untouched : (lists : List (List Entry)) (s t : State) → HasLegalLog lists s t
    → All (λ (list : List Entry). list ≡ []) lists → t ≡ s
untouched lists s t legal empty =
    legal.run.leaves
    ∙ ap (replay s)
    (lone_log lists legal.log (length lists) legal.shuffle (λ other within apart. empty other [] within)
    ∙ get_or_past lists (length lists) [] (omega arith))

-- the state taken with all seats is the one from which calls count, if no call was made
pub told_is : (k : ℕ) (m n : Seated) (now : State) (others : List (ℕ × State)) → IsTakenByAll k m n
    → n.1 ≡ (k, now) ∷ others → All (λ (calls : List (ℕ × Entry)). calls ≡ []) m.0.lists → now ≡ opening_at m.0.states k
told_is k m n now others took has fresh =
    let same : (k, now) ∷ others ≡ (k, took.now) ∷ [] = sym has ∙ ap (λ (it : Seated). it.1) took.holds in
    let first : (k, now) ≡ (k, took.now) = cc same in
    ap (λ (held : ℕ × State). held.1) first
    ∙ untouched (map (calls_on k) m.0.lists) (opening_at m.0.states k) took.now took.legal
    (All-map (λ (list : List Entry). list ≡ []) (calls_on k) m.0.lists
    (λ i d within. ap (calls_on k) (fresh i d within)))

-- the view of the seat that has the state holds it, and no other view does
pub held_yes : (owner : ℕ → ℕ) (seat : ℕ) (now : State) (port : ℕ) → owner seat ≡ port
    → held_by owner (Some seat) now port ≡ Some now
held_yes owner seat now port is = rw (eq-eqb (owner seat) port is) refl

pub held_no : (owner : ℕ → ℕ) (seat : ℕ) (now : State) (port : ℕ) → owner seat ≢ port
    → held_by owner (Some seat) now port ≡ None
held_no owner seat now port isnt = rw (ne_eqb (owner seat) port isnt) refl

-- if a view holds the state, it is that of the rule, and no other view holds it
pub is_holder : (owner : ℕ → ℕ) (holder : Option ℕ) (now taken : State) (id : ℕ)
    → held_by owner holder now id ≡ Some taken
    → (now ≡ taken) × ((port : ℕ) → port ≢ id → held_by owner holder now port ≡ None)
is_holder owner None now taken id held = absurd (cc held)
is_holder owner (Some seat) now taken id held =
    dite (ℕ_discrete (owner seat) id)
    (λ is. (
      cc (held, held_yes owner seat now id is),
      λ port apart. held_no owner seat now port (λ mine. apart (sym mine ∙ is)),
    ))
    (λ isnt. absurd (cc (held, held_no owner seat now id isnt)))
