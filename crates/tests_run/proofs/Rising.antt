-- Orders whose places rise.
use Rattle.std.proofs.Common.{◌≡◌, ◌≢◌, ℕ, zero, suc, ◌+◌, ◌<◌, List, [], ◌∷◌, ◌++◌, All, AllPairs, arith}
use Rattle.std.proofs.lemmas.List.Elements.{All-push, All-weaker}
use Rattle.mm_base.proofs.Pairs.{AllPairs-append}
use Rattle.mm_dump.specs.declared.order.Order.{Order}

-- the order of a place after those of the places before it
pub apart_more : (os : List Order) (o : Order) → All (λ (b : Order). b.place < o.place) os
    → AllPairs (λ (a b : Order). a.place ≢ b.place) os
    → AllPairs (λ (a b : Order). a.place ≢ b.place) (os ++ o ∷ [])
apart_more os o below apart =
    AllPairs-append (λ (a b : Order). a.place ≢ b.place) os (o ∷ []) apart
    (λ i j d less within. absurd (omega (arith, less, within)))
    (All-weaker (λ (b : Order). b.place < o.place) (λ (b : Order). All (λ (c : Order). b.place ≢ c.place) (o ∷ []))
    (λ b less. one b less) os below)
  where
    one : (b : Order) → b.place < o.place → All (λ (c : Order). b.place ≢ c.place) (o ∷ [])
    one b less zero d within = λ same. omega (arith, less, same)
    one b less (suc i) d within = absurd (omega (arith, within))

-- places below one are below the next
pub below_more : (os : List Order) (o : Order) (place : ℕ) → o.place ≡ place → All (λ (b : Order). b.place < place) os
    → All (λ (b : Order). b.place < place + 1) (os ++ o ∷ [])
below_more os o place same below =
    All-push (λ (b : Order). b.place < place + 1) os o
    (All-weaker (λ (b : Order). b.place < place) (λ (b : Order). b.place < place + 1)
    (λ b less. omega arith) os below) (omega arith)

-- the same with no order more
pub below_next : (os : List Order) (place : ℕ) → All (λ (b : Order). b.place < place) os
    → All (λ (b : Order). b.place < place + 1) os
below_next os place below = All-weaker (λ (b : Order). b.place < place) (λ (b : Order). b.place < place + 1)
    (λ b less. omega arith) os below
