-- A number that was read is spelled by the octets at the front.
use Rattle.std.proofs.Common.{◌≡◌, ℕ, ◌+◌, ◌<◌, List, ◌++◌, length, get_or, take, drop, inl, inr, sym, arith}
use Rattle.std.proofs.lemmas.Bool.{cases_lt}
use Rattle.std.proofs.lemmas.Grind.{common_steps}
use Rattle.std.proofs.lemmas.List.{get_or-take, length-take, take-append-drop}

-- each of the octets at the front is one octet
front_small : (size : ℕ) (octets : List ℕ) → ((i : ℕ) → get_or octets i 0 < 256) → (i : ℕ) → get_or (take size octets) i 0 < 256
front_small size octets small i = elim (cases_lt i size) [
  | inl less ↦ rw (get_or-take size octets i 0 less) (small i)
  | inr past ↦ grind (arith, common_steps, small i, length-take size octets)
]

-- the octets are those of a number that spells their front, and the rest
pub spelled_front : (size : ℕ) (octets front rest number : List ℕ) → (front ≡ take size octets) × (rest ≡ drop size octets) × (length rest + size ≡ length octets) → ((i : ℕ) → get_or octets i 0 < 256)
    → (length front ≡ size → ((i : ℕ) → get_or front i 0 < 256) → number ≡ front) → octets ≡ number ++ rest
spelled_front size octets front rest number split small spells =
    let long : length front ≡ size = rw split.0 (omega (arith, split.2, length-take size octets)) in
    let same : number ≡ front = spells long (rw split.0 (front_small size octets small)) in
    rw (same, split.0, split.1) (sym (take-append-drop size octets))
