-- Octets that are written one after another into a buffer.
use Rattle.std.proofs.Common.{◌≡◌, ℕ, ◌+◌, List, [], ◌∷◌, ◌++◌, length, refl, subst, ap, ◌∙◌, arith, append_assoc, length-append}
use Rattle.mm_packet.specs.Buffer.{over, Writes}

-- octets, which are those of a list, and then others after them
pub then_more : (at next : ℕ) (octets a b old mid new : List ℕ) → octets ≡ a → next ≡ at + length octets → Writes at octets old mid → Writes next b mid new → Writes at (a ++ b) old new
then_more at next octets a b old mid new same is_next first second = λ head buffer is_at was.
    let long : length (head ++ octets) ≡ next = omega (arith, length-append head octets) in
    let whole : (head ++ octets) ++ b ≡ head ++ (a ++ b) = append_assoc head octets b ∙ ap (λ (xs : List ℕ). head ++ (xs ++ b)) same in
    second (head ++ octets) buffer long (first head buffer is_at was) ∙ ap (λ (xs : List ℕ). over xs buffer) whole

-- what is written from the first place on, which are the octets of a list, stands at the head
pub from_start : (written octets old new : List ℕ) → written ≡ octets → Writes 0 written old new → new ≡ over octets old
from_start written octets old new same writes = writes [] old refl refl ∙ ap (λ (xs : List ℕ). over xs old) same

-- the same octets by another name
pub same_octets : (at : ℕ) (a b old new : List ℕ) → a ≡ b → Writes at a old new → Writes at b old new
same_octets at a b old new same writes = subst (λ (xs : List ℕ). Writes at xs old new) same writes

-- lists of three octets
pub three_same : (x y z a b c : ℕ) → x ≡ a → y ≡ b → z ≡ c → x ∷ y ∷ z ∷ [] ≡ a ∷ b ∷ c ∷ []
three_same x y z a b c is_a is_b is_c = rw (is_a, is_b, is_c) refl
