-- The division of a check is linear, and octets can pass one by one or many at once.
use Rattle.std.proofs.Common.{◌≡◌, ℕ, zero, suc, ◌+◌, ◌*◌, ◌/◌, ◌%◌, ◌^◌, ◌<◌, List, [], ◌∷◌, ◌++◌, length, get_or}
use Rattle.std.proofs.Common.{refl, sym, ap, ap₂, ◌∙◌, arith, pow-suc, pow-add, shr-shr, mul_assoc, length-append}
use Rattle.std.proofs.lemmas.Nat.{shr_split}
use Rattle.std.specs.Int.{w64, from_le_bytes}
use lib.Bits.{bit_xor, xor_assoc, xor_comm, xor_shr, xor_mod, xor_zero_r, xor_shifted}
use Rattle.mm_blocks.specs.Check.{generator, next_bit, divided, number_of, remainder_from}
use Rattle.mm_blocks.specs.Laws.{AreOctets}

-- the two middle terms of four exchange their places
pub xor_swap : (a b c d : ℕ) → bit_xor (bit_xor a b) (bit_xor c d) ≡ bit_xor (bit_xor a c) (bit_xor b d)
xor_swap a b c d =
    xor_assoc a b (bit_xor c d)
    ∙ ap (bit_xor a) (sym (xor_assoc b c d) ∙ ap (λ (x : ℕ). bit_xor x d) (xor_comm b c) ∙ xor_assoc c b d)
    ∙ sym (xor_assoc a c (bit_xor b d))

-- the generator's multiples by two bits add up
multiples : (a b : ℕ) → a < 2 → b < 2 → bit_xor a b * generator ≡ bit_xor (a * generator) (b * generator)
multiples zero zero p q = refl
multiples zero (suc zero) p q = refl
multiples (suc zero) zero p q = refl
multiples (suc zero) (suc zero) p q = refl
multiples (suc (suc a)) b p q = absurd (omega arith)
multiples zero (suc (suc b)) p q = absurd (omega arith)
multiples (suc zero) (suc (suc b)) p q = absurd (omega arith)

next_bit-xor : (a b : ℕ) → next_bit (bit_xor a b) ≡ bit_xor (next_bit a) (next_bit b)
unfolding next_bit
next_bit-xor a b =
    let half : bit_xor a b / 2 ≡ bit_xor (a / 2) (b / 2) = xor_shr a b 1 in
    let bit : bit_xor a b % 2 ≡ bit_xor (a % 2) (b % 2) = xor_mod a b 1 in
    let two : bit_xor a b % 2 * generator ≡ bit_xor (a % 2 * generator) (b % 2 * generator) =
    ap (λ (x : ℕ). x * generator) bit ∙ multiples (a % 2) (b % 2) (omega arith) (omega arith) in
    ap₂ bit_xor half two ∙ xor_swap (a / 2) (b / 2) (a % 2 * generator) (b % 2 * generator)

-- the division is linear
pub divided-xor : (n a b : ℕ) → divided n (bit_xor a b) ≡ bit_xor (divided n a) (divided n b)
unfolding divided
divided-xor zero a b = refl
divided-xor (suc n) a b = ap (divided n) (next_bit-xor a b) ∙ divided-xor n (next_bit a) (next_bit b)

-- it can go on after some of its bits
pub divided-more : (m n k a : ℕ) → k ≡ m + n → divided k a ≡ divided n (divided m a)
unfolding divided
divided-more zero n k a sum = let same : k ≡ n = omega arith in rw same
divided-more (suc m) n zero a sum = absurd (omega arith)
divided-more (suc m) n (suc k) a sum = divided-more m n k (next_bit a) (omega arith)

next_bit-double : (a : ℕ) → next_bit (a * 2) ≡ a
unfolding next_bit
next_bit-double a =
    let half : a * 2 / 2 ≡ a = omega arith in
    let bit : a * 2 % 2 ≡ 0 = omega arith in
    ap₂ (λ (x y : ℕ). bit_xor x (y * generator)) half bit ∙ xor_zero_r a

-- zeros before a text change nothing
pub divided-shifted : (n a : ℕ) → divided n (a * 2 ^ n) ≡ a
unfolding divided
divided-shifted zero a = omega arith
divided-shifted (suc n) a =
    let double : a * 2 ^ suc n ≡ a * 2 ^ n * 2 = omega (arith, pow-suc 2 n, mul_assoc a (2 ^ n) 2, ap (λ (x : ℕ). a * x) (pow-suc 2 n)) in
    ap (λ (x : ℕ). divided n (next_bit x)) double ∙ ap (divided n) (next_bit-double (a * 2 ^ n)) ∙ divided-shifted n a

-- the first bits pass, and the others are added to what they leave
pub divided-split : (m n k a high low : ℕ) → k ≡ m + n → low < 2 ^ m → a ≡ high * 2 ^ m + low
    → divided k a ≡ bit_xor (divided k low) (divided n high)
divided-split m n k a high low sum small parts =
    let whole : a ≡ bit_xor (high * 2 ^ m) low = parts ∙ sym (xor_shifted high m low small) in
    let passed : divided k (high * 2 ^ m) ≡ divided n high =
    divided-more m n k (high * 2 ^ m) sum ∙ ap (divided n) (divided-shifted m high) in
    ap (divided k) whole ∙ divided-xor k (high * 2 ^ m) low ∙ ap (λ (x : ℕ). bit_xor x (divided k low)) passed
    ∙ xor_comm (divided n high) (divided k low)

-- the number of more octets
number_of-cons : (octet : ℕ) (rest : List ℕ) → number_of (octet ∷ rest) ≡ number_of rest * 256 + octet
unfolding number_of
number_of-cons octet rest = omega arith

pub number_of-below : (octets : List ℕ) → AreOctets octets → number_of octets < 2 ^ (8 * length octets)
unfolding number_of
number_of-below [] small = omega arith
number_of-below (octet ∷ rest) small =
    let more = number_of-below rest (λ i. small (suc i)) in
    let power : 2 ^ (8 * suc (length rest)) ≡ 256 * 2 ^ (8 * length rest) =
    ap (λ (x : ℕ). 2 ^ x) (let s : 8 * suc (length rest) ≡ 8 + 8 * length rest = omega arith in s) ∙ pow-add 2 8 (8 * length rest) in
    omega (arith, more, power, small 0)

pub number_of-append : (a b : List ℕ) → number_of (a ++ b) ≡ number_of b * 2 ^ (8 * length a) + number_of a
unfolding number_of
number_of-append [] b = omega arith
number_of-append (octet ∷ a) b =
    let more = number_of-append a b in
    let power : 2 ^ (8 * suc (length a)) ≡ 2 ^ (8 * length a) * 256 =
    ap (λ (x : ℕ). 2 ^ x) (let s : 8 * suc (length a) ≡ 8 * length a + 8 = omega arith in s) ∙ pow-add 2 (8 * length a) 8 in
    let product : number_of b * 2 ^ (8 * suc (length a)) ≡ number_of b * 2 ^ (8 * length a) * 256 =
    ap (λ (x : ℕ). number_of b * x) power ∙ sym (mul_assoc (number_of b) (2 ^ (8 * length a)) 256) in
    omega (arith, more, product)

-- a text can pass in two parts
pub remainder_from-append : (register : ℕ) (a b : List ℕ) → AreOctets a
    → remainder_from register (a ++ b) ≡ remainder_from (remainder_from register a) b
remainder_from-append register a b small =
    let number : number_of (a ++ b) ≡ bit_xor (number_of a) (number_of b * 2 ^ (8 * length a)) =
    number_of-append a b ∙ sym (xor_shifted (number_of b) (8 * length a) (number_of a) (number_of-below a small))
    ∙ xor_comm (number_of b * 2 ^ (8 * length a)) (number_of a) in
    let bits : 8 * length (a ++ b) ≡ 8 * length a + 8 * length b = omega (arith, length-append a b) in
    let grouped : bit_xor register (number_of (a ++ b))
    ≡ bit_xor (bit_xor register (number_of a)) (number_of b * 2 ^ (8 * length a)) =
    ap (bit_xor register) number ∙ sym (xor_assoc register (number_of a) (number_of b * 2 ^ (8 * length a))) in
    ap (divided (8 * length (a ++ b))) grouped
    ∙ divided-more (8 * length a) (8 * length b) (8 * length (a ++ b)) _ bits
    ∙ ap (divided (8 * length b))
    (divided-xor (8 * length a) (bit_xor register (number_of a)) (number_of b * 2 ^ (8 * length a))
    ∙ ap (bit_xor (remainder_from register a)) (divided-shifted (8 * length a) (number_of b)))

-- an octet of a number passes before those above it
pub octet-passes : (j n bits : ℕ)
    → divided (8 + n) (bits / 2 ^ j) ≡ bit_xor (divided (8 + n) (bits / 2 ^ j % 2 ^ 8)) (divided n (bits / 2 ^ (j + 8)))
octet-passes j n bits =
    let split : bits / 2 ^ j ≡ bits / 2 ^ (j + 8) * 2 ^ 8 + bits / 2 ^ j % 2 ^ 8 =
    sym (ap (λ (x : ℕ). x * 2 ^ 8 + bits / 2 ^ j % 2 ^ 8) (sym (shr-shr bits j 8)) ∙ shr_split (bits / 2 ^ j) 8) in
    divided-split 8 n (8 + n) (bits / 2 ^ j) (bits / 2 ^ (j + 8)) (bits / 2 ^ j % 2 ^ 8) refl (omega arith) split

-- eight octets pass one after the other
pub eight-pass : (bits : ℕ) → divided 64 bits
    ≡ bit_xor (divided 64 (bits % 2 ^ 8)) (bit_xor (divided 56 (bits / 2 ^ 8 % 2 ^ 8))
    (bit_xor (divided 48 (bits / 2 ^ 16 % 2 ^ 8)) (bit_xor (divided 40 (bits / 2 ^ 24 % 2 ^ 8))
    (bit_xor (divided 32 (bits / 2 ^ 32 % 2 ^ 8)) (bit_xor (divided 24 (bits / 2 ^ 40 % 2 ^ 8))
    (bit_xor (divided 16 (bits / 2 ^ 48 % 2 ^ 8)) (divided 8 (bits / 2 ^ 56))))))))
eight-pass bits =
    divided-split 8 56 64 bits (bits / 2 ^ 8) (bits % 2 ^ 8) refl (omega arith) (sym (shr_split bits 8))
    ∙ ap (bit_xor (divided 64 (bits % 2 ^ 8))) (octet-passes 8 48 bits
    ∙ ap (bit_xor (divided 56 (bits / 2 ^ 8 % 2 ^ 8))) (octet-passes 16 40 bits
    ∙ ap (bit_xor (divided 48 (bits / 2 ^ 16 % 2 ^ 8))) (octet-passes 24 32 bits
    ∙ ap (bit_xor (divided 40 (bits / 2 ^ 24 % 2 ^ 8))) (octet-passes 32 24 bits
    ∙ ap (bit_xor (divided 32 (bits / 2 ^ 32 % 2 ^ 8))) (octet-passes 40 16 bits
    ∙ ap (bit_xor (divided 24 (bits / 2 ^ 40 % 2 ^ 8))) (octet-passes 48 8 bits))))))

-- eight octets as a number
pub number_of-eight : (octets : List ℕ) → length octets ≡ 8 → number_of octets ≡ from_le_bytes w64 octets
unfolding number_of
number_of-eight [] long = absurd (omega arith)
number_of-eight (a ∷ []) long = absurd (omega arith)
number_of-eight (a ∷ b ∷ []) long = absurd (omega arith)
number_of-eight (a ∷ b ∷ c ∷ []) long = absurd (omega arith)
number_of-eight (a ∷ b ∷ c ∷ d ∷ []) long = absurd (omega arith)
number_of-eight (a ∷ b ∷ c ∷ d ∷ e ∷ []) long = absurd (omega arith)
number_of-eight (a ∷ b ∷ c ∷ d ∷ e ∷ f ∷ []) long = absurd (omega arith)
number_of-eight (a ∷ b ∷ c ∷ d ∷ e ∷ f ∷ g ∷ []) long = absurd (omega arith)
number_of-eight (a ∷ b ∷ c ∷ d ∷ e ∷ f ∷ g ∷ h ∷ []) long = omega arith
number_of-eight (a ∷ b ∷ c ∷ d ∷ e ∷ f ∷ g ∷ h ∷ i ∷ more) long = absurd (omega arith)

-- eight octets by their number, and more after them
pub after_eight_is : (register number left : ℕ) (octets : List ℕ) → AreOctets octets → length octets ≡ 8
    → number ≡ from_le_bytes w64 octets → left ≡ divided 64 (bit_xor number register)
    → (rest : List ℕ) → remainder_from left rest ≡ remainder_from register (octets ++ rest)
after_eight_is register number left octets small long is passed rest =
    let bits : 8 * length octets ≡ 64 = omega arith in
    let same : left ≡ remainder_from register octets =
    passed ∙ ap (divided 64) (xor_comm number register ∙ ap (bit_xor register) (is ∙ sym (number_of-eight octets long)))
    ∙ ap (λ (n : ℕ). divided n (bit_xor register (number_of octets))) (sym bits) in
    ap (λ (x : ℕ). remainder_from x rest) same ∙ sym (remainder_from-append register octets rest small)

-- an octet, and more after it
pub after_one_is : (register octet : ℕ) → octet < 256 → (rest : List ℕ)
    → remainder_from (bit_xor (divided 8 (bit_xor register octet % 2 ^ 8)) (register / 2 ^ 8)) rest
    ≡ remainder_from register (octet ∷ rest)
unfolding number_of divided
after_one_is register octet small rest =
    let none : octet / 2 ^ 8 ≡ 0 = omega arith in
    let high : bit_xor register octet / 2 ^ 8 ≡ register / 2 ^ 8 =
    xor_shr register octet 8 ∙ ap (bit_xor (register / 2 ^ 8)) none ∙ xor_zero_r (register / 2 ^ 8) in
    let low : bit_xor register octet % 2 ^ 8 < 2 ^ 8 = omega arith in
    let one : number_of (octet ∷ []) ≡ octet = omega arith in
    let passed : divided 8 (bit_xor register octet)
    ≡ bit_xor (divided 8 (bit_xor register octet % 2 ^ 8)) (register / 2 ^ 8) =
    divided-split 8 0 8 (bit_xor register octet) (register / 2 ^ 8) (bit_xor register octet % 2 ^ 8) refl low
    (sym (shr_split (bit_xor register octet) 8) ∙ ap (λ (x : ℕ). x * 2 ^ 8 + bit_xor register octet % 2 ^ 8) high) in
    ap (λ (x : ℕ). remainder_from x rest) (sym passed ∙ ap (λ (x : ℕ). divided 8 (bit_xor register x)) (sym one))
    ∙ sym (remainder_from-append register (octet ∷ []) rest (λ i. one_small i))
  where
    one_small : (i : ℕ) → get_or (octet ∷ []) i 0 < 256
    one_small zero = small
    one_small (suc i) = omega arith

-- nothing more leaves the register as it is
pub remainder_from-nil : (register : ℕ) → remainder_from register [] ≡ register
unfolding number_of divided
remainder_from-nil register = xor_zero_r register
