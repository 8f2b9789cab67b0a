-- The tables of a check are held against the division at each octet, by computing.
use Rattle.std.proofs.Common.{◌≡◌, ℕ, zero, suc, ◌+◌, ◌*◌, ◌<◌, Bool, true, false, ◌&&◌, eqb, [], get_or, refl, arith, inl, inr, eqb-true}
use Rattle.std.proofs.lemmas.Bool.{cases_eq}
use Rattle.mm_blocks.specs.Check.{next_bit, divided}
use Rattle.mm_blocks.specs.declared.check.TheConstants.{TABLES}

-- two functions agree below n
agree_below : (ℕ → ℕ) → (ℕ → ℕ) → ℕ → Bool
agree_below f g zero = true
agree_below f g (suc n) = eqb (f n) (g n) && agree_below f g n

both : (x y : Bool) → (x && y) ≡ true → (x ≡ true) × (y ≡ true)
both true y h = (refl, h)
both false y h = cc

agree_at : (f g : ℕ → ℕ) (n : ℕ) → agree_below f g n ≡ true → (b : ℕ) → b < n → f b ≡ g b
unfolding agree_below
agree_at f g zero h b lt = absurd (omega arith)
agree_at f g (suc n) h b lt =
    let parts = both (eqb (f n) (g n)) (agree_below f g n) h in
    elim (cases_eq b n) [ inl same ↦ rw same (eqb-true (f n) (g n) parts.0) | inr other ↦ agree_at f g n parts.1 b (omega arith) ]

-- the entries of one table
entries : ℕ → ℕ → ℕ
entries more octet = get_or (get_or TABLES more []) octet 0

-- each table, as far as its entries go
are_left : (more : ℕ) → agree_below (entries more) (divided (8 * more + 8)) 256 ≡ true → (octet : ℕ) → octet < 256
    → get_or (get_or TABLES more []) octet 0 ≡ divided (8 * more + 8) octet
unfolding entries
are_left more agree octet lt = agree_at (entries more) (divided (8 * more + 8)) 256 agree octet lt

-- an entry is what its octet leaves
pub entry_is : (more octet : ℕ) → more < 8 → octet < 256
    → get_or (get_or TABLES more []) octet 0 ≡ divided (8 * more + 8) octet
unfolding agree_below entries divided next_bit
entry_is zero octet in_range lt = are_left 0 refl octet lt
entry_is (suc zero) octet in_range lt = are_left 1 refl octet lt
entry_is (suc (suc zero)) octet in_range lt = are_left 2 refl octet lt
entry_is (suc (suc (suc zero))) octet in_range lt = are_left 3 refl octet lt
entry_is (suc (suc (suc (suc zero)))) octet in_range lt = are_left 4 refl octet lt
entry_is (suc (suc (suc (suc (suc zero))))) octet in_range lt = are_left 5 refl octet lt
entry_is (suc (suc (suc (suc (suc (suc zero)))))) octet in_range lt = are_left 6 refl octet lt
entry_is (suc (suc (suc (suc (suc (suc (suc zero))))))) octet in_range lt = are_left 7 refl octet lt
entry_is (suc (suc (suc (suc (suc (suc (suc (suc more)))))))) octet in_range lt = absurd (omega arith)
