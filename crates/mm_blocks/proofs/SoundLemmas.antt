-- What a sound block's fields are, and that a change of one of them is found.
use Rattle.std.proofs.Common.{◌≡◌, ◌≢◌, ℕ, ◌+◌, Bool, true, false, ◌&&◌, nat_le, ◌==◌, None, refl, sym, ◌∙◌, arith}
use Rattle.std.proofs.lemmas.Bool.{eqb-true, ne_eqb}
use Rattle.mm_packet.specs.declared.block.TheConstants.{BLOCK}
use Rattle.mm_blocks.specs.Block.{check_of, packet_in, is_sound, read_of}
use Rattle.mm_blocks.specs.Laws.{AreOctets, DifferInBurst, ChangesOfRowAreFound, text_of}
use Rattle.mm_blocks.specs.declared.block.Block.{Block}
use Rattle.mm_blocks.proofs.BurstLemmas.{bursts_found}

-- three tests at once
three : (a b d : Bool) → (a && b && d) ≡ true → (a ≡ true) × (b ≡ true) × (d ≡ true)
three true true true h = (refl, refl, refl)
three true true false h = cc
three true false d h = cc
three false b d h = cc

second_fails : (a b d : Bool) → b ≡ false → (a && b && d) ≡ false
second_fails true b d h = rw h
second_fails false b d h = refl

third_fails : (a b d : Bool) → d ≡ false → (a && b && d) ≡ false
third_fails true true d h = h
third_fails true false d h = refl
third_fails false b d h = refl

-- what is sound
record Sound (block : Block) : Type 0 where
  agreed : block.len + block.complement ≡ 65535
  passes : block.check ≡ check_of block.time (packet_in block)

sound_is : (block : Block) → is_sound block ≡ true → Sound block
sound_is block sound =
    let tests = three (nat_le block.len BLOCK) (block.len + block.complement == 0xFFFF) (block.check == check_of block.time (packet_in block)) sound in
    record { agreed = eqb-true _ _ tests.1; passes = eqb-true _ _ tests.2 }

-- a block that is not sound gives nothing
unsound_gives_none : (block : Block) → is_sound block ≡ false → read_of block ≡ None
unsound_gives_none block h = rw h

lengths_differ : (block : Block) → block.len + block.complement ≢ 65535 → read_of block ≡ None
lengths_differ block other =
    unsound_gives_none block (second_fails (nat_le block.len BLOCK) (block.len + block.complement == 0xFFFF) _ (ne_eqb _ _ other))

check_differs : (block : Block) → block.check ≢ check_of block.time (packet_in block) → read_of block ≡ None
check_differs block other =
    unsound_gives_none block (third_fails (nat_le block.len BLOCK) (block.len + block.complement == 0xFFFF) _ (ne_eqb _ _ other))

pub row_changed : (old : Block) → is_sound old ≡ true → ChangesOfRowAreFound old
row_changed old sound =
    let is = sound_is old sound in
    record {
      check = λ new other. check_differs (record old { check = new }) (λ same. other (same ∙ sym is.passes));
      len = λ new other. lengths_differ (record old { len = new }) (λ same. other (omega (arith, is.agreed)));
      complement = λ new other. lengths_differ (record old { complement = new }) (λ same. other (omega (arith, is.agreed)));
    }

pub text_changed : (first : ℕ) (old new : Block) → is_sound old ≡ true → new.check ≡ old.check
    → AreOctets (text_of old) → AreOctets (text_of new) → DifferInBurst first (text_of old) (text_of new) → read_of new ≡ None
unfolding check_of
text_changed first old new sound kept p q burst =
    let is = sound_is old sound in
    check_differs new (λ same. bursts_found first (text_of old) (text_of new) p q burst (sym is.passes ∙ sym kept ∙ same))
