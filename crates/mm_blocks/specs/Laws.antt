-- Laws of the check and of blocks.
use Rattle.std.specs.Prelude.{◌≡◌, ◌≢◌, ℕ, ◌+◌, ◌<◌, ◌≤◌, true, List, ◌++◌, length, slice_index, None}
use Rattle.std.specs.Int.{w64, to_le_bytes, bit_at}
use Rattle.mm_blocks.specs.Check.{number_of, crc32c}
use Rattle.mm_blocks.specs.Block.{packet_in, is_sound, read_of}
use Rattle.mm_blocks.specs.declared.block.Block.{Block}

-- each is an octet
abbrev pub AreOctets : List ℕ → Type 0
AreOctets octets = (i : ℕ) → slice_index octets i < 256

-- two texts of one length that differ in a burst: in no bit before the one at this place and in none from 32 bits after it on.
-- Bits are counted from the first octet's lowest
pub record DifferInBurst (first : ℕ) (a b : List ℕ) : Type 0 where
  pub same_length : length a ≡ length b
  pub before : (i : ℕ) → i < first → bit_at (number_of a) i ≡ bit_at (number_of b) i
  pub after : (i : ℕ) → first + 32 ≤ i → bit_at (number_of a) i ≡ bit_at (number_of b) i
  pub differ : a ≢ b

-- such texts have different checks
abbrev pub BurstsAreFound : Type 0
BurstsAreFound = (first : ℕ) (a b : List ℕ) → AreOctets a → AreOctets b → DifferInBurst first a b → crc32c a ≢ crc32c b

-- the text that a block's check is over
abbrev pub text_of : Block → List ℕ
text_of block = to_le_bytes w64 block.time ++ packet_in block

-- a sound block whose time and packet change in a burst, and nothing else, gives no packet
abbrev pub ChangesOfTextAreFound : Type 0
ChangesOfTextAreFound = (first : ℕ) (old new : Block) → is_sound old ≡ true → new.check ≡ old.check
    → AreOctets (text_of old) → AreOctets (text_of new) → DifferInBurst first (text_of old) (text_of new) → read_of new ≡ None

-- a sound block gives no packet if only its check changes, its length or the length's complement
pub record ChangesOfRowAreFound (old : Block) : Type 0 where
  pub check : (new : ℕ) → new ≢ old.check → read_of (record old { check = new }) ≡ None
  pub len : (new : ℕ) → new ≢ old.len → read_of (record old { len = new }) ≡ None
  pub complement : (new : ℕ) → new ≢ old.complement → read_of (record old { complement = new }) ≡ None
