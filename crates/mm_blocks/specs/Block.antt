-- A block: what it holds, and when its check passes.
use Rattle.std.specs.Prelude.{ℕ, Bool, ◌+◌, ◌-◌, ◌==◌, ◌&&◌, nat_le, if◌then◌else◌, List, ◌++◌, length, take, drop, Option, Some, None}
use Rattle.std.specs.Int.{w64, to_le_bytes}
use Rattle.mm_packet.specs.declared.block.TheConstants.{BLOCK}
use Rattle.mm_blocks.specs.Check.{crc32c}
use Rattle.mm_blocks.specs.declared.block.Block.{Block}

-- the check of a packet and its time: that of the time's eight octets, the lowest first, and the packet's
unfoldable pub check_of : ℕ → List ℕ → ℕ
check_of time packet = crc32c (to_le_bytes w64 time ++ packet)

-- the octets that a block's length tells
abbrev pub packet_in : Block → List ℕ
packet_in block = take block.len block.octets

-- the length is one of a block's, it stands there once more as its complement, and the check is that of time and packet
abbrev pub is_sound : Block → Bool
is_sound block = nat_le block.len BLOCK && (block.len + block.complement == 0xFFFF)
    && (block.check == check_of block.time (packet_in block))

-- the time and the packet that a block gives, if it is sound
abbrev pub read_of : Block → Option (ℕ × List ℕ)
read_of block = if is_sound block then Some (block.time, packet_in block) else None

-- a block after a packet was written over it: octets after the packet's stay
abbrev pub written : ℕ → List ℕ → Block → Block
written time packet old = record {
  time = time;
  check = check_of time packet;
  len = length packet;
  complement = 0xFFFF - length packet;
  octets = packet ++ drop (length packet) old.octets;
}
