-- The packet stores of a mission, in packets.
use Rattle.std.specs.Prelude.{ℕ, zero, ◌+◌, ◌*◌, ◌/◌, min, max, ◌==◌, nat_le, nat_lt, not, Bool, true, List, filter}
use Rattle.std.specs.Prelude.{length}
use Rattle.std.specs.Prelude.{bytes_eq, Option, Some, None, unwrap_or, Result, Ok, Err, if◌then◌else◌, ◌&&◌, []}
use Rattle.std.specs.List.{fold, list_any}
use Rattle.std.specs.Option.{ok_or}
use Rattle.mm_base.specs.declared.limits.TheConstants.{MAX_BLOCKS, MAX_STORES}
use Rattle.mm_base.specs.Reading.{◌>>=◌, test}
use Rattle.mm_mission.specs.declared.limits.TheConstants.{MAX_PACKET, MAX_UNIT}
use Rattle.mm_mission.specs.declared.parts.Store.{Store}
use Rattle.mm_mission_text.specs.declared.store.PacketStore.{PacketStore}
use Rattle.mm_mission_text.specs.declared.whole.Whole.{Whole}
use Rattle.mm_mission_exact.specs.declared.fault.Fault.{Fault}
use Rattle.mm_mission_exact.specs.declared.fault.Fault.TheVariants.{StoreCount, StoreTwice, BadPacket, NoRoom, TooFull}
use Rattle.mm_mission_exact.specs.declared.fault.Fault.TheVariants.{OutOfRange}
use Rattle.mm_mission_exact.specs.declared.fault.Number.TheVariants as number
use Rattle.mm_mission_exact.specs.declared.rows.Rows.{Rows}
use Rattle.mm_mission_exact.specs.Each.{each_in, added}
use Rattle.mm_mission_exact.specs.Rates.{places_down, places_up}

-- ---- the octets of packets

-- a store's own, or the mission's
abbrev pub packet_of : Whole → PacketStore → ℕ
packet_of whole s = unwrap_or s.packet whole.packet

-- whether a store is sent on a channel, or on the link at all
abbrev pub is_on : Option ℕ → PacketStore → Bool
is_on None s = true
is_on (Some c) s = s.channel == c

-- of the longest packet of these stores; 0 where there are none
abbrev pub longest_of : Whole → List PacketStore → ℕ
longest_of whole stores = fold (λ n s. max n (packet_of whole s)) 0 stores

-- of the longest packet that is sent on a channel, or at all
abbrev pub longest : Rows → Option ℕ → ℕ
longest rows channel = longest_of rows.whole.now (filter (is_on channel) rows.stores.now)

-- of the longest packet that is sent on a channel, or at all where the channel has no store
abbrev pub longest_on : Rows → Option ℕ → ℕ
longest_on rows channel = if longest rows channel == 0 then longest rows None else longest rows channel

-- ---- a store

-- the packets that it has room for: a block each
unfoldable pub size_of : Whole → ℕ → PacketStore → Result ℕ Fault
size_of whole row s = do
  size ← ok_or (places_down whole.block s.size) (OutOfRange number.Size row)
  room ← test (nat_le 1 size) (NoRoom row)
  Ok size

-- the packets that it holds as the mission begins
unfoldable pub held_of : ℕ → ℕ → ℕ → PacketStore → Result ℕ Fault
held_of packet size row s = do
  held ← ok_or (places_up packet s.holds) (OutOfRange number.Holds row)
  room ← test (nat_le held size) (TooFull row)
  Ok held

-- the packets that have about so many octets: to the nearest, at least one, and at most as many as there is room for
abbrev pub about : ℕ → ℕ → ℕ → ℕ
about octets packet size = max (min ((2 * octets + packet) / (2 * packet)) size) 1

-- its unit, if it and the size in units are in range
unfoldable pub unit_of : ℕ → ℕ → ℕ → ℕ → Result ℕ Fault
unit_of octets packet size row = do
  unit ← test (nat_le (about octets packet size) MAX_UNIT) (OutOfRange number.Unit row)
  fits ← test (nat_lt size ((MAX_BLOCKS + 1) * about octets packet size)) (OutOfRange number.Size row)
  Ok (about octets packet size)

-- a store in packets, where a unit has about so many octets; the time of its observations is not known yet
unfoldable pub store_in : Whole → ℕ → ℕ → PacketStore → Result Store Fault
store_in whole octets row s = do
  fits ← test (nat_le 1 (packet_of whole s) && nat_le (packet_of whole s) (min whole.block MAX_PACKET)) (BadPacket row)
  size ← size_of whole row s
  held ← held_of (packet_of whole s) size row s
  unit ← unit_of octets (packet_of whole s) size row
  Ok (record {
    id = s.id;
    kind = s.kind;
    packet = packet_of whole s;
    unit = unit;
    micros = 1;
    size = size;
    start = held;
    channel = s.channel;
  })

-- ---- all stores

abbrev pub has_store : List Store → List ℕ → Bool
has_store stores id = list_any (λ s. bytes_eq s.id id) stores

-- a store that follows others, whose identifier none of them has
unfoldable pub next_store : Whole → ℕ → ℕ → List Store → PacketStore → Result Store Fault
next_store whole octets row stores s = do
  once ← test (not (has_store stores s.id)) (StoreTwice row)
  store_in whole octets row s

-- the same, where places count from 0 and rows from 1
abbrev pub and_store : Whole → ℕ → ℕ → List Store → PacketStore → Result (List Store) Fault
and_store whole octets place stores s = added stores (next_store whole octets (place + 1) stores s)

-- the stores, where so many of the longest packets are a unit
unfoldable pub stores_in : Rows → ℕ → Result (List Store) Fault
stores_in rows unit = do
  few ← test (nat_le 1 (length rows.stores.now) && nat_le (length rows.stores.now) MAX_STORES) StoreCount
  each_in (and_store rows.whole.now (unit * longest rows None)) 0 [] rows.stores.now
