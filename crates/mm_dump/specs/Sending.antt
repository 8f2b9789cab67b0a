-- What was sent over a link.
use Rattle.std.specs.Prelude.{ℕ, List, [], map}
use Rattle.mm_packet.specs.Packet.{SpacePacket}
use Rattle.mm_store.specs.declared.stored.Stored.{Stored}
use Rattle.mm_dump.specs.declared.memory_link.TakenPacket.{TakenPacket}

-- a packet that was sent: its store, and the packet with its storage time
pub record Sent : Type 0 where
  pub store : List ℕ
  pub stored : Stored

-- a packet of a store, with its storage time
abbrev pub sent_at : List ℕ → ℕ → SpacePacket → Sent
sent_at id time packet = record { store = id; stored = record { time = time; packet = packet } }

-- these packets of a store
abbrev pub all_sent : List ℕ → List Stored → List Sent
all_sent id gave = map (λ stored. record { store = id; stored = stored }) gave

-- a link in memory: what was sent over it, and how many of its sends have failed
pub record MemoryLinkView : Type 0 where
  pub sent : List Sent
  pub failed : ℕ

-- nothing was sent over it, and no send has failed
abbrev pub new_memory_link : MemoryLinkView
new_memory_link = record { sent = []; failed = 0 }

-- a packet that it took
abbrev pub sent_of : TakenPacket → Sent
sent_of t = record { store = t.store; stored = t.stored }
