use Rattle.std.proofs.Common.{◌<◌, ◌≤◌, ◌^◌, length, arith}
use Rattle.std.proofs.lemmas.Bool.Decides.{nat_tests}
use Rattle.mm_store.specs.Content.{Store, IsStore}
use Rattle.mm_store.specs.Queue.{store_over}
use Rattle.mm_store.specs.declared.stored.Stored.{Stored}
use Rattle.mm_store.proofs.PutLemmas.{IsStore-appended, IsStore-replaced}
use Rattle.mm_store.proofs.queue_store.QueueStorePacketStore.put.Given.{Over}
use Rattle.mm_store.proofs.queue_store.QueueStorePacketStore.put.Goals as goal

-- the store that took the newest packet
appended : (g : Over) (c : goal.After-append g) → IsStore (store_over g.Q.PacketQueue.kind (g.Q.PacketQueue.held c.append.new.self) c.max-time.result)
appended g c =
    let before : Store = store_over g.Q.PacketQueue.kind (g.Q.PacketQueue.held c.self.inside.queue) c.self.inside.last in
    let newest : Stored = record { time = c.max-time.result; packet = c.args.packet } in
    let later : c.self.inside.last < c.max-time.result = grind (arith, nat_tests, c.max-time.ensures) in
    let fits : c.max-time.result < 2 ^ 64 = grind (arith, nat_tests, c.max-time.ensures, c.ranges.now, c.if-self.false, c.self.invariant.last_fits) in
    let room : length before.content < before.size = grind (arith, nat_tests, c.if-has_room.true, c.len.ensures.len, c.capacity.ensures.capacity) in
    rw c.append.ensures.appended (IsStore-appended before newest c.self.invariant later fits room)

-- the store whose oldest packet gave way
replaced : (g : Over) (c : goal.After-replace_oldest-oldest g) → IsStore (store_over g.Q.PacketQueue.kind (g.Q.PacketQueue.held c.replace_oldest-oldest.new.self) c.max-time.result)
replaced g c =
    let before : Store = store_over g.Q.PacketQueue.kind (g.Q.PacketQueue.held c.self.inside.queue) c.self.inside.last in
    let newest : Stored = record { time = c.max-time.result; packet = c.args.packet } in
    let later : c.self.inside.last < c.max-time.result = grind (arith, nat_tests, c.max-time.ensures) in
    let fits : c.max-time.result < 2 ^ 64 = grind (arith, nat_tests, c.max-time.ensures, c.ranges.now, c.if-self.false, c.self.invariant.last_fits) in
    let full : before.size ≤ length before.content = grind (arith, nat_tests, c.if-has_room.false, c.len.ensures.len, c.capacity.ensures.capacity) in
    rw c.replace_oldest-oldest.ensures.capacity (IsStore-replaced before newest c.self.invariant later fits _ _ full c.replace_oldest-oldest.ensures.replaced)

pub invariant_of-self-2 : goal.invariant_of-self-2
invariant_of-self-2 g c = replaced g c

pub returns-clause-sound : goal.returns-clause-sound
returns-clause-sound g c = replaced g c

pub invariant_of-self : goal.invariant_of-self
invariant_of-self g c = appended g c

pub returns-then-has_room-clause-sound : goal.returns-then-has_room-clause-sound
returns-then-has_room-clause-sound g c = appended g c
