use Rattle.std.proofs.Common.{arith}
use Rattle.std.specs.Int.{w64, to_be_bytes}
use Rattle.std.proofs.lemmas.Nat.{be_bytes_8}
use Rattle.mm_packet.proofs.NumberLemmas.{spelled_front}
use Rattle.mm_packet.proofs.number.u64_at.Goals as goal

pub returns-clause-spelled : goal.returns-clause-spelled
returns-clause-spelled c =
    let number = c.from_be_bytes.result in
    let front = c.in_ok-front.front.now in
    spelled_front 8 c.args.octets.now front c.in_ok-front.rest.now (to_be_bytes w64 number) c.in_ok-front.ensures.cases (λ i. omega (arith, c.type_inv.octets i))
    (λ long small. be_bytes_8 front number long small c.from_be_bytes.ensures)
