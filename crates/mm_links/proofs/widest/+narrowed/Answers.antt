use Rattle.std.proofs.Common.{arith, sym, subst, ℕ}
use Rattle.mm_links.specs.Narrowed.{IsNarrowed}
use Rattle.mm_links.proofs.Narrowing.{narrowed_last, narrowed_more}
use Rattle.mm_links.proofs.widest.+narrowed.Goals as goal

pub returns-then-room-set_limit : goal.returns-then-room-set_limit
returns-then-room-set_limit t c =
    let last = narrowed_last c.args.links.now c.args.set c.args.most c.min.result (λ less. omega arith)
    (λ enough. absurd (omega arith)) in
    subst (λ (n : ℕ). IsNarrowed c.args.links.now c.args.set n c.args.most c.min.result)
    (sym c.if-channel-eq-CHANNELS.true) last

pub returns-else-room-set_limit : goal.returns-else-room-set_limit
returns-else-room-set_limit t c =
    let last = narrowed_last c.args.links.now c.args.set c.args.most c.args.most (λ less. absurd (omega arith))
    (λ enough. omega arith) in
    subst (λ (n : ℕ). IsNarrowed c.args.links.now c.args.set n c.args.most c.args.most)
    (sym c.if-channel-eq-CHANNELS.true) last

pub returns-else-channel-eq-CHANNELS : goal.returns-else-channel-eq-CHANNELS
returns-else-channel-eq-CHANNELS t c =
    narrowed_more c.args.links.now c.args.set c.args.channel c.args.most c.narrowed-most.result c.narrowed.result
    (omega arith) c.narrowed-most.ensures c.narrowed.ensures
