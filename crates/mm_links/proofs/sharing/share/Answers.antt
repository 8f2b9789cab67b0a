use Rattle.std.proofs.Common.{subst, sym, List, ℕ}
use Rattle.mm_links.specs.Shared.{IsShared}
use Rattle.mm_links.proofs.Shares.{flow_shares, rooms_have_room, no_unlimited_path}
use Rattle.mm_links.proofs.sharing.share.Goals as goal

pub returns-in-Ok : goal.returns-in-Ok
returns-in-Ok c =
    let links = c.args.links.now in
    let x = c.args.amounts.now in
    record {
      shared = subst (λ (y : List ℕ). IsShared links x y) (sym c.truncate.ensures.items)
          (flow_shares links x c.in_ok-network.network.graph c.in-Ok.solved c.in_ok-network.ensures
          (rooms_have_room links x c.requires.kept) c.in-Ok.ensures.solved);
    }

pub unreachable-requires : goal.unreachable-requires
unreachable-requires c =
    no_unlimited_path c.args.links.now c.args.amounts.now c.in_ok-network.network.graph c.in_ok-network.ensures
    (c.solve.ensures.refused.unbounded (cc)).1
