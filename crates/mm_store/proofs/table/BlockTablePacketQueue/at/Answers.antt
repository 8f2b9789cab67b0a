use Rattle.std.proofs.Common.{◌≡◌, None, sym, ap, ◌∙◌, arith}
use Rattle.std.specs.Option.{option_copied}
use Rattle.std.proofs.lemmas.List.{get_or_default}
use Rattle.mm_store.specs.Table.{slot}
use Rattle.mm_store.proofs.TableLemmas.{length-packets, packet_at}
use Rattle.mm_store.proofs.table.BlockTablePacketQueue.at.Goals as goal

pub index-number-requires : goal.index-number-requires
index-number-requires c =
    let counted = length-packets _ _ _ c.self.invariant.table in
    omega (arith, counted, rw (← c.self.view_is) at c.requires, c.self.inside.queue.ok.0)

pub index-requires : goal.index-requires
index-requires c =
    let found = packet_at _ _ _ c.args.place _ c.self.invariant.table (rw (← c.self.view_is) at c.requires) c.index-number.ensures in
    omega (arith, found.0, c.self.inside.blocks.ok.0)

pub unwrap-requires : goal.unwrap-requires
unwrap-requires c =
    let found = packet_at _ _ _ c.args.place _ c.self.invariant.table (rw (← c.self.view_is) at c.requires) c.index-number.ensures in
    let here : slot c.self.inside.blocks.items c.index-number.result.now ≡ c.index.result.now =
    get_or_default _ _ None c.index.result.now found.0 ∙ sym c.index.ensures in
    c.as_ref.ensures.variant ∙ rw here at found.1

pub returns : goal.returns
returns c =
    let found = packet_at _ _ _ c.args.place _ c.self.invariant.table (rw (← c.self.view_is) at c.requires) c.index-number.ensures in
    let here : slot c.self.inside.blocks.items c.index-number.result.now ≡ c.index.result.now =
    get_or_default _ _ None c.index.result.now found.0 ∙ sym c.index.ensures in
    rw (← c.self.view_is) (record { at = found.2 ∙ here ∙ sym c.as_ref.ensures.value ∙ ap option_copied c.unwrap.ensures })
