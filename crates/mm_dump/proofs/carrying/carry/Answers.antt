use Rattle.mm_dump.proofs.Words.{[], refl, arith, length-append, get_or-map, StoreLabel}
use Rattle.mm_dump.proofs.OneOrder.{broken, whole}
use Rattle.mm_dump.proofs.carrying.carry.Goals as goal

pub returns-in-Err : goal.returns-in-Err
returns-in-Err g c =
    let named = get_or-map (λ (s : StoreLabel). s.id) c.args.context.now.labels.now c.args.order.place
    c.index-context-place.result [] c.requires.named in
    let breaks = c.in-Err.ensures.err in
    let of = breaks.retrieval in
    record {
      few = omega (arith, of.most, of.advance.blocks, length-append breaks.sent breaks.unsent);
      carried = broken _ c.args.order _ named _ _ _ c.begin.ensures.called refl refl refl _ breaks;
    }

pub returns : goal.returns
returns g c =
    let named = get_or-map (λ (s : StoreLabel). s.id) c.args.context.now.labels.now c.args.order.place
    c.index-context-place.result [] c.requires.named in
    let sends = c.in-Ok.ensures.ok in
    record {
      few = omega (arith, sends.retrieval.most, sends.retrieval.advance.blocks, length-append sends.sent []);
      carried = whole _ c.args.order _ named _ _ _ c.begin.ensures.called refl refl refl _ _ sends
          c.delete_sent.ensures.called;
    }
