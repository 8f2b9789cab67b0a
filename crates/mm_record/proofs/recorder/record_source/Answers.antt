use Rattle.mm_record.proofs.Words.{rules, ◌≡◌, Some, refl, ◌∙◌, step_of}
use Rattle.std.specs.Result.{result_err}
use Rattle.mm_record.proofs.SoFar.{so_far_start, so_far_more, offered_partly}
use Rattle.mm_record.proofs.recorder.record_source.Goals as goal

pub loop-init : goal.loop-init
loop-init g c = record {
  routings = c.new-routings.ensures.routings c.args.context.now.control.now c.args.context.now.labels.now;
  so_far = λ last leads. (leads, so_far_start (step_of c.args.context.now) _ c.args.port.now c.requires.fresh);
  end = refl;
}

pub loop-preserved : goal.loop-preserved
loop-preserved g c = record {
  routings = c.offer_packet.ensures.routings;
  so_far = λ last leads.
      let before = c.loop.invariant.so_far last (c.in-Some-next_packet.ensures.back last leads) in
      let gave = c.in-Some-next_packet.ensures.gave last leads in
      (before.0, so_far_more before.1 c.in-Some-next_packet.packet gave _ c.in_ok-offer_packet.ensures.offers);
  end = c.in_ok-offer_packet.ensures.offers.end ∙ c.loop.invariant.end;
}

pub returns-in_err-offer_packet-clause-offered : goal.returns-in_err-offer_packet-clause-offered
returns-in_err-offer_packet-clause-offered g c = λ last leads.
    let before = c.loop.invariant.so_far last (c.in-Some-next_packet.ensures.back last leads) in
    let failed : result_err c.from_residual.result ≡ Some c.in_err-offer_packet.field-0.0 = search rules in
    let gave = c.in-Some-next_packet.ensures.gave last leads in
    let offered = offered_partly before.1 c.in-Some-next_packet.packet gave _ c.in_err-offer_packet.ensures.offers in
    (before.0, rw failed offered)
