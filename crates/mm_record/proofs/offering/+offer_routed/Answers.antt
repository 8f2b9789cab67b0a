use Rattle.mm_record.proofs.Words.{rules, ◌≡◌, Err, ap, ◌∷◌, ◌∙◌, arith, common_steps, nil_from_length, step_of}
use Rattle.mm_record.proofs.Adding.{row_after, row_ends}
use Rattle.mm_record.proofs.offering.+offer_routed.Goals as goal

pub returns-in_err-offer_copy : goal.returns-in_err-offer_copy
returns-in_err-offer_copy g t c =
    let fault = c.in_err-offer_copy.field-0.0 in
    let failed : c.from_residual.result ≡ Err fault = search rules in
    let ends = row_ends (step_of c.args.context.now) c.args.packet c.in-Some.row.now _ fault
    c.in_err-offer_copy.ensures.offers in
    record { offers = rw (failed, c.in-Some.ensures.cases.0) ends }

pub returns-then-not-is_empty : goal.returns-then-not-is_empty
returns-then-not-is_empty g t c = record {
  offers = rw c.in-Some.ensures.cases.0 (row_after (step_of c.args.context.now) c.args.packet c.in-Some.row.now _
      c.offer_routed.result c.in_ok-offer_copy.ensures.offers c.offer_routed.ensures.offers);
}

pub returns-in-None : goal.returns-in-None
returns-in-None g t c =
    let rows = c.in-Some.ensures.cases.0 ∙ ap (λ rows. c.in-Some.row.now ∷ rows)
    (nil_from_length c.in-Some.others.now (search rules)) in
    let none = c.in-None.ensures.none in
    rw rows (grind (arith, common_steps))
