use Rattle.std.proofs.Common.{sym, arith}
use Rattle.mm_st15.proofs.CountLemmas.{are_counted, are_not_counted}
use Rattle.mm_st15.proofs.report.rows_at.Goals as goal

pub returns-then-rest-count-clause-value : goal.returns-then-rest-count-clause-value
returns-then-rest-count-clause-value c =
    sym (are_not_counted c.args.octets.now c.in_ok-id.rest.now c.in_ok-count.count c.in_ok-count.rest.now
    (omega (arith, c.in_ok-id.ensures.len)) c.in_ok-id.ensures.rest (sym c.in_ok-count.ensures.value) c.if-rest-count.true)

pub returns-clause-value : goal.returns-clause-value
returns-clause-value c =
    sym (are_counted c.args.octets.now c.in_ok-id.rest.now c.in_ok-count.count c.in_ok-count.rest.now
    (omega (arith, c.in_ok-id.ensures.len)) c.in_ok-id.ensures.rest (sym c.in_ok-count.ensures.value) c.if-rest-count.false)
