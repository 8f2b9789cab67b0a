use Rattle.mm_memory.proofs.Words.{◌≡◌, length, take, drop, ◌∷◌, ap, true, arith, leads_to, passed}
use Rattle.mm_memory.proofs.RoutingLemmas.{after_first, tally_first, first_leads, none_passed, after_more, tally_more}
use Rattle.mm_memory.proofs.recording.+offer_from_first.Goals as goal

pub returns-then-next-rest-clause-stores : goal.returns-then-next-rest-clause-stores
returns-then-next-rest-clause-stores t c =
    let first = c.in-Some.first.now in
    let rest = c.in-Some.rest.now in
    let leads : leads_to c.args.rows.now first.id ≡ true =
    first_leads c.args.rows.now first rest (rw c.in-Some.ensures.cases.0 at c.requires.first) in
    let none : passed c.args.rows.now rest ≡ length rest = cc in
    after_first c.args.now c.args.rows.now c.args.packet first c.offer_one.new.held rest c.args.stores.now
    c.in-Some.ensures.cases.0 leads none c.offer_one.ensures.store

pub returns-then-next-rest-clause-tally : goal.returns-then-next-rest-clause-tally
returns-then-next-rest-clause-tally t c =
    let first = c.in-Some.first.now in
    let rest = c.in-Some.rest.now in
    let leads : leads_to c.args.rows.now first.id ≡ true =
    first_leads c.args.rows.now first rest (rw c.in-Some.ensures.cases.0 at c.requires.first) in
    let none : passed c.args.rows.now rest ≡ length rest = cc in
    tally_first c.args.now c.args.rows.now c.args.packet first rest c.args.stores.now c.offer_one.result
    c.in-Some.ensures.cases.0 leads none c.offer_one.ensures.tally

pub offer_from_first-requires : goal.offer_from_first-requires
offer_from_first-requires t c =
    let rest = c.in-Some.rest.now in
    let led = c.split_at_mut-passed.result.1.now in
    let after : led ≡ drop (passed c.args.rows.now rest) rest = cc in
    let begins : passed c.args.rows.now led ≡ 0 = rw after (none_passed c.args.rows.now rest) in
    let long : length c.args.stores.now ≡ length (c.in-Some.first.now ∷ rest) = ap length c.in-Some.ensures.cases.0 in (
      omega (arith, long, c.split_at_mut-passed.ensures.back_len),
      (
        omega (arith, long, c.split_at_mut-passed.ensures.back_len, c.requires.few),
        (
          omega (arith, c.split_at_mut-passed.ensures.back_len, c.passed-next.ensures.within, c.if-next-rest.false),
          begins,
        ),
      ),
    )

pub returns-clause-stores : goal.returns-clause-stores
returns-clause-stores t c =
    let rest = c.in-Some.rest.now in
    let before : c.split_at_mut-passed.result.0.now ≡ take (passed c.args.rows.now rest) rest = cc in
    let led : c.split_at_mut-passed.result.1.now ≡ drop (passed c.args.rows.now rest) rest = cc in
    let after = rw (led, c.in_ok-copy.ensures.same) at c.in_ok-more.ensures.stores in
    rw before (after_more c.args.now c.args.rows.now c.args.packet c.in-Some.first.now c.offer_one-one.new.held rest
    c.offer_from_first.new.stores c.args.stores.now c.in-Some.ensures.cases.0 c.requires.first
    c.offer_one-one.ensures.store after)

pub returns-clause-tally : goal.returns-clause-tally
returns-clause-tally t c =
    let rest = c.in-Some.rest.now in
    let led : c.split_at_mut-passed.result.1.now ≡ drop (passed c.args.rows.now rest) rest = cc in
    tally_more c.args.now c.args.rows.now c.args.packet c.in-Some.first.now rest c.args.stores.now
    c.offer_one-one.result c.in_ok-more.more c.in-Some.ensures.cases.0 c.requires.first c.offer_one-one.ensures.tally
    (rw (led, c.in_ok-copy.ensures.same) at c.in_ok-more.ensures.tally)
