use Rattle.mm_dump.proofs.Words.{rules, ◌≡◌, ◌+◌, ◌<◌, ◌≤◌, true, [], ◌∷◌, length, refl, ap, ◌∙◌, arith, length-append}
use Rattle.mm_dump.proofs.Words.{None, is_some, view, ids_of, QueueView}
use Rattle.mm_dump.proofs.Working.{worked_start, worked_past, worked_more, worked_stopped}
use Rattle.mm_dump.proofs.dumper.work.Goals as goal

pub loop-init : goal.loop-init
loop-init g c =
    let none = ap (λ (v : QueueView). v.taken) c.requires.hired.first in
    let ids = ids_of c.args.context.now.labels.now in
    record {
      can_next = tt;
      is_finite = tt;
      pass = c.requires.hired.pass;
      part = ap (λ (v : QueueView). v.parts) c.requires.hired.first;
      pushed = refl;
      spent = omega (arith, ap length none, c.requires.hired.spent);
      well = refl;
      worked = ([], worked_start ids c.args.context.now.orders.now _ _ _ none refl refl refl c.requires.hired.spent);
    }

-- 65536 orders of 2^32 blocks are 2^48 blocks
pub carry-broken-requires-clause-blocks : goal.carry-broken-requires-clause-blocks
carry-broken-requires-clause-blocks g c =
    let loop = c.loop.invariant in
    let less : c.loop.worker.spent < 281474976710656 =
    omega (arith, loop.spent, c.take_next-number.ensures.few, loop.pushed, c.requires.hired.few) in
    less

pub returns-then-number-context-clause-worked : goal.returns-then-number-context-clause-worked
returns-then-number-context-clause-worked g c =
    let more = ap (λ (v : QueueView). v.taken) c.take_next-number.ensures.taken in
    let loop = c.loop.invariant.worked in
    (loop.0, worked_past (ids_of c.args.context.now.labels.now) _ _ _ _ _ _ _ more loop.1 c.if-number-context.true)

pub returns-then-number-context-clause-back : goal.returns-then-number-context-clause-back
returns-then-number-context-clause-back g c =
    let loop = c.loop.invariant in
    record {
      pass = search rules;
      part = ap (λ (v : QueueView). v.parts) c.take_next-number.ensures.taken ∙ loop.part;
      bound = omega (arith, loop.spent, c.take_next-number.ensures.few, loop.pushed, c.requires.hired.few);
    }

pub returns-then-is_some-clause-back : goal.returns-then-is_some-clause-back
returns-then-is_some-clause-back g c =
    let loop = c.loop.invariant in
    let few = c.take_next-number.ensures.few in
    record {
      pass = search rules;
      part = ap (λ (v : QueueView). v.parts) c.take_next-number.ensures.taken ∙ loop.part;
      bound = omega (arith, c.carry-broken.ensures.few, loop.spent, few, loop.pushed, c.requires.hired.few);
    }

pub returns-then-is_some-clause-worked : goal.returns-then-is_some-clause-worked
returns-then-is_some-clause-worked g c =
    let more = ap (λ (v : QueueView). v.taken) c.take_next-number.ensures.taken in
    let stopped : is_some c.carry-broken.result ≡ true = search rules in
    let worked = worked_more (ids_of c.args.context.now.labels.now) _ _ _ _ _ _ _ more c.loop.invariant.worked.1 _ _ _
    c.if-number-context.false refl c.carry-broken.ensures.carried in
    (worked.0, worked_stopped (ids_of c.args.context.now.labels.now) _ _ c.carry-broken.result _ _ _ stopped worked.1)

pub loop-preserved : goal.loop-preserved
loop-preserved g c =
    let more = ap (λ (v : QueueView). v.taken) c.take_next-number.ensures.taken in
    let none : c.carry-broken.result ≡ None = search rules in
    let carried = rw none at c.carry-broken.ensures.carried in
    let count = length-append (view c.loop.worker.pass).taken (c.take_next-number.result ∷ []) in
    let spent : c.carry-broken.new.spent ≤ c.loop.worker.spent + 4294967296 = c.carry-broken.ensures.few in
    record {
      can_next = tt;
      is_finite = tt;
      pass = search rules;
      part = ap (λ (v : QueueView). v.parts) c.take_next-number.ensures.taken ∙ c.loop.invariant.part;
      pushed = ap (λ (v : QueueView). v.pushed) c.take_next-number.ensures.taken ∙ c.loop.invariant.pushed;
      spent = omega (arith, spent, c.loop.invariant.spent, ap length more, count);
      well = carried.well ∙ c.loop.invariant.well;
      worked = worked_more (ids_of c.args.context.now.labels.now) _ _ _ _ _ _ _ more c.loop.invariant.worked.1 _ None _
          c.if-number-context.false refl carried;
    }
