use Rattle.mm_dump.proofs.Words.{rules, ℕ, List, [], All, refl, sym, ap, subst, ◌∙◌, arith, All-push, DumpWorker}
use Rattle.mm_dump.proofs.Words.{QueueView, queue_view, IsHired}
use Rattle.mm_dump.proofs.Moves.{forks}
use Rattle.mm_dump.proofs.buffers.hire.Goals as goal

pub another-requires-clause-rule : goal.another-requires-clause-rule
another-requires-clause-rule g c = forks _ _ (omega (arith, c.loop.invariant.parts, c.requires.may.most))

pub loop-preserved : goal.loop-preserved
loop-preserved g c =
    let left = c.another.ensures.rule.0 in
    let right = c.another.ensures.rule.1 in
    let pushed = ap (λ (v : QueueView). v.pushed) right in
    record {
      of = search rules;
      parts = omega (arith, ap (λ (v : QueueView). v.parts) left, c.loop.invariant.parts, c.requires.may.most);
      few = omega (arith, ap (λ (v : QueueView). v.pushed) left, c.loop.invariant.few);
      none = ap (λ (v : QueueView). v.taken) left ∙ c.loop.invariant.none;
      many = search rules;
      room = search rules;
      hired = subst (λ (ws : List DumpWorker). All (IsHired c.args.queue.now) ws) (sym c.push_reserved.ensures.items)
          (All-push (IsHired c.args.queue.now) c.loop.workers.items _ c.loop.invariant.hired
          (record {
            pass = c.another.ensures.queue.1;
            first = right ∙ ap (λ (n : ℕ). queue_view 1 n []) (sym pushed);
            few = omega (arith, pushed, c.loop.invariant.few);
            spent = refl;
          }));
    }
