use Rattle.mm_dump.proofs.Words.{rules, ◌≡◌, ◌∙◌, ◌+◌, [], ◌∷◌, arith, refl, ap, Ok, Err, Next, with_call, PortView}
use Rattle.mm_dump.proofs.Leaving.{abort_ends, refused_ends}
use Rattle.mm_dump.proofs.OneOrder.{called, none_so_far, packet_failed, so_far_broken, so_far_full, so_far_more}
use Rattle.mm_dump.proofs.OneOrder.{so_far_over}
use Rattle.mm_desk.specs.declared.reply.Reply.TheVariants as reply
use Rattle.mm_dump.proofs.carrying.send_all.Goals as goal

pub loop-init : goal.loop-init
loop-init g c = record { of = refl; so_far = none_so_far _ _ }

pub loop-preserved : goal.loop-preserved
loop-preserved g c =
    let call : c.next.new.port ≡ with_call c.loop.port c.args.context.now.place Next (reply.Given (Ok c.in-Ok.next)) =
    search rules in
    record {
      of = ap (λ (p : PortView). p.of) call ∙ c.loop.invariant.of;
      so_far = so_far_more _ _ _ _ _ c.loop.invariant.so_far _ c.in-Some.stored (rw c.in-Some.is at call)
          (search rules) (search rules) refl;
    }

pub returns-in-Err-NoMemory-clause-err : goal.returns-in-Err-NoMemory-clause-err
returns-in-Err-NoMemory-clause-err g c =
    let same : c.next.new.port ≡ c.loop.port = search rules in
    let aborts = rw same at c.abort.ensures.called in
    so_far_broken _ _ _ _ _ c.loop.invariant.so_far _ c.args.amount _ [] _ (omega (arith, c.loop-test.true)) refl
    (abort_ends _ aborts.reply) (called _ _ _ _ _ aborts.call refl refl refl)

pub returns-in-Err : goal.returns-in-Err
returns-in-Err g c =
    let call : c.next.new.port
    ≡ with_call c.loop.port c.args.context.now.place Next (reply.Given (Err c.in-Err.field-0)) = search rules in
    record {
      of = ap (λ (p : PortView). p.of) call ∙ c.loop.invariant.of;
      ok = tt;
      err = so_far_broken _ _ _ _ _ c.loop.invariant.so_far _ c.args.amount _ [] _ (omega (arith, c.loop-test.true))
          refl (refused_ends _ c.in-Err.field-0 _) (called _ _ _ _ _ call refl refl refl);
    }

pub returns-in_default-clause-ok : goal.returns-in_default-clause-ok
returns-in_default-clause-ok g c =
    let call : c.next.new.port ≡ with_call c.loop.port c.args.context.now.place Next (reply.Given (Ok c.in-Ok.next)) =
    search rules in
    so_far_over _ _ _ _ _ c.loop.invariant.so_far _ c.args.amount (omega (arith, c.loop-test.true))
    (rw c.in_default.is at call) refl refl refl

pub returns-then-is_err-clause-err : goal.returns-then-is_err-clause-err
returns-then-is_err-clause-err g c =
    let call : c.next.new.port ≡ with_call c.loop.port c.args.context.now.place Next (reply.Given (Ok c.in-Ok.next)) =
    search rules in
    let sent : g.L.Link.sent c.send.new.self ≡ g.L.Link.sent c.loop.link = search rules in
    let failed : g.L.Link.failed c.send.new.self ≡ g.L.Link.failed c.loop.link + 1 = search rules in
    let aborts = c.abort-then-is_err.ensures.called in
    so_far_broken _ _ _ _ _ c.loop.invariant.so_far _ c.args.amount _ (c.in-Some.stored ∷ []) _
    (omega (arith, c.loop-test.true)) refl (abort_ends _ aborts.reply)
    (packet_failed _ _ _ c.in-Some.stored _ aborts (rw c.in-Some.is at call) sent failed refl)

pub returns-clause-ok : goal.returns-clause-ok
returns-clause-ok g c =
    so_far_full _ _ _ _ _ c.loop.invariant.so_far _ c.args.amount (search rules) c.abort-2.ensures.called refl refl refl
