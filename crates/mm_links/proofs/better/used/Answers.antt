use Rattle.std.proofs.Common.{arith, refl, subst, sym, List}
use Rattle.mm_links.specs.declared.better.Part.{Part}
use Rattle.mm_links.specs.Used.{AreUsedUntil}
use Rattle.mm_links.proofs.Serving.{none_served, part_served}
use Rattle.mm_links.proofs.better.used.Goals as goal

pub loop-time-preserved-in_ok-push-in-Some : goal.loop-time-preserved-in_ok-push-in-Some
loop-time-preserved-in_ok-push-in-Some c =
    let p : Part = record { pass = c.in-Some.pass; begin = c.loop-time.time; end = c.end_of_use-end.result } in
    subst (λ (parts : List Part). AreUsedUntil c.args.offers.now c.end_of_use-end.result parts)
    (sym (c.in_ok-push-in-Some.ensures.items))
    (part_served c.args.offers.now c.loop-time.time c.loop-time.parts.items p refl c.end_of_use-end.ensures
    c.loop-time.invariant)

pub loop-time-preserved : goal.loop-time-preserved
loop-time-preserved c =
    none_served c.args.offers.now c.loop-time.time c.next_edge-time.result c.loop-time.parts.items
    (omega (arith, c.next_edge-time.ensures.after)) c.next_edge-time.ensures.quiet c.in-None.ensures
    c.loop-time.invariant

pub returns : goal.returns
returns c =
    let used = c.loop-time.invariant in
    record {
      used = record {
        each = used.each;
        apart = used.apart;
        all = λ i time known early there. used.all i time known (omega arith) there;
      };
    }
