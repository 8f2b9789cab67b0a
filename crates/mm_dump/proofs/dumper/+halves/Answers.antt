use Rattle.mm_dump.proofs.Words.{◌≡◌, length, get_or, refl, arith, DumpWorker, IsBack}
use Rattle.mm_dump.proofs.Halves.{both_ready, both_worked, one_worked}
use Rattle.mm_dump.proofs.dumper.+halves.Goals as goal

pub dump_all-returns-then-links-eq1 : goal.dump_all-returns-then-links-eq1
dump_all-returns-then-links-eq1 g t c =
    let one : length c.args.links.now ≡ 1 = omega (arith, c.if-links-eq1.true) in
    let worker : DumpWorker = record c.work-why.new.worker { why = c.work-why.result } in
    let of = c.work-why.ensures.back in
    let back : IsBack c.args.context.now.queue.now worker =
    record { pass = of.pass; part = of.part; bound = of.bound } in
    record {
      worked = one_worked g.L.Link.sent g.L.Link.failed c.args.context.now.queue.now _ _
          (record {
            old_link = get_or c.args.links.now 0 c.index-links-0.result;
            new_link = c.work-why.new.link;
            old_port = get_or c.args.ports.now 0 c.index-ports-0.result;
            new_port = c.work-why.new.port;
            worker = worker;
            courses = c.work-why.ensures.worked.0;
          })
          c.args.links.now c.args.ports.now c.args.workers.now c.work-why.ensures.worked.1 back one
          c.requires.ready.ports_count c.requires.ready.workers_count
          c.index-links-0.result refl c.index-ports-0.result refl;
    }

pub dump_all-dump_halves-requires-clause-ready : goal.dump_all-dump_halves-requires-clause-ready
dump_all-dump_halves-requires-clause-ready g t c κs within =
    both_ready g.L.Link.sent g.L.Link.failed _ _ _ _ _ _ _ c.split_at_mut-low_links.ensures.value
    c.split_at_mut-low_ports.ensures.value
    _ _ _ _ _ _ c.split_at_mut-low_workers.ensures.value c.requires.ready
    (omega (arith, c.split_at_mut-low_links.ensures.front_len, c.split_at_mut-low_ports.ensures.front_len))
    (omega (arith, c.split_at_mut-low_links.ensures.front_len, c.split_at_mut-low_workers.ensures.front_len))
    (omega (arith, c.split_at_mut-low_links.ensures.front_len, c.requires.ready.some, c.if-links-eq1.false))
    (omega (arith, c.split_at_mut-low_links.ensures.back_len, c.requires.ready.some, c.if-links-eq1.false))

pub dump_all-returns : goal.dump_all-returns
dump_all-returns g t c = record {
  worked = both_worked g.L.Link.sent g.L.Link.failed c.args.context.now.queue.now c.args.links.now _ _ c.args.ports.now
      _ _
      c.split_at_mut-low_links.ensures.value c.split_at_mut-low_ports.ensures.value
      _ _ _ _ _ _ _ _ c.dump_halves.ensures.low c.dump_halves.ensures.high;
}
