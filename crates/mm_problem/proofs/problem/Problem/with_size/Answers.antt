use Rattle.std.proofs.Common.{◌≡◌, ◌<◌, length, get_or, ap, ◌∙◌, arith}
use Rattle.std.proofs.lemmas.List.{length-set, get_or_default}
use Rattle.mm_base.specs.declared.rows.StoreRow.{StoreRow}
use Rattle.mm_problem.specs.Dumping.{no_row}
use Rattle.mm_problem.proofs.RestLaws.{set_stores}
use Rattle.mm_problem.proofs.problem.Problem.with_size.Goals as goal

pub invariant_of-problem : goal.invariant_of-problem
invariant_of-problem c =
    let old = c.problem.invariant in
    let rows = c.problem.inside.rows.items in
    let store = c.args.store in
    let within : store < length rows = rw (← c.in_ok-problem.ensures, ← c.problem.view_is) at c.requires.store in
    let is : c.index-row.result.now ≡ get_or rows store no_row =
    c.index-row.ensures ∙ get_or_default rows store c.index-row.result.now no_row within in
    let same = ap (λ (r : StoreRow). r.id) is in
    let start = ap (λ (r : StoreRow). r.start) is in
    let channel = ap (λ (r : StoreRow). r.channel) is in
    let row = old.stores.each store no_row within in
    record {
      stores = set_stores rows store _ within same (record {
        has_room = c.requires.first;
        size = c.requires.most;
        start = omega (arith, start, row.start);
        channel = omega (arith, channel, row.channel);
      }) old.stores;
      steps = record {
        has_step = old.steps.has_step;
        at_most = old.steps.at_most;
        table = rw length-set old.steps.table;
        each_window = old.steps.each_window;
        each_arrival = old.steps.each_arrival;
      };
      channels = old.channels;
      by_step = old.by_step;
      sizes = rw length-set old.sizes;
    }
