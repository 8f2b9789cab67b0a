use Rattle.mm_memory.proofs.Words.{rules, Ok, items_from_collect, YieldsList-from_slice, summary_at}
use Rattle.std.proofs.lemmas.Iterator.Consumers.{YieldsList-from_filter_map}
use Rattle.mm_memory.proofs.ReportLemmas.{length-filter_map}
use Rattle.mm_memory.proofs.memory.Memory.summaries.Goals as goal

pub returns-clause-entries : goal.returns-clause-entries
returns-clause-entries c =
    items_from_collect {E = Unit {0}} (Ok c.in_ok-all.all) c.in_ok-all.ensures.ran
    (YieldsList-from_filter_map _ (summary_at c.args.self.now) (YieldsList-from_slice c.args.targets.now cc)
    c.filter_map.ensures.closure (λ x r q k. search rules))

pub returns-clause-few : goal.returns-clause-few
returns-clause-few c =
    rw (returns-clause-entries c) (length-filter_map (summary_at c.args.self.now) c.args.targets.now)
