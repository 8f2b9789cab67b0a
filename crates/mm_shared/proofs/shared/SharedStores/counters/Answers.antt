use Rattle.mm_shared.proofs.Words.{rules, ap, ◌∙◌, subst, IsState, counters_of}
use Rattle.mm_shared.proofs.Ending.{told_is}
use Rattle.mm_shared.proofs.shared.SharedStores.counters.Goals as goal

pub returns : goal.returns
returns c =
    let fresh = rw (← c.ports.view_is) at c.requires.fresh in
    let is = told_is c.args.store _ _ c.slot_mut.result.now _ c.take_by_all.ensures.took c.slot_mut.ensures.value
    fresh in record {
      same = search rules;
      counters = rw (← c.ports.view_is) (c.of-counters.ensures.counters ∙ ap counters_of is);
      sound = rw (← c.ports.view_is) (subst IsState is c.of-counters.ensures.sound);
    }
