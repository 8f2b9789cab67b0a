use Rattle.mm_flow.proofs.tables.Tables.begin_with.Goals as goal

pub invariant_of-self : goal.invariant_of-self
invariant_of-self c =
    let begun = c.requires.begun in
    record { sound = record { linked = c.args.self.now.residual.sound.linked; arcs = begun.arcs; within = begun.augmented.within } }
