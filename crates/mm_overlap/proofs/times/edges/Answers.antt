use Rattle.std.proofs.Common.{◌≡◌, eqb, arith, refl, length, vec_len, rules}
use Rattle.std.proofs.lemmas.List.Filters.{dedup_is}
use Rattle.mm_overlap.specs.Edges.{AreEdgesOf}
use Rattle.mm_overlap.proofs.Edged.{are_edges_of}
use Rattle.mm_overlap.proofs.times.edges.Goals as goal

pub returns-then-len-clause-edges : goal.returns-then-len-clause-edges
returns-then-len-clause-edges c =
    are_edges_of c.requires.transmitters.0 c.args.missions.now c.sort_unstable.new.self.items
    c.dedup.new.self.items c.requires.transmitters.1
    c.in_ok-times.ensures.missions
    (rw c.in_ok-times.ensures.moments at c.sort_unstable.ensures.permutation) c.sort_unstable.ensures.sorted
    (dedup_is eqb c.sort_unstable.new.self.items c.dedup.new.self.items c.dedup.ensures.filtered)

pub returns-else-len-clause-many : goal.returns-else-len-clause-many
returns-else-len-clause-many c =
    let edges = are_edges_of c.requires.transmitters.0 c.args.missions.now c.sort_unstable.new.self.items
    c.dedup.new.self.items c.requires.transmitters.1
    c.in_ok-times.ensures.missions
    (rw c.in_ok-times.ensures.moments at c.sort_unstable.ensures.permutation) c.sort_unstable.ensures.sorted
    (dedup_is eqb c.sort_unstable.new.self.items c.dedup.new.self.items c.dedup.ensures.filtered) in
    let as_long : vec_len c.dedup.new.self ≡ length c.dedup.new.self.items = search rules in
    λ _. (refl, (c.dedup.new.self.items, edges, omega (arith, as_long, c.len.ensures)))
