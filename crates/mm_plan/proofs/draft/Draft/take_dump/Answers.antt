use Rattle.std.proofs.Common.{◌≡◌, length, take, refl, arith, length-take}
use Rattle.mm_plan.proofs.Rows.{taken_dump}
use Rattle.mm_plan.proofs.draft.Draft.take_dump.Goals as goal
use Rattle.mm_plan.proofs.draft.Draft.take_dump.Goals.{in-ToDumps, in_default}

pub returns : goal.returns
returns c = elim c.match-matches.branch [
  | in-ToDumps w ↦
      let xs = take c.len-stores.result c.is_dump.new.amounts in
      let size : length xs ≡ c.len-stores.result = omega (arith, length-take c.len-stores.result c.is_dump.new.amounts) in
      rw (← c.self.view_is, c.in_ok-extend_from_slice.ensures.items)
      (taken_dump _ c.args.text.now xs w.in-ToDumps.is c.if-self-ge-MAX_STEPS.false (omega (arith, size, c.len-stores.ensures)) (omega (arith, c.len-stores.ensures)) (c.if-not-is_dump.ensures.most refl) (c.if-not-is_dump.ensures.text refl))
  | in_default w ↦ absurd (cc (w.matches-is, c.if-not-matches.false))
]
