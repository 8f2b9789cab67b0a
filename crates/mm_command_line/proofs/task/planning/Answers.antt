use Rattle.std.proofs.Common.{◌∙◌, inl, inr, refl}
use Rattle.mm_command_line.proofs.Parts.{plan_flags}
use Rattle.mm_command_line.proofs.task.planning.Goals as goal

pub returns-in_err-in_order-clause-none : goal.returns-in_err-in_order-clause-none
returns-in_err-in_order-clause-none c =
    rw c.from_residual.ensures (λ task same flags names.
    elim (plan_flags task _ same refl) [
      | inl own ↦ c.in_err-in_order.ensures.none own.0 (flags ∙ own.1)
      | inr kept ↦
          let named = kept.3 names in
          c.in_default.ensures.none kept.0 kept.1 (flags ∙ kept.2) named.0 named.1
    ])
