use Rattle.std.proofs.Common.{◌∙◌, ◌<◌, ◌∷◌, ◌++◌, [], ap₂, sym, subst, arith, length}
use Rattle.std.specs.Prelude.{All}
use Rattle.std.proofs.lemmas.List.{take_more}
use Rattle.std.proofs.lemmas.List.Elements.{All-nil, All-cons, All-append}
use Rattle.mm_problem.specs.Dumping.{no_row}
use Rattle.mm_problem.specs.Setup.{HasId}
use Rattle.mm_mission_plan.proofs.texts.rows_of.Goals as goal

pub stores-preserved : goal.stores-preserved
stores-preserved c =
    let q = c.args.problem.now in
    let below : c.stores.store < length q.rows = omega (arith, c.stores-store-end.ensures.stores) in
    let this = All-cons HasId c.row_of.result [] c.row_of.ensures.id (All-nil HasId) in
    record {
      rows = c.in_ok-push.ensures.items
          ∙ ap₂ (λ xs x. xs ++ x ∷ []) c.stores.invariant.rows c.row_of.ensures.row
          ∙ sym (take_more q.rows c.stores.store no_row below);
      ids = subst (All HasId) (sym c.in_ok-push.ensures.items)
          (All-append HasId c.stores.rows.items (c.row_of.result ∷ []) c.stores.invariant.ids this);
    }
