use Rattle.std.proofs.Common.{◌≡◌, ℕ, ◌+◌, ◌<◌, List, [], ◌∷◌, ◌++◌, map, take, get_or, length, refl, sym, subst}
use Rattle.std.proofs.Common.{arith}
use Rattle.std.specs.Prelude.{All}
use Rattle.std.proofs.lemmas.List.{take_more, map-append}
use Rattle.std.proofs.lemmas.List.Elements.{All-push}
use Rattle.mm_base.specs.declared.rows.StoreRow.{StoreRow}
use Rattle.mm_base.specs.Id.{IsIdField}
use Rattle.mm_problem.specs.Dumping.{no_row}
use Rattle.mm_planner.proofs.sheets.store_ids.Goals as goal

-- one more of a mapped list
mapped_more : {A X : Type 0} (f : A → X) (rows : List A) (k : ℕ) (d : A) (xs more : List X) (x : X) → k < length rows
    → xs ≡ map f (take k rows) → x ≡ f (get_or rows k d) → more ≡ xs ++ x ∷ [] → more ≡ map f (take (k + 1) rows)
mapped_more f rows k d xs more x below so_far is added =
    rw (added, so_far, is, take_more rows k d below, map-append f (take k rows) (get_or rows k d ∷ [])) refl

pub loop-store-preserved : goal.loop-store-preserved
loop-store-preserved c =
    let before = c.loop-store.invariant in
    let added = c.in_ok-push.ensures.items in
    record {
      ids = mapped_more (λ (row : StoreRow). row.id) c.args.problem.now.rows c.loop-store.store no_row
          c.loop-store.ids.items c.push.new.self.items c.id.result (omega arith) before.ids c.id.ensures.id added;
      each = subst (All IsIdField) (sym added)
          (All-push IsIdField c.loop-store.ids.items c.id.result before.each c.id.ensures.is_field);
    }
