use Rattle.std.proofs.Common.{◌≡◌, not, length, refl, ap, rules, arith}
use Rattle.std.proofs.lemmas.Fn.{filter_same}
use Rattle.std.proofs.lemmas.List.Filters.{length-filter_both}
use Rattle.std.proofs.lemmas.List.Kept.{AllPairs-filter}
use Rattle.std.proofs.lemmas.List.Sums.{length-filter, count_by-le-length}
use Rattle.std.specs.declared.cmp.Ordering.TheVariants.{Less}
use Rattle.mm_control.specs.Routes.{row_cmp, is_to}
use Rattle.mm_control.proofs.table.ControlTable.delete_store.Goals as goal

pub returns-clause-rows : goal.returns-clause-rows
returns-clause-rows c =
    rw (← c.self.view_is) (filter_same _ (λ r. not (is_to c.args.store.now r)) _
    (λ r b f' called. search rules) _ _ c.retain.ensures.filtered)

pub returns-clause-count : goal.returns-clause-count
returns-clause-count c =
    let rows = c.self.inside.rows in
    let store = c.args.store.now in
    let kept = filter_same _ (λ r. not (is_to store r)) _
    (λ r b f' called. search rules) _ _ c.retain.ensures.filtered in
    let both = length-filter_both (is_to store) (λ r. not (is_to store r)) (λ r. refl) rows.items in
    let counted = length-filter (is_to store) rows.items in
    rw (← c.self.view_is) (omega (
      arith,
      both,
      counted,
      ap length kept,
      c.len-before.ensures,
      c.len.ensures,
      rows.ok.0,
      c.retain.new.self.ok.0,
    ))

pub invariant_of-self : goal.invariant_of-self
invariant_of-self c =
    let rows = c.self.inside.rows in
    let kept = filter_same _ (λ r. not (is_to c.args.store.now r)) _
    (λ r b f' called. search rules) _ _ c.retain.ensures.filtered in
    let shorter = length-filter (λ r. not (is_to c.args.store.now r)) rows.items in
    let most = count_by-le-length (λ r. not (is_to c.args.store.now r)) rows.items in (
      rw kept (record {
        in_order = AllPairs-filter (λ a b. row_cmp a b ≡ Less)
            (λ r. not (is_to c.args.store.now r)) rows.items c.self.invariant.0.in_order;
        at_most = omega (arith, shorter, most, c.self.invariant.0.at_most);
      }),
      omega (arith, c.self.invariant.1, c.retain.ensures.capacity),
    )
