use Rattle.std.proofs.Common.{◌≡◌, ◌∙◌, ap, length, subst, sym, true}
use Rattle.mm_problem.specs.Rest.{rows_from, starts_fit}
use Rattle.mm_problem.specs.Setup.{AreStores, IsSetup}
use Rattle.mm_plan.specs.Table.{amount}
use Rattle.mm_rest.specs.Rests.{held_after, setup_for, setup_from}
use Rattle.mm_rest.proofs.RestReads.{as_many_held, held_fits, is_setup}
use Rattle.mm_rest.proofs.rest.rest_texts.Goals as goal

pub rows_from-requires : goal.rows_from-requires
rows_from-requires c =
    ap length (c.deref-2.ensures.value ∙ c.in_ok-held.ensures)
    ∙ as_many_held c.args.problem.now (amount c.args.plan.now) c.args.step
    ∙ ap length (c.requires.stores ∙ sym c.stores.ensures.rows)

pub texts_of-requires-clause-setup : goal.texts_of-requires-clause-setup
texts_of-requires-clause-setup c =
    let setup = c.args.setup.now in
    let q = c.args.problem.now in
    let x = amount c.args.plan.now in
    let held = held_after q x c.args.step in
    let stores = subst (λ rows. AreStores (rows_from rows held)) c.requires.stores c.in_ok-rest.ensures.within.stores in
    let fit = subst (λ rows. starts_fit rows held ≡ true) c.requires.stores
    (held_fits q x c.args.step c.requires.first c.stores-stores.ensures.is_dumping) in
    let same = ap (setup_for setup) c.in_ok-rest.ensures.rest
    ∙ ap (λ rows. record (setup_from setup q.come held) { stores = rows_from rows held }) c.requires.stores in
    subst IsSetup (sym same) (is_setup setup q.come held c.stores.ensures.is_setup stores fit)
