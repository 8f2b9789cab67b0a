use Rattle.std.proofs.Common.{◌≡◌, ◌-◌, ◌∙◌, ap, length, subst, sym, true, Ok}
use Rattle.mm_problem.specs.Dumping.{Dumping}
use Rattle.mm_problem.specs.Rest.{rest_of, rows_from, starts_fit}
use Rattle.mm_problem.specs.Setup.{AreStores, IsSetup}
use Rattle.mm_problem.specs.Texts.{SaysProblem}
use Rattle.mm_problem.specs.declared.come.Arrivals.TheVariants.{Before}
use Rattle.mm_problem.proofs.RestLaws.{as_many_rows}
use Rattle.mm_rest.specs.Halts.{first_halted}
use Rattle.mm_rest.specs.Rests.{setup_for}
use Rattle.mm_rest.proofs.HaltReads.{halt_limits, halt_rows, halt_setup}
use Rattle.mm_rest.proofs.RestReads.{is_setup}
use Rattle.mm_rest.proofs.halt.halt_texts.Goals as goal

pub first_halted-requires-clause-as_many : goal.first_halted-requires-clause-as_many
first_halted-requires-clause-as_many c =
    c.requires.dumped ∙ sym (as_many_rows c.args.problem.now.rows c.deref.result.now)
    ∙ sym (ap (λ (p : Dumping). length p.rows) c.in_ok-rest.ensures.rest)

pub texts_of-requires-clause-stores : goal.texts_of-requires-clause-stores
texts_of-requires-clause-stores c =
    let q = c.args.problem.now in
    let halted = c.args.halted.now in
    let rest_is = c.in_ok-rest.ensures.rest ∙ ap (rest_of q (c.args.step - 1)) c.deref.ensures.value in
    let left_is = c.in_ok-left.ensures.problem ∙ ap (λ p. first_halted p halted) rest_is in
    let held = halted.held.items in
    let rows = ap (λ (p : Dumping). p.rows) left_is ∙ halt_rows (rest_of q (c.args.step - 1) held) halted in
    c.deref-4.ensures.value ∙ c.in_ok-stores.ensures
    ∙ ap (λ rows. rows_from rows c.deref-2.result.now) (c.stores.ensures.rows ∙ sym c.requires.stores)
    ∙ ap (rows_from q.rows) c.deref-2.ensures.value ∙ sym rows

pub texts_of-requires-clause-limits : goal.texts_of-requires-clause-limits
texts_of-requires-clause-limits c =
    let q = c.args.problem.now in
    let halted = c.args.halted.now in
    let rest_is = c.in_ok-rest.ensures.rest ∙ ap (rest_of q (c.args.step - 1)) c.deref.ensures.value in
    let left_is = c.in_ok-left.ensures.problem ∙ ap (λ p. first_halted p halted) rest_is in
    ap (λ (p : Dumping). p.limits) left_is
    ∙ halt_limits (rest_of q (c.args.step - 1) halted.held.items) halted ∙ c.requires.limits

pub texts_of-requires-clause-setup : goal.texts_of-requires-clause-setup
texts_of-requires-clause-setup c =
    let q = c.args.problem.now in
    let halted = c.args.halted.now in
    let rest_is = c.in_ok-rest.ensures.rest ∙ ap (rest_of q (c.args.step - 1)) c.deref.ensures.value in
    let left_is = c.in_ok-left.ensures.problem ∙ ap (λ p. first_halted p halted) rest_is in
    let held = halted.held.items in
    let rows = ap (λ (p : Dumping). p.rows) left_is ∙ halt_rows (rest_of q (c.args.step - 1) held) halted in
    let stores = subst (λ rows. AreStores (rows_from rows held)) c.requires.stores
    (subst AreStores rows c.in_ok-left.ensures.within.stores) in
    let fit = subst (λ rows. starts_fit rows held ≡ true) c.requires.stores
    (subst (λ starts. starts_fit q.rows starts ≡ true) c.deref.ensures.value c.in_ok-rest.ensures.fit) in
    let same = ap (setup_for c.args.setup.now) left_is
    ∙ halt_setup c.args.setup.now q (c.args.step - 1) halted c.requires.stores in
    subst IsSetup (sym same) (is_setup c.args.setup.now Before held c.stores.ensures.is_setup stores fit)

pub returns-clause-problem : goal.returns-clause-problem
returns-clause-problem c =
    let q = c.args.problem.now in
    let halted = c.args.halted.now in
    let rest_is = c.in_ok-rest.ensures.rest ∙ ap (rest_of q (c.args.step - 1)) c.deref.ensures.value in
    let left_is = c.in_ok-left.ensures.problem ∙ ap (λ p. first_halted p halted) rest_is in
    subst (SaysProblem c.in_ok-texts.texts.setup.items c.in_ok-texts.texts.forecast.items) left_is
    c.in_ok-texts.ensures.problem

pub returns-clause-setup : goal.returns-clause-setup
returns-clause-setup c =
    let q = c.args.problem.now in
    let halted = c.args.halted.now in
    let rest_is = c.in_ok-rest.ensures.rest ∙ ap (rest_of q (c.args.step - 1)) c.deref.ensures.value in
    let left_is = c.in_ok-left.ensures.problem ∙ ap (λ p. first_halted p halted) rest_is in
    c.in_ok-texts.ensures.setup ∙ ap Ok (ap (setup_for c.args.setup.now) left_is
    ∙ halt_setup c.args.setup.now q (c.args.step - 1) halted c.requires.stores)
