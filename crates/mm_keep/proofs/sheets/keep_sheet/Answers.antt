use Rattle.std.proofs.Common.{◌∙◌, ap₂, subst, sym}
use Rattle.mm_plan.specs.Table.{amount, IsTable}
use Rattle.mm_cut.specs.Cuts.{bound}
use Rattle.mm_keep.specs.Joining.{AreJoined, AreParts}
use Rattle.mm_keep.specs.Keeps.{IsKeptSheet}
use Rattle.mm_keep.proofs.KeptSheets.{early_counts, kept_sheet, later_cuts, parts}
use Rattle.mm_keep.proofs.KeptTexts.{rest_sheet}
use Rattle.mm_keep.proofs.sheets.keep_sheet.Goals as goal

pub joined-requires : goal.joined-requires
joined-requires c =
    let q = c.args.problem.now in
    let x = c.args.plan.now in
    let s = c.in_ok-least.least in
    let rest = rest_sheet q (amount x) c.args.step c.in_ok-rest.rest s c.in_ok-rest.ensures c.in_ok-least.ensures in
    subst (AreParts q c.args.step x) (sym c.plan.ensures) (parts q x c.args.step c.store_ids.ensures.problem c.requires.before_last s rest c.requires.shape)

pub best_first-requires-clause-counts : goal.best_first-requires-clause-counts
best_first-requires-clause-counts c =
    let q = c.args.problem.now in
    let x = c.args.plan.now in
    let s = c.in_ok-least.least in
    let rest = rest_sheet q (amount x) c.args.step c.in_ok-rest.rest s c.in_ok-rest.ensures c.in_ok-least.ensures in
    early_counts q x c.args.step c.store_ids.ensures.problem c.requires.before_last s rest

pub best_first-requires-clause-cuts : goal.best_first-requires-clause-cuts
best_first-requires-clause-cuts c =
    let q = c.args.problem.now in
    let x = c.args.plan.now in
    let s = c.in_ok-least.least in
    let rest = rest_sheet q (amount x) c.args.step c.in_ok-rest.rest s c.in_ok-rest.ensures c.in_ok-least.ensures in
    later_cuts q x c.args.step c.store_ids.ensures.problem c.requires.before_last s rest

pub later_cut-requires-clause-counts : goal.later_cut-requires-clause-counts
later_cut-requires-clause-counts c =
    let q = c.args.problem.now in
    let x = c.args.plan.now in
    let s = c.in_ok-least.least in
    let rest = rest_sheet q (amount x) c.args.step c.in_ok-rest.rest s c.in_ok-rest.ensures c.in_ok-least.ensures in
    early_counts q x c.args.step c.store_ids.ensures.problem c.requires.before_last s rest

pub certificate-certificate-requires-clause-cut : goal.certificate-certificate-requires-clause-cut
certificate-certificate-requires-clause-cut c =
    let q = c.args.problem.now in
    let x = c.args.plan.now in
    let s = c.in_ok-least.least in
    let rest = rest_sheet q (amount x) c.args.step c.in_ok-rest.rest s c.in_ok-rest.ensures c.in_ok-least.ensures in
    rw (c.in_ok-cut.ensures.stretches, c.in_ok-cut.ensures.counts)
    (later_cuts q x c.args.step c.store_ids.ensures.problem c.requires.before_last s rest c.in_ok-first.first c.in_ok-first.ensures.from c.in_ok-first.ensures.until)

pub returns : goal.returns
returns c =
    let q = c.args.problem.now in
    let x = c.args.plan.now in
    let s = c.in_ok-least.least in
    let n = c.args.step in
    let plan = c.in_ok-plan.plan in
    let rest = rest_sheet q (amount x) n c.in_ok-rest.rest s c.in_ok-rest.ensures c.in_ok-least.ensures in
    let own = c.certificate-certificate.ensures in
    let both = subst (λ z. AreJoined q n x z (amount plan)) c.plan.ensures c.in_ok-plan.ensures.joined in
    subst (IsKeptSheet q (amount x) n) (sym c.new.ensures)
    (kept_sheet c.cuts_are_few.ensures c.least_rests_plan_anew.ensures q x n c.store_ids.ensures.problem
    c.requires.before_last s rest plan c.in_ok-plan.ensures.shape (subst IsTable c.plan-2.view_is c.plan-2.invariant)
    both c.in_ok-stores.stores.items c.in_ok-stores.ensures.ids c.in_ok-stores.ensures.each c.in_ok-first.first
    c.in_ok-first.ensures.from c.in_ok-first.ensures.until c.certificate-certificate.result (record {
      loss = own.loss;
      most = own.most;
      cut = own.stretches ∙ c.in_ok-cut.ensures.stretches;
      counts = own.counts ∙ c.in_ok-cut.ensures.counts;
      bound = own.bound ∙ ap₂ (bound q) (sym own.stretches) (sym own.counts);
      fits = own.fits;
    }))
