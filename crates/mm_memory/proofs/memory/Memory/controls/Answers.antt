use Rattle.mm_memory.proofs.Words.{◌++◌, ◌∷◌, [], List, sym, subst, ap, ◌∙◌, Vec, Global, All, Option, IfSome, All-push}
use Rattle.mm_memory.proofs.Words.{HasCount, control_at}
use Rattle.mm_st15.specs.declared.report.Report.{Report}
use Rattle.mm_memory.proofs.ReportLemmas.{filter_map_some, filter_map_none}
use Rattle.mm_memory.proofs.memory.Memory.controls.Goals.{in-Some+in_ok-push-in-Some, in-None}
use Rattle.mm_memory.proofs.memory.Memory.controls.Goals as goal

pub loop-target-preserved : goal.loop-target-preserved
loop-target-preserved c =
    let l = c.loop-target in
    let of_one = control_at c.args.moment c.args.self.now in
    let targets = c.args.targets.now in
    let items = λ (v : Vec Report Global). v.items in
    let AllFit = λ (reports : List Report). All HasCount reports in
    elim c.match-branch-2.branch [
      | in-Some+in_ok-push-in-Some w ↦
          let more = w.in-Some.report in
          let grown = ap items w.all-is ∙ w.in_ok-push-in-Some.ensures.items in
          let fits = subst (λ (o : Option Report). IfSome o HasCount) w.in-Some.is c.in_ok-report.ensures.fits in
          record {
            reports = grown ∙ ap (λ (xs : List Report). xs ++ more ∷ []) l.invariant.reports
                ∙ sym (filter_map_some of_one targets l.target-index _ more c.loop-target-test.true
                (sym c.in_ok-report.ensures.report ∙ w.in-Some.is));
            fit = subst AllFit (sym grown) (All-push HasCount l.all.items more l.invariant.fit fits);
          }
      | in-None w ↦
          let kept = ap items w.all-is in
          record {
            reports = kept ∙ l.invariant.reports ∙ sym
                (filter_map_none of_one targets l.target-index _ c.loop-target-test.true
                (sym c.in_ok-report.ensures.report ∙ w.in-None.is));
            fit = subst AllFit (sym kept) l.invariant.fit;
          }
    ]
