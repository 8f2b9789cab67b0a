use Rattle.std.proofs.Common.{◌≡◌, ◌∙◌, ◌*◌, ap, ap₂}
use Rattle.mm_mission.specs.Edges.{AreTimes}
use Rattle.mm_mission.specs.Packets.{sent_in}
use Rattle.mm_mission.specs.Timeline.{amount as units}
use Rattle.mm_mission_sheet.specs.Cells.{csv_text}
use Rattle.mm_mission_sheet.specs.Sheets.{sheet_lines, sheet_rows}
use Rattle.mm_plan.specs.Table.{Table, amount}
use Rattle.mm_plan.specs.Volumes.{loss}
use Rattle.mm_mission_plan.specs.Units.{numbers_of}
use Rattle.mm_mission_plan.proofs.ProblemTexts.{as_many, as_many_steps}
use Rattle.mm_mission_plan.proofs.Shown.{as_many_names}
use Rattle.mm_mission_plan.proofs.Stages.{flown_exact}
use Rattle.mm_mission_plan.proofs.plan.planned.Goals as goal

pub in_packets-requires : goal.in_packets-requires
in_packets-requires c =
    let m = c.args.found.now.tried.flown.mission in
    let edges = c.args.found.now.tried.edges.items in
    let q = c.args.found.now.tried.problem in
    let of = c.requires.unit.plannable.problem in
    record {
      table = rw (c.deref.ensures.value, c.as_slice-edges.ensures.value)
          (c.in_ok-amounts.ensures.table
          ∙ ap₂ (λ a b. a * b) (as_many_steps m edges q of) (as_many m edges q of));
    }

pub timeline_csv-requires-clause-names : goal.timeline_csv-requires-clause-names
timeline_csv-requires-clause-names c =
    as_many_names c.args.rows.now.passes.now c.args.found.now.tried.flown.places.items c.args.names.now c.requires.names
    ∙ c.args.found.now.tried.flown.placed

pub timeline_csv-requires-clause-dumps : goal.timeline_csv-requires-clause-dumps
timeline_csv-requires-clause-dumps c =
    let m = c.args.found.now.tried.flown.mission in
    let edges = c.as_slice-edges.result.now in
    let times : AreTimes m edges = rw c.as_slice-edges.ensures.value c.requires.unit.plannable.edges.times in
    rw c.deref-3.ensures.value
    (c.timelines_fit.ensures m edges (sent_in edges c.deref-2.result.now) c.in_ok-dumps.dumps.items times
    c.in_ok-dumps.ensures.timeline)

pub sheet_csv-requires-clause-names : goal.sheet_csv-requires-clause-names
sheet_csv-requires-clause-names c =
    as_many_names c.args.rows.now.passes.now c.args.found.now.tried.flown.places.items c.args.names.now c.requires.names
    ∙ c.args.found.now.tried.flown.placed

pub sheet_csv-requires-clause-flown : goal.sheet_csv-requires-clause-flown
sheet_csv-requires-clause-flown c =
    let m = c.args.found.now.tried.flown.mission in
    let plannable = c.requires.unit.plannable in
    rw (c.deref-4.ensures.value, c.in_ok-steps.ensures.steps, c.as_slice-edges.ensures.value)
    (c.plans_fit.ensures m c.args.found.now.tried.edges.items (units m c.deref.result.now)
    c.passes-passes.ensures.is_mission plannable.edges.times plannable.few)

pub returns : goal.returns
returns c =
    let t = c.args.found.now.tried in
    let plannable = c.requires.unit.plannable in
    let shown = c.in_ok-printed.ensures in
    let edges_are = c.as_slice-edges.ensures.value in
    let plan_is : c.plan-plan.result.now ≡ shown.sheet.plan = c.plan-plan.ensures ∙ shown.plan_is in
    let amounts_are : c.deref.result.now ≡ shown.sheet.plan.amounts =
    c.deref.ensures.value ∙ c.in_ok-amounts.ensures.amounts ∙ ap (λ (x : Table). x.amounts) plan_is in
    record {
      unit = c.requires.unit.is_unit;
      exact = numbers_of t.flown;
      exactly = flown_exact c.args.rows.now c.args.found.now.unit (numbers_of t.flown) plannable.exactly;
      edges = t.edges.items;
      are_edges = plannable.edges;
      problem = t.problem;
      is_problem = plannable.problem;
      says_problem = c.in_ok-texts.ensures;
      certified = shown.sheet;
      plans = shown.plans;
      plain = shown.besides;
      loss = c.loss_of.ensures.loss ∙ ap (λ (x : Table). loss t.problem (amount x)) plan_is
          ∙ shown.plans.shows_least.loss;
      steps = rw (edges_are, amounts_are) at c.in_ok-steps.ensures.steps;
      dumps = c.in_ok-dumps.dumps.items;
      sends = rw (edges_are, c.deref-2.ensures.value) at c.in_ok-dumps.ensures.timeline;
      names = c.args.names.now;
      named = c.requires.names;
      timeline = rw c.deref-3.ensures.value at c.in_ok-timeline.ensures;
      sheet = c.in_ok-sheet.ensures
          ∙ ap₂ (λ edges steps. csv_text (sheet_lines t.flown.begin t.flown.mission c.args.names.now
          (sheet_rows t.flown.mission edges steps))) edges_are c.deref-4.ensures.value;
    }
