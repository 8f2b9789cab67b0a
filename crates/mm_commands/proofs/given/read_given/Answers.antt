use Rattle.std.proofs.Common.{◌≡◌, ◌∙◌, Ok, ap, sym}
use Rattle.mm_problem.specs.Document.{setup_of}
use Rattle.mm_problem.specs.Forecast.{problem_of}
use Rattle.mm_problem.specs.Texts.{problem_in}
use Rattle.mm_commands.proofs.given.read_given.Goals as goal

pub returns-clause-given : goal.returns-clause-given
unfolding problem_in
returns-clause-given c =
    let m = c.in_ok-setup.setup in
    let forecast = c.args.texts.now.forecast.items in
    let setup : setup_of c.args.texts.now.setup.items ≡ Ok m = ap setup_of (sym c.deref.ensures.value)
    ∙ c.in_ok-setup.ensures.setup in
    let problem : problem_of m forecast ≡ Ok c.in_ok-problem.problem = ap (problem_of m) (sym c.deref-2.ensures.value)
    ∙ c.in_ok-problem.ensures.problem in
    let same = (c.forecasts.ensures m c.stores-stores.ensures.is_setup forecast c.in_ok-problem.problem).0 problem in
    record {
      says_setup = setup;
      says_problem = rw setup problem;
      stores = same.rows;
      limits = same.limits;
      come = same.come;
    }
