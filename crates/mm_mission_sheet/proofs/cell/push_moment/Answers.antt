use Rattle.std.proofs.Common.{◌≡◌, ◌++◌, ◌∙◌, ap}
use Rattle.mm_mission_sheet.specs.Dates.{utc_text}
use Rattle.mm_mission_sheet.proofs.DateLemmas.{moment_is}
use Rattle.mm_mission_sheet.proofs.cell.push_moment.Goals as goal

pub returns : goal.returns
returns c =
    let is : c.deref.result.now ≡ utc_text c.args.moment = c.deref.ensures.value
    ∙ moment_is c.args.moment _ _ c.in_ok-push.ensures
    ∙ ap (λ xs. xs ++ utc_text c.args.moment) c.new-cell.ensures.items in
    rw is at c.push_text.ensures
