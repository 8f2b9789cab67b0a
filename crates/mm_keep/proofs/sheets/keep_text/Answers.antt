use Rattle.mm_plan.specs.Table.{amount}
use Rattle.mm_keep.proofs.KeptTexts.{printed_kept}
use Rattle.mm_keep.proofs.sheets.keep_text.Goals as goal

pub returns : goal.returns
returns c = printed_kept c.args.problem.now (amount c.args.plan.now) c.args.step
    (record { sheet = c.in_ok-sheet.sheet; text = c.in_ok-text.text }) c.in_ok-sheet.ensures c.in_ok-text.ensures
