use Rattle.mm_c.proofs.OneText.{one_line, one_chart, one_table, one_worth_table}
use Rattle.mm_c.proofs.laws.texts_are_fixed.Goals as goal

pub returns : goal.returns
returns c = record {
  line = one_line c.one_text_one_sheet.ensures c.sheet_verdicts_exclude.ensures;
  chart = one_chart c.one_text_one_sheet.ensures c.sheet_verdicts_exclude.ensures;
  table = one_table c.one_text_one_sheet.ensures;
  worths = one_worth_table;
}
