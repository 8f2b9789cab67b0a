use Rattle.mm_memory.proofs.Words.{rules, tests, is_to}
use Rattle.std.proofs.lemmas.List.Folds.{list_any_at}
use Rattle.mm_memory.proofs.recording.leads_at.Goals as goal

pub returns-then-place-rows : goal.returns-then-place-rows
returns-then-place-rows c = search (rules, tests, list_any_at (is_to c.args.id.now) c.args.rows.now c.args.place)
