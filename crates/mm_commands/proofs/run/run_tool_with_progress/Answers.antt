use Rattle.mm_commands.proofs.Codes.{code-done, code-kept, code-taken}
use Rattle.mm_commands.proofs.run.run_tool_with_progress.Goals as goal

pub returns-clause-does : goal.returns-clause-does
returns-clause-does g c =
    code-done _ _ _ _ _ c.run_words-run.result _ c.end.ensures.code c.end.ensures.failed c.run_words-run.ensures.does

pub returns-clause-taken : goal.returns-clause-taken
returns-clause-taken g c line once =
    code-taken c.run_words-run.result _ c.end.ensures.code c.end.ensures.failed
    (c.run_words-run.ensures.taken line once)

pub returns-clause-kept : goal.returns-clause-kept
returns-clause-kept g c other =
    code-kept _ _ _ _ _ c.run_words-run.result _ c.end.ensures.code c.run_words-run.ensures.kept
    c.run_words-run.ensures.does other
