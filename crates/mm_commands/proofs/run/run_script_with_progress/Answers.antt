use Rattle.std.proofs.Common.{◌≡◌, ℕ, List, map, rules, subst}
use Rattle.mm_files.specs.Scripts.{script_view}
use Rattle.mm_commands.specs.Doing.{AreDone, words_in}
use Rattle.mm_commands.proofs.run.run_script_with_progress.Goals as goal

pub returns-clause-does : goal.returns-clause-does
returns-clause-does g c zero =
    let left = script_view c.run_tool_with_progress.new.files in
    let done_over : List ℕ → List (List ℕ) → Type 0 =
    λ files words. AreDone (script_view files) left words (g.W.Write.contents c.args.out.now)
    (g.W.Write.contents c.run_tool_with_progress.new.out) in
    let files = c.first_line.result.1.now in
    let words : map (λ word. word.now) c.as_slice.result.now ≡ words_in c.first_line.result.0.now = search rules in
    record {
      line = c.first_line.result.0.now;
      files = files;
      left = left;
      split = c.first_line.ensures.lines;
      done = subst (done_over files) words
          (subst (λ text. done_over text (map (λ word. word.now) c.as_slice.result.now)) c.new.ensures.text
          (c.run_tool_with_progress.ensures.does zero));
    }
