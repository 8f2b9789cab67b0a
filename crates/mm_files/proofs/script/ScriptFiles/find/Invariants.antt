use Rattle.std.proofs.Common.{◌≡◌, length}
use Rattle.mm_base.specs.Lines.{text_lines}
use Rattle.mm_files.specs.Scripts.{file_in, script_file}
use Rattle.mm_files.proofs.script.ScriptFiles.find.Given as goal

-- no line that was passed over is the heading of the name
abbrev pub invariant-loop-rest : goal.invariant-loop-rest
invariant-loop-rest l = script_file l.self l.name ≡ file_in l.name (text_lines l.rest)

abbrev pub decreases-loop-rest : goal.decreases-loop-rest
decreases-loop-rest l = length l.rest
