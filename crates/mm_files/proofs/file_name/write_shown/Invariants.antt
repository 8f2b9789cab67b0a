use Rattle.std.proofs.Common.{map, encode_utf8_all}
use Rattle.std.specs.Fmt.{HasWritten, IsPlainFormatter}
use Rattle.mm_files.specs.FileNames.{shown_char}
use Rattle.mm_files.proofs.file_name.write_shown.Given as goal

abbrev pub invariant-loop-character : goal.invariant-loop-character
invariant-loop-character g l =
    IsPlainFormatter l.initial.f
    → HasWritten g.W.Write.write_str_gives l.initial.f (encode_utf8_all (map shown_char l.yielded)) l.f
