use Rattle.std.proofs.Common.{◌≡◌, ◌≤◌, length}
use Rattle.std.specs.Prelude.{IsTrue}
use Rattle.std.specs.Io.KnownBytes.{Consumes}
use Rattle.mm_files.specs.declared.files.TheConstants.{MAX_READS}
use Rattle.mm_files.proofs.files.read_to_end.Given as goal

-- what was read so far stood at the front of what the input had; an input that does not fail gave an octet each time
abbrev pub invariant-loop-turn : goal.invariant-loop-turn
invariant-loop-turn g l = record {
  within : length l.text.items ≤ MAX_READS;
  read : Consumes (g.I.Input.coming l.initial.input) (g.I.Input.coming l.input) l.text.items;
  sure : g.I.Input.is_sure l.input ≡ g.I.Input.is_sure l.initial.input;
  failed : g.I.Input.has_failed l.input ≡ g.I.Input.has_failed l.initial.input;
  each : IsTrue (g.I.Input.is_sure l.input) → l._turn ≤ length l.text.items;
}
