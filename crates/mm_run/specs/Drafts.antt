-- What has been read of a text of sources so far.
use Rattle.std.specs.Prelude.{◌≡◌, ◌≢◌, ℕ, ◌-◌, ◌≤◌, List, length, slice_index, Result, Ok, Err}
use Rattle.mm_run.specs.Types.{ScriptFault, SourceLine}
use Rattle.mm_report.specs.declared.cause.TheConstants.{MAX_SOURCES}
use Rattle.mm_run.specs.declared.script_fault.ScriptFault.TheVariants.{NoMemory}
use Rattle.mm_run.specs.declared.sources.SourceFile.{SourceFile}
use Rattle.mm_run.specs.declared.source.TheConstants.{MAX_PACKETS}
use Rattle.mm_run.specs.Sources.{AreFrom, given, packets_of}

-- a file has what these lines say, the lines of step 0 of each source are counted, and no source gives more packets in
-- a step than it may
pub record IsRead (source_lines : List SourceLine) (file : SourceFile) (opened : List ℕ) : Type 0 where
  pub lines : AreFrom source_lines file.opening.items file.sources.items
  pub counted : (s : ℕ) → 1 ≤ s → s ≤ MAX_SOURCES → slice_index opened (s - 1) ≡ length (packets_of s 0 source_lines)
  pub few : (s t : ℕ) → 1 ≤ s → length (given file.sources.items s t) ≤ MAX_PACKETS

-- the file has one line more, as the first result says; or both results are the same refusal, unless memory ran out
abbrev pub Adds : Result (List SourceLine) ScriptFault → SourceFile → List ℕ → Result (Unit {0}) ScriptFault → Type 0
Adds said file opened (Ok u) = (source_lines : List SourceLine) × (said ≡ Ok source_lines)
    × IsRead source_lines file opened
Adds said file opened (Err e) = e ≢ NoMemory → said ≡ Err e
