-- What a text of sources says.
use Rattle.std.specs.Prelude.{◌≡◌, ℕ, ◌+◌, ◌-◌, ◌≤◌, ◌==◌, ◌&&◌, nat_le, nat_lt, max, All, Bool, List, [], ◌∷◌, ◌++◌}
use Rattle.std.specs.Prelude.{length, map, filter, fold, slice_index_or, Result, Ok, Err}
use Rattle.std.specs.Option.{ok_or}
use Rattle.mm_base.specs.declared.limits.TheConstants.{MAX_STEPS}
use Rattle.mm_base.specs.Lines.{cut_word, file_lines}
use Rattle.mm_base.specs.Reading.{◌>>=◌, test}
use Rattle.mm_packet.specs.Spelling.{spelling}
use Rattle.mm_packet.specs.declared.block.TheConstants.{BLOCK}
use Rattle.mm_ask.specs.Line.{packet_of}
use Rattle.mm_report.specs.declared.cause.TheConstants.{MAX_SOURCES}
use Rattle.mm_run.specs.Types.{SpacePacket, ScriptFault, SourceLine, ScriptedSource}
use Rattle.mm_run.specs.declared.script_fault.ScriptFault.TheVariants.{SourcesText}
use Rattle.mm_run.specs.declared.source.TheConstants.{MAX_PACKETS}
use Rattle.mm_run.specs.Words.{number_in}

-- a value, or this fault in place of any other
abbrev pub or_fault : {A E : Type 0} → ScriptFault → Result A E → Result A ScriptFault
or_fault bad (Ok x) = Ok x
or_fault bad (Err e) = Err bad

-- the packet that hexadecimal digits spell, with nothing after it and no longer than a block
unfoldable pub packet_in : ScriptFault → List ℕ → Result SpacePacket ScriptFault
packet_in bad digits = do
  packet ← or_fault bad (packet_of digits)
  short ← test (nat_le (length (spelling packet)) BLOCK) bad
  Ok packet

-- what a line `source step HEX` says
unfoldable pub source_line_at : ScriptFault → List ℕ → Result SourceLine ScriptFault
source_line_at bad line = do
  front ← ok_or (cut_word line) bad
  source ← number_in bad 1 MAX_SOURCES front.0
  back ← ok_or (cut_word front.1) bad
  step ← number_in bad 0 MAX_STEPS back.0
  packet ← packet_in bad back.1
  Ok (record { source = source; step = step; packet = packet })

-- the numbers are in their ranges
pub record IsSourceLine (d : SourceLine) : Type 0 where
  pub first : 1 ≤ d.source
  pub last : d.source ≤ MAX_SOURCES
  pub step : d.step ≤ MAX_STEPS

-- whether a line is of this source and this step
abbrev pub is_of : ℕ → ℕ → SourceLine → Bool
is_of s t d = (d.source == s) && (d.step == t)

-- the packets that a source gives in a step, in the order of the lines
abbrev pub packets_of : ℕ → ℕ → List SourceLine → List SpacePacket
packets_of s t source_lines = map (λ d. d.packet) (filter (is_of s t) source_lines)

-- the packets of step 0, before the run, in the order of the lines
abbrev pub opening_of : List SourceLine → List SpacePacket
opening_of source_lines = map (λ d. d.packet) (filter (λ d. d.step == 0) source_lines)

-- how many sources there are: the greatest number of a source
abbrev pub sources_of : List SourceLine → ℕ
sources_of source_lines = fold (λ most d. max most d.source) 0 source_lines

-- whether there is room for one more of its source and step
abbrev pub has_room : List SourceLine → SourceLine → Bool
has_room earlier d = nat_lt (length (packets_of d.source d.step earlier)) MAX_PACKETS

-- these lines and one more, if there is room for it
abbrev pub with_source_line : ScriptFault → List SourceLine → SourceLine → Result (List SourceLine) ScriptFault
with_source_line bad earlier d = do
  room ← test (has_room earlier d) bad
  Ok (earlier ++ d ∷ [])

-- what the lines say, after one more
abbrev pub with_line : ScriptFault → List SourceLine → List ℕ → Result (List SourceLine) ScriptFault
with_line bad earlier line = do
  source_line ← source_line_at bad line
  with_source_line bad earlier source_line

-- what the lines say after these, of which the first has this number
abbrev pub with_lines : ℕ → List SourceLine → List (List ℕ) → Result (List SourceLine) ScriptFault
with_lines k earlier [] = Ok earlier
with_lines k earlier (line ∷ lines) = do
  source_lines ← with_line (SourcesText k) earlier line
  with_lines (k + 1) source_lines lines

-- what a text of sources says, line by line, or the first line that is refused
unfoldable pub source_lines_of : List ℕ → Result (List SourceLine) ScriptFault
source_lines_of text = with_lines 1 [] (file_lines text)

-- the packets that the source of this number still gives in a step
abbrev pub given : List ScriptedSource → ℕ → ℕ → List SpacePacket
given sources s t = slice_index_or (slice_index_or sources (s - 1) []) t []

-- the packets of step 0 and the sources are those of the lines
pub record AreFrom (source_lines : List SourceLine) (opening : List SpacePacket)
    (sources : List ScriptedSource) : Type 0 where
  pub before : opening ≡ opening_of source_lines
  pub count : length sources ≡ sources_of source_lines
  pub each : (s t : ℕ) → 1 ≤ s → 1 ≤ t → given sources s t ≡ packets_of s t source_lines
  pub none : (s : ℕ) → 1 ≤ s → given sources s 0 ≡ []

-- no source gives more packets in a step than there may be
abbrev pub AreFew : List ScriptedSource → Type 0
AreFew sources = All (λ source. (t : ℕ) → length (slice_index_or source t []) ≤ MAX_PACKETS) sources

-- the text says this
abbrev pub Says : List ℕ → List SpacePacket → List ScriptedSource → Type 0
Says text opening sources = (source_lines : List SourceLine) × (source_lines_of text ≡ Ok source_lines)
    × AreFrom source_lines opening sources
