-- Where in the script of a run a fault is.
use Rattle.mm_run.specs.declared.script_fault.ScriptFault.{ScriptFault}
use Rattle.mm_run.specs.declared.script_fault.ScriptFault.TheVariants as script
use Rattle.mm_told.specs.declared.spot.Spot.{Spot}
use Rattle.mm_told.specs.declared.spot.Spot.TheVariants.{Whole, Line}

-- a fault of the sources or the links
abbrev pub spot_in_script : ScriptFault → Spot
spot_in_script (script.SourcesText line) = Line line
spot_in_script (script.LinksText line) = Line line
spot_in_script script.NoMemory = Whole
