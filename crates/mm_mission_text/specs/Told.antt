-- The faults of rows, as those of a text.
use Rattle.std.specs.Prelude.{Option}
use Rattle.mm_mission_text.specs.declared.column.Column.{Column}
use Rattle.mm_mission_text.specs.declared.fault.Fault.{Fault}
use Rattle.mm_mission_text.specs.declared.fault.Fault.TheVariants as row
use Rattle.mm_mission_text.specs.declared.mission_fault.MissionFault.{MissionFault}
use Rattle.mm_mission_text.specs.declared.mission_fault.MissionFault.TheVariants.{NoMemory, In}

-- the fault of a table's row, where out of memory stays what it is
abbrev pub told : Option Column → Fault → MissionFault
told table row.NoMemory = NoMemory
told table fault = In table fault
