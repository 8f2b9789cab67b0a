-- The types that contracts on runs cite: what texts say, and what reads them.
pub use Rattle.mm_problem.specs.Dumping.{Dumping}
pub use Rattle.mm_packet.specs.Packet.{SpacePacket}
pub use Rattle.mm_plan.specs.Sheet.{SheetRows}
pub use Rattle.mm_memory.specs.Holdings.{Holdings}
pub use Rattle.mm_carry.specs.declared.run_end.Flown.{Flown}
pub use Rattle.mm_carry.specs.declared.run_end.FlyHalted.{FlyHalted}
pub use Rattle.mm_run.specs.declared.script_fault.ScriptFault.{ScriptFault}
pub use Rattle.mm_run.specs.declared.sources.SourceLine.{SourceLine}
pub use Rattle.mm_run.specs.declared.source.ScriptedSource.{ScriptedSource}
pub use Rattle.mm_run.specs.declared.link.ScriptedLink.{ScriptedLink}
