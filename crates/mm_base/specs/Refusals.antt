-- The table of refusals.
use Rattle.std.specs.Prelude.{ℕ, List, codes}
use Rattle.mm_base.specs.declared.refusal.Refusal.{Refusal}
use Rattle.mm_base.specs.declared.refusal.Refusal.TheVariants.{NoMemory, Short, Version, NoSecondaryHeader}
use Rattle.mm_base.specs.declared.refusal.Refusal.TheVariants.{PusVersion, Segmented, IdlePacket, HeaderCut}
use Rattle.mm_base.specs.declared.refusal.Refusal.TheVariants.{TooLong, HoldsMore, NoSuchRoute, TableFull, NotSt15}
use Rattle.mm_base.specs.declared.refusal.Refusal.TheVariants.{UnknownSubtype, CountMismatch, BadId, BadEnum}
use Rattle.mm_base.specs.declared.refusal.Refusal.TheVariants.{Disabled, Busy, NoRetrieval, BadRange, ClockEnd}
use Rattle.mm_base.specs.declared.refusal.Refusal.TheVariants.{WindowFull, NoSuchStore, Exists, TooManyStores}
use Rattle.mm_base.specs.declared.refusal.Refusal.TheVariants.{StorageOn, SetupText, SetupField, ForecastText}
use Rattle.mm_base.specs.declared.refusal.Refusal.TheVariants.{Header, Cell, StepNumber, Limit, PlanText, Shape}
use Rattle.mm_base.specs.declared.refusal.Refusal.TheVariants.{Unbounded, SameEnds, PlanShape, NotReady}
use Rattle.mm_base.specs.declared.refusal.Refusal.TheVariants.{SizeDiffers, OpeningDiffers, ClockTooLate}
use Rattle.mm_base.specs.declared.refusal.Refusal.TheVariants.{PlanDoesNotFit, Counts, NoMemoryInStep, LinkFailed}
use Rattle.mm_base.specs.declared.refusal.Refusal.TheVariants.{LogMismatch, BadSize, HexLine, NotRead, SourcesText}
use Rattle.mm_base.specs.declared.refusal.Refusal.TheVariants.{LinksText, ChannelDiffers, TooManyReports, NotFlyable}
use Rattle.mm_base.specs.declared.refusal.Refusal.TheVariants.{MissionText, MissionTable, MissionRow}

-- the number and the name of each refusal
abbrev pub entry_of : Refusal → ℕ × List ℕ
entry_of NoMemory = (0, codes "NoMemory")
entry_of Short = (1, codes "Short")
entry_of Version = (2, codes "Version")
entry_of NoSecondaryHeader = (3, codes "NoSecondaryHeader")
entry_of PusVersion = (4, codes "PusVersion")
entry_of Segmented = (5, codes "Segmented")
entry_of IdlePacket = (6, codes "Idle")
entry_of HeaderCut = (7, codes "HeaderCut")
entry_of TooLong = (8, codes "TooLong")
entry_of HoldsMore = (9, codes "HoldsMore")
entry_of NoSuchRoute = (10, codes "NoSuchRoute")
entry_of TableFull = (11, codes "TableFull")
entry_of NotSt15 = (12, codes "NotSt15")
entry_of UnknownSubtype = (13, codes "UnknownSubtype")
entry_of CountMismatch = (14, codes "CountMismatch")
entry_of BadId = (15, codes "BadId")
entry_of BadEnum = (16, codes "BadEnum")
entry_of Disabled = (17, codes "Disabled")
entry_of Busy = (18, codes "Busy")
entry_of NoRetrieval = (19, codes "Idle")
entry_of BadRange = (20, codes "BadRange")
entry_of ClockEnd = (21, codes "ClockEnd")
entry_of WindowFull = (22, codes "WindowFull")
entry_of NoSuchStore = (23, codes "NoSuchStore")
entry_of Exists = (24, codes "Exists")
entry_of TooManyStores = (25, codes "TooManyStores")
entry_of StorageOn = (26, codes "StorageOn")
entry_of SetupText = (27, codes "SetupText")
entry_of SetupField = (28, codes "SetupField")
entry_of ForecastText = (29, codes "ForecastText")
entry_of Header = (30, codes "Header")
entry_of Cell = (31, codes "Cell")
entry_of StepNumber = (32, codes "StepNumber")
entry_of Limit = (33, codes "Limit")
entry_of PlanText = (34, codes "PlanText")
entry_of Shape = (35, codes "Shape")
entry_of Unbounded = (36, codes "Unbounded")
entry_of SameEnds = (37, codes "SameEnds")
entry_of PlanShape = (38, codes "PlanShape")
entry_of NotReady = (39, codes "NotReady")
entry_of SizeDiffers = (40, codes "SizeDiffers")
entry_of OpeningDiffers = (41, codes "OpeningDiffers")
entry_of ClockTooLate = (42, codes "ClockTooLate")
entry_of PlanDoesNotFit = (43, codes "PlanDoesNotFit")
entry_of Counts = (44, codes "Counts")
entry_of NoMemoryInStep = (45, codes "NoMemory")
entry_of LinkFailed = (46, codes "LinkFailed")
entry_of LogMismatch = (47, codes "LogMismatch")
entry_of BadSize = (48, codes "BadSize")
entry_of HexLine = (49, codes "HexLine")
entry_of NotRead = (50, codes "NotRead")
entry_of SourcesText = (51, codes "SourcesText")
entry_of LinksText = (52, codes "LinksText")
entry_of ChannelDiffers = (53, codes "ChannelDiffers")
entry_of TooManyReports = (54, codes "TooManyReports")
entry_of NotFlyable = (55, codes "NotFlyable")
entry_of MissionText = (56, codes "MissionText")
entry_of MissionTable = (57, codes "MissionTable")
entry_of MissionRow = (58, codes "MissionRow")

-- the number that a refusal is shown with
abbrev pub number_of : Refusal → ℕ
number_of refusal = (entry_of refusal).0

-- the name that a refusal is shown with
abbrev pub name_of : Refusal → List ℕ
name_of refusal = (entry_of refusal).1
