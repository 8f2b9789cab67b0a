-- The refusals of calls, with those of the crates below.
use Rattle.mm_service.specs.Words.{Refusal, LineFault, octets_refusal, Fault, NoMemory, BadId, TooLong, NoSuchStore}
use Rattle.mm_service.specs.Words.{TooManyReports, Octets, Refuses as State}
use Rattle.mm_desk.specs.Fault.{refusal_of as state_refusal}
use Rattle.mm_base.specs.declared.refusal.Refusal.TheVariants as refusal
use Rattle.mm_ask.specs.declared.fault.LineFault.TheVariants as octets

-- which refusal it is
abbrev pub refusal_of : Fault → Refusal
refusal_of = elim [
  | NoMemory ↦ refusal.NoMemory
  | BadId ↦ refusal.BadId
  | TooLong ↦ refusal.TooLong
  | NoSuchStore ↦ refusal.NoSuchStore
  | TooManyReports ↦ refusal.TooManyReports
  | Octets fault ↦ octets_refusal fault
  | State fault ↦ state_refusal fault
]

-- the refusal of a packet or of a request, as one of a call
abbrev pub of_octets : LineFault → Fault
of_octets octets.NoMemory = NoMemory
of_octets other = Octets other
