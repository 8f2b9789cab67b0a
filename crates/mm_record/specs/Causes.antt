-- Why a step is not begun or is ended.
use Rattle.std.specs.Prelude.{ℕ, Bool, not, ◌&&◌, ◌||◌, nat_lt, nat_le, if◌then◌else◌, List, find, is_some, Option}
use Rattle.std.specs.Prelude.{Some, None}
use Rattle.mm_record.specs.Words.{list_any, Fault, Held, Cause, NotReady, ClockTooLate, Counts, NoMemory, LogMismatch}
use Rattle.mm_record.specs.Words.{MAX_SOURCES, LATEST_START}
use Rattle.mm_desk.specs.declared.fault.Fault.TheVariants as fault

-- whether a store can take part in a step: its storage is on, and no retrieval from it is
abbrev pub is_ready : Held → Bool
is_ready h = h.state.storage && not (is_some h.state.retrieval)

-- whether a moment is too late for the start of a run
abbrev pub is_late : ℕ → Bool
is_late moment = nat_lt LATEST_START moment

-- whether the moment before the first step, or the last storage time of a store, is too late for the start of a run
abbrev pub is_clock_late : List Held → ℕ → Bool
is_clock_late stores base = is_late base || list_any (λ h. is_late h.state.store.last) stores

-- whether there is at least one, and at most the greatest number allowed
abbrev pub is_count : ℕ → ℕ → Bool
is_count count most = nat_le 1 count && nat_le count most

-- why a step is not begun: the first store that is not ready, if there is one; else a moment or a last storage time
-- that is too late; else a number of sources that is too small or too great
abbrev pub cause_by : List Held → ℕ → ℕ → Option Held → Option Cause
cause_by stores base sources (Some h) = Some (NotReady h.id)
cause_by stores base sources None =
    if is_clock_late stores base then Some ClockTooLate else if is_count sources MAX_SOURCES then None else Some Counts

-- why a step of recorders is not begun
abbrev pub cause_before : List Held → ℕ → ℕ → Option Cause
cause_before stores base sources = cause_by stores base sources (find (λ h. not (is_ready h)) stores)

-- why a step of recorders is ended: a store refused an offer, or there was no memory
abbrev pub cause_in : ℕ → Option Fault → Option Cause
cause_in step None = None
cause_in step (Some fault.NoMemory) = Some (NoMemory step)
cause_in step (Some other) = Some (LogMismatch step)
