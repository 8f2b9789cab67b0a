-- What recorders at open stores did. No public clause cites this module.
use Rattle.std.specs.Prelude.{◌≡◌, ℕ, ◌<◌, List, [], ◌∷◌, length, All, Option, IfNone, IfSome}
use Rattle.mm_record.specs.Words.{Fault, AreTaken, SpacePacket, StoreLabel, list_at, all_ends, IsFresh, PortView}
use Rattle.mm_record.specs.Words.{StoresView}
use Rattle.mm_record.specs.Supplies.{Supply}
use Rattle.mm_record.specs.Recorded.{RecordingContext}
use Rattle.mm_record.specs.Offering.{asked, MayOffer, IsReason}
use Rattle.mm_record.specs.Steps.{IsRecorderRun, worst_of}

-- a recorder offered through this port what its source gave. If it did not stop early, none of its offers was refused;
-- if it did, it was out of memory, or an offer was refused with that fault
pub record HasOffered (e : RecordingContext) (before after : Supply) (broken : Option Fault)
    (port : PortView) : Type 0 where
  pub gave : List SpacePacket
  pub run : IsRecorderRun e before after (record { gave = gave; offered = asked port; broken = broken })
  pub taken : IfNone broken ((k : ℕ) → k < length e.ids → AreTaken (list_at port k))
  pub reason : IfSome broken (IsReason (length e.ids) port)

-- what sources become, and what they give until then, for the sources of recorders in a step
module _ {S : Type 0} (leads : S → S → Type 0) (until : S → S → Supply) (e : RecordingContext) where
  -- for any later state of a source: it led there before too, and its recorder offered what the source gave until then
  abbrev pub HasOfferedUntil : S → S → PortView → Option Fault → Type 0
  HasOfferedUntil before now port broken =
      (last : S) → leads now last → leads before last × HasOffered e (until before last) (until now last) broken port

  -- the same of the recorder of each source, with the port and the fault at its place
  abbrev pub EachHasOffered : List S → List S → List PortView → List (Option Fault) → Type 0
  EachHasOffered [] [] [] [] = Unit {0}
  EachHasOffered (s ∷ ss) (t ∷ ts) (w ∷ ws) (f ∷ fs) = HasOfferedUntil s t w f × EachHasOffered ss ts ws fs
  EachHasOffered ss ts ws fs = ⊥

  -- the recorders of sources offered what these gave, through the same ports, and this is why some stopped early
  pub record HaveOffered (before now : List S) (ports workers : List PortView) (why : Option Fault) : Type 0 where
    pub ends : all_ends workers ≡ all_ends ports
    pub faults : List (Option Fault)
    pub each : EachHasOffered before now workers faults
    pub why_is : why ≡ worst_of faults

-- each source has a fresh port, through which packets may be offered
pub record HaveFreshPorts {S : Type 0} (labels : List StoreLabel) (stores : StoresView) (sources : List S)
    (workers : List PortView) : Type 0 where
  pub same : length workers ≡ length sources
  pub may : All (λ w. MayOffer labels stores w.of) workers
  pub fresh : All IsFresh workers
