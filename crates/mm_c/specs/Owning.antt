-- What the pointer of a handle owns.
use Rattle.mm_c.specs.Words.{Option, Some, None, Serving}
use base.Fml.{Fml, ftrue}
use denote.RawPtr.{Ptr}
use mir.Syntax.{Ty}
use Rattle.std.specs.Box.Ownership.{box_owns}
use Rattle.mm_service.specs.contracts.service.Service.{the_row}

-- that of an open handle owns the box of a service, that of a closed one nothing
abbrev pub loose_owns : (Ty → Ptr → Fml) → Ptr → Option Serving → Fml
loose_owns holds at None = ftrue
loose_owns holds at (Some service) = box_owns holds the_row at service
