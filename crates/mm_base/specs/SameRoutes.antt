-- Routes of telemetry into stores.
use Rattle.std.specs.Prelude.{Bool, ◌==◌, ◌&&◌, bytes_eq}
use Rattle.mm_base.specs.declared.rows.RouteRow.{RouteRow}

-- whether two routes are equal
abbrev pub same_route : RouteRow → RouteRow → Bool
same_route a b = (a.apid == b.apid) && (a.service == b.service) && (a.subtype == b.subtype) && bytes_eq a.store b.store
