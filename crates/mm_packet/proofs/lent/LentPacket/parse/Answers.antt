use Rattle.std.proofs.Common.{◌++◌, Bool, sym, ap, subst, ◌∙◌, arith}
use Rattle.std.specs.Prelude.{if◌then◌else◌}
use Rattle.mm_packet.specs.declared.reading.Primary.{Primary}
use Rattle.mm_packet.specs.Headers.{primary_octets, FitsPrimary}
use Rattle.mm_packet.proofs.FoundLemmas.{is_found, fits}
use Rattle.mm_packet.proofs.lent.LentPacket.parse.Goals as goal

pub returns-clause-found : goal.returns-clause-found
returns-clause-found c =
    let primary = c.in_ok-primary-2.primary in
    let secondary = c.in_ok-secondary.secondary in
    let body = c.in_ok-secondary.body.now in
    let same = c.in_ok-primary-2.ensures.passed.0 in
    let none = c.in_ok-primary-2.ensures.passed.1 in
    let front = rw c.in_ok-primary.ensures.ok_part at c.primary_at.ensures.spelled in
    let parts = rw c.in_ok-field.ensures.ok_part at c.data_field_at.ensures.parts in
    let len = rw c.in_ok-field.ensures.ok_part at c.data_field_at.ensures.len in
    let back = rw c.in_ok-secondary.ensures.ok_part at c.secondary_at.ensures.spelled in
    let back_fits = rw c.in_ok-secondary.ensures.ok_part at c.secondary_at.ensures.fits in
    let front_fits = rw (c.in_ok-primary.ensures.ok_part) at c.primary_at.ensures.fits in
    let fits_front = subst FitsPrimary (sym same) front_fits in
    let bit = rw c.in_ok-secondary.ensures.ok_part at c.secondary_at.ensures.kind in
    rw c.header_of.ensures (
      fits primary secondary _ body none back_fits back (omega (arith, len, fits_front.data_length)),
      is_found _ _ _ _ primary secondary body fits_front none
          (bit ∙ ap (λ (b : Bool). if b then 1 else 0) c.is_telecommand.ensures) (omega arith)
          (front ∙ ap (λ (p : Primary). primary_octets p ++ c.in_ok-primary.rest.now) (sym same)) parts len back,
    )
