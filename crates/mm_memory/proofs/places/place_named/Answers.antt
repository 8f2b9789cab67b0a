use Rattle.mm_memory.proofs.Words.{◌≡◌, rules, arith, slice_get-get_or, store_of, StandsAt, stands_at_first, Some, None}
use Rattle.mm_memory.proofs.TextLemmas.{none_has, none_stands, names}
use Rattle.mm_memory.proofs.places.place_named.Goals as goal

pub returns-in_err-field : goal.returns-in_err-field
returns-in_err-field c =
    let none = none_has c.args.text.now c.args.stores.now c.in_err-field.ensures.padded in
    search (rules, none)

pub returns-in_err-place : goal.returns-in_err-place
returns-in_err-place c =
    let stores = c.args.stores.now in
    let field = c.in_ok-field.field in
    let none : store_of field stores ≡ None = stands_at_first field stores None c.in_err-place.ensures.place in
    let none_named = none_stands c.args.text.now field stores c.in_ok-field.ensures.padded none in
    search (rules, none_named)

pub bounds-stores-place : goal.bounds-stores-place
bounds-stores-place c =
    let stands : StandsAt c.in_ok-field.field c.args.stores.now c.in_ok-place.place =
    stands_at_first c.in_ok-field.field c.args.stores.now (Some c.in_ok-place.place) c.in_ok-place.ensures.place in
    omega (arith, stands.within)

pub returns : goal.returns
returns c =
    let stores = c.args.stores.now in
    let place = c.in_ok-place.place in
    let stands : StandsAt c.in_ok-field.field stores place =
    stands_at_first c.in_ok-field.field stores (Some place) c.in_ok-place.ensures.place in
    let at = slice_get-get_or stores place _ stands.within in
    record {
      named = names c.args.text.now c.in_ok-field.field stores place _ c.in_ok-field.ensures.padded stands at
          c.field-field.ensures.is_field;
    }
