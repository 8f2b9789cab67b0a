use Rattle.std.proofs.Common.{◌≡◌, ◌<◌, length, vec_len, get_or, refl, sym, inl, inr, arith, rules, []}
use Rattle.std.specs.Prelude.{IsTrue, map}
use Rattle.std.proofs.lemmas.List.{length-map}
use Rattle.std.proofs.lemmas.List.Elements.{All-map}
use Rattle.mm_links.specs.declared.better.Part.{Part}
use Rattle.mm_mission.specs.declared.parts.Pass.{Pass}
use Rattle.mm_mission.specs.Mission.{is_pass}
use Rattle.mm_overlap.specs.Better.{channels_of, AreSent, part_of}
use Rattle.mm_overlap.proofs.Passes.{each_fits}
use Rattle.mm_overlap.proofs.BetterLemmas.{part_known, part_in_range, are_parts}
use Rattle.mm_overlap.proofs.serving.better.Goals as goal

pub parts_of-requires : goal.parts_of-requires
parts_of-requires c =
    let m = c.args.mission.now in
    let passes = c.args.passes.now in
    let octets = c.in_ok-octets.octets.items in
    let sent = rw (c.deref-2.ensures.value, c.in_ok-channels.ensures) at c.in_ok-octets.ensures in
    let is = rw (c.deref-4.ensures.value, c.in_ok-offers.ensures.offers, c.deref-3.ensures.value)
    at c.in_ok-parts.ensures.used in
    rw c.deref-5.ensures.value (λ k d within. part_known m passes c.in_ok-time.time octets
    c.in_ok-time.ensures.time.some sent (get_or c.in_ok-parts.parts.items k d) (is.each k d within))

pub with_passes-requires-clause-fit : goal.with_passes-requires-clause-fit
with_passes-requires-clause-fit c =
    let m = c.args.mission.now in
    let passes = c.args.passes.now in
    let octets = c.in_ok-octets.octets.items in
    let parts = c.in_ok-parts.parts.items in
    let sent = rw (c.deref-2.ensures.value, c.in_ok-channels.ensures) at c.in_ok-octets.ensures in
    let is = rw (c.deref-4.ensures.value, c.in_ok-offers.ensures.offers, c.deref-3.ensures.value)
    at c.in_ok-parts.ensures.used in
    let fits = each_fits m passes [] _ (sym c.in_ok-check_passes.ensures) in
    rw (c.in_ok-own.ensures, c.deref-5.ensures.value) (All-map (λ (p : Pass). IsTrue (is_pass m.lasts p))
    (part_of passes) parts (λ k d within. part_in_range m passes c.in_ok-time.time octets
    c.in_ok-time.ensures.time.some sent fits (get_or parts k d) (is.each k d within)))

pub with_passes-requires-clause-apart : goal.with_passes-requires-clause-apart
with_passes-requires-clause-apart c =
    let m = c.args.mission.now in
    let passes = c.args.passes.now in
    let octets = c.in_ok-octets.octets.items in
    let parts = c.in_ok-parts.parts.items in
    let sent = rw (c.deref-2.ensures.value, c.in_ok-channels.ensures) at c.in_ok-octets.ensures in
    let is = rw (c.deref-4.ensures.value, c.in_ok-offers.ensures.offers, c.deref-3.ensures.value)
    at c.in_ok-parts.ensures.used in
    rw (c.in_ok-own.ensures, c.deref-5.ensures.value) (are_parts m passes c.in_ok-time.time octets
    c.in_ok-time.ensures.time.some sent parts is c.in_ok-offers.ensures.ends).apart

pub returns-clause-parts : goal.returns-clause-parts
returns-clause-parts c =
    let m = c.args.mission.now in
    let passes = c.args.passes.now in
    let octets = c.in_ok-octets.octets.items in
    let parts = c.in_ok-parts.parts.items in
    let sent = rw (c.deref-2.ensures.value, c.in_ok-channels.ensures) at c.in_ok-octets.ensures in
    let is = rw (c.deref-4.ensures.value, c.in_ok-offers.ensures.offers, c.deref-3.ensures.value)
    at c.in_ok-parts.ensures.used in
    rw (
      c.in_ok-mission.ensures,
      c.in_ok-own.ensures,
      c.deref-5.ensures.value,
      c.in_ok-numbers.ensures,
      c.deref-6.ensures.value,
    ) (are_parts m passes c.in_ok-time.time octets c.in_ok-time.ensures.time.some sent parts is
    c.in_ok-offers.ensures.ends)

pub returns-then-len-gt-MAX_PASSES-clause-refused : goal.returns-then-len-gt-MAX_PASSES-clause-refused
returns-then-len-gt-MAX_PASSES-clause-refused c =
    let m = c.args.mission.now in
    let passes = c.args.passes.now in
    let octets = c.in_ok-octets.octets.items in
    let parts = c.in_ok-parts.parts.items in
    let sent = rw (c.deref-2.ensures.value, c.in_ok-channels.ensures) at c.in_ok-octets.ensures in
    let is = rw (c.deref-4.ensures.value, c.in_ok-offers.ensures.offers, c.deref-3.ensures.value)
    at c.in_ok-parts.ensures.used in
    let are = are_parts m passes c.in_ok-time.time octets c.in_ok-time.ensures.time.some sent parts is
    c.in_ok-offers.ensures.ends in
    let as_long : vec_len c.in_ok-parts.parts ≡ length parts = search rules in
    λ _. inr (inr (
      refl,
      (
        map (λ (p : Part). p.pass) parts,
        (
          map (part_of passes) parts,
          are,
          omega (arith, as_long, c.len.ensures, c.if-len-gt-MAX_PASSES.true, length-map parts (part_of passes)),
        ),
      ),
    ))
