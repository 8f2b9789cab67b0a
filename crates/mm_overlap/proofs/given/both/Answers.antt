use Rattle.std.proofs.Common.{◌≡◌, ℕ, ◌<◌, ◌≤◌, ◌+◌, ◌++◌, [], ◌∷◌, length, max, refl, sym, ap, ◌∙◌, subst, arith, rules}
use Rattle.std.specs.Prelude.{All, AllPairs, IsTrue, map, nat_le}
use Rattle.std.specs.List.{range_with_len}
use Rattle.std.proofs.lemmas.Bool.Decides.{nat_tests}
use Rattle.std.proofs.lemmas.List.FromFn.{map-range_with_len_more, length-map-range_with_len}
use Rattle.mm_mission.specs.Mission.{EndsBefore, is_pass}
use Rattle.mm_overlap.specs.Given.{passes_of, mission_of, AreTransmitters, IsGiven, IsCount}
use Rattle.mm_overlap.proofs.Passes.{few_passes, own_passes, own_apart, few_fit, each_fits, are_transmitters}
use Rattle.mm_overlap.proofs.given.both.Goals as goal

pub with_passes-requires-clause-few : goal.with_passes-requires-clause-few
with_passes-requires-clause-few c =
    let m = c.args.mission.now in
    let passes = c.args.passes.now in
    let k = c.loop-transmitter.transmitter in
    let few = few_fit m passes c.in_ok-numbers.numbers.items _ (sym c.in_ok-check_passes.ensures) in
    let own = few_passes m passes c.in_ok-numbers.numbers.items k in
    rw (c.in_ok-own.ensures, c.deref-in-loop-transmitter.ensures.value) (omega (arith, few, own))

pub with_passes-requires-clause-fit : goal.with_passes-requires-clause-fit
with_passes-requires-clause-fit c =
    let m = c.args.mission.now in
    let passes = c.args.passes.now in
    let k = c.loop-transmitter.transmitter in
    rw (c.in_ok-own.ensures, c.deref-in-loop-transmitter.ensures.value) (own_passes m passes
    c.in_ok-numbers.numbers.items (λ p. IsTrue (is_pass m.lasts p)) k
    (each_fits m passes c.in_ok-numbers.numbers.items _ (sym c.in_ok-check_passes.ensures)))

pub with_passes-requires-clause-apart : goal.with_passes-requires-clause-apart
with_passes-requires-clause-apart c =
    let m = c.args.mission.now in
    let passes = c.args.passes.now in
    let k = c.loop-transmitter.transmitter in
    rw (c.in_ok-own.ensures, c.deref-in-loop-transmitter.ensures.value) (own_apart m passes
    c.in_ok-numbers.numbers.items k c.in_ok-numbers.ensures.given)

pub loop-transmitter-preserved : goal.loop-transmitter-preserved
loop-transmitter-preserved c =
    let m = c.args.mission.now in
    let passes = c.args.passes.now in
    let numbers = c.in_ok-numbers.numbers.items in
    let k = c.loop-transmitter.transmitter in
    let own : c.in_ok-own.own.items ≡ passes_of passes numbers k =
    c.in_ok-own.ensures ∙ ap (λ ns. passes_of passes ns k) c.deref-in-loop-transmitter.ensures.value in
    let one : c.in_ok-with_passes.field-0 ≡ mission_of m passes numbers k = rw own at c.in_ok-with_passes.ensures in
    c.in_ok-push.ensures.items ∙ ap (λ own. c.loop-transmitter.missions.items ++ own ∷ []) one
    ∙ ap (λ ms. ms ++ mission_of m passes numbers k ∷ []) c.loop-transmitter.invariant
    ∙ sym (map-range_with_len_more (mission_of m passes numbers) 0 k k (omega arith))

pub returns-clause-transmitters : goal.returns-clause-transmitters
returns-clause-transmitters c =
    let m = c.args.mission.now in
    let passes = c.args.passes.now in
    let numbers = c.in_ok-numbers.numbers.items in
    let k = c.loop-transmitter.transmitter in
    let few = few_fit m passes c.in_ok-numbers.numbers.items _ (sym c.in_ok-check_passes.ensures) in
    let count = c.count-transmitter-end.ensures in
    let some = count.count.some in
    let all : k ≡ c.count-transmitter-end.result = omega (arith, some) in
    let many = ap length c.loop-transmitter.invariant ∙ length-map-range_with_len (mission_of m passes numbers) 0 k in
    record {
      some = omega (arith, many, all, some);
      few = omega (arith, many, all, count.few, few);
      each = rw c.loop-transmitter.invariant (are_transmitters m passes numbers k);
    }

pub returns-clause-both : goal.returns-clause-both
returns-clause-both c =
    let m = c.args.mission.now in
    let passes = c.args.passes.now in
    let numbers = c.in_ok-numbers.numbers.items in
    let k = c.loop-transmitter.transmitter in
    let count = rw c.deref.ensures.value at c.count-transmitter-end.ensures.count in
    let some = count.some in
    let all : c.count-transmitter-end.result ≡ k = omega (arith, some) in
    let many = ap length c.loop-transmitter.invariant ∙ length-map-range_with_len (mission_of m passes numbers) 0 k in (
      numbers,
      record {
        as_many = c.in_ok-numbers.ensures.as_many;
        given = c.in_ok-numbers.ensures.given;
        count = rw (many, ← all) count;
        each = rw many c.loop-transmitter.invariant;
      },
    )
