-- What a link took last in a step that a failed link halted.
use Rattle.std.proofs.Common.{◌≡◌, inl, inr, ℕ, ◌+◌, List, [], ◌∷◌, ◌++◌, length, map, sym, ap, subst, ◌∙◌, arith}
use Rattle.std.proofs.Common.{append_assoc}
use Rattle.std.specs.Prelude.{flat_map, slice_index_or}
use Rattle.std.proofs.lemmas.List.{map-append, append-nil, length-map}
use Rattle.std.proofs.lemmas.Simd.{map-map}
use Rattle.std.proofs.lemmas.Grind.{flat_map-append}
use Rattle.mm_record.specs.Supplies.{Supply}
use Rattle.mm_plan.specs.Table.{Table}
use Rattle.mm_desk.specs.declared.held.Held.{Held}
use Rattle.mm_shared.specs.Stores.{id_at}
use Rattle.mm_memory.specs.Holdings.{Holdings}
use Rattle.mm_memory.specs.Laws.{ids_of}
use Rattle.mm_dump.specs.Courses.{Course, sent_by}
use Rattle.mm_dump.specs.Sending.{Sent, all_sent}
use Rattle.mm_report.specs.declared.cause.Cause.TheVariants.{LinkFailed}
use Rattle.mm_exec.specs.Readiness.{RunStart, Stops}
use Rattle.mm_carry.specs.declared.run_end.Halted.{Halted}
use Rattle.mm_exec.specs.RunInput.{RunInput}
use Rattle.mm_exec.specs.RunState.{RunState, with_supplies}
use Rattle.mm_exec.specs.Step.{IsCauseIn}
use Rattle.mm_exec.specs.Ending.{over_memory, IsHaltedIn, IsRefusal, IsStopped, stop_of, IsHalted}
use Rattle.callers.specs.Again.{GoesOutAgain, sent_over}
use Rattle.callers.specs.declared.ends.Burst.{Burst}
use Rattle.callers.specs.declared.ends.Downlink.{Downlink}

-- how often a downlink failed
abbrev failed_of : Downlink → ℕ
failed_of l = l.failed

-- what orders sent, the last one last
last_sent : (ids : List (List ℕ)) (course : ℕ → Course) (early : List ℕ) (last : ℕ) → (course last).order.place ≡ last
    → sent_by ids (map course (early ++ last ∷ [])) ≡ sent_by ids (map course early) ++ all_sent (id_at ids last)
    (course last).sent
last_sent ids course early last of =
    let one = λ (c : Course). all_sent (id_at ids c.order.place) c.sent in
    ap (flat_map one) (map-append course early (last ∷ []))
    ∙ flat_map-append one (map course early) (course last ∷ [])
    ∙ ap (λ (xs : List Sent). sent_by ids (map course early) ++ xs) (append-nil (one (course last))
    ∙ ap (λ (k : ℕ). all_sent (id_at ids k) (course last).sent) of)

module _ (m : RunInput) (plan : Table) (sources : List Burst) (links : List Downlink) (memory : Holdings)
    (halted : Halted Burst Downlink) (rest : List Supply) where
  -- what the run left
  abbrev left : RunState Burst Downlink
  left = over_memory memory halted.sources.items halted.links.items

  in_step : (at step : ℕ) → halted.cause ≡ LinkFailed step → IsHaltedIn sent_over failed_of m plan
      (over_memory m.memory m.gives links) at (with_supplies left rest) (stop_of halted) halted.report
      → GoesOutAgain links halted.links.items memory
  in_step at step is_link was =
      let same : step ≡ at = subst (IsCauseIn at) is_link was.stopped_is.cause_is in
      let failed = was.failed_link (is_link ∙ ap LinkFailed same) in
      let l = failed.links.some.0 in
      let broke = failed.links.some.2 in
      let carried = failed.links.links l failed.links.some.1 in
      let course = failed.links.settled.course in
      let old = slice_index_or (map sent_over was.before.links) l [] in
      let ids_in = map-map (λ (label : List ℕ × ℕ). label.0) (λ (h : Held). (h.id, h.channel)) in
      let ids : ids_of was.before.stores ≡ ids_of memory.stores =
      sym (ids_in was.before.stores) ∙ ap (map (λ (label : List ℕ × ℕ). label.0)) (sym was.stopped_is.labels)
      ∙ ids_in memory.stores in
      let many : length was.before.links ≡ length links =
      sym (length-map was.before.links failed_of) ∙ ap length was.ran.done.links_are.no_failure
      ∙ length-map links failed_of in
      record {
        link = l;
        within = omega (arith, failed.links.some.1, many);
        failures = broke.failures ∙ ap (λ (xs : List ℕ). slice_index_or xs l 0 + 1) was.ran.done.links_are.no_failure;
        store = broke.last;
        earlier = old ++ sent_by (ids_of was.before.stores) (map course broke.early);
        again = (course broke.last).sent;
        list =
            carried.grew
            ∙ ap (λ (places : List ℕ). old ++ sent_by (ids_of was.before.stores) (map course places)) broke.are
            ∙ ap (λ (xs : List Sent). old ++ xs) (last_sent (ids_of was.before.stores) course broke.early broke.last
            broke.of)
            ∙ sym (append_assoc old (sent_by (ids_of was.before.stores) (map course broke.early)) _)
            ∙ ap (λ (names : List (List ℕ)). (old ++ sent_by (ids_of was.before.stores) (map course broke.early))
            ++ all_sent (id_at names broke.last) (course broke.last).sent) ids;
        unsent = (course broke.last).unsent;
        one = broke.broke.last;
        newer = broke.newer;
        holds = broke.oldest;
      }

  no_refusal : (o : RunStart) (step : ℕ) → halted.cause ≡ LinkFailed step → IsRefusal o halted.cause
      → GoesOutAgain links halted.links.items memory
  no_refusal o step is_link (inl stops) = let none = subst (Stops o) is_link stops in absurd none
  no_refusal o step is_link (inr lacking) = let other = lacking.0 in absurd (cc (other, is_link))

  pub goes_again : (step : ℕ) → halted.cause ≡ LinkFailed step → IsHalted sent_over failed_of m plan sources links
      memory halted rest → GoesOutAgain links halted.links.items memory
  goes_again step is_link halts = by_end halts.1
    where
      by_end : IsStopped sent_over failed_of m plan (over_memory m.memory sources links) left rest (stop_of halted)
          halted.report → GoesOutAgain links halted.links.items memory
      by_end (inl was) = in_step was.0 step is_link was.1
      by_end (inr never) = no_refusal _ step is_link never.1
