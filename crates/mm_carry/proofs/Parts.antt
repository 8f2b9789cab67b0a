-- The parts of a step, and the first offers of what sources give.
use Rattle.std.proofs.lemmas.Simd.{map-map}
use Rattle.mm_carry.proofs.Words.{length-map, All-nil, same_Some, AllZip, Option, Some, None, IfNone, IfSome}
use Rattle.mm_carry.proofs.Words.{SpacePacket, Event, Fault, Held, labels_of, RecordingContext, offers, Supply, Sent}
use Rattle.mm_carry.proofs.Words.{Order, OrderBroken, Cause, AreFirstOffers, AreOrders, RunState, KeepsRest, IsCauseIn}
use Rattle.mm_carry.proofs.Words.{NeverRefused, cause_of, orders_after, stop_for, LinkFailed, IsStep, IsWholeStep}
use Rattle.mm_carry.proofs.Words.{StepStopped, Stop, ◌≡◌, ℕ, ◌<◌, ◌≤◌, List, [], ◌∷◌, ◌++◌, length, map, refl, sym, ap}
use Rattle.mm_carry.proofs.Words.{subst, ◌∙◌, arith, append_assoc, RecorderRun, StoppedEarly, IsRecorderRun, TakesAll}
pub use Rattle.mm_shared.proofs.Opening.{same_many as as_many}
use Rattle.mm_carry.proofs.Replays.{IsRun-append}
use Rattle.mm_record.specs.Steps.{given_in, AreRecorderRuns}
use Rattle.mm_dump.proofs.Unbroken.{all_dumped}
use Rattle.mm_record.proofs.Offers.{offers_more}
use Rattle.mm_desk.specs.declared.fault.Fault.TheVariants as fault
use Rattle.mm_dump.specs.declared.order.OrderBroken.TheVariants as worst

-- stores with the same labels have the same identifiers
pub same_ids : (xs ys : List Held) → labels_of xs ≡ labels_of ys → map (λ (h : Held). h.id) xs
    ≡ map (λ (h : Held). h.id) ys
same_ids xs ys same = simp map-map at (ap (map (λ (l : List ℕ × ℕ). l.0)) same)

-- sources of recorders keep the rest
pub keep_turns : (e : RecordingContext) (xs ys : List Supply) (turns : List RecorderRun) → AreRecorderRuns e xs ys turns
    → AllZip (KeepsRest e.step) xs ys
unfolding AreRecorderRuns
keep_turns e [] [] turns had = tt
keep_turns e (x ∷ xs) (y ∷ ys) (turn ∷ turns) had = ((turn.gave, had.0.order), keep_turns e xs ys turns had.1)
keep_turns e xs ys turns had = absurd had

-- sources that give the same in some step are as many
pub as_many_sources : (t : ℕ) (xs ys : List Supply) → given_in t ys ≡ given_in t xs → length ys ≡ length xs
as_many_sources t xs ys same = simp length-map at (ap length same)

-- the orders that are carried out in a step may be carried out
pub orders_left : (n : ℕ) (fault : Option Fault) (orders : List Order) → AreOrders n orders
    → AreOrders n (orders_after fault orders)
orders_left n None orders may = may
orders_left n (Some fault) orders may = record {
  few = omega arith;
  places = All-nil (λ (o : Order). o.place < n);
  some = All-nil (λ (o : Order). 1 ≤ o.amount);
  apart = λ i j d less within. absurd (omega (arith, within));
}

-- where no orders are carried out, this holds
pub at_early : {P : Type 0} (fault : Option Fault) (orders : List Order) → (orders_after fault orders ≡ [] → P)
    → IfSome fault (λ _. P)
at_early None orders holds = tt
at_early (Some fault) orders holds = holds refl

-- the cause of a stop is that of the step
stopped_for : (cause : Option Cause) (spent : ℕ) (stop : Stop) → Some stop ≡ stop_for cause spent
    → cause ≡ Some stop.cause
stopped_for None spent stop is = absurd (cc is)
stopped_for (Some cause) spent stop is = sym (ap (λ (s : Stop). Some s.cause) (same_Some stop _ is))

-- without a stop no recorder stopped early, and no order broke
no_stop : (step spent : ℕ) (fault : Option Fault) (broken : Option OrderBroken) → None ≡ stop_for
    (cause_of step fault broken) spent → (fault ≡ None) × (broken ≡ None)
no_stop step spent None None is = (refl, refl)
no_stop step spent (Some fault.NoMemory) None is = absurd (cc is)
no_stop step spent (Some other) None is = absurd (cc is)
no_stop step spent fault (Some worst.LinkFailed) is = absurd (cc is)
no_stop step spent fault (Some worst.NoMemory) is = absurd (cc is)

-- what the cause of a stop tells: it is one of the step; no store refused a packet, where a recorder stopped early out
-- of memory alone; and where it is a link that failed, one was the worst for which orders broke
pub record Tells (step : ℕ) (why : Option Fault) (broken : Option OrderBroken) (cause : Cause) : Type 0 where
  pub in_step : IsCauseIn step cause
  pub unrefused : IfSome why (λ f. f ≡ fault.NoMemory) → NeverRefused cause
  pub linked : cause ≡ LinkFailed step → broken ≡ Some worst.LinkFailed

tells : (step : ℕ) (why : Option Fault) (broken : Option OrderBroken) (cause : Cause)
    → cause_of step why broken ≡ Some cause → Tells step why broken cause
tells step None None cause is = absurd (cc is)
tells step (Some fault.NoMemory) None cause is = subst (Tells step (Some fault.NoMemory) None) (same_Some _ cause is)
    (record { in_step = refl; unrefused = λ lack at same. absurd (cc same); linked = λ same. absurd (cc same) })
tells step (Some other) None cause is = subst (Tells step (Some other) None) (same_Some _ cause is)
    (record { in_step = refl; unrefused = λ lack. absurd (cc lack); linked = λ same. absurd (cc same) })
tells step why (Some worst.LinkFailed) cause is = subst (Tells step why (Some worst.LinkFailed)) (same_Some _ cause is)
    (record { in_step = refl; unrefused = λ lack at same. absurd (cc same); linked = λ same. refl })
tells step why (Some worst.NoMemory) cause is = subst (Tells step why (Some worst.NoMemory)) (same_Some _ cause is)
    (record { in_step = refl; unrefused = λ lack at same. absurd (cc same); linked = λ same. absurd (cc same) })

-- a recorder makes first offers of what its source gives
first_turn : (e : RecordingContext) (before after : ℕ → List SpacePacket) (turn : RecorderRun) (k : ℕ)
    → IsRecorderRun e before after turn → k < length e.ids → AreFirstOffers e k (before e.step) (turn.offered k)
first_turn e before after turn k had within = by_broken turn.broken had.whole had.partly
  where
    gave_first : offers e k (before e.step) ≡ offers e k turn.gave ++ offers e k (after e.step)
    gave_first = ap (offers e k) had.order ∙ offers_more e k turn.gave (after e.step)

    by_broken : (why : Option Fault) → IfNone why ((after e.step ≡ [])
        × ((k : ℕ) → k < length e.ids → turn.offered k ≡ offers e k turn.gave))
        → IfSome why (λ fault. StoppedEarly e turn.gave turn.offered) → AreFirstOffers e k (before e.step)
        (turn.offered k)
    by_broken None whole partly = (
      [],
      gave_first ∙ ap (λ ps. offers e k turn.gave ++ offers e k ps) whole.0 ∙ ap (λ (es : List Event). es ++ [])
          (sym (whole.1 k within)),
    )
    by_broken (Some why) whole partly =
        let began = partly.began k within in
        let there : offers e k turn.gave ≡ turn.offered k ++ began.rest =
        ap (offers e k) partly.are ∙ offers_more e k partly.before (partly.last ∷ [])
        ∙ ap (λ (es : List Event). offers e k partly.before ++ es) began.are
        ∙ sym (append_assoc (offers e k partly.before) began.made began.rest)
        ∙ ap (λ (es : List Event). es ++ began.rest) (sym began.asks_are) in (
          began.rest ++ offers e k (after e.step),
          gave_first ∙ ap (λ (es : List Event). es ++ offers e k (after e.step)) there ∙ append_assoc (turn.offered k)
              began.rest (offers e k (after e.step)),
        )

pub first_turns : (e : RecordingContext) (xs ys : List Supply) (turns : List RecorderRun) (k : ℕ) → AreRecorderRuns e xs
    ys turns → k < length e.ids
    → AllZip (AreFirstOffers e k) (given_in e.step xs) (map (λ turn. turn.offered k) turns)
unfolding AreRecorderRuns
first_turns e [] [] [] k had within = tt
first_turns e (x ∷ xs) (y ∷ ys) (turn ∷ turns) k had within =
    (first_turn e x y turn k had.0 within, first_turns e xs ys turns k had.1 within)
first_turns e xs ys turns k had within = absurd had

-- a step without a stop is whole
pub whole_step : {L : Type 0} (sent : L → List Sent) (failed : L → ℕ) (e : RecordingContext) (orders : List Order)
    (before after : RunState Supply L) → IsStep sent failed e orders None before after
    → IsWholeStep sent failed e orders before after
whole_step sent failed e orders before after is =
    let none = no_stop e.step is.spent is.fault is.broken is.stop_is in
    let records = rw none.0 at is.records in
    let dumped = all_dumped sent failed e.ids orders _ _ _ _ (rw (none.0, none.1) at is.dumps).settled in
    let many : length after.stores ≡ length is.mid = as_many after.stores is.mid (is.labels ∙ sym records.labels) in
    record {
      labels = is.labels;
      gave = dumped.gave;
      runs = λ k within.
          let first = records.recorded k (omega (arith, within, many, length-map is.mid (λ (h : Held). h.state))) in
          let second = dumped.stores k (omega (arith, within, length-map after.stores (λ (h : Held). h.state))) in
          record {
            recorded = first.legal.log;
            dumped = second.calls;
            run = IsRun-append _ _ _ first.legal.log second.calls first.legal.run second.run;
            shuffle = first.legal.shuffle;
            taken = first.taken;
            dump = second.dump;
          };
      places = dumped.places;
      once = dumped.once;
      links = dumped.links;
      nothing_left = records.nothing_left;
      others = records.others;
    }

-- a step that was broken off
module _ {L : Type 0} (sent : L → List Sent) (failed : L → ℕ) (e : RecordingContext) (orders : List Order) (stop : Stop)
    (before after : RunState Supply L) (is : IsStep sent failed e orders (Some stop) before after) where
  pub told : Tells e.step is.fault is.broken stop.cause
  told = tells e.step is.fault is.broken stop.cause
      (stopped_for (cause_of e.step is.fault is.broken) is.spent stop is.stop_is)

  -- what it leaves
  pub stopped_of : StepStopped e.step before after stop.cause
  stopped_of = record {
    cause_is = told.in_step;
    labels = is.labels;
    keep = keep_turns e before.sources after.sources is.records.runs is.records.are_runs;
    others = is.records.others;
  }

  -- where each store surely takes what comes, no store refused a packet
  pub never_refused : TakesAll e before.stores before.sources → NeverRefused stop.cause
  never_refused takes = told.unrefused (is.records.none_refused takes)
