-- From what each recorder and each store says, to the step.
use Rattle.mm_record.proofs.Words
use Words.{◌≡◌, ◌⊎◌, inl, inr, ℕ, ◌*◌, ◌<◌, ◌≤◌, List, [], ◌∷◌, ◌++◌, length, get_or, map, filter, All, Option, Some}
use Words.{None, IfNone, IfSome, refl, sym, subst, ap, ◌∙◌, append_assoc, length-append, arith, append-nil, get_or-map}
use Words.{length-map, All-map, sum_by-le, IfSome_then, MatchOption-at_none, map-map, All-unmapped, All-front}
use Words.{SpacePacket, Entry, Event, Offer, Fault, NoMemory, Held, IsState, AreTaken, IsTaken, IsShuffleOfEvents}
use Words.{count_of, asked_in, opening_at, blank, AreBelow, IsShuffle, list_at, lists_at, states_of, labels_of, id_at}
use Words.{HaveLegalLogs, PortView, asked, IsReason, is_routed, Supply, WhateverComes, RecordingContext, offers}
use Words.{HaveOffered, given_in, AllRecorded, AllHaveLegalOffers, HasLegalOffers, IsOpen, IsRecorderRun, worst_of}
use Words.{RecorderRun, Records, StoreRefused, TakesAll, map_same, same_many}
use Rattle.mm_record.specs.Steps.{AreRecorderRuns}
use Rattle.mm_record.proofs.Offers.{offers_more}
use Rattle.mm_record.proofs.Runs.{Run, run_of, runs_until, worst_has, worst_none}
use Rattle.mm_record.proofs.Supplying.{length-supplies, zip_long}
use Rattle.mm_record.proofs.Taking.{IsOfferAt, filter_fewer, not_taken, parts_all, refusal_in_log, shuffle_is_taken}

-- a log that is a shuffle of lists is one of what is asked in them
asked_shuffled : (lists : List (List Entry)) (log : List Entry) → IsShuffle lists log
    → IsShuffleOfEvents (map asked_in lists) log
asked_shuffled lists log shuffle = record {
  below = subst (λ n. AreBelow n log) (sym (length-map lists asked_in)) shuffle.below;
  parts = λ seat within.
      let here : seat < length lists = omega (arith, length-map lists asked_in) in
      ap asked_in (shuffle.parts seat here) ∙ sym (get_or-map asked_in lists seat [] [] here);
}

-- offers at the step's moment, and no more of them than a source gives packets
record AreOffers (e : RecordingContext) (asks : List Event) : Type 0 where
  offers_are : All (IsOfferAt e.now) asks
  few : length asks ≤ 65535

-- the first of the offers of the packets that a source gave, of few
first_offers : (e : RecordingContext) (k : ℕ) (given gave left : List SpacePacket) (asks rest : List Event)
    → given ≡ gave ++ left → length given ≤ 65535 → offers e k gave ≡ asks ++ rest → AreOffers e asks
first_offers e k given gave left asks rest order few are =
    let routed = is_routed e.routes (id_at e.ids k) in
    let offer = λ (p : SpacePacket). Offer e.now p in
    let mapped = length-map (filter routed gave) offer in
    record {
      offers_are = All-front (IsOfferAt e.now) asks rest (subst (All (IsOfferAt e.now)) are
          (All-map (IsOfferAt e.now) offer (filter routed gave)
          (λ i d within. (get_or (filter routed gave) i d, refl))));
      few = omega (
        arith,
        filter_fewer routed gave,
        mapped,
        ap length order,
        ap length are,
        length-append gave left,
        length-append asks rest,
      );
    }

-- what a recorder offered to a store is the first of the offers of what its source gave
few_offers : (e : RecordingContext) (before after : Supply) (gave : List SpacePacket) (offered : ℕ → List Event)
    (broken : Option Fault)
    → IsRecorderRun e before after (record { gave = gave; offered = offered; broken = broken })
    → length (before e.step) ≤ 65535 → (k : ℕ) → k < length e.ids → AreOffers e (offered k)
few_offers e before after gave offered None run few k within =
    first_offers e k (before e.step) gave (after e.step) (offered k) [] run.order few
    (sym (run.whole.1 k within) ∙ sym (append-nil (offered k)))
few_offers e before after gave offered (Some fault) run few k within =
    let began = run.partly.began k within in
    let all = offers_more e k run.partly.before (run.partly.last ∷ []) in
    let parts = append_assoc (offers e k run.partly.before) began.made began.rest in
    first_offers e k (before e.step) gave (after e.step) (offered k) began.rest run.order few
    (ap (offers e k) run.partly.are ∙ cc (all, began.are, began.asks_are, parts))

-- what recorders did, without their ports
are_runs : {e : RecordingContext} (runs : List (Run e))
    → AreRecorderRuns e (map (λ r. r.before) runs) (map (λ r. r.after) runs) (map run_of runs)
unfolding AreRecorderRuns
are_runs [] = tt
are_runs (r ∷ runs) = (r.did.run, are_runs runs)

-- what a step of recorders leaves of stores that were opened
module _ (e : RecordingContext) (runs : List (Run e)) (before after : List Held)
    (logs : HaveLegalLogs (map (λ r. r.port) runs) (states_of before) (states_of after))
    (as_many : length e.ids ≡ length before) (labels : labels_of after ≡ labels_of before) where
  -- the calls of each recorder on the store at an index
  abbrev lists : ℕ → List (List Entry)
  lists k = lists_at k (map (λ r. r.port) runs)

  many : length (states_of after) ≡ length e.ids
  many = length-map after (λ (h : Held). h.state) ∙ same_many after before labels ∙ sym as_many

  -- the log of a store is a shuffle of what the recorders asked of it, which are these lists of offers
  abbrev legal : (k : ℕ) → k < length (states_of after) → (all : List (List Event))
      → map (λ r. asked r.port k) runs ≡ all
      → HasLegalOffers all (opening_at (states_of before) k) (opening_at (states_of after) k)
  legal k within all are =
      let log = logs k within in
      let asked_are = map-map asked_in (λ (w : PortView). list_at w k) (map (λ (r : Run e). r.port) runs)
      ∙ map-map (λ (w : PortView). asked w k) (λ (r : Run e). r.port) runs ∙ are in
      record { log = log.log; run = log.run; shuffle = rw asked_are at (asked_shuffled (lists k) log.log log.shuffle) }

  -- a legal log of what the recorders offered leads each store to its state now
  abbrev all_legal : AllHaveLegalOffers (map run_of runs) (states_of before) (states_of after)
  all_legal k within = legal k within _ (sym (map-map (λ (run : RecorderRun). run.offered k) run_of runs))

  -- each store has recorded what the sources gave, if no recorder stopped early
  all_recorded : All (λ r. r.broken ≡ None) runs
      → AllRecorded e (given_in e.step (map (λ r. r.before) runs)) (states_of before) (states_of after)
  all_recorded whole k within =
      let inside : k < length e.ids = omega (arith, many) in
      let all_asked = map_same (λ (r : Run e). asked r.port k) (λ (r : Run e). offers e k (r.before e.step)) runs
      (λ i d here.
      let r = get_or runs i d in
      let done = MatchOption-at_none _ _ (whole i d here) r.did.run.whole in
      let order = r.did.run.order ∙ ap (λ (x : List SpacePacket). r.did.gave ++ x) done.0 ∙ append-nil r.did.gave in
      done.1 k inside ∙ ap (offers e k) (sym order)) in
      let lists_taken : All AreTaken (lists k) = simp map-map (All-map AreTaken (λ (r : Run e). list_at r.port k) runs
      (λ i d here. MatchOption-at_none _ _ (whole i d here) (get_or runs i d).did.taken k inside)) in
      let offers_are = map-map (offers e k) (λ (s : Supply). s e.step) (map (λ (r : Run e). r.before) runs)
      ∙ map-map (λ (s : Supply). offers e k (s e.step)) (λ (r : Run e). r.before) runs in
      let log = logs k within in
      record {
        legal = legal k within _ (all_asked ∙ sym offers_are);
        taken = parts_all (λ e. IsTaken e.event e.reply) (length (lists k)) log.log log.shuffle.below
            (λ seat here. subst AreTaken (sym (log.shuffle.parts seat here)) (lists_taken seat [] here));
      }

  -- why a recorder stopped early: out of memory, or what a store answered to an offer
  abbrev IsCause : Fault → Type 0
  IsCause fault = (fault ≡ NoMemory) ⊎ StoreRefused (map run_of runs) (states_of before) (states_of after) fault

  reason_at : All (λ r. IfSome r.broken IsCause) runs
  reason_at i d here = IfSome_then (get_or runs i d).broken (get_or runs i d).did.reason by_reason
    where
      by_reason : (fault : Fault) → IsReason (length e.ids) (get_or runs i d).port fault → IsCause fault
      by_reason fault (inl lack) = inl lack
      by_reason fault (inr refusal) =
          let k = refusal.index in
          let inside : k < length (states_of after) = omega (arith, refusal.within, many) in
          let list : get_or (lists k) i [] ≡ list_at (get_or runs i d).port k =
          simp map-map (get_or-map (λ (r : Run e). list_at r.port k) runs i d [] here) in
          let seat : i < length (lists k) = simp length-map here in
          let shuffle = (logs k inside).shuffle in
          inr (record {
            place = k;
            within = inside;
            legal = all_legal k inside;
            refused = refusal_in_log fault (lists k) (logs k inside).log shuffle i seat (rw list refusal.refused);
          })

  -- a store that surely takes what comes in the step takes all offers
  all_taken : length runs ≤ 16 → TakesAll e before (map (λ r. r.before) runs) → (k : ℕ)
      → k < length (states_of after)
      → (store : HasLegalOffers (map (λ run. run.offered k) (map run_of runs)) (opening_at (states_of before) k)
      (opening_at (states_of after) k)) → AreTaken store.log
  all_taken few takes k within store =
      let asks = map (λ (run : RecorderRun). run.offered k) (map run_of runs) in
      let few_each = All-unmapped (λ (s : Supply). length (s e.step) ≤ 65535) (λ (r : Run e). r.before) runs
      takes.few in
      let are : All (AreOffers e) asks = All-map (AreOffers e) (λ (run : RecorderRun). run.offered k) (map run_of runs)
      (All-map (λ run. AreOffers e (run.offered k)) run_of runs (λ i d here.
      let r = get_or runs i d in
      few_offers e r.before r.after r.did.gave (asked r.port) r.broken r.did.run (few_each i d here) k
      (omega (arith, within, many)))) in
      let state : IsOpen (opening_at (states_of before) k) = All-map IsOpen (λ (h : Held). h.state) before
      takes.stores_are k blank
      (omega (arith, within, many, as_many, length-map before (λ (h : Held). h.state))) in
      let total : count_of asks ≤ length asks * 65535 =
      sum_by-le (λ (es : List Event). length es) 65535 asks (λ i d inside. (are i d inside).few) in
      let most : length asks ≤ 16 = simp length-map few in
      let sum : count_of asks ≤ 1048560 = omega (arith, total, most) in
      shuffle_is_taken e.now (opening_at (states_of before) k) (opening_at (states_of after) k) asks store.log
      (record {
        storage = state.storage;
        last = omega (arith, state.last, sum);
        moment = omega (arith, takes.moment, sum);
        count = omega (arith, state.offered, sum);
      })
      store.run store.shuffle (λ i d inside. (are i d inside).offers_are)

  records_of : (why : Option Fault) → why ≡ worst_of (map (λ r. r.broken) runs) → All (λ h. IsState h.state) after
      → length runs ≤ 16 → Records e before after why (map (λ r. r.before) runs) (map (λ r. r.after) runs)
  records_of why is sound few = record {
    labels = labels;
    sound = sound;
    many = length-map runs (λ (r : Run e). r.after) ∙ sym (length-map runs (λ (r : Run e). r.before));
    runs = map run_of runs;
    are_runs = are_runs runs;
    why_is = is ∙ ap worst_of (sym (map-map (λ (run : RecorderRun). run.broken) run_of runs));
    logs = all_legal;
    others = λ t other. simp map-map (map_same (λ (r : Run e). r.after t) (λ (r : Run e). r.before t) runs
        (λ i d here. (get_or runs i d).did.run.others t other));
    reason = reason;
    recorded = if_none why (λ none. all_recorded (whole none));
    nothing_left = if_none why (λ none. All-map (λ s. s e.step ≡ []) (λ (r : Run e). r.after) runs
        (λ i d here. (MatchOption-at_none _ _ (whole none i d here) (get_or runs i d).did.run.whole).0));
    none_refused = λ takes. IfSome_then why reason (lacked takes);
  }
    where
      reason : IfSome why IsCause
      reason = rw is (worst_has IsCause (map (λ r. r.broken) runs)
          (All-map (λ f. IfSome f IsCause) (λ (r : Run e). r.broken) runs reason_at))

      lacked : TakesAll e before (map (λ r. r.before) runs) → (fault : Fault) → IsCause fault → fault ≡ NoMemory
      lacked takes fault (inl lack) = lack
      lacked takes fault (inr refused) = absurd (not_taken refused.legal.log fault refused.refused
          (all_taken few takes refused.place refused.within refused.legal))

      if_none : {P : Type 0} (o : Option Fault) → (o ≡ None → P) → IfNone o P
      if_none None f = f refl
      if_none (Some x) f = tt

      whole : why ≡ None → All (λ r. r.broken ≡ None) runs
      whole none = All-unmapped (λ f. f ≡ None) (λ (r : Run e). r.broken) runs
          (worst_none (map (λ r. r.broken) runs) (sym is ∙ none))

-- what a step of recorders leaves, whatever comes
pub comes_of : {S : Type 0} (leads : S → S → Type 0) (until : S → S → Supply) (e : RecordingContext)
    (sources left : List S) (ports workers : List PortView) (why : Option Fault) (before after : List Held)
    → HaveOffered leads until e sources left ports workers why
    → HaveLegalLogs workers (states_of before) (states_of after)
    → length e.ids ≡ length before → labels_of after ≡ labels_of before → All (λ h. IsState h.state) after
    → length sources ≤ 16 → WhateverComes leads until sources left (Records e before after why)
comes_of leads until e sources left ports workers why before after offered logs as_many labels sound few lasts lead =
    let both = runs_until leads until e sources left lasts workers offered.faults offered.each lead in
    let ran = both.1 in
    let supplied = length-supplies until sources lasts (zip_long leads sources lasts both.0) in
    let count : length ran.runs ≤ 16 =
    omega (arith, few, supplied, ap length ran.given_are, length-map ran.runs (λ (r : Run e). r.before)) in
    let why_is = offered.why_is ∙ ap worst_of ran.faults_are in
    rw (ran.given_are, ran.left_are)
    (both.0, records_of e ran.runs before after (rw ran.workers_are at logs) as_many labels why why_is sound count)
