-- What legal logs are: a run with one entry more, how many entries a shuffle has, and what a whole dump order gave and
-- left.
use Rattle.mm_desk.proofs.Words.{◌≡◌, inl, inr, ℕ, zero, suc, ◌+◌, ◌<◌, ◌≤◌, true, false, ltb, List, [], ◌∷◌, ◌++◌}
use Rattle.mm_desk.proofs.Words.{length, take, All, refl, sym, ap, subst, ◌∙◌, add-one, arith, length-append, filter}
use Rattle.mm_desk.proofs.Words.{Option, Some, None, Ok, is_some, lt-ltb, le-ltb, ltb-false, and_right, cases_lt}
use Rattle.mm_desk.proofs.Words.{cond_both, nat_tests, length-map, take_all, All-head, All-tail, sum_by_more, Stored}
use Rattle.mm_desk.proofs.Words.{Entry, Event, Begin, Next, Reply, Retrieval, IsRising, clock_end, is_in, first_in}
use Rattle.mm_desk.proofs.Words.{kept_after, count_up_to-kept, State, IsState, give, step, IsShuffleOfEvents, count_of}
use Rattle.mm_desk.proofs.Words.{entry, replay, IsLegal, IsRun, AreBelow, part}
use Rattle.mm_store.proofs.ContentLemmas.{IsRising-rest, later_than_oldest, kept_after-later}
use Rattle.mm_desk.specs.Orders.{begun, given, ended, last_time, removed, IsOrderOf, Dumps}
use Rattle.mm_desk.proofs.Cases.{begin_cases}
use Rattle.mm_desk.specs.declared.reply.Reply.TheVariants as reply

-- a replay with one entry more is one step more
replay-more : (s : State) (es : List Entry) (e : Entry) → replay s (es ++ e ∷ []) ≡ (step (replay s es) e.event).1
replay-more s [] e = refl
replay-more s (d ∷ es) e = replay-more (step s d.event).1 es e

-- a legal log is legal with the machine's reply after it
IsLegal-more : (s : State) (es : List Entry) (e : Entry) → IsLegal s es → e.reply ≡ (step (replay s es) e.event).0
    → IsLegal s (es ++ e ∷ [])
IsLegal-more s [] e legal answers = (answers, tt)
IsLegal-more s (d ∷ es) e legal answers = (legal.0, IsLegal-more (step s d.event).1 es e legal.1 answers)

-- a run goes on by one step of the machine
pub run_more : (s : State) (es : List Entry) (t : State) (seat : ℕ) (event : Event) (answer : Reply) (u : State)
    → IsRun s es t → step t event ≡ (answer, u) → IsRun s (es ++ entry seat event answer ∷ []) u
run_more s es t seat event answer u run stepped =
    let here : step (replay s es) event ≡ (answer, u) = rw (← run.leaves) stepped in
    record {
      legal = IsLegal-more s es (entry seat event answer) run.legal (sym (ap (λ (p : Reply × State). p.0) here));
      leaves = sym (replay-more s es (entry seat event answer) ∙ ap (λ (p : Reply × State). p.1) here);
    }

-- the entries of seats below a number
abbrev below : ℕ → List Entry → List Entry
below n log = filter (λ e. ltb e.seat n) log

-- the entries of no seat
below-zero : (log : List Entry) → length (below 0 log) ≡ 0
below-zero [] = refl
below-zero (e ∷ es) = grind (arith, nat_tests, below-zero es)

-- with one seat more come the entries of that seat
below-suc : (n : ℕ) (log : List Entry) → length (below (suc n) log) ≡ length (below n log) + length (part n log)
below-suc n [] = refl
below-suc n (e ∷ es) = grind (arith, nat_tests, below-suc n es)

-- all entries of a log of seats below a number
below-all : (n : ℕ) (log : List Entry) → AreBelow n log → length (below n log) ≡ length log
below-all n [] all = refl
below-all n (e ∷ es) all =
    rw (lt-ltb e.seat n (All-head (λ (e : Entry). e.seat < n) e es all))
    (ap suc (below-all n es (All-tail (λ (e : Entry). e.seat < n) e es all)))

-- the first lists of a shuffle have as many events as the log has entries of their seats
first_lists : (lists : List (List Event)) (log : List Entry) (n : ℕ) → IsShuffleOfEvents lists log → n ≤ length lists
    → count_of (take n lists) ≡ length (below n log)
first_lists lists log zero shuffle within = sym (below-zero log)
first_lists lists log (suc n) shuffle within =
    let firsts = first_lists lists log n shuffle (omega arith) in
    let more = rw add-one at (sum_by_more (λ (events : List Event). length events) lists n [] (omega arith)) in
    let here = ap length (shuffle.parts n (omega arith)) in
    let mapped = length-map (part n log) (λ (e : Entry). e.event) in
    omega (arith, firsts, more, here, mapped, below-suc n log)

-- a shuffle of lists has as many entries as they have events
pub count_of_shuffle : (lists : List (List Event)) (log : List Entry) → IsShuffleOfEvents lists log
    → count_of lists ≡ length log
count_of_shuffle lists log shuffle =
    let all = first_lists lists log (length lists) shuffle (omega arith) in
    let whole = ap count_of (take_all (length lists) lists (omega arith)) in
    sym whole ∙ all ∙ below-all (length lists) log shuffle.below

-- a state with the retrieval of all packets on, after this time
abbrev retrieving : State → ℕ → State
retrieving s after = record s { retrieval = Some (record { from = 1; to = clock_end; after = after }) }

-- a state with no retrieval
abbrev idle : State → State
idle s = record s { retrieval = None }

-- a packet that the search found, or none, and what is left of packets after a time: that one with those after it, or
-- none
abbrev Left : ℕ → Option Stored → List Stored → Type 0
Left after (Some x) xs = (after < x.time) × (kept_after after xs ≡ x ∷ kept_after x.time xs)
Left after None xs = kept_after after xs ≡ []

-- a retrieval of all packets finds the first one left
left_found : (after : ℕ) (xs : List Stored) → IsRising xs → All (λ p. 1 ≤ p.time) xs → All (λ p. p.time ≤ clock_end) xs
    → Left after (first_in 1 clock_end after xs) xs
left_found after [] rising from_one early = refl
left_found after (x ∷ xs) rising from_one early = elim (cases_lt after x.time) [
  | inl newer ↦
      let here : is_in 1 clock_end after x ≡ true = grind (arith, nat_tests, from_one 0 x, early 0 x) in
      let later = later_than_oldest x xs rising in
      let all = kept_after-later after xs (λ k d within. omega (arith, newer, later k d within)) in
      let same : x.time ≤ x.time = omega arith in
      let both : kept_after after xs ≡ kept_after x.time xs = all ∙ sym (kept_after-later x.time xs later) in
      let more = ap (λ (ys : List Stored). x ∷ ys) both in
      rw here (newer, rw (lt-ltb after x.time newer, le-ltb x.time x.time same) more)
  | inr older ↦
      let here : is_in 1 clock_end after x ≡ false = and_right _ _ (le-ltb after x.time older) in
      let from_one_on = All-tail (λ (p : Stored). 1 ≤ p.time) x xs from_one in
      let rest = left_found after xs (IsRising-rest x xs rising) from_one_on
      (All-tail (λ (p : Stored). p.time ≤ clock_end) x xs early) in
      rw here (passed older _ rest)
]
  where
    passed : x.time ≤ after → (found : Option Stored) → Left after found xs → Left after found (x ∷ xs)
    passed older (Some y) left =
        (left.0, rw (le-ltb after x.time older, le-ltb y.time x.time (omega (arith, left.0))) left.1)
    passed older None left = rw (le-ltb after x.time older) left

-- the answer of a retrieval is what it found
give_tells : (s : State) (r : Retrieval) (found : Option Stored) → (give s r found).0 ≡ Ok found
give_tells s r (Some p) = refl
give_tells s r None = refl

-- a retrieval of all packets from a state that is sound
module _ (s : State) (sound : IsState s) where
  -- what is left after this time
  abbrev left_after : ℕ → List Stored
  left_after after = kept_after after s.store.content

  -- what stands after this answer of the retrieval, which is after this time
  record Answered (after : ℕ) (answer : Option Stored) : Type 0 where
    left : Left after answer s.store.content
    state : (step (retrieving s after) Next).1
        ≡ (give (retrieving s after) (record { from = 1; to = clock_end; after = after }) answer).1

  answered : (after : ℕ) (answer : Option Stored) → reply.Given (Ok answer) ≡ (step (retrieving s after) Next).0
      → Answered after answer
  answered after answer told =
      let r : Retrieval = record { from = 1; to = clock_end; after = after } in
      let tells = give_tells (retrieving s after) r (first_in 1 clock_end after s.store.content) in
      let is : first_in 1 clock_end after s.store.content ≡ answer = cc in
      let early : All (λ p. p.time ≤ clock_end) s.store.content =
      λ k d within. omega (arith, sound.store.up_to_last k d within, sound.store.last_fits) in
      let found = left_found after s.store.content sound.store.rising sound.store.from_one early in
      record { left = rw is at found; state = rw is }

  -- what stands after packets were given: they are the first ones left, and the retrieval goes on after them
  record Gave (after seat : ℕ) (gs : List Stored) (es : List Entry) : Type 0 where
    split : left_after after ≡ gs ++ left_after (last_time after gs)
    legal : IsLegal (retrieving s (last_time after gs)) es
    replays : replay (retrieving s after) (given seat gs ++ es) ≡ replay (retrieving s (last_time after gs)) es

  gave : (after seat : ℕ) (gs : List Stored) (es : List Entry) → IsLegal (retrieving s after) (given seat gs ++ es)
      → Gave after seat gs es
  gave after seat [] es legal = record { split = refl; legal = legal; replays = refl }
  gave after seat (g ∷ gs) es legal =
      let first = answered after (Some g) legal.0 in
      let rest = gave g.time seat gs es (subst (λ (t : State). IsLegal t (given seat gs ++ es)) first.state legal.1) in
      record {
        split = first.left.1 ∙ ap (λ (ys : List Stored). g ∷ ys) rest.split;
        legal = rest.legal;
        replays = ap (λ (t : State). replay t (given seat gs ++ es)) first.state ∙ rest.replays;
      }

  -- what stands after the retrieval is ended: where fewer packets than were wanted were given, no more are left
  record Ends (after wanted : ℕ) (gs : List Stored) (e : Entry) : Type 0 where
    state : (step (retrieving s after) e.event).1 ≡ idle s
    all : length gs < wanted → left_after after ≡ []

  ends : (after seat wanted : ℕ) (gs : List Stored)
      → (ended seat wanted gs).reply ≡ (step (retrieving s after) (ended seat wanted gs).event).0
      → Ends after wanted gs (ended seat wanted gs)
  ends after seat wanted gs =
      cond_both (ltb (length gs) wanted) _ _
      (λ (e : Entry). e.reply ≡ (step (retrieving s after) e.event).0 → Ends after wanted gs e)
      (λ fewer told. let over = answered after None told in record { state = over.state; all = λ less. over.left })
      (λ enough told. let many = ltb-false (length gs) wanted enough in
      record { state = refl; all = λ less. absurd (omega (arith, many)) })

  -- all packets are those given and those left
  held : (gs : List Stored) → left_after 0 ≡ gs ++ left_after (last_time 0 gs)
      → s.store.content ≡ gs ++ left_after (last_time 0 gs)
  held gs split = sym (kept_after-later 0 s.store.content sound.store.from_one) ∙ split

  -- a state with what is left after this time, from which this many packets were deleted
  abbrev dumped : ℕ → ℕ → State
  dumped limit count =
      record s { store = record s.store { content = left_after limit }; deleted = s.deleted + count; retrieval = None }

  -- the deletion up to the packet given last leaves what is left
  deletes : (seat count : ℕ) (gs : List Stored) → s.store.content ≡ gs ++ left_after (last_time 0 gs)
      → replay (idle s) (removed seat gs count) ≡ dumped (last_time 0 gs) (length gs)
  deletes seat count [] all =
      ap (λ (ys : List Stored). record s { store = record s.store { content = ys }; retrieval = None }) all
      ∙ ap (λ (n : ℕ). record (dumped 0 0) { deleted = n }) (omega arith)
  deletes seat count (g ∷ gs) all =
      let limit = last_time g.time gs in
      let lengths = ap length all ∙ length-append (g ∷ gs) (left_after limit) in
      ap (dumped limit) (omega (arith, count_up_to-kept limit s.store.content, lengths))

-- no retrieval is on
none_of : (retrieval : Option Retrieval) → is_some retrieval ≡ false → retrieval ≡ None
none_of None none = refl
none_of (Some r) none = cc

-- where a retrieval of all packets is begun none was on, and it is on
begins : (s : State) → reply.Done (Ok tt) ≡ (step s (Begin 1 clock_end)).0
    → (s.retrieval ≡ None) × ((step s (Begin 1 clock_end)).1 ≡ retrieving s 0)
begins s =
    begin_cases s (λ r. reply.Done (Ok tt) ≡ reply.Done r.0 → (s.retrieval ≡ None) × (r.1 ≡ retrieving s 0)) 1 clock_end
    (λ fault other bad. absurd (cc bad))
    (λ free fine. (none_of s.retrieval free, refl))

-- the packets that it gave
givings_of : (s : State) (sound : IsState s) (seat : ℕ) (gs : List Stored) (es : List Entry)
    → IsLegal s (begun seat ∷ given seat gs ++ es) → Gave s sound 0 seat gs es
givings_of s sound seat gs es legal =
    gave s sound 0 seat gs es (subst (λ (u : State). IsLegal u (given seat gs ++ es)) (begins s legal.0).1 legal.1)

-- the packets that it gave are the oldest ones held
pub given_oldest : (s : State) (seat : ℕ) (gs : List Stored) (es : List Entry) → IsState s
    → IsLegal s (begun seat ∷ given seat gs ++ es)
    → (left : List Stored) × (s.store.content ≡ gs ++ left)
given_oldest s seat gs es sound legal = (_, held s sound gs (givings_of s sound seat gs es legal).split)

-- a whole order dumps the oldest packets
pub order_dumps : (s t : State) (seat wanted : ℕ) (gave : List Stored) (calls : List Entry) → IsState s
    → IsOrderOf seat wanted gave calls → IsRun s calls t → Dumps s t wanted gave
order_dumps s t seat wanted gs calls sound order run =
    let tail = ended seat wanted gs ∷ removed seat gs order.count in
    let legal : IsLegal s (begun seat ∷ given seat gs ++ tail) = subst (IsLegal s) order.are run.legal in
    let began = begins s legal.0 in
    let givings = givings_of s sound seat gs tail legal in
    let all = held s sound gs givings.split in
    let end = ends s sound (last_time 0 gs) seat wanted gs givings.legal.0 in
    let leaves : t ≡ dumped s sound (last_time 0 gs) (length gs) =
    run.leaves ∙ ap (replay s) order.are ∙ ap (λ (u : State). replay u (given seat gs ++ tail)) began.1
    ∙ givings.replays
    ∙ ap (λ (u : State). replay u (removed seat gs order.count)) end.state ∙ deletes s sound seat order.count gs all in
    let lengths = ap length all ∙ length-append gs (kept_after (last_time 0 gs) s.store.content) in
    rw leaves (record {
      many = elim (cases_lt (length gs) wanted)
          [ inl fewer ↦ omega (arith, ap length (end.all fewer)) | inr enough ↦ omega (arith, order.most) ];
      oldest = all;
      others = rw began.0;
    })
