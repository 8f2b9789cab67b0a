-- What a store answers to the calls of an order, and what they leave of its state.
use Rattle.mm_dump.proofs.Words.{◌≡◌, ℕ, List, [], ◌∷◌, ◌++◌, refl, sym, ap, subst, ◌∙◌, zero, suc, All, Option, Some}
use Rattle.mm_dump.proofs.Words.{None, Ok, Err, Stored, clock_end, count_up_to, first_in, Entry, Begin, Next, Abort}
use Rattle.mm_dump.proofs.Words.{Delete, Reply, Fault, State, give, step, begun, given, entry, replay, IsLegal, IsRun}
use Rattle.mm_dump.proofs.Words.{opening_at, aborted, IsBrokenOrder, All-head, All-tail, Held, states_of, Order, Ends}
use Rattle.mm_desk.specs.declared.state.Retrieval.{Retrieval}
use Rattle.mm_desk.specs.declared.reply.Reply.TheVariants as reply

-- a state in which this retrieval is on, or none
abbrev during : Option Retrieval → State → State
during q s = record s { retrieval = q }

-- where no retrieval is on one of all packets is begun
abbrev all_packets : Retrieval
all_packets = record { from = 1; to = clock_end; after = 0 }

begins : (s : State) (r : Reply) → s.retrieval ≡ None → r ≡ (step s (Begin 1 clock_end)).0
    → (r ≡ reply.Done (Ok tt)) × ((step s (Begin 1 clock_end)).1 ≡ during (Some all_packets) s)
begins s r off answers = let done = rw off at answers in (done, rw off refl)

-- where one is on it gives a packet and stays on, or it comes to its end
abbrev past : Retrieval → Option Stored → Option Retrieval
past q None = None
past q (Some p) = Some (record q { after = p.time })

nexts : (s : State) (q : Retrieval) (r : Reply) → s.retrieval ≡ Some q → r ≡ (step s Next).0
    → (p : Option Stored) × (r ≡ reply.Given (Ok p)) × ((step s Next).1 ≡ during (past q p) s)
nexts s q r on answers =
    let found = first_in q.from q.to q.after s.store.content in
    let gives = rw on at answers in
    let both = given_of found in
    (found, gives ∙ ap reply.Given both.0, rw on both.1)
  where
    given_of : (o : Option Stored) → ((give s q o).0 ≡ Ok o) × ((give s q o).1 ≡ during (past q o) s)
    given_of None = (refl, refl)
    given_of (Some p) = (refl, refl)

-- where one is on it is aborted
aborts : (s : State) (q : Retrieval) (r : Reply) → s.retrieval ≡ Some q → r ≡ (step s Abort).0
    → (r ≡ reply.Done (Ok tt)) × ((step s Abort).1 ≡ during None s)
aborts s q r on answers = let done = rw on at answers in (done, rw on refl)

-- where none is on packets are deleted
pub deletes : (limit : ℕ) (s : State) (r : Reply) → s.retrieval ≡ None → r ≡ (step s (Delete limit)).0
    → (count : ℕ) × (r ≡ reply.Deleted (Ok count))
deletes limit s r off answers = let done = rw off at answers in (count_up_to limit s.store.content, done)

-- a retrieval is ended by an abort, and by a next at its end; it refuses no next
pub abort_ends : (seat : ℕ) (r : Reply) → Ends (entry seat Abort r) (aborted seat)
abort_ends seat r = record {
  is = λ s q on answers.
      let both = aborts s q r on answers in
      (ap (entry seat Abort) both.0, ap (λ (u : State). u.retrieval) both.1);
}

pub over_ends : (seat : ℕ) → Ends (entry seat Next (reply.Given (Ok None))) (entry seat Next (reply.Given (Ok None)))
over_ends seat = record {
  is = λ s q on answers.
      let next = nexts s q _ on answers in
      let over : next.0 ≡ None = cc next.1 in
      (refl, ap (λ (u : State). u.retrieval) next.2 ∙ ap (past q) over);
}

pub refused_ends : (seat : ℕ) (fault : Fault) (e : Entry) → Ends (entry seat Next (reply.Given (Err fault))) e
refused_ends seat fault e = record {
  is = λ s q on answers. let next = nexts s q _ on answers in absurd (cc next.1);
}

-- a retrieval that gave a packet is still on
after_packet : (s : State) (q : Retrieval) (p : Stored) → s.retrieval ≡ Some q
    → reply.Given (Ok (Some p)) ≡ (step s Next).0 → (step s Next).1 ≡ during (past q (Some p)) s
after_packet s q p on answers =
    let next = nexts s q _ on answers in
    let more : next.0 ≡ Some p = cc next.1 in
    next.2 ∙ ap (λ (o : Option Stored). during (past q o) s) more

stays_on : (s : State) (q : Retrieval) (seat : ℕ) (gave : List Stored) (rest : List Entry) → s.retrieval ≡ Some q
    → IsLegal s (given seat gave ++ rest)
    → (mid : State) × (now : Retrieval) × (mid.retrieval ≡ Some now) × IsLegal mid rest
stays_on s q seat [] rest on legal = (s, q, on, legal)
stays_on s q seat (p ∷ gave) rest on legal =
    stays_on (step s Next).1 (record q { after = p.time }) seat gave rest
    (ap (λ (u : State). u.retrieval) (after_packet s q p on legal.0)) legal.1

-- the calls of a retrieval that is begun where none is on, gives packets and is ended; then none is on
pub retrieval_calls : (s : State) (seat : ℕ) (r : Reply) (gave : List Stored) (last expected : Entry)
    (rest : List Entry) → s.retrieval ≡ None → Ends last expected
    → IsLegal s (entry seat (Begin 1 clock_end) r ∷ given seat gave ++ last ∷ rest)
    → (entry seat (Begin 1 clock_end) r ≡ begun seat) × (last ≡ expected)
    × ((mid : State) × (mid.retrieval ≡ None) × IsLegal mid rest)
retrieval_calls s seat r gave last expected rest off ends legal =
    let first = begins s r off legal.0 in
    let mid = stays_on (step s (Begin 1 clock_end)).1 all_packets seat gave (last ∷ rest)
    (ap (λ (u : State). u.retrieval) first.1) legal.1 in
    let over = ends.is mid.0 mid.1 mid.2 mid.3.0 in
    (ap (entry seat (Begin 1 clock_end)) first.0, over.0, ((step mid.0 last.event).1, over.1, mid.3.1))

-- a retrieval that gives packets and is then aborted changes nothing else
inside_keeps : (s : State) (q : Retrieval) (seat : ℕ) (gave : List Stored) → s.retrieval ≡ Some q
    → IsLegal s (given seat gave ++ aborted seat ∷ []) → replay s (given seat gave ++ aborted seat ∷ []) ≡ during None s
inside_keeps s q seat [] on legal = (aborts s q _ on legal.0).1
inside_keeps s q seat (p ∷ gave) on legal =
    let same = after_packet s q p on legal.0 in
    inside_keeps (step s Next).1 (record q { after = p.time }) seat gave (ap (λ (u : State). u.retrieval) same) legal.1
    ∙ ap (during None) same

pub broken_keeps : (s t : State) (seat wanted : ℕ) (gave : List Stored) (calls : List Entry)
    → IsBrokenOrder seat wanted gave calls → IsRun s calls t → (t ≡ s) × (t.retrieval ≡ None)
broken_keeps s t seat wanted gave calls order run =
    let same = subst (λ (es : List Entry). IsRun s es t) order.are run in
    let idle = was_off s.retrieval refl same.legal.0 in
    let first = begins s _ idle same.legal.0 in
    let all = inside_keeps (step s (Begin 1 clock_end)).1 all_packets seat gave
    (ap (λ (u : State). u.retrieval) first.1) same.legal.1 ∙ ap (during None) first.1 in
    let left = same.leaves ∙ all in
    (left ∙ ap (λ (q : Option Retrieval). during q s) (sym idle), ap (λ (u : State). u.retrieval) left)
  where
    was_off : (q : Option Retrieval) → s.retrieval ≡ q → reply.Done (Ok tt) ≡ (step s (Begin 1 clock_end)).0
        → s.retrieval ≡ None
    was_off None is answers = is
    was_off (Some q) is answers = let busy = rw is at answers in absurd (cc busy)

-- whether no retrieval is on
abbrev IsIdle : Held → Type 0
IsIdle h = h.state.retrieval ≡ None

idle_at : (stores : List Held) (k : ℕ) → All IsIdle stores → (opening_at (states_of stores) k).retrieval ≡ None
idle_at [] k idle = refl
idle_at (h ∷ stores) zero idle = All-head IsIdle h stores idle
idle_at (h ∷ stores) (suc k) idle = idle_at stores k (All-tail IsIdle h stores idle)

-- no retrieval is on at a store that an order names
pub all_idle : (stores : List Held) (orders : List Order) → All (λ (h : Held). h.state.retrieval ≡ None) stores
    → All (λ (o : Order). (opening_at (states_of stores) o.place).retrieval ≡ None) orders
all_idle stores orders idle i d within = idle_at stores _ idle
