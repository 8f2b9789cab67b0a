-- One order carried out: its begin, its packets, and its end.
use Rattle.mm_dump.proofs.Words.{◌≡◌, ℕ, List, [], ◌∷◌, ◌++◌, map, refl, sym, ap, ◌∙◌, append_assoc, arith}
use Rattle.mm_dump.proofs.Words.{length-append, ◌+◌, ◌<◌, ◌≤◌, length, subst, Some, Ok, Option, None, append-nil}
use Rattle.mm_dump.proofs.Words.{map-append, Stored, Entry, Event, Reply, Begin, Next, Abort, Delete, State, given}
use Rattle.mm_dump.proofs.Words.{last_time, ended, removed, entry, clock_end, PortView, with_call, OrderStore, Progress}
use Rattle.mm_dump.proofs.Words.{CallsOnce, Deletes, Advances, Ends, Retrieves, with_calls, BreaksOff, SentAll, last_of}
use Rattle.mm_dump.proofs.Words.{OrderCarriedOut, order_store, id_at, Sent, all_sent, le-ltb, lt-ltb, Order}
use Rattle.mm_dump.proofs.Words.{OrderBroken, aborted, unsent_at, IsLegal}
use Rattle.mm_dump.proofs.Leaving.{retrieval_calls, deletes, abort_ends, over_ends}
use Rattle.mm_desk.specs.declared.reply.Reply.TheVariants as reply

-- a call whose reply is known
pub calls_once : (place : ℕ) (event : Event) (old new : PortView) (r : Reply) → new ≡ with_call old place event r
    → CallsOnce place event old new
calls_once place event old new r called = record { reply = r; call = called }

module _ (store : OrderStore) (a b : Progress) where
  -- a call that sends nothing
  pub called : (event : Event) (r : Reply) → b.port ≡ with_call a.port store.place event r → b.sent ≡ a.sent
      → b.failed ≡ a.failed → b.spent ≡ a.spent → Advances store (entry a.port.number event r ∷ []) [] [] a b
  called event r call same failed spent = record {
    port = call;
    all = same ∙ sym (append-nil a.sent);
    failures = omega (arith, failed);
    blocks = omega (arith, spent);
  }

  -- a packet that was given and that the link did not take, after which the retrieval was aborted
  pub packet_failed : (p : Stored) (mid : PortView) (aborts : CallsOnce store.place Abort mid b.port)
      → mid ≡ with_call a.port store.place Next (reply.Given (Ok (Some p)))
      → b.sent ≡ a.sent → b.failed ≡ a.failed + 1 → b.spent ≡ a.spent + 1
      → Advances store (given a.port.number (p ∷ []) ++ entry a.port.number Abort aborts.reply ∷ []) [] (p ∷ []) a b
  packet_failed p mid aborts gives same failed spent = record {
    port = aborts.call ∙ ap (λ (q : PortView). with_call q store.place Abort aborts.reply) gives
        ∙ ap (λ (calls : List (ℕ × Entry)). record a.port { list = calls })
        (append_assoc a.port.list ((store.place, entry a.port.number Next (reply.Given (Ok (Some p)))) ∷ [])
        ((store.place, entry a.port.number Abort aborts.reply) ∷ []));
    all = same ∙ sym (append-nil a.sent);
    failures = omega (arith, failed);
    blocks = omega (arith, spent);
  }

  -- a part of an order, and then another
  advances_then : (m : Progress) (xs ys calls : List Entry) (ps qs sent us : List Stored) → calls ≡ xs ++ ys
      → sent ≡ ps ++ qs → Advances store xs ps [] a m → Advances store ys qs us m b → Advances store calls sent us a b
  advances_then m xs ys calls ps qs sent us calls_are sent_are first more =
      let there : Entry → ℕ × Entry = λ e. (store.place, e) in
      record {
        port = more.port ∙ ap (λ (p : PortView). with_calls store.place p ys) first.port
            ∙ ap (λ (list : List (ℕ × Entry)). record a.port { list = list })
            (append_assoc a.port.list (map there xs) (map there ys)
            ∙ ap (λ (list : List (ℕ × Entry)). a.port.list ++ list)
            (sym (map-append there xs ys) ∙ ap (map there) (sym calls_are)));
        all = more.all ∙ ap (λ (ss : List Sent). ss ++ all_sent store.id qs) first.all
            ∙ append_assoc a.sent (all_sent store.id ps) (all_sent store.id qs)
            ∙ ap (λ (ss : List Sent). a.sent ++ ss)
            (sym (map-append (λ (p : Stored). record { store = store.id; stored = p }) ps qs)
            ∙ ap (all_sent store.id) (sym sent_are));
        failures = omega (arith, first.failures, more.failures);
        blocks = omega (arith, first.blocks, more.blocks, length-append ps qs, ap length sent_are);
      }

-- the packets given, and then others
given_more : (seat : ℕ) (ps qs : List Stored) → given seat (ps ++ qs) ≡ given seat ps ++ given seat qs
given_more seat ps qs = map-append (λ (p : Stored). entry seat Next (reply.Given (Ok (Some p)))) ps qs

-- the time of the last packet
last_time_of : (time : ℕ) (ps : List Stored) (p : Stored) → last_time time (ps ++ p ∷ []) ≡ p.time
last_time_of time [] p = refl
last_time_of time (q ∷ ps) p = last_time_of q.time ps p

last_of_more : (ps : List Stored) (p : Stored) → last_of (ps ++ p ∷ []) ≡ Some p.time
last_of_more [] p = refl
last_of_more (q ∷ ps) p = ap (λ (time : ℕ). Some time) (last_time_of q.time ps p)

-- this many packets were given and sent
pub record SentSoFar (store : OrderStore) (many : ℕ) (last : Option ℕ) (a b : Progress) : Type 0 where
  pub sent : List Stored
  pub count : length sent ≡ many
  pub last_is : last ≡ last_of sent
  pub advance : Advances store (given a.port.number sent) sent [] a b

-- at the start none was given
pub none_so_far : (store : OrderStore) (a : Progress) → SentSoFar store 0 None a a
none_so_far store a = record {
  sent = [];
  count = refl;
  last_is = refl;
  advance = record {
    port = ap (λ (calls : List (ℕ × Entry)). record a.port { list = calls }) (sym (append-nil a.port.list));
    all = sym (append-nil a.sent);
    failures = omega arith;
    blocks = omega arith;
  };
}

module _ (store : OrderStore) (many : ℕ) (last : Option ℕ) (a b : Progress) (so_far : SentSoFar store many last a b)
    (c : Progress) where
  -- the seat is the same
  same : b.port.number ≡ a.port.number
  same = ap (λ (p : PortView). p.number) so_far.advance.port

  -- a packet more was given and sent
  pub so_far_more : (p : Stored) → c.port ≡ with_call b.port store.place Next (reply.Given (Ok (Some p)))
      → c.sent ≡ b.sent ++ record { store = store.id; stored = p } ∷ [] → c.failed ≡ b.failed → c.spent ≡ b.spent + 1
      → SentSoFar store (many + 1) (Some p.time) a c
  so_far_more p call all failed spent = record {
    sent = so_far.sent ++ p ∷ [];
    count = omega (arith, so_far.count, length-append so_far.sent (p ∷ []));
    last_is = sym (last_of_more so_far.sent p);
    advance = advances_then store a c b (given a.port.number so_far.sent) (given b.port.number (p ∷ [])) _
        so_far.sent (p ∷ []) _ []
        (given_more a.port.number so_far.sent (p ∷ [])
        ∙ ap (λ (seat : ℕ). given a.port.number so_far.sent ++ given seat (p ∷ [])) (sym same)) refl so_far.advance
        (record { port = call; all = all; failures = omega (arith, failed); blocks = omega (arith, spent) });
  }

  -- the retrieval was ended by this call, after packets that were not sent
  ended_by : (wanted : ℕ) (us : List Stored) (e : Entry) (expected : ℕ → Entry) → many + length us ≤ wanted
      → Ends e (expected b.port.number) → Advances store (given b.port.number us ++ e ∷ []) [] us b c
      → Retrieves store wanted (expected a.port.number) so_far.sent us a c
  ended_by wanted us e expected few ends more =
      let ps : List Stored = so_far.sent in
      let seat : ℕ = a.port.number in
      record {
        most = omega (arith, few, so_far.count, length-append ps us);
        last_call = e;
        ends = subst (λ (n : ℕ). Ends e (expected n)) same ends;
        advance = advances_then store a c b (given seat ps) (given b.port.number us ++ e ∷ []) _ ps [] ps us
            (ap (λ (calls : List Entry). calls ++ e ∷ []) (given_more seat ps us)
            ∙ append_assoc (given seat ps) (given seat us) (e ∷ [])
            ∙ ap (λ (n : ℕ). given seat ps ++ (given n us ++ e ∷ [])) (sym same))
            (sym (append-nil ps)) so_far.advance more;
      }

  -- the order broke
  pub so_far_broken : (wanted : ℕ) (why : OrderBroken) (us : List Stored) (e : Entry) → many + length us ≤ wanted
      → length us ≡ unsent_at why → Ends e (aborted b.port.number)
      → Advances store (given b.port.number us ++ e ∷ []) [] us b c → BreaksOff store wanted why a c
  so_far_broken wanted why us e few last ends more = record {
    sent = so_far.sent;
    unsent = us;
    last = last;
    retrieval = ended_by wanted us e aborted few ends more;
  }

  -- all that were given were sent
  pub so_far_all : (wanted : ℕ) (e : Entry) → many ≤ wanted → Ends e (ended b.port.number wanted so_far.sent)
      → Advances store (e ∷ []) [] [] b c → SentAll store wanted last a c
  so_far_all wanted e few ends more = record {
    sent = so_far.sent;
    last_is = so_far.last_is;
    retrieval = ended_by wanted [] e (λ seat. ended seat wanted so_far.sent) (omega (arith, few)) ends more;
  }

  -- the retrieval came to its end
  pub so_far_over : (wanted : ℕ) → many < wanted → c.port ≡ with_call b.port store.place Next (reply.Given (Ok None))
      → c.sent ≡ b.sent → c.failed ≡ b.failed → c.spent ≡ b.spent → SentAll store wanted last a c
  so_far_over wanted fewer call sent failed spent =
      let few : length so_far.sent < wanted = omega (arith, fewer, so_far.count) in
      so_far_all wanted (entry b.port.number Next (reply.Given (Ok None))) (omega (arith, fewer))
      (rw (lt-ltb (length so_far.sent) wanted few) (over_ends b.port.number))
      (called store b c Next _ call sent failed spent)

  -- all that were wanted were given, and the retrieval was aborted
  pub so_far_full : (wanted : ℕ) → many ≡ wanted → (aborts : CallsOnce store.place Abort b.port c.port)
      → c.sent ≡ b.sent → c.failed ≡ b.failed → c.spent ≡ b.spent → SentAll store wanted last a c
  so_far_full wanted full aborts sent failed spent =
      let no_fewer : wanted ≤ length so_far.sent = omega (arith, so_far.count, full) in
      so_far_all wanted (entry b.port.number Abort aborts.reply) (omega (arith, full))
      (rw (le-ltb (length so_far.sent) wanted no_fewer) (abort_ends b.port.number aborts.reply))
      (called store b c Abort aborts.reply aborts.call sent failed spent)

-- the calls of a deletion, made where no retrieval is on, are those by which the packets given are removed
deletion : (place seat : ℕ) (gave : List Stored) (last : Option ℕ) (old new : PortView) → old.number ≡ seat
    → last ≡ last_of gave → Deletes place last old new
    → (calls : List Entry) × (new ≡ with_calls place old calls)
    × ((s : State) → s.retrieval ≡ None → IsLegal s calls → (count : ℕ) × (calls ≡ removed seat gave count))
deletion place seat [] None old new at is none =
    let same = ap (λ (list : List (ℕ × Entry)). record old { list = list }) (sym (append-nil old.list)) in
    ([], none ∙ same, λ s off legal. (0, refl))
deletion place seat (p ∷ gave) (Some limit) old new at is once =
    let same : limit ≡ last_time p.time gave = cc is in (
      entry old.number (Delete limit) once.reply ∷ [],
      once.call,
      λ s off legal.
          let found = deletes limit s once.reply off legal.0 in
          (found.0, λ i. entry (at i) (Delete (same i)) (found.1 i) ∷ []),
    )
deletion place seat [] (Some limit) old new at is once = absurd (cc is)
deletion place seat (p ∷ gave) None old new at is none = absurd (cc is)

-- an order that was begun, at a store with this identifier
module _ (ids : List (List ℕ)) (order : Order) (id : List ℕ) (named : id_at ids order.place ≡ id) (a b c : Progress)
    (begins : CallsOnce order.place (Begin 1 clock_end) a.port b.port)
    (sent_same : b.sent ≡ a.sent) (failed_same : b.failed ≡ a.failed) (spent_same : b.spent ≡ a.spent) where
  abbrev store : OrderStore
  store = order_store order.place id

  abbrev seat : ℕ
  seat = a.port.number

  seat_same : b.port.number ≡ seat
  seat_same = ap (λ (p : PortView). p.number) begins.call

  abbrev first : Entry
  first = entry seat (Begin 1 clock_end) begins.reply

  -- its begin, and what a retrieval sent
  retrieved : (expected : ℕ → Entry) (sent us : List Stored)
      (retrieval : Retrieves store order.amount (expected b.port.number) sent us b c)
      → Advances store (first ∷ given seat (sent ++ us) ++ retrieval.last_call ∷ []) sent us a c
  retrieved expected sent us retrieval =
      advances_then store a c b (first ∷ []) (given b.port.number (sent ++ us) ++ retrieval.last_call ∷ []) _
      [] sent sent us
      (ap (λ (n : ℕ). first ∷ given n (sent ++ us) ++ retrieval.last_call ∷ []) (sym seat_same)) refl
      (called store a b (Begin 1 clock_end) begins.reply begins.call sent_same failed_same spent_same) retrieval.advance

  -- it broke
  pub broken : (why : OrderBroken) → BreaksOff store order.amount why b c → OrderCarriedOut ids order (Some why) a c
  broken why breaks =
      let gave : List Stored = breaks.sent ++ breaks.unsent in
      let e : Entry = breaks.retrieval.last_call in
      let ends = subst (λ (n : ℕ). Ends e (aborted n)) seat_same breaks.retrieval.ends in
      record {
        sent = breaks.sent;
        unsent = breaks.unsent;
        calls = first ∷ given seat gave ++ e ∷ [];
        advance = rw named (retrieved aborted breaks.sent breaks.unsent breaks.retrieval);
        tried = record {
          alone = λ s t idle run.
              let all = retrieval_calls s seat begins.reply gave e (aborted seat) [] idle ends run.legal in
              record {
                order = record {
                  most = breaks.retrieval.most;
                  are = λ i. all.0 i ∷ given seat gave ++ all.1 i ∷ [];
                };
                last = breaks.last;
              };
        };
        well = tt;
      }

  -- its packets were sent, and then deleted
  pub whole : (last : Option ℕ) (port : PortView) → SentAll store order.amount last b c
      → Deletes order.place last c.port port → OrderCarriedOut ids order None a (record c { port = port })
  whole last port sends removes =
      let sent : List Stored = sends.sent in
      let e : Entry = sends.retrieval.last_call in
      let expected : ℕ → Entry = λ n. ended n order.amount sent in
      let ends = subst (λ (n : ℕ). Ends e (expected n)) seat_same sends.retrieval.ends in
      let start = retrieved expected sent [] sends.retrieval in
      let rest = deletion order.place seat sent last c.port port (ap (λ (p : PortView). p.number) start.port)
      sends.last_is removes in
      record {
        sent = sent;
        unsent = [];
        calls = first ∷ given seat sent ++ e ∷ rest.0;
        advance = rw named (advances_then store a (record c { port = port }) c
            (first ∷ given seat (sent ++ []) ++ e ∷ []) rest.0 _ sent [] sent []
            (ap (λ (gave : List Stored). first ∷ given seat gave ++ e ∷ rest.0) (sym (append-nil sent))
            ∙ ap (λ (es : List Entry). first ∷ es) (sym (append_assoc (given seat (sent ++ [])) (e ∷ []) rest.0)))
            (sym (append-nil sent)) start
            (record { port = rest.1; all = sym (append-nil c.sent); failures = omega arith; blocks = omega arith }));
        tried = record {
          alone = λ s t idle run.
              let all = retrieval_calls s seat begins.reply sent e (expected seat) rest.0 idle ends run.legal in
              let removal = rest.2 all.2.0 all.2.1 all.2.2 in
              record {
                order = record {
                  most = omega (arith, sends.retrieval.most, length-append sent []);
                  count = removal.0;
                  are = λ i. all.0 i ∷ given seat sent ++ all.1 i ∷ removal.1 i;
                };
                all = refl;
              };
        };
        well = omega (arith, start.failures);
      }
