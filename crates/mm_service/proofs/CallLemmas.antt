-- The calls of a service are calls on its memory, and what they give was brought.
use Rattle.mm_service.proofs.Words.{◌≡◌, ℕ, Bool, true, false, List, [], ◌∷◌, ◌++◌, length, take, drop, All, Contains}
use Rattle.mm_service.proofs.Words.{refl, sym, ap, subst, ◌∙◌, append_assoc, if◌then◌else◌, map, bytes_eq, Option, Some}
use Rattle.mm_service.proofs.Words.{None, Result, Ok, Err, append-nil, map-append, take_at, All-tail, is_id_text}
use Rattle.mm_service.proofs.Words.{field_of, bind_ok, cond_ok, ok_same, SpacePacket, spelling, Stored, State, offer}
use Rattle.mm_service.proofs.Words.{next, step, Holdings, state_of, instructions_of, with_state, Fault, BadId}
use Rattle.mm_service.proofs.Words.{NoSuchStore, id_tested, block_of, Serving, state_named, with_store}
use Rattle.std.proofs.lemmas.List.Elements.{All-nil, All-cons, All-head, All-append, All-map, All-contains_itself}
use Rattle.std.proofs.lemmas.Slice.Eq.{bytes_eq-Decides}
use Rattle.mm_base.proofs.Pairs.{All-front, All-back}
use Rattle.mm_desk.specs.declared.event.Event.TheVariants.{Offer, Next}
use Rattle.mm_desk.specs.declared.fault.Fault.{Fault as StateFault}
use Rattle.mm_desk.specs.declared.reply.Offered.{Offered}
use Rattle.mm_desk.specs.declared.reply.Offered.TheVariants.{Kept, KeptOver, Lost}
use Rattle.mm_desk.specs.declared.reply.Returned.{Returned}
use Rattle.mm_desk.specs.Fates.{found_in, given, over}
use Rattle.mm_memory.specs.declared.tally.Tally.{Tally}
use Rattle.mm_memory.specs.Accounts.{records, asks, Call as MemoryCall, Turn as MemoryTurn, AreTurns as AreMemoryTurns}
use Rattle.mm_memory.specs.Accounts.{after_turns, calls_of, kept_by, kept, kept_in, given_by, in_store, in_turns}
use Rattle.mm_memory.specs.Accounts.{held_in, AccountForPackets}
use Rattle.mm_memory.specs.Recording.{is_routed, after_record, tally_after}
use Rattle.mm_memory.proofs.ApplyLemmas.{requested}
use Rattle.mm_memory.proofs.GivenLemmas.{keeps_none, gives_none, instructions_do, turns_have}
use Rattle.mm_memory.specs.Retrievals.{RetrievalsGiveRangesIn}
use Rattle.mm_service.specs.declared.giving.Given.{Given}
use Rattle.mm_service.specs.declared.offering.Fate.{Fate}
use Rattle.mm_service.specs.declared.reporting.Reported.{Reported}
use Rattle.mm_service.specs.declared.reporting.Reported.TheVariants.{Written, TooSmall, End}
use Rattle.mm_service.specs.Accounts.{Call, offer_call, record_call, apply_call, next_call, report_call, bound_call}
use Rattle.mm_service.specs.Accounts.{refused_call, Turn, MayLeave, AreTurns, AreCallsOf, AreAccounted, brought, gave}
use Rattle.mm_service.specs.Accounts.{in_calls, octets_of, octets_held}
use Rattle.mm_service.specs.Giving.{Tells, TellsPacket, next_of, first_of, given_of, Leaves as LeavesNext}
use Rattle.mm_service.specs.Offering.{fate_of}
use Rattle.mm_service.specs.Reporting.{after, Reports}
use Rattle.mm_service.proofs.SpellingLemmas.{no_value, block_is, request_is}

-- the store that is named
tested_field : (id field : List ℕ) → id_tested id ≡ Ok field → field_of id ≡ field
tested_field id field e = (cond_ok (is_id_text id) (field_of id) BadId field e).1

named_state : (id : List ℕ) (s : Serving) (state : State) (found : Option State) → state_of id s.memory ≡ found
    → state_named id s ≡ Ok state → state_of id s.memory ≡ Some state
named_state id s state (Some x) at e = at ∙ ap Some (ok_same x state (rw at at e))
named_state id s state None at e = absurd (no_value NoSuchStore state (rw at at e))

given_ok : (r : Result (Option Stored) StateFault) (x : Option Stored) → given_of r ≡ Ok x → r ≡ Ok x
given_ok (Ok y) x e = ap Ok (ok_same y x e)
given_ok (Err fault) x e = absurd cc

-- the octets of a stored packet have the property
abbrev Has : (List ℕ → Type 0) → Stored → Type 0
Has Q p = Q (spelling p.packet)

module _ (Q : List ℕ → Type 0) where
  kept_have : (packet : SpacePacket) (r : Result Offered Returned) → Q (spelling packet)
      → All (Has Q) (kept_by packet r)
  kept_have packet (Ok (Kept time)) has = All-cons (Has Q) _ [] has (All-nil (Has Q))
  kept_have packet (Ok (KeptOver time oldest)) has = All-cons (Has Q) _ [] has (All-nil (Has Q))
  kept_have packet (Ok (Lost lost)) has = All-nil (Has Q)
  kept_have packet (Err back) has = All-nil (Has Q)

  -- what a store keeps of an offer, where it is asked
  offer_keeps : (now : ℕ) (packet : SpacePacket) (b : Bool) (before : Option State) → (b ≡ true → Q (spelling packet))
      → All (Has Q) (in_store (λ s. over kept s (if b then Offer now packet ∷ [] else [])) before ++ [])
  offer_keeps now packet true (Some s) has =
      subst (All (Has Q)) (sym (append-nil _ ∙ append-nil _)) (kept_have packet (offer s now packet).0 (has refl))
  offer_keeps now packet false (Some s) has = All-nil (Has Q)
  offer_keeps now packet b None has = All-nil (Has Q)

  next_keeps : (b : Bool) (before : Option State)
      → All (Has Q) (in_store (λ s. over kept s (if b then Next ∷ [] else [])) before ++ [])
  next_keeps true (Some s) = All-nil (Has Q)
  next_keeps false (Some s) = All-nil (Has Q)
  next_keeps b None = All-nil (Has Q)

-- an offer gives nothing
offer_gives : (now : ℕ) (packet : SpacePacket) (b : Bool) (before : Option State)
    → [] ≡ octets_of (in_store (λ s. over given s (if b then Offer now packet ∷ [] else [])) before ++ [])
offer_gives now packet true (Some s) = refl
offer_gives now packet false (Some s) = refl
offer_gives now packet b None = refl

-- a call on the service, as calls on its memory: what it keeps was brought, and what it gives is what they give
record Made (call : Call) (s t : Serving) : Type 1 where
  turns : List MemoryTurn
  are : AreCallsOf call (calls_of turns)
  made : AreMemoryTurns s.memory turns
  left : t.memory ≡ after_turns s.memory turns
  keeps : (id : List ℕ) (Q : List ℕ → Type 0) → All Q (brought id call)
      → All (Has Q) (in_turns kept_in id s.memory turns)
  gives : (id : List ℕ) → gave id call ≡ octets_of (in_turns given_by id s.memory turns)

offer_made : (id octets : List ℕ) (now : ℕ) (s t : Serving) → MayLeave (offer_call id octets now) s t
    → Made (offer_call id octets now) s t
offer_made id octets now s t is =
    let a = bind_ok (id_tested id) _ (is.1, t) is.2 in
    let b = bind_ok (block_of octets) _ (is.1, t) a.2 in
    let c = bind_ok (state_named a.0 s) _ (is.1, t) b.2 in
    let d = bind_ok (fate_of (offer c.0 now b.0).0) _ (is.1, t) c.2 in
    let named = tested_field id a.0 a.1 in
    let found = named_state a.0 s c.0 (state_of a.0 s.memory) refl c.1 in
    let spelled = block_is octets is.0 b.0 b.1 in
    let left = ap (λ (x : Fate × Serving). x.1.memory)
    (ok_same (d.0, with_store a.0 s (offer c.0 now b.0).1) (is.1, t) d.2) in
    record {
      turns = record { call = asks (field_of id) (Offer now b.0); left = t.memory } ∷ [];
      are = (b.0, spelled, refl);
      made = (
        (
          c.0,
          ap (λ (k : List ℕ). state_of k s.memory) named ∙ found,
          sym left
              ∙ ap (λ (k : List ℕ). with_state k s.memory (step c.0 (Offer now b.0)).1) (sym named),
        ),
        tt,
      );
      left = refl;
      keeps = λ k Q all. offer_keeps Q now b.0 (bytes_eq (field_of id) k) (state_of k s.memory)
          (λ same. subst Q spelled (All-head Q octets []
          (subst (λ (t : Bool). All Q (if t then octets ∷ [] else [])) same all)));
      gives = λ k. offer_gives now b.0 (bytes_eq (field_of id) k) (state_of k s.memory);
    }

record_made : (octets : List ℕ) (now : ℕ) (s t : Serving) → MayLeave (record_call octets now) s t
    → Made (record_call octets now) s t
record_made octets now s t is =
    let a = bind_ok (block_of octets) _ (is.1, t) is.2 in
    let after_it : Serving = record s { memory = after_record now a.0 s.memory } in
    let left = ap (λ (x : Tally × Serving). x.1.memory)
    (ok_same (tally_after now a.0 s.memory, after_it) (is.1, t) a.2) in
    let spelled = block_is octets is.0 a.0 a.1 in
    record {
      turns = record { call = records now a.0; left = t.memory } ∷ [];
      are = (a.0, spelled, refl);
      made = (sym left, tt);
      left = refl;
      keeps = λ k Q all. offer_keeps Q now a.0 (is_routed s.memory.routes k a.0) (state_of k s.memory)
          (λ routed. subst Q spelled (All-head Q octets [] all));
      gives = λ k. offer_gives now a.0 (is_routed s.memory.routes k a.0) (state_of k s.memory);
    }

apply_made : (octets : List ℕ) (now : ℕ) (s t : Serving) → MayLeave (apply_call octets now) s t
    → Made (apply_call octets now) s t
apply_made octets now s t is =
    let applied = is.4 in
    let instructions = instructions_of applied.request in
    let turns = requested instructions s.memory t.memory applied.answers applied.each in
    record {
      turns = turns.0;
      are = (
        applied.asked,
        request_is octets is.0 applied.asked applied.asks,
        applied.request,
        applied.spelled,
        turns.1,
      );
      made = turns.2;
      left = turns.3;
      keeps = λ k Q all. subst (All (Has Q))
          (sym (instructions_do kept keeps_none k s.memory instructions turns.0 turns.1)) (All-nil (Has Q));
      gives = λ k. sym (ap octets_of (instructions_do given gives_none k s.memory instructions turns.0 turns.1));
    }

-- what is told of a packet that is given is its octets
told_octets : (stored : Stored) (told : Given) (old new : List ℕ) → TellsPacket stored told old new
    → take told.len new ≡ spelling stored.packet
told_octets stored told old new tells =
    ap (take told.len) tells.written ∙ take_at (spelling stored.packet) (drop (length (spelling stored.packet)) old)
    told.len (sym tells.len)

gave_is : (found : Option Stored) (told : Option Given) (old new : List ℕ) (name id : List ℕ)
    → bytes_eq (field_of name) id ≡ true → Tells (Ok found) (Ok told) old new
    → gave id (next_call name told new) ≡ octets_of ((found_in (Ok found) ++ []) ++ [])
gave_is None None old new name id same tells = refl
gave_is (Some stored) (Some told) old new name id same tells =
    rw same (ap (λ octets. octets ∷ []) (told_octets stored told old new tells))
gave_is (Some stored) None old new name id same tells = absurd tells
gave_is None (Some told) old new name id same tells = absurd tells

-- another store gives nothing
gave_none : (told : Option Given) (new name id : List ℕ) (before : Option State) → bytes_eq (field_of name) id ≡ false
    → gave id (next_call name told new) ≡ octets_of (in_store (λ s. []) before ++ [])
gave_none None new name id (Some s) other = refl
gave_none None new name id None other = refl
gave_none (Some told) new name id (Some s) other = rw other refl
gave_none (Some told) new name id None other = rw other refl

-- what is told is what the store gives
store_gives : (m : Holdings) (state : State) (found : Option Stored) (told : Option Given) (old new name id : List ℕ)
    → state_of (field_of name) m ≡ Some state → (next state).0 ≡ Ok found → Tells (Ok found) (Ok told) old new
    → (b : Bool) → bytes_eq (field_of name) id ≡ b
    → gave id (next_call name told new)
    ≡ octets_of (in_store (λ s. over given s (if b then Next ∷ [] else [])) (state_of id m) ++ [])
store_gives m state found told old new name id at gives tells true same =
    let here : state_of id m ≡ Some state =
    ap (λ (k : List ℕ). state_of k m) (sym ((bytes_eq-Decides (field_of name) id).0 same)) ∙ at in
    let by : gave id (next_call name told new) ≡ octets_of ((found_in (next state).0 ++ []) ++ []) =
    gave_is found told old new name id same tells
    ∙ ap (λ (r : Result (Option Stored) StateFault). octets_of ((found_in r ++ []) ++ [])) (sym gives) in
    by ∙ ap (λ (o : Option State). octets_of (in_store (λ s. over given s (Next ∷ [])) o ++ [])) (sym here)
store_gives m state found told old new name id at gives tells false other =
    gave_none told new name id (state_of id m) other

-- the next packet of a retrieval is told only where it is given
refuses : (fault : Fault) (told : Option Given) (old new : List ℕ) → Tells (Err fault) (Ok told) old new → ⊥
refuses fault None old new tells = tells
refuses fault (Some given) old new tells = tells

by_next : (id : List ℕ) (told : Option Given) (old new : List ℕ) (s t : Serving)
    (r : Result (Option Stored × Serving) Fault)
    → next_of id s ≡ r → Tells (first_of r) (Ok told) old new → LeavesNext r s t
    → Made (next_call id told new) s t
by_next id told old new s t (Err fault) at tells leaves = absurd (refuses fault told old new tells)
by_next id told old new s t (Ok (got, after_it)) at tells leaves =
    let a = bind_ok (id_tested id) _ (got, after_it) at in
    let b = bind_ok (state_named a.0 s) _ (got, after_it) a.2 in
    let c = bind_ok (given_of (next b.0).0) _ (got, after_it) b.2 in
    let named = tested_field id a.0 a.1 in
    let found = ap (λ (k : List ℕ). state_of k s.memory) named
    ∙ named_state a.0 s b.0 (state_of a.0 s.memory) refl b.1 in
    let both = ok_same (c.0, with_store a.0 s (next b.0).1) (got, after_it) c.2 in
    let gives : (next b.0).0 ≡ Ok got = given_ok (next b.0).0 c.0 c.1
    ∙ ap (λ (x : Option Stored × Serving). Ok x.0) both in
    record {
      turns = record { call = asks (field_of id) Next; left = t.memory } ∷ [];
      are = refl;
      made = (
        (
          b.0,
          found,
          ap (λ (x : Serving). x.memory) leaves
              ∙ ap (λ (x : Option Stored × Serving). x.1.memory) (sym both)
              ∙ ap (λ (k : List ℕ). with_state k s.memory (step b.0 Next).1) (sym named),
        ),
        tt,
      );
      left = refl;
      keeps = λ k Q all. next_keeps Q (bytes_eq (field_of id) k) (state_of k s.memory);
      gives = λ k. store_gives s.memory b.0 got told old new id k found gives tells (bytes_eq (field_of id) k) refl;
    }

-- a report leaves the memory as it was
after_memory : (told : Reported) (rest : List SpacePacket) (s : Serving) → (after told rest s).memory ≡ s.memory
after_memory (Written n) rest s = refl
after_memory (TooSmall n) rest s = refl
after_memory End rest s = refl

report_memory : (waiting : List SpacePacket) (told : Reported) (s t : Serving) (old new : List ℕ)
    → Reports waiting told s t old new → t.memory ≡ s.memory
report_memory [] told s t old new is = ap (λ (x : Serving). x.memory) is.1
report_memory (packet ∷ rest) told s t old new is = ap (λ (x : Serving). x.memory) is.1 ∙ after_memory told rest s

-- a call that gives nothing and leaves the memory as it was
same_memory : (call : Call) (s t : Serving) → AreCallsOf call [] → ((id : List ℕ) → gave id call ≡ [])
    → t.memory ≡ s.memory → Made call s t
same_memory call s t are none left = record {
  turns = [];
  are = are;
  made = tt;
  left = left;
  keeps = λ k Q all. All-nil (Has Q);
  gives = none;
}

made_of : (call : Call) (s t : Serving) → MayLeave call s t → Made call s t
made_of (offer_call id octets now) s t is = offer_made id octets now s t is
made_of (record_call octets now) s t is = record_made octets now s t is
made_of (apply_call octets now) s t is = apply_made octets now s t is
made_of (next_call id told new) s t is = by_next id told is.0 new s t (next_of id s) refl is.1.tells is.1.leaves
made_of report_call s t is =
    same_memory report_call s t refl (λ k. refl) (report_memory s.waiting is.0 s t is.1 is.2 is.3)
made_of (bound_call bound) s t is =
    same_memory (bound_call bound) s t refl (λ k. refl) (ap (λ (x : Serving). x.memory) is)
made_of refused_call s t is = same_memory refused_call s t refl (λ k. refl) (ap (λ (x : Serving). x.memory) is)

-- turns after one another
turns-append : (m : Holdings) (turns more : List MemoryTurn) → AreMemoryTurns m turns
    → AreMemoryTurns (after_turns m turns) more → AreMemoryTurns m (turns ++ more)
turns-append m [] more first second = second
turns-append m (t ∷ ts) more first second = (first.0, turns-append t.left ts more first.1 second)

after-append : (m : Holdings) (turns more : List MemoryTurn)
    → after_turns m (turns ++ more) ≡ after_turns (after_turns m turns) more
after-append m [] more = refl
after-append m (t ∷ ts) more = after-append t.left ts more

in_turns-append : {X : Type 0} (each : List ℕ → Holdings → MemoryCall → State → List X) (id : List ℕ) (m : Holdings)
    (turns more : List MemoryTurn)
    → in_turns each id m (turns ++ more) ≡ in_turns each id m turns ++ in_turns each id (after_turns m turns) more
in_turns-append each id m [] more = refl
in_turns-append each id m (t ∷ ts) more =
    let first = in_store (each id m t.call) (state_of id m) in
    ap (λ l. first ++ l) (in_turns-append each id t.left ts more)
    ∙ sym (append_assoc first (in_turns each id t.left ts) (in_turns each id (after_turns t.left ts) more))

module _ (account : AccountForPackets) (retrieve : RetrievalsGiveRangesIn) where
  pub calls_made : (s : Serving) (calls : List Turn) → AreTurns s calls → AreAccounted s calls
  calls_made s [] made = record {
    turns = [];
    are = refl;
    made = tt;
    left = refl;
    accounted = account s.memory [] tt;
    given = λ k. refl;
    retrieved = λ from to k begun on. retrieve from to k s.memory [] tt begun on;
  }
  calls_made s (t ∷ ts) made =
      let here = made_of t.call s t.left made.0 in
      let rest = calls_made t.left ts made.1 in
      let turns = here.turns ++ rest.turns in
      let whole = turns-append s.memory here.turns rest.turns here.made
      (subst (λ (m : Holdings). AreMemoryTurns m rest.turns) here.left rest.made) in
      let later = λ (k : List ℕ). rest.given k
      ∙ ap (λ (m : Holdings). octets_of (in_turns given_by k m rest.turns)) here.left in
      record {
        turns = turns;
        are = (here.turns, rest.turns, refl, here.are, rest.are);
        made = whole;
        left = rest.left ∙ ap (λ (m : Holdings). after_turns m rest.turns) here.left
            ∙ sym (after-append s.memory here.turns rest.turns);
        accounted = account s.memory turns whole;
        given = λ k. rw (here.gives k, later k)
            (sym (ap octets_of (in_turns-append given_by k s.memory here.turns rest.turns)
            ∙ map-append (λ (p : Stored). spelling p.packet) (in_turns given_by k s.memory here.turns)
            (in_turns given_by k (after_turns s.memory here.turns) rest.turns)));
        retrieved = λ from to k begun on. retrieve from to k s.memory turns whole begun on;
      }

-- what is given has what all that is held and brought has
all_given : (Q : List ℕ → Type 0) (id : List ℕ) (s : Serving) (calls : List Turn) → AreTurns s calls
    → All (Has Q) (held_in id s.memory) → All Q (in_calls (brought id) calls) → All Q (in_calls (gave id) calls)
all_given Q id s [] made held came = All-nil Q
all_given Q id s (t ∷ ts) made held came =
    let here = made_of t.call s t.left made.0 in
    let first = All-front Q (brought id t.call) (in_calls (brought id) ts) came in
    let rest = All-back Q (brought id t.call) (in_calls (brought id) ts) came in
    let have = turns_have (Has Q) id s.memory here.turns here.made held (here.keeps id Q first) in
    All-append Q (gave id t.call) (in_calls (gave id) ts)
    (subst (All Q) (sym (here.gives id)) (All-map Q (λ (p : Stored). spelling p.packet) _ have.0))
    (all_given Q id t.left ts made.1 (subst (λ (m : Holdings). All (Has Q) (held_in id m)) (sym here.left) have.1) rest)

spelled_all : (Q : List ℕ → Type 0) (held : List Stored) → All Q (map (λ p. spelling p.packet) held) → All (Has Q) held
spelled_all Q [] all = All-nil (Has Q)
spelled_all Q (p ∷ held) all =
    let octets = map (λ (x : Stored). spelling x.packet) held in
    All-cons (Has Q) p held (All-head Q (spelling p.packet) octets all)
    (spelled_all Q held (All-tail Q (spelling p.packet) octets all))

pub given_was_brought : (s : Serving) (calls : List Turn) → AreTurns s calls → (id : List ℕ)
    → All (Contains (octets_held id s ++ in_calls (brought id) calls)) (in_calls (gave id) calls)
given_was_brought s calls made id =
    let pool = octets_held id s ++ in_calls (brought id) calls in
    let all = All-contains_itself pool in
    all_given (Contains pool) id s calls made
    (spelled_all (Contains pool) (held_in id s.memory)
    (All-front (Contains pool) (octets_held id s) (in_calls (brought id) calls) all))
    (All-back (Contains pool) (octets_held id s) (in_calls (brought id) calls) all)
