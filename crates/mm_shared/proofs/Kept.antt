-- Each step keeps the rule of shared stores. Calls count from states that each holder of seats knows.
use Rattle.mm_shared.proofs.Words.{◌≡◌, ◌≢◌, ℕ, ◌+◌, ◌<◌, List, [], ◌∷◌, length, map, get_or, sym, refl, ap, ◌∙◌, subst}
use Rattle.mm_shared.proofs.Words.{arith, Some, None, length-map, length-replicate, length-set, get_or-map}
use Rattle.mm_shared.proofs.Words.{get_or-replicate, Entry, State, Course, IsCourse, Owns, Fits, IsKept, all_seats}
use Rattle.mm_shared.proofs.Words.{calls_on, HasLegalLog, opening_at, blank, All-nil, none, some, some-ne-none, dite}
use Rattle.mm_shared.proofs.Words.{ℕ_discrete, get_elem?, Table, step_of, keeps, takes, gives, stepped, rest, opening}
use Rattle.mm_shared.proofs.Words.{Allows, Final, Seen, Event, Reply, Knows, Seated, IsAtRest, HasCalled, IsAsTaken}
use Rattle.mm_shared.proofs.Words.{AreAll, IsTakenByAll, IsSettled, called, at_rest, tried}
use Rattle.mm_shared.proofs.Keeping.{none_free, keeps_on, in_slot, may_take, takes_out, ends, gives_after, restores}
use Rattle.mm_shared.proofs.Lists.{at_get, at_below, each_set, each_push}
use mathlib.Core.Option as slot

-- the state that is in a slot
abbrev state_of : slot.Option State → State
state_of none = blank
state_of (some now) = now

-- all seats are those of the view at a place, which has not called
all_own : (openings : List State) (seats port : ℕ) → Owns openings seats (λ seat. port) port (all_seats openings seats)
all_own openings seats port =
    record {
      within = omega (arith, length-replicate {A = List (ℕ × Entry)} seats []);
      owned = λ seat from to. refl;
      agree = λ none. refl;
    }

-- the course of a store on which no call was made
abbrev new_course : State → Course
new_course now = record { log = []; now = now; holder = None }

-- it begins with the state in its slot
begins : (now : State) (seats word : ℕ) (home : slot.Option State) → home ≡ some now
    → IsCourse now seats word home (new_course now)
begins now seats word home there = record {
  run = record { legal = tt; leaves = refl };
  below = All-nil (λ (e : Entry). e.seat < seats);
  stands = there;
}

-- and the lists of all seats are its parts
none_called : (owner : ℕ → ℕ) (k : ℕ) (now : State) (port : ℕ) (states : List State) (seats : ℕ)
    → Fits owner k (new_course now) port (all_seats states seats)
none_called owner k now port states seats = record {
  parts = λ n inside. sym (ap (calls_on k) (get_or-replicate seats n [] []
      (omega (arith, inside, length-replicate {A = List (ℕ × Entry)} seats []))));
  held = refl;
}

module _ (stores seats : ℕ) where
  -- a try of a lock, by any change that leaves the word above 0
  pub tries_kept : (n id : ℕ) (m : Seated) (f : ℕ → ℕ) (i first second : ℕ) → i < stores → ((k : ℕ) → 0 < f k)
      → IsAtRest m → 0 < length m.0.lists
      → Allows (IsKept stores seats) n id m i f (tried (step_of n i first second none) m)
  tries_kept n id m f i first second within up at some_seat s kept wide me fits64 =
      let word = get_or s.words i 0 in
      let k = kept.keeps i within in
      dite (ℕ_discrete word 0) (λ free.
      let in_home = none_free seats word _ _ k.it.holder free k.course.stands in
      let w : Knows = record m.0 { held = Some (i, k.it.now) } in (
        w,
        takes i k.it.now,
        may_take stores seats s kept id m.0 me i within k in_home,
        takes_out stores seats s kept id m.0 me i within k (f word) m.1 (up word) at.none some_seat in_home,
        (
          (λ zero. (k.it.now, ap (λ (c : List (ℕ × State)). (w, (i, k.it.now) ∷ c)) at.empty)),
          λ other. absurd (other free),
        ),
      ))
      (λ busy. (
        m.0,
        keeps,
        tt,
        keeps_on stores seats s kept id m.0 me i within k (f word) m.1 (up word),
        ((λ zero. absurd (busy zero)), λ other. refl),
      ))

  -- a state is given back, if that keeps the rule
  gives_any : (n id : ℕ) (m : Seated) (i : ℕ) (now : State) (after : Knows) → m.1 ≡ (i, now) ∷ []
      → ((s : Table State Knows) → IsKept stores seats s → get_elem? s.views id ≡ some m.0
      → IsKept stores seats (stepped s i 0 id ((i, now) ∷ []) after gives))
      → Allows (IsKept stores seats) n id m i (λ k. 0) (λ r it. it ≡ (after, []))
  gives_any n id m i now after has keeps_rule s kept wide me fits64 =
      let back : IsKept stores seats (stepped s i 0 id m.1 after gives) = rw has (keeps_rule s kept me) in
      (after, gives, tt, back, ap (λ (slots : List (ℕ × State)). (after, rest slots)) has)

  -- it is given back after a call
  pub gives_kept : (n id : ℕ) (m : Seated) (i : ℕ) (event : Event) (reply : Reply) → i < stores
      → HasCalled i event reply m → Allows (IsKept stores seats) n id m i (λ k. 0) (λ r it. it ≡ called i m event reply)
  gives_kept n id m i event reply within c =
      gives_any n id m i c.now (called i m event reply).0 c.has
      (λ s kept me. gives_after stores seats s kept id m.0 me i within (kept.keeps i within) c.taken c.now event reply
      c.held c.seated c.stepped)

  -- or as it was
  pub restores_kept : (n id : ℕ) (m : Seated) (i : ℕ) → i < stores → IsAsTaken i m
      → Allows (IsKept stores seats) n id m i (λ k. 0) (λ r it. it ≡ at_rest m)
  restores_kept n id m i within c =
      gives_any n id m i c.taken (at_rest m).0 c.has (λ s kept me. restores stores seats s kept id m.0 me i within
      (kept.keeps i within) c.taken c.held)

  -- the holder of all seats takes the state of a store
  pub takes_by_all : (n id : ℕ) (m : Seated) (i first second : ℕ) (f : ℕ → ℕ) → i < stores → ((k : ℕ) → 0 < f k)
      → AreAll seats m → Allows (IsKept stores seats) n id m i f (λ r it. IsTakenByAll i m it)
  takes_by_all n id m i first second f within up all s kept wide me fits64 =
      let k = kept.keeps i within in
      let end = ends stores seats s kept id m.0 me i within k all.rest.none all.first all.count in
      let some_list : 0 < length m.0.lists = omega (arith, all.count, all.some_seat) in
      let w : Knows = record m.0 { held = Some (i, k.it.now) } in (
        w,
        takes i k.it.now,
        may_take stores seats s kept id m.0 me i within k end.1,
        takes_out stores seats s kept id m.0 me i within k (f (get_or s.words i 0)) m.1 (up (get_or s.words i 0))
            all.rest.none some_list end.1,
        record {
          now = k.it.now;
          holds = ap (λ (c : List (ℕ × State)). (w, (i, k.it.now) ∷ c)) all.rest.empty;
          legal = end.0;
        },
      )

  -- the holder of all seats learns the states of the stores, and calls count anew
  pub settles : (n id : ℕ) (m : Seated) (i : ℕ) → i < stores + 1 → n ≡ stores → AreAll seats m
      → Allows (IsKept stores seats) n id m i (λ k. k) (λ r it. IsSettled n m it)
  settles n id m i within many all s kept wide me fits64 = (
    w,
    keeps,
    tt,
    record {
      openings = states;
      owner = λ seat. id;
      there = λ seat inside. rw (length-set s.views id w) (at_below s.views id m.0 me);
      words = length-set s.words i (get_or s.words i 0) ∙ kept.words;
      homes = kept.homes;
      owns = each_set (Owns states seats (λ seat. id)) s.views id w (rw all.count (all_own states seats id))
          (λ port u apart at. record {
            within = (kept.owns port u at).within;
            owned = λ seat from to. absurd (none_left port u apart at (omega arith));
            agree = λ no_seat. absurd (omega (
              arith,
              no_seat (omega (arith, none_left port u apart at)),
              all.some_seat,
            ));
          });
      keeps = λ k under.
          let old = kept.keeps k under in
          let end = ended k under in
          let now = opening_at states k in
          record {
            it = new_course now;
            course = begins now seats _ _ (in_slot stores seats s kept id m.0 me k under old end.1
                ∙ ap some (sym (now_is k under)));
            fits = each_set (Fits (λ seat. id) k (new_course now)) s.views id w
                (none_called (λ seat. id) k now id states (length m.0.lists))
                (λ port u apart at.
                record {
                  parts = λ n inside. absurd (none_left port u apart at (omega arith));
                  held = rw end.1 at (old.fits port u at).held;
                });
          };
    },
    record {
      logs = λ k under.
          let inside : k < stores = omega (arith, under, count) in
          subst (HasLegalLog (map (calls_on k) m.0.lists) (opening_at m.0.states k)) (sym (now_is k inside))
          (ended k inside).0;
      many = count ∙ sym many;
      all = ap (λ (c : List (ℕ × State)). (w, c)) all.rest.empty;
    },
  )
    where
      states : List State
      states = map state_of s.homes

      count : length states ≡ stores
      count = length-map s.homes state_of ∙ kept.homes

      w : Knows
      w = all_seats states (length m.0.lists)

      ended : (k : ℕ) (under : k < stores)
          → HasLegalLog (map (calls_on k) m.0.lists) (opening_at m.0.states k) (kept.keeps k under).it.now
          × ((kept.keeps k under).it.holder ≡ None)
      ended k under = ends stores seats s kept id m.0 me k under (kept.keeps k under) all.rest.none all.first all.count

      now_is : (k : ℕ) (under : k < stores) → opening_at states k ≡ (kept.keeps k under).it.now
      now_is k under =
          get_or-map state_of s.homes k none blank (omega (arith, under, kept.homes))
          ∙ ap state_of (in_slot stores seats s kept id m.0 me k under (kept.keeps k under) (ended k under).1)

      -- if one view has all seats, another has none
      none_left : (port : ℕ) (u : Knows) → port ≢ id → get_elem? s.views port ≡ some u → ¬ (0 < length u.lists)
      none_left port u apart at some_list =
          let own = kept.owns port u at in
          let is = own.owned u.first (omega arith) (omega arith) in
          apart (sym is ∙ (kept.owns id m.0 me).owned u.first (omega (arith, all.first))
          (omega (arith, all.first, all.count, own.within)))

  -- a legal log of the calls on it leads to each store of a closed table, if all seats came back in one view
  pub closes_kept : (ws : List ℕ) (xs : List State) (id : ℕ) (v : Knows) → Final (Seen (IsKept stores seats) id v) ws xs
      → v.held ≡ None → v.first ≡ 0 → length v.lists ≡ seats
      → (k : ℕ) → k < stores → HasLegalLog (map (calls_on k) v.lists) (opening_at v.states k) (opening_at xs k)
  closes_kept ws xs id v final rest first count k within =
      let s = final.0 in
      let kept : IsKept stores seats s = final.1.0 in
      let old = kept.keeps k within in
      let end = ends stores seats s kept id v final.1.1 k within old rest first count in
      let there : get_elem? xs k ≡ some old.it.now = final.4 k old.it.now
      (may_take stores seats s kept id v final.1.1 k within old end.1) in
      subst (HasLegalLog (map (calls_on k) v.lists) (opening_at v.states k)) (sym (at_get xs k old.it.now blank there))
      end.0

-- new stores keep the rule
pub begins_kept : (seats : ℕ) (words : List ℕ) (states : List State) → length words ≡ length states + 1
    → IsKept (length states) seats (opening words states (all_seats states seats))
begins_kept seats words states many = record {
  openings = states;
  owner = λ seat. 0;
  there = λ seat within. omega arith;
  words = many;
  homes = length-map states some;
  owns = each_push (Owns states seats (λ seat. 0)) [] (all_seats states seats)
      (λ port u at. absurd (some-ne-none u (sym at))) (all_own states seats 0);
  keeps = λ k within. record {
    it = new_course (opening_at states k);
    course = begins (opening_at states k) seats _ _ (get_or-map some states k blank none within);
    fits = each_push (Fits (λ seat. 0) k (new_course (opening_at states k))) [] (all_seats states seats)
        (λ port u at. absurd (some-ne-none u (sym at)))
        (none_called (λ seat. 0) k (opening_at states k) 0 states seats);
  };
}
