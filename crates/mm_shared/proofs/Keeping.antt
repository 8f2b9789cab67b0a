-- A step of a seat on one store keeps the rule of shared stores. The holder of all seats finds the state in its slot.
use Rattle.mm_shared.proofs.Words.{◌≡◌, ◌≢◌, ℕ, ◌+◌, ◌<◌, List, [], ◌∷◌, ◌++◌, length, map, get_or, set, refl, sym, ap}
use Rattle.mm_shared.proofs.Words.{◌∙◌, subst, arith, Option, Some, None, eq-eqb, ne_eqb, length-map, length-set}
use Rattle.mm_shared.proofs.Words.{get_or-map, get_or_default, get_or-set_same, get_or-set_other, set-get_or, Entry}
use Rattle.mm_shared.proofs.Words.{State, AreBelow, part, Course, IsCourse, Owns, Fits, Stands, Keeps, IsKept, calls_on}
use Rattle.mm_shared.proofs.Words.{held_of, held_by, HasLegalLog, entry, IsRun, opening_at, All-push, none, some, dite}
use Rattle.mm_shared.proofs.Words.{ℕ_discrete, get_elem?, Table, Act, keeps, takes, gives, stepped, homes_after, Event}
use Rattle.mm_shared.proofs.Words.{Reply, Knows, lists_with, at_index}
use Rattle.mm_desk.proofs.Logs.{run_more}
use Rattle.mm_shared.proofs.Ending.{held_yes, held_no, is_holder}
use Rattle.mm_shared.proofs.Lists.{each_set}
use Rattle.mm_shared.proofs.Parts.{part-other, length-lists_with, parts_with, others_with}
use mathlib.Core.Option as slot
use Rattle.mm_desk.specs.Machine as Machine

-- what is held of the store that it is of, and of another
held_here : (i : ℕ) (now : State) → held_of i (Some (i, now)) ≡ Some now
held_here i now = rw (eq-eqb i i refl) refl

held_there : (i j : ℕ) (now : State) → j ≢ i → held_of j (Some (i, now)) ≡ None
held_there i j now other = rw (ne_eqb i j (λ same. other (sym same))) refl

module _ (seats word : ℕ) (home : slot.Option State) (now : State) where
  -- the state is in its slot if the word is 0
  pub none_free : (holder : Option ℕ) → word ≡ 0 → Stands seats word home now holder → holder ≡ None
  none_free None free there = refl
  none_free (Some seat) free out = absurd (omega (arith, free, out.0))

  -- a state stands as before, if the word is above 0
  stands_up : (x : ℕ) (holder : Option ℕ) → 0 < x → Stands seats word home now holder → Stands seats x home now holder
  stands_up x None up there = there
  stands_up x (Some seat) up out = (up, out.1)

  -- the state is in its slot if one view has all seats and holds nothing
  none_out : (owner : ℕ → ℕ) (id : ℕ) (holder : Option ℕ) → ((seat : ℕ) → seat < seats → owner seat ≡ id)
      → Stands seats word home now holder → held_by owner holder now id ≡ None → holder ≡ None
  none_out owner id None all there idle = refl
  none_out owner id (Some seat) all out idle = absurd (cc (idle, held_yes owner seat now id (all seat out.1)))

module _ (stores seats : ℕ) (s : Table State Knows) (kept : IsKept stores seats s) (id : ℕ) (v : Knows)
    (me : get_elem? s.views id ≡ some v) (i : ℕ) (within : i < stores)
    (k : Keeps (opening_at kept.openings i) seats kept.owner i s) where
  -- one store takes this course, and the others stay
  goes : (x : ℕ) (c : List (ℕ × State)) (lists : List (List (ℕ × Entry))) (held : Option (ℕ × State)) (a : Act State)
      (home : slot.Option State) (it : Course)
      → homes_after s.homes c a ≡ set s.homes i home → length lists ≡ length v.lists
      → ((j n : ℕ) → j ≢ i → calls_on j (get_or lists n []) ≡ calls_on j (get_or v.lists n []))
      → ((j : ℕ) → j ≢ i → held_of j held ≡ held_of j v.held)
      → IsCourse (opening_at kept.openings i) seats x home it
      → Fits kept.owner i it id (record v { lists = lists; held = held })
      → ((port : ℕ) (u : Knows) → port ≢ id → get_elem? s.views port ≡ some u → Fits kept.owner i it port u)
      → IsKept stores seats (stepped s i x id c (record v { lists = lists; held = held }) a)
  goes x c lists held a home it homes count calls elsewhere course fit fits =
      let own = kept.owns id v me in
      let w : Knows = record v { lists = lists; held = held } in
      record {
        openings = kept.openings;
        owner = kept.owner;
        there = rw (length-set s.views id w) kept.there;
        words = length-set s.words i x ∙ kept.words;
        homes = ap length homes ∙ (length-set s.homes i home ∙ kept.homes);
        owns = each_set (Owns kept.openings seats kept.owner) s.views id w
            (record {
              within = omega (arith, count, own.within);
              owned = λ seat from to. own.owned seat from (omega (arith, count));
              agree = λ none. own.agree (λ zero. none (count ∙ zero));
            })
            (λ port u apart at. kept.owns port u at);
        keeps = λ j under. dite (ℕ_discrete j i) (λ same.
            let in_words : i < length s.words = omega (arith, kept.words, within) in
            let in_homes : i < length s.homes = omega (arith, kept.homes, within) in
            subst (λ (n : ℕ). Keeps (opening_at kept.openings n) seats kept.owner n (stepped s i x id c w a)) (sym same)
            (record {
              it = it;
              course = rw (get_or-set_same s.words i x 0 in_words, homes, get_or-set_same s.homes i home none in_homes)
                  course;
              fits = each_set (Fits kept.owner i it) s.views id w fit fits;
            }))
            (λ other.
            let old = kept.keeps j under in
            let mine = old.fits id v me in
            let parts = λ (n : ℕ) (inside : n < length lists). mine.parts n (omega (arith, inside, count))
            ∙ sym (calls j n other) in
            record {
              it = old.it;
              course = rw (get_or-set_other s.words i j x 0 other, homes, get_or-set_other s.homes i j home none other)
                  old.course;
              fits = each_set (Fits kept.owner j old.it) s.views id w
                  (record { parts = parts; held = elsewhere j other ∙ mine.held })
                  (λ port u apart at. old.fits port u at);
            });
      }

  -- the word becomes another that is above 0
  pub keeps_on : (x : ℕ) (c : List (ℕ × State)) → 0 < x → IsKept stores seats (stepped s i x id c v keeps)
  keeps_on x c up =
      let stands = stands_up seats _ _ _ x k.it.holder up k.course.stands in
      goes x c v.lists v.held keeps (get_or s.homes i none) k.it (sym (set-get_or s.homes i none)) refl
      (λ j n other. refl) (λ j other. refl)
      (record { run = k.course.run; below = k.course.below; stands = stands }) (k.fits id v me)
      (λ port u apart at. k.fits port u at)

  -- the state that no seat has is in its slot
  pub in_slot : k.it.holder ≡ None → get_or s.homes i none ≡ some k.it.now
  in_slot home = subst (Stands seats (get_or s.words i 0) (get_or s.homes i none) k.it.now) home k.course.stands

  -- it may be taken then
  pub may_take : k.it.holder ≡ None → get_elem? s.homes i ≡ some (some k.it.now)
  may_take home =
      let in_homes : i < length s.homes = omega (arith, kept.homes, within) in
      at_index s.homes i (some k.it.now) in_homes (sym (in_slot home)
      ∙ get_or_default s.homes i none (some k.it.now) in_homes)

  -- the state is taken out of its slot
  pub takes_out : (x : ℕ) (c : List (ℕ × State)) → 0 < x → v.held ≡ None → 0 < length v.lists → k.it.holder ≡ None
      → IsKept stores seats (stepped s i x id c (record v { held = Some (i, k.it.now) }) (takes i k.it.now))
  takes_out x c up rest some_seat home =
      let own = kept.owns id v me in
      let is = own.owned v.first (omega arith) (omega arith) in
      goes x c v.lists (Some (i, k.it.now)) (takes i k.it.now) none (record k.it { holder = Some v.first }) refl refl
      (λ j n other. refl)
      (λ j other. held_there i j k.it.now other ∙ sym (ap (held_of j) rest))
      (record { run = k.course.run; below = k.course.below; stands = (up, omega (arith, own.within)) })
      (record {
        parts = (k.fits id v me).parts;
        held = held_here i k.it.now ∙ sym (held_yes kept.owner v.first k.it.now id is);
      })
      (λ port u apart at.
      let fit = k.fits port u at in
      let idle = rw home at fit.held in
      record {
        parts = fit.parts;
        held = idle ∙ sym (held_no kept.owner v.first k.it.now port (λ mine. apart (sym mine ∙ is)));
      })

  -- a holder of all seats that holds nothing finds the state in its slot, and a log of the calls leads to it
  pub ends : v.held ≡ None → v.first ≡ 0 → length v.lists ≡ seats
      → HasLegalLog (map (calls_on i) v.lists) (opening_at v.states i) k.it.now × (k.it.holder ≡ None)
  ends rest first all =
      let own = kept.owns id v me in
      let fit = k.fits id v me in (
        record {
          log = k.it.log;
          run = subst (λ (os : List State). IsRun (opening_at os i) k.it.log k.it.now)
              (sym (own.agree (λ none. omega (arith, none, all)))) k.course.run;
          shuffle = record {
            below = rw (length-map v.lists (calls_on i), all) k.course.below;
            parts = λ seat inside.
                let under : seat < length v.lists = omega (arith, inside, length-map v.lists (calls_on i)) in
                ap (λ (n : ℕ). part n k.it.log) (omega (arith, first))
                ∙ (fit.parts seat under ∙ sym (get_or-map (calls_on i) v.lists seat [] [] under));
          };
        },
        none_out seats _ _ k.it.now kept.owner id k.it.holder
            (λ seat inside. own.owned seat (omega (arith, first)) (omega (arith, first, all, inside)))
            k.course.stands (sym fit.held ∙ ap (held_of i) rest),
      )

  -- the state is given back, with this log
  gives_back : (taken now : State) (lists : List (List (ℕ × Entry))) (log : List Entry) → v.held ≡ Some (i, taken)
      → length lists ≡ length v.lists
      → ((j n : ℕ) → j ≢ i → calls_on j (get_or lists n []) ≡ calls_on j (get_or v.lists n []))
      → (k.it.now ≡ taken → IsRun (opening_at kept.openings i) log now) → AreBelow seats log
      → ((n : ℕ) → n < length lists → part (v.first + n) log ≡ calls_on i (get_or lists n []))
      → ((port : ℕ) (u : Knows) → port ≢ id → get_elem? s.views port ≡ some u
      → (n : ℕ) → n < length u.lists → part (u.first + n) log ≡ part (u.first + n) k.it.log)
      → IsKept stores seats (stepped s i 0 id ((i, now) ∷ []) (record v { lists = lists; held = None }) gives)
  gives_back taken now lists log held count calls run below parts others =
      let has = is_holder kept.owner k.it.holder k.it.now taken id
      (sym (k.fits id v me).held ∙ (ap (held_of i) held ∙ held_here i taken)) in
      goes 0 ((i, now) ∷ []) lists None gives (some now) (record { log = log; now = now; holder = None }) refl count
      calls
      (λ j other. sym (ap (held_of j) held ∙ held_there i j taken other))
      (record { run = run has.0; below = below; stands = refl })
      (record { parts = parts; held = refl })
      (λ port u apart at.
      let fit = k.fits port u at in
      record {
        parts = λ n inside. others port u apart at n inside ∙ fit.parts n inside;
        held = fit.held ∙ has.1 port apart;
      })

  -- the state is given back after a call
  pub gives_after : (taken now : State) (event : Event) (reply : Reply) → v.held ≡ Some (i, taken) → 0 < length v.lists
      → Machine.step taken event ≡ (reply, now)
      → IsKept stores seats (stepped s i 0 id ((i, now) ∷ [])
      (record v { lists = lists_with (i, entry v.first event reply) v.lists; held = None }) gives)
  gives_after taken now event reply held some_seat stepped_is =
      let e = entry v.first event reply in
      let own = kept.owns id v me in
      gives_back taken now (lists_with (i, e) v.lists) (k.it.log ++ e ∷ []) held (length-lists_with (i, e) v.lists)
      (λ j n other. others_with i e j n v.lists other)
      (λ same. run_more _ k.it.log k.it.now v.first event reply now k.course.run
      (ap (λ (t : State). Machine.step t event) same ∙ stepped_is))
      (All-push (λ (d : Entry). d.seat < seats) k.it.log e k.course.below (omega (arith, own.within)))
      (parts_with i e k.it.log v.lists (k.fits id v me).parts)
      (λ port u apart at n inside.
      let theirs = (kept.owns port u at).owned (u.first + n) (omega arith) (omega arith) in
      part-other (u.first + n) k.it.log e (λ same. apart
      (sym theirs ∙ (ap kept.owner (sym same) ∙ own.owned v.first (omega arith) (omega arith)))))

  -- the state is given back as it was
  pub restores : (taken : State) → v.held ≡ Some (i, taken)
      → IsKept stores seats (stepped s i 0 id ((i, taken) ∷ []) (record v { held = None }) gives)
  restores taken held =
      gives_back taken taken v.lists k.it.log held refl (λ j n other. refl)
      (λ same. subst (IsRun (opening_at kept.openings i) k.it.log) same k.course.run)
      k.course.below (k.fits id v me).parts (λ port u apart at n inside. refl)
