-- Workers side by side, in two halves.
use Rattle.mm_dump.proofs.Words.{◌≡◌, ℕ, ◌-◌, ◌<◌, ◌^◌, List, [], ◌∷◌, ◌++◌, length, get_or, set, map, All, refl, sym}
use Rattle.mm_dump.proofs.Words.{ap, subst, ◌∙◌, arith, length-append, Option, map-append, set-get_or, All-append}
use Rattle.mm_dump.proofs.Words.{All-cons, All-nil, Doing, Slotted, All-front, All-back, StoreLabel, PortView}
use Rattle.mm_dump.proofs.Words.{StoresView, DumpWorker, Order, QueueView, Sent, IsHired, IsBack, AllWorked, AreReady}
use Rattle.mm_dump.proofs.Words.{HasWorked, IsNewPort, Work}

-- what holds of each element of a list holds of each of its two parts
parts : {X : Type 0} (P : X → Type 0) (xs ys zs : List X) → zs ≡ xs ++ ys → All P zs → All P xs × All P ys
parts P xs ys zs are all = let both = subst (All P) are all in (All-front P xs ys both, All-back P xs ys both)

-- what is made of the elements of two parts
both : {X Y : Type 0} (f : X → Y) (xs ys : List X) {low high all : List Y} → map f xs ≡ low → map f ys ≡ high
    → all ≡ low ++ high → map f (xs ++ ys) ≡ all
both f xs ys one two are = map-append f xs ys ∙ (λ i. one i ++ two i) ∙ sym are

-- links and ports in two parts
module _ {L Q A : Type 0} (sent : L → List Sent) (failed : L → ℕ) (queue : Slotted (Option ℕ) (Doing ℕ QueueView) Q A)
    (links low_links high_links : List L) (ports low_ports high_ports : List PortView)
    (links_are : links ≡ low_links ++ high_links) (ports_are : ports ≡ low_ports ++ high_ports) where
  -- their workers are ready
  pub both_ready : (stores : StoresView) (labels : List StoreLabel) (orders : List Order)
      (workers low_workers high_workers : List DumpWorker) → workers ≡ low_workers ++ high_workers
      → AreReady sent failed queue stores labels orders links ports workers
      → length low_ports ≡ length low_links → length low_workers ≡ length low_links → 0 < length low_links
      → 0 < length high_links
      → AreReady sent failed queue stores labels orders low_links low_ports low_workers
      × AreReady sent failed queue stores labels orders high_links high_ports high_workers
  both_ready stores labels orders workers low_workers high_workers workers_are ready ports_same workers_same some_low
      some_high =
      let new = parts (IsNewPort stores) low_ports high_ports ports ports_are ready.new_ports in
      let hired = parts (IsHired queue) low_workers high_workers workers workers_are ready.hired in
      let room = parts (λ (l : L). failed l < 2 ^ 64 - 1) low_links high_links links links_are ready.room in
      let links_count = ap length links_are ∙ length-append low_links high_links in
      let ports_count = ap length ports_are ∙ length-append low_ports high_ports in
      let workers_count = ap length workers_are ∙ length-append low_workers high_workers in (
        record {
          some = some_low;
          ports_count = ports_same;
          workers_count = workers_same;
          fit = ready.fit;
          new_ports = new.0;
          hired = hired.0;
          room = room.0;
        },
        record {
          some = some_high;
          ports_count = omega (arith, ready.ports_count, ports_same, links_count, ports_count);
          workers_count = omega (arith, ready.workers_count, workers_same, links_count, workers_count);
          fit = ready.fit;
          new_ports = new.1;
          hired = hired.1;
          room = room.1;
        },
      )

  -- they have worked
  pub both_worked : (ids : List (List ℕ)) (orders : List Order) (links' high_links' : List L)
      (ports' high_ports' : List PortView) (workers' high_workers' : List DumpWorker)
      → AllWorked sent failed queue ids orders low_links links' low_ports ports' workers'
      → AllWorked sent failed queue ids orders high_links high_links' high_ports high_ports' high_workers'
      → AllWorked sent failed queue ids orders links (links' ++ high_links') ports (ports' ++ high_ports')
      (workers' ++ high_workers')
  both_worked ids orders links' high_links' ports' high_ports' workers' high_workers' low high = record {
    works = low.works ++ high.works;
    each = All-append (HasWorked sent failed ids orders) low.works high.works low.each high.each;
    back = All-append (λ (w : Work L). IsBack queue w.worker) low.works high.works low.back high.back;
    old_links_are =
        both (λ (w : Work L). w.old_link) low.works high.works low.old_links_are high.old_links_are links_are;
    new_links_are = both (λ (w : Work L). w.new_link) low.works high.works low.new_links_are high.new_links_are refl;
    old_ports_are =
        both (λ (w : Work L). w.old_port) low.works high.works low.old_ports_are high.old_ports_are ports_are;
    new_ports_are = both (λ (w : Work L). w.new_port) low.works high.works low.new_ports_are high.new_ports_are refl;
    workers_are = both (λ (w : Work L). w.worker) low.works high.works low.workers_are high.workers_are refl;
  }

-- a list of one element, where another takes its place
sole : {X : Type 0} (xs : List X) (x : X) → length xs ≡ 1 → x ∷ [] ≡ set xs 0 x
sole [] x one = absurd (omega (arith, one))
sole (y ∷ []) x one = refl
sole (y ∷ z ∷ xs) x one = absurd (omega (arith, one))

-- one worker alone has worked
pub one_worked : {L Q A : Type 0} (sent : L → List Sent) (failed : L → ℕ)
    (queue : Slotted (Option ℕ) (Doing ℕ QueueView) Q A) (ids : List (List ℕ)) (orders : List Order) (w : Work L)
    (links : List L) (ports : List PortView) (workers : List DumpWorker) → HasWorked sent failed ids orders w
    → IsBack queue w.worker → length links ≡ 1 → length ports ≡ length links → length workers ≡ length links
    → (link : L) → w.old_link ≡ get_or links 0 link → (port : PortView) → w.old_port ≡ get_or ports 0 port
    → AllWorked sent failed queue ids orders links (set links 0 w.new_link) ports (set ports 0 w.new_port)
    (set workers 0 w.worker)
one_worked {L} sent failed queue ids orders w links ports workers worked back one ports_same workers_same link link_is
    port port_is = record {
      works = w ∷ [];
      each = All-cons (HasWorked sent failed ids orders) w [] worked (All-nil (HasWorked sent failed ids orders));
      back = All-cons (λ (v : Work L). IsBack queue v.worker) w [] back
          (All-nil (λ (v : Work L). IsBack queue v.worker));
      old_links_are = sole links w.old_link one ∙ ap (set links 0) link_is ∙ set-get_or links 0 link;
      new_links_are = sole links w.new_link one;
      old_ports_are = sole ports w.old_port (ports_same ∙ one) ∙ ap (set ports 0) port_is ∙ set-get_or ports 0 port;
      new_ports_are = sole ports w.new_port (ports_same ∙ one);
      workers_are = sole workers w.worker (workers_same ∙ one);
    }
