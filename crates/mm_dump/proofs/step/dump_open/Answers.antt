use Rattle.mm_dump.proofs.Words.{rules, ◌≡◌, ◌-◌, ◌<◌, ◌≤◌, ◌^◌, ℕ, List, ◌++◌, length, map, take, drop, All, vec_len}
use Rattle.mm_dump.proofs.Words.{refl, sym, ap, subst, ◌∙◌, arith, sum_by, range_with_len, length-take-le, length-drop}
use Rattle.mm_dump.proofs.Words.{length-map, take-append-drop, nil_from_length, All-take, view, Held, states_of}
use Rattle.mm_dump.proofs.Words.{stores_in, all_ends, names_of, HaveLegalLogs, PortView, DumpWorker, worst_of}
use Rattle.mm_dump.proofs.Words.{CarriesOut, Tells, IsHired, IsBack, AreBack, AreReady, causes_of}
use Rattle.std.proofs.lemmas.List.{take_at}
use Rattle.mm_shared.proofs.Opening.{ids_open, same_many}
use Rattle.mm_shared.proofs.StillOpen.{still_open}
use Rattle.mm_dump.proofs.Leaves.{all_back, ends_same, nothing, step_leaves, step_ready}
use Rattle.mm_dump.proofs.step.dump_open.Goals.{After-deref_mut-2, After-dump_all}
use Rattle.mm_dump.proofs.step.dump_open.Given as given
use Rattle.mm_dump.proofs.step.dump_open.Goals as goal

pub returns-then-is_empty-clause-carried : goal.returns-then-is_empty-clause-carried
returns-then-is_empty-clause-carried g c =
    let before = stores_in c.args.stores.now in
    rw (c.read_states.ensures.same)
    (nothing g.L.Link.sent g.L.Link.failed (map (λ h. h.id) before) c.args.orders.now before c.args.links.now
    c.requires.may (nil_from_length c.args.orders.now (search rules)))

-- how many workers there are
busy : (g : given.Over) (c : goal.After-deref_mut-2 g)
    → length (take c.min-many.result c.args.links.now) ≡ c.min-many.result
busy g c = length-take-le c.min-many.result c.args.links.now (search rules)

workers : (g : given.Over) (c : goal.After-deref_mut-2 g) → length c.deref_mut-2.result.now ≡ c.min-many.result
workers g c =
    let count : vec_len c.hire.new.workers ≡ length c.hire.new.workers.items = omega (arith, c.hire.new.workers.ok.0) in
    omega (arith, count, ap length c.deref_mut-2.ensures.value, c.hire.ensures.hired.many)

-- they are ready
ready : (g : given.Over) (c : goal.After-deref_mut-2 g) → AreReady g.L.Link.sent g.L.Link.failed c.buffers.inside.queue
    c.seat_workers.new.opened.stores c.deref.result.now c.args.orders.now
    (take c.min-many.result c.args.links.now) c.deref_mut.result.now c.deref_mut-2.result.now
ready g c =
    let some : 0 < c.min-many.result = search rules in
    let hired = subst (λ (ws : List DumpWorker). All (IsHired c.buffers.inside.queue) ws)
    (sym c.deref_mut-2.ensures.value) c.hire.ensures.hired.hired in
    step_ready g.L.Link.sent g.L.Link.failed c.buffers.inside.queue c.seat_workers.new.opened c.args.orders.now
    (stores_in c.args.stores.now) c.min-many.result (take c.min-many.result c.args.links.now)
    c.deref.result.now c.deref_mut.result.now c.deref_mut-2.result.now
    (omega (arith, some, busy g c)) (busy g c) (All-take (λ l. g.L.Link.failed l < 2 ^ 64 - 1) c.min-many.result
    c.args.links.now c.requires.may.room) c.requires.may.places c.seat_workers.ensures.new
    c.deref.ensures.value c.deref_mut.ensures.value (workers g c) hired

pub dump_all-requires-clause-ready : goal.dump_all-requires-clause-ready
dump_all-requires-clause-ready g c κs within = ready g c

-- the ports and the workers were lent whole
same_ports : (g : given.Over) (c : goal.After-dump_all g) (rest : List PortView)
    → take c.seat_workers.new.opened.workers.len (c.dump_all.new.ports ++ rest) ≡ c.dump_all.new.ports
same_ports g c rest =
    let held : vec_len c.seat_workers.new.opened.workers ≡ length c.seat_workers.new.opened.workers.items =
    omega (arith, c.seat_workers.new.opened.workers.ok.0) in
    take_at c.dump_all.new.ports rest c.seat_workers.new.opened.workers.len
    (omega (arith, held, c.dump_all.auto.ports, ap length c.deref_mut.ensures.value))

same_workers : (g : given.Over) (c : goal.After-dump_all g) (rest : List DumpWorker)
    → take c.hire.new.workers.len (c.dump_all.new.workers ++ rest) ≡ c.dump_all.new.workers
same_workers g c rest =
    let held : vec_len c.hire.new.workers ≡ length c.hire.new.workers.items = omega (arith, c.hire.new.workers.ok.0) in
    take_at c.dump_all.new.workers rest c.hire.new.workers.len
    (omega (arith, held, c.dump_all.auto.workers, ap length c.deref_mut-2.ensures.value))

-- what the workers have
back : (g : given.Over) (c : goal.After-dump_all g) (rest : List DumpWorker)
    → All (IsBack c.buffers.inside.queue) (take c.hire.new.workers.len (c.dump_all.new.workers ++ rest))
back g c rest =
    subst (All (IsBack c.buffers.inside.queue)) (sym (same_workers g c rest))
    (all_back g.L.Link.sent g.L.Link.failed c.buffers.inside.queue _ _ _ _ _ _ _ c.dump_all.ensures.worked)

pub settle-requires : goal.settle-requires
settle-requires g c =
    let a = (goal.at.settle-requires g c).After-dump_all in
    let ends = ends_same g.L.Link.sent g.L.Link.failed c.buffers.inside.queue _ _ _ _ _ _ _ c.dump_all.ensures.worked in
    let same = ap all_ends (same_ports g a _) ∙ ends ∙ ap all_ends c.deref_mut.ensures.value in
    record { opened = still_open c.seat_workers.new.opened _ c.seat_workers.ensures.new.are_open refl same }

pub spent_by-spent-requires-clause-bound : goal.spent_by-spent-requires-clause-bound
spent_by-spent-requires-clause-bound g c k d inside =
    let a = (goal.at.spent_by-spent-requires-clause-bound g c).After-dump_all in
    (subst (All (IsBack c.buffers.inside.queue)) (sym c.deref-3.ensures.value) (back g a _) k d inside).bound

pub join_passes-requires-clause-passes : goal.join_passes-requires-clause-passes
join_passes-requires-clause-passes g c = back g (goal.at.join_passes-requires-clause-passes g c).After-dump_all _

pub returns-clause-carried : goal.returns-clause-carried
returns-clause-carried g c =
    let b = (goal.at.returns-clause-carried g c).After-deref_mut-2 in
    let a = (goal.at.returns-clause-carried g c).After-dump_all in
    let before = stores_in c.args.stores.now in
    let after = stores_in c.settle.new.opened in
    let many = c.min-many.result in
    let idle = drop many c.args.links.now in
    let opened = c.seat_workers.ensures.new in
    let same = same_workers g a (drop (length c.dump_all.new.workers) c.hire.new.workers.items) in
    let ports = same_ports g a (drop (length c.dump_all.new.ports) c.seat_workers.new.opened.workers.items) in
    let joined : AreBack c.buffers.inside.queue c.dump_all.new.workers c.hire.new.pass c.join_passes.new.pass =
    subst (λ (ws : List DumpWorker). AreBack c.buffers.inside.queue ws c.hire.new.pass c.join_passes.new.pass) same
    c.join_passes.ensures.joined in
    let broken = c.worst_broken-broken.ensures.worst ∙ ap (λ (ws : List DumpWorker). worst_of (causes_of ws))
    (c.deref-2.ensures.value ∙ same) in
    let spent = c.spent_by-spent.ensures.spent ∙ ap (sum_by (λ (w : DumpWorker). w.spent)) (c.deref-3.ensures.value
    ∙ same) in
    let tells = subst (λ v. Tells v c.learn_taken.ensures.taken.0) c.learn_taken.ensures.same
    c.learn_taken.ensures.taken.1 in
    let whole : (view c.join_passes.new.pass).parts ≡ 1024 =
    omega (arith, joined.parts, c.hire.ensures.hired.parts, c.dump_all.auto.workers, workers g b) in
    let total : (weight : ℕ → ℕ) → sum_by weight (range_with_len 0 tells.next) ≡ sum_by
    (λ (w : DumpWorker). sum_by weight (view w.pass).taken) c.dump_all.new.workers = λ weight. omega
    (arith, tells.each whole weight, joined.taken weight, ap (sum_by weight) c.hire.ensures.hired.none) in
    let labels = c.settle.ensures.labels ∙ opened.labels in
    let count : length (states_of after) ≡ length before = length-map after (λ (h : Held). h.state)
    ∙ same_many after before labels in
    let logs = subst (λ (T : Type 0). T) (λ i. HaveLegalLogs (ports i) (opened.states i) (states_of after))
    c.settle.ensures.logs in
    let ids = ids_open c.deref.result.now before (ap names_of c.deref.ensures.value ∙ opened.labels) in
    let few : 0 < length idle → length c.args.orders.now ≤ length (take many c.args.links.now) =
    λ some. omega (arith, some, length-drop many c.args.links.now, busy g b, c.min-many.ensures) in
    subst (λ (T : Type 0). T)
    (λ i. CarriesOut g.L.Link.sent g.L.Link.failed (ids i) c.args.orders.now (states_of before) (states_of after)
    (take-append-drop many c.args.links.now i) (c.dump_all.new.links ++ idle)
    (sym broken i) (sym spent i))
    (step_leaves g.L.Link.sent g.L.Link.failed c.buffers.inside.queue _ _ _ _ _ _ _ c.dump_all.ensures.worked before
    c.args.links.now c.requires.may _ (ready g b).new_ports (states_of after) count logs
    tells.next total idle few (ready g b).some)
