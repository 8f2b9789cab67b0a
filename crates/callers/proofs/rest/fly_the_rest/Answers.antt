use Rattle.std.proofs.Common.{◌≡◌, ℕ, List, map, Ok}
use Rattle.mm_base.specs.Reading.{test}
use Rattle.mm_problem.specs.Dumping.{Dumping}
use Rattle.mm_problem.specs.Rest.{starts_fit, rest_of, rest_from}
use Rattle.mm_problem.specs.declared.fault.Fault.TheVariants.{Limit}
use Rattle.mm_problem.specs.declared.fault.Name.TheVariants as name
use Rattle.mm_base.proofs.ReadingSteps.{bind_ok}
use Rattle.mm_record.specs.Later.{later_gives}
use Rattle.mm_record.proofs.Supplying.{as_known}
use Rattle.mm_exec.specs.Flying.{Flies}
use Rattle.callers.proofs.rest.fly_the_rest.Given as given
use Rattle.callers.proofs.rest.fly_the_rest.Goals as goal
use Rattle.callers.proofs.rest.fly_the_rest.Goals.{In-Ok-fly}

-- a rest that was given is the rest
rest_is : (q : Dumping) (step : ℕ) (starts : List ℕ) (rest : Dumping) → rest_from q step starts ≡ Ok rest → rest_of q step starts ≡ rest
unfolding rest_from
rest_is q step starts rest h =
    let (u, passed, last) = bind_ok (test (starts_fit q.rows starts) (Limit name.Start)) (λ _. Ok (rest_of q step starts)) rest h in
    cc

-- the run, of sources whose packets are known before
flown : (g : given.Over) (c : In-Ok-fly g)
    → Flies g.L.Link.sent g.L.Link.failed c.in-Ok.rest c.args.now c.args.memory.now (map (later_gives g.S.Source.gives) c.in-Ok-later_sources.later.items) c.args.links.items
    c.fly.new.memory c.in-Ok-fly.flown (map (later_gives g.S.Source.gives) c.in-Ok-fly.flown.sources.items)
flown g c =
    as_known (later_gives g.S.Source.gives) c.in-Ok-later_sources.later.items c.in-Ok-fly.flown.sources.items
    (λ given left. Flies g.L.Link.sent g.L.Link.failed c.in-Ok.rest c.args.now c.args.memory.now given c.args.links.items c.fly.new.memory c.in-Ok-fly.flown left)
    c.in-Ok-fly.ensures.flown

pub returns-in-Ok-fly-clause-least : goal.returns-in-Ok-fly-clause-least
returns-in-Ok-fly-clause-least g c =
    let run = flown g (goal.at.returns-in-Ok-fly-clause-least g c).In-Ok-fly in
    let shown = run.plans.shows_least in
    rw (rest_is _ _ _ _ c.in-Ok.ensures.rest) (record { sheet = run.sheet; plans = run.plans; least = shown.least; loses = shown.loss })

pub returns-in-Ok-fly-clause-flown : goal.returns-in-Ok-fly-clause-flown
returns-in-Ok-fly-clause-flown g c =
    rw (rest_is _ _ _ _ c.in-Ok.ensures.rest, ← c.in-Ok-later_sources.ensures.sources) (flown g (goal.at.returns-in-Ok-fly-clause-flown g c).In-Ok-fly)
