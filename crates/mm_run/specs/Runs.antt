-- What a run from texts prints.
use Rattle.std.specs.Prelude.{◌≡◌, ◌⊎◌, ℕ, ◌-◌, ◌≤◌, ◌^◌, min, List, [], All, length, fold, map, sum_by}
use Rattle.std.specs.Prelude.{slice_index_or, count_by, flat_map, not, Option, Some, None, ◌+◌}
use Rattle.mm_run.specs.Types.{Dumping, SpacePacket, SheetRows, Holdings, Flown, FlyHalted, ScriptedSource}
use Rattle.mm_run.specs.Types.{ScriptedLink}
use Rattle.mm_plan.specs.Table.{Table}
use Rattle.mm_desk.specs.declared.held.Held.{Held}
use Rattle.mm_memory.specs.Recording.{after_record}
use Rattle.mm_record.specs.Supplies.{Supply}
use Rattle.mm_dump.specs.Sending.{Sent}
use Rattle.mm_carry.specs.Accounts.{over_steps}
use Rattle.mm_carry.specs.RunInput.{RunInput, run_input}
use Rattle.mm_carry.specs.Untaken.{is_taken, untaken}
use Rattle.mm_carry.specs.Step.{NeverRefused}
use Rattle.mm_carry.specs.Ending.{IsCarriedOut, IsHalted}
use Rattle.mm_exec.specs.Flying.{FliesFor, FliesNotFor, HasNoPlan}
use Rattle.mm_planner.specs.declared.goal.Goal.{Goal}
use Rattle.mm_planner.specs.declared.goal.Goal.TheVariants.{Least}
use Rattle.mm_run.specs.declared.printed.Printed.{Printed}
use Rattle.mm_run.specs.Printed.{TellsAll, TellsEnd}
use Rattle.mm_run.specs.Texts.{SaysStart, SaysSourcesAndLinks}
use Rattle.mm_run.specs.Untaken.{CountsOf, is_untaken}
use Rattle.mm_run.specs.declared.untaken.Unstored.{Unstored}

-- packets are offered, in order, each to the stores of its report type
abbrev pub opened_with : Holdings → List SpacePacket → Holdings
opened_with memory packets = fold (λ m p. after_record 0 p m) memory packets

-- how many packets the stores have lost, as far as 64 bits count
abbrev pub lost_in : Holdings → ℕ
lost_in memory = min (sum_by (λ h. h.state.lost) memory.stores) (2 ^ 64 - 1)

-- each store was offered at most this many packets
abbrev pub AreOffered : ℕ → List Held → Type 0
AreOffered most stores = All (λ h. h.state.offered ≤ most) stores

-- what a scripted source gives, what was sent over a scripted link, and how many of its sends failed
abbrev pub gives : ScriptedSource → Supply
gives source step = slice_index_or source step []

abbrev pub sent : ScriptedLink → List Sent
sent link = link.sent

abbrev pub failed : ScriptedLink → ℕ
failed link = link.failed

-- a run with these sources and links: the problem, the plan, the memory with the packets of step 0, and the moment 0
-- before the first step
abbrev pub scripted : Dumping → Table → Holdings → List ScriptedSource → RunInput
scripted problem plan memory sources = run_input problem plan 0 memory (map gives sources)

-- of the packets of step 0, and of all that the sources give in the steps, as many as are told are taken by no route,
-- by this memory
abbrev pub CountsUntaken : ℕ → Holdings → List SpacePacket → List ScriptedSource → Unstored → Type 0
CountsUntaken steps memory opening sources n = n.telecommands + n.unrouted ≡ count_by (is_untaken memory) opening
    + count_by (is_untaken memory) (over_steps (λ t. flat_map (λ give. give t) (map gives sources)) steps)

-- what is told not to be taken is what no route takes: of the packets of step 0, and of all that the sources give in
-- the steps of the run
abbrev pub TellsUntaken : RunInput → List SpacePacket → Unstored → Type 0
TellsUntaken m opening n = n.telecommands + n.unrouted
    ≡ count_by (λ p. not (is_taken m p)) opening + length (untaken m (length m.problem.windows))

-- the plan of the sheet was carried out, and no text of it is printed; or without a sheet, a plan was made for this
-- goal, printed and carried out
unfoldable pub IsFlown : Goal → Option SheetRows → Dumping → Holdings → List ScriptedSource → List ScriptedLink
    → Holdings
    → Flown ScriptedSource ScriptedLink → Type 0
IsFlown goal (Some sheet) problem memory sources links left flown = (flown.sheet.items ≡ [])
    × IsCarriedOut sent failed (scripted problem sheet.plan memory sources) sheet.plan links left
    (map gives flown.sources.items) flown.links.items flown.report
IsFlown goal None problem memory sources links left flown =
    FliesFor goal sent failed problem 0 memory (map gives sources) links left flown (map gives flown.sources.items)

-- the run of the sheet's plan did not begin, or was halted, and no text of the plan is printed; or without a sheet,
-- this is so of a plan that was made and printed, or there was no memory to plan
unfoldable pub IsNotFlown : Goal → Option SheetRows → Dumping → Holdings → List ScriptedSource → List ScriptedLink
    → Holdings
    → FlyHalted ScriptedSource ScriptedLink → Type 0
IsNotFlown goal (Some sheet) problem memory sources links left ended = (ended.sheet.items ≡ [])
    × IsHalted sent failed (scripted problem sheet.plan memory sources) sheet.plan sources links left ended.halted
    (map gives ended.halted.sources.items)
IsNotFlown goal None problem memory sources links left ended =
    FliesNotFor goal sent failed problem 0 memory sources (map gives sources) links left ended
    (map gives ended.halted.sources.items)
    ⊎ HasNoPlan memory sources links left ended

-- the run was carried out, and this is printed
pub record EndsWhole (goal : Goal) (sheet : Option SheetRows) (problem : Dumping) (memory : Holdings)
    (sources : List ScriptedSource)
    (links : List ScriptedLink) (p : Printed) : Type 0 where
  pub left : Holdings
  pub flown : Flown ScriptedSource ScriptedLink
  pub is_flown : IsFlown goal sheet problem memory sources links left flown
  pub tells : TellsAll flown.sheet.items flown.report p

-- the run did not begin or was halted, but never because a store refused a packet; this is
-- printed, and what the run left is handed on
pub record EndsEarly (goal : Goal) (sheet : Option SheetRows) (problem : Dumping) (memory : Holdings)
    (sources : List ScriptedSource)
    (links : List ScriptedLink) (p : Printed) : Type 0 where
  pub left : Holdings
  pub ended : FlyHalted ScriptedSource ScriptedLink
  pub not_flown : IsNotFlown goal sheet problem memory sources links left ended
  pub never_refused : NeverRefused ended.halted.cause
  pub tells : TellsEnd ended.sheet.items ended.halted.cause ended.halted.report p
  pub left_is : p.left ≡ Some (record { problem = problem; memory = left; halted = ended.halted })

-- how the run ended, and what is printed of it
abbrev pub RunEnds : Goal → Option SheetRows → Dumping → Holdings → List ScriptedSource → List ScriptedLink → Printed
    → Type 0
RunEnds goal sheet problem memory sources links p =
    EndsWhole goal sheet problem memory sources links p ⊎ EndsEarly goal sheet problem memory sources links p

-- what is printed of the run that the texts say: of the plan of a text, or of one that is made for this goal
pub record PrintsRun (goal : Goal) (plan : Option (List ℕ)) (setup forecast sources_text links_text : List ℕ)
    (p : Printed) : Type 0 where
  pub problem : Dumping
  pub memory : Holdings
  pub sheet : Option SheetRows
  pub start_says : SaysStart plan setup forecast problem memory sheet
  pub opening : List SpacePacket
  pub sources : List ScriptedSource
  pub links : List ScriptedLink
  pub sides_say : SaysSourcesAndLinks sources_text links_text opening sources links
  pub ended : RunEnds goal sheet problem (opened_with memory opening) sources links p
  pub counts : CountsOf (length problem.windows) memory sources_text p.given.unstored
  pub untaken_told : (table : Table)
      → TellsUntaken (scripted problem table (opened_with memory opening) sources) opening p.given.unstored
  pub lost_before : p.given.lost_before ≡ lost_in (opened_with memory opening)

-- what is printed of the run that the five texts say
abbrev pub Runs : List ℕ → List ℕ → List ℕ → List ℕ → List ℕ → Printed → Type 0
Runs setup forecast plan sources links p = PrintsRun Least (Some plan) setup forecast sources links p

-- what is printed of the plan for the first two of four texts, and of its run
abbrev pub FliesBy : List ℕ → List ℕ → List ℕ → List ℕ → Printed → Type 0
FliesBy setup forecast sources links p = PrintsRun Least None setup forecast sources links p
