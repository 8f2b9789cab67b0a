-- The flags among the words of a line.
use Rattle.std.proofs.Common.{◌≡◌, ℕ, Bool, Bor, arith, cond, map, slice_index_or, true, false, refl, ap, subst, length}
use Rattle.std.proofs.Common.{List, [], ◌∷◌, ◌∙◌, ◌||◌, ◌⊎◌, inl, inr, Option, Some, None, codes, sym, true≢false}
use Rattle.std.specs.Str.{bytes_eq}
use Rattle.mm_command_line.specs.Lines.{HasNames, IsFileName, IsOutput, command_words, flag_of, flags_if, flight_flags}
use Rattle.mm_command_line.specs.Lines.{flight_spelling, keep_flag, keep_words, order_flag, part_flags, rest_flag}
use Rattle.mm_command_line.specs.Lines.{output_names, output_of, worth_flag}
use Rattle.mm_command_line.specs.declared.task.FlightFiles.{FlightFiles}
use Rattle.mm_command_line.specs.declared.task.FlightPlan.{FlightPlan}
use Rattle.mm_command_line.specs.declared.task.FlightPlan.TheVariants.{Given, Made}
use Rattle.mm_command_line.specs.declared.task.KeptSteps.{KeptSteps}
use Rattle.mm_command_line.specs.declared.task.MissionPart.{MissionPart}
use Rattle.mm_command_line.specs.declared.task.PlanFiles.{PlanFiles}
use Rattle.mm_command_line.specs.declared.task.Task.{Task}
use Rattle.mm_command_line.specs.declared.task.Task.TheVariants.{Plan, Keep, Chart, Table, Rest, Sensitivity, Fly, Mission}

abbrev Text : Type 0
Text = List ℕ

-- ---- a flag that is given

-- what a read of no word gives
abbrev pub no_word : Bor Text
no_word = record { ref_ptr = (0, 0); now = [] }

pub one_given : (flags : List (Bor Text)) (flag : Text) → length flags ≡ 1
    → (slice_index_or flags 0 no_word).now ≡ flag → map (λ f. f.now) flags ≡ flag ∷ []
one_given [] flag one same = absurd (omega (arith, one))
one_given (first ∷ []) flag one same = ap (λ word. word ∷ []) same
one_given (first ∷ next ∷ rest) flag one same = absurd (omega (arith, one))

pub other_given : (flags : List (Bor Text)) (flag : Text) (is : Bool) → length flags ≡ 1
    → ((slice_index_or flags 0 no_word).now ≡ flag → ⊥) → map (λ f. f.now) flags ≡ flags_if is flag → ⊥
other_given [] flag is one other same = omega (arith, one)
other_given (first ∷ []) flag true one other same = other (ap (λ words. slice_index_or words 0 []) same)
other_given (first ∷ []) flag false one other same = let n = ap length same in omega (arith, n)
other_given (first ∷ next ∷ rest) flag is one other same = omega (arith, one)

-- a flag with the two words after it
pub kept_given : (flags : List (Bor Text)) → length flags ≡ 3 → (slice_index_or flags 0 no_word).now ≡ keep_flag
    → map (λ f. f.now) flags ≡ keep_words (slice_index_or flags 1 no_word).now (slice_index_or flags 2 no_word).now
kept_given [] three same = absurd (omega (arith, three))
kept_given (a ∷ []) three same = absurd (omega (arith, three))
kept_given (a ∷ b ∷ []) three same = absurd (omega (arith, three))
kept_given (a ∷ b ∷ c ∷ []) three same = ap (λ word. word ∷ b.now ∷ c.now ∷ []) same
kept_given (a ∷ b ∷ c ∷ d ∷ rest) three same = absurd (omega (arith, three))

-- ---- the flags that go with a command

abbrev pub own_flags : List Text → List Text
own_flags [] = []
own_flags (command ∷ names) =
    cond (bytes_eq command (codes "plan") || bytes_eq command (codes "fly")) (order_flag ∷ [])
    (cond (bytes_eq command (codes "chart")) (worth_flag ∷ [])
    (cond (bytes_eq command (codes "run")) (rest_flag ∷ []) []))

-- the command is `plan`, of which a flag may have words after it
abbrev pub is_plan : List Text → Bool
is_plan [] = false
is_plan (command ∷ names) = bytes_eq command (codes "plan")

-- the command is `mission`, of which a flag is one of several
abbrev pub is_mission : List Text → Bool
is_mission [] = false
is_mission (command ∷ names) = bytes_eq command (codes "mission")

-- the command has other flags than one that is given or not
abbrev pub has_choice : List Text → Bool
has_choice words = is_plan words || is_mission words

abbrev pub HasOwnFlags : Task → List Text → Type 0
HasOwnFlags task words = (is : Bool) × (flag_of task ≡ cond is (own_flags words) [])

own_flight : (setup forecast sources links : Text) (plan : FlightPlan)
    → (is : Bool) × (flight_flags plan ≡ cond is (own_flags (flight_spelling setup forecast sources links plan)) [])
own_flight setup forecast sources links (Given plan rest) = (rest, refl)
own_flight setup forecast sources links (Made in_order) = (in_order, refl)

has_own_flags : (task : Task) → has_choice (command_words task) ≡ false → HasOwnFlags task (command_words task)
has_own_flags (Plan setup forecast in_order output) other = absurd (true≢false other)
has_own_flags (Keep kept output) other = absurd (true≢false other)
has_own_flags (Mission mission part output) other = absurd (true≢false other)
has_own_flags (Chart files worth output) other = (worth, refl)
has_own_flags (Fly f) other = own_flight f.setup.now f.forecast.now f.sources.now f.links.now f.plan
has_own_flags task other = (false, refl)

-- a task of the words of another command than `plan` and `mission` has no flag but that of the command
pub flags_of : (task : Task) (words : List Text) → command_words task ≡ words → has_choice words ≡ false
    → HasOwnFlags task words
flags_of task words same other =
    subst (HasOwnFlags task) same (has_own_flags task (ap has_choice same ∙ other))

-- the flags of a task are one that it has or has not, or the steps of a plan that are kept
abbrev pub HasPlanFlags : Task → Type 0
HasPlanFlags task = ((is : Bool) × (flag_of task ≡ flags_if is order_flag))
    ⊎ ((plan : Text) × (last : Text) × (flag_of task ≡ keep_words plan last)
    × (HasNames task → IsFileName plan × IsFileName last))

no_flight : (setup forecast sources links : Text) (plan : FlightPlan)
    → is_plan (flight_spelling setup forecast sources links plan) ≡ true → ⊥
no_flight setup forecast sources links (Given plan rest) is = true≢false (sym is)
no_flight setup forecast sources links (Made in_order) is = true≢false (sym is)

has_plan_flags : (task : Task) → is_plan (command_words task) ≡ true → HasPlanFlags task
has_plan_flags (Plan setup forecast in_order output) is = inl (in_order, refl)
has_plan_flags (Keep kept output) is = inr (kept.files.plan.now, kept.last.now, refl, λ names. names)
has_plan_flags (Fly f) is =
    absurd (no_flight f.setup.now f.forecast.now f.sources.now f.links.now f.plan is)
has_plan_flags task is = absurd (true≢false (sym is))

-- a task of the words of `plan` has its flags
pub plan_flags : (task : Task) (words : List Text) → command_words task ≡ words → is_plan words ≡ true
    → HasPlanFlags task
plan_flags task words same is = has_plan_flags task (ap is_plan same ∙ is)

-- the flag of a mission asks for a part of it
abbrev pub HasPart : Task → Type 0
HasPart task = (p : MissionPart) × (flag_of task ≡ part_flags p)

no_mission : (setup forecast sources links : Text) (plan : FlightPlan)
    → is_mission (flight_spelling setup forecast sources links plan) ≡ true → ⊥
no_mission setup forecast sources links (Given plan rest) is = true≢false (sym is)
no_mission setup forecast sources links (Made in_order) is = true≢false (sym is)

has_part : (task : Task) → is_mission (command_words task) ≡ true → HasPart task
has_part (Mission mission part output) is = (part, refl)
has_part (Fly f) is = absurd (no_mission f.setup.now f.forecast.now f.sources.now f.links.now f.plan is)
has_part task is = absurd (true≢false (sym is))

-- a task of the words of `mission` has its flags
pub part_of : (task : Task) (words : List Text) → command_words task ≡ words → is_mission words ≡ true → HasPart task
part_of task words same is = has_part task (ap is_mission same ∙ is)

-- ---- the output that goes with a command

abbrev pub has_output : List Text → Bool
has_output [] = false
has_output (command ∷ names) =
    bytes_eq command (codes "plan") || bytes_eq command (codes "chart") || bytes_eq command (codes "table")
    || bytes_eq command (codes "rest") || bytes_eq command (codes "sensitivity")
    || bytes_eq command (codes "mission")

no_output : (task : Task) → has_output (command_words task) ≡ false → output_of task ≡ None
no_output (Plan setup forecast in_order output) none = absurd (true≢false none)
no_output (Keep kept output) none = absurd (true≢false none)
no_output (Chart files worth output) none = absurd (true≢false none)
no_output (Table files output) none = absurd (true≢false none)
no_output (Rest kept output) none = absurd (true≢false none)
no_output (Sensitivity setup forecast output) none = absurd (true≢false none)
no_output (Mission mission part output) none = absurd (true≢false none)
no_output other none = refl

-- a task of the words of a command without an output has none
pub outputs_none : (task : Task) (words : List Text) (names : List Text) (output : Option (Bor Text))
    → command_words task ≡ words → has_output words ≡ false → IsOutput names (output_of task) → IsOutput names output
    → output ≡ None
outputs_none task words names None same none own given = refl
outputs_none task words names (Some name) same none own given =
    let is = no_output task (ap has_output same ∙ none) in
    let empty : names ≡ [] = own.same ∙ ap output_names is in
    let one = ap length (sym given.same ∙ empty) in
    absurd (omega (arith, one))

-- a task of the words of a command without a flag has none
pub flags_none : (task : Task) (words : List Text) → command_words task ≡ words → has_choice words ≡ false
    → own_flags words ≡ [] → flag_of task ≡ []
flags_none task words same other none = by (flags_of task words same other)
  where
    by : HasOwnFlags task words → flag_of task ≡ []
    by (true, is) = is ∙ none
    by (false, is) = is

-- ---- the commands without an option

-- words of a command with which no option goes
pub record AreBare (words : List Text) : Type 0 where
  pub other : has_choice words ≡ false
  pub flags : own_flags words ≡ []
  pub output : has_output words ≡ false

pub bare : (task : Task)
    → ((setup forecast : Bor Text) (in_order : Bool) (output : Option (Bor Text))
    → task ≡ Plan setup forecast in_order output → ⊥)
    → ((kept : KeptSteps) (output : Option (Bor Text)) → task ≡ Keep kept output → ⊥)
    → ((files : PlanFiles) (worth : Bool) (output : Option (Bor Text)) → task ≡ Chart files worth output → ⊥)
    → ((files : PlanFiles) (output : Option (Bor Text)) → task ≡ Table files output → ⊥)
    → ((kept : KeptSteps) (output : Option (Bor Text)) → task ≡ Rest kept output → ⊥)
    → ((setup forecast : Bor Text) (output : Option (Bor Text)) → task ≡ Sensitivity setup forecast output → ⊥)
    → ((mission : Bor Text) (part : MissionPart) (output : Option (Bor Text)) → task ≡ Mission mission part output → ⊥)
    → ((files : FlightFiles) → task ≡ Fly files → ⊥) → AreBare (command_words task)
bare (Plan setup forecast in_order output) plan keep chart table rest worths parts fly =
    absurd (plan setup forecast in_order output refl)
bare (Keep kept output) plan keep chart table rest worths parts fly = absurd (keep kept output refl)
bare (Chart files worth output) plan keep chart table rest worths parts fly = absurd (chart files worth output refl)
bare (Table files output) plan keep chart table rest worths parts fly = absurd (table files output refl)
bare (Rest kept output) plan keep chart table rest worths parts fly = absurd (rest kept output refl)
bare (Sensitivity setup forecast output) plan keep chart table rest worths parts fly =
    absurd (worths setup forecast output refl)
bare (Mission mission part output) plan keep chart table rest worths parts fly =
    absurd (parts mission part output refl)
bare (Fly files) plan keep chart table rest worths parts fly = absurd (fly files refl)
bare other plan keep chart table rest worths parts fly = record { other = refl; flags = refl; output = refl }
