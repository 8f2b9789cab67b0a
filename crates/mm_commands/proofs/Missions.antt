-- What becomes of a mission.
use Rattle.std.proofs.Common.{◌≡◌, ◌≢◌, ◌∙◌, ◌⊎◌, ◌++◌, ℕ, List, [], ◌∷◌, Option, Some, None, Result, Ok, Err, All, Bor}
use Rattle.std.proofs.Common.{IfOk, IfSome, IsErrAnd, inl, inr, map, refl, sym, ap, subst}
use Rattle.std.specs.Io.KnownBytes.{Appends}
use Rattle.mm_files.specs.Contents.{Contents, FilesView, Reading, WereRead, reading}
use Rattle.mm_command_line.specs.declared.task.MissionPart.{MissionPart}
use Rattle.mm_command_line.specs.declared.task.Task.TheVariants.{Mission}
use Rattle.mm_mission_text.specs.Cells.{told_as}
use Rattle.mm_mission_text.specs.Missions.{mission_in}
use Rattle.mm_mission_text.specs.declared.document.MissionText.{MissionText}
use Rattle.mm_mission_text.specs.declared.mission_fault.MissionFault.{MissionFault}
use Rattle.mm_mission_text.specs.declared.mission_fault.MissionFault.TheVariants as of_text
use Rattle.mm_mission_plan.specs.Faults.{refusal_of, text_fault}
use Rattle.mm_mission_plan.specs.Plans.{IsFaultOf, PlansMission}
use Rattle.mm_mission_plan.specs.Rows.{TableTexts}
use Rattle.mm_mission_plan.specs.declared.fault.Fault as plan
use Rattle.mm_mission_plan.specs.declared.fault.Fault.TheVariants as of_plan
use Rattle.mm_mission_plan.specs.declared.plan.PlannedMission.{PlannedMission}
use Rattle.mm_commands.specs.Answers.{Gives}
use Rattle.mm_commands.specs.Faults.{refused_line}
use Rattle.mm_commands.specs.Missions.{IsApart, IsTablesFault, IsTableUnread, IsTablesRead, ReadsMission}
use Rattle.mm_commands.specs.Missions.{names_beside, part_text, readings_beside, tables_of, told_fault}
use Rattle.mm_commands.specs.Reading.{IsUnread, StopsAt}
use Rattle.mm_commands.specs.Refusing.{Completes, IsFaultIn, Settles}
use Rattle.mm_commands.specs.Streams.{file_of}
use Rattle.mm_commands.specs.Tables.{AreApart, AreNames, given_texts, names_at, readings_at}
use Rattle.mm_commands.specs.declared.fault.Fault.{Fault}
use Rattle.mm_commands.specs.declared.fault.Fault.TheVariants as fault
use Rattle.mm_commands.specs.declared.status.Status.{Status}
use Rattle.mm_commands.specs.declared.status.Status.TheVariants.{Done, Refused}
use Rattle.mm_commands.specs.declared.tables.MissionTables.{MissionTables}
use Rattle.mm_commands.specs.declared.tables.TableNames.{TableNames}
use Rattle.mm_commands.specs.declared.texts.TaskTexts.{TaskTexts}
use Rattle.mm_commands.proofs.Beside.{are_apart, names_are, readings_are, texts_are}
use Rattle.mm_commands.proofs.Refusals.{read_after, refuses}

-- what the tables of a mission are told of is a fault of theirs
pub tables_fault : (said : MissionText) (tables : TableTexts) (e : plan.Fault)
    → (e ≢ of_plan.NoMemory → IsFaultOf said tables e) → IsTablesFault said tables (told_fault e)
tables_fault said tables of_plan.NoMemory is = tt
tables_fault said tables (of_plan.Text f) is = (of_plan.Text f, is (λ same. absurd cc), refl)
tables_fault said tables (of_plan.NotGiven f) is = (of_plan.NotGiven f, is (λ same. absurd cc), refl)
tables_fault said tables (of_plan.NotNamed f) is = (of_plan.NotNamed f, is (λ same. absurd cc), refl)
tables_fault said tables (of_plan.Table c f) is = (of_plan.Table c f, is (λ same. absurd cc), refl)
tables_fault said tables (of_plan.Exact f) is = (of_plan.Exact f, is (λ same. absurd cc), refl)
tables_fault said tables (of_plan.Mission f) is = (of_plan.Mission f, is (λ same. absurd cc), refl)

-- what a mission's text is told of is its fault
pub text_fault_in : (name : Bor (List ℕ)) (part : MissionPart) (output : Option (Bor (List ℕ))) (texts : TaskTexts)
    (f : MissionFault) → (f ≢ of_text.NoMemory → mission_in texts.other.items ≡ Err f)
    → IsFaultIn (Mission name part output) texts (told_fault (text_fault f))
text_fault_in name part output texts of_text.NoMemory is = tt
text_fault_in name part output texts of_text.NotUtf8 is =
    (of_plan.Text of_text.NotUtf8, ap (told_as text_fault) (is (λ same. absurd cc)), refl)
text_fault_in name part output texts (of_text.NotToml e) is =
    (of_plan.Text (of_text.NotToml e), ap (told_as text_fault) (is (λ same. absurd cc)), refl)
text_fault_in name part output texts (of_text.UnknownKey table row key) is =
    (of_plan.Text (of_text.UnknownKey table row key), ap (told_as text_fault) (is (λ same. absurd cc)), refl)
text_fault_in name part output texts (of_text.NotTables table) is =
    (of_plan.Text (of_text.NotTables table), ap (told_as text_fault) (is (λ same. absurd cc)), refl)
text_fault_in name part output texts (of_text.NotFile key) is =
    (of_plan.Text (of_text.NotFile key), ap (told_as text_fault) (is (λ same. absurd cc)), refl)
text_fault_in name part output texts (of_text.In table e) is =
    (of_plan.Text (of_text.In table e), ap (told_as text_fault) (is (λ same. absurd cc)), refl)

-- a mission that is refused for this
mission_refused : {E : Type 0} (old new : FilesView) (name : Bor (List ℕ)) (part : MissionPart)
    (output : Option (Bor (List ℕ))) (e : Fault) (before after : Option (List ℕ)) (result : Result Status E)
    → new.contents ≡ old.contents
    → IsTableUnread old.contents old.readings new.readings name.now e
    ⊎ IsTablesRead old.contents old.readings new.readings name.now e
    → IfOk result (λ status. Appends before after (refused_line e)) → IfOk result (λ status. status ≡ Refused)
    → IfOk result (λ status. Settles old new (Mission name part output) status before after)
mission_refused old new name part output e before after result kept is line refused =
    refuses (λ status. Completes old new (Mission name part output) status before after) old new
    (Mission name part output) e before after result kept
    (inr (inr (record { name = name; part = part; output = output; asked = refl; is = is }))) line refused

module _ {E : Type 0} (old new : FilesView) (name : Bor (List ℕ)) (part : MissionPart) (output : Option (Bor (List ℕ)))
    (text : List ℕ) (said : MissionText) (says : mission_in text ≡ Ok said) (before after : Option (List ℕ))
    (result : Result Status E) where
  -- there was no memory for the names of its tables
  pub unnamed_settles : new.contents ≡ old.contents
      → WereRead old.contents old.readings new.readings (reading name.now text ∷ [])
      → IfOk result (λ status. Appends before after (refused_line fault.NoMemory))
      → IfOk result (λ status. status ≡ Refused)
      → IfOk result (λ status. Settles old new (Mission name part output) status before after)
  unnamed_settles kept first line refused =
      refuses (λ status. Completes old new (Mission name part output) status before after) old new
      (Mission name part output) fault.NoMemory before after result kept
      (inl (record { readings = reading name.now text ∷ []; left = []; read = first; split = refl; stopped = tt })) line
      refused

  module _ (names : TableNames) (are : AreNames name.now said names) where
    -- a table was not read
    pub unread_settles : (e : Fault) (mid : Option (List Reading)) (now : Contents) → new.contents ≡ old.contents
        → now ≡ old.contents → WereRead old.contents old.readings mid (reading name.now text ∷ [])
        → IsUnread now mid new.readings (names_at names) e
        → IfOk result (λ status. Appends before after (refused_line e)) → IfOk result (λ status. status ≡ Refused)
        → IfOk result (λ status. Settles old new (Mission name part output) status before after)
    unread_settles e mid now kept same first unread line refused =
        mission_refused old new name part output e before after result kept (inl (record {
          text = text;
          said = said;
          says = says;
          readings = unread.readings;
          left = unread.left;
          read = read_after old.contents now same old.readings mid (reading name.now text ∷ []) first new.readings
              unread.readings unread.read;
          split = sym (names_are name.now said names are) ∙ unread.split;
          stopped = subst (λ known. StopsAt known unread.left e) same unread.stopped;
        })) line refused

    -- what was read of the mission and its tables
    reads : (texts : MissionTables) (last : Option (List Reading))
        → WereRead old.contents old.readings last (reading name.now text ∷ readings_at names texts)
        → ReadsMission old.contents old.readings last name.now said texts
    reads texts last read = record {
      text = text;
      says = says;
      read = subst (λ more. WereRead old.contents old.readings last (reading name.now text ∷ more))
          (readings_are name.now said names are texts) read;
    }

    -- the mission has a fault
    pub fault_settles : (texts : MissionTables) (e : plan.Fault) → new.contents ≡ old.contents
        → WereRead old.contents old.readings new.readings (reading name.now text ∷ readings_at names texts)
        → (e ≢ of_plan.NoMemory → IsFaultOf said (given_texts names texts) e)
        → IfOk result (λ status. Appends before after (refused_line (told_fault e)))
        → IfOk result (λ status. status ≡ Refused)
        → IfOk result (λ status. Settles old new (Mission name part output) status before after)
    fault_settles texts e kept read is line refused =
        mission_refused old new name part output (told_fault e) before after result kept (inr (record {
          said = said;
          texts = texts;
          read = reads texts new.readings read;
          is = tables_fault said (tables_of said texts) e (λ other. subst (λ tables. IsFaultOf said tables e)
              (texts_are name.now said names are texts) (is other));
        })) line refused

    if_apart : (output : Option (Bor (List ℕ))) → IfSome output (λ other. AreApart name.now names other.now)
        → IfSome output (λ other. IsApart name.now said other.now)
    if_apart None apart = tt
    if_apart (Some other) apart = are_apart name.now said names are other.now apart

    -- it was planned, and its part was given
    pub planned_settles : (texts : MissionTables) (planned : PlannedMission) (now : Contents)
        (mid : Option (List Reading)) → now ≡ old.contents → new.readings ≡ mid
        → WereRead old.contents old.readings mid (reading name.now text ∷ readings_at names texts)
        → PlansMission said (given_texts names texts) planned
        → IfOk result (λ status. Gives (file_of old.streams output) (part_text part planned) now new.contents before
        after) → IfOk result (λ status. IfSome (file_of old.streams output)
        (λ other. AreApart name.now names other.now))
        → IfOk result (λ status. status ≡ Done)
        → IfOk result (λ status. Settles old new (Mission name part output) status before after)
    planned_settles texts planned now mid same unread read plans = go result
      where
        go : (r : Result Status E)
            → IfOk r (λ status. Gives (file_of old.streams output) (part_text part planned) now new.contents before
            after) → IfOk r (λ status. IfSome (file_of old.streams output)
            (λ other. AreApart name.now names other.now))
            → IfOk r (λ status. status ≡ Done)
            → IfOk r (λ status. Settles old new (Mission name part output) status before after)
        go (Err e) given apart done = tt
        go (Ok status) given apart done = inl (inr (record {
          name = name;
          part = part;
          output = output;
          asked = refl;
          said = said;
          texts = texts;
          read = reads texts new.readings (subst (λ last. WereRead old.contents old.readings last
              (reading name.now text ∷ readings_at names texts)) (sym unread) read);
          planned = planned;
          plans = subst (λ tables. PlansMission said tables planned) (texts_are name.now said names are texts) plans;
          given = subst (λ known. Gives (file_of old.streams output) (part_text part planned) known new.contents before
              after) same given;
          apart = if_apart (file_of old.streams output) apart;
          status_is = done;
        }))
