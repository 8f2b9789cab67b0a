-- What was read, and what is said of a task that is refused.
use Rattle.std.proofs.Common.{◌≡◌, ◌⊎◌, ℕ, List, ◌∷◌, ◌++◌, [], map, refl, sym, ap, ◌∙◌, subst, inr, Result, Ok, Err}
use Rattle.std.proofs.Common.{IsErrAnd, IfErr, IfOk, Option, Some, None, Bor, append_assoc, append-nil}
use Rattle.std.proofs.lemmas.List.{map-append}
use Rattle.std.proofs.lemmas.List.Elements.{All-nil, All-cons, All-append}
use Rattle.std.specs.Prelude.{All}
use Rattle.std.specs.Io.KnownBytes.{Appends}
use Rattle.mm_files.specs.Contents.{Contents, FilesView, MayBe, Notes, Reading, WereRead, reading}
use Rattle.mm_commands.specs.Faults.{refused_line}
use Rattle.mm_commands.specs.Reading.{IsUnread, StopsAt, name_of, reading_of}
use Rattle.mm_commands.specs.Missions.{IsMissionFault}
use Rattle.mm_commands.specs.Refusing.{IsFaultRead, Refuses, files_of}
use Rattle.mm_commands.specs.declared.status.Status.{Status}
use Rattle.mm_commands.specs.declared.status.Status.TheVariants.{Refused}
use Rattle.mm_commands.specs.declared.fault.Fault.{Fault}
use Rattle.mm_commands.specs.declared.fault.Fault.TheVariants.{NoMemory, NotRead, Texts, Run, Setup, NoStepAfter, Mission}
use Rattle.mm_command_line.specs.declared.task.Task.{Task}

-- what holds of the fault that is handed on holds of the one that is told
pub told : {T : Type 0} (P : Fault → Type 0) (e : Fault) (r : Result T Fault) → IsErrAnd r (λ y. y ≡ e) → P e
    → IfErr r P
told P e (Ok x) is holds = tt
told P e (Err y) is holds = subst P (sym is) holds

-- nothing is noted where nothing is read
Notes-nil : (before : Option (List Reading)) → Notes before before []
Notes-nil None = tt
Notes-nil (Some before) = sym (append-nil before)

-- some readings are noted after others
Notes-append : (before mid after : Option (List Reading)) (readings more : List Reading) → Notes before mid readings
    → Notes mid after more → Notes before after (readings ++ more)
Notes-append None mid after readings more first second = tt
Notes-append (Some before) None after readings more first second = absurd first
Notes-append (Some before) (Some mid) None readings more first second = absurd second
Notes-append (Some before) (Some mid) (Some after) readings more first second =
    second ∙ ap (λ l. l ++ more) first ∙ append_assoc before readings more

-- the file of a reading may have its bytes
abbrev IsKnown : Contents → Reading → Type 0
IsKnown contents r = MayBe (contents r.name) r.octets

-- no file was read
pub none_read : (contents : Contents) (before : Option (List Reading)) → WereRead contents before before []
none_read contents before = record { noted = Notes-nil before; known = All-nil (IsKnown contents) }

-- one file was read
pub one_read : (contents : Contents) (before after : Option (List Reading)) (name octets : List ℕ)
    → Notes before after (reading name octets ∷ [])
    → MayBe (contents name) octets → WereRead contents before after (reading name octets ∷ [])
one_read contents before after name octets noted known = record {
  noted = noted;
  known = All-cons (IsKnown contents) (reading name octets) [] known (All-nil (IsKnown contents));
}

-- the one file was not read
pub one_unread : (contents : Contents) (before after : Option (List Reading)) (names : List (List ℕ)) (fault : Fault)
    → Notes before after [] → StopsAt contents names fault → IsUnread contents before after names fault
one_unread contents before after names fault noted stopped =
    record {
      readings = [];
      left = names;
      read = record { noted = noted; known = All-nil (IsKnown contents) };
      split = refl;
      stopped = stopped;
    }

-- the names of what was read
pub names-reading_of : (name : Option (Bor (List ℕ))) (octets : List ℕ)
    → map (λ (r : Reading). r.name) (reading_of name octets) ≡ name_of name
names-reading_of (Some name) octets = refl
names-reading_of None octets = refl

-- the names of two files that were read
pub names-two : (first second : Option (Bor (List ℕ))) (x y : List ℕ)
    → map (λ (r : Reading). r.name) (reading_of first x ++ reading_of second y) ≡ name_of first ++ name_of second
names-two first second x y =
    map-append (λ (r : Reading). r.name) (reading_of first x) (reading_of second y)
    ∙ ap (λ l. l ++ map (λ (r : Reading). r.name) (reading_of second y)) (names-reading_of first x)
    ∙ ap (λ l. name_of first ++ l) (names-reading_of second y)

-- reading stops at the same file where more files are left
StopsAt-append : (contents : Contents) (left more : List (List ℕ)) (fault : Fault) → StopsAt contents left fault
    → StopsAt contents (left ++ more) fault
StopsAt-append contents left more NoMemory stopped = tt
StopsAt-append contents [] more (NotRead name obstacle) stopped = absurd stopped
StopsAt-append contents (next ∷ left) more (NotRead name obstacle) stopped = stopped
StopsAt-append contents left more (Texts e) stopped = absurd stopped
StopsAt-append contents left more (Run e) stopped = absurd stopped
StopsAt-append contents left more (Setup e) stopped = absurd stopped
StopsAt-append contents left more (NoStepAfter word steps) stopped = absurd stopped
StopsAt-append contents left more (Mission refusal) stopped = absurd stopped

-- one of the first files was not read, and more come after them
pub unread_before : (contents : Contents) (before after : Option (List Reading)) (names more : List (List ℕ))
    (fault : Fault)
    → IsUnread contents before after names fault → IsUnread contents before after (names ++ more) fault
unread_before contents before after names more fault unread = record {
  readings = unread.readings;
  left = unread.left ++ more;
  read = unread.read;
  split = ap (λ l. l ++ more) unread.split
      ∙ append_assoc (map (λ (r : Reading). r.name) unread.readings) unread.left more;
  stopped = StopsAt-append contents unread.left more fault unread.stopped;
}

module _ (contents now : Contents) (same : now ≡ contents) (before mid : Option (List Reading))
    (readings : List Reading)
    (first : WereRead contents before mid readings) where
  -- more was read after what was read
  pub read_after : (after : Option (List Reading)) (more : List Reading) → WereRead now mid after more
      → WereRead contents before after (readings ++ more)
  read_after after more second = record {
    noted = Notes-append before mid after readings more first.noted second.noted;
    known = All-append (IsKnown contents) readings more first.known
        (subst (λ known. All (IsKnown known) more) same second.known);
  }

  -- a file was not read after those that were
  pub unread_after : (after : Option (List Reading)) (read_names names : List (List ℕ)) (fault : Fault)
      → map (λ (r : Reading). r.name) readings ≡ read_names → IsUnread now mid after names fault
      → IsUnread contents before after (read_names ++ names) fault
  unread_after after read_names names fault are unread = record {
    readings = readings ++ unread.readings;
    left = unread.left;
    read = read_after after unread.readings unread.read;
    split = ap (λ l. read_names ++ l) unread.split
        ∙ ap (λ l. l ++ (map (λ (r : Reading). r.name) unread.readings ++ unread.left)) (sym are)
        ∙ sym (append_assoc (map (λ (r : Reading). r.name) readings)
        (map (λ (r : Reading). r.name) unread.readings) unread.left)
        ∙ ap (λ l. l ++ unread.left) (sym (map-append (λ (r : Reading). r.name) readings unread.readings));
    stopped = subst (λ known. StopsAt known unread.left fault) same unread.stopped;
  }

-- a task that is refused, where the files are as they were
pub refuses : {E : Type 0} (P : Status → Type 0) (old new : FilesView) (task : Task) (fault : Fault)
    (before after : Option (List ℕ)) (result : Result Status E)
    → new.contents ≡ old.contents → IsUnread old.contents old.readings new.readings (files_of task) fault
    ⊎ IsFaultRead old new task fault ⊎ IsMissionFault old new task fault
    → IfOk result (λ status. Appends before after (refused_line fault)) → IfOk result (λ status. status ≡ Refused)
    → IfOk result (λ status. P status ⊎ Refuses old new task status before after)
refuses P old new task fault before after (Ok status) kept is line refused =
    inr (record { fault = fault; is = is; printed = line; status_is = refused; kept = kept })
refuses P old new task fault before after (Err e) kept is line refused = tt
