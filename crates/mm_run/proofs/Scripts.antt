-- Which fault is told of the sources and the links.
use Rattle.std.proofs.Common.{◌≡◌, ◌≢◌, refl, sym, subst, Option, List, ℕ, Result, Ok, Err, IsErrAnd}
use Rattle.mm_base.specs.Reading.{IfRefused}
use Rattle.mm_run.specs.Fault.{of_script}
use Rattle.mm_run.specs.Judging.{IsFirstFault}
use Rattle.mm_run.specs.Texts.{SaysStart, IsScriptFault}
use Rattle.mm_run.specs.Types.{Dumping, Holdings, SheetRows}
use Rattle.mm_run.specs.declared.fault.Fault.{Fault}
use Rattle.mm_run.specs.declared.fault.Fault.TheVariants.{NoMemory}
use Rattle.mm_run.specs.declared.script_fault.ScriptFault.{ScriptFault}
use Rattle.mm_run.specs.declared.script_fault.ScriptFault.TheVariants as script

module _ (plan : Option (List ℕ)) (setup forecast sources links : List ℕ) (problem : Dumping) (memory : Holdings)
    (sheet : Option SheetRows) (says : SaysStart plan setup forecast problem memory sheet) where
  -- it is the first fault of the texts
  first_of_script : (fault : ScriptFault) → (fault ≢ script.NoMemory → IsScriptFault sources links fault)
      → of_script fault ≢ NoMemory → IsFirstFault plan setup forecast sources links (of_script fault)
  first_of_script script.NoMemory faulty other = absurd (other refl)
  first_of_script (script.SourcesText line) faulty other = record {
    problem = problem;
    memory = memory;
    sheet = sheet;
    start_says = says;
    fault = faulty (λ same. cc);
  }
  first_of_script (script.LinksText line) faulty other = record {
    problem = problem;
    memory = memory;
    sheet = sheet;
    start_says = says;
    fault = faulty (λ same. cc);
  }

  -- the same of a result that hands it on
  pub refused_by_script : {T : Type 0} (fault : ScriptFault)
      → (fault ≢ script.NoMemory → IsScriptFault sources links fault) → (r : Result T Fault)
      → IsErrAnd r (λ e. e ≡ of_script fault) → IfRefused NoMemory r (IsFirstFault plan setup forecast sources links)
  refused_by_script fault faulty (Ok x) is = tt
  refused_by_script fault faulty (Err e) is =
      subst (λ e. e ≢ NoMemory → IsFirstFault plan setup forecast sources links e) (sym is)
      (first_of_script fault faulty)
