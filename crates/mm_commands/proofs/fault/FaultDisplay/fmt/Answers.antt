use Rattle.std.proofs.Common.{◌≡◌, ◌++◌, ℕ, List, ap, refl, rules, sym}
use Rattle.std.specs.Borrow.{Bor}
use Rattle.std.specs.Fmt.{HasWritten}
use Rattle.std.proofs.lemmas.Grind.{put_two}
use Rattle.mm_run.specs.Ending.{refusal_text}
use Rattle.mm_told.specs.Spots.{fields_text}
use Rattle.mm_files.specs.declared.files.Obstacle.{Obstacle}
use Rattle.mm_commands.specs.Faults.{fields_of, refusal_of, spot_of}
use Rattle.mm_commands.specs.declared.fault.Fault.{Fault}
use Rattle.mm_commands.specs.declared.fault.Fault.TheVariants.{NoMemory, NotRead, Texts, Run, Setup, NoStepAfter, Mission}
use Rattle.mm_commands.proofs.fault.FaultDisplay.fmt.Goals as goal

-- a fault that names no file has the fields of its place
fields_of-place : (fault : Fault)
    → ((name : Bor (List ℕ)) (obstacle : Obstacle) → fault ≡ NotRead name obstacle → ⊥)
    → fields_of fault ≡ fields_text (spot_of fault)
fields_of-place NoMemory other = refl
fields_of-place (NotRead name obstacle) other = absurd (other name obstacle refl)
fields_of-place (Texts e) other = refl
fields_of-place (Run e) other = refl
fields_of-place (Setup e) other = refl
fields_of-place (NoStepAfter word steps) other = refl
fields_of-place (Mission refusal) other = refl

pub returns-in_default : goal.returns-in_default
returns-in_default g c =
    let fault = c.args.self.now in
    let fields = fields_of-place fault c.in_default.not-NotRead in
    record {
      writes = λ plain ok.
          let refusal : HasWritten g.W.Write.write_str_gives c.args.f.now
          (refusal_text (refusal_of fault)) c.write.new.self = search rules in
          let place : HasWritten g.W.Write.write_str_gives c.write.new.self
          (fields_text (spot_of fault)) c.write-in_default.new.self = search rules in
          put_two _ _ _ _ _ _ _ refusal place (ap (λ text. refusal_text (refusal_of fault) ++ text) (sym fields));
      styled = tt;
    }
