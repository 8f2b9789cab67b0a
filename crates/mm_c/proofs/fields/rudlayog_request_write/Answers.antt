use Rattle.mm_c.proofs.Words.{refl, inr}
use Rattle.mm_c.specs.Fields.{of_fields}
use Rattle.mm_c.proofs.fields.rudlayog_request_write.Goals as goal

pub returns-in-Err : goal.returns-in-Err
returns-in-Err c =
    let fault = c.in-Err.fault in
    record {
      told = inr (
        of_fields fault,
        (fault, c.in-Err.ensures.refused, refl),
        record { answered = c.unwritten.ensures; left = refl },
      );
    }
