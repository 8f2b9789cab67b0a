-- A result that follows its definition is what the text writes.
use Rattle.std.proofs.Common.{ℕ, List, Ok, Err, Result, sym, ◌∙◌}
use Rattle.mm_utc.specs.Amounts.{volume_in, rate_in}
use Rattle.mm_utc.specs.Digits.{Reads}
use Rattle.mm_utc.specs.Moments.{moment_in}
use Rattle.mm_utc.specs.Stamps.{IsParsedMoment}
use Rattle.mm_utc.specs.Writings.{IsParsedVolume, IsParsedRate}
use Rattle.mm_utc.specs.declared.amount.Rate.{Rate}
use Rattle.mm_utc.specs.declared.amount.Volume.{Volume}
use Rattle.mm_utc.specs.declared.fault.AmountFault.{AmountFault}
use Rattle.mm_utc.specs.declared.fault.MomentFault.{MomentFault}
use Rattle.mm_utc.proofs.AmountLemmas.{volume_said, volume_read, rate_said, rate_read}
use Rattle.mm_utc.proofs.ReadLemmas.{read_written}
use Rattle.mm_utc.proofs.StampLemmas.{written_read}

-- a moment
pub parsed_moment : (text : List ℕ) (result : Result ℕ MomentFault) → Reads (λ m. m) result (moment_in text)
    → IsParsedMoment text result
parsed_moment text (Ok n) is = record {
  found = read_written text n is;
  only = λ m writes. sym is ∙ written_read text m writes;
  exact = is;
}
parsed_moment text (Err fault) is = record {
  found = tt;
  only = λ m writes. absurd (let read = written_read text m writes in cc);
  exact = is;
}

-- a volume
pub parsed_volume : (text : List ℕ) (result : Result Volume AmountFault) → Reads (λ v. v) result (volume_in text)
    → IsParsedVolume text result
parsed_volume text (Ok n) is = record {
  found = volume_said text n is;
  only = λ v writes. sym is ∙ volume_read text v writes;
  exact = is;
}
parsed_volume text (Err fault) is = record {
  found = tt;
  only = λ v writes. absurd (let read = volume_read text v writes in cc);
  exact = is;
}

-- a rate
pub parsed_rate : (text : List ℕ) (result : Result Rate AmountFault) → Reads (λ r. r) result (rate_in text)
    → IsParsedRate text result
parsed_rate text (Ok n) is = record {
  found = rate_said text n is;
  only = λ r writes. sym is ∙ rate_read text r writes;
  exact = is;
}
parsed_rate text (Err fault) is = record {
  found = tt;
  only = λ r writes. absurd (let read = rate_read text r writes in cc);
  exact = is;
}
