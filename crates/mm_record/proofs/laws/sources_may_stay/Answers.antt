use Rattle.mm_record.proofs.laws.sources_may_stay.Goals as goal

pub returns : goal.returns
returns g c = record { law = g.met.S.AnySource.stays }
