use Rattle.csv.specs.Records.{fields_of}
use Rattle.mm_problem.proofs.RecordSteps.{takes_record}
use Rattle.mm_problem.proofs.records.next_record.Goals as goal

pub returns-in-Ok-clause-takes : goal.returns-in-Ok-clause-takes
returns-in-Ok-clause-takes c = λ rows h.
    takes_record c.args.reader.now c.read_byte_record.new.self rows c.in-Ok.found (fields_of c.read_byte_record.new.row) h
    (c.in-Ok.ensures.reads h.plain h.ready) (c.in-Ok.ensures.ready h.plain) c.in-Ok.ensures.flexible
