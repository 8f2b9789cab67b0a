use Rattle.std.proofs.Common.{true}
use Rattle.csv.specs.Records.{fields_of}
use Rattle.mm_problem.proofs.RecordSteps.{takes_record, found_record}
use Rattle.mm_mission_text.proofs.RecordRows.{none_left, read_more, read_all}
use Rattle.mm_mission_text.proofs.records.records_in.Goals as goal

pub loop-record-preserved : goal.loop-record-preserved
loop-record-preserved c =
    let inv = c.loop-record.invariant in
    let steps = c.next.ensures.steps inv.turns inv.has.plain in
    let row = rw (c.in-Some.is, c.in-Ok.is) at (steps.0 inv.has.ready) in
    let flexible = rw (c.in-Some.is, c.in-Ok.is) at steps.3 in
    let found = found_record inv.rows (fields_of c.in-Ok.record) c.next.new.self.rdr (takes_record
    c.loop-record.record-iterator.rdr c.next.new.self.rdr inv.rows true (fields_of c.in-Ok.record) inv.has row.0 row.1
    flexible) in
    record {
      turns = row.2;
      rows = found.0;
      has = found.2;
      whole = rw c.in_ok-push-in-Ok.ensures.items (read_more _ _ _ _ _ _ c.in_ok-trim-in-Ok.ensures.fields found.1
          inv.whole);
    }

pub returns-clause-rows : goal.returns-clause-rows
returns-clause-rows c =
    let inv = c.loop-record.invariant in
    let read = rw c.in-None.is at ((c.next.ensures.steps inv.turns inv.has.plain).0 inv.has.ready) in
    read_all _ _ _ (none_left c.loop-record.record-iterator.rdr c.next.new.self.rdr inv.rows inv.has read) inv.whole
