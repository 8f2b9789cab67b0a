use Rattle.std.proofs.Common.{refl}
use Rattle.mm_base.proofs.IdFields.{field_of-IsIdField}
use Rattle.mm_base.proofs.id.StoreId.of_text.Goals as goal

pub invariant_of-result : goal.invariant_of-result
invariant_of-result c = rw c.padded.ensures (field_of-IsIdField c.args.text.now (c.if-is_id_text.ensures.0 refl))
