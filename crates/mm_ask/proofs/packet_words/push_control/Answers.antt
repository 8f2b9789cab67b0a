use Rattle.std.proofs.Common.{append_assoc}
use Rattle.mm_ask.proofs.packet_words.push_control.Goals as goal

pub returns : goal.returns
returns c =
    let opened = c.in_ok-extend_from_slice.ensures.items in
    let named = c.in_ok-push_id.ensures in
    simp append_assoc at (rw (named, opened) at c.end_line.ensures)
