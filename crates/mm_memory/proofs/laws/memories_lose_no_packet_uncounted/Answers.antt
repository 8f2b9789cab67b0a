use Rattle.mm_memory.proofs.AccountLemmas.{accounts}
use Rattle.mm_memory.proofs.ApplyLemmas.{requested}
use Rattle.mm_memory.proofs.GivenLemmas.{gives_kept, rises}
use Rattle.mm_memory.proofs.laws.memories_lose_no_packet_uncounted.Goals as goal

pub returns : goal.returns
returns c = record {
  law = λ m turns made id.
      let account = accounts c.events_conserve_packets.ensures.law id m turns made in
      record {
        packets = account.packets;
        counted = account.counted;
        given = gives_kept id m turns made;
        rising = rises id m turns made;
      };
  requests = requested;
}
