use Rattle.mm_carry.proofs.Replays.{IsRun-append}
use Rattle.mm_carry.proofs.laws.halves_make_step_runs.Goals as goal

pub returns : goal.returns
returns c = record {
  law = λ offers wanted gave recorded dumped s mid t first shuffle taken second dump. record {
    recorded = recorded;
    dumped = dumped;
    run = IsRun-append s mid t recorded dumped first second;
    shuffle = shuffle;
    taken = taken;
    dump = dump;
  };
}
