use Rattle.std.proofs.Common.{◌≡◌, ◌+◌, List, [], map, ap, subst}
use Rattle.std.proofs.lemmas.List.Elements.{All-weaker}
use Rattle.std.proofs.lemmas.Result.{IfOk-weaker}
use Rattle.mm_record.specs.declared.live.Live.{Live}
use Rattle.mm_record.specs.declared.memory_step.Recorded.{Recorded}
use Rattle.mm_record.specs.Lives.{rest, Follows, follows_same}
use Rattle.mm_record.specs.MemorySteps.{recording_of, IsRecorded}
use Rattle.mm_record.specs.Supplies.{Supply, supplies, WhateverComes}
use Rattle.mm_record.proofs.Supplying.{all_stay, zip_long}
use Rattle.callers.specs.declared.instrument.Observed.{Observed}
use Rattle.callers.specs.Instruments.{given_in, nothing}
use Rattle.callers.proofs.Instruments.{all_given, none_left}
use Rattle.callers.proofs.instrument.record_instruments.Goals as goal

-- what an instrument gave so far
abbrev gave : {I : Type 0} → Live (Observed I) → Supply
gave live = given_in live.source.given.items

pub returns : goal.returns
returns g c =
    let X = Live (Observed g.row.I.Denot) in
    let leads : X → X → Type 0 = λ live last. Follows (gave live) live.from (gave last) last.from in
    let until : X → X → Supply = λ live last. rest (gave live) (gave last) in
    let memory = c.args.memory.now in
    let Told : List Recorded → List Supply → List Supply → Type 0 = λ told given left. IsRecorded (recording_of c.args.step (c.args.base + c.args.step) memory) memory c.record_step.new.memory told given left in
    let none = All-weaker (λ (live : X). live.source.given.items ≡ []) (λ (live : X). gave live ≡ nothing) (λ live same. ap given_in same) c.args.instruments.items c.requires.first in
    record {
      recorded = IfOk-weaker c.record_step.result _ _
          (λ done (comes : WhateverComes leads until c.args.instruments.items done.sources.items (Told done.recorded.items)).
          let one = comes done.sources.items (all_stay leads until (λ live. follows_same (gave live) live.from) done.sources.items) in
          subst (Told done.recorded.items (map gave done.sources.items)) (none_left gave done.sources.items)
          (subst (λ (given : List Supply). Told done.recorded.items given (supplies until done.sources.items done.sources.items))
          (all_given gave c.args.instruments.items done.sources.items none (zip_long leads _ _ one.0)) one.1)) c.record_step.ensures.ok;
    }
