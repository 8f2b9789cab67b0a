use Rattle.std.proofs.Common.{arith, ap, sym, ◌∙◌, inl, inr}
use Rattle.std.proofs.lemmas.Bool.{cases_eq}
use Rattle.std.proofs.lemmas.Grind.{get_or-set_at}
use Rattle.std.proofs.lemmas.List.{get_or-set_other, length-set}
use Rattle.mm_links.specs.Rooms.{limit_of}
use Rattle.mm_links.proofs.widest.rooms.Goals as goal

pub loop-channel-preserved : goal.loop-channel-preserved
loop-channel-preserved c =
    let limits = c.loop-channel.limits in
    let channel = c.loop-channel.channel in
    record {
      size = length-set limits channel c.limit.result ∙ c.loop-channel.invariant.size;
      done = λ n below. elim (cases_eq n channel) [
        | inl here ↦
            get_or-set_at limits channel n c.limit.result 0 here (omega arith)
            ∙ c.limit.ensures.limit ∙ ap (limit_of c.args.links.now) (sym here)
        | inr other ↦
            get_or-set_other limits channel n c.limit.result 0 other ∙ c.loop-channel.invariant.done n (omega arith)
      ];
    }

pub returns : goal.returns
returns c = record {
  window = record {
    most = omega (arith, c.narrowed-window.ensures.within);
    each = λ s. c.narrowed-window.ensures.each s (λ n below. absurd (omega (arith, below)));
    widest = λ other low is. c.narrowed-window.ensures.widest other (omega (arith, low)) (λ s _. is s);
  };
  limits = λ n below. c.loop-channel.invariant.done n (omega arith);
}
