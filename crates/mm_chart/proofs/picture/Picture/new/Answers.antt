use Rattle.mm_chart.proofs.Listing.{drawn_cut}
use Rattle.mm_chart.proofs.picture.Picture.new.Goals as goal

pub invariant_of-result : goal.invariant_of-result
invariant_of-result c =
    let s = c.args.sheet in
    let drawn = drawn_cut c.args.problem s s.firsts c.verdict_of-verdict.result c.verdict_of-verdict.ensures in (
      record { shape = c.requires.shape; verdict = c.verdict_of-verdict.ensures; is_cut = drawn },
      record {
        shape = c.in_ok-volumes.ensures.shape;
        written = rw c.plan.ensures at c.in_ok-volumes.ensures.written;
        left = rw c.plan.ensures at c.in_ok-volumes.ensures.left;
        lost = rw c.plan.ensures at c.in_ok-volumes.ensures.lost;
      },
      rw c.cut_of.ensures.cut at c.in_ok-shades.ensures,
      record {
        inner_places = c.inner_steps-inner.ensures.places;
        listed_places = c.listed_steps-listed.ensures.places;
        inner = λ t. rw c.cut_of.ensures.cut at (c.inner_steps-inner.ensures.inner t);
        listed = λ t below. rw c.cut_of.ensures.counts at (c.listed_steps-listed.ensures.listed t below);
      },
    )

pub shades_of-requires : goal.shades_of-requires
shades_of-requires c =
    let s = c.args.sheet in
    let drawn = drawn_cut c.args.problem s s.firsts c.verdict_of-verdict.result c.verdict_of-verdict.ensures in
    rw c.cut_of.ensures.cut drawn.stretches.each

pub inner_steps-inner-requires : goal.inner_steps-inner-requires
inner_steps-inner-requires c =
    let s = c.args.sheet in
    let drawn = drawn_cut c.args.problem s s.firsts c.verdict_of-verdict.result c.verdict_of-verdict.ensures in
    rw c.cut_of.ensures.cut drawn.stretches.each
