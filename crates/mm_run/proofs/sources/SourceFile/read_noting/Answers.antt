use Rattle.std.proofs.Common.{◌≡◌, ℕ, ◌+◌, ◌-◌, ◌≤◌, [], length, get_or, arith, refl, rules}
use Rattle.std.proofs.lemmas.List.Elements.{All-from_get_or, All-push}
use Rattle.mm_run.specs.declared.source.TheConstants.{MAX_PACKETS}
use Rattle.mm_run.specs.Sources.{IsSourceLine, source_lines_of}
use Rattle.mm_run.proofs.Counting.{added_last}
use Rattle.mm_run.proofs.sources.SourceFile.read_noting.Goals as goal

pub loop-front-init : goal.loop-front-init
unfolding source_lines_of
loop-front-init c = record {
  line = omega arith;
  earlier = [];
  read = search rules;
  lines = refl;
  start = refl;
  fewer = omega arith;
  counts = c.requires.counts;
  ranged = λ k d within. absurd (omega (arith, within));
}

pub loop-front-preserved : goal.loop-front-preserved
loop-front-preserved c =
    let now = c.loop-front.invariant in
    let d = c.in_ok-source_line.source_line in
    let added = c.in_ok-add.ensures now.earlier now.read in
    record {
      line = search rules;
      earlier = added.0;
      read = added.2;
      lines = search rules;
      start = search rules;
      fewer = omega (arith, c.note.ensures.within);
      counts = rw (added_last _ now.earlier added.0 d added.1) (c.note.ensures.counts now.earlier now.counts);
      ranged = rw (added_last _ now.earlier added.0 d added.1) (All-push IsSourceLine now.earlier d now.ranged
          c.in_ok-source_line.ensures.in_range);
    }

pub returns-clause-few : goal.returns-clause-few
returns-clause-few c = All-from_get_or
    (λ source. (t : ℕ) → length (get_or source t []) ≤ MAX_PACKETS) c.loop-front.file.sources.items [] (λ i within t.
    let here : i + 1 - 1 ≡ i = omega arith in
    rw here at (c.loop-front.invariant.read.few (i + 1) t (omega arith)))
