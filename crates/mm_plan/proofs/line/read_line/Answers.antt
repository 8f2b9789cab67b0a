use Rattle.std.proofs.Common.{◌≡◌, map, Ok, Err, arith, ap, ◌∙◌}
use Rattle.std.specs.Prelude.{IfOk, option_map}
use Rattle.mm_plan.specs.Seen.{seen}
use Rattle.std.proofs.lemmas.List.{length-map}
use Rattle.mm_plan.specs.Reading.{line_of, IsRead}
use Rattle.mm_plan.proofs.Lines.{line_read, none_read}
use Rattle.mm_plan.proofs.line.read_line.Goals as goal

pub returns-then-len-gt-MAX_WORDS : goal.returns-then-len-gt-MAX_WORDS
returns-then-len-gt-MAX_WORDS c =
    none_read c.args.text.now _ c.in_ok-words.ensures
    (omega (arith, length-map c.in_ok-words.words.items (λ w. w.now)))

pub returns : goal.returns
returns c =
    let words = map (λ w. w.now) c.as_slice.result.now in
    elim c.line_of.result as (λ r. IfOk r (λ line. option_map seen line ≡ line_of words)
    → IfOk r (λ line. IsRead c.args.text.now (option_map seen line))) [
      | Ok line ↦ λ e.
          line_read c.args.text.now _ c.in_ok-words.ensures (option_map seen line)
          (omega (arith, length-map c.in_ok-words.words.items (λ w. w.now)))
          (e ∙ ap (λ ws. line_of (map (λ w. w.now) ws)) c.as_slice.ensures.value)
      | Err e ↦ λ h. h
    ] c.line_of.ensures
