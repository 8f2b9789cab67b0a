use Rattle.std.proofs.Common.{◌≡◌, ◌+◌, ◌-◌, ap, arith}
use Rattle.std.proofs.lemmas.List.Elements.{All-from_get_or}
use Rattle.mm_run.specs.LinkView.{new_link}
use Rattle.mm_run.proofs.link.read_links.Goals as goal

pub returns-clause-unfailed : goal.returns-clause-unfailed
returns-clause-unfailed c = All-from_get_or (λ l. l.failed ≡ 0) c.fail_all.new.links.items new_link (λ i within.
    let linked = c.in_ok-fail_all.ensures.failing.2 in
    let place : i + 1 - 1 ≡ i = omega arith in
    ap (λ w. w.failed) (rw place at (linked.each (i + 1) (omega arith) (omega (arith, linked.many, within)))))
