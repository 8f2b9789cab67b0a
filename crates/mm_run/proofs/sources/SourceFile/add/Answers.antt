use Rattle.std.proofs.Common.{◌≡◌, ℕ, ◌+◌, ◌-◌, ◌<◌, ◌≤◌, ◌==◌, ◌&&◌, true, cond, max, List, [], ◌∷◌, ◌++◌, length, get_or, refl, ◌∙◌, arith, rules, append-nil, length-append, Ok}
use Rattle.std.specs.Prelude.{nat_lt}
use Rattle.std.proofs.lemmas.Bool.Decides.{nat_tests}
use Rattle.std.proofs.lemmas.List.{map-append, get_or_default, get_or-set_same, get_or-set_other, length-set}
use Rattle.std.proofs.lemmas.List.Elements.{filter-append}
use Rattle.std.proofs.lemmas.List.Sums.{fold-append}
use Rattle.mm_run.specs.Types.{ScriptFault, SourceLine}
use Rattle.mm_report.specs.declared.cause.TheConstants.{MAX_SOURCES}
use Rattle.mm_run.specs.declared.source.TheConstants.{MAX_PACKETS}
use Rattle.mm_run.specs.declared.sources.SourceFile.{SourceFile}
use Rattle.mm_run.specs.Sources.{is_of, packets_of, has_room, with_source_line, given}
use Rattle.mm_run.specs.Drafts.{IsRead, Adds}
use Rattle.mm_run.proofs.sources.SourceFile.add.Goals as goal

-- the file of one line more
read_more : (bad : ScriptFault) (ds : List SourceLine) (d : SourceLine) (old new : SourceFile) (was opened : List ℕ)
    → IsRead ds old was → length (packets_of d.source d.step ds) < MAX_PACKETS
    → length new.sources.items ≡ max (length old.sources.items) d.source
    → ((s t : ℕ) → 1 ≤ s → given new.sources.items s t ≡ given old.sources.items s t ++ cond (is_of s t d && nat_lt 0 d.step) (d.packet ∷ []) [])
    → new.opening.items ≡ old.opening.items ++ cond (d.step == 0) (d.packet ∷ []) []
    → ((s : ℕ) → 1 ≤ s → s ≤ MAX_SOURCES → get_or opened (s - 1) 0 ≡ get_or was (s - 1) 0 + cond (is_of s 0 d) 1 0)
    → Adds (with_source_line bad ds d) new opened (Ok tt)
read_more bad ds d old new was opened h left reached gives before counted = let room : has_room ds d ≡ true = grind (arith, nat_tests) in (
  ds ++ d ∷ [],
  rw room refl,
  record {
    lines = record {
      before = grind (arith, nat_tests, map-append, filter-append, append-nil);
      count = cc (fold-append (λ most x. max most x.source) 0 ds (d ∷ []));
      each = λ s t first later. grind (arith, nat_tests, gives s t first, h.lines.each s t first later, map-append, filter-append);
      none = λ s first. grind (arith, nat_tests, gives s 0 first, h.lines.none s first);
    };
    counted = λ s first last. grind (arith, nat_tests, counted s first last, h.counted s first last, map-append, filter-append, length-append);
    few = λ s t first. grind (arith, nat_tests, gives s t first, h.few s t first, h.lines.each s t first, length-append);
  },
)

pub returns-in_ok-map_err : goal.returns-in_ok-map_err
returns-in_ok-map_err c = λ earlier read.
    let d : SourceLine = c.args.source_line in
    let step : d.step ≡ 0 = search rules in
    read_more c.args.bad earlier d c.args.self.now _ c.args.opened.now _ read (rw step (grind (arith, read.counted d.source c.requires.first c.requires.last)))
    (rw (← c.from.ensures) c.in_ok-reach.ensures.count)
    (λ s t first. grind (arith, nat_tests, append-nil, c.in_ok-reach.ensures.given s t))
    (rw step (search rules))
    (λ s first last. grind (arith, nat_tests, get_or-set_same, get_or-set_other, c.requires.first, c.requires.last))

pub returns-in_ok-add : goal.returns-in_ok-add
returns-in_ok-add c = λ earlier read.
    let d : SourceLine = c.args.source_line in
    let mid = c.reach.new.sources.items in
    let same = c.in_ok-reach.ensures.given in
    let within : d.source - 1 < length mid = omega (arith, c.in_ok-reach.ensures.count, c.requires.first) in
    let here : c.index_mut.result.now ≡ get_or mid (d.source - 1) [] =
    rw c.from-place.ensures at c.index_mut.ensures.value ∙ get_or_default mid (d.source - 1) c.index_mut.result.now [] within in
    read_more c.args.bad earlier d c.args.self.now _ c.args.opened.now _ read
    (grind (arith, same d.source d.step, read.lines.each d.source d.step c.requires.first (omega arith), get_or_default mid))
    (length-set mid (c.from-place.result - 1) c.add.new.self ∙ rw (← c.from.ensures) c.in_ok-reach.ensures.count)
    (λ s t first.
    rw (c.from-place.ensures, c.in_ok-add.ensures.packet, here) (grind (arith, nat_tests, append-nil, get_or-set_same, get_or-set_other, same s t)))
    (grind (arith, nat_tests, append-nil))
    (λ s first last. grind (arith, nat_tests))
