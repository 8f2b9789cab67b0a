use Rattle.std.proofs.Common.{◌≡◌, ◌≢◌, ◌<◌, ℕ, length, slice_index, slice_set, ap, sym, ◌∙◌, refl, subst, arith}
use Rattle.std.proofs.Common.{inl, inr}
use Rattle.std.proofs.lemmas.Bool.{cases_eq}
use Rattle.std.proofs.lemmas.List.{get_or_read, get_or-set_same, get_or-set_other}
use Rattle.mm_flow.specs.declared.search.Mark.{Mark}
use Rattle.mm_flow.specs.Residual.{tail, head}
use Rattle.mm_flow.specs.Marks.{no_mark, mark, level}
use Rattle.mm_flow.specs.Levels.{HasPath}
use Rattle.mm_flow.proofs.LevelPaths.{levelled_set, path_taken}
use Rattle.mm_flow.proofs.Marking.{IsReached-from}
use Rattle.mm_flow.proofs.Working.{work_marked}
use Rattle.mm_flow.proofs.tables.Tables.reach_by.Goals as goal
use Rattle.mm_flow.proofs.tables.Tables.reach_by.Goals.{After-index_mut}

-- the node that the entry leads to is in the table
to_lt : (c : After-index_mut) → c.head-to.result < length c.args.self.now.search.marks.items
to_lt c = omega (arith, c.args.self.now.at_work.levelled.size, c.head-to.ensures.known)

-- the mark that was read is that node's
read_is : (c : After-index_mut) → c.index_mut.result.now ≡ mark c.args.self.now.search.marks.items c.head-to.result
read_is c = get_or_read c.args.self.now.search.marks.items c.head-to.result c.index_mut.result.now (to_lt c)
    c.index_mut.ensures.value no_mark

-- so it has a level
read_level : (c : After-index_mut) → c.index_mut.result.now.level
    ≡ level c.args.self.now.search.marks.items (head c.args.self.now.residual.network.now.graph c.args.entry)
read_level c = ap (λ (m : Mark). m.level)
    (read_is c ∙ ap (mark c.args.self.now.search.marks.items) c.head-to.ensures.node)

pub invariant_of-self : goal.invariant_of-self
invariant_of-self c =
    let work = c.args.self.now.at_work in
    let own : Mark = record { level = c.index_mut.result.now.level; via = c.args.entry } in
    let some : 0 < own.level = omega
    (arith, read_level (goal.at.invariant_of-self c).After-index_mut, c.requires.up.up) in
    let levelled = levelled_set c.head-to.result own work.levelled c.head-to.ensures.known some in
    record {
      at_work = work_marked work _ refl
          (record { source = work.fits.source; marks = levelled.size; order = work.fits.order }) levelled;
    }

pub returns-clause-kept : goal.returns-clause-kept
returns-clause-kept c =
    let marks = c.args.self.now.search.marks.items in
    let to = c.head-to.result in
    let here = (goal.at.returns-clause-kept c).After-index_mut in
    let own : Mark = record { level = c.index_mut.result.now.level; via = c.args.entry } in
    record {
      flow = refl;
      value = refl;
      levels = λ n. elim (cases_eq n to) [
        | inl same ↦
            let set = ap (λ (m : Mark). m.level) (get_or-set_same marks to own no_mark (to_lt here)) in
            let read = ap (λ (m : Mark). m.level) (read_is here) in
            ap (level (slice_set marks to own)) same ∙ set ∙ read ∙ ap (level marks) (sym same)
        | inr ne ↦ ap (λ (m : Mark). m.level) (get_or-set_other marks to n own no_mark ne)
      ];
    }

pub returns-clause-path : goal.returns-clause-path
returns-clause-path c =
    let t = c.args.self.now in
    let g = t.residual.network.now.graph in
    let f = slice_index t.residual.flow.items in
    let marks = t.search.marks.items in
    let source = t.search.source in
    let e = c.args.entry in
    let at = tail g e in
    let to = head g e in
    let own : Mark = record { level = c.index_mut.result.now.level; via = e } in
    let marked = slice_set marks c.head-to.result own in
    let up = c.requires.up in
    let to_is = c.head-to.ensures.node in
    let here = (goal.at.returns-clause-path c).After-index_mut in
    let own_is : mark marked to ≡ own = sym (ap (mark marked) to_is)
    ∙ get_or-set_same marks c.head-to.result own no_mark (to_lt here) in
    let others : (n : ℕ) → n ≢ to → mark marked n ≡ mark marks n = λ n ne.
    get_or-set_other marks c.head-to.result n own no_mark (λ same. ne (same ∙ to_is)) in
    let before_is : mark marked at ≡ mark marks at = others at
    (λ same. absurd (omega (arith, up.up, ap (level marks) same))) in
    let reached =
    IsReached-from g f marked 1 to (mark marks at) own own_is before_is (record {
      known = up.known;
      leads = refl;
      reached = up.marked;
      above = omega (arith, up.up, read_level here);
      fits = omega (arith, up.open_still);
    }) in
    subst (λ (n : ℕ). HasPath g f marked source 1 n) (sym to_is)
    (path_taken g f marks marked source 1 e to up.up reached (ap (λ (m : Mark). m.via) own_is) others c.requires.path)
