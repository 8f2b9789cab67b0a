use Rattle.mm_c.proofs.Words.{rules, ◌≡◌, ap, ◌∙◌, Some, Serving}
use Rattle.mm_c.proofs.Small.{not_applied, told_applied, told_refused}
use Rattle.mm_c.proofs.memory.rudlayog_memory_apply.Goals.{in-Ok, in-Err}
use Rattle.mm_c.proofs.memory.rudlayog_memory_apply.Goals as goal

pub returns-then-each-lt-INSTRUCTIONS : goal.returns-then-each-lt-INSTRUCTIONS
returns-then-each-lt-INSTRUCTIONS c =
    let memory = c.args.memory.now in
    record {
      applied = not_applied c.args.request.now c.args.now c.args.each.now c.with_length.result memory.loose.service
          (memory.agrees.0 c.if-not-memory.false) c.if-each-lt-INSTRUCTIONS.true c.with_length.ensures;
    }

pub returns : goal.returns
returns c =
    let s : Serving = c.deref_mut.result.now in
    let t : Serving = c.apply.new.self in
    let before = c.args.memory.now.loose.service in
    let after = c.put.new.self.loose.service in
    let was : before ≡ Some s = search rules in
    let is : after ≡ Some t = search rules in
    let made = c.apply.ensures in
    record {
      applied = elim c.match-apply.branch [
        | in-Ok w ↦ told_applied c.args.request.now c.args.now c.args.each.now c.apply.new.each c.match-apply.answer s t
            before after was is _ (rw w.in-Ok.is at made.applied) (search rules)
        | in-Err w ↦ told_refused c.args.request.now c.args.now c.args.each.now c.apply.new.each c.match-apply.answer
            s t before after was is _ (rw w.in-Err.is at made.applied) (rw w.in-Err.is at made.err)
            (rw w.in-Err.is at made.left) (search rules)
      ];
    }
