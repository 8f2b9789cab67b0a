use Rattle.mm_service.proofs.Words.{ap, ◌∙◌, arith, set, code_of_answer}
use Rattle.mm_memory.specs.declared.answer.Answer.TheVariants.{Done}
use Rattle.mm_service.proofs.RequestLemmas.{one_more}
use Rattle.mm_service.proofs.answers.tell_answers.Goals as goal

pub loop-index-preserved : goal.loop-index-preserved
loop-index-preserved c =
    let l = c.loop-index in
    ap (set l.out l.index) c.code_of_answer.ensures
    ∙ one_more code_of_answer c.args.answers.now c.args.out.now l.out l.index Done (omega arith) (omega arith)
    l.invariant
