use Rattle.mm_service.proofs.Words.{sym, ap, ◌∙◌, option_copied_mut, field_of, State, state_of_text, Serving}
use Rattle.mm_service.proofs.Words.{with_store}
use Rattle.std.proofs.lemmas.Result.{on_err_weaker}
use Rattle.mm_service.specs.contracts.service.Service.{the_view}
use Rattle.mm_service.proofs.GiveLemmas.{gives_named, gives_missing, named_state, put_back}
use Rattle.mm_service.proofs.service.Service.next.Goals.{in-Some, in-None}
use Rattle.mm_service.proofs.service.Service.next.Goals as goal

pub returns : goal.returns
returns c =
    let text = c.args.id.now in
    let id = field_of text in
    let begun = the_view c.self.inside in
    let s = c.args.self.now in
    let of_view = ap (λ (x : Serving). state_of_text text x.memory) (sym c.self.view_is) in
    record {
      given = elim c.match-named_mut.branch [
        | in-Some w ↦
            let state = w.in-Some.state.now in
            let found = sym c.named_mut.ensures.state ∙ ap option_copied_mut w.in-Some.is in
            let named = named_state text s.memory state (of_view ∙ found) in
            let same = put_back id begun state (c.named_mut.ensures.same state found) ∙ c.self.view_is in
            let left = ap the_view w.self-inside-is ∙ ap (λ (x : Serving). with_store id x w.give.new.state)
            c.self.view_is ∙ ap (λ (x : State). with_store id s x) w.give.ensures.state in
            let kept = on_err_weaker w.give.result
            (λ same_state. ap the_view w.self-inside-is ∙ ap (λ (x : State). with_store id begun x) same_state ∙ same)
            w.give.ensures.err in
            rw (w.result-is, w.out-is) (gives_named text id s (the_view c.match-named_mut.self-inside) state
            w.give.result c.args.out.now w.give.new.out named.0 named.1 w.give.ensures.told left kept)
        | in-None w ↦
            let none = sym c.named_mut.ensures.state ∙ ap option_copied_mut w.in-None.is in
            let left = ap the_view w.self-inside-is ∙ c.self.view_is in
            rw (w.result-is, w.out-is, left, w.missing.ensures) (gives_missing text s c.args.out.now (of_view ∙ none))
      ];
    }
