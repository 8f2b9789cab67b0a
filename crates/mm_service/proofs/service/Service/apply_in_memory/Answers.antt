use Rattle.mm_service.proofs.Words.{rules, ◌≡◌, length, sym, ap, arith, Ok, instructions_of, reports_on, TooManyReports}
use Rattle.mm_service.proofs.Words.{Applies, request_of, queue_of, with_reports, Serving}
use Rattle.mm_service.specs.contracts.service.Service.{the_view}
use Rattle.mm_service.proofs.RequestLemmas.{few, keeps_bound, not_beyond, as_many_answers, few_instructions}
use Rattle.mm_service.proofs.SpellingLemmas.{no_value}
use Rattle.mm_service.proofs.service.Service.apply_in_memory.Goals as goal

pub tell_answers-requires : goal.tell_answers-requires
tell_answers-requires c =
    let request = c.in_ok-asked.asked.request in
    let many = as_many_answers (instructions_of request) _ _ _ c.in_ok-answers.ensures.each in
    let few = few_instructions request c.in_ok-asked.ensures.spelled.0 in
    let room = c.requires.room in
    omega (arith, ap length c.deref.ensures.value, many, few, room)

pub wait_for_all-requires-clause-room : goal.wait_for_all-requires-clause-room
wait_for_all-requires-clause-room c =
    let many = few c.in_ok-asked.asked.request c.args.now c.self.inside.memory in
    omega (
      arith,
      ap length c.in_ok-answers.ensures.reports,
      many,
      c.most_reports.ensures,
      c.in_ok-make_room.ensures.room,
    )

pub returns-clause-applied : goal.returns-clause-applied
returns-clause-applied c =
    let asked = c.in_ok-asked.asked.packet in
    let request = c.in_ok-asked.asked.request in
    let s = c.args.self.now in
    let t : Serving = the_view (record {
      memory = c.apply.new.self;
      counters = c.wait_for_all.new.counters;
      waiting = c.wait_for_all.new.waiting;
      bound = c.self.inside.bound;
      refused = c.self.inside.refused;
      spare = c.self.inside.spare;
      reserve = c.self.inside.reserve;
    }) in
    let reports = reports_on request c.args.now s.memory in
    let waits : queue_of t.counts t.waiting ≡ with_reports asked reports (queue_of s.counts s.waiting) = search rules in
    let told = c.tell_answers.new.out in
    let applied : Applies c.args.packet.now c.args.now s t c.len-count.result c.args.each.now told = record {
      asked = asked;
      asks = search rules;
      request = request;
      is_request = c.in_ok-asked.ensures.spelled.0;
      spelled = c.in_ok-asked.ensures.spelled.1;
      admitted = c.in_ok-admit.ensures.may;
      answers = c.in_ok-answers.answers.each.items;
      each = search rules;
      count_is = search rules;
      told = search rules;
      waits = waits;
      bounded = keeps_bound asked request c.args.now s t c.in_ok-admit.ensures.may waits;
      bound = search rules;
      refused = search rules;
    } in
    applied

pub returns-clause-bound : goal.returns-clause-bound
returns-clause-bound c =
    let asked = c.in_ok-asked.asked in
    let asks : request_of c.args.packet.now ≡ Ok asked.packet = search rules in
    let spelled = c.in_ok-asked.ensures.spelled in
    λ apart. (
      λ same. absurd (no_value TooManyReports c.len-count.result (sym same)),
      λ passes. absurd (not_beyond c.args.packet.now c.args.self.now asked.packet asked.request asks
          spelled.0 spelled.1 c.in_ok-admit.ensures.may passes),
    )
