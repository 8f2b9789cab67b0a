use Rattle.mm_memory.proofs.Words.{◌≡◌, rules, tests, YieldsList-from_slice, position_from_yields_List, Held, leads_to}
use Rattle.mm_memory.proofs.Words.{position}
use Rattle.mm_memory.proofs.RoutingLemmas.{place_or_length}
use Rattle.mm_memory.proofs.recording.passed.Goals as goal

pub returns-clause-passed : goal.returns-clause-passed
returns-clause-passed c =
    let found : c.position.result ≡ position (λ (h : Held). leads_to c.args.rows.now h.id) c.args.stores.now =
    position_from_yields_List (λ (h : Held). leads_to c.args.rows.now h.id) _ _ c.position.result c.position.ensures.ran
    (YieldsList-from_slice c.args.stores.now cc) (λ x b q k. search (rules, tests)) in
    search (rules, found, place_or_length (λ (h : Held). leads_to c.args.rows.now h.id) c.args.stores.now)
