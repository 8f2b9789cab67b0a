-- The packets of the lines that go to no store, counted line by line.
use Rattle.std.proofs.Common.{◌≡◌, ℕ, ◌+◌, ◌≤◌, ◌&&◌, Bool, true, false, not, cond, List, [], ◌∷◌, ◌++◌, refl, arith}
use Rattle.std.specs.Prelude.{Ok}
use Rattle.std.proofs.lemmas.Bool.Decides.{nat_tests}
use Rattle.std.proofs.lemmas.List.Sums.{sum_by_push}
use Rattle.mm_base.specs.Reading.{◌>>=◌, test}
use Rattle.mm_packet.specs.Packet.{IsTelecommand, IsTelemetry}
use Rattle.mm_packet.specs.declared.header.PacketType.{PacketType}
use Rattle.mm_packet.specs.declared.header.PacketType.TheVariants.{Telecommand, Telemetry}
use Rattle.mm_run.specs.Sources.{has_room, with_source_line}
use Rattle.mm_run.specs.Types.{Holdings, ScriptFault, SourceLine}
use Rattle.mm_run.specs.Untaken.{Counts, is_late, is_telecommand, is_untaken}
use Rattle.mm_run.specs.declared.untaken.Unstored.{Unstored}

-- nothing is counted of no line
pub counted_none : (steps : ℕ) (memory : Holdings)
    → Counts steps memory [] (record { late = 0; telecommands = 0; unrouted = 0 })
counted_none steps memory = record { late = refl; telecommands = refl; untaken = refl }

-- one line more, by whether it is late, a telecommand, and taken by no route
pub counted_more : (steps : ℕ) (memory : Holdings) (lines : List SourceLine) (d : SourceLine) (n m : Unstored)
    (late command untaken : Bool) → Counts steps memory lines n → is_late steps d ≡ late
    → is_telecommand d.packet.kind ≡ command → is_untaken memory d.packet ≡ untaken
    → m.late ≡ n.late + cond late 1 0 → m.telecommands ≡ n.telecommands + cond (not late && command) 1 0
    → m.telecommands + m.unrouted ≡ n.telecommands + n.unrouted + cond (not late && untaken) 1 0
    → Counts steps memory (lines ++ d ∷ []) m
counted_more steps memory lines d n m late command untaken counted l c u late_is commands_are untaken_are =
    let lates = sum_by_push (λ x. cond (is_late steps x) 1 0) lines d in
    let commands = sum_by_push (λ x. cond (not (is_late steps x) && is_telecommand x.packet.kind) 1 0) lines d in
    let untakens = sum_by_push (λ x. cond (not (is_late steps x) && is_untaken memory x.packet) 1 0) lines d in
    record {
      late = omega (arith, late_is, counted.late, rw l at lates);
      telecommands = omega (arith, commands_are, counted.telecommands, rw (l, c) at commands);
      untaken = omega (arith, untaken_are, counted.untaken, rw (l, u) at untakens);
    }

-- a telecommand passes the test for telecommands
pub telecommand_is : (kind : PacketType) → IsTelecommand kind → is_telecommand kind ≡ true
telecommand_is (Telecommand source) is = refl
telecommand_is (Telemetry counter destination time) never = absurd never

-- telemetry does not pass that test
pub telemetry_is : (kind : PacketType) → IsTelemetry kind → is_telecommand kind ≡ false
telemetry_is (Telecommand source) never = absurd never
telemetry_is (Telemetry counter destination time) is = refl

-- one line more of telemetry that is not late, by whether no route takes it
pub telemetry_more : (steps : ℕ) (memory : Holdings) (lines : List SourceLine) (d : SourceLine) (n m : Unstored)
    (untaken : Bool) → Counts steps memory lines n → d.step ≤ steps → IsTelemetry d.packet.kind
    → is_untaken memory d.packet ≡ untaken → m.late ≡ n.late → m.telecommands ≡ n.telecommands
    → m.unrouted ≡ n.unrouted + cond untaken 1 0 → Counts steps memory (lines ++ d ∷ []) m
telemetry_more steps memory lines d n m untaken counted within is u late commands unrouted =
    counted_more steps memory lines d n m false false untaken counted (grind (arith, nat_tests))
    (telemetry_is d.packet.kind is) u (omega arith) (omega arith) (omega arith)

-- a line that is added is the last
pub added_last : (bad : ScriptFault) (earlier lines : List SourceLine) (d : SourceLine)
    → with_source_line bad earlier d ≡ Ok lines → lines ≡ earlier ++ d ∷ []
added_last bad earlier lines d = by_room (has_room earlier d)
  where
    by_room : (b : Bool) → (test b bad >>= (λ room. Ok (earlier ++ d ∷ []))) ≡ Ok lines → lines ≡ earlier ++ d ∷ []
    by_room true said = cc
    by_room false said = cc
