use Rattle.std.proofs.Common.{◌≡◌, [], length, map, drop}
use Rattle.toml.specs.View.{view}
use Rattle.mm_mission_text.specs.Headers.{all_in}
use Rattle.mm_mission_text.specs.Missions.{entry_after}
use Rattle.mm_mission_text.proofs.given.entries_in.Given as goal

abbrev pub invariant-loop-i : goal.invariant-loop-i
invariant-loop-i g l =
    let next = entry_after g.E.Entry.array g.E.Entry.known g.E.Entry.others g.E.Entry.entry_in in
    record {
      count : length l.entries.items ≡ l.i;
      left : all_in next [] (map view l.tables) ≡ all_in next l.entries.items (map view (drop l.i l.tables));
    }
