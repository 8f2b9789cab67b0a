-- When what a plan sends is sent.
use Rattle.std.specs.Prelude.{◌≡◌, ℕ, ◌+◌, ◌-◌, ◌*◌, ◌<◌, ◌≤◌, Bool, nat_le, ◌&&◌, ◌⊎◌, ◌++◌}
use Rattle.std.specs.Prelude.{List, [], ◌∷◌, length, slice_index, All, AllPairs, Contains, IsTrue}
use Rattle.std.specs.List.{list_any}
use Rattle.mm_base.specs.Grid.{cell}
use Rattle.mm_mission.specs.declared.parts.Span.{Span}
use Rattle.mm_mission.specs.declared.parts.Pass.{Pass}
use Rattle.mm_mission.specs.declared.dumps.Dump.{Dump}
use Rattle.mm_mission.specs.Mission.{MissionRows}

-- how many units are to be sent of a store in a step, by a list of amounts, step by step
abbrev pub amount : MissionRows → List ℕ → ℕ → ℕ → ℕ
amount m amounts s t = cell (length m.stores) amounts s t

-- how long a span lasts
abbrev pub length_of : Span → ℕ
length_of s = s.end - s.begin

-- whether a span lies in a pass
abbrev pub is_in_pass : List Pass → Span → Bool
is_in_pass passes s = list_any (λ p. nat_le p.span.begin s.begin && nat_le s.end p.span.end) passes

-- ---- joining

-- from the begin of the first dump to the end of the second
abbrev pub both : Dump → Dump → Dump
both first second = record {
  store = first.store;
  span = record { begin = first.span.begin; end = second.span.end };
  packets = first.packets + second.packets;
}

-- the second dump follows the first one, of the same store and at its rate, and both lie in one pass
pub record Follows (passes : List Pass) (first second : Dump) : Type 0 where
  pub store : first.store ≡ second.store
  pub next : first.span.end ≡ second.span.begin
  pub even : first.packets * length_of second.span ≡ second.packets * length_of first.span
  pub inside : IsTrue (is_in_pass passes (both first second).span)

-- a dump is added at the end of others, or joined to the last of them
abbrev pub IsAdded : List Pass → List Dump → Dump → List Dump → Type 0
IsAdded passes dumps next new =
    (new ≡ dumps ++ next ∷ [])
    ⊎ ((earlier : List Dump) × ((last : Dump) × (dumps ≡ earlier ++ last ∷ []) × Follows passes last next
    × (new ≡ earlier ++ both last next ∷ [])))

-- ---- a timeline

-- while a step lasts, a dump sends its store's packets of the step evenly
pub record Sends (edges : List ℕ) (x : ℕ → ℕ → ℕ) (d : Dump) (t : ℕ) : Type 0 where
  pub begin : d.span.begin ≤ slice_index edges (t - 1)
  pub end : slice_index edges t ≤ d.span.end
  pub even : d.packets * (slice_index edges t - slice_index edges (t - 1)) ≡ x d.store t * length_of d.span

-- the dump lasts from one edge to a later one, and sends in each step between them; it is of one step, or in a pass
pub record IsDumpOver (m : MissionRows) (edges : List ℕ) (x : ℕ → ℕ → ℕ) (d : Dump) (i j : ℕ) : Type 0 where
  pub begin : d.span.begin ≡ slice_index edges i
  pub end : d.span.end ≡ slice_index edges j
  pub later : i < j
  pub there : j < length edges
  pub store : d.store < length m.stores
  pub some : 0 < d.packets
  pub sends : (t : ℕ) → i < t → t ≤ j → Sends edges x d t
  pub whole : (j ≡ i + 1) ⊎ IsTrue (is_in_pass m.passes d.span)

abbrev pub IsDumpOf : MissionRows → List ℕ → (ℕ → ℕ → ℕ) → Dump → Type 0
IsDumpOf m edges x d = (i : ℕ) × ((j : ℕ) × IsDumpOver m edges x d i j)

-- a dump that ends before another of its store begins
abbrev pub EndsBefore : Dump → Dump → Type 0
EndsBefore d e = d.store ≡ e.store → d.span.end ≤ e.span.begin

-- the dumps send the packets of each step evenly while the step lasts, and nothing else
pub record IsTimeline (m : MissionRows) (edges : List ℕ) (x : ℕ → ℕ → ℕ) (dumps : List Dump) : Type 0 where
  pub each : All (IsDumpOf m edges x) dumps
  pub all : (s t : ℕ) → s < length m.stores → 1 ≤ t → t < length edges → 0 < x s t
      → (d : Dump) × (Contains dumps d × (d.store ≡ s) × Sends edges x d t)
  pub apart : AllPairs EndsBefore dumps

-- ---- on the way

-- the dump of a store in a step
abbrev pub step_dump : List ℕ → (ℕ → ℕ → ℕ) → ℕ → ℕ → Dump
step_dump edges x s t = record {
  store = s;
  span = record { begin = slice_index edges (t - 1); end = slice_index edges t };
  packets = x s t;
}

-- the step of a store comes before or is that one, by store and then by step
abbrev pub IsDone : ℕ → ℕ → ℕ → ℕ → Type 0
IsDone s t r u = (r < s) ⊎ ((r ≡ s) × (u ≤ t))

-- a dump of a store before that one, or of that one up to a step
pub record IsUpTo (edges : List ℕ) (s t : ℕ) (d : Dump) : Type 0 where
  pub store : d.store ≤ s
  pub end : d.store ≡ s → d.span.end ≤ slice_index edges t

-- the dumps send what is to be sent so far
pub record AreSent (m : MissionRows) (edges : List ℕ) (x : ℕ → ℕ → ℕ) (s t : ℕ) (dumps : List Dump) : Type 0 where
  pub each : All (IsDumpOf m edges x) dumps
  pub up_to : All (IsUpTo edges s t) dumps
  pub all : (r u : ℕ) → IsDone s t r u → 1 ≤ u → u < length edges → 0 < x r u
      → (d : Dump) × (Contains dumps d × (d.store ≡ r) × Sends edges x d u)
  pub apart : AllPairs EndsBefore dumps
