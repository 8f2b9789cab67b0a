-- The table of the worths of a problem's numbers: comma separated values (RFC 4180), with a header and a record for
-- each number.
use Rattle.std.specs.Prelude.{◌≡◌, ℕ, List, ◌++◌, map, All, codes, decimal, flat_map, slice_index}
use Rattle.mm_base.specs.Id.{id_text}
use Rattle.mm_problem.specs.Dumping.{Dumping, row}
use Rattle.mm_problem.specs.Texts.{SaysProblem}
use Rattle.mm_sensitivity.specs.declared.item.Item.{Item}
use Rattle.mm_sensitivity.specs.declared.item.Item.TheVariants.{Window, Size, Limit, StepLimit, StepSize}
use Rattle.mm_sensitivity.specs.declared.worth.Worth.{Worth}
use Rattle.mm_sensitivity.specs.Items.{items}
use Rattle.mm_sensitivity.specs.Worth.{IsWorth}

-- the cells that name a number
abbrev pub item_cells : Dumping → Item → List ℕ
item_cells q (Window t) = codes "window,," ++ decimal t
item_cells q (Size s) = codes "size," ++ id_text (row q s).id ++ codes ","
item_cells q (Limit c) = codes "limit," ++ decimal c ++ codes ","
item_cells q (StepLimit k t) = codes "limit," ++ decimal (slice_index q.limited k) ++ codes "," ++ decimal t
item_cells q (StepSize k t) =
    codes "size," ++ id_text (row q (slice_index q.sized k)).id ++ codes "," ++ decimal t

-- the cells with the worth of a number, up to the end of the record
unfoldable pub worth_cells : Worth → List ℕ
worth_cells w =
    codes "," ++ decimal w.now ++ codes "," ++ decimal w.next ++ codes "," ++ decimal w.most ++ codes ","
    ++ decimal w.without ++ codes "\n"

-- the record of a number
abbrev pub record_of : Dumping → Worth → List ℕ
record_of q w = item_cells q w.item ++ worth_cells w

-- the header, and the records
unfoldable pub table : Dumping → List Worth → List ℕ
table q ws = codes "item,name,step,now,next,most,without\n" ++ flat_map (record_of q) ws

-- the worths of the numbers of the problem, in order
pub record AreWorths (q : Dumping) (ws : List Worth) : Type 0 where
  pub items : map (λ w. w.item) ws ≡ items q
  pub each : All (IsWorth q) ws

-- the table of the problem of a setup and a forecast
pub record IsWorthTable (setup forecast text : List ℕ) : Type 0 where
  pub problem : Dumping
  pub worths : List Worth
  pub says_problem : SaysProblem setup forecast problem
  pub are_worths : AreWorths problem worths
  pub table : text ≡ table problem worths
