-- What is shared out has room, and so no wider window can always be shared out.
use Rattle.std.proofs.Common.{◌≡◌, ℕ, zero, suc, ◌+◌, ◌-◌, ◌<◌, ◌≤◌, Bool, true, false, cond, refl, sym, ◌∙◌, ap}
use Rattle.std.proofs.Common.{arith, List, length, min}
use Rattle.std.specs.Prelude.{map}
use Rattle.std.specs.Prelude.{filter}
use Rattle.std.specs.List.{range_with_len, sum_by}
use Rattle.std.proofs.lemmas.List.FromFn.{get_or-map-range_with_len}
use Rattle.mm_base.proofs.Sums.{sum_by-filter, sum_by-swap, sum_by_zeros}
use Rattle.mm_base.proofs.RangeSums.{sum_by_range_more, sum_by_range_same, sum_by_range-le, sum_by_filter_range-le}
use Rattle.mm_base.specs.declared.limits.TheConstants.{CHANNELS}
use Rattle.mm_links.specs.declared.link.Link.{Link}
use Rattle.mm_links.specs.declared.link.Rooms.{Rooms}
use Rattle.mm_links.specs.Rooms.{Set, channels, window_at, limit_at, limit_of, room_at, room_of, limits_of, AreRooms}
use Rattle.mm_links.specs.Shared.{amount, numbers, no_link, link, share, IsShared}
use Rattle.mm_links.specs.Laws.{with_window, CanBeShared}
use Rattle.mm_links.proofs.Shares.{list_sum}

-- what passes a test is at most all
part : (b : Bool) (m : ℕ) → cond b m 0 ≤ m
part true m = omega arith
part false m = omega arith

-- a test of each term of a sum
test_of_sum : (b : Bool) (h : ℕ → ℕ) (xs : List ℕ) → cond b (sum_by h xs) 0 ≡ sum_by (λ k. cond b (h k) 0) xs
test_of_sum true h xs = refl
test_of_sum false h xs = sym (sum_by_zeros (λ k. 0) xs (λ k d lt. refl))

-- of no set of channels is more shared out than the links can send of it
pub shares_have_room : (links : List Link) (x y : List ℕ) (set : Set) → IsShared links x y
    → sum_by (amount x) (filter set channels) ≤ room_of links set
shares_have_room links x y set is =
    let own : ℕ → ℕ → ℕ = λ c l. cond (set c) (share y l c) 0 in
    let by_link : ℕ → ℕ = λ l. sum_by (λ c. own c l) channels in
    omega (
      arith,
      sum_by-filter (amount x) set channels,
      sum_by_range_same (λ c. cond (set c) (amount x c) 0) (λ c. sum_by (own c) (numbers links)) 0 CHANNELS
          (λ c _ below. ap (λ m. cond (set c) m 0) (sym (is.all c (omega arith))) ∙ test_of_sum (set c)
          (λ l. share y l c) (numbers links)),
      sum_by-swap own channels (numbers links),
      sum_by_range-le by_link (λ l. room_at set (link links l)) 0 (length links)
          (λ l _ within. omega (
            arith,
            is.windows l (omega arith),
            sum_by_range-le (λ c. own c l) (share y l) 0 CHANNELS (λ c _ _. part (set c) (share y l c)),
            sum_by-filter (share y l) set channels,
            sum_by_filter_range-le set (share y l) (limit_at (link links l)) 0 CHANNELS
                (λ c _ below. is.limits l c (omega arith) (omega arith)),
          )),
      list_sum (room_at set) no_link links,
    )

-- ---- amounts that come to a total, the first channels first

-- what is sent of a channel, where each sends at most this much
abbrev filled : (ℕ → ℕ) → ℕ → ℕ → ℕ
filled h total c = min (h c) (total - sum_by h (range_with_len 0 c))

-- a channel sends at most that much
filled-le : (h : ℕ → ℕ) (total c most : ℕ) → h c ≤ most → filled h total c ≤ most
filled-le h total c most small = omega arith

-- what the first channels send
filled-sum : (h : ℕ → ℕ) (total n : ℕ)
    → sum_by (filled h total) (range_with_len 0 n) ≡ min total (sum_by h (range_with_len 0 n))
filled-sum h total zero = omega arith
filled-sum h total (suc n) =
    let one : suc n ≡ n + 1 = omega arith in
    omega (
      arith,
      ap (λ k. sum_by (filled h total) (range_with_len 0 k)) one,
      ap (λ k. sum_by h (range_with_len 0 k)) one,
      sum_by_range_more (filled h total) 0 n n (omega arith),
      sum_by_range_more h 0 n n (omega arith),
      filled-sum h total n,
    )

-- a term that passes where its bound does is the term
kept_out : (b : Bool) (m rest : ℕ) → cond b (min (cond b m 0) rest) 0 ≡ min (cond b m 0) rest
kept_out true m rest = refl
kept_out false m rest = omega arith

-- if all that keeps a window can be shared out, there is room for as much of a set as the window and its limits allow
shared_has_room : (links : List Link) (rooms : Rooms) (window total : ℕ) (set : Set) → AreRooms links rooms
    → CanBeShared links (with_window rooms window) → total ≤ window → total ≤ limits_of links set → total
    ≤ room_of links set
shared_has_room links rooms window total set are shared narrow few =
    let h : ℕ → ℕ = λ c. cond (set c) (limit_of links c) 0 in
    let x : List ℕ = map (filled h total) channels in
    let at : (c : ℕ) → c < CHANNELS → amount x c ≡ filled h total c =
    λ c below. get_or-map-range_with_len (filled h total) 0 CHANNELS c c 0 below (omega arith) in
    let all = sum_by_range_same (amount x) (filled h total) 0 CHANNELS (λ c _ below. at c (omega arith)) in
    let sum = all ∙ filled-sum h total CHANNELS in
    let of_set = sum_by-filter (limit_of links) set channels in
    let is = shared x (record {
      limits = λ c below. le_between (at c below) (are.limits c below)
          (filled-le h total c (limit_of links c) (part (set c) (limit_of links c)));
      window = least total (sum_by h channels) sum narrow;
    }) in
    omega (
      arith,
      sum,
      of_set,
      all,
      shares_have_room links x is.0 set is.1,
      sum_by-filter (amount x) set channels,
      sum_by_range_same (λ c. cond (set c) (amount x c) 0) (filled h total) 0 CHANNELS
          (λ c _ below. ap (λ m. cond (set c) m 0) (at c (omega arith)) ∙ kept_out (set c) (limit_of links c)
          (total - sum_by h (range_with_len 0 c))),
    )
  where
    le_between : {m n j k : ℕ} → m ≡ n → j ≡ k → n ≤ k → m ≤ j
    le_between first second le = omega (arith, first, second)

    least : {m j : ℕ} (n k : ℕ) → m ≡ min n k → n ≤ j → m ≤ j
    least n k first le = omega (arith, first)

-- so the window is the widest
pub window_is_widest : (links : List Link) (rooms : Rooms) (window : ℕ) → AreRooms links rooms
    → window ≤ sum_by window_at links → CanBeShared links (with_window rooms window) → window ≤ rooms.window
window_is_widest links rooms window are most shared =
    are.window.widest window most
    (λ set. shared_has_room links rooms window (min window (limits_of links set)) set are shared (omega arith)
    (omega arith))
