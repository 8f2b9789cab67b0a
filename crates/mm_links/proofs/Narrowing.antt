-- The widest window over all sets of channels, channel by channel.
use Rattle.std.proofs.Common.{◌≡◌, ℕ, ◌+◌, ◌<◌, ◌≤◌, Bool, true, false, cond, refl, sym, ◌∙◌, ap, inl, inr, arith}
use Rattle.std.proofs.Common.{List, length}
use Rattle.std.proofs.Common.{get_or, set, min}
use Rattle.std.specs.Prelude.{filter, sum_by}
use Rattle.std.proofs.lemmas.Bool.{cases_eq, cases_Bool, cases_lt}
use Rattle.std.proofs.lemmas.Grind.{get_or-set_at}
use Rattle.std.proofs.lemmas.List.{get_or-set_other}
use Rattle.mm_base.proofs.Sums.{sum_by-filter, sum_by-same}
use Rattle.mm_base.proofs.RangeSums.{sum_by_range_same}
use Rattle.mm_base.specs.declared.limits.TheConstants.{CHANNELS}
use Rattle.mm_links.specs.declared.link.Link.{Link}
use Rattle.mm_links.specs.Rooms.{Set, channels, is_in, limit_at, limit_of, room_at, room_of, limits_of, IsOpen}
use Rattle.mm_links.specs.Narrowed.{Agrees, IsNarrowed}

-- sums over sets with the same channels are equal
same_set_sum : (f : ℕ → ℕ) (p q : Set) → ((c : ℕ) → c < CHANNELS → p c ≡ q c)
    → sum_by f (filter p channels) ≡ sum_by f (filter q channels)
same_set_sum f p q same =
    sum_by-filter f p channels
    ∙ sum_by_range_same (λ c. cond (p c) (f c) 0) (λ c. cond (q c) (f c) 0) 0 CHANNELS
    (λ c _ below. ap (λ b. cond b (f c) 0) (same c (omega arith)))
    ∙ sym (sum_by-filter f q channels)

-- so is what links can send of them
same_room : (links : List Link) (p q : Set) → ((c : ℕ) → c < CHANNELS → p c ≡ q c) → room_of links p ≡ room_of links q
same_room links p q same =
    sum_by-same (room_at p) (room_at q) links
    (λ k d _. ap (min (get_or links k d).window) (same_set_sum (limit_at (get_or links k d)) p q same))

-- a window is open to both sets or to none
same_open : (links : List Link) (window : ℕ) (p q : Set) → ((c : ℕ) → c < CHANNELS → p c ≡ q c) → IsOpen links window q
    → IsOpen links window p
same_open links window p q same is =
    omega (arith, same_room links p q same, ap (min window) (same_set_sum (limit_of links) p q same))

-- a set that agrees below n agrees below n + 1 with the table that shows its channel n
agrees_more : (table : List Bool) (n : ℕ) (b : Bool) (s : Set) → n < length table → s n ≡ b → Agrees table n s
    → Agrees (set table n b) (n + 1) s
agrees_more table n b s within here agrees c below =
    elim (cases_eq c n) [
      | inl same ↦ ap s same ∙ here ∙ sym (get_or-set_at table n c b false same within)
      | inr other ↦ agrees c (omega arith) ∙ sym (get_or-set_other table n c b false other)
    ]

-- one that agrees with a table that shows more agrees below n
agrees_less : (table : List Bool) (n : ℕ) (b : Bool) (s : Set) → Agrees (set table n b) (n + 1) s → Agrees table n s
agrees_less table n b s agrees c below =
    agrees c (omega arith) ∙ get_or-set_other table n c b false (λ same. omega (arith, same))

-- the last step: the table shows the whole set
pub narrowed_last : (links : List Link) (table : List Bool) (most window : ℕ)
    → (room_of links (is_in table) < limits_of links (is_in table) → window ≡ min most (room_of links (is_in table)))
    → (limits_of links (is_in table) ≤ room_of links (is_in table) → window ≡ most)
    → IsNarrowed links table CHANNELS most window
narrowed_last links table most window narrow wide =
    let here = is_in table in
    elim (cases_lt (room_of links here) (limits_of links here)) [
      | inl less ↦
          record {
            within = omega (arith, narrow less);
            each = λ s agrees. same_open links window s here agrees (omega (arith, narrow less));
            widest = λ other low is.
                let own : min other (limits_of links here) ≤ room_of links here = is here (λ c _. refl) in
                omega (arith, narrow less);
          }
      | inr enough ↦
          record {
            within = omega (arith, wide enough);
            each = λ s agrees. same_open links window s here agrees (omega (arith, enough));
            widest = λ other low _. omega (arith, wide enough);
          }
    ]

-- a step: first without a channel, then with it
pub narrowed_more : (links : List Link) (table : List Bool) (n most first window : ℕ) → n < length table
    → IsNarrowed links (set table n false) (n + 1) most first → IsNarrowed links (set table n true) (n + 1) first window
    → IsNarrowed links table n most window
narrowed_more links table n most first window within without with =
    record {
      within = omega (arith, without.within, with.within);
      each = λ s agrees. elim (cases_Bool (s n)) [
        | inl on ↦ with.each s (agrees_more table n true s within on agrees)
        | inr off ↦
            omega (arith, without.each s (agrees_more table n false s within off agrees), with.within)
      ];
      widest = λ other low is.
          let below = without.widest other low (λ s agrees. is s (agrees_less table n false s agrees)) in
          with.widest other below (λ s agrees. is s (agrees_less table n true s agrees));
    }
