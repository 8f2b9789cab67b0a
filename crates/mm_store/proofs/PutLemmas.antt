-- What a put leaves is a store.
use Rattle.std.proofs.Common.{◌≡◌, ℕ, ◌+◌, ◌^◌, ◌<◌, ◌≤◌, ◌==◌, List, [], ◌∷◌, ◌++◌, length, max, All, refl, inl, inr}
use Rattle.std.proofs.Common.{subst, arith}
use Rattle.std.proofs.lemmas.Bool.{cases_Bool, cases_lt, lt-ltb, le-ltb}
use Rattle.std.proofs.lemmas.Bool.Decides.{nat_tests}
use Rattle.std.proofs.lemmas.List.{length_push}
use Rattle.std.proofs.lemmas.List.Elements.{All-push, All-tail, All-weaker}
use Rattle.std.proofs.lemmas.List.Quantifiers.{all_pairs_push}
use Rattle.mm_base.specs.declared.kind.Kind.{Kind}
use Rattle.mm_base.specs.declared.kind.Kind.TheVariants.{Circular, Bounded}
use Rattle.mm_packet.specs.Packet.{SpacePacket}
use Rattle.mm_store.specs.declared.stored.Stored.{Stored}
use Rattle.mm_store.specs.Content.{Store, IsStore, IsRising, clock_end, with_newest, put_full, put_timed, put}
use Rattle.mm_store.proofs.ContentLemmas.{IsRising-rest}

-- times rise, up to the last one that was given
pub record IsOrdered (s : Store) : Type 0 where
  pub rising : IsRising s.content
  pub up_to_last : All (λ p. p.time ≤ s.last) s.content

-- so it is with a newest packet
pub newest_ordered : (s : Store) (older : List Stored) (new : Stored) → s.last < new.time → IsRising older
    → All (λ p. p.time ≤ s.last) older → IsOrdered (with_newest s older new)
newest_ordered s older new later rising early = record {
  rising = all_pairs_push (λ p q. p.time < q.time) older new rising (λ k d within. omega (arith, early k d within));
  up_to_last = All-push (λ p. p.time ≤ new.time) older new
      (All-weaker (λ p. p.time ≤ s.last) (λ p. p.time ≤ new.time) (λ p upto. omega arith) older early) (omega arith);
}

-- a store with a newest packet after the last time
module _ (s : Store) (new : Stored) (sound : IsStore s) (later : s.last < new.time) (fits : new.time < 2 ^ 64) where
  IsStore-newest : (older : List Stored) → IsRising older → All (λ p. 1 ≤ p.time) older
      → All (λ p. p.time ≤ s.last) older → length older + 1 ≤ s.size → IsStore (with_newest s older new)
  IsStore-newest older rising from_one up_to_last room = record {
    rising = (newest_ordered s older new later rising up_to_last).rising;
    from_one = All-push (λ p. 1 ≤ p.time) older new from_one (omega arith);
    up_to_last = (newest_ordered s older new later rising up_to_last).up_to_last;
    within = omega (arith, room, length_push older new);
    has_room = sound.has_room;
    in_limits = sound.in_limits;
    last_fits = fits;
  }

  -- a store with room that took the newest packet
  pub IsStore-appended : length s.content < s.size → IsStore (with_newest s s.content new)
  IsStore-appended room = IsStore-newest s.content sound.rising sound.from_one sound.up_to_last (omega arith)

  -- a full store gives up its oldest packet, or stays as it is
  IsStore-put_full : (kind : Kind) (content : List Stored) → s.content ≡ content
      → IsStore (put_full kind content s new).1
  IsStore-put_full Bounded content held = sound
  IsStore-put_full Circular [] held = sound
  IsStore-put_full Circular (oldest ∷ later_ones) held =
      IsStore-newest later_ones
      (IsRising-rest oldest later_ones (rw held at sound.rising))
      (All-tail (λ p. 1 ≤ p.time) oldest later_ones (rw held at sound.from_one))
      (All-tail (λ p. p.time ≤ s.last) oldest later_ones (rw held at sound.up_to_last))
      (let within = rw held at sound.within in omega (arith, within))

  -- a full store that gave up its oldest packet for the newest
  pub IsStore-replaced : (oldest : Stored) (left : List Stored) → s.size ≤ length s.content
      → s.content ++ new ∷ [] ≡ oldest ∷ left → IsStore (record s { last = new.time; content = left })
  IsStore-replaced oldest left full replaced = by_content s.content refl full replaced
    where
      by_content : (content : List Stored) → s.content ≡ content → s.size ≤ length content
          → content ++ new ∷ [] ≡ oldest ∷ left → IsStore (record s { last = new.time; content = left })
      by_content [] held all is = absurd (omega (arith, sound.has_room))
      by_content (first ∷ others) held all is =
          let same : others ++ new ∷ [] ≡ left = cc in
          subst (λ (xs : List Stored). IsStore (record s { last = new.time; content = xs })) same
          (IsStore-put_full Circular (first ∷ others) held)

  IsStore-put_timed : IsStore (put_timed s new).1
  IsStore-put_timed = elim (cases_lt (length s.content) s.size) [
    | inl room ↦ rw (lt-ltb (length s.content) s.size room) (IsStore-appended room)
    | inr full ↦ rw (le-ltb (length s.content) s.size full) (IsStore-put_full s.kind s.content refl)
  ]

-- what a put leaves is a store
pub IsStore-put : (s : Store) (now : ℕ) (packet : SpacePacket) → now < 2 ^ 64 → IsStore s
    → IsStore (put s now packet).1
IsStore-put s now packet in_clock sound = elim (cases_Bool (s.last == clock_end)) [
  | inl ended ↦ rw ended sound
  | inr before ↦
      let fits : max now (s.last + 1) < 2 ^ 64 = grind (arith, nat_tests, sound.last_fits) in
      rw before (IsStore-put_timed s (record { time = max now (s.last + 1); packet = packet }) sound (omega arith) fits)
]
