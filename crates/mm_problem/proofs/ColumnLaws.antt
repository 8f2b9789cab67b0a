-- The columns of a forecast that have limits of channels.
use Rattle.std.proofs.Common.{◌≡◌, ℕ, ◌<◌, nat_le, nat_lt, true, List, ◌++◌, length, map, take, drop, Ok, sym, ap}
use Rattle.std.proofs.Common.{subst, ◌∙◌}
use Rattle.std.proofs.Common.{refl, arith}
use Rattle.std.specs.Prelude.{All, codes}
use Rattle.std.specs.Bool.{Decides}
use Rattle.std.specs.List.{list_all}
use Rattle.std.proofs.lemmas.Bool.Decides.{Decides-by_and, Decides-ltb}
use Rattle.std.proofs.lemmas.Slice.Eq.{bytes_eq-Decides}
use Rattle.std.proofs.lemmas.List.{length-map, take-append-drop}
use Rattle.mm_base.specs.declared.limits.TheConstants.{MAX_CHANNEL, CHANNELS}
use Rattle.mm_base.specs.declared.numbers.Numeral.{Numeral}
use Rattle.mm_base.specs.declared.numbers.Numeral.TheVariants.{NotNumber, TooLarge, Number}
use Rattle.mm_base.specs.Numbers.{numeral_of}
use Rattle.mm_base.proofs.IdFields.{Decides-nat_le}
use Rattle.mm_base.proofs.NumberTexts.{numeral_printed, printed_numeral}
use Rattle.mm_base.proofs.ReadingSteps.{bind_ok, test_ok, ok_same}
use Rattle.mm_problem.specs.Forecast.{channel_from, channel_in, next_channel, limited_in}
use Rattle.mm_problem.specs.ReadableForecast.{limit_text}
use Rattle.mm_problem.specs.Records.{Fields}
use Rattle.mm_problem.proofs.NamedColumns.{Says, IsBelow, AreRising, AreNamesOf, columns_said, columns_read}
use Rattle.mm_problem.proofs.RowLaws.{IsNext}

-- a channel that was taken was a number
channel_from_said : (v : Numeral) (c : ℕ) → channel_from v ≡ Ok c → v ≡ Number c
channel_from_said NotNumber c h = absurd (cc)
channel_from_said TooLarge c h = absurd (cc)
channel_from_said (Number n) c h = cc

-- a name that was read is that of the channel's column
channel_said : (name : List ℕ) (c : ℕ) → channel_in name ≡ Ok c → (name ≡ limit_text c) × (c < CHANNELS)
unfolding channel_in
channel_said name c h =
    let (u, word, number) = bind_ok _ _ _ h in
    let front : take 6 name ≡ codes "limit:" =
    (bytes_eq-Decides (take 6 name) (codes "limit:")).0 (test_ok _ _ _ word) in
    let back = numeral_printed MAX_CHANNEL (drop 6 name) c (omega arith)
    (channel_from_said (numeral_of MAX_CHANNEL (drop 6 name)) c number) in (
      sym (take-append-drop 6 name) ∙ ap (λ w. w ++ drop 6 name) front
          ∙ ap (λ d. codes "limit:" ++ d) back.0,
      omega (arith, back.1),
    )

-- the name of a channel's column is read as the channel
channel_read : (c : ℕ) → c < CHANNELS → channel_in (limit_text c) ≡ Ok c
unfolding channel_in
channel_read c below = rw (printed_numeral MAX_CHANNEL c (omega arith) (omega arith)) refl

-- the test that channels are below a channel
pub below_decides : (channel : ℕ) (cs : List ℕ)
    → Decides (list_all (λ c. nat_lt c channel) cs) (All (λ c. c < channel) cs)
below_decides channel = Decides-by_and (λ c. nat_lt c channel) (λ c. c < channel) (list_all (λ c. nat_lt c channel))
    (λ c. Decides-ltb c channel) refl (λ _ _. refl)

-- a channel that is read next is above those before it
next_said : (earlier : List ℕ) (name : List ℕ) (c : ℕ) → next_channel earlier name ≡ Ok c
    → IsNext (Says limit_text) (IsBelow CHANNELS) ◌<◌ earlier name c
unfolding next_channel
next_said earlier name c h =
    let (k, is, h1) = bind_ok _ _ _ h in
    let (u, above, last) = bind_ok _ _ _ h1 in
    let named = channel_said name k is in
    subst (IsNext (Says limit_text) (IsBelow CHANNELS) ◌<◌ earlier name) (ok_same k c last)
    (record { says = named.0; fits = named.1; new = (below_decides k earlier).0 (test_ok _ _ _ above) })

-- the name of a channel above those before it is read as the channel
next_read : (earlier : List ℕ) (name : List ℕ) (c : ℕ)
    → IsNext (Says limit_text) (IsBelow CHANNELS) ◌<◌ earlier name c → next_channel earlier name ≡ Ok c
unfolding next_channel
next_read earlier name c h = rw (h.says, channel_read c h.fits, (below_decides c earlier).1 h.new) refl

-- names that are read as channels are those of their columns
pub limited_said : (names : Fields) (limited : List ℕ) → limited_in names ≡ Ok limited
    → AreNamesOf limit_text CHANNELS names limited
unfolding limited_in
limited_said names limited h =
    let (u, few, channels) = bind_ok _ _ _ h in
    columns_said limit_text CHANNELS next_channel next_said names limited
    ((Decides-nat_le (length names) CHANNELS).0 (test_ok _ _ _ few)) channels

-- the names of channels that rise are read as the channels
pub limited_read : (limited : List ℕ) → AreRising CHANNELS limited → limited_in (map limit_text limited) ≡ Ok limited
unfolding limited_in
limited_read limited are =
    let few : nat_le (length (map limit_text limited)) CHANNELS ≡ true =
    (Decides-nat_le (length (map limit_text limited)) CHANNELS).1
    (omega (arith, are.at_most, length-map limited limit_text)) in
    rw few (columns_read limit_text CHANNELS next_channel next_read limited are)
