-- Reading a plan text line by line.
use Rattle.std.specs.Prelude.{◌≡◌, ◌≢◌, ℕ, zero, suc, ◌+◌, ℤ, pos, negsuc, Bool, true, false, not, ◌&&◌, ◌||◌, ◌==◌}
use Rattle.std.specs.Prelude.{nat_le, nat_lt, if◌then◌else◌, List, [], ◌∷◌, ◌++◌, length, take, drop}
use Rattle.std.specs.Prelude.{slice_index_or}
use Rattle.std.specs.Prelude.{Option, Some, None, codes, option_map, option_and_then}
use Rattle.std.specs.List.{find, slice_split}
use Rattle.std.specs.Str.{bytes_eq}
use Rattle.mm_base.specs.declared.limits.TheConstants.{MAX_STORES, MAX_STEPS, MAX_BLOCKS}
use Rattle.mm_base.specs.Characters.{space}
use Rattle.mm_base.specs.Id.{is_id_text, field_of}
use Rattle.mm_base.specs.Numbers.{numeral_of}
use Rattle.mm_base.specs.declared.numbers.Numeral.{Numeral}
use Rattle.mm_base.specs.declared.numbers.Numeral.TheVariants.{Number}
use Rattle.mm_plan.specs.declared.form.Form.{Form}
use Rattle.mm_plan.specs.declared.form.Form.TheVariants.{First, Second, Third}
use Rattle.mm_plan.specs.declared.stretch.Stretch.{Stretch}
use Rattle.mm_plan.specs.declared.stretch.TheConstants.{MAX_STRETCHES, MAX_COUNTS}
use Rattle.mm_plan.specs.declared.draft.Stage.{Stage}
use Rattle.mm_plan.specs.declared.draft.Stage.TheVariants.{ToTitle, ToStores, ToDumps, ToLoss, ToCut, ToEnd, Done}
use Rattle.mm_plan.specs.Table.{Table}
use Rattle.mm_plan.specs.Sheet.{SheetRows, CertificateRows, Line, title_line, stores_line, dump_line, loss_line}
use Rattle.mm_plan.specs.Sheet.{form_word}
use Rattle.mm_plan.specs.Sheet.{stretch_line, count_line, bound_line, first_line, end_line, line_text, IsLine}

-- the greatest number of 32 bits
abbrev pub MAX_U32 : ℕ
MAX_U32 = 4294967295

-- the greatest number of 64 bits
abbrev pub MAX_U64 : ℕ
MAX_U64 = 18446744073709551615

-- ---- what words are read as

-- the words of a line, of which no more than 19 are looked at
abbrev pub line_words : List ℕ → List (List ℕ)
line_words text = take 19 (slice_split (λ c. c == space) text)

-- the number, where there is one
abbrev pub number_in : Numeral → Option ℕ
number_in (Number n) = Some n
number_in other = None

-- the number up to a bound that a word is
unfoldable pub number_of : ℕ → List ℕ → Option ℕ
number_of most word = number_in (numeral_of most word)

-- the identifier that a word is, as its field
unfoldable pub id_of : List ℕ → Option (List ℕ)
id_of word = if is_id_text word then Some (field_of word) else None

-- the sign of a number below 0
abbrev minus : ℕ
minus = 45

-- the number below 0 with these digits
abbrev pub negative : ℕ → Option ℤ
negative zero = None
negative (suc n) = Some (negsuc n)

-- the signed number of 64 bits that a word is
unfoldable pub signed_of : List ℕ → Option ℤ
signed_of w =
    if slice_index_or w 0 0 == minus then option_and_then negative (number_of 9223372036854775808 (drop 1 w))
    else option_map pos (number_of 9223372036854775807 w)

-- the form that a word is
abbrev pub form_said : List ℕ → Option Form
form_said w = find (λ f. bytes_eq w (form_word f)) (First ∷ Second ∷ Third ∷ [])

-- what words are, where each is something, after what was read before
abbrev pub each : {A : Type 0} → (List ℕ → Option A) → List A → List (List ℕ) → Option (List A)
each read before [] = Some before
each read before (w ∷ ws) = option_and_then (λ x. each read (before ++ x ∷ []) ws) (read w)

-- what the first word is, and what those after it are
abbrev pub next : {A B : Type 0} → (List ℕ → Option A) → (List (List ℕ) → Option B) → List (List ℕ) → Option (A × B)
next read more [] = None
next read more (w ∷ ws) = option_and_then (λ x. option_map (λ xs. (x, xs)) (more ws)) (read w)

-- this word
abbrev pub word : List ℕ → List ℕ → Option (Unit {0})
word this w = if bytes_eq w this then Some tt else None

-- what the only word is
abbrev pub only : {A : Type 0} → (List ℕ → Option A) → List (List ℕ) → Option A
only read (w ∷ []) = read w
only read other = None

-- no word
abbrev pub no_more : List (List ℕ) → Option (Unit {0})
no_more [] = Some tt
no_more other = None

-- the line of stores
unfoldable pub stores_of : List (List ℕ) → Option Line
stores_of ws = option_map stores_line (each id_of [] ws)

-- the line of a step, and of amounts
unfoldable pub dump_of : List (List ℕ) → Option Line
dump_of ws = option_map (λ p. dump_line p.0 p.1) (next (number_of MAX_STEPS) (each (number_of MAX_BLOCKS) []) ws)

-- the line of a store, and of a first and a last step
abbrev pub stretch_by : List ℕ × (ℕ × ℕ) → Line
stretch_by p = stretch_line (record { store = p.0; first = p.1.0; last = p.1.1 })

-- the line of a stretch
unfoldable pub stretch_of : List (List ℕ) → Option Line
stretch_of ws = option_map stretch_by (next id_of (next (number_of MAX_U32) (only (number_of MAX_U32))) ws)

-- the line of a counted step
unfoldable pub count_of : List (List ℕ) → Option Line
count_of ws = option_map (λ p. count_line p.0) (next (number_of MAX_U32) (only (word (codes "channels"))) ws)

-- the last line
unfoldable pub end_of : List (List ℕ) → Option Line
end_of ws = option_map (λ u. end_line) (no_more ws)

-- the line of a keyword and a word
unfoldable pub word_line : List ℕ → List ℕ → Option Line
word_line k w =
    if bytes_eq k (codes "mmplan") then option_map title_line (form_said w)
    else if bytes_eq k (codes "loss") then option_map loss_line (number_of MAX_U64 w)
    else if bytes_eq k (codes "bound") then option_map bound_line (signed_of w)
    else if bytes_eq k (codes "first") then option_map first_line (number_of MAX_U32 w)
    else None

-- the line with these words
unfoldable pub line_of : List (List ℕ) → Option Line
line_of [] = None
line_of (k ∷ ws) =
    if bytes_eq k (codes "stores") then stores_of ws
    else if bytes_eq k (codes "dump") then dump_of ws
    else if bytes_eq k (codes "stretch") then stretch_of ws
    else if bytes_eq k (codes "count") then count_of ws
    else if bytes_eq k (codes "end") then end_of ws
    else only (word_line k) ws

-- what was read of a text: the line whose text it is, or none where it is no line's
abbrev pub IsRead : List ℕ → Option Line → Type 0
IsRead text (Some x) = IsLine x × (text ≡ line_text x)
IsRead text None = (x : Line) → IsLine x → text ≢ line_text x

-- ---- what has been read so far

-- what the lines so far say
pub record ReadRows : Type 0 where
  pub stores : List (List ℕ)
  pub plan : Table
  -- those that have been read to their bounds, that of all stores first
  pub certificates : List CertificateRows
  -- of the certificate that is being read
  pub loss : ℕ
  pub cut : List Stretch
  pub by_channels : List ℕ

-- the stage says which line comes next
pub record DraftRows : Type 0 where
  pub stage : Stage
  pub form : Form
  pub rows : ReadRows

-- nothing is said yet
abbrev pub no_rows : ReadRows
no_rows =
    let no_plan : Table = record { stores = 0; steps = 0; amounts = [] } in
    record { stores = []; plan = no_plan; certificates = []; loss = 0; cut = []; by_channels = [] }

-- nothing has been read
abbrev pub start : DraftRows
start = record { stage = ToTitle; form = First; rows = no_rows }

-- whether the plan serves the stores in order
abbrev pub is_third : Form → Bool
is_third Third = true
is_third _ = false

-- whether steps may be counted by channels
abbrev pub may_count : Form → Bool
may_count First = false
may_count _ = true

-- whether a certificate of the form has that many counts
abbrev pub fits_form : Form → ℕ → Bool
fits_form First n = n == 0
fits_form Second n = nat_lt 0 n
fits_form Third n = true

-- whether the certificate of that many stores comes next
abbrev pub may_begin : Form → ℕ → ReadRows → Bool
may_begin f k s = is_third f && (k == length s.certificates) && nat_lt (length s.certificates) (length s.stores)

-- whether no certificate of the first stores is to come
abbrev pub has_all : Form → ReadRows → Bool
has_all f s = not (is_third f) || (length s.certificates == length s.stores)

-- whether the line may come next
abbrev pub may_follow : Stage → Form → ReadRows → Line → Bool
may_follow ToTitle f s (title_line g) = true
may_follow ToStores f s (stores_line ids) = nat_lt 0 (length ids) && nat_le (length ids) MAX_STORES
may_follow ToDumps f s (dump_line t xs) = (t == s.plan.steps + 1) && (length xs == length s.stores)
may_follow ToDumps f s (loss_line n) = nat_lt 0 s.plan.steps
may_follow ToLoss f s (loss_line n) = true
may_follow ToCut f s (stretch_line d) = nat_lt (length s.cut) MAX_STRETCHES && (length s.by_channels == 0)
may_follow ToCut f s (count_line t) = may_count f && nat_lt (length s.by_channels) MAX_COUNTS
may_follow ToCut f s (bound_line z) = fits_form f (length s.by_channels)
may_follow ToEnd f s (first_line k) = may_begin f k s
may_follow ToEnd f s end_line = has_all f s
may_follow _ f s x = false

-- the certificate that has been read to its bound
abbrev pub part_of : ReadRows → ℤ → CertificateRows
part_of s z = record { loss = s.loss; cut = s.cut; by_channels = s.by_channels; bound = z }

-- one certificate more
abbrev pub with_part : ReadRows → CertificateRows → ReadRows
with_part s c = record s { certificates = s.certificates ++ c ∷ []; loss = 0; cut = []; by_channels = [] }

-- the draft after a line
abbrev pub after : DraftRows → Line → DraftRows
after d (title_line f) = record d { stage = ToStores; form = f }
after d (stores_line ids) =
    let plan = record d.rows.plan { stores = length ids } in
    record d { stage = ToDumps; rows = record d.rows { stores = ids; plan = plan } }
after d (dump_line t xs) =
    record d { rows = record d.rows { plan = record d.rows.plan { steps = t; amounts = d.rows.plan.amounts ++ xs } } }
after d (loss_line n) = record d { stage = ToCut; rows = record d.rows { loss = n; cut = []; by_channels = [] } }
after d (stretch_line e) = record d { rows = record d.rows { cut = d.rows.cut ++ e ∷ [] } }
after d (count_line t) = record d { rows = record d.rows { by_channels = d.rows.by_channels ++ t ∷ [] } }
after d (bound_line z) = record d { stage = ToEnd; rows = with_part d.rows (part_of d.rows z) }
after d (first_line k) = record d { stage = ToLoss }
after d end_line = record d { stage = Done }

-- the certificates after the first, in the third form
abbrev pub firsts_in : Form → List CertificateRows → Option (List CertificateRows)
firsts_in Third cs = Some (drop 1 cs)
firsts_in _ cs = None

-- no certificate
abbrev no_part : CertificateRows
no_part = record { loss = 0; cut = []; by_channels = []; bound = pos 0 }

-- the sheet that has been read
abbrev pub sheet_of : DraftRows → SheetRows
sheet_of d =
    let own = slice_index_or d.rows.certificates 0 no_part in
    record {
      stores = d.rows.stores;
      plan = d.rows.plan;
      loss = own.loss;
      cut = own.cut;
      by_channels = own.by_channels;
      bound = own.bound;
      firsts = firsts_in d.form d.rows.certificates;
    }

-- a line with this text may come next, and was added
pub record IsTaken (d : DraftRows) (text : List ℕ) (e : DraftRows) : Type 0 where
  pub line : Line
  pub is : IsLine line
  pub text_is : text ≡ line_text line
  pub follows : may_follow d.stage d.form d.rows line ≡ true
  pub added : e ≡ after d line

-- no line with this text may come next
abbrev pub IsRefused : DraftRows → List ℕ → Type 0
IsRefused d text = (x : Line) → IsLine x → text ≡ line_text x → may_follow d.stage d.form d.rows x ≡ false
