-- The text of a plan with its certificate: what it says, its lines, and its octets.
use Rattle.std.specs.Prelude.{◌≡◌, ◌≢◌, ℕ, zero, suc, ◌+◌, ◌-◌, ◌<◌, ◌≤◌, ◌^◌, ℤ, Bool, true, false, nat_lt, Option}
use Rattle.std.specs.Prelude.{Some, None, List, [], ◌∷◌, ◌++◌, length, map, take, drop, All, IfSome, unwrap_or, codes}
use Rattle.std.specs.Prelude.{decimal, FitsSigned}
use Rattle.std.specs.Fmt.{signed_decimal}
use Rattle.std.specs.Int.{w64}
use Rattle.std.specs.List.{join_with_byte}
use Rattle.mm_base.specs.declared.limits.TheConstants.{MAX_STORES, MAX_STEPS, MAX_BLOCKS}
use Rattle.mm_problem.specs.Dumping.{Dumping}
use Rattle.mm_base.specs.Characters.{line_feed, space}
use Rattle.mm_base.specs.Id.{IsIdField, id_text}
use Rattle.mm_base.specs.Lines.{text_lines}
use Rattle.mm_plan.specs.declared.form.Form.{Form}
use Rattle.mm_plan.specs.declared.form.Form.TheVariants.{First, Second, Third}
use Rattle.mm_plan.specs.declared.stretch.Stretch.{Stretch}
use Rattle.mm_plan.specs.declared.stretch.TheConstants.{MAX_STRETCHES, MAX_COUNTS}
use Rattle.mm_plan.specs.Table.{Table, IsTable}

-- a loss, and a cut with its bound
pub record CertificateRows : Type 0 where
  pub loss : ℕ
  pub cut : List Stretch
  -- the inner steps that are counted by channels
  pub by_channels : List ℕ
  pub bound : ℤ

-- what a sheet says; each identifier as its field
pub record SheetRows : Type 0 where
  pub stores : List (List ℕ)
  pub plan : Table
  pub loss : ℕ
  pub cut : List Stretch
  -- the inner steps that are counted by channels
  pub by_channels : List ℕ
  pub bound : ℤ
  -- of the first store, of the first two and so on up to all but one, where the sheet says that the plan serves them in
  -- order
  pub firsts : Option (List CertificateRows)

-- a line of the text
pub data Line : Type 0 where
  title_line : Form → Line
  stores_line : List (List ℕ) → Line
  dump_line : ℕ → List ℕ → Line
  loss_line : ℕ → Line
  stretch_line : Stretch → Line
  count_line : ℕ → Line
  bound_line : ℤ → Line
  first_line : ℕ → Line
  end_line : Line

-- the word of a form
abbrev pub form_word : Form → List ℕ
form_word First = codes "1"
form_word Second = codes "2"
form_word Third = codes "3"

-- the words of a line
abbrev pub words : Line → List (List ℕ)
words (title_line f) = codes "mmplan" ∷ form_word f ∷ []
words (stores_line ids) = codes "stores" ∷ map id_text ids
words (dump_line t amounts) = codes "dump" ∷ decimal t ∷ map decimal amounts
words (loss_line n) = codes "loss" ∷ decimal n ∷ []
words (stretch_line d) = codes "stretch" ∷ id_text d.store ∷ decimal d.first ∷ decimal d.last ∷ []
words (count_line t) = codes "count" ∷ decimal t ∷ codes "channels" ∷ []
words (bound_line z) = codes "bound" ∷ signed_decimal z ∷ []
words (first_line k) = codes "first" ∷ decimal k ∷ []
words end_line = codes "end" ∷ []

-- a stretch of a well-formed identifier and steps below 2^32
pub record IsWritten (d : Stretch) : Type 0 where
  pub store : IsIdField d.store
  pub first : d.first < 2 ^ 32
  pub last : d.last < 2 ^ 32

-- a line of at most 18 words whose numbers and identifiers are within their ranges
abbrev pub IsLine : Line → Type 0
IsLine (title_line f) = Unit {0}
IsLine (stores_line ids) = (length ids ≤ 17) × All IsIdField ids
IsLine (dump_line t xs) = (t ≤ MAX_STEPS) × (length xs ≤ MAX_STORES) × All (λ n. n ≤ MAX_BLOCKS) xs
IsLine (loss_line n) = n < 2 ^ 64
IsLine (stretch_line d) = IsWritten d
IsLine (count_line t) = t < 2 ^ 32
IsLine (bound_line z) = FitsSigned w64 z
IsLine (first_line k) = k < 2 ^ 32
IsLine end_line = Unit {0}

-- the octets of a line: its words, with one space between two of them
unfoldable pub line_text : Line → List ℕ
line_text x = join_with_byte space (words x)

-- a line for each of k steps from step t on, with the amounts of n stores each
abbrev pub dump_lines : ℕ → ℕ → ℕ → List ℕ → List Line
dump_lines n t zero amounts = []
dump_lines n t (suc k) amounts = dump_line t (take n amounts) ∷ dump_lines n (t + 1) k (drop n amounts)

-- whether steps are counted by channels
abbrev pub has_counts : SheetRows → Bool
has_counts s = nat_lt 0 (length s.by_channels)

-- the third form where there are certificates of the first stores, else the second where there are counts
abbrev pub form_by : Option (List CertificateRows) → Bool → Form
form_by (Some firsts) b = Third
form_by None true = Second
form_by None false = First

-- the form of a sheet
abbrev pub form_of : SheetRows → Form
form_of s = form_by s.firsts (has_counts s)

-- the certificate of all stores
abbrev pub own : SheetRows → CertificateRows
own s = record { loss = s.loss; cut = s.cut; by_channels = s.by_channels; bound = s.bound }

-- that of all stores, and then those of the first stores
abbrev pub certificates_of : SheetRows → List CertificateRows
certificates_of s = own s ∷ unwrap_or s.firsts []

-- the lines of a certificate
unfoldable pub certificate_lines : CertificateRows → List Line
certificate_lines c =
    loss_line c.loss ∷ []
    ++ map stretch_line c.cut
    ++ map count_line c.by_channels
    ++ bound_line c.bound ∷ []

-- the line before the certificate of the first k stores; none before that of all stores, where k is 0
abbrev pub opening : ℕ → List Line
opening zero = []
opening (suc k) = first_line (suc k) ∷ []

-- the lines of the certificates from the k-th on
abbrev pub first_lines : ℕ → List CertificateRows → List Line
first_lines k [] = []
first_lines k (c ∷ cs) = opening k ++ certificate_lines c ++ first_lines (suc k) cs

-- the lines of a sheet
unfoldable pub lines_of : SheetRows → List Line
lines_of s =
    title_line (form_of s) ∷ stores_line s.stores ∷ []
    ++ dump_lines s.plan.stores 1 s.plan.steps s.plan.amounts
    ++ first_lines 0 (certificates_of s)
    ++ end_line ∷ []

-- the octets of a sheet: its lines, each with a line feed after it
unfoldable pub sheet_text : SheetRows → List ℕ
sheet_text s = join_with_byte line_feed (map line_text (lines_of s) ++ [] ∷ [])

-- a certificate within the limits of the text
pub record IsCertificate (c : CertificateRows) : Type 0 where
  pub cut : length c.cut ≤ MAX_STRETCHES
  pub counts : length c.by_channels ≤ MAX_COUNTS
  pub each_stretch : All IsWritten c.cut
  pub each_count : All (λ t. t < 2 ^ 32) c.by_channels
  pub loss : c.loss < 2 ^ 64
  pub bound : FitsSigned w64 c.bound

-- a certificate of the first store, of the first two and so on up to all but one, each within the limits of the text
pub record AreFirsts (stores : ℕ) (cs : List CertificateRows) : Type 0 where
  pub count : length cs + 1 ≡ stores
  pub each : All IsCertificate cs

-- a sheet within the limits of the text
pub record IsSheet (s : SheetRows) : Type 0 where
  pub firsts : IfSome s.firsts (AreFirsts (length s.stores))
  pub steps : s.plan.steps ≤ MAX_STEPS
  pub cut : length s.cut ≤ MAX_STRETCHES
  pub counts : length s.by_channels ≤ MAX_COUNTS
  pub plan : IsTable s.plan
  pub same_stores : s.plan.stores ≡ length s.stores
  pub each_store : All IsIdField s.stores
  pub each_stretch : All IsWritten s.cut
  pub each_count : All (λ t. t < 2 ^ 32) s.by_channels
  pub loss : s.loss < 2 ^ 64
  pub bound : FitsSigned w64 s.bound

-- the sheet's stores, in order, and its number of steps are the problem's
pub record IsShapedFor (q : Dumping) (s : SheetRows) : Type 0 where
  pub stores : s.stores ≡ map (λ r. r.id) q.rows
  pub steps : s.plan.steps ≡ length q.windows

-- these are the first lines of some sheet
abbrev pub Begins : List (List ℕ) → Type 0
Begins ls = (s : SheetRows) × IsSheet s × (more : List (List ℕ)) × (map line_text (lines_of s) ≡ ls ++ more)

-- the first line, from 1, that cannot stand there, or the one on which the text ends, where it is no sheet's
pub record IsFirstBadLine (text : List ℕ) (k : ℕ) : Type 0 where
  pub first : 1 ≤ k
  pub last : k ≤ length (text_lines text)
  pub before : Begins (take (k - 1) (text_lines text))
  pub here : k < length (text_lines text) → ¬ Begins (take k (text_lines text))
  pub no_sheet : (s : SheetRows) → IsSheet s → text ≢ sheet_text s

-- sheets of one text are one sheet
abbrev pub OneTextOneSheet : Type 0
OneTextOneSheet = (s r : SheetRows) → IsSheet s → IsSheet r → sheet_text s ≡ sheet_text r → s ≡ r
