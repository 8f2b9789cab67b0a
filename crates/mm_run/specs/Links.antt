-- What a text of links says.
use Rattle.std.specs.Prelude.{◌≡◌, ℕ, ◌+◌, ◌-◌, ◌≤◌, ◌==◌, List, [], ◌∷◌, ◌++◌, length, map, filter, codes}
use Rattle.std.specs.Prelude.{slice_index_or, Result, Ok, Err}
use Rattle.std.specs.Option.{ok_or}
use Rattle.std.specs.Str.{bytes_eq}
use Rattle.mm_base.specs.Reading.{◌>>=◌, test}
use Rattle.mm_run.specs.Types.{ScriptFault, ScriptedLink}
use Rattle.mm_run.specs.declared.script_fault.ScriptFault.TheVariants.{LinksText}
use Rattle.mm_run.specs.declared.link.Failing.{Failing}
use Rattle.mm_run.specs.declared.link.TheConstants.{MAX_WRITTEN, MAX_SEND}
use Rattle.mm_run.specs.LinkView.{new_link}
use Rattle.mm_base.specs.Lines.{file_lines, cut_word}
use Rattle.mm_run.specs.Words.{number_in}

-- the number of links that a line `links N` says
unfoldable pub count_at : ScriptFault → List ℕ → Result ℕ ScriptFault
count_at bad line = do
  parts ← ok_or (cut_word line) bad
  word ← test (bytes_eq parts.0 (codes "links")) bad
  number_in bad 0 MAX_WRITTEN parts.1

-- what a line `fail LINK SEND` says, where there are this many links
unfoldable pub failing_at : ScriptFault → ℕ → List ℕ → Result Failing ScriptFault
failing_at bad count line = do
  front ← ok_or (cut_word line) bad
  word ← test (bytes_eq front.0 (codes "fail")) bad
  back ← ok_or (cut_word front.1) bad
  link ← number_in bad 1 count back.0
  send ← number_in bad 1 MAX_SEND back.1
  Ok (record { link = link; send = send })

-- what the lines say after these, of which the first has this number
abbrev pub with_failing : ℕ → ℕ → List Failing → List (List ℕ) → Result (List Failing) ScriptFault
with_failing count k earlier [] = Ok earlier
with_failing count k earlier (line ∷ lines) = do
  failing ← failing_at (LinksText k) count line
  with_failing count (k + 1) (earlier ++ failing ∷ []) lines

-- how many links there are, and which of their sends fail
pub record Linked : Type 0 where
  pub count : ℕ
  pub failing : List Failing

-- how many links there are, as the first line says, which must be there, and what the lines after it say of them
abbrev pub linked_in : List (List ℕ) → Result Linked ScriptFault
linked_in [] = Err (LinksText 1)
linked_in (line ∷ lines) = do
  count ← count_at (LinksText 1) line
  failing ← with_failing count 2 [] lines
  Ok (record { count = count; failing = failing })

-- what a text of links says, or the first line that is refused
unfoldable pub linked_of : List ℕ → Result Linked ScriptFault
linked_of text = linked_in (file_lines text)

-- which sends of the link of this number fail
abbrev pub sends_of : ℕ → List Failing → List ℕ
sends_of n failing = map (λ f. f.send) (filter (λ f. f.link == n) failing)

-- these are the links of the lines, before the first send
pub record AreLinked (linked : Linked) (links : List ScriptedLink) : Type 0 where
  pub many : length links ≡ linked.count
  pub each : (n : ℕ) → 1 ≤ n → n ≤ linked.count
      → slice_index_or links (n - 1) new_link ≡ record new_link { failing = sends_of n linked.failing }

-- these are this many links, which fail as the lines from line 2 on say
abbrev pub AreFailing : ℕ → List ℕ → List ScriptedLink → Type 0
AreFailing count text links =
    (failing : List Failing) × (with_failing count 2 [] (file_lines text) ≡ Ok failing)
    × AreLinked (record { count = count; failing = failing }) links

-- these are the links that the text says
abbrev pub SaysLinks : List ℕ → List ScriptedLink → Type 0
SaysLinks text links = (linked : Linked) × (linked_of text ≡ Ok linked) × AreLinked linked links
