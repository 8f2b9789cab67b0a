-- Where the blocks of an array lie, and what a write or a new chunk changes.
use Rattle.std.proofs.Common.{◌≡◌, ◌≢◌, ℕ, zero, suc, ◌*◌, ◌<◌, ◌≤◌, List, [], ◌∷◌, ◌++◌, length, set, slice_get}
use Rattle.std.proofs.Common.{Option, Some, IsSome, Vec, Global, refl, sym, ap, ◌∙◌, inl, inr, arith, length-set}
use Rattle.std.specs.Option.{option_and_then}
use Rattle.std.proofs.lemmas.Bool.{cases_eq, cases_lt, true≢false}
use Rattle.std.proofs.lemmas.Option.{slice_get_within, slice_get_past}
use Rattle.std.proofs.lemmas.List.{length_push}
use Rattle.mm_blocks.specs.declared.block.Block.{Block}
use Rattle.mm_blocks.specs.declared.layout.Layout.{Layout}
use Rattle.mm_blocks.specs.declared.layout.Layout.TheVariants.{Whole, Chunks}
use Rattle.mm_blocks.specs.declared.layout.TheConstants.{CHUNK}
use Rattle.mm_blocks.specs.Layout.{chunk_of, place_in, chunk_len, block_in, AreChunks}

module _ {A : Type 0} where
  -- one more item at the end
  pub slice_get-push : (xs : List A) (x : A) (k : ℕ) → k < length xs → slice_get (xs ++ x ∷ []) k ≡ slice_get xs k
  slice_get-push [] x k less = absurd (omega arith)
  slice_get-push (y ∷ xs) x zero less = refl
  slice_get-push (y ∷ xs) x (suc k) less = slice_get-push xs x k (omega arith)

  pub slice_get-last : (xs : List A) (x : A) (k : ℕ) → k ≡ length xs → slice_get (xs ++ x ∷ []) k ≡ Some x
  slice_get-last [] x zero at = refl
  slice_get-last [] x (suc k) at = absurd (omega arith)
  slice_get-last (y ∷ xs) x zero at = absurd (omega arith)
  slice_get-last (y ∷ xs) x (suc k) at = slice_get-last xs x k (omega arith)

  -- an item is there
  pub slice_get-some : (xs : List A) (k : ℕ) → k < length xs → (x : A) × (slice_get xs k ≡ Some x)
  slice_get-some [] k less = absurd (omega arith)
  slice_get-some (y ∷ xs) zero less = (y, refl)
  slice_get-some (y ∷ xs) (suc k) less = slice_get-some xs k (omega arith)

  -- a write
  pub slice_get-set_same : (xs : List A) (k : ℕ) (x : A) → k < length xs → slice_get (set xs k x) k ≡ Some x
  slice_get-set_same [] k x less = absurd (omega arith)
  slice_get-set_same (y ∷ xs) zero x less = refl
  slice_get-set_same (y ∷ xs) (suc k) x less = slice_get-set_same xs k x (omega arith)

  pub slice_get-set_other : (xs : List A) (k : ℕ) (x : A) (j : ℕ) → j ≢ k → slice_get (set xs k x) j ≡ slice_get xs j
  slice_get-set_other [] k x j other = refl
  slice_get-set_other (y ∷ xs) zero x zero other = absurd (other refl)
  slice_get-set_other (y ∷ xs) zero x (suc j) other = refl
  slice_get-set_other (y ∷ xs) (suc k) x zero other = refl
  slice_get-set_other (y ∷ xs) (suc k) x (suc j) other = slice_get-set_other xs k x j (λ same. other (ap suc same))

-- a place is within its chunk
pub place_within : (layout : Layout) (room place : ℕ) → place < room → place_in layout place < chunk_len layout room (chunk_of layout place)
place_within Whole room place less = less
place_within Chunks room place less = omega arith

-- and a place within its chunk is one of the array
pub place_of_chunk : (layout : Layout) (room place : ℕ) → place_in layout place < chunk_len layout room (chunk_of layout place) → place < room
place_of_chunk Whole room place less = less
place_of_chunk Chunks room place less = omega arith

-- no two places lie in one
pub one_place : (layout : Layout) (p q : ℕ) → chunk_of layout p ≡ chunk_of layout q → place_in layout p ≡ place_in layout q → p ≡ q
one_place Whole p q chunks places = places
one_place Chunks p q chunks places = omega arith

-- a chunk with room before it begins within the array
pub chunk_begins : (layout : Layout) (room chunks place : ℕ) → place < room → chunks ≤ chunk_of layout place
    → layout ≡ Chunks → chunks * CHUNK ≤ room
chunk_begins Whole room chunks place less past same = cc
chunk_begins Chunks room chunks place less past same = omega arith

is_some : {A : Type 0} (o : Option A) (x : A) → o ≡ Some x → IsSome o
is_some o x same = rw same refl

-- an array has the block at each place of its chunks, and at no other
pub has_block : (layout : Layout) (room : ℕ) (chunks : List (Vec Block Global)) (place : ℕ) → AreChunks layout room chunks
    → place < room → chunk_of layout place < length chunks → IsSome (block_in chunks (chunk_of layout place) (place_in layout place))
has_block layout room chunks place are less within =
    let chunk = slice_get-some chunks (chunk_of layout place) within in
    let len = are (chunk_of layout place) chunk.0 chunk.1 in
    let block = slice_get-some chunk.0.items (place_in layout place) (omega (arith, place_within layout room place less)) in
    rw (chunk.1, block.1) refl

pub has_place : (layout : Layout) (room : ℕ) (chunks : List (Vec Block Global)) (place : ℕ) → AreChunks layout room chunks
    → IsSome (block_in chunks (chunk_of layout place) (place_in layout place)) → (place < room) × (chunk_of layout place < length chunks)
has_place layout room chunks place are some =
    elim (cases_lt (chunk_of layout place) (length chunks)) [
      | inl within ↦ (within_room within, within)
      | inr past ↦ absurd (true≢false (sym (rw (slice_get_past chunks (chunk_of layout place) past) at some)))
    ]
  where
    within_room : chunk_of layout place < length chunks → place < room
    within_room within =
        let chunk = slice_get-some chunks (chunk_of layout place) within in
        let len = are (chunk_of layout place) chunk.0 chunk.1 in
        let here = rw chunk.1 at some in
        elim (cases_lt (place_in layout place) (length chunk.0.items)) [
          | inl less ↦ place_of_chunk layout room place (omega arith)
          | inr past ↦ absurd (true≢false (sym (rw (slice_get_past chunk.0.items (place_in layout place) past) at here)))
        ]

module _ (chunks : List (Vec Block Global)) (chunk place : ℕ) (old new : Vec Block Global) (block : Block)
    (here : slice_get chunks chunk ≡ Some old) (is : new.items ≡ set old.items place block) where
  -- a write to a block of a chunk
  pub block_in-here : place < length old.items → block_in (set chunks chunk new) chunk place ≡ Some block
  block_in-here within =
      let at_chunk : slice_get (set chunks chunk new) chunk ≡ Some new =
      slice_get-set_same chunks chunk new (slice_get_within chunks chunk old here) in
      rw (at_chunk, is) (slice_get-set_same old.items place block within)

  -- and the others stay
  pub block_in-other : (i j : ℕ) → (i ≡ chunk → j ≢ place) → block_in (set chunks chunk new) i j ≡ block_in chunks i j
  block_in-other i j other = elim (cases_eq i chunk) [ inl same ↦ in_chunk same | inr apart ↦ elsewhere apart ]
    where
      elsewhere : i ≢ chunk → block_in (set chunks chunk new) i j ≡ block_in chunks i j
      elsewhere apart = ap (option_and_then (λ blocks. slice_get blocks.items j)) (slice_get-set_other chunks chunk new i apart)

      in_chunk : i ≡ chunk → block_in (set chunks chunk new) i j ≡ block_in chunks i j
      in_chunk same =
          let at_chunk : slice_get (set chunks chunk new) chunk ≡ Some new =
          slice_get-set_same chunks chunk new (slice_get_within chunks chunk old here) in
          rw (same, at_chunk, here, is) (slice_get-set_other old.items place block j (other same))

  -- each chunk keeps its length
  pub chunks-written : (layout : Layout) (room : ℕ) → AreChunks layout room chunks → AreChunks layout room (set chunks chunk new)
  chunks-written layout room are i blocks at = elim (cases_eq i chunk) [
    | inl same ↦
        let at_chunk : slice_get (set chunks chunk new) chunk ≡ Some new =
        slice_get-set_same chunks chunk new (slice_get_within chunks chunk old here) in
        let written : Some new ≡ Some blocks = sym at_chunk ∙ ap (slice_get (set chunks chunk new)) (sym same) ∙ at in
        let one : new ≡ blocks = cc in
        ap (λ (v : Vec Block Global). length v.items) (sym one) ∙ ap length is ∙ length-set old.items place block
        ∙ are chunk old here ∙ ap (chunk_len layout room) (sym same)
    | inr apart ↦ are i blocks (sym (slice_get-set_other chunks chunk new i apart) ∙ at)
  ]

-- one more chunk
pub chunks-more : (layout : Layout) (room : ℕ) (chunks : List (Vec Block Global)) (new : Vec Block Global) → AreChunks layout room chunks
    → length new.items ≡ chunk_len layout room (length chunks) → AreChunks layout room (chunks ++ new ∷ [])
chunks-more layout room chunks new are len i blocks at = elim (cases_lt i (length chunks)) [
  | inl less ↦ are i blocks (sym (slice_get-push chunks new i less) ∙ at)
  | inr past ↦
      let within = slice_get_within (chunks ++ new ∷ []) i blocks at in
      let last : i ≡ length chunks = omega (arith, length_push chunks new) in
      let same : Some new ≡ Some blocks = sym (slice_get-last chunks new i last) ∙ at in
      let one : new ≡ blocks = cc in
      ap (λ (v : Vec Block Global). length v.items) (sym one) ∙ len ∙ ap (chunk_len layout room) (sym last)
]

pub block_in-more : (chunks : List (Vec Block Global)) (new : Vec Block Global) (i j : ℕ) → IsSome (block_in chunks i j)
    → block_in (chunks ++ new ∷ []) i j ≡ block_in chunks i j
block_in-more chunks new i j some = elim (cases_lt i (length chunks)) [
  | inl less ↦ ap (option_and_then (λ blocks. slice_get blocks.items j)) (slice_get-push chunks new i less)
  | inr past ↦ absurd (true≢false (sym (rw (slice_get_past chunks i past) at some)))
]
