-- The kinds of packet stores.
use Rattle.std.specs.Prelude.{◌≡◌, ℕ, ◌<◌, List, codes, Result, MatchResult}
use Rattle.mm_base.specs.declared.kind.Kind.{Kind}
use Rattle.mm_base.specs.declared.kind.Kind.TheVariants.{Circular, Bounded}
use Rattle.mm_base.specs.declared.fault.Fault.{Fault}
use Rattle.mm_base.specs.declared.fault.Fault.TheVariants.{BadEnum}

-- the code of a kind in a telecommand
abbrev pub code_of : Kind → ℕ
code_of Circular = 0
code_of Bounded = 1

-- the result is the kind with this code, or `BadEnum` if no kind has the code
abbrev pub DecodesKind : ℕ → Result Kind Fault → Type 0
DecodesKind code r = MatchResult r (λ kind. code_of kind ≡ code) (λ e. (e ≡ BadEnum) × (1 < code))

-- the word for a kind in a setup
abbrev pub word_of : Kind → List ℕ
word_of Circular = codes "circular"
word_of Bounded = codes "bounded"
