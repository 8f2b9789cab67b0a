-- Lists that are appended one after another.
use Rattle.std.proofs.Common.{◌≡◌, List, ◌++◌, append_assoc}

-- three lists appended to a fourth, where each is known by an equation
pub appended_thrice : {A : Type 0} (old a b c x y z one two all : List A) → x ≡ a → y ≡ b → z ≡ c → one ≡ old ++ x → two ≡ one ++ y → all ≡ two ++ z → all ≡ old ++ (a ++ b ++ c)
appended_thrice {A = A} old a b c x y z one two all x-is y-is z-is one-is two-is all-is =
    let whole : all ≡ ((old ++ a) ++ b) ++ c = cc in
    rw whole (simp append_assoc)
