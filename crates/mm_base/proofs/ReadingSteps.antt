-- The steps of a reading that succeeds.
use Rattle.std.proofs.Common.{◌≡◌, Bool, true, false, cond, Option, Some, None, Result, Ok, Err, refl}
use Rattle.std.specs.Option.{ok_or}
use Rattle.mm_base.specs.Reading.{◌>>=◌, test}

-- if a step and the steps after it succeed, the step succeeds, and so do those after it
pub bind_ok : {F A B : Type 0} (r : Result A F) (f : A → Result B F) (y : B) → (r >>= f) ≡ Ok y
    → (x : A) × (r ≡ Ok x) × (f x ≡ Ok y)
bind_ok (Ok x) f y h = (x, refl, h)
bind_ok (Err e) f y h = absurd (cc)

-- a test that succeeds has passed
pub test_ok : {F : Type 0} (b : Bool) (e : F) (u : Unit {0}) → test b e ≡ Ok u → b ≡ true
test_ok true e u h = refl
test_ok false e u h = absurd (cc)

-- if ok_or succeeds, the value is there
pub ok_or_ok : {F A : Type 0} (o : Option A) (e : F) (x : A) → ok_or o e ≡ Ok x → o ≡ Some x
ok_or_ok None e x h = absurd (cc)
ok_or_ok (Some y) e x h = cc

-- if a choice between a value and a fault succeeds, the test holds and the value is the result
pub cond_ok : {F A : Type 0} (b : Bool) (x : A) (e : F) (y : A) → cond b (Ok x) (Err e) ≡ Ok y → (b ≡ true) × (x ≡ y)
cond_ok true x e y h = (refl, cc)
cond_ok false x e y h = absurd (cc)

-- two equal results have equal values
pub ok_same : {F A : Type 0} (x y : A) → ◌≡◌ {A = Result A F} (Ok x) (Ok y) → x ≡ y
ok_same x y h = cc
