-- Reading in steps, which gives the value or the first fault.
use Rattle.std.specs.Prelude.{◌≡◌, ◌≢◌, Bool, true, false, Result, Ok, Err}

-- the result of the first step passed to the next step, or the fault of the first step
infixl 10 ◌>>=◌
abbrev pub ◌>>=◌ : {F A B : Type 0} → Result A F → (A → Result B F) → Result B F
(Ok x) >>= f = f x
(Err e) >>= f = Err e

-- a step that succeeds if the test holds, and ends in this fault if it does not
abbrev pub test : {F : Type 0} → Bool → F → Result (Unit {0}) F
test true fault = Ok tt
test false fault = Err fault

-- the result of a function, its value seen by view, is the result of its definition; if the function returns the fault
-- `lacks`, which means out of memory, the fact says nothing of the definition
abbrev pub Gives : {F X Y : Type 0} → F → (X → Y) → Result X F → Result Y F → Type 0
Gives lacks view (Ok x) given = given ≡ Ok (view x)
Gives lacks view (Err e) given = e ≢ lacks → given ≡ Err e

-- if the result is a refusal other than out of memory, P holds of the refusal
abbrev pub IfRefused : {F X : Type 0} → F → Result X F → (F → Type 0) → Type 0
IfRefused lacks (Ok x) P = Unit {0}
IfRefused lacks (Err e) P = e ≢ lacks → P e
