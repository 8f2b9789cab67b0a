-- The packet that a retrieval lends, and the state once it is given back.
use Rattle.std.specs.Prelude.{◌≡◌, ℕ, ⊤, Option, Result, Ok, Err}
use Rattle.std.specs.Borrow.{Bor, MutBor, Fml, follows_so}
use mathlib.Core.Option.{none}
use Rattle.mm_desk.specs.Types.{SpacePacket, Stored, Next, Fault}
use Rattle.mm_store.specs.Content.{shown}
use Rattle.mm_desk.specs.declared.reply.Reply.TheVariants.{Given}
use Rattle.mm_desk.specs.contracts.state.StoreState.{the_row}
use Rattle.mm_desk.specs.Machine.{State, step}

-- what a lent packet and its time show
abbrev pub given_shown : Result (Option (ℕ × Bor SpacePacket)) Fault → Result (Option Stored) Fault
given_shown (Ok lent) = Ok (shown lent)
given_shown (Err fault) = Err fault

-- what is lent is the machine's reply, and once it is given back the state is the one that the machine leaves
abbrev pub LendsNext : MutBor State → Result (Option (ℕ × Bor SpacePacket)) Fault → Fml
LendsNext s lent =
    follows_so the_row the_row s.ghost_name none (λ _ _. ⊤) (λ left. step s.now Next ≡ (Given (given_shown lent), left))
