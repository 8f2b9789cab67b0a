use Rattle.std.proofs.Common.{vec_capacity}
use Rattle.mm_carry.proofs.Words.{amount, orders_of, ◌≡◌, ◌≤◌, vec_len}
use Rattle.mm_carry.proofs.orders.list_orders.Given as goal

abbrev pub invariant-loop-store : goal.invariant-loop-store
invariant-loop-store l = (l.orders.items ≡ orders_of (amount l.plan) l.places l.step l.store)
    × (vec_len l.orders ≤ l.store) × (vec_capacity l.orders ≡ vec_capacity l.initial.orders)
