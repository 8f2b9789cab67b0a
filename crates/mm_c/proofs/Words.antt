-- The words that the proofs of this crate share: of the program logic, of std, of the crates below, and of its
-- definitions.
pub use Rattle.std.proofs.BoxSteps.Steps.{box_in, box_out}
pub use Rattle.std.proofs.Common.{IsSome, List, None, Option, Some, [], ap, arith, get_or, inl, inr, length, lit<, refl}
pub use Rattle.std.proofs.Common.{rules, subst, sym, true≢false, ℕ, ◌++◌, ◌-◌, ◌<◌, ◌∙◌, ◌∷◌, ◌≡◌, ◌≤◌}
pub use Rattle.std.proofs.alloc.Calls.{Al, Goes-blank, handle_tells}
pub use Rattle.std.proofs.cell.Inside.{Good}
pub use Rattle.std.proofs.raw_atomic.Walks.{leaves, proved_at}
pub use Rattle.std.specs.Box.Ownership.{box_owns}
pub use Rattle.std.specs.contracts.impls.GlobalAllocator.TheImpl.{ghosts}
pub use Rattle.mm_base.specs.declared.limits.TheConstants.{MAX_STORES}
pub use Rattle.mm_plan.specs.Table.{Table, amount}
pub use Rattle.mm_plan.specs.Volumes.{Amounts, loss, store_loss}
pub use Rattle.mm_service.specs.Serving.{Serving}
pub use Rattle.mm_service.specs.contracts.service.Service.{the_row as Inner}
pub use base.Fml.{flft, fsep, ftrue}
pub use base.Fraction.{full_share}
pub use base.Logic.{SProp, emp, ent, fst∗, id⊢, never}
pub use contract.Monad.{fact, fact_i}
pub use contract.Running.{tables}
pub use denote.Builtin.{RawPtr}
pub use denote.Exit.{no}
pub use denote.Laws.{shows}
pub use denote.Memory.{cell_at, lone}
pub use denote.Param.{bounded, layout, param}
pub use denote.Param.Laws.{Laws, param_laws}
pub use denote.RattleType.{RattleType, Valss, owns}
pub use denote.RawPtr.{Ptr, block_ptr, in_a_block, null_ptr, ptr_val}
pub use denote.Signature.{plain, types_at}
pub use denote.Steps.{closes, heard, nothing, only, opens, peeks}
pub use denote.Struct.Owning.{shape}
pub use denote.Struct.Struct.{within}
pub use denote.Triple.Call.{calls_at, calls_at_last}
pub use denote.Triple.Spec.{triple_of}
pub use denote.Triple.Table.{framed}
pub use denote.Triple.Walked.{Goes-ref, Stays, ends_at, says, stay_dropped, stay_ref, walk_of}
pub use mir.MapTy.{inst_fn}
pub use mir.Raw.{raw as bare}
pub use mir.Syntax.{a_type, dcons, dnil, impl, tnil}
pub use mir.Val.{Val, WT, has_ty, of_list, vcons, vnil, vptr, vstruct, vunit}
pub use prog.Wp.{WpFn}
pub use seplogic.Ra.Ura.{Ura}
pub use types.ByLocal.{alloc_all, env, free_all, get, get_in, lands_as, lands_last, look_at, pass_all, sets, through}
pub use types.Kit.{ !, Goal, Item, Seq, Step, at_ret, await, by, done, drop, feq_i, feq_l, fjoin, fpack, fpick, frame}
pub use types.Kit.{fsplit, fsplit3, group, join, keep, later, move, pick, prop, qed, raw, regoal, rewrite, some, split}
pub use types.Kit.{split3, step, suffices, use0, use1, ‵, ◌$◌, ◌∵◌, ◌⊛◌}
pub use types.Logic.{Logic, sem}
pub use types.Part.{agg, look_in, store_in, sub, whole}
pub use types.Run.{and_then, assigns, blocks, enter, exec, first, fld, lit, load, no_more, of_opd, returns, stop}
pub use types.Run.{unit_lit}
pub use Rattle.mm_c.specs.Losses.{PlansWithLosses, losses_in}
pub use Rattle.mm_c.specs.Owning.{loose_owns}
