-- `clear` leaves a null pointer, which owns nothing.
use Rattle.mm_c.proofs.Words.{◌≡◌, List, [], ◌∷◌, ◌++◌, refl, lit<, Option, Some, None, proved_at, SProp, full_share}
use Rattle.mm_c.proofs.Words.{ftrue, flft, Val, vptr, vunit, vstruct, vcons, vnil, WpFn, fact, tables, ‵, raw, ◌⊛◌}
use Rattle.mm_c.proofs.Words.{prop, ◌$◌, ◌∵◌, !, qed, done, move, keep, split, join, fsplit, fsplit3, rewrite, regoal}
use Rattle.mm_c.proofs.Words.{suffices, frame, group, feq_i, enter, of_opd, unit_lit, lit, stop, fld, returns, assigns}
use Rattle.mm_c.proofs.Words.{alloc_all, pass_all, free_all, look_at, get, through, sets, whole, sub, store_in, shows}
use Rattle.mm_c.proofs.Words.{cell_at, RattleType, owns, null_ptr, ptr_val, plain, types_at, opens, closes, peeks}
use Rattle.mm_c.proofs.Words.{heard, nothing, Stays, walk_of, says, stay_ref, Goes-ref, ends_at, ghosts, loose_owns}
use Rattle.mm_c.proofs.Words.{Serving}
use Rattle.mm_c.proofs.Values.{null_in}
use Rattle.mm_c.proofs.handle.Loose.TheLaws.{lowers}
use Rattle.mm_c.proofs.handle.Loose.clear.Statement.{statement}
use Rattle.mm_c.specs.contracts.handle.Loose as loose
use Rattle.mm_c.specs.contracts.handle.Loose.clear as f
use Rattle.mm_c.proofs.handle.Loose.clear.Code as code

abbrev R : RattleType
R = loose.the_row

abbrev stayed : Stays f.ended.signature.params f.ended.kept
stayed = (stay_ref (0 ∷ []) tt (plain (λ _. R)), tt)

pub clear_spec : {M : Type 1} → statement M
clear_spec 𝓤 𝓛 𝓜 𝓡 wired =
    let c = f.clauses 𝓛 𝓜.mem 𝓡.returns in let W = walk_of 𝓛 f.ended stayed c in let 𝓣 = tables 𝓤 𝓛.H 𝓜 𝓡 𝓡.env in
    proved_at 𝓛 f.ended stayed c 𝓜 𝓡 (Goes-ref 𝓛 1 0 tt (plain (λ _. R)), tt)
    f.Key.name code.function (code.unfolded 𝓤 𝓛.H 𝓜 𝓡 wired)
    (λ z are.
    let κ = z.0.0.0 in let q = z.0.1.0 in let r = z.0.3.0 in let h = r.now in
    let b = r.ref_ptr.0 in let o = r.ref_ptr.1 in
    let Post : Val → SProp 𝓤 = W.post z in
    qed 𝓛 (((‵ (flft κ q) ⊛ ‵ ftrue) ⊛ ‵ (owns (types_at f.ended.signature.params z.0.0) z.0.3 z.0.4))
    ∷ raw (fact 𝓤 (h.service ≡ None)) ∷ []) ∵
    move ! (1 ∷ []) $ heard ! _ (λ closed.
    split ! $ split ! $ move ! (2 ∷ []) $ fsplit ! $ keep ! (0 ∷ 2 ∷ []) $
    -- [self; the token]
    regoal ! (λ (us : List Val). prop (WpFn 𝓤 𝓛.H 𝓣.C 𝓣.Λ code.function us Post)) (λ i. are.0.0 i ++ []) refl $
    enter ! 𝓣.C 𝓣.Λ code.function (vptr b o ∷ []) Post $
    alloc_all ! (λ l. pass_all ! refl ((tt, tt), tt) $
    fsplit3 ! $ move ! (1 ∷ 2 ∷ 3 ∷ []) $ opens ! tt R b o (λ us.
    move ! (1 ∷ []) $ peeks ! R _ (shows 𝓛 R) h us (λ is. fsplit ! $ move ! (1 ∷ []) $
    rewrite ! 0 (λ (i : Option Serving). ‵ (loose_owns (ghosts.dealloc_token h.heap) h.at i)) closed refl $
    -- [nothing; what its field owns; its cell; the open borrow, in three entries; self's first part]
    let word = lowers.val_is h us is in
    let Cell = λ (ws : List Val). ‵ (cell_at full_share R.mir ws b o) in
    let d : R.Denot = record { at = null_ptr; heap = h.heap; service = None } in
    rewrite ! 2 Cell word refl $
    assigns ! (of_opd ! (lit ! tt)) (through ! refl (fld ! refl (stop !)))
    (store_in ! 2 (sub ! 0 refl (whole !)) (tt, record { fits = lit< tt })) $
    sets ! (of_opd ! (unit_lit !)) refl (tt, tt) $
    null_in ! h.heap $
    -- [what self owns; nothing; what its field owned; its cell; the open borrow; self's first part]
    move ! (3 ∷ 0 ∷ 4 ∷ 5 ∷ 6 ∷ []) $ closes ! tt R d (vstruct (vcons (ptr_val null_ptr) vnil) ∷ []) b o $
    -- [two parts of self; the token; nothing; what its field owned; self's first part]
    returns ! (look_at ! 0 refl) $ free_all ! refl $ keep ! (5 ∷ 0 ∷ 1 ∷ 2 ∷ []) $
    suffices ! _ (ends_at 𝓛 f.ended stayed c z vunit tt (d, tt) (tt, tt)) $
    says ! (refl, refl) $
    group ! 3 $ nothing ! $ move ! (1 ∷ 0 ∷ []) $ join ! $ nothing ! $
    move ! (2 ∷ 0 ∷ []) $ join ! $ frame ! $ frame ! $
    feq_i ! _ (vunit ∷ []) _ refl $ done !)))))
