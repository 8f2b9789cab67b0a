-- `put` gives the handle what the parts owned.
use Rattle.mm_c.proofs.Words.{◌≡◌, List, [], ◌∷◌, ◌++◌, refl, Option, Some, None, proved_at, SProp, full_share, ftrue}
use Rattle.mm_c.proofs.Words.{flft, Val, vptr, vunit, vstruct, vcons, vnil, WpFn, fact, tables, ‵, raw, ◌⊛◌, prop, ◌$◌}
use Rattle.mm_c.proofs.Words.{◌∵◌, !, qed, done, move, keep, split, join, fsplit, fsplit3, rewrite, regoal, suffices}
use Rattle.mm_c.proofs.Words.{frame, group, feq_i, enter, of_opd, unit_lit, stop, fld, returns, assigns, alloc_all}
use Rattle.mm_c.proofs.Words.{pass_all, free_all, look_at, get, get_in, through, sets, whole, sub, store_in, shows}
use Rattle.mm_c.proofs.Words.{cell_at, RattleType, owns, block_ptr, plain, types_at, opens, closes, peeks, heard}
use Rattle.mm_c.proofs.Words.{nothing, Stays, walk_of, says, stay_ref, stay_dropped, Goes-ref, ends_at, Goes-blank}
use Rattle.mm_c.proofs.Words.{ghosts, loose_owns, Serving, Inner}
use Rattle.mm_c.proofs.Values.{both, Parts, loose_good, loose_out, held_in}
use Rattle.mm_c.proofs.handle.Loose.TheLaws.{lowers}
use Rattle.mm_c.proofs.handle.Loose.put.Statement.{statement}
use Rattle.std.proofs.alloc.Global.TheLaws as global_laws
use Rattle.std.specs.contracts.alloc.Global as global
use Rattle.mm_c.specs.contracts.handle.Loose as loose
use Rattle.mm_c.specs.contracts.handle.Loose.put as f
use Rattle.mm_c.proofs.handle.Loose.put.Code as code

abbrev R : RattleType
R = loose.the_row

abbrev P : RattleType
P = Parts Inner global.the_row global_laws.the_row_laws ghosts

abbrev stayed : Stays f.ended.signature.params f.ended.kept
stayed = (stay_ref (0 ∷ []) tt (plain (λ _. R)), (stay_dropped (plain (λ _. P)) f.ended.kept.1.0, tt))

pub put_spec : {M : Type 1} → statement M
put_spec 𝓤 𝓛 𝓜 𝓡 wired =
    let c = f.clauses 𝓛 𝓜.mem 𝓡.returns in let W = walk_of 𝓛 f.ended stayed c in let 𝓣 = tables 𝓤 𝓛.H 𝓜 𝓡 𝓡.env in
    proved_at 𝓛 f.ended stayed c 𝓜 𝓡
    (Goes-ref 𝓛 1 0 tt (plain (λ _. R)), (Goes-blank 𝓛 1 (plain (λ _. P)) f.ended.kept.1.0 (λ κs x f. tt), tt))
    f.Key.name code.function (code.unfolded 𝓤 𝓛.H 𝓜 𝓡 wired)
    (λ z are.
    let κ = z.0.0.0 in let q = z.0.1.0 in let r = z.0.3.0 in let h = r.now in let b = r.ref_ptr.0 in let o = r.ref_ptr.1
    in let v = z.0.3.1.0 in
    let Post : Val → SProp 𝓤 = W.post z in
    qed 𝓛 (((‵ (flft κ q) ⊛ ‵ ftrue) ⊛ ‵ (owns (types_at f.ended.signature.params z.0.0) z.0.3 z.0.4)) ∷ raw
    (fact 𝓤 (h.service ≡ None)) ∷ []) ∵
    move ! (1 ∷ []) $ heard ! _ (λ closed.
    split ! $ split ! $ move ! (2 ∷ []) $ fsplit ! $ move ! (1 ∷ []) $ fsplit ! $
    loose_out Inner global.the_row global_laws.the_row_laws ghosts ! v z.0.4.1.0 (λ b' o' hv at ws fits.
    keep ! (0 ∷ 1 ∷ 3 ∷ 4 ∷ []) $
    -- [the box; the allocator; self; the token]
    regoal ! (λ (us : List Val). prop (WpFn 𝓤 𝓛.H 𝓣.C 𝓣.Λ code.function us Post)) (λ i. are.0.0 i ++ (ws i ++ [])) refl
    $
    enter ! 𝓣.C 𝓣.Λ code.function (vptr b o ∷ both (vptr b' o') hv ∷ []) Post $
    alloc_all ! (λ l. pass_all ! refl
    ((tt, tt), (loose_good Inner global.the_row global_laws.the_row_laws ghosts b' o' hv fits, tt)) $
    move ! (2 ∷ []) $ fsplit3 ! $ move ! (1 ∷ 2 ∷ 5 ∷ []) $ opens ! tt R b o (λ us.
    move ! (1 ∷ []) $ peeks ! R _ (shows 𝓛 R) h us (λ is. fsplit ! $ move ! (1 ∷ []) $
    rewrite ! 0 (λ (i : Option Serving). ‵ (loose_owns (ghosts.dealloc_token h.heap) h.at i)) closed refl $
    -- [nothing; what its field owns; its cell; the open borrow, in three entries; self's first part; the box; the
    -- allocator]
    let word = lowers.val_is h us is in
    let Cell = λ (ws : List Val). ‵ (cell_at full_share R.mir ws b o) in
    let d : R.Denot = record h { at = block_ptr b' o'; heap = v.alloc; service = Some v.value } in
    rewrite ! 2 Cell word refl $
    sets ! (of_opd ! (get_in ! (fld ! refl (stop !)) (sub ! 0 refl (whole !)))) refl (tt, tt) $
    sets ! (of_opd ! (get ! refl)) refl (tt, tt) $
    assigns ! (of_opd ! (get ! refl)) (through ! refl (fld ! refl (stop !)))
    (store_in ! 2 (sub ! 0 refl (whole !)) (tt, tt)) $
    sets ! (of_opd ! (unit_lit !)) refl (tt, tt) $
    move ! (7 ∷ []) $ held_in ! b' o' v.alloc v.value $
    -- [what self owns; nothing; what its field owned; its cell; the open borrow; self's first part; the allocator]
    move ! (3 ∷ 0 ∷ 4 ∷ 5 ∷ 6 ∷ []) $ closes ! tt R d (vstruct (vcons (vptr b' o') vnil) ∷ []) b o $
    -- [two parts of self; the token; nothing; what its field owned; self's first part; the allocator]
    returns ! (look_at ! 0 refl) $ free_all ! refl $ keep ! (5 ∷ 0 ∷ 1 ∷ 2 ∷ []) $
    suffices ! _ (ends_at 𝓛 f.ended stayed c z vunit tt (d, (tt, tt)) (tt, (tt, tt))) $
    says ! refl $
    group ! 3 $ nothing ! $ nothing ! $ join ! $ move ! (1 ∷ 0 ∷ []) $ join ! $ nothing ! $ move ! (2 ∷ 0 ∷ []) $ join !
    $ frame ! $ frame ! $
    feq_i ! _ (vunit ∷ []) _ refl $ done !))))))
