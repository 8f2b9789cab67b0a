-- `take` gives the parts what the handle owned.
use Rattle.mm_c.proofs.Words.{◌≡◌, List, [], ◌∷◌, ◌++◌, refl, sym, ap, ◌∙◌, Option, Some, None, IsSome, true≢false}
use Rattle.mm_c.proofs.Words.{proved_at, SProp, fst∗, never, full_share, ftrue, flft, bare, impl, tnil, dnil, Val, vptr}
use Rattle.mm_c.proofs.Words.{vstruct, vcons, vnil, WpFn, fact, tables, sem, ‵, raw, ◌⊛◌, prop, ◌$◌, ◌∵◌, !, qed, done}
use Rattle.mm_c.proofs.Words.{move, keep, split, join, fsplit, fsplit3, fjoin, rewrite, regoal, suffices, frame, group}
use Rattle.mm_c.proofs.Words.{enter, of_opd, load, stop, fld, returns, and_then, no_more, whole, sub, look_in, agg}
use Rattle.mm_c.proofs.Words.{alloc_all, pass_all, free_all, look_at, get, through, sets, shows, cell_at, lone}
use Rattle.mm_c.proofs.Words.{RattleType, owns, Ptr, block_ptr, null_ptr, ptr_val, in_a_block, plain, types_at, nothing}
use Rattle.mm_c.proofs.Words.{opens, closes, peeks, heard, Stays, walk_of, says, stay_ref, stay_dropped, Goes-ref}
use Rattle.mm_c.proofs.Words.{ends_at, box_owns, Al, Goes-blank, handle_tells, ghosts, loose_owns, Serving, Inner}
use Rattle.mm_c.proofs.Values.{both, loose_good, loose_in}
use Rattle.mm_c.proofs.handle.Loose.TheLaws.{lowers}
use Rattle.mm_c.proofs.handle.Loose.take.Statement.{statement}
use Rattle.std.proofs.alloc.Global.TheLaws as global_laws
use Rattle.std.specs.contracts.alloc.Global as global
use Rattle.mm_c.specs.contracts.handle.Loose as loose
use Rattle.mm_c.specs.contracts.handle.Loose.take as f
use Rattle.mm_c.proofs.handle.Loose.take.Code as code

abbrev R : RattleType
R = loose.the_row

abbrev al : Al
al =
    record {
      row = global.the_row;
      laws = global_laws.the_row_laws;
      g = ghosts;
      d = impl [] tnil dnil;
      drops = impl []
          tnil dnil;
    }

abbrev stayed : Stays f.ended.signature.params f.ended.kept
stayed = (stay_ref (0 ∷ []) tt (plain (λ _. R)), (stay_dropped (plain (λ _. global.the_row)) f.ended.kept.1.0, tt))

-- what an option that is some is
some_of : {X : Type 0} (i : Option X) → IsSome i → (x : X) × (i ≡ Some x)
some_of None s = absurd (true≢false (sym s))
some_of (Some x) s = (x, refl)

pub take_spec : {M : Type 1} → statement M
take_spec 𝓤 𝓛 𝓜 𝓡 wired =
    let c = f.clauses 𝓛 𝓜.mem 𝓡.returns in let W = walk_of 𝓛 f.ended stayed c in let 𝓣 = tables 𝓤 𝓛.H 𝓜 𝓡 𝓡.env in
    proved_at 𝓛 f.ended stayed c 𝓜 𝓡 (
      Goes-ref 𝓛 1 0 tt (plain (λ _. R)),
      (Goes-blank 𝓛 1 (plain (λ _. global.the_row)) f.ended.kept.1.0 (λ κs x f. tt), tt),
    )
    f.Key.name code.function (code.unfolded 𝓤 𝓛.H 𝓜 𝓡 wired)
    (λ z are.
    let κ = z.0.0.0 in let q = z.0.1.0 in let r = z.0.3.0 in let h = r.now in let b = r.ref_ptr.0 in let o = r.ref_ptr.1
    in let a = z.0.3.1.0 in
    let Post : Val → SProp 𝓤 = W.post z in
    qed 𝓛 (((‵ (flft κ q) ⊛ ‵ ftrue) ⊛ ‵ (owns (types_at f.ended.signature.params z.0.0) z.0.3 z.0.4)) ∷ raw
    (fact 𝓤 (IsSome h.service)) ∷ []) ∵
    move ! (1 ∷ []) $ heard ! _ (λ is_open.
    let got = some_of h.service is_open in let x = got.0 in
    split ! $ split ! $ move ! (2 ∷ []) $ fsplit ! $ move ! (1 ∷ []) $ fsplit ! $
    handle_tells al ! a z.0.4.1.0 (λ hv eh fits.
    keep ! (0 ∷ 2 ∷ 3 ∷ []) $
    -- [the allocator; self; the token]
    regoal ! (λ (us : List Val). prop (WpFn 𝓤 𝓛.H 𝓣.C 𝓣.Λ code.function us Post)) (λ i. are.0.0 i ++ (eh i ++ [])) refl
    $
    enter ! 𝓣.C 𝓣.Λ code.function (vptr b o ∷ hv ∷ []) Post $
    alloc_all ! (λ l. pass_all ! refl ((tt, tt), (fits, tt)) $
    move ! (1 ∷ []) $ fsplit3 ! $ move ! (1 ∷ 2 ∷ 4 ∷ []) $ opens ! tt R b o (λ us.
    move ! (1 ∷ []) $ peeks ! R _ (shows 𝓛 R) h us (λ is. fsplit ! $ move ! (1 ∷ []) $
    rewrite ! 0 (λ (i : Option Serving). ‵ (loose_owns (ghosts.dealloc_token h.heap) h.at i)) got.1 refl $
    in_a_block ! h.at (λ p. box_owns (ghosts.dealloc_token h.heap) Inner p x)
    (fst∗ 𝓤 (never 𝓤) (sem 𝓛 (ghosts.dealloc_token h.heap (bare (lone Inner.mir)) null_ptr))) (λ b' o' e.
    -- [what the handle owned; what its field owns; its cell; the open borrow, in three entries; self's first part; the
    -- allocator]
    let word = lowers.val_is h us is ∙ ap (λ (p : Ptr). vstruct (vcons (ptr_val p) vnil) ∷ []) e in
    let Cell = λ (ws : List Val). ‵ (cell_at full_share R.mir ws b o) in
    let d : R.Denot = record h { service = None } in
    rewrite ! 2 Cell word refl $
    sets ! (of_opd ! (load ! (through ! refl (fld ! refl (stop !))) (look_in ! 2 (sub ! 0 refl (whole !))))) refl
    (tt, tt) $
    sets ! (of_opd ! (get ! refl)) refl (tt, tt) $
    sets ! (agg ! (and_then ! (get ! refl) (and_then ! (get ! refl) (no_more !)))) refl
    (loose_good Inner global.the_row global_laws.the_row_laws ghosts b' o' hv fits) $
    rewrite ! 2 Cell (sym word) refl $
    nothing ! $ move ! (2 ∷ 0 ∷ []) $ fjoin ! $ move ! (2 ∷ 0 ∷ 3 ∷ 4 ∷ 5 ∷ []) $ closes ! tt R d us b o $
    -- [two parts of self; the token; what the handle owned; self's first part; the allocator]
    returns ! (look_at ! 0 refl) $ free_all ! refl $ move ! (3 ∷ 5 ∷ []) $
    loose_in Inner global.the_row global_laws.the_row_laws ghosts ! b' o' hv a x $ move ! (4 ∷ 1 ∷ 2 ∷ 3 ∷ 0 ∷ []) $
    suffices ! _ (ends_at 𝓛 f.ended stayed c z (both (vptr b' o') hv)
    (record { at = block_ptr b' o'; alloc = a; value = x }) (d, (tt, tt)) (tt, (tt, tt))) $
    says ! (got.1, refl) $
    group ! 3 $ nothing ! $ nothing ! $ join ! $ move ! (1 ∷ 0 ∷ []) $ join ! $ nothing ! $ move ! (2 ∷ 0 ∷ []) $ join !
    $ frame ! $ frame ! $ done !)))))))
