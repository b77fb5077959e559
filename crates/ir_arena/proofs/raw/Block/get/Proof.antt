-- `get` hands on the `&` to one value. Assumes `Logic`.
use Rattle.std.proofs.Common.{get_or, slice_get, Some, ◌≡◌, ℕ, ◌+◌, ◌*◌, ◌<◌, ◌^◌, List, [], ◌∷◌, length, refl, arith, w64}
use mir.Syntax.{Fn, named}
use mir.Val.{Val, vptr, vint}
use mir.MapTy.{inst_fn}
use base.Logic.{SProp, emp, never, id⊢}
use base.Fml.{Fml, ftrue, fsep, flft}
use types.Kit.{‵, raw, ◌⊛◌, at_ret, ◌$◌, ◌∵◌, !, qed, by, move, keep, use0, use1, split, join, rewrite, fsplit, fjoin, feq_i, flt_l}
use types.Run.{look, stop, fld, load, size_lit, addr, of_opd, bin, first, blocks, exec, returns, enter}
use types.ByLocal.{alloc_all, pass_all, free_all, look_at, get, through, sets, sets_last, env}
use contract.Monad.{fact, fact_i}
use contract.Running.{tables}
use denote.Builtin.{usize, RefOf}
use denote.Plain.{uint_vals, uint_Tells}
use denote.Ref.{shr_vals, shr_Tells}
use denote.Exit.{yes}
use denote.Memory.{hidden_shr}
use denote.RawPtr.{RawPtr, in_a_block}
use denote.RattleType.{owns}
use denote.Signature.{plain, types_at}
use denote.Steps.{heard, nothing}
use denote.Triple.Walked.{AllGo, Stays, stay_dropped, walk_of, Goes-dropped}
use Rattle.std.proofs.raw_atomic.Walks.{proved, leaves}
use Rattle.std.proofs.alloc.Calls.{Al}
use Rattle.std.proofs.alloc.Shapes.{after}
use Rattle.std.proofs.mem.Param.{El, R, el_x}
use Rattle.ir_arena.specs.Block.{block_lends}
use Rattle.ir_arena.specs.contracts.raw.Block.get as f
use Rattle.ir_arena.specs.contracts.raw.Block.get.Key.{name as key}
use Rattle.ir_arena.proofs.BlockRows.{bytes, item_at, far_within}
use Rattle.ir_arena.proofs.BlockLent.{block_shown, value_seen, pointer_read, pointer_shut}
use Rattle.ir_arena.proofs.Blocks.{Block, instance}
use Rattle.ir_arena.proofs.raw.Block.get.Statement.{statement}
use Rattle.ir_arena.proofs.raw.Block.get.Code as code

pub get_spec : {M : Type 1} → statement M
get_spec 𝓤 𝓛 𝓜 𝓡 wired X W LX LW g d drops met gone =
    let V : El = record { row = X; laws = LX } in
    let Y : Al = record { row = W; laws = LW; g = g; d = d; drops = drops } in
    let B = Block V Y in
    let program : Fn = inst_fn (instance V Y) code.function in
    let T = f.ended X W g d drops in
    let c = f.clauses X W g d drops 𝓛 𝓜.mem 𝓡.returns in
    let 𝓣 = tables 𝓤 𝓛.H 𝓜 𝓡 𝓡.env in
    let self = RefOf (0 ∷ []) tt (plain (λ _. B)) (λ _. tt) in
    let hs : Stays T.signature.params T.kept = (stay_dropped self yes, (stay_dropped (plain (λ _. usize)) yes, tt)) in
    let goes : AllGo 𝓛 3 T.signature.params T.kept hs = (Goes-dropped 𝓛 3 self yes (λ κs x e. refl), (Goes-dropped 𝓛 3 (plain (λ _. usize)) yes (λ κs x e. refl), tt)) in
    proved 𝓛 T hs c 𝓜 𝓡 goes (key (instance V Y)) program (code.unfolded 𝓤 𝓛.H 𝓜 𝓡 wired (X, (W, tt)) d drops)
    (λ κs. (shr_vals, (uint_vals w64, tt))) (λ κs. (shr_Tells (named 0) κs.0 B, (uint_Tells w64, tt))) (λ κs qs bounds a gh are.
    let ref_block : ℕ = a.0.ref_ptr.0 in let ref_offset : ℕ = a.0.ref_ptr.1 in
    let h : B.Denot = a.0.now in let i : ℕ = a.1.0 in
    let passed : List Val = vptr ref_block ref_offset ∷ vint w64 i ∷ [] in
    let y : (walk_of 𝓛 T hs c).Ghost = ((κs, qs, bounds, a, (vptr ref_block ref_offset ∷ [], (vint w64 i ∷ [], tt))), gh) in
    let Post : Val → SProp 𝓤 = (walk_of 𝓛 T hs c).post y in
    let s : ℕ = bytes V in
    let Asked : Type 0 = i < length h.items in
    let tokens : Fml = fsep (flft κs.1.0 qs.1.0) (fsep (flft κs.1.1.0 qs.1.1.0) ftrue) in
    qed 𝓛 (((‵ (flft κs.0 qs.0) ⊛ ‵ tokens) ⊛ ‵ (owns (types_at T.signature.params κs) a y.0.4)) ∷ raw (fact 𝓤 _) ∷ raw (fact 𝓤 _) ∷ raw (fact 𝓤 Asked) ∷ []) ∵
    keep ! (3 ∷ 0 ∷ []) $ heard ! Asked (λ below.
    let found = item_at h.items i below in let x : el_x V = found.0 in
    let Told : Type 0 = slice_get h.items i ≡ Some x in
    split ! $ split ! $ move ! (2 ∷ []) $ fsplit ! $ fsplit ! $ keep ! (1 ∷ 3 ∷ 4 ∷ []) $
    use1 𝓛 (‵ (hidden_shr RawPtr κs.0 h.start ref_block (ref_offset + 0)) ⊛ ‵ (block_lends (R V) h.start h.items κs.0)) (block_shown V Y 𝓛 κs.0 h ref_block ref_offset) $ split ! $ move ! (1 ∷ []) $
    in_a_block ! h.start (λ p. block_lends (R V) p h.items κs.0) (id⊢ 𝓤 (never 𝓤)) (λ b o at. fsplit ! $ fsplit ! $ flt_l ! (λ small. flt_l ! (λ few.
    let size_fits : s < 2 ^ 64 = omega arith in
    let offset_fits : i * s < 2 ^ 64 = far_within i s (omega (arith, below, few)) small in
    let seen : Val = vptr b (i * s + o) in
    use1 𝓛 (‵ (hidden_shr (R V) κs.0 (get_or h.items i x) b (i * s + o))) (value_seen V 𝓛 κs.0 b h.items i x o below) $
    rewrite ! 0 (λ (z : el_x V). ‵ (hidden_shr (R V) κs.0 z b (i * s + o))) found.2 refl $ move ! (1 ∷ 2 ∷ []) $
    enter ! 𝓣.C 𝓣.Λ program passed Post $ alloc_all ! (λ l. pass_all ! refl ((tt, tt), ((tt, record { fits = are.1.0.1 }), tt)) $
    let locals = env program.locals l in
    first ! $ blocks ! $ pointer_read ! tt h.start b o at ref_block (ref_offset + 0) (λ q.
    sets ! (of_opd ! (load ! (through ! refl (fld ! refl (stop !))) (look ! 0 refl))) refl (tt, tt) $
    pointer_shut ! tt h.start b o at ref_block (ref_offset + 0) $
    sets ! (bin ! (get ! refl) (size_lit ! (record { fits = size_fits })) (record { fits = offset_fits })) refl (tt, record { fits = offset_fits }) $
    sets ! (bin ! (get ! refl) (get ! refl) tt) refl (tt, tt) $
    sets_last ! (addr ! (through ! refl (stop !))) refl (tt, tt) $
    exec ! 𝓣.C 𝓣.Λ locals (after 1 program.body) (at_ret locals Post) $ sets ! (of_opd ! (get ! refl)) refl (tt, tt) $
    -- [the token; the `&` to the value; the other tokens]
    move ! (0 ∷ 2 ∷ []) $ join ! $ move ! (1 ∷ []) $ feq_i ! (List Val) (seen ∷ []) (seen ∷ []) refl $ fjoin ! $
    nothing ! $ nothing ! $ fjoin ! $ nothing ! $ fjoin ! $ use0 𝓛 (raw (fact 𝓤 Told)) (fact_i 𝓤 Told (emp 𝓤) found.1) $
    returns ! (look_at ! 0 refl) $ free_all ! refl $ keep ! (3 ∷ 1 ∷ 2 ∷ 0 ∷ []) $ by ! (leaves 𝓛 T hs c y seen (record { ref_ptr = (b, i * s + o); now = x }) (tt, (tt, tt)) (tt, (tt, tt))))))))))
