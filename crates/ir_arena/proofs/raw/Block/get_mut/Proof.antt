-- `get_mut` lends one value, and the block follows it. Assumes `Logic`.
use Rattle.std.proofs.Common.{get_or, slice_get, Some, ◌≡◌, ℕ, ◌+◌, ◌*◌, ◌<◌, ◌^◌, List, [], ◌∷◌, length, refl, arith, w64}
use mir.Syntax.{Fn, named}
use mir.Val.{Val, vptr, vint}
use mir.MapTy.{inst_fn}
use base.Logic.{SProp, emp}
use base.Fml.{Fml, GName, ftrue, fsep, flft}
use types.Logic.{sem}
use types.Kit.{‵, raw, ◌⊛◌, some, later, await, pick, group, split3, at_ret, ◌$◌, ◌∵◌, !, qed, by, move, keep, use0, use1, split, join, rewrite, fsplit, fsplit3, fjoin}
use types.Part.{whole, sub, look_in}
use types.Run.{stop, fld, load, size_lit, addr, of_opd, bin, first, blocks, exec, returns, enter}
use types.ByLocal.{alloc_all, pass_all, free_all, look_at, get, through, sets, sets_last, env}
use contract.Monad.{fact, fact_i}
use contract.Running.{tables}
use denote.Builtin.{usize, RefMutOf}
use denote.Plain.{uint_vals, uint_Tells}
use denote.Ref.{MutRef, mut_vals, mut_Tells}
use denote.Follow.{follows, lends_Part}
use denote.Exit.{yes, no}
use denote.RattleType.{owns}
use denote.Signature.{plain, types_at}
use denote.Steps.{heard, nothing}
use denote.Triple.Walked.{AllGo, Stays, stay_dropped, walk_of, Goes-dropped, Goes-spent_ref}
use Rattle.std.proofs.raw_atomic.Walks.{proved, leaves}
use Rattle.std.proofs.alloc.Calls.{Al}
use Rattle.std.proofs.alloc.Shapes.{after}
use Rattle.std.proofs.mem.Param.{El, R, el_x}
use Rattle.ir_arena.specs.BlockLends.{with_item}
use Rattle.ir_arena.specs.contracts.raw.Block.get_mut as f
use Rattle.ir_arena.specs.contracts.raw.Block.get_mut.Key.{name as key}
use Rattle.ir_arena.proofs.BlockRows.{bytes, value, rest_of, value_out, item_at, far_within}
use Rattle.ir_arena.proofs.BlockLent.{BlockRest, block_again}
use Rattle.ir_arena.proofs.Blocks.{Block, Handle, instance, block_opened}
use Rattle.ir_arena.proofs.raw.Block.get_mut.Statement.{statement}
use Rattle.ir_arena.proofs.raw.Block.get_mut.Code as code

pub get_mut_spec : {M : Type 1} → statement M
get_mut_spec 𝓤 𝓛 𝓜 𝓡 wired X W LX LW g d drops met gone =
    let V : El = record { row = X; laws = LX } in
    let Y : Al = record { row = W; laws = LW; g = g; d = d; drops = drops } in
    let B = Block V Y in
    let program : Fn = inst_fn (instance V Y) code.function in
    let T = f.ended X W g d drops in
    let c = f.clauses X W g d drops 𝓛 𝓜.mem 𝓡.returns in
    let 𝓣 = tables 𝓤 𝓛.H 𝓜 𝓡 𝓡.env in
    let self = RefMutOf (0 ∷ []) tt (plain (λ _. B)) (λ _. tt) in
    let hs : Stays T.signature.params T.kept = (stay_dropped self no, (stay_dropped (plain (λ _. usize)) yes, tt)) in
    let goes : AllGo 𝓛 3 T.signature.params T.kept hs = (Goes-spent_ref 𝓛 3 (0 ∷ []) tt (plain (λ _. B)), (Goes-dropped 𝓛 3 (plain (λ _. usize)) yes (λ κs x e. refl), tt)) in
    proved 𝓛 T hs c 𝓜 𝓡 goes (key (instance V Y)) program (code.unfolded 𝓤 𝓛.H 𝓜 𝓡 wired (X, (W, tt)) d drops)
    (λ κs. (mut_vals, (uint_vals w64, tt))) (λ κs. (mut_Tells (named 0) κs.0 B, (uint_Tells w64, tt))) (λ κs qs bounds a gh are.
    let ref_block : ℕ = a.0.ref_ptr.0 in let ref_offset : ℕ = a.0.ref_ptr.1 in let γ : GName = a.0.ghost_name in
    let h : B.Denot = a.0.now in let i : ℕ = a.1.0 in
    let passed : List Val = vptr ref_block ref_offset ∷ vint w64 i ∷ [] in
    let y : (walk_of 𝓛 T hs c).Ghost = ((κs, qs, bounds, a, (vptr ref_block ref_offset ∷ [], (vint w64 i ∷ [], tt))), gh) in
    let Post : Val → SProp 𝓤 = (walk_of 𝓛 T hs c).post y in
    let s : ℕ = bytes V in
    let Asked : Type 0 = i < length h.items in
    let new : el_x V → B.Denot = with_item (R V) (Handle V Y) Y.g h i in
    let tokens : Fml = fsep (flft κs.1.0 qs.1.0) (fsep (flft κs.1.1.0 qs.1.1.0) ftrue) in
    qed 𝓛 (((‵ (flft κs.0 qs.0) ⊛ ‵ tokens) ⊛ ‵ (owns (types_at T.signature.params κs) a y.0.4)) ∷ raw (fact 𝓤 _) ∷ raw (fact 𝓤 _) ∷ raw (fact 𝓤 Asked) ∷ []) ∵
    keep ! (3 ∷ 0 ∷ []) $ heard ! Asked (λ below.
    let found = item_at h.items i below in let x : el_x V = found.0 in
    let Told : Type 0 = slice_get h.items i ≡ Some x in
    split ! $ split ! $ move ! (2 ∷ []) $ fsplit ! $ fsplit3 ! $ keep ! (1 ∷ 2 ∷ 4 ∷ 5 ∷ []) $
    enter ! 𝓣.C 𝓣.Λ program passed Post $ alloc_all ! (λ l. pass_all ! refl ((tt, tt), ((tt, record { fits = are.1.0.1 }), tt)) $
    let locals = env program.locals l in
    block_opened V Y ! tt h ref_block ref_offset (λ b o at small few.
    let size_fits : s < 2 ^ 64 = omega arith in
    let offset_fits : i * s < 2 ^ 64 = far_within i s (omega (arith, below, few)) small in
    let to : ℕ = i * s + o in let seen : Val = vptr b to in
    let Rest : Fml = BlockRest V Y h i b o ref_block ref_offset in
    first ! $ blocks ! $
    sets ! (of_opd ! (load ! (through ! refl (fld ! refl (stop !))) (look_in ! 3 (sub ! 0 refl (whole !))))) refl (tt, tt) $
    sets ! (bin ! (get ! refl) (size_lit ! (record { fits = size_fits })) (record { fits = offset_fits })) refl (tt, record { fits = offset_fits }) $
    sets ! (bin ! (get ! refl) (get ! refl) tt) refl (tt, tt) $
    sets_last ! (addr ! (through ! refl (stop !))) refl (tt, tt) $
    exec ! 𝓣.C 𝓣.Λ locals (after 1 program.body) (at_ret locals Post) $ sets ! (of_opd ! (get ! refl)) refl (tt, tt) $
    use1 𝓛 (‵ (value V (get_or h.items i x) b to) ⊛ ‵ (rest_of V h.items i b o)) (value_out V 𝓛 b h.items i x o below) $ split ! $
    rewrite ! 0 (λ (z : el_x V). ‵ (value V z b to)) found.2 refl $
    -- [the value; the other values; the room; the right; the pointer; the open borrow; obs; auth; the other tokens]
    move ! (3 ∷ 4 ∷ []) $ fjoin ! $ move ! (3 ∷ 0 ∷ []) $ fjoin ! $ move ! (2 ∷ 0 ∷ []) $ fjoin ! $
    move ! (2 ∷ 3 ∷ 4 ∷ 1 ∷ 0 ∷ []) $ group ! 5 $
    use1 𝓛 (later (some (λ (δ : GName). ‵ ((MutRef (named 0) κs.0 (R V)).own_val (record { ref_ptr = (b, to); ghost_name = δ; now = x }) (seen ∷ [])) ⊛ ‵ (flft κs.0 qs.0) ⊛ ‵ (follows B (R V) γ δ new))))
    (lends_Part 𝓛 B (R V) new (named 0) κs.0 qs.0 ref_block ref_offset b to γ (sem 𝓛 Rest) (block_again V Y h i b o ref_block ref_offset 𝓛 at small few below) (B.coded.code h) (B.coded.code h) x) $
    await ! tt $ pick ! (λ δ. split3 ! $
    -- [the loan; the token; how the block follows; the other tokens]
    move ! (1 ∷ 3 ∷ []) $ join ! $ nothing ! $ nothing ! $ fjoin ! $ nothing ! $ fjoin ! $ use0 𝓛 (raw (fact 𝓤 Told)) (fact_i 𝓤 Told (emp 𝓤) found.1) $
    move ! (4 ∷ 0 ∷ []) $ join ! $
    returns ! (look_at ! 0 refl) $ free_all ! refl $ keep ! (2 ∷ 1 ∷ 3 ∷ 0 ∷ []) $ by ! (leaves 𝓛 T hs c y seen (record { ref_ptr = (b, to); ghost_name = δ; now = x }) (tt, (tt, tt)) (tt, (tt, tt))))))))
