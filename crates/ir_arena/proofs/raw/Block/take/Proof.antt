-- `take` moves the last value out, and leaves room in its place. Assumes `Logic`.
use Rattle.std.proofs.Common.{◌≡◌, ℕ, suc, ◌+◌, ◌-◌, ◌*◌, ◌<◌, ◌^◌, List, [], ◌∷◌, ◌++◌, length, refl, sym, ap, arith, w64, length-append}
use mir.Syntax.{Fn, named}
use mir.Val.{Val, vptr, vint}
use mir.MapTy.{inst_fn}
use base.Logic.{SProp, emp}
use base.Fml.{Fml, ftrue, fsep, froom, flft}
use types.Kit.{‵, raw, ◌⊛◌, at_ret, ◌$◌, ◌∵◌, !, qed, by, move, keep, use0, use1, use2, split, join, rewrite, fsplit, fsplit3, fjoin, fjoin3, feq_i}
use types.Part.{whole, sub, look_in}
use types.Run.{look, stop, fld, load, size_lit, of_opd, bin, forget, first, blocks, exec, returns, enter}
use types.ByLocal.{alloc_all, pass_all, free_all, look_at, get, through, sets, sets_last, env}
use contract.Monad.{fact, fact_i}
use contract.Running.{tables}
use denote.Builtin.{usize}
use denote.Plain.{uint_vals, uint_Tells}
use denote.Ref.{mut_vals, mut_Tells}
use denote.Exit.{yes}
use denote.RattleType.{owns}
use denote.Signature.{plain, types_at}
use denote.Steps.{heard, nothing}
use denote.Triple.Walked.{AllGo, Stays, stay_dropped, stay_ref, walk_of, Goes-dropped, Goes-ref}
use Rattle.std.proofs.raw_atomic.Walks.{proved, leaves}
use Rattle.std.proofs.alloc.Calls.{Al}
use Rattle.std.proofs.alloc.Shapes.{after}
use Rattle.std.proofs.mem.Param.{El, R, el_x, elτ}
use Rattle.ir_arena.specs.Block.{room_of}
use Rattle.ir_arena.specs.contracts.raw.Block.take as f
use Rattle.ir_arena.specs.contracts.raw.Block.take.Key.{name as key}
use Rattle.ir_arena.proofs.BlockRows.{bytes, value, values, last_of, split_last, place_back, value_cell, far_within, next_place}
use Rattle.ir_arena.proofs.Blocks.{Block, instance, room_after, block_opened, block_closed}
use Rattle.ir_arena.proofs.raw.Block.take.Statement.{statement}
use Rattle.ir_arena.proofs.raw.Block.take.Code as code

pub take_spec : {M : Type 1} → statement M
take_spec 𝓤 𝓛 𝓜 𝓡 wired X W LX LW g d drops met gone =
    let V : El = record { row = X; laws = LX } in
    let Y : Al = record { row = W; laws = LW; g = g; d = d; drops = drops } in
    let B = Block V Y in
    let program : Fn = inst_fn (instance V Y) code.function in
    let T = f.ended X W g d drops in
    let c = f.clauses X W g d drops 𝓛 𝓜.mem 𝓡.returns in
    let 𝓣 = tables 𝓤 𝓛.H 𝓜 𝓡 𝓡.env in
    let hs : Stays T.signature.params T.kept = (stay_ref (0 ∷ []) tt (plain (λ _. B)), (stay_dropped (plain (λ _. usize)) yes, tt)) in
    let goes : AllGo 𝓛 3 T.signature.params T.kept hs = (Goes-ref 𝓛 3 0 tt (plain (λ _. B)), (Goes-dropped 𝓛 3 (plain (λ _. usize)) yes (λ κs x e. refl), tt)) in
    proved 𝓛 T hs c 𝓜 𝓡 goes (key (instance V Y)) program (code.unfolded 𝓤 𝓛.H 𝓜 𝓡 wired (X, (W, tt)) d drops)
    (λ κs. (mut_vals, (uint_vals w64, tt))) (λ κs. (mut_Tells (named 0) κs.0 B, (uint_Tells w64, tt))) (λ κs qs bounds a gh are.
    let ref_block : ℕ = a.0.ref_ptr.0 in let ref_offset : ℕ = a.0.ref_ptr.1 in
    let h : B.Denot = a.0.now in let last : ℕ = a.1.0 in
    let passed : List Val = vptr ref_block ref_offset ∷ vint w64 last ∷ [] in
    let y : (walk_of 𝓛 T hs c).Ghost = ((κs, qs, bounds, a, (vptr ref_block ref_offset ∷ [], (vint w64 last ∷ [], tt))), gh) in
    let Post : Val → SProp 𝓤 = (walk_of 𝓛 T hs c).post y in
    let n : ℕ = length h.items in let s : ℕ = bytes V in
    let Asked : Type 0 = n ≡ last + 1 in
    let tokens : Fml = fsep (flft κs.1.0 qs.1.0) (fsep (flft κs.1.1.0 qs.1.1.0) ftrue) in
    qed 𝓛 (((‵ (flft κs.0 qs.0) ⊛ ‵ tokens) ⊛ ‵ (owns (types_at T.signature.params κs) a y.0.4)) ∷ raw (fact 𝓤 _) ∷ raw (fact 𝓤 _) ∷ raw (fact 𝓤 Asked) ∷ []) ∵
    keep ! (3 ∷ 0 ∷ []) $ heard ! Asked (λ asked.
    let parts = last_of h.items last asked in
    let ys : List (el_x V) = parts.0 in let x : el_x V = parts.1 in let made : h.items ≡ ys ++ x ∷ [] = parts.2 in
    let new : B.Denot = record { start = h.start; by = h.by; alloc = h.alloc; items = ys } in
    let Cut : Type 0 = h.items ≡ new.items ++ x ∷ [] in
    let more : n ≡ suc (length ys) = omega (arith, ap length made, length-append ys (x ∷ [])) in
    let same : length ys ≡ last = omega (arith, more, asked) in
    split ! $ split ! $ move ! (2 ∷ []) $ fsplit ! $ fsplit3 ! $ keep ! (1 ∷ 2 ∷ 4 ∷ 5 ∷ []) $
    enter ! 𝓣.C 𝓣.Λ program passed Post $ alloc_all ! (λ l. pass_all ! refl ((tt, tt), ((tt, record { fits = are.1.0.1 }), tt)) $
    let locals = env program.locals l in
    block_opened V Y ! tt h ref_block ref_offset (λ b o at small few.
    let size_fits : s < 2 ^ 64 = omega arith in
    let offset_fits : last * s < 2 ^ 64 = far_within last s (omega (arith, asked, few)) small in
    let next : n * s + o ≡ length ys * s + o + s = sym (next_place n (length ys) s o more) in
    rewrite ! 0 (λ (xs : List (el_x V)). ‵ (values V xs b o)) made refl $
    use1 𝓛 (‵ (values V ys b o) ⊛ ‵ (value V x b (length ys * s + o))) (split_last V 𝓛 b ys x o) $ split ! $ move ! (1 ∷ []) $
    rewrite ! 0 (λ (k : ℕ). ‵ (value V x b (k * s + o))) same refl $
    value_cell V ! x b (last * s + o) (λ v good.
    -- [the place; what x owns; the values; the room; the right; the pointer; the open borrow; obs; auth; the other tokens]
    first ! $ blocks ! $
    sets ! (of_opd ! (load ! (through ! refl (fld ! refl (stop !))) (look_in ! 5 (sub ! 0 refl (whole !))))) refl (tt, tt) $
    sets ! (bin ! (get ! refl) (size_lit ! (record { fits = size_fits })) (record { fits = offset_fits })) refl (tt, record { fits = offset_fits }) $
    sets ! (bin ! (get ! refl) (get ! refl) tt) refl (tt, tt) $
    sets_last ! (of_opd ! (load ! (through ! refl (stop !)) (look ! 0 refl))) refl good $
    exec ! 𝓣.C 𝓣.Λ locals (after 1 program.body) (at_ret locals Post) $ sets ! (of_opd ! (get ! refl)) refl good $
    forget ! 0 refl $ rewrite ! 0 (λ (k : ℕ). ‵ (froom (elτ V) b (k * s + o))) (sym same) refl $
    rewrite ! 3 (λ (k : ℕ). ‵ (froom (room_of (R V) (64 - n)) b k)) next refl $
    move ! (0 ∷ 3 ∷ []) $ use2 𝓛 (‵ (room_after V Y ys b o)) (place_back V 𝓛 b (64 - length ys) (64 - n) (length ys * s + o) (omega (arith, more, few))) $
    move ! (2 ∷ 0 ∷ 3 ∷ 4 ∷ 5 ∷ 6 ∷ 7 ∷ []) $
    block_closed V Y ! tt new b o ref_block ref_offset at small (omega (arith, more, few)) $
    feq_i ! (List Val) (vptr ref_block ref_offset ∷ []) (vptr ref_block ref_offset ∷ []) refl $ fjoin3 ! $ nothing ! $ nothing ! $ fjoin ! $ move ! (1 ∷ 0 ∷ []) $ fjoin ! $
    move ! (1 ∷ 3 ∷ []) $ join ! $ use0 𝓛 (raw (fact 𝓤 Cut)) (fact_i 𝓤 Cut (emp 𝓤) made) $ use0 𝓛 (raw (fact 𝓤 (h.alloc ≡ h.alloc))) (fact_i 𝓤 (h.alloc ≡ h.alloc) (emp 𝓤) refl) $ join ! $
    returns ! (look_at ! 0 refl) $ free_all ! refl $ keep ! (1 ∷ 2 ∷ 3 ∷ 0 ∷ []) $ by ! (leaves 𝓛 T hs c y v x (new, (tt, tt)) (tt, (tt, tt))))))))
