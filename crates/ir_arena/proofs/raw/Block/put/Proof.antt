-- `put` writes a value into the first place that is free. Assumes `Logic`.
use Rattle.std.proofs.Common.{◌≡◌, ℕ, suc, ◌+◌, ◌-◌, ◌*◌, ◌<◌, ◌^◌, List, [], ◌∷◌, ◌++◌, length, refl, sym, subst, arith, w64, length-append}
use base.Fraction.{full_share}
use mir.Syntax.{Fn}
use mir.Val.{Val, vptr, vint, vunit}
use mir.MapTy.{inst_fn}
use base.Logic.{SProp, ent, emp, id⊢}
use base.Fml.{Fml, ftrue, fsep, froom, flft}
use borrow.Table.OneValue.{part_in}
use prog.Wp.{WpFn}
use types.Kit.{‵, raw, ◌⊛◌, at_ret, ◌$◌, ◌∵◌, !, qed, by, move, keep, use0, use1, use2, split, join, rewrite, fsplit, fsplit3, fjoin, fjoin3, feq_i, suffices}
use types.Part.{whole, sub, look_in}
use types.Run.{init, stop, fld, load, size_lit, unit_lit, of_opd, bin, assigns_last, first, blocks, exec, returns, enter}
use types.ByLocal.{alloc_all, pass_all, free_all, look_at, get, through, sets, env}
use contract.Monad.{fact, fact_i}
use contract.Running.{tables}
use denote.Builtin.{usize}
use denote.Exit.{yes, no}
use denote.RattleType.{owns}
use denote.Signature.{plain, types_at}
use denote.Steps.{heard, nothing}
use denote.Triple.Walked.{AllGo, Stays, stay_dropped, stay_ref, walk_of, Goes-dropped, Goes-ref}
use Rattle.std.proofs.raw_atomic.Walks.{proved_at, leaves}
use Rattle.std.proofs.alloc.Calls.{Al}
use Rattle.std.proofs.alloc.Shapes.{after}
use Rattle.std.proofs.mem.Param.{El, R, el_x, elτ, lawful, one}
use Rattle.ir_arena.specs.Block.{room_of}
use Rattle.ir_arena.specs.contracts.raw.Block.put as f
use Rattle.ir_arena.specs.contracts.raw.Block.put.Key.{name as key}
use Rattle.ir_arena.proofs.BlockRows.{bytes, value, values, append_value, place_out, far_within, next_place}
use Rattle.ir_arena.proofs.Blocks.{Block, instance, block_opened, block_closed}
use Rattle.ir_arena.proofs.raw.Block.put.Statement.{statement}
use Rattle.ir_arena.proofs.raw.Block.put.Code as code

pub put_spec : {M : Type 1} → statement M
put_spec 𝓤 𝓛 𝓜 𝓡 wired X W LX LW g d drops met gone =
    let V : El = record { row = X; laws = LX } in
    let Y : Al = record { row = W; laws = LW; g = g; d = d; drops = drops } in
    let B = Block V Y in
    let program : Fn = inst_fn (instance V Y) code.function in
    let T = f.ended X W g d drops in
    let c = f.clauses X W g d drops 𝓛 𝓜.mem 𝓡.returns in
    let 𝓣 = tables 𝓤 𝓛.H 𝓜 𝓡 𝓡.env in
    let hs : Stays T.signature.params T.kept = (stay_ref (0 ∷ []) tt (plain (λ _. B)), (stay_dropped (plain (λ _. usize)) yes, (stay_dropped (plain (λ _. R V)) no, tt))) in
    let goes : AllGo 𝓛 3 T.signature.params T.kept hs = (Goes-ref 𝓛 3 0 tt (plain (λ _. B)), (Goes-dropped 𝓛 3 (plain (λ _. usize)) yes (λ κs x e. refl), (Goes-dropped 𝓛 3 (plain (λ _. R V)) no (λ κs x e. refl), tt))) in
    proved_at 𝓛 T hs c 𝓜 𝓡 goes (key (instance V Y)) program (code.unfolded 𝓤 𝓛.H 𝓜 𝓡 wired (X, (W, tt)) d drops) (λ y are.
    let κs = y.0.0 in let qs = y.0.1 in let a = y.0.3 in let vss = y.0.4 in
    let Post : Val → SProp 𝓤 = (walk_of 𝓛 T hs c).post y in
    let ref_block : ℕ = a.0.ref_ptr.0 in let ref_offset : ℕ = a.0.ref_ptr.1 in
    let h : B.Denot = a.0.now in let len : ℕ = a.1.0 in let x : el_x V = a.1.1.0 in
    let stored = one V vss.1.1.0 ((lawful V 𝓛).typed x vss.1.1.0 are.1.1.0) in let v : Val = stored.0 in
    let n : ℕ = length h.items in let s : ℕ = bytes V in
    let new : B.Denot = record { start = h.start; by = h.by; alloc = h.alloc; items = h.items ++ x ∷ [] } in
    let Grown : Type 0 = new.items ≡ h.items ++ x ∷ [] in
    let tokens : Fml = fsep (flft κs.1.0 qs.1.0) (fsep (flft κs.1.1.0 qs.1.1.0) ftrue) in
    let passed : List Val = vptr ref_block ref_offset ∷ vint w64 len ∷ v ∷ [] in
    let Run : List Val → SProp 𝓤 = λ ws. WpFn 𝓤 𝓛.H 𝓣.C 𝓣.Λ program ws Post in
    qed 𝓛 (((‵ (flft κs.0 qs.0) ⊛ ‵ tokens) ⊛ ‵ (owns (types_at T.signature.params κs) a vss)) ∷ raw (fact 𝓤 _) ∷ raw (fact 𝓤 _) ∷ raw (fact 𝓤 (len ≡ n)) ∷ raw (fact 𝓤 (len < 64)) ∷ []) ∵
    keep ! (3 ∷ 4 ∷ 0 ∷ []) $ heard ! (len ≡ n) (λ counted. heard ! (len < 64) (λ free.
    split ! $ split ! $ move ! (2 ∷ []) $ fsplit3 ! $ fsplit3 ! $ move ! (4 ∷ []) $ fsplit ! $ keep ! (3 ∷ 4 ∷ 6 ∷ 0 ∷ 7 ∷ []) $
    rewrite ! 3 (λ (ws : List Val). ‵ ((R V).own_val x ws)) stored.1 refl $
    suffices ! (Run passed) (subst (λ (ws : List Val). ent 𝓤 (Run passed) (Run ws)) (sym (λ i. are.0.0 i ++ (are.1.0.0 i ++ (stored.1 i ++ [])))) (id⊢ 𝓤 (Run passed))) $
    enter ! 𝓣.C 𝓣.Λ program passed Post $ alloc_all ! (λ l. pass_all ! refl ((tt, tt), ((tt, record { fits = are.1.0.1 }), (stored.2, tt))) $
    let locals = env program.locals l in
    block_opened V Y ! tt h ref_block ref_offset (λ b o at small few.
    let same : n ≡ len = sym counted in
    let below : n < 64 = omega (arith, counted, free) in
    let more : length new.items ≡ suc n = omega (arith, length-append h.items (x ∷ [])) in
    let size_fits : s < 2 ^ 64 = omega arith in
    let offset_fits : len * s < 2 ^ 64 = far_within len s free small in
    let next : n * s + o + s ≡ length new.items * s + o = next_place (length new.items) n s o more in
    move ! (1 ∷ []) $
    use1 𝓛 (‵ (froom (elτ V) b (n * s + o)) ⊛ ‵ (froom (room_of (R V) (64 - suc n)) b (n * s + o + s))) (place_out V 𝓛 b (64 - n) (64 - suc n) (n * s + o) (omega (arith, below))) $ split ! $
    rewrite ! 0 (λ (k : ℕ). ‵ (froom (elτ V) b (k * s + o))) same refl $
    -- [the place; the room after it; the values; the right; the pointer; the open borrow; obs; auth; what x owns; the other tokens]
    first ! $ blocks ! $
    sets ! (of_opd ! (load ! (through ! refl (fld ! refl (stop !))) (look_in ! 4 (sub ! 0 refl (whole !))))) refl (tt, tt) $
    sets ! (bin ! (get ! refl) (size_lit ! (record { fits = size_fits })) (record { fits = offset_fits })) refl (tt, record { fits = offset_fits }) $
    sets ! (bin ! (get ! refl) (get ! refl) tt) refl (tt, tt) $
    sets ! (of_opd ! (get ! refl)) refl stored.2 $
    assigns_last ! (of_opd ! (get ! refl)) (through ! refl (stop !)) (init ! 0 refl stored.2) $
    exec ! 𝓣.C 𝓣.Λ locals (after 1 program.body) (at_ret locals Post) $ sets ! (of_opd ! (unit_lit !)) refl (tt, tt) $
    move ! (0 ∷ 8 ∷ []) $ use2 𝓛 (‵ (value V x b (len * s + o))) (part_in 𝓛 (R V) refl full_share x b (len * s + o) v) $
    rewrite ! 0 (λ (k : ℕ). ‵ (value V x b (k * s + o))) counted refl $
    move ! (2 ∷ 0 ∷ []) $ use2 𝓛 (‵ (values V new.items b o)) (append_value V 𝓛 b h.items x o) $
    rewrite ! 1 (λ (k : ℕ). ‵ (froom (room_of (R V) (64 - k)) b (n * s + o + s))) (sym more) refl $
    rewrite ! 1 (λ (k : ℕ). ‵ (froom (room_of (R V) (64 - length new.items)) b k)) next refl $
    block_closed V Y ! tt new b o ref_block ref_offset at small (omega (arith, below, more)) $
    feq_i ! (List Val) vss.0 (vptr ref_block ref_offset ∷ []) are.0.0 $ fjoin3 ! $ nothing ! $ nothing ! $ fjoin ! $ nothing ! $ fjoin ! $ move ! (1 ∷ 0 ∷ []) $ fjoin ! $
    move ! (1 ∷ 2 ∷ []) $ join ! $ use0 𝓛 (raw (fact 𝓤 Grown)) (fact_i 𝓤 Grown (emp 𝓤) refl) $ use0 𝓛 (raw (fact 𝓤 (h.alloc ≡ h.alloc))) (fact_i 𝓤 (h.alloc ≡ h.alloc) (emp 𝓤) refl) $ join ! $ feq_i ! (List Val) (vunit ∷ []) (vunit ∷ []) refl $
    returns ! (look_at ! 0 refl) $ free_all ! refl $ keep ! (2 ∷ 3 ∷ 0 ∷ 1 ∷ []) $ by ! (leaves 𝓛 T hs c y vunit tt (new, (tt, (tt, tt))) (tt, (tt, (tt, tt)))))))))
