-- `release` gives the room back with the right to free it. Assumes `Logic`.
use Rattle.std.proofs.Common.{◌≡◌, ℕ, ◌+◌, ◌*◌, ◌<◌, ◌^◌, List, [], ◌∷◌, ◌++◌, refl, sym, subst, arith, zero-mul}
use mir.Syntax.{Fn, ty_unit}
use mir.Val.{Val, vptr, vunit, has_ty, WT}
use mir.MapTy.{inst_fn}
use base.Logic.{SProp, ent, id⊢}
use base.Fml.{Fml, Lft, Share, Incl-trans, ftrue, fsep, froom, flft}
use prog.Wp.{WpFn}
use types.Kit.{‵, raw, ◌⊛◌, later, given, await, learn, group, at_ret, ◌$◌, ◌∵◌, !, qed, by, move, keep, use1, split, join, rewrite, fsplit, fjoin, feq_i, suffices}
use types.Part.{whole, sub}
use types.Run.{stop, fld, lit, size_lit, align_word, unit_lit, of_opd, bin, and_then, no_more, first, blocks, exec, returns, enter}
use types.ByLocal.{alloc_all, pass_all, free_all, look_at, get, get_in, sets, lands_last, env}
use contract.Monad.{fact}
use contract.BorrowLft.{◌⊑◌}
use contract.Running.{tables, tables_of}
use sound.WpLaws.{fm_of}
use prog.Capped.{capped_fits}
use prog.Memory.{align, capped}
use lib.Dec.{T}
use denote.RawPtr.{block_ptr}
use denote.Triple.Call.{calls_at_last}
use denote.Builtin.{RefOf}
use denote.Exit.{yes, no}
use denote.RattleType.{owns}
use denote.Signature.{plain, types_at}
use denote.Steps.{heard, nothing}
use denote.Triple.Walked.{AllGo, Stays, stay_dropped, walk_of, Goes-dropped}
use Rattle.std.proofs.raw_atomic.Walks.{proved_at, leaves}
use Rattle.std.proofs.alloc.Calls.{Al, Gives, at_gives, Gives-goes, Gives-Gives}
use Rattle.std.proofs.alloc.Shapes.{after}
use Rattle.std.proofs.mem.Param.{El, R, el_x, elτ}
use Rattle.ir_arena.specs.Block.{room_of}
use Rattle.ir_arena.specs.contracts.raw.release as f
use Rattle.ir_arena.specs.contracts.raw.release.Key.{name as key}
use Rattle.ir_arena.proofs.BlockRows.{bytes}
use Rattle.ir_arena.proofs.Blocks.{Block, Handle, instance, block_val, room_after, right, room_size, room_align, block_had}
use Rattle.ir_arena.proofs.raw.release.Statement.{statement}
use Rattle.ir_arena.proofs.raw.release.Code as code

pub release_spec : {M : Type 1} → statement M
unfolding tables_of
release_spec 𝓤 𝓛 𝓜 𝓡 wired X W LX LW g d drops met gone =
    let V : El = record { row = X; laws = LX } in
    let Y : Al = record { row = W; laws = LW; g = g; d = d; drops = drops } in
    let B = Block V Y in
    let program : Fn = inst_fn (instance V Y) code.function in
    let N = f.ended X W g d drops in
    let c = f.clauses X W g d drops 𝓛 𝓜.mem 𝓡.returns in
    let 𝓣 = tables 𝓤 𝓛.H 𝓜 𝓡 𝓡.env in
    let handle = RefOf (0 ∷ []) tt (plain (λ _. Handle V Y)) (λ _. tt) in
    let hs : Stays N.signature.params N.kept = (stay_dropped (plain (λ _. B)) no, (stay_dropped handle yes, tt)) in
    let goes : AllGo 𝓛 3 N.signature.params N.kept hs = (Goes-dropped 𝓛 3 (plain (λ _. B)) no (λ κs x e. refl), (Goes-dropped 𝓛 3 handle yes (λ κs x e. refl), tt)) in
    proved_at 𝓛 N hs c 𝓜 𝓡 goes (key (instance V Y)) program (code.unfolded 𝓤 𝓛.H 𝓜 𝓡 wired (X, (W, tt)) d drops) (λ y are.
    let κs = y.0.0 in let qs = y.0.1 in let a = y.0.3 in let vss = y.0.4 in
    let Post : Val → SProp 𝓤 = (walk_of 𝓛 N hs c).post y in
    let h : B.Denot = a.0 in let handle_at : ℕ × ℕ = a.1.0.ref_ptr in let owner : W.Denot = a.1.0.now in
    let κ : Lft = κs.0 in let q : Share = qs.0 in
    let s : ℕ = bytes V in let al : ℕ = capped (align (elτ V)) in
    let tokens : Fml = fsep (flft κs.1.0 qs.1.0) (fsep (flft κs.1.1.0 qs.1.1.0) ftrue) in
    let Run : List Val → SProp 𝓤 = λ ws. WpFn 𝓤 𝓛.H 𝓣.C 𝓣.Λ program ws Post in
    qed 𝓛 (((‵ (flft κ q) ⊛ ‵ tokens) ⊛ ‵ (owns (types_at N.signature.params κs) a vss)) ∷ raw (fact 𝓤 _) ∷ raw (fact 𝓤 (κs.1.1.0 ⊑ W.lives)) ∷ raw (fact 𝓤 (h.alloc ≡ owner)) ∷ raw (fact 𝓤 (h.items ≡ [])) ∷ []) ∵
    keep ! (2 ∷ 3 ∷ 4 ∷ 0 ∷ []) $ heard ! (κs.1.1.0 ⊑ W.lives) (λ inside. heard ! (h.alloc ≡ owner) (λ same. heard ! (h.items ≡ []) (λ none.
    split ! $ split ! $ move ! (2 ∷ []) $ fsplit ! $ move ! (1 ∷ []) $ fsplit ! $ fsplit ! $ move ! (3 ∷ []) $
    block_had V Y ! h vss.0 (λ b o at is small few.
    -- [the values; the room; the right; the reference's value; the handle; nothing; the token; the other tokens]
    let room_fits : 64 * s < 2 ^ 64 = omega arith in let size_fits : s < 2 ^ 64 = omega arith in
    let start : 0 * s + o ≡ o = omega (arith, zero-mul s) in
    let passed : List Val = block_val (block_ptr b o) ∷ vptr handle_at.0 handle_at.1 ∷ [] in
    rewrite ! 1 (λ (xs : List (el_x V)). ‵ (room_after V Y xs b o)) none refl $
    rewrite ! 1 (λ (k : ℕ). ‵ (froom (room_of (R V) 64) b k)) start refl $
    rewrite ! 2 (λ (u : W.Denot). ‵ (right V Y u b o)) same refl $ keep ! (1 ∷ 2 ∷ 4 ∷ 6 ∷ 7 ∷ []) $
    suffices ! (Run passed) (subst (λ (ws : List Val). ent 𝓤 (Run passed) (Run ws)) (sym (λ i. is i ++ (are.1.0.0 i ++ []))) (id⊢ 𝓤 (Run passed))) $
    enter ! 𝓣.C 𝓣.Λ program passed Post $ alloc_all ! (λ l. pass_all ! refl ((tt, (tt, (tt, tt))), ((tt, tt), tt)) $
    let locals = env program.locals l in
    let Asks = Gives Y 𝓛 𝓜.mem 𝓡.returns in
    let w : Asks.Ghost = at_gives Y 𝓛 𝓜.mem 𝓡.returns κ q handle_at owner b o (64 * s) al (room_of (R V) 64) in
    sets ! (of_opd ! (get_in ! (fld ! refl (stop !)) (sub ! 0 refl (whole !)))) refl (tt, tt) $
    first ! $ blocks ! $ sets ! (of_opd ! (get ! refl)) refl (tt, tt) $
    sets ! (bin ! (lit ! tt) (size_lit ! (record { fits = size_fits })) (record { fits = room_fits })) refl (tt, record { fits = room_fits }) $
    group ! 4 $ use1 𝓛 (raw (Asks.pre w)) (Gives-goes Y 𝓛 𝓜.mem 𝓡.returns κ q handle_at owner (Incl-trans y.0.2.0 inside) b o (64 * s) al (room_of (R V) 64) (room_size V Y room_fits) (room_align V Y) room_fits (capped_fits (align (elτ V)))) $
    calls_at_last ! (fm_of 𝓤 𝓛.H 𝓛.laws (tables_of 𝓤 𝓛.H 𝓜 𝓣)) Asks (met.deallocate drops) w (and_then ! (get ! refl) (and_then ! (get ! refl) (and_then ! (get ! refl) (and_then ! (align_word !) (no_more !))))) (λ u.
    use1 𝓛 (later (given (u ≡ vunit) (‵ (flft κ q)))) (Gives-Gives Y 𝓛 𝓜.mem 𝓡.returns κ q handle_at owner b o (64 * s) al (room_of (R V) 64) u) $ await ! tt $ learn ! (λ over.
    lands_last ! refl (subst (λ (z : Val). T (has_ty ty_unit z) × WT z) (sym over) (tt, tt)) $
    exec ! 𝓣.C 𝓣.Λ locals (after 2 program.body) (at_ret locals Post) $ sets ! (of_opd ! (unit_lit !)) refl (tt, tt) $
    join ! $ nothing ! $ feq_i ! (List Val) (vunit ∷ []) (vunit ∷ []) refl $ nothing ! $ nothing ! $ fjoin ! $ nothing ! $ fjoin ! $
    returns ! (look_at ! 0 refl) $ free_all ! refl $ keep ! (3 ∷ 0 ∷ 1 ∷ 2 ∷ []) $ by ! (leaves 𝓛 N hs c y vunit tt (tt, (tt, tt)) (tt, (tt, tt)))))))))))
