-- `allocate` takes the room and the right to free it. Assumes `Logic`.
use Rattle.std.proofs.Common.{true, false, lit<, ◌≡◌, ℕ, ◌+◌, ◌*◌, ◌<◌, ◌^◌, List, [], ◌∷◌, refl, arith, zero-mul}
use mir.Syntax.{Fn, Body, named}
use mir.Val.{Val, vptr, vstruct, vcons, vnil, WT}
use mir.MapTy.{inst_fn}
use base.Logic.{SProp, emp}
use base.Fml.{Fml, Lft, Share, Incl-trans, ftrue, fsep, froom, flft}
use prog.Wp.{Wp, after_seq, at_return}
use types.Kit.{‵, raw, ◌⊛◌, later, await, any_q, at_ret, ◌$◌, ◌∵◌, !, qed, by, move, keep, use0, use1, use2, split, join, rewrite, fsplit, fjoin}
use types.Part.{whole, agg}
use types.Match.{live, vrt, in_variant}
use types.Run.{stop, fld, lit, size_lit, switches_on, align_word, of_opd, bin, and_then, no_more, first, exec, returns, enter}
use types.ByLocal.{alloc_all, pass_all, free_all, look_at, get, get_in, get_tag, sets, sets_last, lands_as, env}
use contract.Monad.{fact, fact_i}
use contract.BorrowLft.{◌⊑◌}
use contract.Running.{tables, tables_of}
use sound.WpLaws.{fm_of}
use prog.Capped.{capped_fits}
use prog.Memory.{align, capped}
use denote.RawPtr.{block_ptr}
use denote.Triple.Call.{calls_at}
use denote.Builtin.{RefOf}
use denote.Ref.{shr_vals, shr_Tells}
use denote.Shadow.{makes_shadow}
use denote.Exit.{yes}
use denote.RattleType.{owns}
use denote.Signature.{plain, types_at}
use denote.Steps.{heard, nothing}
use denote.Triple.Walked.{AllGo, Stays, stay_dropped, walk_of, Goes-dropped}
use Rattle.std.proofs.raw_atomic.Walks.{proved, leaves}
use Rattle.std.proofs.alloc.Calls.{Al, Answer-typed, Answered, Takes, at_takes, Takes-goes, Takes-gives, answers}
use Rattle.std.proofs.alloc.Shapes.{after, head, arm_body}
use Rattle.std.proofs.mem.Param.{El, R, elτ}
use Rattle.std.proofs.ResultValues.{ok_of, err_of}
use Rattle.std.specs.Prelude.{IfOk, Ok, Err}
use Rattle.std.specs.contracts.result.Result as outcome
use Rattle.std.specs.contracts.alloc.AllocError as refusal
use Rattle.ir_arena.specs.Block.{FitsBlock, room_of}
use Rattle.ir_arena.specs.contracts.raw.allocate as f
use Rattle.ir_arena.specs.contracts.raw.allocate.Key.{name as key}
use Rattle.ir_arena.proofs.BlockRows.{bytes}
use Rattle.ir_arena.proofs.Blocks.{Block, Handle, instance, block_val, room_size, room_align, block_made}
use Rattle.ir_arena.proofs.raw.allocate.Statement.{statement}
use Rattle.ir_arena.proofs.raw.allocate.Code as code

pub allocate_spec : {M : Type 1} → statement M
unfolding tables_of
allocate_spec 𝓤 𝓛 𝓜 𝓡 wired X W LX LW g d drops met gone =
    let V : El = record { row = X; laws = LX } in
    let Y : Al = record { row = W; laws = LW; g = g; d = d; drops = drops } in
    let B = Block V Y in let Out = outcome.the_row B refusal.the_row in
    let program : Fn = inst_fn (instance V Y) code.function in
    let N = f.ended X W g d drops in
    let c = f.clauses X W g d drops 𝓛 𝓜.mem 𝓡.returns in
    let 𝓣 = tables 𝓤 𝓛.H 𝓜 𝓡 𝓡.env in
    let handle = RefOf (0 ∷ []) tt (plain (λ _. Handle V Y)) (λ _. tt) in
    let hs : Stays N.signature.params N.kept = (stay_dropped handle yes, tt) in
    let goes : AllGo 𝓛 3 N.signature.params N.kept hs = (Goes-dropped 𝓛 3 handle yes (λ κs x e. refl), tt) in
    proved 𝓛 N hs c 𝓜 𝓡 goes (key (instance V Y)) program (code.unfolded 𝓤 𝓛.H 𝓜 𝓡 wired (X, (W, tt)) d drops)
    (λ κs. (shr_vals, tt)) (λ κs. (shr_Tells (named 0) κs.0 (Handle V Y), tt)) (λ κs qs bounds a gh are.
    let handle_at : ℕ × ℕ = a.0.ref_ptr in let owner : W.Denot = a.0.now in
    let κ : Lft = κs.0 in let q : Share = qs.0 in
    let passed : List Val = vptr handle_at.0 handle_at.1 ∷ [] in
    let y : (walk_of 𝓛 N hs c).Ghost = ((κs, qs, bounds, a, (vptr handle_at.0 handle_at.1 ∷ [], tt)), gh) in
    let Post : Val → SProp 𝓤 = (walk_of 𝓛 N hs c).post y in
    let s : ℕ = bytes V in let al : ℕ = capped (align (elτ V)) in
    let Asked : Type 0 = FitsBlock (R V) in
    let Owned : Out.Denot → Type 0 = λ r. IfOk r (λ block. block.alloc ≡ owner) in
    let Empty : Out.Denot → Type 0 = λ r. IfOk r (λ block. block.items ≡ []) in
    let tokens : Fml = fsep (flft κs.1.0 qs.1.0) (fsep (flft κs.1.1.0 qs.1.1.0) ftrue) in
    qed 𝓛 (((‵ (flft κ q) ⊛ ‵ tokens) ⊛ ‵ (owns (types_at N.signature.params κs) a y.0.4)) ∷ raw (fact 𝓤 _) ∷ raw (fact 𝓤 (κs.1.1.0 ⊑ W.lives)) ∷ raw (fact 𝓤 Asked) ∷ []) ∵
    keep ! (2 ∷ 3 ∷ 0 ∷ []) $ heard ! (κs.1.1.0 ⊑ W.lives) (λ inside. heard ! Asked (λ small.
    let room_fits : 64 * s < 2 ^ 64 = omega arith in let size_fits : s < 2 ^ 64 = omega arith in
    split ! $ split ! $ move ! (2 ∷ []) $ fsplit ! $ fsplit ! $ keep ! (1 ∷ 3 ∷ 4 ∷ []) $
    enter ! 𝓣.C 𝓣.Λ program passed Post $ alloc_all ! (λ l. pass_all ! refl ((tt, tt), tt) $
    let locals = env program.locals l in
    let arms : Body = head (after 2 program.body) in
    let Then = any_q (after_seq 𝓤 𝓛.H (Wp 𝓤 𝓛.H 𝓣.C 𝓣.Λ locals (after 3 program.body) (at_return 𝓤 𝓛.H locals Post)) (at_return 𝓤 𝓛.H locals Post)) in
    let Asks = Takes Y 𝓛 𝓜.mem 𝓡.returns in
    let w : Asks.Ghost = at_takes Y 𝓛 𝓜.mem 𝓡.returns κ q handle_at owner (64 * s) al (room_of (R V) 64) in
    sets ! (bin ! (lit ! tt) (size_lit ! (record { fits = size_fits })) (record { fits = room_fits })) refl (tt, record { fits = room_fits }) $
    use2 𝓛 (raw (Asks.pre w)) (Takes-goes Y 𝓛 𝓜.mem 𝓡.returns κ q handle_at owner (Incl-trans bounds.0 inside) (64 * s) al (room_of (R V) 64) (room_size V Y room_fits) (room_align V Y) room_fits (capped_fits (align (elτ V)))) $
    calls_at ! (fm_of 𝓤 𝓛.H 𝓛.laws (tables_of 𝓤 𝓛.H 𝓜 𝓣)) Asks (met.allocate drops) w (and_then ! (get ! refl) (and_then ! (get ! refl) (and_then ! (align_word !) (no_more !)))) (λ u.
    use1 𝓛 (later (raw (Answered Y 𝓛 𝓜.mem 𝓡.returns owner (room_of (R V) 64) u) ⊛ ‵ (flft κ q))) (Takes-gives Y 𝓛 𝓜.mem 𝓡.returns κ q handle_at owner (64 * s) al (room_of (R V) 64) u) $ await ! tt $ split ! $
    move ! (1 ∷ 2 ∷ []) $ join ! $ nothing ! $ nothing ! $ fjoin ! $ move ! (2 ∷ []) $
    answers Y ! 𝓜.mem 𝓡.returns owner (room_of (R V) 64) u
    -- [the room; the right; what is left; the tokens]
    (λ b o e.
    let block : B.Denot = record { start = block_ptr b o; by = record {}; alloc = owner; items = [] } in
    let made : Val = block_val (block_ptr b o) in let result : Val = live 0 (vcons made vnil) in
    let good : WT result = (record { fits = lit< tt }, ((tt, (tt, tt)), tt)) in
    let start : o ≡ 0 * s + o = omega (arith, zero-mul s) in
    lands_as ! e refl (Answer-typed true b o) $ first ! $ switches_on ! (get_tag ! (vrt ! refl (fld ! refl (stop !))) (whole !)) $ exec ! 𝓣.C 𝓣.Λ locals (arm_body 0 arms) Then $
    sets ! (of_opd ! (get_in ! (vrt ! refl (fld ! refl (stop !))) (in_variant ! 0 0 refl refl (whole !)))) refl (tt, tt) $ sets ! (of_opd ! (get ! refl)) refl (tt, tt) $
    sets ! (agg ! (no_more !)) refl (tt, tt) $ sets ! (agg ! (and_then ! (get ! refl) (and_then ! (get ! refl) (no_more !)))) refl (tt, (tt, (tt, tt))) $
    sets_last ! (agg ! (and_then ! (lit ! tt) (and_then ! (get ! refl) (no_more !)))) refl (tt, good) $
    exec ! 𝓣.C 𝓣.Λ locals (after 3 program.body) (at_ret locals Post) $ sets ! (of_opd ! (get ! refl)) refl (tt, good) $
    rewrite ! 0 (λ (k : ℕ). ‵ (froom (room_of (R V) 64) b k)) start refl $ nothing ! $
    block_made V Y ! block b o refl small (lit< tt) $
    use1 𝓛 (‵ (Out.own_val (Ok block) (result ∷ []))) (ok_of 𝓛 B refusal.the_row block made) $
    use0 𝓛 (raw (fact 𝓤 (Empty (Ok block)))) (fact_i 𝓤 (Empty (Ok block)) (emp 𝓤) refl) $ use0 𝓛 (raw (fact 𝓤 (Owned (Ok block)))) (fact_i 𝓤 (Owned (Ok block)) (emp 𝓤) refl) $ join ! $
    returns ! (look_at ! 0 refl) $ free_all ! refl $ keep ! (3 ∷ 2 ∷ 1 ∷ 0 ∷ []) $ by ! (leaves 𝓛 N hs c y result (Ok block) (tt, tt) (tt, tt)))
    -- [what is left; the tokens]
    (λ e.
    let result : Val = live 1 (vcons (vstruct vnil) vnil) in
    let good : WT result = (record { fits = lit< tt }, (tt, tt)) in
    let Refused : Fml = refusal.the_row.own_val (record {}) (vstruct vnil ∷ []) in
    lands_as ! e refl (Answer-typed false 0 0) $ first ! $ switches_on ! (get_tag ! (vrt ! refl (fld ! refl (stop !))) (whole !)) $ exec ! 𝓣.C 𝓣.Λ locals (arm_body 1 arms) Then $
    sets ! (of_opd ! (get_in ! (vrt ! refl (fld ! refl (stop !))) (in_variant ! 1 0 refl refl (whole !)))) refl (tt, tt) $
    sets_last ! (agg ! (and_then ! (lit ! tt) (and_then ! (get ! refl) (no_more !)))) refl (tt, good) $
    exec ! 𝓣.C 𝓣.Λ locals (after 3 program.body) (at_ret locals Post) $ sets ! (of_opd ! (get ! refl)) refl (tt, good) $
    use0 𝓛 (‵ Refused) (makes_shadow 𝓛 Refused (λ uss. (tt, tt)) (tt, (refl, tt))) $
    use1 𝓛 (‵ (Out.own_val (Err (record {})) (result ∷ []))) (err_of 𝓛 B refusal.the_row (record {}) (vstruct vnil)) $
    use0 𝓛 (raw (fact 𝓤 (Empty (Err (record {}))))) (fact_i 𝓤 (Empty (Err (record {}))) (emp 𝓤) tt) $ use0 𝓛 (raw (fact 𝓤 (Owned (Err (record {}))))) (fact_i 𝓤 (Owned (Err (record {}))) (emp 𝓤) tt) $ join ! $
    returns ! (look_at ! 0 refl) $ free_all ! refl $ keep ! (3 ∷ 2 ∷ 1 ∷ 0 ∷ []) $ by ! (leaves 𝓛 N hs c y result (Err (record {})) (tt, tt) (tt, tt))))))))
