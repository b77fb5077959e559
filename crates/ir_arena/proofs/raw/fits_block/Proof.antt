-- `fits_block` compares the bytes of one value. Assumes `Logic`.
use Rattle.std.proofs.Common.{◌≡◌, ℕ, ◌*◌, ◌<◌, ◌^◌, Bool, true, ltb, ltb-true, lt-ltb, ◌↔◌, lit<, refl, List, [], ◌∷◌, arith, w64}
use mir.Syntax.{Fn, Args, a_type}
use mir.Val.{Val, vbool, vint, Fits}
use mir.MapTy.{inst_fn}
use base.Logic.{SProp, emp, via, guard_i}
use base.Fml.{ftrue}
use prog.Memory.{capped}
use prog.Capped.{capped_is, capped_small}
use types.Kit.{‵, raw, ◌⊛◌, ◌$◌, ◌∵◌, !, qed, by, keep, use0, split, feq_i}
use types.Run.{size_word, bin, returns, enter}
use types.ByLocal.{alloc_all, pass_all, free_all, look_at, sets}
use contract.Monad.{fact, fact_i}
use contract.Running.{tables}
use denote.Param.{layouts}
use denote.Steps.{nothing}
use denote.Triple.Entry.{alive}
use denote.Triple.Walked.{walk_of}
use Rattle.std.proofs.raw_atomic.Walks.{proved, leaves}
use Rattle.std.proofs.mem.Param.{El, R}
use Rattle.ir_arena.specs.Block.{FitsBlock}
use Rattle.ir_arena.specs.contracts.raw.fits_block as f
use Rattle.ir_arena.specs.contracts.raw.fits_block.Key.{name as key}
use Rattle.ir_arena.proofs.BlockRows.{bytes}
use Rattle.ir_arena.proofs.raw.fits_block.Statement.{statement}
use Rattle.ir_arena.proofs.raw.fits_block.Code as code

-- a size below 2 ^ 57 is the one that the program sees
told : (n : ℕ) → ltb (capped n) 144115188075855872 ≡ true → 64 * n < 2 ^ 63
told n e =
    let low : capped n < 144115188075855872 = ltb-true (capped n) 144115188075855872 e in
    let small : n < 2 ^ 63 = capped_small n (omega arith) in
    let same : capped n ≡ n = capped_is n (omega arith) in
    omega arith

tells : (n : ℕ) → 64 * n < 2 ^ 63 → ltb (capped n) 144115188075855872 ≡ true
tells n small =
    let same : capped n ≡ n = capped_is n (omega arith) in
    lt-ltb (capped n) 144115188075855872 (omega arith)

pub fits_block_spec : {M : Type 1} → statement M
fits_block_spec 𝓤 𝓛 𝓜 𝓡 wired X L =
    let V : El = record { row = X; laws = L } in
    let args : Args = layouts (a_type ∷ []) (X, tt) in
    let program : Fn = inst_fn args code.function in
    let T = f.ended X in
    let c = f.clauses X 𝓛 𝓜.mem 𝓡.returns in
    let 𝓣 = tables 𝓤 𝓛.H 𝓜 𝓡 𝓡.env in
    proved 𝓛 T tt c 𝓜 𝓡 tt (key args) program (code.unfolded 𝓤 𝓛.H 𝓜 𝓡 wired (X, tt)) (λ κs. tt) (λ κs. tt) (λ κs qs bounds a g are.
    let y : (walk_of 𝓛 T tt c).Ghost = ((κs, qs, bounds, a, tt), g) in
    let Post : Val → SProp 𝓤 = (walk_of 𝓛 T tt c).post y in
    let limit : Val = vint w64 144115188075855872 in
    let answer : Bool = ltb (capped (bytes V)) 144115188075855872 in
    let Told : Type 0 = (answer ≡ true) ↔ FitsBlock (R V) in
    qed 𝓛 ((raw (alive 𝓛 T.signature κs qs) ⊛ ‵ ftrue) ∷ raw ((c κs a).requires g) ∷ []) ∵ split ! $ keep ! (0 ∷ []) $
    enter ! 𝓣.C 𝓣.Λ program [] Post $ alloc_all ! (λ l. pass_all ! refl tt $
    sets ! (bin ! (size_word !) (record { go = λ Kt h. via 𝓤 (Kt limit) h (guard_i 𝓤 (Fits w64 144115188075855872) (Kt limit) (record { fits = lit< tt })) }) tt) refl (tt, tt) $
    use0 𝓛 (raw (fact 𝓤 Told)) (fact_i 𝓤 Told (emp 𝓤) (told (bytes V), tells (bytes V))) $ feq_i ! (List Val) (vbool answer ∷ []) (vbool answer ∷ []) refl $ nothing ! $
    returns ! (look_at ! 0 refl) $ free_all ! refl $ keep ! (3 ∷ 0 ∷ 1 ∷ 2 ∷ []) $ by ! (leaves 𝓛 T tt c y (vbool answer) answer tt tt)))
