-- The code of a procedure in an object agrees with the procedure.
use Rattle.std.proofs.Common.{◌≡◌, ◌≢◌, ℕ, zero, suc, ◌+◌, ◌*◌, ◌/◌, ◌≤◌, List, [], ◌++◌, length, refl, sym, ap, ◌∙◌, subst, arith, div-le_self}
use Rattle.std.specs.Prelude.{All}
use Rattle.b3_base.specs.Observed.{Answer, Observation, Start}
use Rattle.b3_base.specs.Ranged.{IsRangedAnswer}
use Rattle.b3_base.specs.Run.{Follows, iterate}
use Rattle.b3_base.specs.declared.observation.Status.TheVariants.{Undefined}
use Rattle.b3_base.proofs.Run.{iterate-zero}
use Rattle.b3_ir.specs.Procedure.{Procedure}
use Rattle.b3_meaning.specs.Run as b3
use Rattle.air_ir.specs.Blocks as air
use Rattle.air_ir.specs.Run.{HasBlocksOf, air_run}
use Rattle.air_ir.specs.Run as run
use Rattle.air_ir.proofs.Same.{seen_same}
use Rattle.a64_run.specs.Agrees.{AgreesFrom, word_count}
use Rattle.a64_run.specs.Machine as machine
use Rattle.a64_run.specs.Machine.{Config, Entry, machine_run, machine_step, run_of}
use Rattle.a64_run.specs.Moments.{IsProper as IsMoment}
use Rattle.a64_run.specs.Placement.{start_of}
use Rattle.a64_emit.specs.Setting.{Setting}
use Rattle.a64_object.proofs.Following.{Followed, followed}
use Rattle.a64_object.proofs.Subject.{Subject, entry, frame_row, setting}
use Rattle.a64_object.proofs.Landing.{IsAlike, IsMomentOf}
use Rattle.a64_object.proofs.Blocks.{Lost, Serves, blocks, bound, follows, number, up}
use Rattle.a64_object.proofs.Beginning.{entry_step}

module _ (p : Procedure) (x : Subject) (serves : Serves x) (answers : List Answer) (ranged : All IsRangedAnswer answers) where
  abbrev z : Setting
  z = setting x

  abbrev e : Entry
  e = entry x

  abbrev start : Start
  start = start_of x.object (frame_row x) x.start

  module _ (count : length x.air.blocks ≡ length p.blocks + 1) (size : word_count x.symbol ≡ length x.text.words)
      (same : run.SameAtEach {J = Unit {0}} (λ _. b3.b3_run p start answers) (air_run x.air start answers)) where
    abbrev FollowedBy : ℕ → Type 0
    FollowedBy n = Followed (up x) (machine_step e) (IsAlike x) (IsMomentOf x) (Lost x) (number x) (blocks x) (bound x) (follows x serves)
        (run.first z.start answers) (machine.first e answers) (entry_step x serves answers ranged).0 (entry_step x serves answers ranged).1 n

    it_follows : (n : ℕ) → 1 ≤ n → FollowedBy n
    it_follows n some = followed (up x) (machine_step e) (IsAlike x) (IsMomentOf x) (Lost x) (number x) (blocks x) (bound x) (follows x serves)
        (run.first z.start answers) (machine.first e answers) (entry_step x serves answers ranged).0 (entry_step x serves answers ranged).1 n some

    -- what is seen of related configurations is the same
    alike_seen : (a : air.Config) (c : Config) → IsAlike x a c → (run.observe a).status ≢ Undefined → machine.observe e c ≡ run.observe a
    alike_seen (air.At b s) c alike defined = rw (alike.4, alike.5.memory) refl
    alike_seen (air.Stopped seen) c alike defined = rw alike refl
    alike_seen air.Lost c alike defined = absurd (defined refl)

    proper_by : (a : air.Config) (c : Config) → (a ≡ air.Lost → ⊥) → IsMomentOf x a c → IsMoment e c
    proper_by (air.At b s) c kept proper = proper
    proper_by (air.Stopped seen) c kept proper = proper
    proper_by air.Lost c kept proper = absurd (kept refl)

    AlikeAt : ℕ → Type 0
    AlikeAt n = Follows {J = Unit {0}} {K = Unit {0}} (λ _. b3.b3_run p start answers) (λ _. machine_run e answers)
        (λ _ moment. IsMoment e (run_of e answers moment)) (length p.blocks) (2 * word_count x.symbol) tt n

    alike_at : (n : ℕ) → (b3.b3_run p start answers n).status ≢ Undefined → AlikeAt n
    unfolding AlikeAt
    alike_at zero defined = record {
      choice = tt;
      steps = 0;
      least = div-le_self 0 (length p.blocks);
      most = omega arith;
      same = ap (machine.observe e) (iterate-zero (machine_step e) (machine.first e answers))
          ∙ sym (ap b3.observe (iterate-zero (b3.block_step p start) (b3.first start answers)));
      proper = λ moment below. absurd (omega arith);
    }
    alike_at (suc n) defined =
        let f = it_follows (suc n) (omega arith) in
        let one = same.alike (f.words ++ []) (suc n) (λ choice. defined) in
        let ran : run.observe f.next ≡ b3.b3_run p start answers (suc n) =
        ap (λ (r : air.Config × List ℕ). run.observe r.0) (sym (f.is []))
        ∙ seen_same (λ _. b3.b3_run p start answers) (air_run x.air start answers) (f.words ++ []) (suc n) one in
        let found : (run.observe f.next).status ≢ Undefined = λ lost. defined (ap (λ (o : Observation). o.status) (sym ran) ∙ lost) in
        let kept : f.next ≡ air.Lost → ⊥ = λ lost. found (ap (λ (a : air.Config). (run.observe a).status) lost) in
        record {
          choice = tt;
          steps = f.steps;
          least = subst (λ b. suc n / b ≤ f.steps) (omega (arith, count)) f.least;
          most = subst (λ w. f.steps ≤ suc n * (2 * w)) (sym size) f.most;
          same = alike_seen f.next (iterate (machine_step e) f.steps (machine.first e answers)) f.related found ∙ ran;
          proper = λ moment below.
              let passes = f.proper moment below in
              proper_by passes.0 (iterate (machine_step e) moment (machine.first e answers)) (λ lost. kept (passes.2 lost)) passes.1;
        }

    pub runs_alike : AgreesFrom p x.object x.symbol (frame_row x) x.start answers
    unfolding AlikeAt
    runs_alike = record { alike = λ junk n defined. alike_at n (defined tt) }
