-- A run that has stopped stays, so what is seen of it once is seen from there on.
use Rattle.std.proofs.Common.{◌≡◌, ◌≢◌, ℕ, ◌≤◌, List, refl, sym, ap, ◌∙◌, arith}
use Rattle.b3_base.specs.Observed.{Answer, Observation}
use Rattle.b3_base.specs.declared.observation.Status.TheVariants.{Going}
use Rattle.b3_base.proofs.Run.{iterate-stays}
use Rattle.a64_run.specs.Agrees.{entry_of}
use Rattle.a64_run.specs.Ended.{EndedRunsAgree}
use Rattle.a64_run.specs.Machine.{Config, Entry, Runs, Stops, first, machine_run, machine_step, observe, run_of}

-- a run that shows that it doesn't go on stands still
stands_still : (e : Entry) (c : Config) → (observe e c).status ≢ Going → machine_step e c ≡ c
stands_still e (Runs s) over = absurd (over refl)
stands_still e (Stops seen) over = refl

-- and shows the same at each later step
shows_still : (e : Entry) (answers : List Answer) (j k : ℕ) → j ≤ k → (machine_run e answers j).status ≢ Going → machine_run e answers k ≡ machine_run e answers j
shows_still e answers j k later over =
    ap (observe e) (iterate-stays (machine_step e) j k (first e answers) later (stands_still e (run_of e answers j) over))

not_going : (x y : Observation) → x ≡ y → y.status ≢ Going → x.status ≢ Going
not_going x y same over is = over (ap (λ (seen : Observation). seen.status) (sym same) ∙ is)

pub ended_runs_agree : EndedRunsAgree
ended_runs_agree p o symbol frame agrees m places answers ranged n over defined k late =
    let follows = (agrees.runs m answers places ranged).alike tt n (λ choice. defined) in
    let e = entry_of o symbol frame m in
    let most = follows.most in
    shows_still e answers follows.steps k (omega arith) (not_going _ _ follows.same over) ∙ follows.same
