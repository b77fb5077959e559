-- What a reading that gives a trial, or a fault, tells of the bytes.
use Rattle.std.specs.Prelude.{◌≡◌, ℕ, Result, Ok, Err}
use Rattle.b3_trial.specs.Trials.{Trial, trial_of}
use Rattle.b3_trial.specs.declared.reading.Trial.{Trial as GivenTrial}
use Rattle.b3_trial.specs.declared.fault.TrialFault.{TrialFault}
use Rattle.b3_trial.specs.declared.fault.TrialFault.TheVariants.{Bad, NoMemory}

-- a fact of the line of a fault that is no want of memory
abbrev pub IfBad : TrialFault → (ℕ → Type 0) → Type 0
IfBad (Bad line) P = P line
IfBad NoMemory P = Unit {0}

-- a result is the wanted one, unless memory ran out
abbrev pub Gives : Result GivenTrial TrialFault → Result Trial TrialFault → Type 0
Gives (Ok made) wanted = wanted ≡ Ok (trial_of made)
Gives (Err (Bad line)) wanted = wanted ≡ Err (Bad line)
Gives (Err NoMemory) wanted = Unit {0}
